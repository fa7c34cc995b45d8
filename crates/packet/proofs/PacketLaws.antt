-- A packet's number and its bytes: each determines the other.
use mathlib.Core.Path.{◌≡◌, refl, sym, ap, ap₂, ◌∙◌}
use mathlib.Core.List.{List, [], ◌∷◌, ◌++◌}
use Prim.Native.Nat.{ℕ, zero, suc, ◌+◌, ◌*◌, ◌/◌, ◌%◌, ◌^◌, ◌<◌, ◌≤◌}
use native.Mathlib.Omega.{arith}
use native.Mathlib.Nat.{mod-one, pow-suc}
use lib.Arith.{mod-mul}
use lib.ListN.{length, get_or, take, length-append}
use lib.Seq.{take-suc, take-length}
use mathlib.Core.Bool.{true, false, true≢false, or-true}
use borrow.Author.Tests.{lt-ltb, le-leb, lt-leb}
use Rattle.base.proofs.Cases.{by_order}
use lib.Dec.{leb, ltb}
use Rattle.packet.specs.Packet.{Bytes, polynomial, polynomial_after, bytes_of, most_bits, unfit_length, unfit_values}

polynomial_after_snoc : (v : ℕ) (s : List ℕ) (b : ℕ) → polynomial_after v (s ++ (b ∷ [])) ≡ polynomial_after v s * 256 + b
unfolding polynomial_after
polynomial_after_snoc v [] b = refl
polynomial_after_snoc v (a ∷ s) b = polynomial_after_snoc (v * 256 + a) s b

pub after_nil : (v : ℕ) → polynomial_after v [] ≡ v
unfolding polynomial_after
after_nil v = refl

polynomial_nil : polynomial [] ≡ 0
unfolding polynomial
polynomial_nil = after_nil 0

pub polynomial_snoc : (s : List ℕ) (b : ℕ) → polynomial (s ++ (b ∷ [])) ≡ polynomial s * 256 + b
unfolding polynomial
polynomial_snoc s b = polynomial_after_snoc 0 s b

-- one byte more
pub after_take : (v : ℕ) (s : List ℕ) (i : ℕ) → i < length s → polynomial_after v (take (suc i) s) ≡ polynomial_after v (take i s) * 256 + get_or s i 0
after_take v s i h = ap (polynomial_after v) (take-suc s i 0 h) ∙ polynomial_after_snoc v (take i s) (get_or s i 0)

pub polynomial-take : (s : List ℕ) (i : ℕ) → i < length s → polynomial (take (suc i) s) ≡ polynomial (take i s) * 256 + get_or s i 0
unfolding polynomial
polynomial-take s i h = after_take 0 s i h

pub polynomial_two : (s : List ℕ) → 2 ≤ length s → polynomial (take 2 s) ≡ get_or s 0 0 * 256 + get_or s 1 0
polynomial_two s h = omega (arith, polynomial_nil, polynomial-take s 0 (omega arith), polynomial-take s 1 (omega arith))

pub length_bytes : (k v : ℕ) → length (bytes_of k v) ≡ k
unfolding bytes_of
length_bytes zero v = refl
length_bytes (suc k) v = simp length-append (omega (arith, length_bytes k (v / 256)))

pub bytes_suc : (k v : ℕ) → bytes_of (suc k) v ≡ bytes_of k (v / 256) ++ (v % 256 ∷ [])
unfolding bytes_of
bytes_suc k v = refl

pub pow_positive : (k : ℕ) → 0 < 256 ^ k
pow_positive zero = omega arith
pow_positive (suc k) = omega (arith, pow_positive k)

-- bytes, read as a number
pub polynomial_bytes : (k v : ℕ) → polynomial (bytes_of k v) ≡ v % 256 ^ k
unfolding bytes_of
polynomial_bytes zero v = polynomial_nil ∙ sym (mod-one v)
polynomial_bytes (suc k) v =
    polynomial_snoc (bytes_of k (v / 256)) (v % 256)
    ∙ ap (λ (x : ℕ). x * 256 + v % 256) (polynomial_bytes k (v / 256))
    ∙ sym (ap (λ (x : ℕ). v % x) (pow-suc 256 k) ∙ mod-mul v (pow_positive k) (omega arith))

pub bytes_take : (s : List ℕ) → Bytes s → (k : ℕ) → k ≤ length s → bytes_of k (polynomial (take k s)) ≡ take k s
unfolding bytes_of
bytes_take s b zero h = refl
bytes_take s b (suc k) h =
    let e = polynomial-take s k h in
    let hi : polynomial (take (suc k) s) / 256 ≡ polynomial (take k s) = omega (arith, b k) in
    let lo : polynomial (take (suc k) s) % 256 ≡ get_or s k 0 = omega (arith, b k) in
    ap₂ (λ (x : List ℕ) (y : ℕ). x ++ (y ∷ [])) (ap (bytes_of k) hi ∙ bytes_take s b k (omega arith)) lo ∙ sym (take-suc s k 0 h)

-- a number, written as bytes again
pub bytes_polynomial : (s : List ℕ) → Bytes s → bytes_of (length s) (polynomial s) ≡ s
bytes_polynomial s b =
    ap (λ (x : List ℕ). bytes_of (length s) (polynomial x)) (sym (take-length s)) ∙ bytes_take s b (length s) (omega arith) ∙ take-length s

-- ---- conditions 2 and 11

pub long_unfit : (n l : ℕ) → most_bits < l → unfit_length n l ≡ true
unfolding unfit_length
long_unfit n l h = simp (lt-ltb _ _ h, or-true)

pub short_unfit : (n l : ℕ) → l ≤ n → unfit_length n l ≡ true
unfolding unfit_length
short_unfit n l h = simp (le-leb _ _ h)

pub longer_unfit : (n l : ℕ) → n < l → unfit_length n l ≡ ltb most_bits l
unfolding unfit_length
longer_unfit n l h = simp (lt-leb _ _ h)

pub fit_length : (n l : ℕ) → unfit_length n l ≡ false → (n < l) × (l ≤ most_bits)
fit_length n l e =
    by_order n l
    (λ h. by_order most_bits l (λ k. absurd (true≢false (sym (long_unfit n l k) ∙ e))) (λ k. (h, k)))
    (λ h. absurd (true≢false (sym (short_unfit n l h) ∙ e)))

pub init_unfit : (n i f : ℕ) → 2 ^ n ≤ i → unfit_values n i f ≡ true
unfolding unfit_values
init_unfit n i f h = simp (le-leb _ _ h)

pub xorout_unfit : (n i f : ℕ) → i < 2 ^ n → unfit_values n i f ≡ leb (2 ^ n) f
unfolding unfit_values
xorout_unfit n i f h = simp (lt-leb _ _ h)

pub fit_values : (n i f : ℕ) → unfit_values n i f ≡ false → (i < 2 ^ n) × (f < 2 ^ n)
fit_values n i f e =
    by_order i (2 ^ n)
    (λ h. by_order f (2 ^ n) (λ k. (h, k)) (λ k. absurd (true≢false (sym (xorout_unfit n i f h ∙ le-leb _ _ k) ∙ e))))
    (λ h. absurd (true≢false (sym (init_unfit n i f h) ∙ e)))
