-- Flipping the positions at which two packets differ makes one from the other; and packets that agree from some position
-- on differ by a polynomial of smaller degree.
use mathlib.Core.Path.{◌≡◌, refl, sym, ap, ap₂, ◌∙◌}
use mathlib.Core.List.{List, ◌∷◌}
use Prim.Native.Nat.{ℕ, zero, suc, ◌+◌, ◌*◌, ◌/◌, ◌%◌, ◌^◌, ◌<◌, ◌≤◌}
use native.Mathlib.Omega.{arith}
use native.Mathlib.Nat.{mod-eq_of_lt, mod-one, div-one, div_self, zero-div, mul-one, zero-mul, add-mul, mul_assoc}
use native.Mathlib.Numerals.{add-one}
use borrow.Author.Tests.{eqb-true, eqb-false}
use lib.Bits.{bit_xor, differ, xor_shifted, xor_comm, xor_lt}
use lib.Dec.{eqb}
use lib.ListN.{length}
use lib.Pow.{pow_pos, pow-lt, mod-pow-add, shr-shr}
use Rattle.base.specs.Lists.{All, none, each, Ascending, ends, next}
use Rattle.base.proofs.Cases.{by_test, by_order}
use Rattle.base.proofs.ListLaws.{ascending_from, ascending_all}
use Rattle.base.proofs.XorLaws.{xor_bit, xor_other, xor_cancel, xor-ac}
use Rattle.poly.specs.Polynomial.{powers}
use Rattle.packet.specs.Packet.{Bytes, bits, polynomial, bytes_of, bit_at, flips, differing, difference}
use Rattle.packet.proofs.PacketLaws.{bytes_polynomial}
use Rattle.packet.proofs.FlipLaws.{polynomial_lt, byte_power, bit_coefficient, polynomial-flips, flips-length, flips_bytes}

-- ---- they are a set of positions of the packet

differing-ascending : (s t : List ℕ) (room from l : ℕ) → from + room ≤ l → Ascending l from (differing s t room from)
unfolding differing
differing-ascending s t zero from l h = ends
differing-ascending s t (suc room) from l h =
    let rest = differing-ascending s t room (suc from) l (omega arith) in
    let below : from < l = omega arith in
    let here : from ≤ from = omega arith in
    by_test (eqb (bit_at s from) (bit_at t from)) (λ e. rw e (ascending_from from (omega arith) rest)) (λ e. rw e (next here below rest))

pub difference-ascending : (s t : List ℕ) → Ascending (bits s) 0 (difference s t)
unfolding difference
difference-ascending s t = differing-ascending s t (bits s) 0 (bits s) (omega arith)

-- ---- their powers of x are the sum of the packets

-- the digits of d from `from` on, by the lowest
digits_suc : (d room from : ℕ) → d / 2 ^ from % 2 ^ suc room * 2 ^ from ≡ d / 2 ^ suc from % 2 ^ room * 2 ^ suc from + d / 2 ^ from % 2 * 2 ^ from
digits_suc d room from =
    let v : ℕ = d / 2 ^ from in
    let w : ℕ = d / 2 ^ suc from % 2 ^ room in
    let e : v % 2 ^ suc room ≡ v / 2 % 2 ^ room * 2 + v % 2 = ap (λ (x : ℕ). v % 2 ^ x) (sym (add-one room)) ∙ mod-pow-add v room 1 in
    let f : v / 2 ≡ d / 2 ^ suc from = shr-shr d from 1 ∙ ap (λ (x : ℕ). d / 2 ^ x) (add-one from) in
    let double : 2 * 2 ^ from ≡ 2 ^ suc from = omega arith in
    ap (λ (x : ℕ). x * 2 ^ from) (e ∙ ap (λ (x : ℕ). x % 2 ^ room * 2 + v % 2) f)
    ∙ add-mul (w * 2) (v % 2) (2 ^ from)
    ∙ ap (λ (x : ℕ). x + v % 2 * 2 ^ from) (mul_assoc w 2 (2 ^ from) ∙ ap (λ (x : ℕ). w * x) double)

differ_same : (x : ℕ) → differ x x ≡ 0
differ_same zero = refl
differ_same (suc x) = differ_same x

differ_other : (x y : ℕ) → x < 2 → y < 2 → (x ≡ y → ⊥) → differ x y ≡ 1
differ_other zero zero hx hy h = absurd (h refl)
differ_other zero (suc zero) hx hy h = refl
differ_other zero (suc (suc y)) hx hy h = absurd (omega arith)
differ_other (suc zero) zero hx hy h = refl
differ_other (suc zero) (suc zero) hx hy h = absurd (h refl)
differ_other (suc zero) (suc (suc y)) hx hy h = absurd (omega arith)
differ_other (suc (suc x)) y hx hy h = absurd (omega arith)

bit_lt : (s : List ℕ) (p : ℕ) → bit_at s p < 2
unfolding bit_at
bit_lt s p = omega arith

module _ (s t : List ℕ) (bs : Bytes s) (bt : Bytes t) (same : length s ≡ length t) where
  sum : ℕ
  sum = bit_xor (polynomial s) (polynomial t)

  -- a digit of the sum tells whether the bits differ
  digit : (p : ℕ) → p < bits s → sum / 2 ^ p % 2 ≡ differ (bit_at s p) (bit_at t p)
  unfolding sum
  digit p h =
      xor_bit (polynomial s) (polynomial t) p
      ∙ sym (ap₂ differ (bit_coefficient s p h bs) (bit_coefficient t p (omega arith) bt))

  differing-powers : (room from : ℕ) → from + room ≤ bits s → powers (differing s t room from) ≡ sum / 2 ^ from % 2 ^ room * 2 ^ from
  unfolding differing powers
  differing-powers zero from h = sym (ap (λ (x : ℕ). x * 2 ^ from) (mod-one (sum / 2 ^ from)) ∙ zero-mul (2 ^ from))
  differing-powers (suc room) from h =
      let ih = differing-powers room (suc from) (omega arith) in
      by_test (eqb (bit_at s from) (bit_at t from))
      (λ e.
      let zeroed : sum / 2 ^ from % 2 ≡ 0 =
      digit from (omega arith) ∙ ap (λ (x : ℕ). differ x (bit_at t from)) (eqb-true (bit_at s from) (bit_at t from) e) ∙ differ_same (bit_at t from) in
      rw e (ih ∙ sym (digits_suc sum room from ∙ rw zeroed (omega arith))))
      (λ e.
      let one : sum / 2 ^ from % 2 ≡ 1 =
      digit from (omega arith) ∙ differ_other (bit_at s from) (bit_at t from) (bit_lt s from) (bit_lt t from) (eqb-false (bit_at s from) (bit_at t from) e) in
      rw e
      (xor_comm (2 ^ from) (powers (differing s t room (suc from)))
      ∙ ap (λ (x : ℕ). bit_xor x (2 ^ from)) ih
      ∙ xor_shifted (sum / 2 ^ suc from % 2 ^ room) (suc from) (2 ^ from) (omega (arith, pow_pos from))
      ∙ sym (digits_suc sum room from ∙ rw one (omega arith))))

  pub difference-powers : powers (difference s t) ≡ bit_xor (polynomial s) (polynomial t)
  unfolding difference sum
  difference-powers =
      let e : 256 ^ length s ≡ 2 ^ bits s = byte_power (length s) in
      let hs : polynomial s < 2 ^ bits s = rw e at (polynomial_lt s bs) in
      let ht : polynomial t < 2 ^ bits s = rw (← same, e) at (polynomial_lt t bt) in
      let below : sum < 2 ^ bits s = xor_lt (bits s) (polynomial s) (polynomial t) hs ht in
      differing-powers (bits s) 0 (omega arith)
      ∙ mul-one (sum / 1 % 2 ^ bits s) ∙ ap (λ (x : ℕ). x % 2 ^ bits s) (div-one sum) ∙ mod-eq_of_lt below

  -- flipping the difference makes t of s
  pub flips-difference : flips s (difference s t) ≡ t
  unfolding sum
  flips-difference =
      let w = ascending_all (difference-ascending s t) in
      let e : polynomial (flips s (difference s t)) ≡ polynomial t =
      polynomial-flips s (difference s t) w bs ∙ ap (bit_xor (polynomial s)) difference-powers ∙ xor_cancel (polynomial s) (polynomial t) in
      sym (bytes_polynomial (flips s (difference s t)) (flips_bytes s (difference s t) w bs))
      ∙ ap₂ bytes_of (flips-length s (difference s t) ∙ same) e
      ∙ bytes_polynomial t bt

-- flipping a set of positions twice changes nothing
pub flips_twice : (t ps : List ℕ) → Bytes t → Ascending (bits t) 0 ps → flips (flips t ps) ps ≡ t
flips_twice t ps bt h =
    let w = ascending_all h in
    let bs = flips_bytes t ps w bt in
    let v : All (λ (p : ℕ). p < bits (flips t ps)) ps = rw (flips-length t ps) w in
    let e : polynomial (flips (flips t ps) ps) ≡ polynomial t =
    polynomial-flips (flips t ps) ps v bs ∙ ap (λ (x : ℕ). bit_xor x (powers ps)) (polynomial-flips t ps w bt) ∙ (simp xor-ac) in
    sym (bytes_polynomial (flips (flips t ps) ps) (flips_bytes (flips t ps) ps v bs))
    ∙ ap₂ bytes_of (flips-length (flips t ps) ps ∙ flips-length t ps) e
    ∙ bytes_polynomial t bt

-- ---- a set of positions is told by its powers of x

-- a position below the set is not in its sum
powers_clear : {l from : ℕ} {ps : List ℕ} (p : ℕ) → p < from → Ascending l from ps → powers ps / 2 ^ p % 2 ≡ 0
unfolding powers
powers_clear p h ends = ap (λ (x : ℕ). x % 2) (zero-div (2 ^ p))
powers_clear p h (next {p = q} {ps = qs} j k a) =
    ap (λ (x : ℕ). x / 2 ^ p % 2) (xor_comm (2 ^ q) (powers qs)) ∙ xor_other (powers qs) q p (λ e. omega arith) ∙ powers_clear p (omega arith) a

-- and the lowest one of the set is
powers-set : {l : ℕ} (p : ℕ) {ps : List ℕ} → Ascending l (suc p) ps → powers (p ∷ ps) / 2 ^ p % 2 ≡ 1
unfolding powers
powers-set p {ps} a =
    let one : 2 ^ p / 2 ^ p % 2 ≡ 1 = ap (λ (x : ℕ). x % 2) (div_self (pow_pos p)) in
    xor_bit (2 ^ p) (powers ps) p ∙ ap₂ differ one (powers_clear p (omega arith) a)

-- so a set of higher positions alone has another sum
powers_differ : {l p : ℕ} {ps qs : List ℕ} → Ascending l (suc p) ps → Ascending l (suc p) qs → powers (p ∷ ps) ≡ powers qs → ⊥
powers_differ {p = p} a b e = omega (arith, powers-set p a, powers_clear p (omega arith) b, ap (λ (x : ℕ). x / 2 ^ p % 2) e)

-- and no two sets have the same
powers_only : {l from to : ℕ} {ps qs : List ℕ} → Ascending l from ps → Ascending l to qs → powers ps ≡ powers qs → ps ≡ qs
unfolding powers
powers_only ends ends e = refl
powers_only ends (next j k b) e = absurd (powers_differ b ends (sym e))
powers_only (next j k a) ends e = absurd (powers_differ a ends e)
powers_only (next {p = p} {ps = ps} j k a) (next {p = q} {ps = qs} m n b) e =
    by_order p q (λ lower. absurd (powers_differ a (next lower n b) e))
    (λ from.
    by_order q p (λ lower. absurd (powers_differ b (next lower k a) (sym e)))
    (λ to.
    let same : p ≡ q = omega arith in
    ap₂ ◌∷◌ same
    (powers_only a b
    (sym (xor_cancel (2 ^ p) (powers ps)) ∙ ap₂ (λ (x y : ℕ). bit_xor (2 ^ x) y) same e ∙ xor_cancel (2 ^ q) (powers qs)))))

-- the bits that differ from a packet after a set of positions was flipped are that set
pub difference-flips : (s ps : List ℕ) → Bytes s → Ascending (bits s) 0 ps → difference s (flips s ps) ≡ ps
difference-flips s ps bs h =
    let w = ascending_all h in
    powers_only (difference-ascending s (flips s ps)) h
    (difference-powers s (flips s ps) bs (flips_bytes s ps w bs) (sym (flips-length s ps))
    ∙ ap (bit_xor (polynomial s)) (polynomial-flips s ps w bs) ∙ xor_cancel (polynomial s) (powers ps))

-- the same, counted from the packet that the flips made
pub flips_differ : (s ps : List ℕ) → Bytes s → Ascending (bits s) 0 ps → difference (flips s ps) s ≡ ps
flips_differ s ps bs h =
    ap (difference (flips s ps)) (sym (flips_twice s ps bs h))
    ∙ difference-flips (flips s ps) ps (flips_bytes s ps (ascending_all h) bs) (rw (flips-length s ps) h)

-- ---- packets that agree from position n on

powers_lt : (n : ℕ) {ps : List ℕ} → All (λ (p : ℕ). p < n) ps → powers ps < 2 ^ n
unfolding powers
powers_lt n none = pow_pos n
powers_lt n (each {x = p} {xs = ps} h hs) = xor_lt n (2 ^ p) (powers ps) (pow-lt {i = p} {j = n} h) (powers_lt n hs)

module _ (s t : List ℕ) (n : ℕ) (agree : (p : ℕ) → n ≤ p → p < bits s → bit_at s p ≡ bit_at t p) where
  differing_below : (room from : ℕ) → from + room ≤ bits s → All (λ (p : ℕ). p < n) (differing s t room from)
  unfolding differing
  differing_below zero from h = none
  differing_below (suc room) from h =
      let rest = differing_below room (suc from) (omega arith) in
      by_test (eqb (bit_at s from) (bit_at t from)) (λ e. rw e rest)
      (λ e.
      rw e
      (by_order from n (λ below. each below rest)
      (λ high. absurd (eqb-false (bit_at s from) (bit_at t from) e (agree from high (omega arith))))))

  pub agreeing_sum : Bytes s → Bytes t → length s ≡ length t → bit_xor (polynomial s) (polynomial t) < 2 ^ n
  unfolding difference
  agreeing_sum bs bt same = rw (← difference-powers s t bs bt same) (powers_lt n (differing_below (bits s) 0 (omega arith)))
