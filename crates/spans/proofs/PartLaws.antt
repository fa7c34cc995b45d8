-- A search between the ends of a set: for what is left of the sum, over the powers below the larger end; and the set written round what
-- that search left.
use mathlib.Core.Path.{◌≡◌, refl, ap, ap₂}
use mathlib.Core.List.{List, [], ◌∷◌}
use Prim.Native.Nat.{ℕ, suc, ◌+◌, ◌-◌, ◌<◌, ◌≤◌}
use native.Mathlib.Omega.{arith}
use lib.Bits.{bit_xor, xor_lt}
use lib.ListN.{length, get_or, set, drop_of_length-le}
use lib.Seq.{drop-cons, set_at}
use borrow.Rule.Slice.PartMut.{put_mid}
use Rattle.placing.specs.Placing.{Lookup, Ready}
use Rattle.spans.specs.Spans.{framed}

-- what is left of a sum once the ends are taken out of it
pub ready_left : {pow first : List ℕ} {period lo u : ℕ} → Ready pow first period lo u → (a b : ℕ) → a < length pow → b < length pow → {from : ℕ} → from ≤ length pow
    → Ready pow first period from (bit_xor u (bit_xor (get_or pow a 0) (get_or pow b 0)))
ready_left {pow} {u = u} r a b h k f =
    record {
      n = r.n;
      shape = r.shape;
      index = r.index;
      start = f;
      sum = xor_lt r.n u _ r.sum (xor_lt r.n (get_or pow a 0) (get_or pow b 0) (r.shape.inside a h) (r.shape.inside b k));
    }

pub left_known : {power : ℕ → ℕ} {pow first : List ℕ} {period : ℕ} → Lookup power pow first period → (u a b : ℕ) → a < length pow → b < length pow
    → bit_xor u (bit_xor (get_or pow a 0) (get_or pow b 0)) ≡ bit_xor u (bit_xor (power a) (power b))
left_known t u a b h k = ap₂ (λ (x y : ℕ). bit_xor u (bit_xor x y)) (t.known a h) (t.known b k)

-- the ends written round the middle
pub part_framed : (xs ys : List ℕ) (n a b : ℕ) → length xs ≡ n → length ys + 2 ≡ n
    → set (set (put_mid 1 (n - 1 - 1) xs ys) 0 a) (n - 1) b ≡ framed a b ys
part_framed [] ys n a b h k = absurd (omega arith)
part_framed (x ∷ rest) ys n a b h k =
    let m : n - 1 - 1 ≡ length ys = omega arith in
    let i : n - 1 ≡ suc (length ys) = omega arith in
    let z = drop-cons rest (length ys) 0 (omega arith) in
    let e : length rest ≤ suc (length ys) = omega arith in
    rw (m, i, z, drop_of_length-le rest e) (ap (λ (l : List ℕ). a ∷ l) (set_at ys (get_or rest (length ys) 0) [] b (length ys) refl))
