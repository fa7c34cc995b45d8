-- Conditions 12 and 13 by their parts, and what is known of a shape and of lengths where neither applies.
use mathlib.Core.Path.{◌≡◌, refl}
use mathlib.Core.Bool.{Bool, true, false, not, ◌||◌, true≢false}
use Prim.Native.Nat.{ℕ, ◌*◌, ◌≤◌}
use borrow.Author.Tests.{le-ltb, ltb-false, eq-eqb, eqb-true, not-false}
use lib.Dec.{eqb, ltb}
use Rattle.scatter.specs.Calls.{most_side, unfit_side, unfit_shape, unfit_lengths}

neither : (a b : Bool) → (a || b) ≡ false → (a ≡ false) × (b ≡ false)
neither true b e = absurd (true≢false e)
neither false b e = (refl, e)

-- ---- condition 12 ----

pub within_fits : (n : ℕ) → 1 ≤ n → n ≤ most_side → unfit_side n ≡ false
unfolding unfit_side
within_fits n a b = simp (le-ltb _ _ a, le-ltb _ _ b)

pub shape_fits : (r c : ℕ) → 1 ≤ r → r ≤ most_side → 1 ≤ c → c ≤ most_side → unfit_shape r c ≡ false
unfolding unfit_shape
shape_fits r c a b d e = rw (within_fits r a b, within_fits c d e)

pub fit_shape : (r c : ℕ) → unfit_shape r c ≡ false → (r ≤ most_side) × (c ≤ most_side)
unfolding unfit_shape unfit_side
fit_shape r c e =
    let sides = neither (unfit_side r) (unfit_side c) e in
    let rows = neither (ltb r 1) (ltb most_side r) sides.0 in
    let columns = neither (ltb c 1) (ltb most_side c) sides.1 in
    (ltb-false most_side r rows.1, ltb-false most_side c columns.1)

-- ---- condition 13 ----

not_differing : (a b : ℕ) → not (eqb a b) ≡ false → a ≡ b
not_differing a b e = eqb-true a b (not-false (eqb a b) e)

pub fit_lengths : (r c input output : ℕ) → unfit_lengths r c input output ≡ false → (input ≡ r * c) × (output ≡ r * c)
unfolding unfit_lengths
fit_lengths r c input output e =
    let both = neither (not (eqb input (r * c))) (not (eqb output (r * c))) e in
    (not_differing input (r * c) both.0, not_differing output (r * c) both.1)

pub lengths_fit : (r c input output : ℕ) → input ≡ r * c → output ≡ r * c → unfit_lengths r c input output ≡ false
unfolding unfit_lengths
lengths_fit r c input output e f = simp (eq-eqb _ _ e, eq-eqb _ _ f)
