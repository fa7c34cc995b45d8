-- When a number is accepted as a generator, by each part of condition 1, and what is then known of it.
use mathlib.Core.Path.{◌≡◌, sym, ap₂, ◌∙◌}
use mathlib.Core.Bool.{Bool, true, false, true≢false, or-true}
use Prim.Native.Nat.{ℕ, ◌*◌, ◌/◌, ◌%◌, ◌^◌, ◌<◌, ◌≤◌}
use native.Mathlib.Omega.{arith}
use native.Mathlib.Nat.{one-mul, mod-eq_of_lt}
use borrow.Author.Tests.{lt-ltb, eq-eqb, ltb-true, ltb-false, eqb-true, eqb-false}
use lib.Dec.{eqb, ltb}
use lib.Pow.{pow_mono}
use Rattle.base.proofs.Cases.{by_test}
use Rattle.poly.specs.declared.Generator.{Generator}
use Rattle.poly.specs.Polynomial.{degree}
use Rattle.poly.specs.Generators.{least_degree, greatest_degree, unfit, generator_of}
use Rattle.poly.specs.Fit.{Fit}
use Rattle.poly.proofs.DegreeLaws.{degree_of, degree_unique}

even_unfit : (g : ℕ) → g % 2 ≡ 0 → unfit g ≡ true
unfolding unfit
even_unfit g h = simp (eq-eqb _ _ h)

narrow_unfit : (g : ℕ) → degree g < least_degree → unfit g ≡ true
unfolding unfit
narrow_unfit g h = simp (lt-ltb _ _ h, or-true)

wide_unfit : (g : ℕ) → greatest_degree < degree g → unfit g ≡ true
unfolding unfit
wide_unfit g h = simp (lt-ltb _ _ h, or-true)

-- a number that condition 1 lets pass is a generator that is fit
pub fit_accepted : (g : ℕ) → unfit g ≡ false → Fit (generator_of g)
fit_accepted g e =
    by_test (eqb (g % 2) 0) (λ t. absurd (true≢false (sym (even_unfit g (eqb-true _ _ t)) ∙ e)))
    (λ o.
    let odd : g % 2 ≡ 0 → ⊥ = eqb-false _ _ o in
    let d = degree_of g (positive odd) in
    record {
      divisor = record { low = d.0; high = d.1; odd = omega arith };
      least = by_test (ltb (degree g) least_degree) (λ t. absurd (true≢false (sym (narrow_unfit g (ltb-true _ _ t)) ∙ e))) (λ t. ltb-false _ _ t);
      most = by_test (ltb greatest_degree (degree g)) (λ t. absurd (true≢false (sym (wide_unfit g (ltb-true _ _ t)) ∙ e))) (λ t. ltb-false _ _ t);
    })
  where
    positive : (g % 2 ≡ 0 → ⊥) → 0 < g
    positive o = omega arith

-- the same of the generator that was made once condition 1 was tested
pub made_fit : (g : ℕ) {v : Generator} {t : Bool} → t ≡ unfit g → t ≡ false → v ≡ generator_of g → Fit v
made_fit g e h m = rw m (fit_accepted g (sym e ∙ h))

-- two that are fit and have one number are one
pub fit_by_number : (g h : Generator) → Fit g → Fit h → g.coefficients ≡ h.coefficients → g ≡ h
fit_by_number g h f k e =
    ap₂ (λ (x y : ℕ). record { coefficients = x; degree = y }) e
    (degree_unique h.coefficients g.degree h.degree (rw e at f.divisor.low) (rw e at f.divisor.high) k.divisor.low k.divisor.high)

-- ---- how small a generator is that is fit: what casts, shifts and products in the code rest on ----

pub record Small (g : Generator) : Type 0 where
  pub positive : 1 ≤ g.degree
  pub least : 8 ≤ 2 ^ g.degree
  pub most : 2 ^ g.degree ≤ 65536
  pub narrow : g.coefficients < 131072
  pub half : g.coefficients / 2 < 65536

pub fit_small : (g : Generator) → Fit g → Small g
fit_small g f =
    let most = pow_mono {i = g.degree} {j = greatest_degree} f.most in
    let least = pow_mono {i = least_degree} {j = g.degree} f.least in
    let high = f.divisor.high in
    record { positive = omega (arith, f.least); least = omega arith; most = omega arith; narrow = omega arith; half = omega arith }

-- the number of remainders, as a shift computes it
pub shift_one : (g : Generator) → Fit g → 1 * 2 ^ g.degree % 18446744073709551616 ≡ 2 ^ g.degree
shift_one g f = (ap_mod (one-mul (2 ^ g.degree))) ∙ mod-eq_of_lt (omega (arith, (fit_small g f).most))
  where
    ap_mod : {a b : ℕ} → a ≡ b → a % 18446744073709551616 ≡ b % 18446744073709551616
    ap_mod e = rw e
