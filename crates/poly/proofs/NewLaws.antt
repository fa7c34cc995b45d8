-- What is known of a generator that `Generator::new` made.
use mathlib.Core.Path.{◌≡◌, sym}
use mathlib.Core.List.{[], ◌∷◌}
use Prim.Native.Nat.{ℕ}
use Rattle.base.specs.Outcome.{Outcome, accepted, when}
use Rattle.base.proofs.JudgeLaws.{judge_clear, judge_value}
use Rattle.poly.specs.declared.Generator.{Generator}
use Rattle.poly.specs.Generators.{unfit, generator_of, constructed}
use Rattle.poly.specs.Fit.{Fit}
use Rattle.poly.proofs.GeneratorLaws.{fit_accepted}

pub new_fit : (n : ℕ) {g : Generator} → ◌≡◌ {A = Outcome Generator} (accepted g) (constructed n) → Fit g
new_fit n {g} e =
    let ts = when 1 (unfit n) ∷ [] in
    rw (sym (judge_value ts (generator_of n) g (sym e))) (fit_accepted n (judge_clear ts (generator_of n) g (sym e) 1))
