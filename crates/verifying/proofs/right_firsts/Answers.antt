-- `right_firsts` joins the three tests, which RuleLaws shows to hold of exactly the right table.
use mathlib.Core.Path.{◌≡◌, sym, ◌∙◌}
use mathlib.Core.Bool.{Bool, true, false, true≢false}
use mathlib.Core.List.{List}
use mathlib.Core.Logic.{◌↔◌}
use Prim.Native.Nat.{ℕ, ◌/◌, ◌<◌}
use native.Mathlib.Omega.{arith}
use lib.ListN.{get_or}
use Rattle.poly.specs.declared.Generator.{Generator}
use Rattle.tables.specs.Lent.{Lent}
use Rattle.tables.specs.Tables.{first_table, same}
use Rattle.poly.proofs.GeneratorLaws.{fit_small}
use Rattle.tables.proofs.TableLaws.{same_answer}
use Rattle.verifying.specs.Rule.{EvenRuled, OddRuled}
use Rattle.verifying.proofs.RuleLaws.{first_rules}
use Rattle.verifying.proofs.right_firsts.Goals as goal

-- an answer that is true exactly when all three tests hold
by_rules : (d : Generator) (l : List ℕ) (r : Bool) → Lent d l → ((i : ℕ) → get_or l i 0 < 65536)
    → (r ≡ true) ↔ (EvenRuled l × OddRuled (d.coefficients / 2) l × (get_or l 1 0 ≡ 0)) → r ≡ same l (first_table d.degree d.coefficients)
by_rules d l r lent fits tests =
    let rules = first_rules d.degree d.coefficients lent.fit.divisor (fit_small d lent.fit).positive lent.fit.most l lent.full fits in
    same_answer r l (first_table d.degree d.coefficients) (λ t. rules.1 (tests.0 t)) (λ h. tests.1 (rules.0 h))

pub bounds-firsts-1 : goal.bounds-firsts-1
bounds-firsts-1 c = omega (arith, c.requires.full, fit_small c.args.g c.requires.fit)

pub returns-then-firsts-ne0 : goal.returns-then-firsts-ne0
returns-then-firsts-ne0 c =
    by_rules c.args.g c.args.firsts.now false c.requires (λ i. omega (arith, c.type_inv.firsts i))
    ((λ t. absurd (true≢false (sym t))), (λ h. absurd (c.if-firsts-ne0.true h.2)))

pub returns-then-right_evens : goal.returns-then-right_evens
returns-then-right_evens c =
    let even = c.right_evens.ensures in
    let odd = c.right_odds.ensures in
    by_rules c.args.g c.args.firsts.now c.right_odds.result c.requires (λ i. omega (arith, c.type_inv.firsts i))
    ((λ t. (even.0 c.if-right_evens.true, odd.0 t, c.if-firsts-ne0.false)), (λ h. odd.1 h.1))

pub returns-else-right_evens : goal.returns-else-right_evens
returns-else-right_evens c =
    by_rules c.args.g c.args.firsts.now c.right_evens.result c.requires (λ i. omega (arith, c.type_inv.firsts i))
    ((λ t. absurd (true≢false (sym t ∙ c.if-right_evens.false))), (λ h. c.right_evens.ensures.1 h.0))
