-- Sets of one position or none: their spans are 0, so that the list's order is that of their positions.
use mathlib.Core.Path.{◌≡◌, sym, ◌∙◌}
use mathlib.Core.Bool.{Bool, true}
use mathlib.Core.List.{List}
use Prim.Native.Nat.{ℕ, ◌<◌}
use native.Mathlib.Omega.{arith}
use lib.ListN.{length}
use Rattle.patterns.specs.Order.{lower, before}
use Rattle.patterns.proofs.OrderLaws.{as_wide_before}
use Rattle.patterns.proofs.CompareLaws.{span_few}
use Rattle.placing.specs.Placing.{first_from, first_after, answer}
use Rattle.spans.specs.Spans.{Finds, Summing, Behind}
use Rattle.spans.proofs.FindLaws.{finds_same, finds_by, first_finds, after_finds}

few_before : (p q : List ℕ) → length p ≡ length q → length p < 2 → before p q ≡ lower p q
few_before p q e h = as_wide_before p q e (span_few p h ∙ sym (span_few q (omega arith)))

module _ (power : ℕ → ℕ) (l : ℕ) where
  pub few_finds : (k u : ℕ) → k < 2 → (r : Bool) (ps : List ℕ) → answer r ps ≡ first_from power l k 0 u → Finds before (Summing power l k 0 u) r ps
  few_finds k u h r ps e =
      finds_by lower before (Summing power l k 0 u) r ps (λ a b m n. few_before a b (m.counts ∙ sym n.counts) (omega (arith, m.counts)))
      (first_finds power l k 0 u (omega arith) r ps e)

  pub few_after : (u : ℕ) (ps : List ℕ) → length ps < 2 → (r : Bool) (ys : List ℕ) → answer r ys ≡ first_after power l ps u
      → Finds before (Behind (Summing power l (length ps) 0 u) ps) r ys
  few_after u ps h r ys e =
      finds_by lower before (Behind (Summing power l (length ps) 0 u) ps) r ys (λ a b m n. few_before a b (m.0.counts ∙ sym n.0.counts) (omega (arith, m.0.counts)))
      (finds_same lower (λ x. Summing power l (length ps) 0 u x × (lower ps x ≡ true)) (Behind (Summing power l (length ps) 0 u) ps) r ys
      (λ q. (λ m. (m.0, few_before ps q (sym m.0.counts) h ∙ m.1), λ m. (m.0, sym (few_before ps q (sym m.0.counts) h) ∙ m.1)))
      (after_finds power l u ps r ys e))
