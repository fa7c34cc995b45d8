-- What stands first, by an order, of all that meet something: for an equivalent something, and of the members of a list that ascends.
use mathlib.Core.Path.{◌≡◌, refl, sym}
use mathlib.Core.Bool.{Bool}
use mathlib.Core.Logic.{◌↔◌}
use mathlib.Core.List.{List, ◌∷◌}
use Rattle.base.specs.Lists.{In, here, there}
use Rattle.patterns.specs.StrictOrder.{Sorted, StrictTotal, Foremost}
use Rattle.patterns.proofs.SortedLaws.{sorted_head, never_both, differs}

module _ {A : Type 0} {R : A → A → Bool} where
  pub foremost_same : {P Q : A → Type 0} → ((b : A) → P b ↔ Q b) → {a : A} → Foremost R P a → Foremost R Q a
  foremost_same same {a} f = record { meets = (same a).0 f.meets; others_after = λ b q. f.others_after b ((same b).1 q) }

  -- of a list that ascends it is the first member, and no other
  pub first_foremost : {x : A} {xs : List A} → Sorted R (x ∷ xs) → Foremost R (λ a. In a (x ∷ xs)) x
  first_foremost sorted =
      record { meets = here refl; others_after = λ b i other. elim i [ here d ↦ absurd (other d) | there j ↦ sorted_head sorted b j ] }

  pub foremost_first : StrictTotal R → {x p : A} {xs : List A} → Sorted R (x ∷ xs) → Foremost R (λ a. In a (x ∷ xs)) p → x ≡ p
  foremost_first order {x} {p} sorted f =
      elim f.meets [
        | here d ↦ sym d
        | there i ↦ let h = sorted_head sorted p i in absurd (never_both order x p h (f.others_after x (here refl) (differs order h)))
      ]
