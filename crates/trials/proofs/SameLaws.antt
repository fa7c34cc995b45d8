-- Two lists are the same just if they are equal, and just if `==` says so.
use mathlib.Core.Path.{◌≡◌, refl, sym, ap, ap₂}
use mathlib.Core.Bool.{Bool, true, false, true≢false, ◌&&◌}
use mathlib.Core.List.{List, [], ◌∷◌}
use Prim.Native.Nat.{ℕ}
use borrow.Author.Tests.{eq-eqb, eqb-true}
use lib.Dec.{eqb}
use lib.Pointwise.{pointwise}
use Rattle.base.proofs.Cases.{by_test}
use Rattle.trials.specs.Trials.{same}

pub same_true : (p q : List ℕ) → same p q ≡ true → p ≡ q
unfolding same
same_true [] [] e = refl
same_true [] (b ∷ q) e = absurd (true≢false (sym e))
same_true (a ∷ p) [] e = absurd (true≢false (sym e))
same_true (a ∷ p) (b ∷ q) e =
    by_test (eqb a b) (λ h. ap₂ ◌∷◌ (eqb-true a b h) (same_true p q (rw h at e))) (λ h. absurd (true≢false (sym (rw h at e))))

same_itself : (p : List ℕ) → same p p ≡ true
unfolding same
same_itself [] = refl
same_itself (a ∷ p) = rw (eq-eqb a a refl) (same_itself p)

pub true_same : (p q : List ℕ) → p ≡ q → same p q ≡ true
true_same p q e = rw e (same_itself q)

pub same_false : (p q : List ℕ) → (p ≡ q → ⊥) → same p q ≡ false
same_false p q h = by_test (same p q) (λ e. absurd (h (same_true p q e))) (λ e. e)

pub pointwise_same : (p q : List ℕ) → pointwise eqb p q ≡ same p q
unfolding same
pointwise_same [] [] = refl
pointwise_same [] (b ∷ q) = refl
pointwise_same (a ∷ p) [] = refl
pointwise_same (a ∷ p) (b ∷ q) = ap (λ (t : Bool). eqb a b && t) (pointwise_same p q)
