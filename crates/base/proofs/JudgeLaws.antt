-- What is known once a list of conditions has been judged, whatever is made of the judgement; and how a function that
-- tests them in their order comes to its judgement.
use mathlib.Core.Path.{◌≡◌, refl, sym, ap, ◌∙◌}
use mathlib.Core.Bool.{Bool, true, false, true≢false}
use mathlib.Core.List.{List, [], ◌∷◌}
use Prim.Native.Nat.{ℕ}
use native.Mathlib.Omega.{arith}
use borrow.Author.Tests.{eqb-true}
use lib.Dec.{eqb}
use Rattle.base.specs.Outcome.{Outcome, refused, accepted, Condition, pick, judge, earlier}
use Rattle.base.specs.Refusals.{number}
use Rattle.base.specs.Answers.{outcome}
use Rattle.base.specs.Judged.{judged}
use Rattle.base.specs.declared.Refusal.{Refusal}
use Rattle.std.specs.declared.result.Result.{Result}
use Rattle.std.specs.declared.result.Result.TheVariants.{Ok, Err}
use Rattle.base.proofs.Cases.{by_test}

-- whether the condition of number k applies, among some conditions
abbrev pub applied : ℕ → List Condition → Bool
applied k [] = false
applied k (t ∷ ts) = pick (eqb k t.number) t.applies (applied k ts)

module _ {A : Type 0} where
  pub refused_number : {k m : ℕ} → ◌≡◌ {A = Outcome A} (refused k) (refused m) → k ≡ m
  refused_number e = cc

  pub refused_not_accepted : {k : ℕ} {a : A} → ◌≡◌ {A = Outcome A} (refused k) (accepted a) → ⊥
  refused_not_accepted e = let z : ◌≡◌ {A = ℕ} 0 1 = cc in omega arith

  -- a refusal is the same refusal of whatever else is judged by these conditions
  pub judge_refused : {R : Type 0} (ts : List Condition) (a : A) (k : ℕ) (turned : ℕ → R) (done : R)
      → judge ts refused (accepted a) ≡ refused k → judge ts turned done ≡ turned k
  judge_refused [] a k turned done e = absurd (let z : ◌≡◌ {A = ℕ} 0 1 = cc in omega arith)
  judge_refused (t ∷ ts) a k turned done e =
      by_test t.applies
      (λ h. rw h (ap turned (refused_number (rw h at e))))
      (λ h. rw h (judge_refused ts a k turned done (rw h at e)))

  -- and so is an acceptance
  pub judge_accepted : {R : Type 0} (ts : List Condition) (a b : A) (turned : ℕ → R) (done : R)
      → judge ts refused (accepted a) ≡ accepted b → judge ts turned done ≡ done
  judge_accepted [] a b turned done e = refl
  judge_accepted (t ∷ ts) a b turned done e =
      by_test t.applies
      (λ h. absurd (refused_not_accepted (rw h at e)))
      (λ h. rw h (judge_accepted ts a b turned done (rw h at e)))

  pub judge_value : (ts : List Condition) (a b : A) → judge ts refused (accepted a) ≡ accepted b → a ≡ b
  judge_value [] a b e = cc
  judge_value (t ∷ ts) a b e =
      by_test t.applies
      (λ h. absurd (refused_not_accepted (rw h at e)))
      (λ h. judge_value ts a b (rw h at e))

  -- where a call is accepted, no condition applies
  pub judge_clear : (ts : List Condition) (a b : A) → judge ts refused (accepted a) ≡ accepted b → (k : ℕ) → applied k ts ≡ false
  judge_clear [] a b e k = refl
  judge_clear (t ∷ ts) a b e k =
      by_test t.applies
      (λ h. absurd (refused_not_accepted (rw h at e)))
      (λ h. let rest = judge_clear ts a b (rw h at e) k in by_test (eqb k t.number) (λ u. rw (u, h)) (λ u. rw (u, rest)))

  -- a condition that applies refuses a call by its number, unless an earlier one does
  pub judge_applied : (k : ℕ) (ts : List Condition) (done : Outcome A) → applied k ts ≡ true → judge ts refused done ≡ judge (earlier k ts) refused (refused k)
  judge_applied k [] done e = absurd (true≢false (sym e))
  judge_applied k (t ∷ ts) done e =
      by_test (eqb k t.number)
      (λ u. let h : t.applies ≡ true = rw u at e in rw (u, h) (ap refused (sym (eqb-true k t.number u))))
      (λ u. let h : applied k ts ≡ true = rw u at e in rw u (ap (pick t.applies (refused t.number)) (judge_applied k ts done h)))

-- ---- the judgement r on conditions ts, by its case ----

module _ (ts : List Condition) {r : Result (Unit {0}) Refusal} (e : outcome r ≡ judged ts) where
  pub turned_down : {R : Type 0} {q : Refusal} → r ≡ Err q → (turned : ℕ → R) (done : R) → judge ts turned done ≡ turned (number q)
  turned_down h turned done = judge_refused ts tt _ turned done (sym e ∙ ap outcome h)

  pub let_through : {R : Type 0} → r ≡ Ok tt → (turned : ℕ → R) (done : R) → judge ts turned done ≡ done
  let_through h turned done = judge_accepted ts tt tt turned done (sym e ∙ ap outcome h)

  pub none_applies : r ≡ Ok tt → (k : ℕ) → applied k ts ≡ false
  none_applies h = judge_clear ts tt tt (sym e ∙ ap outcome h)

-- ---- conditions tested one after the other: x is the answer of a test, and t the condition that it decides ----

-- those of ts that are left to test, once the ones before them were found not to apply
pub data Untested (ts : List Condition) : List Condition → Type 0 where
  all : {rest : List Condition} → ts ≡ rest → Untested ts rest
  but : {t : Condition} {rest : List Condition} {x : Bool} → Untested ts (t ∷ rest) → x ≡ t.applies → x ≡ false → Untested ts rest

judge_untested : {ts rest : List Condition} → Untested ts rest → judged ts ≡ judged rest
judge_untested (all e) = ap judged e
judge_untested (but u e h) = judge_untested u ∙ rw (← e, h)

-- the first that applies decides
pub stops : {ts : List Condition} {t : Condition} {rest : List Condition} {x : Bool} → Untested ts (t ∷ rest) → x ≡ t.applies → x ≡ true
    → refused t.number ≡ judged ts
stops u e h = sym (judge_untested u ∙ rw (← e, h))

-- and where none does, the call goes on
pub goes_on : {ts : List Condition} → Untested ts [] → accepted tt ≡ judged ts
goes_on u = sym (judge_untested u)
