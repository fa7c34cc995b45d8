-- The contracts of remainder, seal and repair settle every answer: two that meet a contract on one input are one. So however a
-- remainder is taken, by table or bit by bit, and however a list is searched, the calls answer and leave the same.
use mathlib.Core.Path.{◌≡◌, refl, sym, ap, ◌∙◌}
use mathlib.Core.List.{List, [], ◌∷◌}
use Prim.Native.Nat.{ℕ}
use Rattle.base.specs.Outcome.{Outcome}
use Rattle.base.specs.Answers.{answered, outcome}
use Rattle.base.specs.declared.Refusal.{Refusal}
use Rattle.base.proofs.RefusalLaws.{number_tells}
use Rattle.base.proofs.JudgeLaws.{refused_number}
use Rattle.std.specs.declared.result.Result.{Result}
use Rattle.std.specs.declared.result.Result.TheVariants.{Ok, Err}
use Rattle.packet.specs.declared.Crc.{Crc}
use Rattle.crc.specs.Calls.{remainder_call, seal_call, seal_packet}
use Rattle.patterns.specs.Patterns.{positions}
use Rattle.patterns.specs.declared.Pattern.{Pattern}
use Rattle.patterns.specs.declared.Pattern.TheVariants.{Empty, One, Two, Three, Four}
use Rattle.verdicts.specs.Verdicts.{Said, intact, repaired, several, nothing, said}
use Rattle.repair.specs.Calls.{Repair, repair_call, repair_output}
use Rattle.verdicts.specs.declared.Verdict.{Verdict}
use Rattle.verdicts.specs.declared.Verdict.TheVariants.{Intact, Repaired, Several, None}

-- an answer is known by its outcome, where a value is known by what is read of it
answer_tells : {A B : Type 0} (f : A → B) → ((a b : A) → f a ≡ f b → a ≡ b) → (a b : Result A Refusal) → answered f a ≡ answered f b → a ≡ b
answer_tells f known (Ok v) (Ok w) e = ap Ok (known v w cc)
answer_tells f known (Err r) (Err q) e = ap Err (number_tells r q (refused_number e))
answer_tells f known (Ok v) (Err q) e = cc
answer_tells f known (Err r) (Ok w) e = cc

-- a pattern is known by its positions, and a verdict by what it says
abbrev pattern_of : List ℕ → Pattern
pattern_of [] = Empty
pattern_of (a ∷ []) = One a
pattern_of (a ∷ b ∷ []) = Two a b
pattern_of (a ∷ b ∷ c ∷ []) = Three a b c
pattern_of (a ∷ b ∷ c ∷ d ∷ rest) = Four a b c d

pattern_back : (p : Pattern) → pattern_of (positions p) ≡ p
pattern_back Empty = refl
pattern_back (One a) = refl
pattern_back (Two a b) = refl
pattern_back (Three a b c) = refl
pattern_back (Four a b c d) = refl

abbrev verdict_of : Said → Verdict
verdict_of intact = Intact
verdict_of (repaired ps) = Repaired (pattern_of ps)
verdict_of (several n ps) = Several n (pattern_of ps)
verdict_of nothing = None

verdict_back : (v : Verdict) → verdict_of (said v) ≡ v
verdict_back Intact = refl
verdict_back (Repaired p) = ap Repaired (pattern_back p)
verdict_back (Several n p) = ap (Several n) (pattern_back p)
verdict_back None = refl

verdict_tells : (v w : Verdict) → said v ≡ said w → v ≡ w
verdict_tells v w e = sym (verdict_back v) ∙ ap verdict_of e ∙ verdict_back w

pub one_repair : (r : Repair) (a b : Result Verdict Refusal) (p q : List ℕ) → answered said a ≡ repair_call r → p ≡ repair_output r → answered said b ≡ repair_call r → q ≡ repair_output r
    → (a ≡ b) × (p ≡ q)
one_repair r a b p q before left after left_After = (answer_tells said verdict_tells a b (before ∙ sym after), left ∙ sym left_After)

module _ (c : Crc) (s : List ℕ) where
  pub one_remainder : (a b : Result ℕ Refusal) → outcome a ≡ remainder_call c s → outcome b ≡ remainder_call c s → a ≡ b
  one_remainder a b before after = answer_tells (λ v. v) (λ v w e. e) a b (before ∙ sym after)

  pub one_seal : (a b : Result (Unit {0}) Refusal) (p q : List ℕ) → outcome a ≡ seal_call c s → p ≡ seal_packet c s → outcome b ≡ seal_call c s → q ≡ seal_packet c s
      → (a ≡ b) × (p ≡ q)
  one_seal a b p q before left after left_After = (answer_tells (λ v. v) (λ v w e. e) a b (before ∙ sym after), left ∙ sym left_After)
