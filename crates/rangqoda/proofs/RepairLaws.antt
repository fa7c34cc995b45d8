-- A repair call is accepted only with room for its verdict, and is then the repair with the same arguments.
use mathlib.Core.Path.{◌≡◌, sym, ap, ap₂, ◌∙◌}
use mathlib.Core.List.{List, ◌++◌, append-nil}
use Prim.Native.Nat.{ℕ, ◌≤◌}
use native.Mathlib.Omega.{arith}
use borrow.Author.Tests.{eq-eqb, ne_eqb}
use lib.Dec.{eqb}
use lib.ListN.{length, take, drop, take-append-drop}
use lib.Seq.{take-length, drop-length}
use Rattle.base.specs.Outcome.{refused, accepted, judge, earlier}
use Rattle.base.proofs.Cases.{by_test, by_equal}
use Rattle.base.proofs.JudgeLaws.{judge_applied, judge_clear, judge_refused}
use Rattle.packet.specs.Packet.{bits, unfit_length}
use Rattle.packet.specs.declared.Crc.{Crc}
use Rattle.packet.proofs.PacketLaws.{fit_length}
use Rattle.checksum.specs.declared.Check.{Check}
use Rattle.verdicts.specs.Verdicts.{Said, verdict}
use Rattle.repair.specs.Calls.{Repair, repair_request, repair_conditions, repair_call, repair_output}
use Rattle.repair.proofs.ConditionLaws.{copy_unfit, fit_copy}
use Rattle.codec.specs.Verdicts.{verdict_length}
use Rattle.rangqoda.specs.Repairs.{room, handed, output_after}

pub room_within : (verdict output : List ℕ) → room verdict output ≤ length output
room_within verdict output = by_test (eqb (length verdict) verdict_length) (λ h. rw h (omega arith)) (λ h. rw h (omega arith))

-- ---- no output ----

-- the verdict that a call answers where it is accepted
abbrev answer_of : Repair → Said
answer_of r = verdict r.crc r.check r.limit r.packet

-- an accepted call has an output as long as its packet, which is not empty
pub accepted_output : (r : Repair) {v : Said} → accepted v ≡ repair_call r → 1 ≤ length r.output
accepted_output r {v} e =
    let clear = judge_clear (repair_conditions r) (answer_of r) v (sym e) in
    let long = fit_length r.crc.generator.degree (bits r.packet) (clear 2) in
    let same = fit_copy (length r.output) (length r.packet) (clear 8) in
    omega arith

pub accepted_room : (r : Repair) (verdict output : List ℕ) {v : Said} → r.output ≡ take (room verdict output) output → accepted v ≡ repair_call r → length verdict ≡ verdict_length
accepted_room r verdict output k e =
    by_equal (length verdict) verdict_length (λ h. h)
    (λ h.
    let none : length r.output ≡ 0 = ap length k ∙ rw (ne_eqb (length verdict) verdict_length h) in
    absurd (omega (arith, accepted_output r e)))

-- without an output a call is refused by 8, unless an earlier condition applies
no_output_refused : (r : Repair) → length r.output ≡ 0 → repair_call r ≡ judge (earlier 8 (repair_conditions r)) refused (refused 8)
no_output_refused r e =
    by_test (unfit_length r.crc.generator.degree (bits r.packet)) (λ k. rw k)
    (λ k.
    let long = fit_length r.crc.generator.degree (bits r.packet) k in
    judge_applied 8 (repair_conditions r) _ (sym (copy_unfit (length r.output) (length r.packet) (λ s. omega arith))))

-- ---- the call for C, beside the repair with the same arguments ----

module _ (crc : Crc) (check : Check) (limit : ℕ) (steps firsts packet output verdict : List ℕ) where
  abbrev in_c : Repair
  in_c = handed crc check limit steps firsts packet output verdict

  abbrev itself : Repair
  itself = repair_request crc check limit steps firsts packet output

  -- a verdict's memory of another length is refused by 8, unless an earlier condition applies
  pub no_room_refused : (length verdict ≡ verdict_length → ⊥) → repair_call in_c ≡ judge (earlier 8 (repair_conditions in_c)) refused (refused 8)
  no_room_refused h = no_output_refused in_c (rw (ne_eqb (length verdict) verdict_length h))

  -- with that length, the call is the repair, and leaves in the output what the repair does
  pub room_whole : length verdict ≡ verdict_length → in_c ≡ itself
  room_whole h =
      ap (λ (out : List ℕ). repair_request crc check limit steps firsts packet out) (rw (eq-eqb (length verdict) verdict_length h) (take-length output))

  pub output_whole : length verdict ≡ verdict_length → output_after in_c output verdict ≡ repair_output itself
  output_whole h =
      let all : room verdict output ≡ length output = rw (eq-eqb (length verdict) verdict_length h) in
      ap₂ (λ (r : Repair) (k : ℕ). repair_output r ++ drop k output) (room_whole h) all
      ∙ ap (λ (l : List ℕ). repair_output itself ++ l) (drop-length output)
      ∙ append-nil (repair_output itself)

  -- a call that is refused leaves the whole output
  pub output_refused : {k : ℕ} → repair_call in_c ≡ refused k → output_after in_c output verdict ≡ output
  output_refused {k} e =
      ap (λ (l : List ℕ). l ++ drop (room verdict output) output) (judge_refused (repair_conditions in_c) (answer_of in_c) k (λ _. in_c.output) _ e)
      ∙ take-append-drop (room verdict output) output
