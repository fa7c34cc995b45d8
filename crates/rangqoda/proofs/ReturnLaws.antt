-- The number that each C function returns tells what came of its call: 0 just where the call is accepted, and else the number of the
-- refusal, which is never 0. The functions that return no such number are `rangqoda_sum` and `rangqoda_publish`.
use mathlib.Core.Path.{◌≡◌, refl, sym, ap}
use mathlib.Core.Bool.{Bool, true, true≢false, ◌&&◌}
use mathlib.Core.List.{List, [], ◌∷◌}
use Prim.Native.Nat.{ℕ, ◌≤◌}
use native.Mathlib.Omega.{arith}
use lib.Dec.{ltb}
use lib.ListN.{length}
use borrow.Author.Tests.{ltb-true}
use Rattle.base.specs.Outcome.{Outcome, refused, accepted, Condition, judge}
use Rattle.base.proofs.Cases.{by_test}
use Rattle.base.proofs.JudgeLaws.{refused_number, refused_not_accepted}
use Rattle.packet.specs.Packet.{bits}
use Rattle.packet.specs.declared.Crc.{Crc}
use Rattle.crc.specs.Calls.{packet_conditions, remainder_call, seal_call}
use Rattle.checksum.specs.declared.Check.{Check}
use Rattle.checksum.specs.Calls.{stamp_conditions, stamp_call}
use Rattle.maker.specs.Calls.{make_conditions, make_call}
use Rattle.simulation.specs.Calls.{Simulation, simulate_conditions, simulate_call}
use Rattle.tables.specs.Calls.{tables_conditions, tables_call}
use Rattle.patterns.specs.Patterns.{Point}
use Rattle.pages.specs.Conditions.{Request, page_conditions}
use Rattle.pages.specs.Calls.{page_call}
use Rattle.repair.specs.Calls.{Repair, repair_conditions, repair_call}
use Rattle.scatter.specs.Calls.{block_conditions, block_call}
use Rattle.rangqoda.specs.Codes.{code, Accepted, with_value, Tells}

-- ---- any call whose refusals have numbers other than 0 ----

module _ {A : Type 0} where
  accepted_zero : {o : Outcome A} → Accepted o → code o ≡ 0
  accepted_zero (with_value e) = ap code e

  zero_accepted : (o : Outcome A) → ((k : ℕ) → o ≡ refused k → 1 ≤ k) → code o ≡ 0 → Accepted o
  zero_accepted (refused k) h e = absurd (omega (arith, e, h k refl))
  zero_accepted (accepted a) h e = with_value refl

  pub code_tells : (o : Outcome A) → ((k : ℕ) → o ≡ refused k → 1 ≤ k) → Tells o
  code_tells o h =
      record {
        when_zero = (zero_accepted o h, accepted_zero);
        when_refused = λ k e. (ap code e, h k e);
      }

-- ---- calls that are judged by a list of conditions ----

-- no condition has the number 0
abbrev numbered : List Condition → Bool
numbered [] = true
numbered (t ∷ ts) = ltb 0 t.number && numbered ts

numbers_refused : {A : Type 0} (ts : List Condition) (a : A) → numbered ts ≡ true
    → (k : ℕ) → judge ts refused (accepted a) ≡ refused k → 1 ≤ k
numbers_refused [] a n k e = absurd (refused_not_accepted (sym e))
numbers_refused (t ∷ ts) a n k e =
    by_test (ltb 0 t.number)
    (λ p. by_test t.applies
    (λ h. let m : t.number ≡ k = refused_number (rw h at e) in omega (arith, ltb-true 0 t.number p))
    (λ h. numbers_refused ts a (rw p at n) k (rw h at e)))
    (λ p. absurd (true≢false (sym (rw p at n))))

pub judged_tells : {A : Type 0} (ts : List Condition) (a : A) → numbered ts ≡ true → Tells (judge ts refused (accepted a))
judged_tells ts a n = code_tells (judge ts refused (accepted a)) (numbers_refused ts a n)

-- ---- each of the functions ----

pub remainder_tells : (c : Crc) (packet : List ℕ) → Tells (remainder_call c packet)
remainder_tells c packet = judged_tells (packet_conditions c (bits packet)) _ refl

pub seal_tells : (c : Crc) (packet : List ℕ) → Tells (seal_call c packet)
seal_tells c packet = judged_tells (packet_conditions c (bits packet)) _ refl

pub stamp_tells : (generator : ℕ) (check : Check) (packet : List ℕ) → Tells (stamp_call generator check packet)
stamp_tells generator check packet = judged_tells (stamp_conditions generator (bits packet) check) _ refl

pub make_tells : (c : Crc) (seed : ℕ) (check : Check) (packet : List ℕ) → Tells (make_call c seed check packet)
make_tells c seed check packet = judged_tells (make_conditions c (bits packet) check) _ refl

pub simulate_tells : (r : Simulation) → Tells (simulate_call r)
simulate_tells r = judged_tells (simulate_conditions r) _ refl

pub tables_tells : (generator : ℕ) (steps firsts : List ℕ) → Tells (tables_call generator steps firsts)
tables_tells generator steps firsts = judged_tells (tables_conditions generator (length steps) (length firsts)) _ refl

pub page_tells : (r : Request) (mark : Point) → Tells (page_call r mark)
page_tells r mark = judged_tells (page_conditions r mark) _ refl

pub repair_tells : (r : Repair) → Tells (repair_call r)
repair_tells r = judged_tells (repair_conditions r) _ refl

-- of scatter, and of gather
pub block_tells : (rows columns : ℕ) (input output : List ℕ) → Tells (block_call rows columns input output)
block_tells rows columns input output = judged_tells (block_conditions rows columns (length input) (length output)) _ refl
