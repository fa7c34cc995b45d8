-- The repair call and the handing back: what they answer, and what the output then holds.
use Rattle.std.specs.Prelude.{ℕ, ◌≡◌, Bool, not, ◌&&◌, List, [], ◌∷◌, eqb, ltb, length}
use Rattle.std.specs.Borrow.{Bor}
use Rattle.base.specs.Outcome.{Outcome, refused, accepted, Condition, when, judge}
use Rattle.poly.specs.Generators.{unfit}
use Rattle.packet.specs.Packet.{bits, unfit_length, unfit_values, crc_of}
use Rattle.packet.specs.declared.CrcNumbers.{CrcNumbers}
use Rattle.packet.specs.declared.Crc.{Crc}
use Rattle.tables.specs.Tables.{unfit_tables, wrong_tables}
use Rattle.tables.specs.declared.lent.Tables.{Tables}
use Rattle.checksum.specs.Checksum.{unfit_range, unfit_field}
use Rattle.checksum.specs.declared.Check.{Check}
use Rattle.patterns.specs.Listing.{unfit_limit}
use Rattle.verdicts.specs.Verdicts.{Said, intact, repaired, several, nothing, verdict, output_for}

-- what a repair call is given
pub record Repair : Type 0 where
  pub crc : Crc
  pub check : Check
  pub limit : ℕ
  pub steps : List ℕ
  pub firsts : List ℕ
  pub packet : List ℕ
  pub output : List ℕ

abbrev pub repair_request : Crc → Check → ℕ → List ℕ → List ℕ → List ℕ → List ℕ → Repair
repair_request crc check limit steps firsts packet output =
    record {
      crc = crc;
      check = check;
      limit = limit;
      steps = steps;
      firsts = firsts;
      packet = packet;
      output = output;
    }

-- the same of the numbers of a CRC and tables that are lent
abbrev pub repair_request_by : CrcNumbers → Check → ℕ → Tables → List ℕ → List ℕ → Repair
repair_request_by n check limit t packet output = repair_request (crc_of n.generator n.init n.xorout) check limit t.steps.now t.firsts.now packet output

-- condition 8 of a repair: an output that is not as long as the packet
unfoldable pub unfit_copy : ℕ → ℕ → Bool
unfit_copy room long = not (eqb room long)

-- condition 10 of a repair: where there is a second check, a field that stamp would turn down
unfoldable pub unfit_check_field : Check → Bool
unfit_check_field k = ltb k.from k.to && unfit_field k

-- a repair call is refused by 1, 2, 11, 3, 5, 6, 8, 9 and 10
abbrev pub repair_conditions : Repair → List Condition
repair_conditions r =
    let g = r.crc.generator in
    when 1 (unfit g.coefficients)
    ∷ when 2 (unfit_length g.degree (bits r.packet))
    ∷ when 11 (unfit_values g.degree r.crc.init r.crc.xorout)
    ∷ when 3 (unfit_limit r.limit)
    ∷ when 5 (unfit_tables g.degree (length r.steps) (length r.firsts))
    ∷ when 6 (wrong_tables g.degree g.coefficients r.steps r.firsts)
    ∷ when 8 (unfit_copy (length r.output) (length r.packet))
    ∷ when 9 (unfit_range g.degree (bits r.packet) r.check)
    ∷ when 10 (unfit_check_field r.check)
    ∷ []

-- the answer
abbrev pub repair_call : Repair → Outcome Said
repair_call r = judge (repair_conditions r) refused (accepted (verdict r.crc r.check r.limit r.packet))

-- the output after the call
abbrev pub repair_output : Repair → List ℕ
repair_output r =
    judge (repair_conditions r) (λ _. r.output) (output_for r.crc r.check r.limit r.packet r.output)

-- the packet to publish from: the received bytes, the copy, or an empty part of the received bytes
abbrev pub handed_back : Said → List ℕ → List ℕ → List ℕ
handed_back intact received copy = received
handed_back (repaired p) received copy = copy
handed_back (several n p) received copy = []
handed_back nothing received copy = []

-- which slice that is: the received one itself, the copy itself, or a part of the received one, from its beginning
abbrev pub HandedItself : {X : Type 0} → Said → Bor X → Bor X → Bor X → Type 0
HandedItself intact r received copy = r ≡ received
HandedItself (repaired p) r received copy = r ≡ copy
HandedItself (several n p) r received copy = r.ref_ptr ≡ received.ref_ptr
HandedItself nothing r received copy = r.ref_ptr ≡ received.ref_ptr
