-- A field of 0, which says that no checksum was made (docs/RULES.md, section 5). About the calls: which listed sets lead to a passing
-- packet, by the field after their flips, which is what repair_call goes by; and what repair_call says of a packet by its field as received,
-- and of one that was sent with a field of 0.
use mathlib.Core.Path.{◌≡◌, sym, ◌∙◌}
use mathlib.Core.Logic.{◌≢◌, ◌↔◌}
use mathlib.Core.List.{List}
use Prim.Native.Nat.{ℕ, ◌≤◌}
use borrow.Author.Tests.{eq-eqb, eqb-true}
use lib.Dec.{eqb}
use lib.ListN.{length}
use Rattle.base.specs.Lists.{In, Ascending}
use Rattle.base.specs.Outcome.{accepted}
use Rattle.packet.specs.Packet.{Bytes, bits, remainder, flips, difference}
use Rattle.packet.specs.declared.Crc.{Crc}
use Rattle.checksum.specs.Checksum.{range, field_of}
use Rattle.checksum.specs.Calls.{sum_call}
use Rattle.checksum.specs.declared.Check.{Check}
use Rattle.checksum.proofs.RangeLaws.{zero_field_passes, sum_decides}
use Rattle.pages.specs.Sequences.{Lending}
use Rattle.verdicts.specs.Verdicts.{passes_both, packet_list, Said, intact, repaired, nothing, Leads}
use Rattle.repair.specs.Calls.{repair_call, repair_output}
use Rattle.verdicts.proofs.VerdictLaws.{both_passed, passes_by_crc, listed_passes}
use Rattle.demands.specs.Demand3.{Supposed, repair_with}
use Rattle.demands.proofs.Demand3.{fit_of, says_intact, the_packet_sent, the_bits_flipped}
use Rattle.demands.proofs.NoChecksum.{intact_by_crc}

-- a packet whose field is 0 passes both checks where it passes the CRC
zero_by_crc : (c : Crc) (k : Check) (t : List ℕ) → field_of k.field t ≡ 0 → passes_both c k t ≡ eqb (remainder c t) 0
zero_by_crc c k t z = passes_by_crc c k t (zero_field_passes k t z)

module _ (c : Crc) (k : Check) (limit : ℕ) (s : List ℕ) (supposed : Supposed c k limit s) where
  -- a listed set after whose flips the field is 0 leads to a passing packet, whatever the sum
  pub zero_leads : (ps : List ℕ) → In ps (packet_list c limit s) → field_of k.field (flips s ps) ≡ 0 → Leads c k limit s ps
  zero_leads ps listed z =
      record {
        listed = listed;
        passing = listed_passes c k limit s (fit_of supposed) supposed.bytes ps listed ∙ zero_field_passes k (flips s ps) z;
      }

  -- and one after whose flips it is not 0 does exactly where the sum of the flipped range is FFFFh
  pub nonzero_leads_by_sum : k.from ≢ k.to → (ps : List ℕ) → In ps (packet_list c limit s) → field_of k.field (flips s ps) ≢ 0
      → Leads c k limit s ps ↔ (sum_call (range k.from k.to (flips s ps)) ≡ 65535)
  nonzero_leads_by_sum some ps listed other =
      let decided = listed_passes c k limit s (fit_of supposed) supposed.bytes ps listed ∙ sum_decides k (flips s ps) some other in (
        λ l. eqb-true _ _ (sym decided ∙ l.passing),
        λ e. record { listed = listed; passing = decided ∙ eq-eqb _ _ e },
      )

  module _ (lent : Lending) (v : Said) (told : repair_call (repair_with c k limit s lent) ≡ accepted v) where
    -- of a packet whose field is 0, Intact is said exactly where the remainder is 0
    pub zero_intact : field_of k.field s ≡ 0 → v ≡ intact ↔ (remainder c s ≡ 0)
    zero_intact z = intact_by_crc c k limit s supposed lent v told (zero_field_passes k s z)

    -- of any other, where there is a second check, exactly where the remainder is 0 and the sum of the range FFFFh
    pub nonzero_intact_by_sum : k.from ≢ k.to → field_of k.field s ≢ 0
        → v ≡ intact ↔ ((remainder c s ≡ 0) × (sum_call (range k.from k.to s) ≡ 65535))
    nonzero_intact_by_sum some other =
        let says = says_intact c k limit s supposed lent v told in
        let decided = sum_decides k s some other in (
          λ h. let both = both_passed c k s (says.0 h) in (both.0, eqb-true _ _ (sym decided ∙ both.1)),
          λ h. says.1 (passes_by_crc c k s (decided ∙ eq-eqb _ _ h.1) ∙ eq-eqb _ _ h.0),
        )

    -- of what was sent with a field of 0, if it passed the CRC and at most N bits are different: None is not said, and a repair is that packet
    pub sent_without_a_sum : (t : List ℕ) → Bytes t → length s ≡ length t → field_of k.field t ≡ 0 → remainder c t ≡ 0 → length (difference s t) ≤ limit
        → (v ≡ nothing → ⊥) × ((p : List ℕ) → v ≡ repaired p → (flips s p ≡ t) × (repair_output (repair_with c k limit s lent) ≡ t))
    sent_without_a_sum t bt same z zero =
        the_packet_sent c k limit s supposed lent v told t bt same (zero_by_crc c k t z ∙ eq-eqb _ _ zero)

    -- the same of any set of at most N bits that flipped on the way
    pub flipped_without_a_sum : (t ps : List ℕ) → Bytes t → Ascending (bits t) 0 ps → length ps ≤ limit → s ≡ flips t ps → field_of k.field t ≡ 0
        → remainder c t ≡ 0
        → (v ≡ nothing → ⊥) × ((p : List ℕ) → v ≡ repaired p → (flips s p ≡ t) × (repair_output (repair_with c k limit s lent) ≡ t))
    flipped_without_a_sum t ps bt ascends few received z zero =
        the_bits_flipped c k limit s supposed lent v told t ps bt ascends few received (zero_by_crc c k t z ∙ eq-eqb _ _ zero)
