-- Packets that carry no checksum (docs/RULES.md, section 6): the range of their check begins and ends at one place. About the
-- calls: repair_call with repair_output, which then go by the CRC alone, and stamp_call and make_call, which have no field there.
use mathlib.Core.Path.{◌≡◌, sym, ◌∙◌}
use mathlib.Core.Bool.{true, false}
use mathlib.Core.Logic.{◌↔◌}
use mathlib.Core.List.{List}
use Prim.Native.Nat.{ℕ, ◌+◌, ◌*◌, ◌<◌, ◌≤◌}
use native.Mathlib.Omega.{arith}
use borrow.Author.Tests.{lt-ltb, le-ltb, eq-eqb, ne_eqb, eqb-true}
use lib.Dec.{eqb}
use lib.ListN.{length}
use Rattle.base.specs.Lists.{In, Ascending}
use Rattle.base.specs.Outcome.{refused, accepted, judge, earlier}
use Rattle.base.proofs.JudgeLaws.{judge_applied}
use Rattle.packet.specs.Packet.{Bytes, bits, remainder, flips, difference}
use Rattle.packet.specs.declared.Crc.{Crc}
use Rattle.packet.proofs.PacketLaws.{fit_length}
use Rattle.checksum.specs.Checksum.{check_of, passes, unfit_range}
use Rattle.checksum.specs.Calls.{stamp_conditions, stamp_call}
use Rattle.checksum.specs.declared.Check.{Check}
use Rattle.checksum.proofs.ConditionLaws.{range-unfit, empty_field_unfit}
use Rattle.checksum.proofs.RangeLaws.{no_check_passes}
use Rattle.maker.specs.Calls.{make_conditions, make_call}
use Rattle.tables.specs.Tables.{step_table, first_table}
use Rattle.patterns.proofs.SiftLaws.{sift_all}
use Rattle.pages.specs.Sequences.{Lending}
use Rattle.verdicts.specs.Verdicts.{passes_both, packet_list, candidates, Said, intact, repaired, several, nothing, verdict, Leads, leading, Earliest}
use Rattle.repair.specs.Calls.{Repair, repair_conditions, repair_call, repair_output}
use Rattle.repair.proofs.ConditionLaws.{empty_check_field_fits}
use Rattle.verdicts.proofs.VerdictLaws.{passes_by_crc, candidates-leading, earliest_same}
use Rattle.demands.specs.CrcAlone.{crc_repair_call, crc_repair_output}
use Rattle.demands.specs.Demand3.{Supposed, repair_with}
use Rattle.demands.proofs.Demand3.{fit_of, repair_accepted, the_leading, says_intact, says_otherwise, the_packet_sent, the_bits_flipped}

-- ---- of any packet and settings, accepted or not ----

module _ (k : Check) (one_place : k.from ≡ k.to) where
  -- stamp and maker refuse such a range by 10, unless an earlier condition applies
  pub stamp_without_a_field : (g : ℕ) (s : List ℕ) → stamp_call g k s ≡ judge (earlier 10 (stamp_conditions g (bits s) k)) refused (refused 10)
  stamp_without_a_field g s = judge_applied 10 (stamp_conditions g (bits s) k) _ (empty_field_unfit k one_place)

  pub make_without_a_field : (c : Crc) (seed : ℕ) (s : List ℕ) → make_call c seed k s ≡ judge (earlier 10 (make_conditions c (bits s) k)) refused (refused 10)
  make_without_a_field c seed s = judge_applied 10 (make_conditions c (bits s) k) _ (empty_field_unfit k one_place)

  -- both checks are passed where the CRC is
  by_crc : (c : Crc) (t : List ℕ) → passes_both c k t ≡ eqb (remainder c t) 0
  by_crc c t = passes_by_crc c k t (no_check_passes k t one_place)

  -- the candidates are the whole list
  pub all_candidates : (c : Crc) (limit : ℕ) (s : List ℕ) → candidates c k limit s ≡ packet_list c limit s
  unfolding candidates
  all_candidates c limit s = sift_all (λ ps. passes k (flips s ps)) (packet_list c limit s) (λ ps _. no_check_passes k (flips s ps) one_place)

-- a range [a,a) that reaches into the CRC is refused by 9, unless an earlier condition applies
pub refused_beyond : (c : Crc) (limit : ℕ) (s : List ℕ) (a f : ℕ) → bits s < 8 * a + c.generator.degree → (lent : Lending)
    → let r = repair_with c (check_of a a f) limit s lent in repair_call r ≡ judge (earlier 9 (repair_conditions r)) refused (refused 9)
refused_beyond c limit s a f past lent =
    judge_applied 9 (repair_conditions (repair_with c (check_of a a f) limit s lent)) _
    (range-unfit c.generator.degree (bits s) (check_of a a f) (omega arith) ∙ lt-ltb _ _ past)

-- a repair answers and leaves what it would by the CRC alone: of every input, refused or accepted
pub repair_by_crc : (r : Repair) → r.check.from ≡ r.check.to → (repair_call r ≡ crc_repair_call r) × (repair_output r ≡ crc_repair_output r)
repair_by_crc r one_place =
    let none = empty_check_field_fits r.check (omega arith) in
    let passing = by_crc r.check one_place r.crc r.packet in
    let listed = all_candidates r.check one_place r.crc r.limit r.packet in
    (rw (none, passing, listed), rw (none, passing, listed))

-- wherever such a range is accepted, and whatever number is given for the field, a repair answers the same, and leaves the same output
pub same_anywhere : (c : Crc) (k j : Check) (limit : ℕ) (s : List ℕ) → k.from ≡ k.to → j.from ≡ j.to
    → unfit_range c.generator.degree (bits s) k ≡ false → unfit_range c.generator.degree (bits s) j ≡ false → (lent : Lending)
    → (repair_call (repair_with c k limit s lent) ≡ repair_call (repair_with c j limit s lent))
    × (repair_output (repair_with c k limit s lent) ≡ repair_output (repair_with c j limit s lent))
same_anywhere c k j limit s at-k at_j fit-k fit-j lent =
    let r = repair_with c k limit s lent in
    let q = repair_with c j limit s lent in
    let by-k = repair_by_crc r at-k in
    let by-j = repair_by_crc q at_j in
    let call : crc_repair_call r ≡ crc_repair_call q = rw (fit-k, fit-j) in
    let left : crc_repair_output r ≡ crc_repair_output q = rw (fit-k, fit-j) in
    (by-k.0 ∙ call ∙ sym by-j.0, by-k.1 ∙ left ∙ sym by-j.1)

-- ---- a repair of an accepted packet ----

module _ (c : Crc) (k : Check) (limit : ℕ) (s : List ℕ) (supposed : Supposed c k limit s) where
  -- what is lent with right tables
  abbrev right : List ℕ → Lending
  right out = record { steps = step_table c.generator.degree c.generator.coefficients; firsts = first_table c.generator.degree c.generator.coefficients; output = out }

  -- [a,a) is accepted wherever it does not reach into the CRC, with right tables and an output as long as the packet
  pub accepted_anywhere : (a f : ℕ) → 8 * a + c.generator.degree ≤ bits s → (out : List ℕ) → length out ≡ length s
      → repair_call (repair_with c (check_of a a f) limit s (right out)) ≡ accepted (verdict c (check_of a a f) limit s)
  accepted_anywhere a f within = repair_accepted c (check_of a a f) limit s (moved a f within)
    where
      moved : (a f : ℕ) → 8 * a + c.generator.degree ≤ bits s → Supposed c (check_of a a f) limit s
      moved a f within =
          record {
            bytes = supposed.bytes;
            numbered = supposed.numbered;
            fit_generator = supposed.fit_generator;
            fit_length = supposed.fit_length;
            fit_values = supposed.fit_values;
            fit_limit = supposed.fit_limit;
            fit_range = range-unfit c.generator.degree (bits s) (check_of a a f) (omega arith) ∙ le-ltb _ _ within;
            fit_check_field = empty_check_field_fits (check_of a a f) (omega arith);
          }

  -- so [0,0) always is
  pub accepted_at_0 : (f : ℕ) (out : List ℕ) → length out ≡ length s
      → repair_call (repair_with c (check_of 0 0 f) limit s (right out)) ≡ accepted (verdict c (check_of 0 0 f) limit s)
  accepted_at_0 f = accepted_anywhere 0 f (omega (arith, (fit_length c.generator.degree (bits s) supposed.fit_length).0))

-- of a packet that passes the second check, for whatever reason, Intact is said exactly where the remainder is 0
pub intact_by_crc : (c : Crc) (k : Check) (limit : ℕ) (s : List ℕ) → Supposed c k limit s → (lent : Lending) (v : Said)
    → repair_call (repair_with c k limit s lent) ≡ accepted v → passes k s ≡ true → v ≡ intact ↔ (remainder c s ≡ 0)
intact_by_crc c k limit s supposed lent v told passed =
    let says = says_intact c k limit s supposed lent v told in
    let by = passes_by_crc c k s passed in
    (λ h. eqb-true _ _ (sym by ∙ says.0 h), λ h. says.1 (by ∙ eq-eqb _ _ h))

module _ (c : Crc) (k : Check) (limit : ℕ) (s : List ℕ) (supposed : Supposed c k limit s) (one_place : k.from ≡ k.to) where
  all_lead : leading c k limit s ≡ packet_list c limit s
  all_lead = sym (candidates-leading c k limit s (fit_of supposed) supposed.bytes) ∙ all_candidates k one_place c limit s

  listed_leads : (ps : List ℕ) → In ps (packet_list c limit s) ↔ Leads c k limit s ps
  listed_leads ps = rw all_lead at ((the_leading c k limit s supposed).0 ps)

  module _ (lent : Lending) (v : Said) (told : repair_call (repair_with c k limit s lent) ≡ accepted v) where
    -- Intact exactly where the remainder is 0
    pub says_intact_by_crc : v ≡ intact ↔ (remainder c s ≡ 0)
    says_intact_by_crc = intact_by_crc c k limit s supposed lent v told (no_check_passes k s one_place)

    -- of any other packet None, Repaired or Several if none, exactly one or more sets are listed, and only then; Several with
    -- how many, and with the one that stands first
    pub says_otherwise_by_list : (remainder c s ≡ 0 → ⊥)
        → (v ≡ nothing ↔ ((ps : List ℕ) → In ps (packet_list c limit s) → ⊥))
        × ((p : List ℕ) → v ≡ repaired p ↔ (In p (packet_list c limit s) × ((q : List ℕ) → In q (packet_list c limit s) → q ≡ p)))
        × ((n : ℕ) (q : List ℕ) → v ≡ several n q ↔ ((2 ≤ length (packet_list c limit s)) × (n ≡ length (packet_list c limit s)) × Earliest (λ ps. In ps (packet_list c limit s)) q))
    says_otherwise_by_list h =
        let says = says_otherwise c k limit s supposed lent v told (by_crc k one_place c s ∙ ne_eqb _ _ h) in (
          (
            λ e ps i. says.0.0 e ps ((listed_leads ps).0 i),
            λ empty. says.0.1 (λ ps l. empty ps ((listed_leads ps).1 l)),
          ),
          λ p. (
            λ e. let r = (says.1 p).0 e in ((listed_leads p).1 r.0, λ q i. r.1 q ((listed_leads q).0 i)),
            λ r. (says.1 p).1 ((listed_leads p).0 r.0, λ q l. r.1 q ((listed_leads q).1 l)),
          ),
          λ n q. (
            λ e. let r = rw all_lead at ((says.2 n q).0 e) in (r.0, r.1, (earliest_same listed_leads q).1 r.2),
            λ r. (says.2 n q).1 (rw all_lead (r.0, r.1, (earliest_same listed_leads q).0 r.2)),
          ),
        )

    -- of what was sent, if it passed the CRC and at most N bits are different: None is not said, and a repair is that packet
    pub sent_by_crc : (t : List ℕ) → Bytes t → length s ≡ length t → remainder c t ≡ 0 → length (difference s t) ≤ limit
        → (v ≡ nothing → ⊥) × ((p : List ℕ) → v ≡ repaired p → (flips s p ≡ t) × (repair_output (repair_with c k limit s lent) ≡ t))
    sent_by_crc t bt same zero = the_packet_sent c k limit s supposed lent v told t bt same (by_crc k one_place c t ∙ eq-eqb _ _ zero)

    -- the same of any set of at most N bits that flipped on the way
    pub flipped_by_crc : (t ps : List ℕ) → Bytes t → Ascending (bits t) 0 ps → length ps ≤ limit → s ≡ flips t ps → remainder c t ≡ 0
        → (v ≡ nothing → ⊥) × ((p : List ℕ) → v ≡ repaired p → (flips s p ≡ t) × (repair_output (repair_with c k limit s lent) ≡ t))
    flipped_by_crc t ps bt ascends few received zero =
        the_bits_flipped c k limit s supposed lent v told t ps bt ascends few received (by_crc k one_place c t ∙ eq-eqb _ _ zero)
