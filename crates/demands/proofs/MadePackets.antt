-- The packet maker (docs/RULES.md, section 12), about the calls: make_call and make_packet, which the contract of the maker
-- equals, and repair_call of what it made.
use mathlib.Core.Path.{◌≡◌, refl, sym, ap, ◌∙◌}
use mathlib.Core.Bool.{true, false}
use mathlib.Core.List.{List, ◌∷◌, ◌++◌}
use Prim.Native.Nat.{ℕ}
use lib.ListN.{length, take, drop}
use Rattle.base.specs.Outcome.{accepted, when}
use Rattle.base.proofs.JudgeLaws.{applied, judge_accepted, judge_clear}
use Rattle.poly.specs.Polynomial.{degree}
use Rattle.packet.specs.Packet.{bits, unfit_values, crc_of}
use Rattle.packet.specs.declared.Crc.{Crc}
use Rattle.crc.specs.Calls.{seal_packet}
use Rattle.checksum.specs.Calls.{stamp_conditions, stamp_packet}
use Rattle.checksum.specs.declared.Check.{Check}
use Rattle.maker.specs.Stream.{yielded, state_after}
use Rattle.maker.specs.Calls.{made, make_conditions, make_call, make_packet}
use Rattle.maker.proofs.StreamLaws.{yielded_bytes}
use Rattle.maker.proofs.MadeLaws.{made-length, made_bytes, stamp_accepts, made_by_calls}
use Rattle.tables.specs.Tables.{step_table, first_table}
use Rattle.patterns.specs.Listing.{unfit_limit}
use Rattle.verdicts.specs.Verdicts.{passes_both, intact}
use Rattle.repair.specs.Calls.{repair_call}
use Rattle.repair.proofs.ConditionLaws.{stamp_field_fits}
use Rattle.verdicts.proofs.VerdictLaws.{verdict_intact}
use Rattle.demands.specs.Demand3.{Supposed, repair_with}
use Rattle.demands.proofs.Demand2.{stamp_and_seal}
use Rattle.demands.proofs.Demand3.{repair_accepted}

module _ (g init xorout seed : ℕ) (k : Check) where
  abbrev crc : Crc
  crc = crc_of g init xorout

  -- its conditions are stamp's, with 11 put in behind 2
  pub conditions_of_stamp : (l : ℕ)
      → make_conditions crc l k ≡ take 2 (stamp_conditions g l k) ++ when 11 (unfit_values (degree g) init xorout) ∷ drop 2 (stamp_conditions g l k)
  conditions_of_stamp l = refl

  -- what an accepted call makes
  module _ (s : List ℕ) (x : ℕ) (h : make_call crc seed k s ≡ accepted x) where
    clear : (m : ℕ) → applied m (make_conditions crc (bits s) k) ≡ false
    clear = judge_clear (make_conditions crc (bits s) k) (state_after (length s) seed) x h

    leaves : make_packet crc seed k s ≡ made crc seed k (length s)
    leaves = judge_accepted (make_conditions crc (bits s) k) (state_after (length s) seed) x (λ _. s) (made crc seed k (length s)) h

    -- the same packet and the same state come of any bytes of that length
    pub made_again : (t : List ℕ) → length t ≡ length s → (make_call crc seed k t ≡ accepted x) × (make_packet crc seed k t ≡ make_packet crc seed k s)
    made_again t same =
        let again : make_call crc seed k t ≡ accepted x = rw same h in (
          again,
          judge_accepted (make_conditions crc (bits t) k) (state_after (length t) seed) x (λ _. t) (made crc seed k (length t)) again
              ∙ ap (made crc seed k) same
              ∙ sym leaves,
        )

    -- the packet is what stamp, and then seal, leave of the bytes yielded
    pub made_of_yielded : make_packet crc seed k s ≡ seal_packet crc (stamp_packet g k (yielded (length s) seed))
    made_of_yielded = leaves ∙ sym (made_by_calls g init xorout seed k (length s) clear)

    -- it passes both checks
    pub made-passes : passes_both crc k (make_packet crc seed k s) ≡ true
    made-passes =
        ap (passes_both crc k) made_of_yielded
        ∙ stamp_and_seal g k (yielded (length s) seed) (yielded_bytes (length s) seed) (stamp_accepts g init xorout seed k (length s) clear) crc refl (clear 11)

    supposed : (limit : ℕ) → unfit_limit limit ≡ false → Supposed crc k limit (make_packet crc seed k s)
    supposed limit fit =
        let same = made-length g init xorout seed k (length s) clear in
        rw leaves
        (record {
          bytes = made_bytes g init xorout seed k (length s) clear;
          numbered = refl;
          fit_generator = clear 1;
          fit_length = rw same (clear 2);
          fit_values = clear 11;
          fit_limit = fit;
          fit_range = rw same (clear 9);
          fit_check_field = stamp_field_fits k (clear 10);
        })

    -- so a repair of it by the same CRC, range and field, at every limit, with right tables and an output of its length, says Intact
    pub made_intact : (limit : ℕ) → unfit_limit limit ≡ false → (out : List ℕ) → length out ≡ length s
        → repair_call (repair_with crc k limit (make_packet crc seed k s) (record { steps = step_table (degree g) g; firsts = first_table (degree g) g; output = out }))
        ≡ accepted intact
    made_intact limit fit out room =
        let t = make_packet crc seed k s in
        let same : length out ≡ length t = room ∙ sym (ap length leaves ∙ made-length g init xorout seed k (length s) clear) in
        repair_accepted crc k limit t (supposed limit fit) out same ∙ ap accepted ((verdict_intact crc k limit t).1 made-passes)
