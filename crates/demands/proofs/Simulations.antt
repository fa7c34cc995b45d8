-- The simulation (docs/RULES.md, section 14), about its call: simulate_call, simulate_counts and simulate_packet, which its contract equals.
use mathlib.Core.Path.{◌≡◌, refl, sym, ap, ◌∙◌}
use mathlib.Core.Bool.{true, false}
use mathlib.Core.List.{List, [], ◌∷◌}
use Prim.Native.Nat.{ℕ, ◌+◌, ◌*◌, ◌≤◌}
use native.Mathlib.Omega.{arith}
use lib.ListN.{length, get_or}
use Rattle.base.specs.Lists.{Ascending}
use Rattle.base.specs.Outcome.{accepted}
use Rattle.base.proofs.JudgeLaws.{applied, judge_accepted, judge_value, judge_clear}
use Rattle.base.proofs.ListLaws.{ascending_all}
use Rattle.poly.specs.Polynomial.{degree}
use Rattle.poly.proofs.GeneratorLaws.{fit_accepted}
use Rattle.packet.specs.Packet.{Bytes, bits, flips, difference, crc_of}
use Rattle.packet.specs.declared.Crc.{Crc}
use Rattle.packet.proofs.FlipLaws.{flips_nil, flips-length, flips_bytes}
use Rattle.packet.proofs.DifferenceLaws.{flips_differ}
use Rattle.checksum.specs.declared.Check.{Check}
use Rattle.checksum.proofs.ConditionLaws.{fit_range, fit_field}
use Rattle.maker.specs.Stream.{state_after}
use Rattle.maker.specs.Calls.{made, make_conditions, make_call, make_packet}
use Rattle.maker.proofs.MadeLaws.{made-length, made_bytes}
use Rattle.channel.specs.Channel.{drawn}
use Rattle.channel.proofs.DrawLaws.{drawn_ascends}
use Rattle.verdicts.specs.Verdicts.{passes_both, intact, repaired, nothing, verdict, output_for}
use Rattle.verdicts.proofs.VerdictLaws.{verdict_intact}
use Rattle.repair.specs.Calls.{repair_request, repair_conditions, repair_call, repair_output}
use Rattle.repair.proofs.ConditionLaws.{copy_fit, stamp_field_fits}
use Rattle.trials.specs.Trials.{most_flips, column, joined_rows, received}
use Rattle.simulation.specs.Calls.{Simulation, simulation, simulate_conditions, outcome, simulate_call, simulate_packet, simulate_counts}
use Rattle.simulation.proofs.ConditionLaws.{fit_trials}
use Rattle.trials.proofs.TrialLaws.{received_is}
use Rattle.trials.proofs.RowLaws.{Row, row_adds, row_unflipped, row_few, Allowed, column_allowed, row_joined, last_received}
use Rattle.demands.specs.Demand3.{Supposed}
use Rattle.demands.proofs.Demand3.{the_bits_flipped}
use Rattle.demands.proofs.MadePackets.{made-passes}

-- no draws, no positions
none_drawn : (l x : ℕ) {f : ℕ} → f ≡ 0 → drawn l f x ≡ []
unfolding drawn
none_drawn l x z = rw z

-- an accepted simulation
module _ (g init xorout seed : ℕ) (k : Check) (limit n : ℕ) (steps firsts packet output counts : List ℕ) (x : ℕ)
    (told : simulate_call (simulation (crc_of g init xorout) seed k limit n steps firsts packet output counts) ≡ accepted x) where
  abbrev crc : Crc
  crc = crc_of g init xorout

  abbrev request : Simulation
  request = simulation crc seed k limit n steps firsts packet output counts

  abbrev count : ℕ → ℕ → ℕ
  count f col = get_or (simulate_counts request) (5 * f + col) 0

  -- the packet made from a state, and what is received of it after f flips
  abbrev sent : ℕ → List ℕ
  sent y = made crc y k (length packet)

  abbrev arrived : ℕ → ℕ → List ℕ
  arrived f y = received crc k (length packet) f y

  -- the positions that flip
  abbrev positions : ℕ → ℕ → List ℕ
  positions f y = drawn (bits packet) f (state_after (length packet) y)

  clear : (m : ℕ) → applied m (simulate_conditions request) ≡ false
  clear = judge_clear (simulate_conditions request) (outcome request).state x told

  -- ---- one trial, by the calls ----

  -- a trial's packet is the one that the maker makes, from the state at which the trial begins
  pub trial_by_calls : (y : ℕ) → (make_call crc y k packet ≡ accepted (state_after (length packet) y)) × (make_packet crc y k packet ≡ sent y)
  trial_by_calls y =
      let makes : make_call crc y k packet ≡ accepted (state_after (length packet) y) = simp (clear 1, clear 2, clear 11, clear 9, clear 10) in
      (makes, judge_accepted (make_conditions crc (bits packet) k) _ _ (λ _. packet) (sent y) makes)

  sent_clear : (m : ℕ) → applied m (make_conditions crc (bits packet) k) ≡ false
  sent_clear = judge_clear (make_conditions crc (bits packet) k) _ _ (trial_by_calls 0).0

  sent_length : (y : ℕ) → length (sent y) ≡ length packet
  sent_length y = made-length g init xorout y k (length packet) sent_clear

  sent_bytes : (y : ℕ) → Bytes (sent y)
  sent_bytes y = made_bytes g init xorout y k (length packet) sent_clear

  sent_passes : (y : ℕ) → passes_both crc k (sent y) ≡ true
  sent_passes y = let by = trial_by_calls y in rw by.1 at (made-passes g init xorout y k packet _ by.0)

  -- the field's two bytes and a CRC of three bits or more take three bytes
  room : 24 ≤ bits packet
  room =
      let range = fit_range (degree g) (bits packet) k (clear 9) in
      let field = fit_field k (clear 10) in
      omega (arith, range.whole, field.after, field.within, (fit_accepted g (clear 1)).least)

  -- the positions drawn in a trial are so many positions of the packet made
  drawn-positions : (f y : ℕ) → f ≤ most_flips → Ascending (bits packet) 0 (positions f y) × (length (positions f y) ≡ f)
  drawn-positions f y h = drawn_ascends (bits packet) f (state_after (length packet) y) (omega (arith, room))

  sent_positions : (f y : ℕ) → f ≤ most_flips → Ascending (bits (sent y)) 0 (positions f y)
  sent_positions f y h = rw (sent_length y) (drawn-positions f y h).0

  -- the f positions that flip in a trial are different and below L, so exactly f bits differ from the packet made
  pub flips_exactly : (f y : ℕ) → f ≤ most_flips → let ps = positions f y in
      Ascending (bits packet) 0 ps × (length ps ≡ f) × (arrived f y ≡ flips (sent y) ps) × (difference (arrived f y) (sent y) ≡ ps)
  flips_exactly f y h =
      let set = drawn-positions f y h in
      let flipped = received_is crc k (length packet) f y in
      (set.0, set.1, flipped, rw flipped (flips_differ (sent y) (positions f y) (sent_bytes y) (sent_positions f y h)))

  -- a packet that is received has the length of the lent one
  arrived_length : (f y : ℕ) → length (arrived f y) ≡ length packet
  arrived_length f y = ap length (received_is crc k (length packet) f y) ∙ flips-length (sent y) _ ∙ sent_length y

  -- its verdict, and what becomes of an output, are those of a repair with right tables and an output of that length
  pub verdict_by_calls : (f y : ℕ) (out : List ℕ) → length out ≡ length packet
      → let s = arrived f y in let q = repair_request crc k limit steps firsts s out in
      (repair_call q ≡ accepted (verdict crc k limit s)) × (repair_output q ≡ output_for crc k limit s out)
  verdict_by_calls f y out h =
      let s = arrived f y in
      let q = repair_request crc k limit steps firsts s out in
      let roomy = copy_fit (length packet) (length packet) refl in
      let says : repair_call q ≡ accepted (verdict crc k limit s) =
      simp (arrived_length f y, h, clear 1, clear 2, clear 11, clear 3, clear 5, clear 6, ← roomy, clear 9, stamp_field_fits k (clear 10)) in
      (says, judge_accepted (repair_conditions q) _ _ (λ _. out) (output_for crc k limit s out) says)

  -- ---- what a trial comes to ----

  -- none of a repair's conditions applies to what is received
  supposed : (f y : ℕ) → f ≤ most_flips → Supposed crc k limit (arrived f y)
  supposed f y h =
      let long = arrived_length f y in
      record {
        bytes = rw (flips_exactly f y h).2 (flips_bytes (sent y) (positions f y) (ascending_all (sent_positions f y h)) (sent_bytes y));
        numbered = refl;
        fit_generator = clear 1;
        fit_length = rw long (clear 2);
        fit_values = clear 11;
        fit_limit = clear 3;
        fit_range = rw long (clear 9);
        fit_check_field = stamp_field_fits k (clear 10);
      }

  -- without a flip the packet made is received, and that passes both checks
  unflipped_intact : (f y : ℕ) → f ≡ 0 → verdict crc k limit (arrived f y) ≡ intact
  unflipped_intact f y z =
      let none : positions f y ≡ [] = none_drawn (bits packet) (state_after (length packet) y) z in
      let whole : arrived f y ≡ sent y = received_is crc k (length packet) f y ∙ ap (flips (sent y)) none ∙ flips_nil (sent y) in
      (verdict_intact crc k limit (arrived f y)).1 (ap (passes_both crc k) whole ∙ sent_passes y)

  -- with at most N flips demand 3 has that none is not said, and that a repair is the packet made
  few_repaired : (f y : ℕ) → f ≤ most_flips → f ≤ limit → let s = arrived f y in let v = verdict crc k limit s in
      (v ≡ nothing → ⊥) × ((p : List ℕ) → v ≡ repaired p → flips s p ≡ sent y)
  few_repaired f y h few =
      let s = arrived f y in
      let e = flips_exactly f y h in
      let says = (verdict_by_calls f y packet refl).0 in
      let r = the_bits_flipped crc k limit s (supposed f y h) (record { steps = steps; firsts = firsts; output = packet }) (verdict crc k limit s)
      says (sent y) (positions f y) (sent_bytes y) (sent_positions f y h) (omega (arith, e.1)) e.2 (sent_passes y) in
      (r.0, λ p d. (r.1 p d).0)

  comes : (f y : ℕ) → f ≤ most_flips
      → let s = arrived f y in (length s ≡ length packet) × Allowed limit f (column (verdict crc k limit s) s (sent y))
  comes f y h = (arrived_length f y, column_allowed _ (arrived f y) (sent y) (unflipped_intact f y) (few_repaired f y h))

  -- ---- the counts ----

  -- the five counts from 5 f on are a row of n trials
  row : (f : ℕ) → f ≤ most_flips → Row limit f n (count f 0 ∷ count f 1 ∷ count f 2 ∷ count f 3 ∷ count f 4 ∷ [])
  row f h =
      rw (judge_accepted (simulate_conditions request) _ x (λ _. counts) (joined_rows (outcome request).counts) told)
      (row_joined crc k limit n seed packet output comes f h)

  -- each row adds up to the trials
  pub rows_add_up : (f : ℕ) → f ≤ most_flips → count f 0 + count f 1 + count f 2 + count f 3 + count f 4 ≡ n
  rows_add_up f h = row_adds (row f h)

  -- without a flip every trial is intact
  pub no_flips_intact : (count 0 0 ≡ n) × (count 0 1 ≡ 0) × (count 0 2 ≡ 0) × (count 0 3 ≡ 0) × (count 0 4 ≡ 0)
  no_flips_intact = row_unflipped (row 0 (omega arith))

  -- with at most N flips the counts of repaired otherwise and of none are 0
  pub few_flips_right : (f : ℕ) → f ≤ most_flips → f ≤ limit → (count f 2 ≡ 0) × (count f 4 ≡ 0)
  few_flips_right f h = row_few (row f h)

  -- the packet ends as last received, in the trial that began where its bytes and draws lead to the state answered
  pub ends_as_received : (y : ℕ) × (simulate_packet request ≡ arrived most_flips y) × (x ≡ state_after most_flips (state_after (length packet) y))
  ends_as_received =
      let last = last_received crc k limit n seed packet output comes (fit_trials n (clear 14)).0 in (
        last.0,
        judge_accepted (simulate_conditions request) _ x (λ _. packet) (outcome request).packet told ∙ last.1,
        sym (judge_value (simulate_conditions request) (outcome request).state x told) ∙ last.2,
      )
