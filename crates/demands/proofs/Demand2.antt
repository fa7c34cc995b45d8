-- Demand 2 (docs/RULES.md, section 10), sentence by sentence, about the calls: remainder_call, seal_call with seal_packet,
-- tables_call with steps_after and firsts_after, sum_call, and stamp_call with stamp_packet, which the contracts of the functions
-- equal.
use mathlib.Core.Path.{◌≡◌, sym, ap, subst, ◌∙◌}
use mathlib.Core.Bool.{true, false}
use mathlib.Core.Logic.{◌≢◌}
use mathlib.Core.List.{List}
use Prim.Native.Nat.{ℕ, ◌+◌, ◌-◌, ◌^◌, ◌<◌, ◌≤◌}
use native.Mathlib.Omega.{arith}
use borrow.Author.Tests.{eq-eqb, eqb-true}
use lib.Bits.{bit_xor}
use lib.ListN.{length, get_or}
use Rattle.base.specs.Lists.{All}
use Rattle.base.specs.Outcome.{refused, accepted}
use Rattle.base.proofs.JudgeLaws.{applied, judge_accepted, judge_value, judge_clear}
use Rattle.poly.specs.Polynomial.{degree, rem, powers}
use Rattle.poly.specs.Generators.{unfit, generator_of}
use Rattle.poly.specs.Fit.{Fit}
use Rattle.poly.specs.declared.Generator.{Generator}
use Rattle.poly.proofs.GeneratorLaws.{fit_accepted, fit_small}
use Rattle.poly.proofs.DivisionLaws.{quotient, remainder_unique}
use Rattle.packet.specs.Packet.{Bytes, bits, unfit_length, unfit_values, as_read, remainder, bit_at, flips}
use Rattle.packet.specs.declared.Crc.{Crc}
use Rattle.packet.proofs.PacketLaws.{fit_length, fit_values}
use Rattle.packet.proofs.FlipLaws.{flips-length}
use Rattle.packet.proofs.RemainderLaws.{remainder_lt, remainder-flips}
use Rattle.crc.specs.Calls.{sealed, packet_conditions, remainder_call, seal_call, seal_packet}
use Rattle.crc.proofs.SealLaws.{sealed-length, sealed-remainder, sealed-same, sealed_bit, sealed_only}
use Rattle.checksum.specs.Checksum.{total, reduced, range, field_of, passes, with_field, as_written, stamped}
use Rattle.checksum.specs.Calls.{sum_call, stamp_conditions, stamp_call, stamp_packet}
use Rattle.checksum.specs.declared.Check.{Check}
use Rattle.checksum.proofs.SumLaws.{sum-reduced}
use Rattle.checksum.proofs.RangeLaws.{sum_decides}
use Rattle.checksum.proofs.ConditionLaws.{FitRange, fit_range, fit_field}
use Rattle.checksum.proofs.StampLaws.{written_for_zero, ffff_sums_as_zero, stamped_is, stamped-length, stamped_bytes, stamped_field, stamped_not_zero, stamped_other, stamp_passes}
use Rattle.tables.specs.Tables.{power, period, step_table, first_table}
use Rattle.tables.specs.Calls.{tables_conditions, tables_call, steps_after, firsts_after}
use Rattle.tables.proofs.StepLaws.{step_is, step_inverts}
use Rattle.tables.proofs.PeriodLaws.{period_positive, power-period, period-least}
use Rattle.tables.proofs.FirstLaws.{first_hit, first-least, first_none, first_zero}
use Rattle.tables.proofs.TableLaws.{length-step_table, length-first_table, get_or_step_table, get_or_first_table}
use Rattle.verdicts.specs.Verdicts.{passes_both}
use Rattle.demands.specs.Demand2.{Numbered, Reads, Remains, Stepped, FirstAt, IsPeriod}
use Rattle.demands.proofs.ReadBits.{bits-read}
use Rattle.demands.proofs.SealedRangeLaws.{sealed-passes}

-- ---- remainders and seals are division of binary polynomials ----

module _ (c : Crc) (numbered : Numbered c) (s : List ℕ) (b : Bytes s) where
  numbered_fit : unfit c.generator.coefficients ≡ false → Fit c.generator
  numbered_fit h = subst Fit numbered (fit_accepted c.generator.coefficients h)

  -- what is divided is the packet with both values added, bit by bit
  pub the_bits-read : (r : ℕ) → remainder_call c s ≡ accepted r → Reads c s (as_read c s)
  the_bits-read r h =
      let clear = judge_clear (packet_conditions c (bits s)) (remainder c s) r h in
      let fit = numbered_fit (clear 1) in
      let small = fit_values c.generator.degree c.init c.xorout (clear 11) in
      let long = (fit_length c.generator.degree (bits s) (clear 2)).0 in
      bits-read c s (record { fit = fit; init = small.0; xorout = small.1; long = omega arith }) b

  pub the_remainder : (r : ℕ) → remainder_call c s ≡ accepted r → Remains c.generator.degree c.generator.coefficients (as_read c s) r
  unfolding remainder
  the_remainder r h =
      let n : ℕ = c.generator.degree in
      let g : ℕ = c.generator.coefficients in
      let d = (numbered_fit (judge_clear (packet_conditions c (bits s)) (remainder c s) r h 1)).divisor in
      let left : rem n g (as_read c s) ≡ r = judge_value (packet_conditions c (bits s)) (remainder c s) r h in
      subst (Remains n g (as_read c s)) left
      (record {
        quotient = quotient n g d.low d.high (as_read c s);
        below = remainder_lt c d s;
        only = remainder_unique n g d.low d.high (as_read c s);
      })

  -- flipping positions adds their powers of x, whatever the initial and the final value are
  pub flips-add : (r : ℕ) → remainder_call c s ≡ accepted r → (ps : List ℕ) → All (λ (p : ℕ). p < bits s) ps
      → remainder_call c (flips s ps) ≡ accepted (bit_xor r (rem c.generator.degree c.generator.coefficients (powers ps)))
  flips-add r h ps within =
      let ts = packet_conditions c (bits s) in
      let clear = judge_clear ts (remainder c s) r h in
      let d = (numbered_fit (clear 1)).divisor in
      let long : unfit_length c.generator.degree (bits (flips s ps)) ≡ false = rw (flips-length s ps) (clear 2) in
      let sum : remainder c (flips s ps) ≡ bit_xor r (rem c.generator.degree c.generator.coefficients (powers ps)) =
      remainder-flips c d s ps within b
      ∙ ap (λ (x : ℕ). bit_xor x (rem c.generator.degree c.generator.coefficients (powers ps))) (judge_value ts (remainder c s) r h) in
      simp (clear 1, long, clear 11) (ap accepted sum)

  -- what an accepted seal leaves
  module _ (h : seal_call c s ≡ accepted tt) where
    clear : unfit c.generator.coefficients ≡ false
    clear = judge_clear (packet_conditions c (bits s)) tt tt h 1

    clear_length : unfit_length c.generator.degree (bits s) ≡ false
    clear_length = judge_clear (packet_conditions c (bits s)) tt tt h 2

    longer : c.generator.degree ≤ bits s
    longer = omega (arith, (fit_length c.generator.degree (bits s) clear_length).0)

    leaves : seal_packet c s ≡ sealed c s
    leaves = judge_accepted (packet_conditions c (bits s)) tt tt (λ _. s) (sealed c s) h

    -- a sealed packet has remainder 0
    pub sealed_answers_zero : remainder_call c (seal_packet c s) ≡ accepted 0
    sealed_answers_zero =
        let d = (numbered_fit clear).divisor in
        let same = sealed-length c d s b longer in
        let long : unfit_length c.generator.degree (bits (sealed c s)) ≡ false = rw same clear_length in
        let values = judge_clear (packet_conditions c (bits s)) tt tt h 11 in
        ap (remainder_call c) leaves ∙ simp (clear, long, values, sealed-remainder c d s b longer)

    -- it is as long as before, and no bit but the last n changed
    pub seal_keeps : (length (seal_packet c s) ≡ length s)
        × ((p : ℕ) → c.generator.degree ≤ p → p < bits s → bit_at (seal_packet c s) p ≡ bit_at s p)
    seal_keeps =
        let d = (numbered_fit clear).divisor in
        rw leaves (sealed-length c d s b longer, sealed_bit c d s b longer)

    -- and no other packet is so
    pub seal_only : (t : List ℕ) → Bytes t → length s ≡ length t → ((p : ℕ) → c.generator.degree ≤ p → p < bits s → bit_at s p ≡ bit_at t p)
        → remainder_call c t ≡ accepted 0 → t ≡ seal_packet c s
    seal_only t bt same agree zero =
        let d = (numbered_fit clear).divisor in
        let none : remainder c t ≡ 0 = judge_value (packet_conditions c (bits t)) (remainder c t) 0 zero in
        sealed_only c d s b longer t bt same agree none ∙ sym leaves

  -- and what has remainder 0 is not changed by sealing
  pub zero_stays : remainder_call c s ≡ accepted 0 → (seal_call c s ≡ accepted tt) × (seal_packet c s ≡ s)
  zero_stays h =
      let ts = packet_conditions c (bits s) in
      let clear = judge_clear ts (remainder c s) 0 h in
      let d = (numbered_fit (clear 1)).divisor in
      let long : c.generator.degree ≤ bits s = omega (arith, (fit_length c.generator.degree (bits s) (clear 2)).0) in (
        judge_accepted ts (remainder c s) 0 refused (accepted tt) h,
        judge_accepted ts (remainder c s) 0 (λ _. s) (sealed c s) h
            ∙ sealed-same c d s b long (judge_value ts (remainder c s) 0 h),
      )

-- ---- so are both tables ----

module _ (g : ℕ) (a b : List ℕ) (p : ℕ) (h : tables_call g a b ≡ accepted p) where
  fit : Fit (generator_of g)
  fit = fit_accepted g (judge_clear (tables_conditions g (length a) (length b)) (period (degree g) g) p h 1)

  one : 1 ≤ degree g
  one = (fit_small (generator_of g) fit).positive

  steps_are : steps_after g a b ≡ step_table (degree g) g
  steps_are = judge_accepted (tables_conditions g (length a) (length b)) (period (degree g) g) p (λ _. a) (step_table (degree g) g) h

  firsts_are : firsts_after g a b ≡ first_table (degree g) g
  firsts_are = judge_accepted (tables_conditions g (length a) (length b)) (period (degree g) g) p (λ _. b) (first_table (degree g) g) h

  pub the_steps : (length (steps_after g a b) ≡ 2 ^ degree g)
      × ((s : ℕ) → s < 2 ^ degree g → Stepped (degree g) g s (get_or (steps_after g a b) s 0))
  the_steps =
      rw steps_are (
        length-step_table (degree g) g,
        λ s k.
            let d = fit.divisor in
            let i = step_inverts (degree g) g d s k in
            let e = step_is (degree g) g d s k in
            rw (get_or_step_table (degree g) g s k) (record { below = i.below; leaves = i.leaves; only = i.only; even = e.0; odd = e.1 }),
      )

  pub the_firsts : (length (firsts_after g a b) ≡ 2 ^ degree g)
      × ((s : ℕ) → s < 2 ^ degree g → FirstAt (degree g) g s (get_or (firsts_after g a b) s 0))
      × (get_or (firsts_after g a b) 0 0 ≡ 65535)
  unfolding power
  the_firsts =
      let d = fit.divisor in
      let least : (s q : ℕ) → power (degree g) g q ≡ s → _ ≤ q = λ s q e. rw e at (first-least (degree g) g d one q) in
      rw firsts_are (
        length-first_table (degree g) g,
        λ s k.
            rw (get_or_first_table (degree g) g s k)
            (record { leaves = first_hit (degree g) g d one s k; least = least s; absent = first_none (degree g) g d one fit.most s k }),
        get_or_first_table (degree g) g 0 (omega (arith, (fit_small (generator_of g) fit).least)) ∙ first_zero (degree g) g d one fit.most,
      )

  pub the_period : IsPeriod (degree g) g p
  unfolding power
  the_period =
      let d = fit.divisor in
      subst (IsPeriod (degree g) g) (judge_value (tables_conditions g (length a) (length b)) (period (degree g) g) p h)
      (record {
        positive = period_positive (degree g) g d one;
        one = power-period (degree g) g d one;
        least = period-least (degree g) g d one;
      })

-- ---- sums and stamps are RFC 1071 ----

-- the plain total of the big-endian words, reduced
pub the_sum : (s : List ℕ) → Bytes s → sum_call s ≡ reduced (total s)
the_sum s b = sum-reduced s b

module _ (g : ℕ) (k : Check) (s : List ℕ) (b : Bytes s) (h : stamp_call g k s ≡ accepted tt) where
  conditions_clear : (i : ℕ) → applied i (stamp_conditions g (bits s) k) ≡ false
  conditions_clear = judge_clear (stamp_conditions g (bits s) k) tt tt h

  inside : k.to ≤ length s
  inside = omega (arith, fit_range (degree g) (bits s) k (conditions_clear 9))

  field_inside_lem : k.field + 1 < length s
  field_inside_lem = let fits = fit_field k (conditions_clear 10) in omega (arith, inside)

  stamp_leaves : stamp_packet g k s ≡ stamped k s
  stamp_leaves = judge_accepted (stamp_conditions g (bits s) k) tt tt (λ _. s) (stamped k s) h

  -- a packet passes the second check after an accepted stamp
  pub stamp_made_to_pass : passes k (stamp_packet g k s) ≡ true
  stamp_made_to_pass = ap (passes k) stamp_leaves ∙ stamp_passes k s b inside (conditions_clear 10)

  -- the packet is as long as before, its field holds what the sum of the range, with zeros in the field, lacks to FFFFh, written as FFFFh
  -- where that is 0, and no other byte changed
  pub stamp_writes : (length (stamp_packet g k s) ≡ length s)
      × (field_of k.field (stamp_packet g k s) ≡ as_written (65535 - sum_call (range k.from k.to (with_field k.field 0 s))))
      × ((i : ℕ) → (i ≡ k.field → ⊥) → (i ≡ k.field + 1 → ⊥) → get_or (stamp_packet g k s) i 0 ≡ get_or s i 0)
  stamp_writes = rw stamp_leaves (stamped-length k s, stamped_field k s field_inside_lem, stamped_other k s)

  -- so it never says that no checksum was made
  pub stamp_never_zero : field_of k.field (stamp_packet g k s) ≢ 0
  stamp_never_zero = rw stamp_leaves (stamped_not_zero k s field_inside_lem)

  -- and it is by the sum that it passes, whatever was computed: the range is not empty, and its sum is FFFFh
  pub stamped-sum : (k.from < k.to) × (sum_call (range k.from k.to (stamp_packet g k s)) ≡ 65535)
  stamped-sum =
      let fits = fit_field k (conditions_clear 10) in
      let some : k.from < k.to = omega arith in
      (some, eqb-true _ _ (sym (sum_decides k (stamp_packet g k s) (λ e. omega arith) stamp_never_zero) ∙ stamp_made_to_pass))

  -- to the sum FFFFh is as good as 0: where 0 was computed, the stamped range has the sum that it has with 0 in the field
  pub ffff_as_good_as_zero : 65535 - sum_call (range k.from k.to (with_field k.field 0 s)) ≡ 0
      → sum_call (range k.from k.to (stamp_packet g k s)) ≡ sum_call (range k.from k.to (with_field k.field 0 s))
  ffff_as_good_as_zero h =
      let written : stamp_packet g k s ≡ with_field k.field 65535 s = stamp_leaves ∙ stamped_is k s ∙ ap (λ (v : ℕ). with_field k.field v s) (written_for_zero _ h) in
      ap (λ (l : List ℕ). sum_call (range k.from k.to l)) written
      ∙ ffff_sums_as_zero k s b inside (fit_field k (conditions_clear 10)) (λ e. omega (arith, e, h))

  -- stamped and then sealed, by accepted initial and final values, a packet passes both checks
  pub stamp_and_seal : (c : Crc) → generator_of g ≡ c.generator → unfit_values c.generator.degree c.init c.xorout ≡ false
      → passes_both c k (seal_packet c (stamp_packet g k s)) ≡ true
  unfolding passes_both
  stamp_and_seal c made values =
      let t = stamped k s in
      let bt = stamped_bytes k s b in
      let same = stamped-length k s in
      let fit : Fit c.generator = subst Fit made (fit_accepted g (conditions_clear 1)) in
      let d = fit.divisor in
      let range : FitRange c.generator.degree (bits t) k =
      rw same (subst (λ (w : Generator). FitRange w.degree (bits s) k) made (fit_range (degree g) (bits s) k (conditions_clear 9))) in
      let long : c.generator.degree ≤ bits t = omega (arith, range.whole) in
      let generators : unfit c.generator.coefficients ≡ false = subst (λ (w : Generator). unfit w.coefficients ≡ false) made (conditions_clear 1) in
      let lengths : unfit_length c.generator.degree (bits t) ≡ false =
      rw same (subst (λ (w : Generator). unfit_length w.degree (bits s) ≡ false) made (conditions_clear 2)) in
      let whole : seal_packet c (stamp_packet g k s) ≡ sealed c t = ap (seal_packet c) stamp_leaves ∙ simp (generators, lengths, values) in
      rw whole
      (simp (
        eq-eqb _ _ (sealed-remainder c d t bt long),
        sealed-passes c k t d bt range (λ _. (fit_field k (conditions_clear 10)).within),
        stamp_passes k s b inside (conditions_clear 10),
      ))
