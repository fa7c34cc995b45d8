-- The table of first positions by a rule between an entry and the entry at its step, so that one pass verifies it.
-- Why the rule forces the whole table: from 1 on the powers count up from 0; and at a remainder that no power leaves, an entry
-- below 65535 would have one less at its step, and so on without end.
use mathlib.Core.Path.{◌≡◌, refl, sym, ap, ap₂, subst, ◌∙◌}
use mathlib.Core.List.{List}
use mathlib.Core.Logic.{◌↔◌}
use Prim.Native.Nat.{ℕ, zero, suc, ◌+◌, ◌*◌, ◌/◌, ◌%◌, ◌^◌, ◌<◌, ◌≤◌}
use native.Mathlib.Omega.{arith}
use native.Mathlib.Nat.{one-mul}
use lib.Bits.{bit_xor}
use lib.ListN.{length, get_or}
use lib.Pow.{pow_mono, pow_pos}
use Rattle.base.proofs.Cases.{by_order, by_equal, by_parity}
use Rattle.poly.specs.Polynomial.{reduce}
use Rattle.poly.specs.Fit.{Divisor}
use Rattle.poly.proofs.BackLaws.{rem_twice}
use Rattle.tables.specs.Tables.{entry_bits, power, step, first, period, step_table, first_table}
use Rattle.tables.proofs.StepLaws.{step_is, step_halves, step_inverts}
use Rattle.tables.proofs.PowerLaws.{power_lt, power_suc, power_zero, power_nonzero, step-power}
use Rattle.tables.proofs.PeriodLaws.{period_positive, period-least, power-period}
use Rattle.tables.proofs.FirstLaws.{first_hit, first_early, first_below, first_none, first_zero, first_present, period_narrow}
use Rattle.tables.proofs.TableLaws.{get_or_step_table, step_table_by_entries, get_or_first_table, first_table_by_powers}
use Rattle.verifying.specs.Rule.{later, EvenRuled, OddRuled}

-- entry s is one position after the entry at its step, save where s is 0 or 1
pub record Ruled (n g : ℕ) (l : List ℕ) : Type 0 where
  pub zeroth : get_or l 0 0 ≡ 65535
  pub one : get_or l 1 0 ≡ 0
  pub more : (s : ℕ) → 2 ≤ s → s < 2 ^ n → get_or l s 0 ≡ later (get_or l (step n g s) 0)

pow_even : (n : ℕ) → 1 ≤ n → 2 ^ n % 2 ≡ 0
pow_even zero h = absurd (omega arith)
pow_even (suc n) h = omega arith

module _ (n g : ℕ) (d : Divisor n g) (at_least : 1 ≤ n) (at_most : n ≤ entry_bits) where
  -- a power whose step is known
  from_step : (s p : ℕ) → s < 2 ^ n → step n g s ≡ power n g p → power n g (suc p) ≡ s
  from_step s p b e =
      let i = step_inverts n g d s b in
      power_suc n g d p ∙ ap (λ (x : ℕ). reduce n g (x * 2)) (sym e) ∙ sym (rem_twice n g d (step n g s) i.below) ∙ i.leaves

  to_step : (s p : ℕ) → 2 ≤ s → power n g p ≡ s → (q : ℕ) × (power n g q ≡ step n g s)
  to_step s zero h e = absurd (omega (arith, power_zero n g d at_least))
  to_step s (suc p) h e = (p, sym (step-power n g d p) ∙ ap (step n g) e)

  none_before : (s : ℕ) → s < 2 ^ n → ((p : ℕ) → power n g p ≡ s → ⊥) → (p : ℕ) → power n g p ≡ step n g s → ⊥
  none_before s b none p e = none (suc p) (from_step s p b (sym e))

  two_powers : 2 ≤ 2 ^ n
  two_powers = omega (arith, pow_mono {i = 1} {j = n} at_least)

  -- the table obeys the rule
  follows : (s p : ℕ) → 2 ≤ s → s < 2 ^ n → p < period n g → power n g p ≡ step n g s → first n g s ≡ suc p
  follows s p h b l e =
      let hit = from_step s p b (sym e) in
      by_equal (suc p) (period n g)
      (λ c. absurd (omega (arith, sym hit ∙ ap (power n g) c ∙ power-period n g d at_least)))
      (λ ne. ap (first n g) (sym hit) ∙ first_below n g d at_least (suc p) (omega arith))

  first_ruled : (s : ℕ) → 2 ≤ s → s < 2 ^ n → first n g s ≡ later (first n g (step n g s))
  first_ruled s h b =
      let t : ℕ = step n g s in
      by_order (first n g t) 65535
      (λ l.
      let low = (step_inverts n g d s b).below in
      omega (arith, follows s (first n g t) h b (first_early n g d at_least t low l) (first_hit n g d at_least t low l)))
      (λ l.
      let none : (p : ℕ) → power n g p ≡ t → ⊥ = λ p e. omega (arith, first_present n g d at_least at_most t p e) in
      let at-step = (first_none n g d at_least at_most t (step_inverts n g d s b).below).1 none in
      let here = (first_none n g d at_least at_most s b).1 (λ p e. let q = to_step s p h e in none q.0 q.1) in
      omega arith)

  pub rule_first : Ruled n g (first_table n g)
  rule_first = record {
    zeroth = get_or_first_table n g 0 (pow_pos n) ∙ first_zero n g d at_least at_most;
    one =
        get_or_first_table n g 1 two_powers
        ∙ ap (first n g) (sym (power_zero n g d at_least))
        ∙ first_below n g d at_least 0 (omega (arith, period_positive n g d at_least));
    more = λ s h b.
        get_or_first_table n g s b
        ∙ first_ruled s h b
        ∙ ap later (sym (get_or_first_table n g (step n g s) (step_inverts n g d s b).below));
  }

  -- a list that obeys it
  module _ (l : List ℕ) (fits : (i : ℕ) → get_or l i 0 < 65536) (rule : Ruled n g l) where
    counts_up : (p : ℕ) → p < period n g → get_or l (power n g p) 0 ≡ p
    counts_up zero h =
        ap (λ (x : ℕ). get_or l x 0) (power_zero n g d at_least) ∙ rule.one
    counts_up (suc p) h =
        let s : ℕ = power n g (suc p) in
        let more : 2 ≤ s =
        by_equal s 1 (λ e. absurd (omega (arith, period-least n g d at_least (suc p) (omega arith) e)))
        (λ ne. omega (arith, power_nonzero n g d at_least (suc p))) in
        let before : get_or l (step n g s) 0 ≡ p = ap (λ (x : ℕ). get_or l x 0) (step-power n g d p) ∙ counts_up p (omega arith) in
        omega (arith, rule.more s more (power_lt n g d (suc p)), period_narrow n g d at_least at_most)

    -- at a remainder that no power leaves, an entry below 65535 is one more than the entry at its step
    one_less : (f s : ℕ) → s < 2 ^ n → ((p : ℕ) → power n g p ≡ s → ⊥) → get_or l s 0 ≡ f → f < 65535 → get_or l (step n g s) 0 + 1 ≡ f
    one_less f s b none e h =
        by_equal s 0 (λ z. absurd (omega (arith, ap (λ (x : ℕ). get_or l x 0) z, rule.zeroth)))
        (λ nz. by_equal s 1 (λ o. absurd (none 0 (power_zero n g d at_least ∙ sym o)))
        (λ no. omega (arith, rule.more s (omega arith) b, fits (step n g s))))

    goes_down : (f s : ℕ) → s < 2 ^ n → ((p : ℕ) → power n g p ≡ s → ⊥) → get_or l s 0 ≡ f → f < 65535 → ⊥
    goes_down zero s b none e h = omega (arith, one_less zero s b none e h)
    goes_down (suc f) s b none e h =
        goes_down f (step n g s) (step_inverts n g d s b).below (none_before s b none) (omega (arith, one_less (suc f) s b none e h)) (omega arith)

    pub first_rule : length l ≡ 2 ^ n → l ≡ first_table n g
    first_rule e =
        first_table_by_powers n g d at_least at_most l e counts_up
        (λ s b none. by_order (get_or l s 0) 65535 (λ k. absurd (goes_down (get_or l s 0) s b none refl k)) (λ k. omega (arith, fits s)))

  -- the rule by even and odd places, where steps are halves
  module _ (l : List ℕ) (full : length l ≡ 2 ^ n) where
    step_double : (k : ℕ) → k * 2 < 2 ^ n → step n g (k * 2) ≡ k
    step_double k h = (step_is n g d (k * 2) h).0 (omega arith) ∙ omega arith

    step_double_one : (k : ℕ) → k * 2 + 1 < 2 ^ n → step n g (k * 2 + 1) ≡ bit_xor k (g / 2)
    step_double_one k h =
        let half : (k * 2 + 1) / 2 ≡ k = omega arith in
        let digit : (k * 2 + 1) % 2 * (g / 2) ≡ g / 2 = ap (λ (x : ℕ). x * (g / 2)) (omega arith) ∙ one-mul (g / 2) in
        step_halves n g d (k * 2 + 1) h ∙ ap₂ bit_xor half digit

    -- half of the entries are at even places, and half at odd ones
    below_half : (k : ℕ) → (k < length l / 2) ↔ (k * 2 + 1 < 2 ^ n)
    below_half k = let even = pow_even n at_least in omega arith

    by_places : (P : ℕ → Type 0) → ((k : ℕ) → k < length l / 2 → P (k * 2)) → ((k : ℕ) → k < length l / 2 → P (k * 2 + 1))
        → (s : ℕ) → s < 2 ^ n → P s
    by_places P even odd s b =
        let whole = pow_even n at_least in
        by_parity s
        (λ e. subst P (omega arith) (even (s / 2) ((below_half (s / 2)).1 (omega arith))))
        (λ o. subst P (omega arith) (odd (s / 2) ((below_half (s / 2)).1 (omega arith))))

    pub ruled_by_parity : get_or l 0 0 < 65536 → get_or l 1 0 ≡ 0 → EvenRuled l → OddRuled (g / 2) l → Ruled n g l
    ruled_by_parity fits one even odd = record {
      zeroth = omega (arith, even 0 ((below_half 0).1 two_powers));
      one = one;
      more = λ s h b.
          by_places (λ (s : ℕ). 2 ≤ s → get_or l s 0 ≡ later (get_or l (step n g s) 0))
          (λ k i m. even k i ∙ ap (λ (x : ℕ). later (get_or l x 0)) (sym (step_double k (omega (arith, (below_half k).0 i)))))
          (λ k i m. odd k i (omega arith) ∙ ap (λ (x : ℕ). later (get_or l x 0)) (sym (step_double_one k ((below_half k).0 i))))
          s b h;
    }

    pub ruled_even : Ruled n g l → EvenRuled l
    ruled_even r zero h = omega (arith, r.zeroth)
    ruled_even r (suc k) h =
        let b = (below_half (suc k)).0 h in
        r.more (suc k * 2) (omega arith) (omega arith) ∙ ap (λ (x : ℕ). later (get_or l x 0)) (step_double (suc k) (omega arith))

    pub ruled_odd : Ruled n g l → OddRuled (g / 2) l
    ruled_odd r k h p =
        let b = (below_half k).0 h in
        r.more (k * 2 + 1) (omega arith) b ∙ ap (λ (x : ℕ). later (get_or l x 0)) (step_double_one k b)

    -- the step table by even and odd places
    pub step_rule : ((k : ℕ) → k < length l / 2 → (get_or l (k * 2) 0 ≡ k) × (get_or l (k * 2 + 1) 0 ≡ bit_xor k (g / 2))) ↔ (l ≡ step_table n g)
    step_rule = (
      (λ rule. step_table_by_entries n g l full
          (by_places (λ (s : ℕ). get_or l s 0 ≡ step n g s)
          (λ k i. (rule k i).0 ∙ sym (step_double k (omega (arith, (below_half k).0 i))))
          (λ k i. (rule k i).1 ∙ sym (step_double_one k ((below_half k).0 i))))),
      (λ e k h.
          let b = (below_half k).0 h in
          let entry : (s : ℕ) → s < 2 ^ n → get_or l s 0 ≡ step n g s = λ s c. ap (λ (x : List ℕ). get_or x s 0) e ∙ get_or_step_table n g s c in
          (entry (k * 2) (omega arith) ∙ step_double k (omega arith), entry (k * 2 + 1) b ∙ step_double_one k b)),
    )

    -- the step of an odd place is a place of the table
    pub odd_step_lt : (k : ℕ) → k < length l / 2 → bit_xor k (g / 2) < length l
    odd_step_lt k h =
        let b = (below_half k).0 h in
        omega (arith, step_double_one k b, (step_inverts n g d (k * 2 + 1) b).below)

    -- what the three tests of a table of first positions mean together
    pub first_rules : ((i : ℕ) → get_or l i 0 < 65536) → (l ≡ first_table n g) ↔ (EvenRuled l × OddRuled (g / 2) l × (get_or l 1 0 ≡ 0))
    first_rules fits = (
      (λ e.
          let r : Ruled n g l = rw e (rule_first) in
          (ruled_even r, ruled_odd r, r.one)),
      (λ h. first_rule l fits (ruled_by_parity (fits 0) h.2 h.0 h.1) full),
    )
