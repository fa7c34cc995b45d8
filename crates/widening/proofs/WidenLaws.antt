-- The sets of one count by their spans: one span, and those beyond it.
use mathlib.Core.Path.{◌≡◌, sym, ap, ◌∙◌}
use mathlib.Core.Bool.{Bool}
use mathlib.Core.Logic.{◌⊎◌, inl, inr, ◌↔◌}
use mathlib.Core.List.{List}
use Prim.Native.Nat.{ℕ, suc, ◌+◌, ◌-◌, ◌≤◌}
use native.Mathlib.Omega.{arith}
use lib.Bits.{bit_xor, xor_comm}
use lib.ListN.{length}
use Rattle.base.proofs.Cases.{by_order, by_equal}
use Rattle.base.proofs.XorLaws.{xor_cancel}
use Rattle.patterns.specs.Order.{before}
use Rattle.patterns.specs.StrictOrder.{Foremost}
use Rattle.placing.specs.Placing.{xor_all}
use Rattle.spans.specs.Spans.{Finds, Summing, framed, OfSpan}
use Rattle.spans.proofs.FindLaws.{finds_same, finds_in_first, finds_in_second}
use Rattle.spans.proofs.FrameLaws.{framed-length, framed-sum, framed_ascends, Framed, frame}
use Rattle.spans.proofs.SpanLaws.{wider_later}
use Rattle.widening.specs.Widening.{FromSpan, Spanless}

-- k + 2 positions below l with the sum u
module _ (power : ℕ → ℕ) (l k u : ℕ) where
  sum_between : (a b w : ℕ) (ps : List ℕ) → xor_all power (framed a b ps) ≡ w → xor_all power ps ≡ bit_xor w (bit_xor (power a) (power b))
  sum_between a b w ps e =
      sym (xor_cancel (bit_xor (power a) (power b)) (xor_all power ps))
      ∙ ap (bit_xor (bit_xor (power a) (power b))) (sym (framed-sum power a b ps) ∙ e)
      ∙ xor_comm (bit_xor (power a) (power b)) w

  sum-framed : (a b w : ℕ) (ps : List ℕ) → xor_all power ps ≡ bit_xor w (bit_xor (power a) (power b)) → xor_all power (framed a b ps) ≡ w
  sum-framed a b w ps e =
      framed-sum power a b ps
      ∙ ap (bit_xor (bit_xor (power a) (power b))) (e ∙ xor_comm w (bit_xor (power a) (power b)))
      ∙ xor_cancel (bit_xor (power a) (power b)) w

  -- every set of two positions or more has a span of at least 1
  pub spanned : {n : ℕ} → n ≡ suc (suc k) → (qs : List ℕ) → Summing power l n 0 u qs ↔ FromSpan power l k u 1 qs
  spanned two qs = (
    λ m. let f = frame m.ascends k (m.counts ∙ two) in cut_at f.0 f.1 f.2 f.3 m.sums,
    λ s. let a = s.2.0 in
        let b : ℕ = a + s.0 in
        let ps = s.2.3.0 in
        let made = s.2.3.1 in
        let m = s.2.3.2 in
        record {
          ascends = rw made (framed_ascends m.ascends (omega (arith, s.1)) s.2.2);
          counts = ap length made ∙ framed-length a b ps ∙ ap (λ (n : ℕ). suc (suc n)) m.counts ∙ sym two;
          sums = ap (xor_all power) made ∙ sum-framed a b u ps m.sums;
        },
  )
    where
      cut_at : (a b : ℕ) (ps : List ℕ) → Framed l k qs a b ps → xor_all power qs ≡ u → FromSpan power l k u 1 qs
      cut_at a b ps f e =
          let d : b ≡ a + (b - a) = omega (arith, f.apart) in (
            b - a,
            omega (arith, f.apart),
            (
              a,
              omega arith,
              omega (arith, f.below, f.apart),
              (
                ps,
                f.made ∙ ap (λ (x : ℕ). framed a x ps) d,
                rw (← d) (record { ascends = f.ascends; counts = f.counts; sums = sum_between a b u ps (sym (ap (xor_all power) f.made) ∙ e) }),
              ),
            ),
          )

  from_split : (d : ℕ) (qs : List ℕ) → FromSpan power l k u d qs → OfSpan power l k u d 0 qs ⊎ FromSpan power l k u (d + 1) qs
  from_split d qs (e, h, m) = by_equal d e (λ f. inl (rw f m)) (λ f. inr (e, omega arith, m))

  pub wide_hit : (d : ℕ) (x : List ℕ) → Foremost before (OfSpan power l k u d 0) x → Foremost before (FromSpan power l k u d) x
  wide_hit d x e =
      finds_in_first before (FromSpan power l k u d) (OfSpan power l k u d 0) (FromSpan power l k u (d + 1)) x (λ b m. (d, omega arith, m)) (from_split d)
      (λ b c m n. wider_later power k u m.0 d n.2.0 n.0 (omega (arith, n.1)) m.3 n.2.3) e

  pub wide_miss : (d : ℕ) (r : Bool) (x : List ℕ) → ((y : List ℕ) → OfSpan power l k u d 0 y → ⊥) → Finds before (FromSpan power l k u (d + 1)) r x → Finds before (FromSpan power l k u d) r x
  wide_miss d r x none =
      finds_in_second before (FromSpan power l k u d) (OfSpan power l k u d 0) (FromSpan power l k u (d + 1)) r x (λ b m. (m.0, omega (arith, m.1), m.2)) (from_split d) none

  pub wide_past : (d : ℕ) → l ≤ d → (y : List ℕ) → FromSpan power l k u d y → ⊥
  wide_past d h y (e, i, (c, j, g, m)) = omega arith

  -- spans that have no set may be left out
  pub spans_left_out : {d e : ℕ} → d ≤ e → Spanless power l k u d e → (r : Bool) (x : List ℕ) → Finds before (FromSpan power l k u e) r x → Finds before (FromSpan power l k u d) r x
  spans_left_out {d} {e} h none r x =
      finds_same before (FromSpan power l k u e) (FromSpan power l k u d) r x
      (λ b. (λ m. (m.0, omega (arith, m.1), m.2), λ m. by_order m.0 e (λ lt. absurd (none m.0 m.1 lt b m.2)) (λ ge. (m.0, ge, m.2))))

-- from the least span on they are all
pub all_spans : (power : ℕ → ℕ) (l n u : ℕ) → 2 ≤ n → (least : ℕ) → least ≡ 1 → (r : Bool) (x : List ℕ) → Finds before (FromSpan power l (n - 2) u least) r x
    → Finds before (Summing power l n 0 u) r x
all_spans power l n u h least one r x g =
    let two : n ≡ suc (suc (n - 2)) = omega arith in
    finds_same before (FromSpan power l (n - 2) u 1) (Summing power l n 0 u) r x
    (λ q. ((spanned power l (n - 2) u two q).1, (spanned power l (n - 2) u two q).0)) (rw one at g)
