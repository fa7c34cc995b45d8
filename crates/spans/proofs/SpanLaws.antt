-- The sets of one span, by their smallest positions: their place in the order, and what a search tells that goes through their ends with
-- another search between them.
use mathlib.Core.Path.{◌≡◌, refl, sym, ap, ap₂, ◌∙◌}
use mathlib.Core.Bool.{Bool, true, false}
use mathlib.Core.Logic.{◌⊎◌, inl, inr}
use mathlib.Core.List.{List}
use Prim.Native.Nat.{ℕ, suc, ◌+◌, ◌<◌, ◌≤◌}
use native.Mathlib.Omega.{arith}
use lib.Bits.{bit_xor}
use Rattle.base.proofs.Cases.{by_equal}
use Rattle.patterns.specs.Order.{lower, before}
use Rattle.patterns.specs.StrictOrder.{Foremost}
use Rattle.placing.specs.Placing.{first_from, answer}
use Rattle.spans.specs.Spans.{Finds, Summing, framed, Between, OfSpan}
use Rattle.spans.proofs.FindLaws.{finds_in_first, finds_in_second, first_finds}
use Rattle.spans.proofs.FrameLaws.{framed-before, narrower_framed, lower-framed}

module _ (power : ℕ → ℕ) (k u : ℕ) where
  pub further_later : (a c d : ℕ) {x y : List ℕ} → a < c → Between power k u a (a + d) x → Between power k u c (c + d) y → before x y ≡ true
  further_later a c d h (ps, e, m) (qs, f, n) = rw (e, f) (lower-framed a (a + d) c (c + d) ps qs (m.counts ∙ sym n.counts) (omega arith) h)

  pub wider_later : (a d c e : ℕ) {x y : List ℕ} → d < e → Between power k u a (a + d) x → Between power k u c (c + e) y → before x y ≡ true
  wider_later a d c e h (ps, i, m) (qs, j, n) = rw (i, j) (narrower_framed a (a + d) c (c + e) ps qs (m.counts ∙ sym n.counts) (omega arith))

  -- ---- what a search tells ----

  -- between the ends
  framed_finds : (a b : ℕ) (r : Bool) (ps : List ℕ) → Finds lower (Summing power b k (suc a) (bit_xor u (bit_xor (power a) (power b)))) r ps
      → Finds before (Between power k u a b) r (framed a b ps)
  framed_finds a b true ps f =
      record {
        meets = (ps, refl, f.meets);
        others_after = λ y m ne.
            rw m.1 (framed-before a b ps m.0 (f.meets.counts ∙ sym m.2.counts) ∙ f.others_after m.0 m.2 (λ e. ne (m.1 ∙ ap (framed a b) e)));
      }
  framed_finds a b false ps f = λ y m. f m.0 m.2

  module _ (l : ℕ) where
    -- one smallest position, and those past it
    of_split : (d a : ℕ) (qs : List ℕ) → OfSpan power l k u d a qs → Between power k u a (a + d) qs ⊎ OfSpan power l k u d (a + 1) qs
    of_split d a qs (c, h, i, m) = by_equal a c (λ e. inl (rw e m)) (λ e. inr (c, omega arith, i, m))

    span_hit : (d a : ℕ) (x : List ℕ) → a + d < l → Foremost before (Between power k u a (a + d)) x → Foremost before (OfSpan power l k u d a) x
    span_hit d a x h e =
        finds_in_first before (OfSpan power l k u d a) (Between power k u a (a + d)) (OfSpan power l k u d (a + 1)) x (λ b m. (a, omega arith, h, m)) (of_split d a)
        (λ b c m n. further_later a n.0 d (omega (arith, n.1)) m n.3) e

    span_miss : (d a : ℕ) (r : Bool) (x : List ℕ) → ((y : List ℕ) → Between power k u a (a + d) y → ⊥)
        → Finds before (OfSpan power l k u d (a + 1)) r x → Finds before (OfSpan power l k u d a) r x
    span_miss d a r x none =
        finds_in_second before (OfSpan power l k u d a) (Between power k u a (a + d)) (OfSpan power l k u d (a + 1)) r x
        (λ b m. (m.0, omega (arith, m.1), m.2, m.3)) (of_split d a) none

    pub span_past : (d a : ℕ) → l ≤ a + d → (y : List ℕ) → OfSpan power l k u d a y → ⊥
    span_past d a h y (c, i, j, m) = omega arith

    -- one turn: what a search between the ends told, at places that are given by equations
    module _ (a b d : ℕ) (at : b ≡ a + d) (some : 1 ≤ d) (l' k' from v : ℕ) (below : l' ≡ b) (count : k' ≡ k) (past : from ≡ a + 1)
        (sum : v ≡ bit_xor u (bit_xor (power a) (power b))) (r : Bool) (ys : List ℕ) (told : answer r ys ≡ first_from power l' k' from v) where
      turned : Finds before (Between power k u a (a + d)) r (framed a (a + d) ys)
      turned =
          let e : a + 1 ≡ suc a = omega arith in
          framed_finds a (a + d) r ys
          (first_finds power (a + d) k (suc a) (bit_xor u (bit_xor (power a) (power (a + d)))) (omega arith) r ys
          (told
          ∙ ap₂ (λ (i j : ℕ). first_from power i j from v) (below ∙ at) count
          ∙ ap₂ (λ (i j : ℕ). first_from power (a + d) k i j) (past ∙ e) (sum ∙ ap (λ (x : ℕ). bit_xor u (bit_xor (power a) (power x))) at)))

      pub turn_hit : r ≡ true → a + d < l → Foremost before (OfSpan power l k u d a) (framed a b ys)
      turn_hit e h = rw at (span_hit d a (framed a (a + d) ys) h (rw e at turned))

      pub turn_miss : r ≡ false → (q : Bool) (x : List ℕ) → Finds before (OfSpan power l k u d (a + 1)) q x → Finds before (OfSpan power l k u d a) q x
      turn_miss e q x f = span_miss d a q x (rw e at turned) f
