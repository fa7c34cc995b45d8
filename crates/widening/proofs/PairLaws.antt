-- Spans that no pair has: by the nearest partner of each position.
use mathlib.Core.Path.{◌≡◌, refl, sym, ap, ◌∙◌}
use mathlib.Core.List.{List, [], ◌∷◌}
use Prim.Native.Nat.{ℕ, ◌+◌, ◌-◌, ◌<◌, ◌≤◌}
use native.Mathlib.Omega.{arith}
use lib.Bits.{bit_xor, xor_comm}
use lib.ListN.{length}
use Rattle.base.proofs.Cases.{by_order}
use Rattle.base.proofs.XorLaws.{xor_cancel, xor_zero_equal}
use Rattle.placing.specs.Placing.{xor_all, Nearest}
use Rattle.spans.specs.Spans.{OfSpan}
use Rattle.widening.specs.Widening.{Spanless}

module _ (power : ℕ → ℕ) (l u : ℕ) where
  -- every pair that begins below a and has a span of at least d has one of at least e; where a pair begins at c, its other position has
  -- the power that is left
  abbrev pub Pairs : ℕ → ℕ → ℕ → Type 0
  Pairs d e a = (c f : ℕ) → c < a → d ≤ f → c + f < l → power (c + f) ≡ bit_xor u (power c) → e ≤ f

  nothing : (ps : List ℕ) → length ps ≡ 0 → xor_all power ps ≡ 0
  unfolding xor_all
  nothing [] e = refl
  nothing (p ∷ ps) e = absurd (omega arith)

  rest : (x y z : ℕ) → z ≡ bit_xor x y → y ≡ bit_xor x z
  rest x y z e = sym (ap (bit_xor x) e ∙ xor_cancel x y)

  of_two : (f : ℕ) (ps : List ℕ) → OfSpan power l 0 u f 0 ps → (c : ℕ) × (c + f < l) × (power (c + f) ≡ bit_xor u (power c))
  of_two f ps (c, h, i, (qs, e, m)) =
      let z : u ≡ bit_xor (power c) (power (c + f)) = xor_zero_equal u (bit_xor (power c) (power (c + f))) (sym m.sums ∙ nothing qs m.counts) in
      (c, i, rest (power c) (power (c + f)) u z ∙ xor_comm (power c) u)

  pub pairs_spanless : (d e a : ℕ) → l ≤ a + d → Pairs d e a → Spanless power l 0 u d e
  pairs_spanless d e a h p f i j ps m = let r = of_two f ps m in omega (arith, p r.0 f (omega (arith, r.1)) i r.1 r.2)

  -- one smallest position more: its nearest partner is at b
  pub pairs_turn : (d e a b v from least : ℕ) → v ≡ bit_xor u (power a) → from ≡ a + d → Nearest power l from v b → Pairs d e a → least ≤ e → (b < l → least ≤ b - a)
      → Pairs d least (a + 1)
  pairs_turn d e a b v from least sum start near p h k c f i j m q =
      by_order c a (λ lt. omega (arith, p c f lt j m q))
      (λ ge.
      let same : c ≡ a = omega arith in
      by_order (a + f) b
      (λ lt. absurd (near.skipped (a + f) (omega arith) lt (omega arith) (sym (ap (λ (x : ℕ). power (x + f)) same) ∙ q ∙ ap (λ (x : ℕ). bit_xor u (power x)) same ∙ sym sum)))
      (λ ge. omega (arith, k (omega arith))))
