-- Sets of two and of three positions of one span: nothing stands between the ends, or one position that is looked up.
use mathlib.Core.Path.{◌≡◌, refl, sym, ap, ◌∙◌}
use mathlib.Core.Bool.{Bool, true, false}
use mathlib.Core.List.{List, [], ◌∷◌}
use Rattle.std.proofs.Common.{Some, None}
use Prim.Native.Nat.{ℕ, ◌+◌, ◌<◌, ◌≤◌}
use native.Mathlib.Omega.{arith}
use borrow.Author.Tests.{eq-eqb, ne_eqb}
use lib.Bits.{bit_xor}
use lib.Dec.{eqb}
use lib.ListN.{length, set}
use Rattle.patterns.specs.Order.{before}
use Rattle.patterns.specs.StrictOrder.{Foremost}
use Rattle.placing.specs.Placing.{first_from, answer}
use Rattle.placing.proofs.HeadLaws.{first_from_zero}
use Rattle.placing.proofs.NearestLaws.{NearestIn, first_alone}
use Rattle.spans.specs.Spans.{Finds, OfSpan}
use Rattle.spans.proofs.SpanLaws.{turn_hit, turn_miss}

-- ---- two positions: nothing is left of the sum ----

module _ (power : ℕ → ℕ) (l u a b d : ℕ) (at : b ≡ a + d) (some : 1 ≤ d) (v : ℕ) (sum : v ≡ bit_xor u (bit_xor (power a) (power b))) where
  two_told : (r : Bool) → eqb 0 v ≡ r → answer r [] ≡ first_from power b 0 (a + 1) v
  two_told r e = sym (first_from_zero power b (a + 1) v ∙ ap (λ (x : Bool). answer x []) e)

  pub two_hit : v ≡ 0 → a + d < l → Foremost before (OfSpan power l 0 u d a) (a ∷ b ∷ [])
  two_hit e h = turn_hit power 0 u l a b d at some b 0 (a + 1) v refl refl refl sum true [] (two_told true (eq-eqb 0 v (sym e))) refl h

  pub two_miss : (v ≡ 0 → ⊥) → (q : Bool) (x : List ℕ) → Finds before (OfSpan power l 0 u d (a + 1)) q x → Finds before (OfSpan power l 0 u d a) q x
  two_miss e = turn_miss power 0 u l a b d at some b 0 (a + 1) v refl refl refl sum false [] (two_told false (ne_eqb 0 v (λ f. e (sym f)))) refl

-- ---- three positions: the one between is looked up ----

module _ (power : ℕ → ℕ) (l u a b d : ℕ) (at : b ≡ a + d) (some : 1 ≤ d) (from v : ℕ) (past : from ≡ a + 1) (sum : v ≡ bit_xor u (bit_xor (power a) (power b))) where
  pub three_hit : (c : ℕ) → NearestIn power b from v (Some c) → a + d < l → Foremost before (OfSpan power l 1 u d a) (a ∷ c ∷ b ∷ [])
  three_hit c near = turn_hit power 1 u l a b d at some b 1 from v refl refl past sum true (c ∷ []) (sym (first_alone power b from v (omega arith) (Some c) near)) refl

  pub three_miss : NearestIn power b from v None → (q : Bool) (x : List ℕ) → Finds before (OfSpan power l 1 u d (a + 1)) q x → Finds before (OfSpan power l 1 u d a) q x
  three_miss near = turn_miss power 1 u l a b d at some b 1 from v refl refl past sum false [] (sym (first_alone power b from v (omega arith) None near)) refl

pub set_three : (xs : List ℕ) (a b c : ℕ) → length xs ≡ 3 → set (set (set xs 0 a) 1 b) 2 c ≡ a ∷ b ∷ c ∷ []
set_three [] a b c h = absurd (omega arith)
set_three (x ∷ []) a b c h = absurd (omega arith)
set_three (x ∷ y ∷ []) a b c h = absurd (omega arith)
set_three (x ∷ y ∷ z ∷ []) a b c h = refl
set_three (x ∷ y ∷ z ∷ w ∷ xs) a b c h = absurd (omega arith)
