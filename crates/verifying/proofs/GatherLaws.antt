-- Mismatches gathered with OR: the gathered number is 0 exactly when all that was passed agrees.
use mathlib.Core.Path.{◌≡◌, refl, sym, ap, ap₂, ◌∙◌}
use mathlib.Core.Bool.{◌&&◌}
use mathlib.Core.Logic.{◌↔◌}
use Prim.Native.Nat.{ℕ, ◌+◌, ◌<◌, ◌≤◌}
use native.Mathlib.Omega.{arith}
use borrow.Author.Tests.{eqb-true, eq-eqb, eqb-false, ne_eqb}
use Rattle.std.specs.Bool.{IsTrue}
use borrow.Author.Count.{below_more}
use lib.Dec.{eqb}
use lib.ListN.{length, get_or, drop, get_or-append, length-drop, length-append}
use lib.Seq.{drop-append_seam, drop-drop, get_or-drop}
use mathlib.Core.List.{List, ◌++◌}
use lib.Bits.{bit_xor, bit_or, or_add_and, and_le_l, and_le_r, or_zero_l, xor_self}
use Rattle.base.proofs.Cases.{by_test}
use Rattle.base.proofs.XorLaws.{xor_zero_equal}

-- a mismatch of two numbers, and of either of two pairs
pub mismatch : (a r b : ℕ) → r ≡ b → (bit_xor a r ≡ 0) ↔ (a ≡ b)
mismatch a r b e = ((λ z. xor_zero_equal a r z ∙ e), (λ h. ap (bit_xor a) (e ∙ sym h) ∙ xor_self a))

pub or_zero : (a b : ℕ) → (bit_or a b ≡ 0) ↔ ((a ≡ 0) × (b ≡ 0))
or_zero a b = (
  (λ e. (omega (arith, or_add_and a b, and_le_r a b), omega (arith, or_add_and a b, and_le_l a b))),
  (λ e. ap₂ bit_or e.0 e.1),
)

pub or_eqb_zero : (a b : ℕ) → eqb (bit_or a b) 0 ≡ (eqb a 0 && eqb b 0)
or_eqb_zero a b =
    by_test (eqb a 0)
    (λ e. rw e (ap (λ (x : ℕ). eqb x 0) (ap (λ (x : ℕ). bit_or x b) (eqb-true a 0 e) ∙ or_zero_l b)))
    (λ e. rw e (ne_eqb _ _ (λ z. eqb-false a 0 e ((or_zero a b).0 z).0)))

-- 0 exactly when P holds of every number below i
abbrev pub Gathered : (ℕ → Type 0) → ℕ → ℕ → Type 0
Gathered P i wrong = (wrong ≡ 0) ↔ ((k : ℕ) → k < i → P k)

module _ (P : ℕ → Type 0) where
  pub gathered_none : Gathered P 0 0
  gathered_none = ((λ e k h. absurd (omega arith)), λ h. refl)

  pub gathered_more : (i wrong new : ℕ) → Gathered P i wrong → ((new ≡ 0) ↔ P i) → Gathered P (i + 1) (bit_or wrong new)
  gathered_more i wrong new g h = (
    (λ e. let z = (or_zero wrong new).0 e in below_more P i (g.0 z.0) (h.0 z.1)),
    (λ all. (or_zero wrong new).1 (g.1 (λ k l. all k (omega arith)), h.1 (all i (omega arith)))),
  )

  -- the answer to a pass over all m
  pub gathered_answer : (i m wrong : ℕ) → i ≡ m → Gathered P i wrong → IsTrue (eqb wrong 0) ↔ ((k : ℕ) → k < m → P k)
  gathered_answer i m wrong e g = (
    (λ t k h. g.0 (eqb-true wrong 0 t) k (omega arith)),
    (λ all. eq-eqb wrong 0 (g.1 (λ k h. all k (omega arith)))),
  )

-- ---- a pair cut off what is left from place i on ----

pub record Cut (l pair rest : List ℕ) (i : ℕ) : Type 0 where
  pub even : get_or pair 0 0 ≡ get_or l i 0
  pub odd : get_or pair 1 0 ≡ get_or l (i + 1) 0
  pub left : rest ≡ drop (i + 2) l
  pub inside : i + 2 ≤ length l

pub cut : (l pair rest : List ℕ) (i : ℕ) → drop i l ≡ pair ++ rest → length pair ≡ 2 → Cut l pair rest i
cut l pair rest i e two =
    let at : (j : ℕ) → j < 2 → get_or pair j 0 ≡ get_or l (i + j) 0 =
    λ j h. sym (get_or-append pair rest 0 j (omega arith)) ∙ ap (λ (x : List ℕ). get_or x j 0) (sym e) ∙ get_or-drop i l j 0 in
    record {
      even = at 0 (omega arith) ∙ ap (λ (x : ℕ). get_or l x 0) (omega arith);
      odd = at 1 (omega arith);
      left = sym (drop-append_seam pair rest) ∙ ap₂ (λ (x : ℕ) (y : List ℕ). drop x y) two (sym e) ∙ drop-drop 2 i l;
      inside = omega (arith, ap length e, length-drop i l, length-append pair rest);
    }
