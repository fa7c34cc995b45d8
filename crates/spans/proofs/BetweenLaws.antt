-- What follows a set among those with the same ends: what follows, by positions, what is between them.
use mathlib.Core.Path.{◌≡◌, refl, sym, ap, ap₂, ◌∙◌}
use mathlib.Core.Bool.{Bool, true, false, true≢false}
use mathlib.Core.List.{List, [], ◌∷◌}
use Rattle.std.proofs.Common.{Option}
use Prim.Native.Nat.{ℕ, suc, ◌+◌, ◌<◌, ◌≤◌}
use native.Mathlib.Omega.{arith}
use lib.Bits.{bit_xor}
use lib.ListN.{length, get_or, set}
use Rattle.base.specs.Lists.{Ascending, ends, next}
use Rattle.base.proofs.Cases.{by_order}
use Rattle.base.proofs.ListLaws.{ascending_from}
use Rattle.patterns.specs.Order.{lower, before}
use Rattle.patterns.proofs.OrderLaws.{lower_more}
use Rattle.placing.specs.Placing.{Head, first_from, first_after, answer}
use Rattle.placing.proofs.HeadLaws.{or_else, onto, first_after_empty, first_after_cons}
use Rattle.placing.proofs.NearestLaws.{NearestIn, alone, first_alone}
use Rattle.spans.specs.Spans.{Finds, Summing, framed, Between, Behind}
use Rattle.spans.proofs.FindLaws.{finds_same, after_finds}
use Rattle.spans.proofs.FrameLaws.{Framed, framed-before}

-- what follows by positions begins no lower
not_lower : (p q : ℕ) (ps qs : List ℕ) → lower (p ∷ ps) (q ∷ qs) ≡ true → p ≤ q
not_lower p q ps qs t = by_order q p (λ h. absurd (true≢false (sym t ∙ lower_more p q ps qs h))) (λ h. h)

later_from : {b from : ℕ} {ps xs : List ℕ} → Ascending b from ps → Ascending b 0 xs → length xs ≡ length ps → lower ps xs ≡ true → Ascending b from xs
later_from ends ends e t = ends
later_from ends (next x y a) e t = absurd (omega arith)
later_from (next x y a) ends e t = absurd (omega arith)
later_from {from = from} (next {p = p} {ps = ps} x y a) (next {p = q} {ps = qs} u v c) e t =
    let h = not_lower p q ps qs t in
    next {from = from} {p = q} (omega arith) v c

-- a set that is cut at its ends, and what was told of what is between, at places that are given by equations
module _ (power : ℕ → ℕ) (u : ℕ) {l k : ℕ} {q : List ℕ} {a b : ℕ} {mid : List ℕ} (c : Framed l k q a b mid) (l' v : ℕ) (below : l' ≡ b)
    (sum : v ≡ bit_xor u (bit_xor (power a) (power b))) (r : Bool) (ys : List ℕ) (told : answer r ys ≡ first_after power l' mid v) where
  abbrev Inner : List ℕ → Type 0
  Inner ps = Summing power b k (suc a) (bit_xor u (bit_xor (power a) (power b))) ps × (lower mid ps ≡ true)

  inner_finds : Finds lower Inner r ys
  inner_finds =
      let w : ℕ = bit_xor u (bit_xor (power a) (power b)) in
      finds_same lower (λ x. Summing power b (length mid) 0 w x × (lower mid x ≡ true)) Inner r ys
      (λ x. (
        λ m. (record { ascends = later_from c.ascends m.0.ascends m.0.counts m.1; counts = m.0.counts ∙ c.counts; sums = m.0.sums }, m.1),
        λ m. (record { ascends = ascending_from 0 (omega arith) m.0.ascends; counts = m.0.counts ∙ sym c.counts; sums = m.0.sums }, m.1),
      ))
      (after_finds power b w mid r ys (told ∙ ap₂ (λ (i j : ℕ). first_after power i mid j) below sum))

  -- where the set stands to those with the same ends
  after_mid : (ps : List ℕ) → length ps ≡ k → before q (framed a b ps) ≡ lower mid ps
  after_mid ps e = ap (λ (x : List ℕ). before x (framed a b ps)) c.made ∙ framed-before a b mid ps (c.counts ∙ sym e)

  framed_after : (r : Bool) (ys : List ℕ) → Finds lower Inner r ys → Finds before (Behind (Between power k u a b) q) r (framed a b ys)
  framed_after true ys f =
      record {
        meets = ((ys, refl, f.meets.0), after_mid ys f.meets.0.counts ∙ f.meets.1);
        others_after = λ y m ne.
            let ps = m.0.0 in
            let e = m.0.1 in
            let s = m.0.2 in
            rw e
            (framed-before a b ys ps (f.meets.0.counts ∙ sym s.counts)
            ∙ f.others_after ps (s, sym (after_mid ps s.counts) ∙ sym (ap (before q) e) ∙ m.1) (λ d. ne (e ∙ ap (framed a b) d)));
      }
  framed_after false ys f =
      λ y m. f m.0.0 (m.0.2, sym (after_mid m.0.0 m.0.2.counts) ∙ sym (ap (before q) m.0.1) ∙ m.1)

  pub between_finds : Finds before (Behind (Between power k u a b) q) r (framed a b ys)
  between_finds = framed_after r ys inner_finds

-- one position between the ends: the nearest past it
pub one_after : (power : ℕ → ℕ) (l v m : ℕ) → m < l → {from : ℕ} → from ≡ m + 1 → (r : Option ℕ) → NearestIn power l from v r → alone r ≡ first_after power l (m ∷ []) v
one_after power l v m h e r near =
    sym
    (first_after_cons power l m [] v (next {from = 0} {p = m} (omega arith) h ends)
    ∙ ap (λ (x : Head). or_else (onto m x) (first_from power l 1 (m + 1) v)) (first_after_empty power l (bit_xor v (power m)) [] refl)
    ∙ first_alone power l (m + 1) v (omega arith) r (rw e at near))

pub three_ascend : {l : ℕ} {q : List ℕ} → Ascending l 0 q → length q ≡ 3 → (get_or q 0 0 < get_or q 1 0) × (get_or q 1 0 < get_or q 2 0) × (get_or q 2 0 < l)
three_ascend ends h = absurd (omega arith)
three_ascend (next x y ends) h = absurd (omega arith)
three_ascend (next x y (next x' y' ends)) h = absurd (omega arith)
three_ascend (next x y (next x' y' (next x'' y'' a))) h = (omega arith, omega arith, y'')

pub cut_three : {l : ℕ} (q : List ℕ) → Ascending l 0 q → length q ≡ 3 → Framed l 1 q (get_or q 0 0) (get_or q 2 0) (get_or q 1 0 ∷ [])
cut_three [] asc h = absurd (omega arith)
cut_three (a ∷ []) asc h = absurd (omega arith)
cut_three (a ∷ m ∷ []) asc h = absurd (omega arith)
cut_three (a ∷ m ∷ b ∷ x ∷ q) asc h = absurd (omega arith)
cut_three (a ∷ m ∷ b ∷ []) asc h =
    let k = three_ascend asc h in
    record { made = refl; ascends = next {from = suc a} {p = m} (omega (arith, k)) k.1 ends; below = k.2; apart = omega (arith, k); counts = refl }

pub set_middle : (q : List ℕ) (c : ℕ) → length q ≡ 3 → set q 1 c ≡ framed (get_or q 0 0) (get_or q 2 0) (c ∷ [])
set_middle [] c h = absurd (omega arith)
set_middle (a ∷ []) c h = absurd (omega arith)
set_middle (a ∷ m ∷ []) c h = absurd (omega arith)
set_middle (a ∷ m ∷ b ∷ []) c h = refl
set_middle (a ∷ m ∷ b ∷ x ∷ q) c h = absurd (omega arith)
