-- A set of two positions or more by its ends: the smallest, the largest, and those between them. Sets with the same ends compare by
-- what is between, and others of one count by their spans and then by their smallest positions.
use mathlib.Core.Path.{◌≡◌, refl, sym, ap, ap₂, ◌∙◌}
use mathlib.Core.Bool.{true}
use mathlib.Core.List.{List, [], ◌∷◌, ◌++◌}
use Prim.Native.Nat.{ℕ, suc, ◌+◌, ◌-◌, ◌<◌, ◌≤◌}
use native.Mathlib.Omega.{arith}
use lib.Bits.{bit_xor}
use lib.ListN.{length, get_or, length-append, drop_of_length-le}
use lib.Seq.{take_at, drop-cons, get_or-append_seam}
use borrow.Rule.Slice.PartMut.{mid_of, put_mid}
use Rattle.base.specs.Lists.{Ascending, ends, next}
use Rattle.base.proofs.XorLaws.{xor-ac}
use Rattle.patterns.specs.Order.{span, lower, before}
use Rattle.patterns.proofs.OrderLaws.{lower_less, lower-same, narrower_before, as_wide_before}
use Rattle.patterns.proofs.CompareLaws.{span_ends}
use Rattle.placing.specs.Placing.{xor_all}
use Rattle.spans.specs.Spans.{framed}

-- ---- its count, its span and its sum ----

pub framed-length : (a b : ℕ) (ps : List ℕ) → length (framed a b ps) ≡ suc (suc (length ps))
framed-length a b ps = simp length-append (omega arith)

framed_last : (a b : ℕ) (ps : List ℕ) → get_or (framed a b ps) (length (framed a b ps) - 1) 0 ≡ b
framed_last a b ps =
    let e : length (framed a b ps) - 1 ≡ suc (length ps) = omega (arith, framed-length a b ps) in
    ap (λ (i : ℕ). get_or (framed a b ps) i 0) e ∙ get_or-append_seam ps b [] 0

framed-span : (a b : ℕ) (ps : List ℕ) → span (framed a b ps) ≡ b - a
framed-span a b ps = span_ends (framed a b ps) ∙ ap (λ (x : ℕ). x - a) (framed_last a b ps)

module _ (power : ℕ → ℕ) where
  exchanged : (x y z : ℕ) → bit_xor x (bit_xor y z) ≡ bit_xor y (bit_xor x z)
  exchanged x y z = simp xor-ac

  joined : (x y z : ℕ) → bit_xor x (bit_xor y z) ≡ bit_xor (bit_xor x y) z
  joined x y z = simp xor-ac

  last_sum : (b : ℕ) (ps : List ℕ) → xor_all power (ps ++ b ∷ []) ≡ bit_xor (power b) (xor_all power ps)
  unfolding xor_all
  last_sum b [] = refl
  last_sum b (p ∷ ps) = ap (bit_xor (power p)) (last_sum b ps) ∙ exchanged (power p) (power b) (xor_all power ps)

  pub framed-sum : (a b : ℕ) (ps : List ℕ) → xor_all power (framed a b ps) ≡ bit_xor (bit_xor (power a) (power b)) (xor_all power ps)
  unfolding xor_all
  framed-sum a b ps = ap (bit_xor (power a)) (last_sum b ps) ∙ joined (power a) (power b) (xor_all power ps)

-- ---- its place in the order ----

ends_lower : (b : ℕ) (ps qs : List ℕ) → length ps ≡ length qs → lower (ps ++ b ∷ []) (qs ++ b ∷ []) ≡ lower ps qs
unfolding lower
ends_lower b [] [] h = lower-same b [] []
ends_lower b [] (q ∷ qs) h = absurd (omega arith)
ends_lower b (p ∷ ps) [] h = absurd (omega arith)
ends_lower b (p ∷ ps) (q ∷ qs) h = rw (ends_lower b ps qs (omega arith))

-- of two sets with the same ends, what is between decides
pub framed-before : (a b : ℕ) (ps qs : List ℕ) → length ps ≡ length qs → before (framed a b ps) (framed a b qs) ≡ lower ps qs
framed-before a b ps qs h =
    as_wide_before (framed a b ps) (framed a b qs) (omega (arith, framed-length a b ps, framed-length a b qs)) (framed-span a b ps ∙ sym (framed-span a b qs))
    ∙ lower-same a (ps ++ b ∷ []) (qs ++ b ∷ [])
    ∙ ends_lower b ps qs h

-- of two sets of one count the narrower comes first, and of one span the one that begins lower
module _ (a b c d : ℕ) (ps qs : List ℕ) (same : length ps ≡ length qs) where
  framed_level : length (framed a b ps) ≡ length (framed c d qs)
  framed_level = framed-length a b ps ∙ ap (λ (n : ℕ). suc (suc n)) same ∙ sym (framed-length c d qs)

  pub narrower_framed : b - a < d - c → before (framed a b ps) (framed c d qs) ≡ true
  narrower_framed h = narrower_before (framed a b ps) (framed c d qs) framed_level (omega (arith, framed-span a b ps, framed-span c d qs))

  pub lower-framed : b - a ≡ d - c → a < c → before (framed a b ps) (framed c d qs) ≡ true
  lower-framed e h =
      as_wide_before (framed a b ps) (framed c d qs) framed_level (framed-span a b ps ∙ e ∙ sym (framed-span c d qs))
      ∙ lower_less a c (ps ++ b ∷ []) (qs ++ d ∷ []) h

-- ---- every set of two positions or more has ends ----

pub record Framed (l k : ℕ) (qs : List ℕ) (low high : ℕ) (inner : List ℕ) : Type 0 where
  pub made : qs ≡ framed low high inner
  pub ascends : Ascending high (suc low) inner
  pub below : high < l
  pub apart : low < high
  pub counts : length inner ≡ k

tail_framed : {l p : ℕ} {qs : List ℕ} → p < l → Ascending l (suc p) qs → (k : ℕ) → length qs ≡ suc k
    → (b : ℕ) × (ps : List ℕ) × (qs ≡ ps ++ b ∷ []) × Ascending b (suc p) ps × (b < l) × (p < b) × (length ps ≡ k)
tail_framed h ends k e = absurd (omega arith)
tail_framed h (next {p = q} {ps = []} x y a) k e = (q, [], refl, ends, y, omega arith, omega arith)
tail_framed {l} {p} h (next {p = q} {ps = r ∷ rs} x y a) k e =
    let t = tail_framed y a (length rs) refl in
    (t.0, q ∷ t.1, ap (λ (s : List ℕ). q ∷ s) t.2, next {from = suc p} {p = q} (omega arith) (omega (arith, t.5)) t.3, t.4, omega (arith, t.5), omega (arith, t.6))

pub frame : {l : ℕ} {qs : List ℕ} → Ascending l 0 qs → (k : ℕ) → length qs ≡ suc (suc k) → (a : ℕ) × (b : ℕ) × (ps : List ℕ) × Framed l k qs a b ps
frame ends k e = absurd (omega arith)
frame (next {p = p} {ps = ps} x y a) k e =
    let t = tail_framed y a k (omega arith) in
    (p, t.0, t.1, record { made = ap (λ (s : List ℕ). p ∷ s) t.2; ascends = t.3; below = t.4; apart = t.5; counts = t.6 })

-- and ends with a set between them make one
framed_tail : {l b p : ℕ} {ps : List ℕ} → Ascending b (suc p) ps → p < b → b < l → Ascending l (suc p) (ps ++ b ∷ [])
framed_tail ends h k = next h k ends
framed_tail (next x y a) h k = next x (omega arith) (framed_tail a y k)

pub framed_ascends : {l a b : ℕ} {ps : List ℕ} → Ascending b (suc a) ps → a < b → b < l → Ascending l 0 (framed a b ps)
framed_ascends {l} {a} h lt k = next {from = 0} {p = a} (omega arith) (omega arith) (framed_tail h lt k)

-- ---- a slice that holds one, cut at its ends ----

middle_at : (a b : ℕ) (ps q : List ℕ) → q ≡ framed a b ps → ps ≡ mid_of 1 (length q - 1 - 1) q
middle_at a b ps q e =
    let i : length q - 1 - 1 ≡ length ps = omega (arith, ap length e, framed-length a b ps) in
    sym (ap₂ (λ (x : List ℕ) (j : ℕ). mid_of 1 j x) e i ∙ take_at ps (b ∷ []) (length ps) refl)

last_at : (a b : ℕ) (ps q : List ℕ) → q ≡ framed a b ps → b ≡ get_or q (length q - 1) 0
last_at a b ps q e = sym (ap (λ (x : List ℕ). get_or x (length x - 1) 0) e ∙ framed_last a b ps)

pub cut : {l : ℕ} (q : List ℕ) → Ascending l 0 q → 2 ≤ length q
    → Framed l (length q - 2) q (get_or q 0 0) (get_or q (length q - 1) 0) (mid_of 1 (length q - 1 - 1) q)
cut {l} q asc h = let f = frame asc (length q - 2) (omega arith) in go f.0 f.1 f.2 f.3
  where
    go : (a b : ℕ) (ps : List ℕ) → Framed l (length q - 2) q a b ps → Framed l (length q - 2) q (get_or q 0 0) (get_or q (length q - 1) 0) (mid_of 1 (length q - 1 - 1) q)
    go a b ps f =
        let x : a ≡ get_or q 0 0 = sym (ap (λ (y : List ℕ). get_or y 0 0) f.made) in
        rw (← x, ← last_at a b ps q f.made, ← middle_at a b ps q f.made) f

-- the middle put back
pub put_framed : (q ys : List ℕ) → length ys + 2 ≡ length q → put_mid 1 (length q - 1 - 1) q ys ≡ framed (get_or q 0 0) (get_or q (length q - 1) 0) ys
put_framed [] ys h = absurd (omega arith)
put_framed (x ∷ rest) ys h =
    let m : suc (length rest) - 1 - 1 ≡ length ys = omega arith in
    let i : suc (length rest) - 1 ≡ suc (length ys) = omega arith in
    let z = drop-cons rest (length ys) 0 (omega arith) in
    let e : length rest ≤ suc (length ys) = omega arith in
    rw (m, i, z, drop_of_length-le rest e)
