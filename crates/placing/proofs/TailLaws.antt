-- A level of the search: it has a slice, lends all but the first element to the next level, and gets it back.
use mathlib.Core.Path.{◌≡◌, refl, sym, ap, ap₂, ◌∙◌}
use mathlib.Core.Bool.{Bool, true, false}
use mathlib.Core.List.{List, [], ◌∷◌, ◌++◌, append-nil}
use Rattle.std.proofs.Common.{Option}
use Prim.Native.Nat.{ℕ, suc, ◌+◌, ◌-◌, ◌<◌, ◌≤◌}
use native.Mathlib.Omega.{arith}
use lib.Bits.{bit_xor}
use lib.ListN.{length, get_or, take, drop, set}
use lib.Seq.{drop-length, take-length}
use borrow.Rule.Slice.PartMut.{mid_of, put_mid, mid_len}
use Rattle.base.specs.Lists.{Ascending, ends, next}
use Rattle.base.proofs.ListLaws.{ascending_from}
use Rattle.placing.specs.Placing.{Head, starts, first_from, first_after, answer, Lookup}
use Rattle.placing.proofs.HeadLaws.{or_else, onto, first_after_cons, first_after_empty}
use Rattle.placing.proofs.NearestLaws.{place_turn, alone, NearestIn, first_alone}

pub tail_length : (xs : List ℕ) → length (mid_of 1 (length xs - 1) xs) ≡ length xs - 1
tail_length xs = mid_len 1 (length xs) xs (omega arith)

-- the slice with the tail back
pub tail_back : (xs ys : List ℕ) → 1 ≤ length xs → put_mid 1 (length xs - 1) xs ys ≡ get_or xs 0 0 ∷ ys
tail_back [] ys h = absurd (omega arith)
tail_back (x ∷ xs) ys h =
    let e : suc (length xs) - 1 ≡ length xs = omega arith in
    ap (λ (r : List ℕ). x ∷ ys ++ r) (ap (λ (n : ℕ). drop n xs) e ∙ drop-length xs) ∙ ap (λ (r : List ℕ). x ∷ r) (append-nil ys)

pub tail_back_length : (xs ys : List ℕ) → 1 ≤ length xs → length ys ≡ length (mid_of 1 (length xs - 1) xs) → length (put_mid 1 (length xs - 1) xs ys) ≡ length xs
tail_back_length xs ys h e = rw (tail_back xs ys h) (omega (arith, tail_length xs))

tail_of : (x : ℕ) (xs : List ℕ) → mid_of 1 (suc (length xs) - 1) (x ∷ xs) ≡ xs
tail_of x xs = let e : suc (length xs) - 1 ≡ length xs = omega arith in ap (λ (n : ℕ). take n xs) e ∙ take-length xs

pub head_below : {l : ℕ} {xs : List ℕ} → Ascending l 0 xs → 1 ≤ length xs → get_or xs 0 0 < l
head_below ends h = absurd (omega arith)
head_below (next a b c) h = b

pub tail_ascends : {l : ℕ} {xs : List ℕ} → Ascending l 0 xs → 1 ≤ length xs → Ascending l 0 (mid_of 1 (length xs - 1) xs)
tail_ascends ends h = absurd (omega arith)
tail_ascends (next {p = p} {ps = ps} a b c) h = rw (tail_of p ps) (ascending_from 0 (omega arith) c)

module _ {power : ℕ → ℕ} {pow first : List ℕ} {period : ℕ} (t : Lookup power pow first period) (a u n : ℕ) (xs ys : List ℕ) (r : Bool)
    (room : 1 ≤ n) (same : length xs ≡ n) (h : a < length pow) (from : ℕ) (behind : from ≡ a + 1)
    (told : answer r ys ≡ first_from power (length pow) (length (mid_of 1 (length xs - 1) xs)) from (bit_xor u (get_or pow a 0))) where
  turn : first_from power (length pow) n a u ≡ or_else (onto a (answer r ys)) (first_from power (length pow) n (a + 1) u)
  turn =
      let e : n ≡ suc (n - 1) = omega arith in
      let f : length (mid_of 1 (length xs - 1) xs) ≡ n - 1 = omega (arith, tail_length xs) in
      ap (λ (k : ℕ). first_from power (length pow) k a u) e
      ∙ place_turn t (n - 1) a u h
      ∙ ap₂ (λ (x : Head) (k : ℕ). or_else (onto a x) (first_from power (length pow) k (a + 1) u))
      (sym (told ∙ ap₂ (λ (k i : ℕ). first_from power (length pow) k i (bit_xor u (get_or pow a 0))) f behind))
      (sym e)

  -- the tail was placed: so is the whole
  pub place_hit : r ≡ true → starts (set (put_mid 1 (length xs - 1) xs ys) 0 a) ≡ first_from power (length pow) n a u
  place_hit e = ap (λ (l : List ℕ). starts (set l 0 a)) (tail_back xs ys (omega arith)) ∙ sym (turn ∙ rw e)

  -- it was not: no set starts here
  pub place_miss : r ≡ false → first_from power (length pow) n a u ≡ first_from power (length pow) n (a + 1) u
  place_miss e = turn ∙ rw e

-- after a set: the next level goes on behind its first position, and else the search goes on past it
resume_turn : {power : ℕ → ℕ} {pow first : List ℕ} {period : ℕ} (t : Lookup power pow first period) (u : ℕ) (xs : List ℕ)
    → Ascending (length pow) 0 xs → 1 ≤ length xs
    → first_after power (length pow) xs u
    ≡ or_else (onto (get_or xs 0 0) (first_after power (length pow) (mid_of 1 (length xs - 1) xs) (bit_xor u (get_or pow (get_or xs 0 0) 0))))
    (first_from power (length pow) (length xs) (get_or xs 0 0 + 1) u)
resume_turn t u [] asc h = absurd (omega arith)
resume_turn {power} {pow} t u (x ∷ xs) asc h =
    first_after_cons power (length pow) x xs u asc
    ∙ ap₂ (λ (ps : List ℕ) (w : ℕ). or_else (onto x (first_after power (length pow) ps (bit_xor u w))) (first_from power (length pow) (suc (length xs)) (x + 1) u))
    (sym (tail_of x xs))
    (sym (t.known x (head_below asc h)))

module _ {power : ℕ → ℕ} {pow first : List ℕ} {period : ℕ} (t : Lookup power pow first period) (u : ℕ) (xs ys : List ℕ) (r : Bool)
    (asc : Ascending (length pow) 0 xs) (room : 1 ≤ length xs) (same : length ys ≡ length (mid_of 1 (length xs - 1) xs))
    (told : answer r ys ≡ first_after power (length pow) (mid_of 1 (length xs - 1) xs) (bit_xor u (get_or pow (get_or xs 0 0) 0))) where
  after : first_after power (length pow) xs u ≡ or_else (onto (get_or xs 0 0) (answer r ys)) (first_from power (length pow) (length xs) (get_or xs 0 0 + 1) u)
  after =
      resume_turn t u xs asc room
      ∙ ap (λ (x : Head). or_else (onto (get_or xs 0 0) x) (first_from power (length pow) (length xs) (get_or xs 0 0 + 1) u)) (sym told)

  pub resume_hit : r ≡ true → answer r (put_mid 1 (length xs - 1) xs ys) ≡ first_after power (length pow) xs u
  resume_hit e = rw e (ap starts (tail_back xs ys room) ∙ sym (after ∙ rw e))

  pub resume_miss : r ≡ false → first_from power (length pow) (length (put_mid 1 (length xs - 1) xs ys)) (get_or xs 0 0 + 1) u ≡ first_after power (length pow) xs u
  resume_miss e =
      ap (λ (k : ℕ). first_from power (length pow) k (get_or xs 0 0 + 1) u) (tail_back_length xs ys room same) ∙ sym (after ∙ rw e)

-- after a set of two: the nearest past its last position decides of those that start as it does
pub pair_after : {power : ℕ → ℕ} {pow first : List ℕ} {period : ℕ} (t : Lookup power pow first period) (u : ℕ) (xs : List ℕ)
    → length xs ≡ 2 → Ascending (length pow) 0 xs → {from : ℕ} → from ≡ get_or xs 1 0 + 1
    → (r : Option ℕ) → NearestIn power (length pow) from (bit_xor u (get_or pow (get_or xs 0 0) 0)) r
    → first_after power (length pow) xs u ≡ or_else (onto (get_or xs 0 0) (alone r)) (first_from power (length pow) 2 (get_or xs 0 0 + 1) u)
pair_after t u [] e asc f r n = absurd (omega arith)
pair_after t u (p ∷ []) e asc f r n = absurd (omega arith)
pair_after t u (p ∷ q ∷ x ∷ xs) e asc f r n = absurd (omega arith)
pair_after {power} {pow} t u (p ∷ q ∷ []) e asc f r n =
    let l = length pow in
    let v = bit_xor u (get_or pow p 0) in
    let tail = tail_ascends asc (omega arith) in
    let h = head_below tail (omega arith) in
    resume_turn t u (p ∷ q ∷ []) asc (omega arith)
    ∙ ap (λ (x : Head). or_else (onto p x) (first_from power l 2 (p + 1) u))
    (resume_turn t v (q ∷ []) tail (omega arith)
    ∙ ap (λ (x : Head). or_else (onto q x) (first_from power l 1 (q + 1) v)) (first_after_empty power l (bit_xor v (get_or pow q 0)) [] refl)
    ∙ first_alone power l (q + 1) v (omega arith) r (rw f at n))

pub second_below : {l : ℕ} {xs : List ℕ} → Ascending l 0 xs → length xs ≡ 2 → get_or xs 1 0 < l
second_below ends h = absurd (omega arith)
second_below (next a b ends) h = absurd (omega arith)
second_below (next a b (next c d e)) h = d

pub set_second : (xs : List ℕ) (b : ℕ) → length xs ≡ 2 → set xs 1 b ≡ get_or xs 0 0 ∷ b ∷ []
set_second [] b h = absurd (omega arith)
set_second (x ∷ []) b h = absurd (omega arith)
set_second (x ∷ y ∷ []) b h = refl
set_second (x ∷ y ∷ z ∷ xs) b h = absurd (omega arith)
