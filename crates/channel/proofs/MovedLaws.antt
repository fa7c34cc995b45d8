-- Positions that move up by one, from the last down to an index: before i all is as it was, and behind i stands what stood from i on.
use mathlib.Core.Path.{◌≡◌, refl, sym, ap, ap₂, ◌∙◌}
use mathlib.Core.List.{List, ◌∷◌, ◌++◌}
use Prim.Native.Nat.{ℕ, suc, ◌-◌, ◌<◌, ◌≤◌}
use native.Mathlib.Omega.{arith}
use lib.ListN.{length, get_or, take, drop, set, length-set, drop_of_length-le}
use lib.Seq.{length-take-le, drop-cons, set_split, get_or-set_same, take-set-le, drop-set-lt, get_or-take, take-take}

-- all but the last
abbrev front : List ℕ → List ℕ
front pos = take (length pos - 1) pos

pub record Moved (at : ℕ) (old pos : List ℕ) (i : ℕ) : Type 0 where
  pub from : at ≤ i
  pub within : i < length old
  pub long : length pos ≡ length old
  pub before : take i pos ≡ take i old
  pub behind : drop (suc i) pos ≡ drop i (front old)

pub moved_none : {at i : ℕ} (old : List ℕ) → at < length old → i ≡ length old - 1 → Moved at old old i
moved_none {i = i} old h e =
    record {
      from = omega arith;
      within = omega arith;
      long = refl;
      before = refl;
      behind =
          drop_of_length-le old {i = suc i} (omega arith)
          ∙ sym (drop_of_length-le (front old) {i = i} (omega (arith, length-take-le (length old - 1) old (omega arith))));
    }

pub moved_more : {at i : ℕ} {old pos : List ℕ} (j : ℕ) → Moved at old pos i → i ≡ suc j → at < i → Moved at old (set pos i (get_or pos j 0)) j
moved_more {i = i} {old = old} {pos = pos} j m e h =
    let a : ℕ = get_or pos j 0 in
    let inside : i < length pos = omega (arith, m.within, m.long) in
    let short : length (front old) ≡ length old - 1 = length-take-le (length old - 1) old (omega arith) in
    let same : a ≡ get_or (front old) j 0 =
    sym (get_or-take i pos j 0 (omega arith))
    ∙ ap (λ (l : List ℕ). get_or l j 0) m.before
    ∙ get_or-take i old j 0 (omega arith)
    ∙ sym (get_or-take (length old - 1) old j 0 (omega (arith, m.within))) in
    record {
      from = omega arith;
      within = omega (arith, m.within);
      long = length-set pos i a ∙ m.long;
      before =
          take-set-le j pos i a (omega arith)
          ∙ sym (take-take j i pos (omega arith))
          ∙ ap (take j) m.before
          ∙ take-take j i old (omega arith);
      behind =
          ap (λ (n : ℕ). drop n (set pos i a)) (sym e)
          ∙ drop-cons (set pos i a) i 0 (omega (arith, length-set pos i a))
          ∙ ap₂ ◌∷◌ (get_or-set_same pos i a 0 inside ∙ same)
          (drop-set-lt (suc i) pos i a (omega arith) ∙ m.behind ∙ ap (λ (n : ℕ). drop n (front old)) e)
          ∙ sym (drop-cons (front old) j 0 (omega (arith, short, m.within)));
    }

pub moved_all : {at i : ℕ} {old pos : List ℕ} (p : ℕ) → Moved at old pos i → i ≤ at → set pos at p ≡ take at (front old) ++ p ∷ drop at (front old)
moved_all {at} {i} {old} {pos} p m h =
    let here : i ≡ at = omega (arith, m.from) in
    set_split pos at p (omega (arith, m.long, m.within))
    ∙ ap₂ (λ (x y : List ℕ). x ++ p ∷ y)
    (ap (λ (n : ℕ). take n pos) (sym here) ∙ m.before ∙ ap (λ (n : ℕ). take n old) here ∙ sym (take-take at (length old - 1) old (omega (arith, m.within))))
    (ap (λ (n : ℕ). drop (suc n) pos) (sym here) ∙ m.behind ∙ ap (λ (n : ℕ). drop n (front old)) here)
