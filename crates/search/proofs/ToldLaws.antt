-- What the two searches tell, from the first set that they found: of the whole list, and of what follows a set.
use mathlib.Core.Path.{◌≡◌, sym, ap, ap₂, ◌∙◌}
use mathlib.Core.Bool.{Bool, true, false}
use mathlib.Core.List.{List, ◌++◌}
use Rattle.std.proofs.Common.{Option, Some, None}
use Prim.Native.Nat.{ℕ, suc, ◌+◌, ◌-◌, ◌≤◌}
use native.Mathlib.Omega.{arith}
use lib.ListN.{length, take, drop}
use lib.Seq.{length-take-le, take_at}
use Rattle.patterns.specs.Walk.{by_positions}
use Rattle.patterns.specs.Listing.{sift}
use Rattle.placing.specs.Placing.{summing, starts, head_of, first_after, answer}
use Rattle.search.specs.Search.{walked, rising, found, CountWithin, Told}
use Rattle.placing.proofs.HeadLaws.{or_else}
use Rattle.search.proofs.RisingLaws.{head_none, first_starts, next_starts, walked-rising, after_rising}

module _ (power : ℕ → ℕ) (l n s : ℕ) where
  pub told_first : (r : Option ℕ) (pos : List ℕ) → CountWithin n r → found r pos ≡ head_of (summing power s (rising l 0 (n + 1 - 0)))
      → Told by_positions l n (walked power l n s) (walked power l n s) r pos
  told_first r pos b h = go r b (h ∙ ap (λ (m : ℕ). head_of (summing power s (rising l 0 m))) (counts n) ∙ sym (walked-rising power l n s))
    where
      counts : (n : ℕ) → n + 1 - 0 ≡ suc n
      counts n = omega arith

      go : (r : Option ℕ) → CountWithin n r → found r pos ≡ head_of (walked power l n s) → Told by_positions l n (walked power l n s) (walked power l n s) r pos
      go (Some k) b h = (first_starts power l n s (take k pos) (sym h), b)
      go None b h = head_none (walked power l n s) (sym h)

  pub told_next : (p : List ℕ) (r : Option ℕ) (pos : List ℕ) → CountWithin n r → found r pos ≡ head_of (sift (by_positions p) (walked power l n s))
      → Told by_positions l n (walked power l n s) (sift (by_positions p) (walked power l n s)) r pos
  told_next p (Some k) pos b h = (next_starts power l n s p (take k pos) (sym h), b)
  told_next p None pos b h = head_none (sift (by_positions p) (walked power l n s)) (sym h)

  -- after the first k of xs: more of that count, or the first of the counts above it
  module _ (k : ℕ) (xs ys : List ℕ) (r : Bool) (whole : length xs ≡ n) (room : k ≤ n) (same : length ys ≡ length (take k xs))
      (told : answer r ys ≡ first_after power l (take k xs) s) where
    ahead : head_of (sift (by_positions (take k xs)) (walked power l n s)) ≡ or_else (answer r ys) (head_of (summing power s (rising l (k + 1) (n + 1 - (k + 1)))))
    ahead =
        let e = length-take-le k xs (omega arith) in
        let f : n - k ≡ n + 1 - (k + 1) = omega arith in
        let g : suc (length (take k xs)) ≡ k + 1 = omega arith in
        after_rising power l n s (take k xs) (n - k) (omega arith)
        ∙ ap₂ or_else (sym told) (ap₂ (λ (a b : ℕ). head_of (summing power s (rising l a b))) g f)

    pub next_same : r ≡ true → Told by_positions l n (walked power l n s) (sift (by_positions (take k xs)) (walked power l n s)) (Some k) (ys ++ drop k xs)
    next_same e =
        told_next (take k xs) (Some k) (ys ++ drop k xs) room
        (ap starts (take_at ys (drop k xs) k (same ∙ length-take-le k xs (omega arith))) ∙ sym (ahead ∙ rw e))

    pub next_above : r ≡ false → (q : Option ℕ) (pos zs : List ℕ) → length zs ≡ n → (above : ℕ) → above ≡ k + 1 → CountWithin (length zs) q
        → found q pos ≡ head_of (summing power s (rising l above (length zs + 1 - above)))
        → Told by_positions l n (walked power l n s) (sift (by_positions (take k xs)) (walked power l n s)) q pos
    next_above e q pos zs w above f b h =
        told_next (take k xs) q pos (rw w at b)
        (h ∙ ap₂ (λ (m i : ℕ). head_of (summing power s (rising l i (m + 1 - i)))) w f ∙ sym (ahead ∙ rw e))
