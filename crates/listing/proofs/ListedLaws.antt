-- What the searches in the list's order found, told of the list: its first pattern, and the first that follows another.
use mathlib.Core.Path.{◌≡◌, sym, ap, ◌∙◌}
use mathlib.Core.Logic.{◌↔◌}
use mathlib.Core.List.{List, [], ◌∷◌}
use Rattle.std.proofs.Common.{Option, Some, None}
use Prim.Native.Nat.{ℕ}
use native.Mathlib.Omega.{arith}
use lib.ListN.{take}
use Rattle.base.specs.Lists.{In}
use Rattle.base.proofs.ListLaws.{in_nothing, no_member}
use Rattle.poly.specs.Fit.{Divisor}
use Rattle.tables.specs.Tables.{power}
use Rattle.patterns.specs.Patterns.{Point, start, after}
use Rattle.patterns.specs.Order.{before}
use Rattle.patterns.specs.StrictOrder.{Sorted, Foremost}
use Rattle.patterns.specs.Listing.{sift, listing, follows}
use Rattle.patterns.specs.Marks.{remaining}
use Rattle.patterns.proofs.OrderLaws.{before_strict_total}
use Rattle.patterns.proofs.SiftLaws.{sift_in, in_sift}
use Rattle.patterns.proofs.SortedLaws.{sorted_sift}
use Rattle.patterns.proofs.ForemostLaws.{foremost_same, foremost_first}
use Rattle.patterns.proofs.ListingLaws.{listed_iff, listing_sorted}
use Rattle.patterns.proofs.FollowLaws.{remaining_start, remaining_next}
use Rattle.search.specs.Search.{CountWithin, Told}
use Rattle.cursor.proofs.AheadLaws.{told_along}
use Rattle.cursor.proofs.LookupLaws.{syndrome-sum}
use Rattle.spans.specs.Spans.{Behind}
use Rattle.ordered.specs.Ordered.{Among, FindsAt}

-- what stands first of the members of a list that ascends is its head
heads : (xs : List (List ℕ)) {p : List ℕ} → Sorted before xs → Foremost before (λ q. In q xs) p → (rest : List (List ℕ)) × (xs ≡ p ∷ rest)
heads [] s f = absurd (in_nothing f.meets)
heads (x ∷ xs) s f = (xs, ap (λ (y : List ℕ). y ∷ xs) (foremost_first before_strict_total s f))

module _ (n g l m s : ℕ) where
  -- the list, from a mark on: what was found of a kind whose members are those that follow the mark
  found_told : (mark : Point) (P : List ℕ → Type 0) → ((p : List ℕ) → P p ↔ In p (remaining (listing n g l m s) mark)) → (r : Option ℕ) (pos : List ℕ) → CountWithin m r
      → FindsAt before P r pos → Told before l m (listing n g l m s) (remaining (listing n g l m s) mark) r pos
  unfolding follows
  found_told mark P same (Some k) pos h f =
      let p : List ℕ = take k pos in
      let e = heads (remaining (listing n g l m s) mark) (sorted_sift (follows mark) (listing_sorted n g l m s)) (foremost_same same f) in
      let behind = remaining_next (listing_sorted n g l m s) mark p e.0 e.1 in
      let listed = (listed_iff n g l m s p).0 (sift_in (follows mark) (listing n g l m s) ((same p).0 f.meets)).0 in
      (record { split = e.1 ∙ ap (λ (ys : List (List ℕ)). p ∷ ys) (sym behind); ascends = listed.0 }, h)
  found_told mark P same None pos h f = no_member (remaining (listing n g l m s) mark) (λ p i. f p ((same p).1 i))

  module _ (d : Divisor n g) where
    -- the sets whose powers have the syndrome as their sum are those of the list
    among_listed : (ps : List ℕ) → Among (power n g) l 0 m s ps ↔ In ps (listing n g l m s)
    among_listed ps = (
      λ a. (listed_iff n g l m s ps).1 (a.ascends, a.within, syndrome-sum n g d ps ∙ a.sums),
      λ i.
          let r = (listed_iff n g l m s ps).0 i in
          record { ascends = r.0; enough = omega arith; within = r.1; sums = sym (syndrome-sum n g d ps) ∙ r.2 },
    )

    pub first_told : (r : Option ℕ) (pos : List ℕ) → CountWithin m r → FindsAt before (Among (power n g) l 0 m s) r pos → Told before l m (listing n g l m s) (listing n g l m s) r pos
    first_told r pos h f =
        told_along before l m (listing n g l m s) r pos (remaining_start (listing n g l m s))
        (found_told start (Among (power n g) l 0 m s)
        (λ p. rw (remaining_start (listing n g l m s)) (among_listed p)) r pos h f)

    pub next_told : (q : List ℕ) (r : Option ℕ) (pos : List ℕ) → CountWithin m r → FindsAt before (Behind (Among (power n g) l 0 m s) q) r pos
        → Told before l m (listing n g l m s) (sift (before q) (listing n g l m s)) r pos
    unfolding follows
    next_told q r pos h f =
        found_told (after q) (Behind (Among (power n g) l 0 m s) q)
        (λ p. (
          λ a. in_sift (before q) ((among_listed p).0 a.0) a.1,
          λ i. let k = sift_in (before q) (listing n g l m s) i in ((among_listed p).1 k.0, k.1),
        )) r pos h f
