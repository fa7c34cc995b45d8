-- The sequence of page calls, as one theorem over any list of requests. The invariant, for k records written
-- and the mark reached: what follows the mark is the list without its first k patterns.
use mathlib.Core.Path.{◌≡◌, refl, sym, ap, ap₂, ◌∙◌}
use mathlib.Core.Logic.{◌⊎◌, inl, inr}
use mathlib.Core.List.{List, [], ◌∷◌, ◌++◌}
use Prim.Native.Nat.{ℕ, zero, suc, ◌+◌, ◌*◌, ◌-◌, ◌<◌, ◌≤◌}
use native.Mathlib.Omega.{arith}
use native.Mathlib.Nat.{add_assoc, add-zero, zero-add}
use lib.ListN.{length, take, drop, get_or, length-drop}
use lib.Seq.{drop-drop, take-add, take_all, get_or-drop}
use Rattle.base.specs.Lists.{In}
use Rattle.base.specs.Outcome.{Outcome, refused, accepted, Condition, judge}
use Rattle.base.proofs.Cases.{by_order}
use Rattle.base.proofs.JudgeLaws.{judge_accepted, judge_value}
use Rattle.patterns.specs.Patterns.{Point, start, ended, after}
use Rattle.patterns.specs.Order.{before}
use Rattle.patterns.specs.StrictOrder.{Sorted}
use Rattle.patterns.specs.Listing.{listing}
use Rattle.patterns.specs.Marks.{remaining}
use Rattle.records.specs.Records.{records}
use Rattle.records.specs.Pages.{fitting, last_of, next_point, Page, page_of, page_bytes, paged_by, left_by}
use Rattle.records.specs.Sequences.{Call, calls, joined, reported, reached, CountsUp, none, adds, Sequence}
use Rattle.patterns.proofs.SiftLaws.{sift_in}
use Rattle.patterns.proofs.FollowLaws.{remaining_start}
use Rattle.patterns.proofs.ListingLaws.{listing_sorted, listed_limit}
use Rattle.records.proofs.PageLaws.{records-append, fitting-take, fitting-length, fitting_unless, page_length, page_used, page_leaves, next_ended, next_after, last_take}

-- the calls over the list xs: each request brings an output of its own, and its conditions at a mark
abbrev pub page_calls : {Request : Type 0} → List (List ℕ) → (Request → List ℕ) → (Request → Point → List Condition) → Point → List Request → List Call
page_calls xs output conditions =
    calls (λ r mark. paged_by (conditions r mark) (remaining xs mark) (output r))
    (λ r mark. left_by (conditions r mark) (remaining xs mark) (output r))

by_outcome : {A C : Type 0} (o : Outcome A) → ((k : ℕ) → o ≡ refused k → C) → ((a : A) → o ≡ accepted a → C) → C
by_outcome (refused k) f g = f k refl
by_outcome (accepted a) f g = g a refl

-- the mark after an accepted call, with k records written
data Stands (xs : List (List ℕ)) (k : ℕ) (m : Point) : Type 0 where
  over : k ≡ length xs → m ≡ ended → Stands xs k m
  inside : 1 ≤ k → k < length xs → m ≡ after (get_or xs (k - 1) []) → Stands xs k m

unmoved : (cs : List Call) → length cs ≡ 0 → reached start cs ≡ start
unfolding reached
unmoved [] e = refl
unmoved (c ∷ cs) e = absurd (omega arith)

-- what some calls bring about that begin at the mark m with k records written
record Progress (xs : List (List ℕ)) (k : ℕ) (m : Point) (cs : List Call) : Type 0 where
  pub counts : CountsUp xs k cs
  pub bound : k + reported cs ≤ length xs
  pub joint : joined cs ≡ records (take (reported cs) (drop k xs))
  pub settles : Stands xs k m ⊎ (1 ≤ length cs) → Stands xs (k + reported cs) (reached m cs)
  pub steady : k + reported cs < length xs → length cs ≤ reported cs

-- what the whole claim follows from
module _ (xs : List (List ℕ)) (cs : List Call) (p : Progress xs 0 start cs) where
  settled : 1 ≤ length cs → Stands xs (reported cs) (reached start cs)
  settled h = rw (zero-add (reported cs)) at (p.settles (inr h))

  at_end : 1 ≤ length cs → reported cs ≡ length xs → reached start cs ≡ ended
  at_end h e = elim (settled h) [ over d m ↦ m | inside a b m ↦ absurd (omega arith) ]

  at_place : 1 ≤ length cs → reported cs < length xs → (1 ≤ reported cs) × (reached start cs ≡ after (get_or xs (reported cs - 1) []))
  at_place h l = elim (settled h) [ over d m ↦ absurd (omega arith) | inside a b m ↦ (a, m) ]

  all_written : reached start cs ≡ ended → reported cs ≡ length xs
  all_written e =
      by_order (length cs) 1
      (λ lt. absurd (never_start (sym (unmoved cs (omega arith)) ∙ e)))
      (λ ge. elim (settled ge) [ over d m ↦ d | inside a b m ↦ absurd (never_after (sym m ∙ e)) ])
    where
      never_start : start ≡ ended → ⊥
      never_start d = let z : ◌≡◌ {A = ℕ} 0 1 = cc in omega arith

      never_after : {q : List ℕ} → after q ≡ ended → ⊥
      never_after d = let z : ◌≡◌ {A = ℕ} 0 1 = cc in omega arith

  claim : Sequence xs cs
  claim =
      record {
        counted = p.counts;
        within = omega (arith, p.bound);
        joins = p.joint;
        first = unmoved cs;
        last = at_end;
        begun = λ h l. (at_place h l).0;
        between = λ h l. (at_place h l).1;
        soon = λ h l. at_end h (by_order (reported cs) (length xs) (λ lt. omega (arith, p.steady (omega arith))) (λ ge. omega (arith, p.bound)));
        whole = λ e. p.joint ∙ ap records (take_all (reported cs) xs (omega (arith, all_written e)));
      }

-- ---- one accepted call ----

settled_next : (xs : List (List ℕ)) (k w : ℕ) (written : List (List ℕ)) → written ≡ take w (drop k xs) → length written ≡ w → k + w ≤ length xs
    → (k < length xs → 1 ≤ w) → Stands xs (k + w) (next_point (drop k xs) written)
settled_next xs k zero written e d h some =
    by_order k (length xs) (λ lt. absurd (omega (arith, some lt)))
    (λ ge. over (omega arith) (next_ended (drop k xs) written (omega (arith, length-drop k xs))))
settled_next xs k (suc w) written e d h some =
    by_order (k + suc w) (length xs)
    (λ lt.
    let here : k + suc w - 1 ≡ k + w = omega arith in
    inside (omega arith) lt
    (next_after (drop k xs) written (omega (arith, length-drop k xs))
    ∙ ap after
    (ap (last_of []) e ∙ last_take [] w (drop k xs) (omega (arith, length-drop k xs)) ∙ get_or-drop k xs w [] ∙ ap (λ (i : ℕ). get_or xs i []) (sym here))))
    (λ ge. over (omega arith) (next_ended (drop k xs) written (omega (arith, length-drop k xs))))

module _ (xs : List (List ℕ)) (sorted : Sorted before xs) (limit : ℕ) (bounded : (ps : List ℕ) → In ps xs → length ps ≤ limit) where
  -- a call with room for the longest record, at a mark after which the list without its first k patterns is left
  module _ (k : ℕ) (m : Point) (room : ℕ) (left : remaining xs m ≡ drop k xs) (within : k ≤ length xs) (roomy : 1 + 2 * limit ≤ room) where
    writes : 1 ≤ length (remaining xs m) → 1 ≤ length (fitting room (remaining xs m))
    writes h =
        by_order (length (fitting room (remaining xs m))) 1
        (λ lt. absurd (omega (arith, ap length (fitting_unless limit room (remaining xs m) (λ q i. bounded q (sift_in _ xs i).0) roomy lt))))
        (λ ge. ge)

    call_leaves : remaining xs (page_of (drop k xs) room).next ≡ drop (k + length (fitting room (drop k xs))) xs
    call_leaves =
        rw (← left) (page_leaves sorted m room writes)
        ∙ drop-drop (length (fitting room (drop k xs))) k xs

    call_within : k + length (fitting room (drop k xs)) ≤ length xs
    call_within = omega (arith, fitting-length room (drop k xs), length-drop k xs)

    call_writes : k < length xs → 1 ≤ length (fitting room (drop k xs))
    call_writes h = rw (← left) (writes (rw left (omega (arith, length-drop k xs))))

    call_settles : Stands xs (k + length (fitting room (drop k xs))) (page_of (drop k xs) room).next
    call_settles =
        settled_next xs k (length (fitting room (drop k xs))) (fitting room (drop k xs)) (fitting-take room (drop k xs)) refl call_within call_writes

  -- ---- any number of calls ----

  module _ {Request : Type 0} (output : Request → List ℕ) (conditions : Request → Point → List Condition)
      (roomy : (r : Request) (m : Point) (p : Page) → judge (conditions r m) refused (accepted p) ≡ accepted p → 1 + 2 * limit ≤ length (output r)) where
    -- an accepted call, and those after it
    onward : (k : ℕ) (m : Point) (out : List ℕ) (cs : List Call) → remaining xs m ≡ drop k xs → k ≤ length xs → 1 + 2 * limit ≤ length out
        → Progress xs (k + length (fitting (length out) (drop k xs))) (page_of (drop k xs) (length out)).next cs
        → Progress xs k m (record { page = page_of (drop k xs) (length out); output = page_bytes (drop k xs) out } ∷ cs)
    unfolding joined reported reached
    onward k m out cs left within room then =
        let w = length (fitting (length out) (drop k xs)) in
        let some = call_writes k m (length out) left within room in
        record {
          counts =
              adds (page_used (drop k xs) out ∙ ap (λ (i : ℕ). records (fitting i (drop k xs))) (sym (page_length (drop k xs) out)))
              (ap (λ (i : ℕ). length (fitting i (drop k xs))) (sym (page_length (drop k xs) out))) then.counts;
          bound = omega (arith, then.bound);
          joint =
              ap₂ (λ (s t : List ℕ). s ++ t) (page_used (drop k xs) out ∙ ap records (fitting-take (length out) (drop k xs)))
              (then.joint ∙ ap (λ (l : List (List ℕ)). records (take (reported cs) l)) (sym (drop-drop w k xs)))
              ∙ sym (records-append (take w (drop k xs)) (take (reported cs) (drop w (drop k xs))))
              ∙ ap records (sym (take-add w (reported cs) (drop k xs)));
          settles = λ s. rw (← add_assoc) (then.settles (inl (call_settles k m (length out) left within room)));
          steady = λ h. omega (arith, then.steady (omega arith), some (omega arith));
        }

    progress : (rs : List Request) (k : ℕ) (m : Point) → remaining xs m ≡ drop k xs → k ≤ length xs → Progress xs k m (page_calls xs output conditions m rs)
    unfolding calls joined reported reached records
    progress [] k m left within =
        record {
          counts = none;
          bound = omega arith;
          joint = refl;
          settles = λ s. elim s [ inl t ↦ rw add-zero t | inr h ↦ absurd (omega arith) ];
          steady = λ h. omega arith;
        }
    progress (r ∷ rs) k m left within =
        by_outcome (paged_by (conditions r m) (remaining xs m) (output r))
        (λ number e. rw e (progress rs k m left within))
        (λ p e.
        let v = judge_value (conditions r m) (page_of (remaining xs m) (length (output r))) p e in
        let b = judge_accepted (conditions r m) (page_of (remaining xs m) (length (output r))) p (λ number. output r) (page_bytes (remaining xs m) (output r)) e in
        let room = roomy r m p (rw v at e) in
        rw (e, b, ← v, left)
        (onward k m (output r) _ left within room
        (progress rs (k + length (fitting (length (output r)) (drop k xs))) (page_of (drop k xs) (length (output r))).next
        (call_leaves k m (length (output r)) left within room) (call_within k m (length (output r)) left within room))))

    -- for every list of requests, refused ones among them, the first from the start and each from the mark reached
    pub sequence : (rs : List Request) → Sequence xs (page_calls xs output conditions start rs)
    sequence rs = claim xs (page_calls xs output conditions start rs) (progress rs 0 start (remaining_start xs) (omega arith))

-- the same for the list of error patterns
pub listing_sequence : (n g l limit s : ℕ) {Request : Type 0} (output : Request → List ℕ) (conditions : Request → Point → List Condition)
    → ((r : Request) (m : Point) (p : Page) → judge (conditions r m) refused (accepted p) ≡ accepted p → 1 + 2 * limit ≤ length (output r))
    → (rs : List Request) → Sequence (listing n g l limit s) (page_calls (listing n g l limit s) output conditions start rs)
listing_sequence n g l limit s output conditions roomy rs =
    sequence (listing n g l limit s) (listing_sorted n g l limit s) limit (listed_limit n g l limit s) output conditions roomy rs
