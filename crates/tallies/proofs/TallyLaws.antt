-- Tallies of patterns that pass, in whatever order they are met: one more, and all of a walk.
use mathlib.Core.Path.{◌≡◌, refl, sym, ap, subst, ◌∙◌}
use mathlib.Core.Bool.{Bool, true, false}
use mathlib.Core.List.{List, [], ◌∷◌, ◌++◌, append-nil, append_assoc}
use Rattle.std.proofs.Common.{Option, Some, None}
use Rattle.std.specs.Option.{option_map}
use Prim.Native.Nat.{ℕ, ◌+◌, ◌^◌, ◌<◌, ◌≤◌}
use native.Mathlib.Omega.{arith}
use lib.ListN.{length, take, length-append}
use Rattle.base.specs.Lists.{In, Ascending}
use Rattle.base.proofs.Cases.{by_test}
use Rattle.patterns.specs.Patterns.{positions}
use Rattle.patterns.specs.Order.{before}
use Rattle.patterns.specs.StrictOrder.{Sorted, empty, first}
use Rattle.patterns.specs.Listing.{sift, inserted, in_order}
use Rattle.patterns.specs.Walk.{by_positions}
use Rattle.patterns.specs.declared.Pattern.{Pattern}
use Rattle.patterns.proofs.OrderLaws.{before_strict_total}
use Rattle.patterns.proofs.SiftLaws.{sift_keep, sift_skip, sift_in}
use Rattle.patterns.proofs.SortedLaws.{sorted_sift, sorted_once, in_order_in, in_order-length, in_order_snoc, inserted_more}
use Rattle.patterns.proofs.WalkLaws.{walk_order}
use Rattle.search.specs.Search.{Told}
use Rattle.cursor.specs.Cursors.{FoundFits, ahead_of}
use Rattle.cursor.proofs.AheadLaws.{told_ahead, told_ahead_of}
use Rattle.tallies.specs.Tallies.{first_of, Tallied}
use Rattle.tallies.specs.declared.Tally.{Tally}

-- ---- one candidate more that passes

-- put in its place
grown : (p : List ℕ) (kept : List (List ℕ)) {t : Tally} → Tallied (inserted before p (in_order before kept)) t → Tallied (in_order before (kept ++ p ∷ [])) t
grown p kept {t} h = subst (λ (ys : List (List ℕ)). Tallied ys t) (in_order_snoc before_strict_total kept p) h

-- it is the only one, or stands in front
placed_first : (p : List ℕ) (best : Option Pattern) {q : Pattern} → ((a : Pattern) → best ≡ Some a → before p (positions a) ≡ true) → positions q ≡ p
    → (n : ℕ) (ys : List (List ℕ)) → n ≡ length ys → option_map positions best ≡ first_of ys → Tallied (inserted before p ys) (record { count = n + 1; earliest = Some q })
unfolding inserted
placed_first p best b e n [] h k = record { number = omega (arith, h); first = ap Some e }
placed_first p None b e n (y ∷ ys) h k = absurd (let z : ◌≡◌ {A = ℕ} 0 1 = cc in omega arith)
placed_first p (Some a) b e n (y ∷ ys) h k =
    let here : positions a ≡ y = cc in
    rw (rw here at (b a refl)) (record { number = omega (arith, h); first = ap Some e })

first_placed : (p : List ℕ) {t : Tally} {q : Pattern} → t.count ≡ 0 → positions q ≡ p → (ys : List (List ℕ)) → Tallied ys t
    → Tallied (inserted before p ys) (record { count = t.count + 1; earliest = Some q })
unfolding inserted
first_placed p z e [] h = record { number = omega (arith, z); first = ap Some e }
first_placed p z e (y ∷ ys) h = absurd (omega (arith, z, h.number))

pub earliest-more : (p : List ℕ) {t : Tally} {n : ℕ} {q : Pattern} → n ≡ t.count + 1 → ((a : Pattern) → t.earliest ≡ Some a → before p (positions a) ≡ true) → positions q ≡ p
    → (kept : List (List ℕ)) → Tallied (in_order before kept) t → Tallied (in_order before (kept ++ p ∷ [])) (record { count = n; earliest = Some q })
earliest-more p {t} c b e kept h = rw c (grown p kept (placed_first p t.earliest b e t.count (in_order before kept) h.number h.first))

-- the first that passes, where none has
pub first_passes : (p : List ℕ) {t : Tally} {q : Pattern} → t.count ≡ 0 → positions q ≡ p → (kept : List (List ℕ)) → Tallied (in_order before kept) t
    → Tallied (in_order before (kept ++ p ∷ [])) (record { count = t.count + 1; earliest = Some q })
first_passes p {t} z e kept h = grown p kept (first_placed p z e (in_order before kept) h)

-- it stands behind the first
stays_first : (p y : List ℕ) (ys : List (List ℕ)) → before p y ≡ false → first_of (inserted before p (y ∷ ys)) ≡ Some y
unfolding inserted
stays_first p y ys b = by_test (before y p) (λ u. rw (b, u)) (λ u. rw (b, u))

placed_behind : (p : List ℕ) (a : Pattern) → before p (positions a) ≡ false → (n : ℕ) (ys : List (List ℕ)) → (In p ys → ⊥)
    → n ≡ length ys → option_map positions (Some a) ≡ first_of ys → Tallied (inserted before p ys) (record { count = n + 1; earliest = Some a })
placed_behind p a b n [] new h k = absurd (let z : ◌≡◌ {A = ℕ} 0 1 = cc in omega arith)
placed_behind p a b n (y ∷ ys) new h k =
    let here : positions a ≡ y = cc in
    record {
      number = omega (arith, h, inserted_more before_strict_total p (y ∷ ys) new);
      first = k ∙ sym (stays_first p y ys (rw here at b));
    }

pub later-more : (p : List ℕ) {t : Tally} {n : ℕ} {a : Pattern} → n ≡ t.count + 1 → t.earliest ≡ Some a → before p (positions a) ≡ false → (kept : List (List ℕ)) → (In p kept → ⊥)
    → Tallied (in_order before kept) t → Tallied (in_order before (kept ++ p ∷ [])) (record { count = n; earliest = Some a })
later-more p {t} {a = a} c e b kept new h =
    rw c (grown p kept (placed_behind p a b t.count (in_order before kept) (λ i. new (in_order_in before_strict_total kept i)) h.number (ap (option_map positions) (sym e) ∙ h.first)))

-- ---- the whole list

-- a tally under way: those that pass of what is done, and what is left
pub record Tallying (P : List ℕ → Bool) (l m : ℕ) (xs rest : List (List ℕ)) (pos : List ℕ) (ahead : Option ℕ) (t : Tally) : Type 0 where
  pub kept : List (List ℕ)
  pub left : List (List ℕ)
  pub split : sift P rest ≡ kept ++ sift P left
  pub told : Told by_positions l m xs left ahead pos
  pub ascends : Sorted by_positions rest
  pub tallied : Tallied (in_order before kept) t
  pub placed : length pos ≡ m
  pub bound : length kept + length left ≤ length rest

-- from a pattern on the walk ascends
ahead_sorted : (xs : List (List ℕ)) (r : Option ℕ) (pos : List ℕ) → Sorted by_positions xs → Sorted by_positions (ahead_of by_positions xs r pos)
ahead_sorted xs (Some k) pos s = first (λ y i. (sift_in (by_positions (take k pos)) xs i).1) (sorted_sift (by_positions (take k pos)) s)
ahead_sorted xs None pos s = empty

pub tallying_none : (P : List ℕ → Bool) (l : ℕ) (xs : List (List ℕ)) (pos : List ℕ) (r : Option ℕ) (t : Tally) → FoundFits l r pos → Sorted by_positions xs → Tallied [] t
    → Tallying P l (length pos) xs (ahead_of by_positions xs r pos) pos r t
unfolding in_order
tallying_none P l xs pos r t h sorted k =
    record {
      kept = [];
      left = ahead_of by_positions xs r pos;
      split = refl;
      told = told_ahead_of by_positions l (length pos) xs r pos h refl;
      ascends = ahead_sorted xs r pos sorted;
      tallied = k;
      placed = refl;
      bound = omega arith;
    }

module _ {P : List ℕ → Bool} {l m : ℕ} {xs rest : List (List ℕ)} {pos : List ℕ} {ahead : Option ℕ} {t : Tally} (f : Tallying P l m xs rest pos ahead t) where
  pub tallied_all : ahead ≡ None → Tallied (in_order before (sift P rest)) t
  unfolding sift
  tallied_all e =
      let none : f.left ≡ [] = rw e at f.told in
      rw (f.split, none, append-nil f.kept) f.tallied

  module _ {k : ℕ} (e : ahead ≡ Some k) where
    found : Told by_positions l m xs f.left (Some k) pos
    found = rw e at f.told

    pub found_placed : (k ≤ length pos) × Ascending l 0 (take k pos)
    found_placed = (omega (arith, found.1, f.placed), found.0.ascends)

    -- one more can be counted
    pub countable : length rest < 2 ^ 64 → t.count + 1 < 2 ^ 64
    countable h =
        let some : 1 ≤ length f.left = rw found.0.split (omega arith) in
        omega (arith, f.tallied.number, in_order-length before_strict_total f.kept, f.bound)

    -- nor was it counted before
    pub new : P (take k pos) ≡ true → In (take k pos) f.kept → ⊥
    new y =
        let q : List ℕ = take k pos in
        let on : sift P rest ≡ f.kept ++ q ∷ sift P (sift (by_positions q) xs) =
        f.split ∙ ap (λ (u : List (List ℕ)). f.kept ++ u) (ap (sift P) found.0.split ∙ sift_keep P q (sift (by_positions q) xs) y) in
        (sorted_once walk_order f.kept (rw on at (sorted_sift P f.ascends))).0

    -- the next one, whether this one passes or not
    module _ {t' : Tally} (r : Option ℕ) (pos' : List ℕ) (told : Told by_positions l m xs (sift (by_positions (take k pos)) xs) r pos') (p : length pos' ≡ m) where
      pub tallying_passed : P (take k pos) ≡ true → Tallied (in_order before (f.kept ++ take k pos ∷ [])) t' → Tallying P l m xs rest pos' r t'
      tallying_passed y n =
          let q : List ℕ = take k pos in
          record {
            kept = f.kept ++ q ∷ [];
            left = sift (by_positions q) xs;
            split = f.split ∙ ap (λ (u : List (List ℕ)). f.kept ++ sift P u) found.0.split ∙ ap (λ (u : List (List ℕ)). f.kept ++ u) (sift_keep P q (sift (by_positions q) xs) y) ∙ sym (append_assoc f.kept (q ∷ []) (sift P (sift (by_positions q) xs)));
            told = told;
            ascends = f.ascends;
            tallied = n;
            placed = p;
            bound = simp length-append (omega (arith, f.bound, ap length found.0.split));
          }

      pub tallying_failed : P (take k pos) ≡ false → t' ≡ t → Tallying P l m xs rest pos' r t'
      tallying_failed y e =
          let q : List ℕ = take k pos in
          record {
            kept = f.kept;
            left = sift (by_positions q) xs;
            split = f.split ∙ ap (λ (u : List (List ℕ)). f.kept ++ sift P u) found.0.split ∙ ap (λ (u : List (List ℕ)). f.kept ++ u) (sift_skip P q (sift (by_positions q) xs) y);
            told = told;
            ascends = f.ascends;
            tallied = rw e f.tallied;
            placed = p;
            bound = omega (arith, f.bound, ap length found.0.split);
          }

-- a search from the start leads the whole walk
pub started : (l m : ℕ) (xs : List (List ℕ)) (r : Option ℕ) (pos : List ℕ) → Told by_positions l m xs xs r pos → ahead_of by_positions xs r pos ≡ xs
started l m xs r pos h = sym (told_ahead by_positions l m xs xs r pos h)
