-- The list count by count: all of it from count 0 on, and what comes after a set: more of its count, then larger
-- counts. And since the list ascends, what stands behind its first is what comes after its first.
use mathlib.Core.Path.{◌≡◌, refl, sym, ap, ap₂, ◌∙◌}
use mathlib.Core.Bool.{Bool, true, false}
use mathlib.Core.List.{List, [], ◌∷◌, ◌++◌, append_assoc, append-nil}
use Rattle.std.proofs.Common.{Option, Some, None}
use Rattle.base.proofs.Cases.{by_order}
use Prim.Native.Nat.{ℕ, zero, suc, ◌+◌, ◌-◌, ◌<◌, ◌≤◌}
use native.Mathlib.Omega.{arith}
use lib.Dec.{eqb}
use lib.ListN.{length, take}
use Rattle.base.specs.Lists.{In, here}
use Rattle.patterns.specs.Order.{lower}
use Rattle.patterns.specs.Walk.{by_positions}
use Rattle.patterns.specs.StrictOrder.{Sorted}
use Rattle.base.specs.Lists.{Ascending}
use Rattle.patterns.specs.Listing.{choose, up_to, sift}
use Rattle.patterns.proofs.WalkLaws.{walk_order, fewer_first, level_lower, sifted_sorted}
use Rattle.patterns.proofs.SiftLaws.{sift-append, sift_all, sift_none, sift-same, sift_in}
use Rattle.patterns.proofs.SortedLaws.{not_back, sorted_behind, sorted_next}
use Rattle.patterns.proofs.ListingLaws.{choose_in, up_to_in, sifted_in}
use Rattle.placing.specs.Placing.{xor_all, summing, Head, headless, starts, head_of, first_from, first_after, answer}
use Rattle.search.specs.Search.{walked, rising, found, CountWithin, FoundFirst, Missed, FirstHit, Risen}
use Rattle.placing.proofs.HeadLaws.{or_else, head_append, head_nil, summing-append, summing-sift, summing_nil, first_from_whole}

pub rising_none : (l k : ℕ) → rising l k zero ≡ []
unfolding rising
rising_none l k = refl

pub rising_suc : (l k m : ℕ) → rising l k (suc m) ≡ choose l k zero ++ rising l (suc k) m
unfolding rising
rising_suc l k m = refl

up_to_zero : (l : ℕ) → up_to l zero ≡ choose l zero zero
unfolding up_to
up_to_zero l = refl

up_to_suc : (l n : ℕ) → up_to l (suc n) ≡ up_to l n ++ choose l (suc n) zero
unfolding up_to
up_to_suc l n = refl

-- one count more at the end
rising_snoc : (l k m : ℕ) → rising l k (suc m) ≡ rising l k m ++ choose l (k + m) zero
rising_snoc l k zero =
    let e : k ≡ k + zero = omega arith in
    rising_suc l k zero ∙ ap (λ (x : List (List ℕ)). choose l k zero ++ x) (rising_none l (suc k)) ∙ append-nil (choose l k zero)
    ∙ ap (λ (j : ℕ). choose l j zero) e
    ∙ sym (ap (λ (x : List (List ℕ)). x ++ choose l (k + zero) zero) (rising_none l k))
rising_snoc l k (suc m) =
    let e : suc k + m ≡ k + suc m = omega arith in
    rising_suc l k (suc m)
    ∙ ap (λ (x : List (List ℕ)). choose l k zero ++ x) (rising_snoc l (suc k) m)
    ∙ sym (append_assoc (choose l k zero) (rising l (suc k) m) (choose l (suc k + m) zero))
    ∙ ap₂ (λ (x y : List (List ℕ)). x ++ y) (sym (rising_suc l k m)) (ap (λ (j : ℕ). choose l j zero) e)

pub up_to_rising : (l n : ℕ) → up_to l n ≡ rising l zero (suc n)
up_to_rising l zero = up_to_zero l ∙ sym (rising_suc l zero zero ∙ ap (λ (x : List (List ℕ)). choose l zero zero ++ x) (rising_none l 1) ∙ append-nil (choose l zero zero))
up_to_rising l (suc n) =
    let e : suc n ≡ zero + suc n = omega arith in
    up_to_suc l n ∙ ap₂ (λ (x : List (List ℕ)) (j : ℕ). x ++ choose l j zero) (up_to_rising l n) e ∙ sym (rising_snoc l zero (suc n))

-- by the count, a set comes after none of the smaller ones, after those of its own count that are lower, and before all larger ones
fewer_none : (p : List ℕ) (l n : ℕ) → n < length p → sift (by_positions p) (up_to l n) ≡ []
fewer_none p l n h = sift_none (by_positions p) (up_to l n) (λ q i. not_back walk_order q p (fewer_first q p (omega (arith, (up_to_in l n i).1))))

same-lower : (p : List ℕ) (l : ℕ) → sift (by_positions p) (choose l (length p) zero) ≡ sift (lower p) (choose l (length p) zero)
same-lower p l = sift-same (by_positions p) (lower p) (choose l (length p) zero) (λ q i. level_lower p q (sym (choose_in l (length p) zero l (omega arith) q i).1))

more_all : (p : List ℕ) (l k : ℕ) → length p < k → sift (by_positions p) (choose l k zero) ≡ choose l k zero
more_all p l k h = sift_all (by_positions p) (choose l k zero) (λ q i. fewer_first p q (omega (arith, (choose_in l k zero l (omega arith) q i).1)))

own_count : (p : List ℕ) (l n : ℕ) → length p ≡ n → sift (by_positions p) (up_to l n) ≡ sift (lower p) (choose l (length p) zero)
own_count p l zero e =
    ap (sift (by_positions p)) (up_to_zero l ∙ ap (λ (j : ℕ). choose l j zero) (sym e)) ∙ same-lower p l
own_count p l (suc n) e =
    ap (sift (by_positions p)) (up_to_suc l n)
    ∙ sift-append (by_positions p) (up_to l n) (choose l (suc n) zero)
    ∙ ap₂ (λ (x y : List (List ℕ)). x ++ y) (fewer_none p l n (omega arith))
    (ap (λ (j : ℕ). sift (by_positions p) (choose l j zero)) (sym e) ∙ same-lower p l)

pub after_split : (p : List ℕ) (l n m : ℕ) → length p + m ≡ n
    → sift (by_positions p) (up_to l n) ≡ sift (lower p) (choose l (length p) zero) ++ rising l (suc (length p)) m
after_split p l n zero e =
    own_count p l n (omega arith)
    ∙ sym (ap (λ (x : List (List ℕ)). sift (lower p) (choose l (length p) zero) ++ x) (rising_none l (suc (length p))) ∙ append-nil (sift (lower p) (choose l (length p) zero)))
after_split p l zero (suc m) e = absurd (omega arith)
after_split p l (suc n) (suc m) e =
    let f : suc n ≡ suc (length p) + m = omega arith in
    ap (sift (by_positions p)) (up_to_suc l n)
    ∙ sift-append (by_positions p) (up_to l n) (choose l (suc n) zero)
    ∙ ap₂ (λ (x y : List (List ℕ)). x ++ y) (after_split p l n m (omega arith)) (more_all p l (suc n) (omega arith) ∙ ap (λ (j : ℕ). choose l j zero) f)
    ∙ append_assoc (sift (lower p) (choose l (length p) zero)) (rising l (suc (length p)) m) (choose l (suc (length p) + m) zero)
    ∙ ap (λ (x : List (List ℕ)). sift (lower p) (choose l (length p) zero) ++ x) (sym (rising_snoc l (suc (length p)) m))

-- what has a first is that and the rest
pub head_cons : (xs : List (List ℕ)) (q : List ℕ) → head_of xs ≡ starts q → (rest : List (List ℕ)) × (xs ≡ q ∷ rest)
unfolding head_of
head_cons [] q h = absurd (let z : ◌≡◌ {A = ℕ} 0 1 = cc in omega arith)
head_cons (x ∷ xs) q h = (xs, cc)

pub head_none : (xs : List (List ℕ)) → head_of xs ≡ headless → xs ≡ []
unfolding head_of
head_none [] h = refl
head_none (x ∷ xs) h = absurd (let z : ◌≡◌ {A = ℕ} 0 1 = cc in omega arith)

module _ (power : ℕ → ℕ) (l n s : ℕ) where
  walked_sorted : Sorted by_positions (walked power l n s)
  unfolding walked summing
  walked_sorted = sifted_sorted (λ ps. eqb (xor_all power ps) s) l n

  walked_ascends : {q : List ℕ} → In q (walked power l n s) → Ascending l 0 q
  unfolding walked summing
  walked_ascends h = (sifted_in (λ ps. eqb (xor_all power ps) s) l n h).0

  pub first_starts : (q : List ℕ) → head_of (walked power l n s) ≡ starts q → FoundFirst by_positions l (walked power l n s) (walked power l n s) q
  first_starts q h =
      let r = head_cons (walked power l n s) q h in
      let behind = ap (sift (by_positions q)) r.1 ∙ sorted_behind walk_order [] q r.0 (rw r.1 at walked_sorted) in
      record { split = r.1 ∙ ap (λ (ys : List (List ℕ)). q ∷ ys) (sym behind); ascends = walked_ascends (rw r.1 (here refl)) }

  pub next_starts : (p q : List ℕ) → head_of (sift (by_positions p) (walked power l n s)) ≡ starts q
      → FoundFirst by_positions l (walked power l n s) (sift (by_positions p) (walked power l n s)) q
  next_starts p q h =
      let r = head_cons (sift (by_positions p) (walked power l n s)) q h in
      let behind = sorted_next walk_order (by_positions p) (walk_order.transitive p) walked_sorted q r.0 r.1 in
      record {
        split = r.1 ∙ ap (λ (ys : List (List ℕ)). q ∷ ys) (sym behind);
        ascends = walked_ascends (sift_in (by_positions p) (walked power l n s) (rw r.1 (here refl))).0;
      }

  -- count by count
  pub walked-rising : head_of (walked power l n s) ≡ head_of (summing power s (rising l zero (suc n)))
  unfolding walked
  walked-rising = ap (λ (xs : List (List ℕ)). head_of (summing power s xs)) (up_to_rising l n)

  pub after_rising : (p : List ℕ) (m : ℕ) → length p + m ≡ n
      → head_of (sift (by_positions p) (walked power l n s))
      ≡ or_else (first_after power l p s) (head_of (summing power s (rising l (suc (length p)) m)))
  unfolding walked first_after
  after_rising p m e =
      ap head_of
      (summing-sift power s (by_positions p) (up_to l n)
      ∙ ap (summing power s) (after_split p l n m e)
      ∙ summing-append power s (sift (lower p) (choose l (length p) zero)) (rising l (suc (length p)) m)
      ∙ ap (λ (xs : List (List ℕ)). xs ++ summing power s (rising l (suc (length p)) m)) (sym (summing-sift power s (lower p) (choose l (length p) zero))))
      ∙ head_append (sift (lower p) (summing power s (choose l (length p) zero))) (summing power s (rising l (suc (length p)) m))

  -- one count of the rise
  pub rise_step : (k m : ℕ)
      → head_of (summing power s (rising l k (suc m))) ≡ or_else (first_from power l k 0 s) (head_of (summing power s (rising l (suc k) m)))
  rise_step k m =
      ap (λ (xs : List (List ℕ)). head_of (summing power s xs)) (rising_suc l k m)
      ∙ ap head_of (summing-append power s (choose l k zero) (rising l (suc k) m))
      ∙ head_append (summing power s (choose l k zero)) (summing power s (rising l (suc k) m))
      ∙ ap (λ (h : Head). or_else h (head_of (summing power s (rising l (suc k) m)))) (sym (first_from_whole power l k s))

  pub rise_none : (k : ℕ) → head_of (summing power s (rising l k zero)) ≡ headless
  rise_none k = ap (λ (xs : List (List ℕ)). head_of (summing power s xs)) (rising_none l k) ∙ ap head_of (summing_nil power s) ∙ head_nil

pub risen_within : {S : List ℕ → Bool → List ℕ → Type 0} {least most : ℕ} {r : Option ℕ} {pos : List ℕ} → Risen S least most r pos → CountWithin most r
risen_within {S} {least} {most} {r} {pos} f = go r f.first
  where
    go : (r : Option ℕ) → FirstHit S least most r pos → CountWithin most r
    go (Some k) (from, to, hit, below) = to
    go None none = tt

-- what a rise found, where each step tells of the sets of one count
module _ (power : ℕ → ℕ) (l s : ℕ) {S : List ℕ → Bool → List ℕ → Type 0}
    (told : (xs : List ℕ) (r : Bool) (ys : List ℕ) → S xs r ys → answer r ys ≡ first_from power l (length xs) 0 s) where
  rise_on : (least m : ℕ) → Missed S least → head_of (summing power s (rising l least (suc m))) ≡ head_of (summing power s (rising l (suc least) m))
  rise_on least m (xs, ys, e, t) =
      let none : first_from power l least 0 s ≡ headless = sym (rw e at (told xs false ys t)) in
      rise_step power l 0 s least m ∙ rw none

  first_found : (least most m : ℕ) → least + m ≡ most + 1 → (r : Option ℕ) (pos : List ℕ) → FirstHit S least most r pos
      → found r pos ≡ head_of (summing power s (rising l least m))
  first_found least most zero e (Some k) pos (from, to, hit, below) = absurd (omega arith)
  first_found least most zero e None pos none = sym (rise_none power l 0 s least)
  first_found least most (suc m) e (Some k) pos (from, to, (xs, n, hit), below) =
      by_order least k
      (λ lt. first_found (suc least) most m (omega arith) (Some k) pos (omega arith, to, (xs, n, hit), λ j a b. below j (omega arith) b) ∙ sym (rise_on least m (below least (omega arith) lt)))
      (λ ge.
      let z : length xs ≡ least = omega arith in
      let q : starts (take k pos) ≡ first_from power l least 0 s = rw z at (told xs true (take k pos) hit) in
      sym (rise_step power l 0 s least m ∙ rw (← q)))
  first_found least most (suc m) e None pos none =
      first_found (suc least) most m (omega arith) None pos (λ j a b. none j (omega arith) b) ∙ sym (rise_on least m (none least (omega arith) (omega arith)))

  pub risen_found : {least most : ℕ} {r : Option ℕ} {pos : List ℕ} → Risen S least most r pos → least ≤ most + 1
      → CountWithin most r × (found r pos ≡ head_of (summing power s (rising l least (most + 1 - least))))
  risen_found {least} {most} {r} {pos} f h = (risen_within f, first_found least most (most + 1 - least) (omega arith) r pos f.first)
