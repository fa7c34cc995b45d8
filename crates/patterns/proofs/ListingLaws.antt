-- The list of error patterns, by which it can be believed whatever its definition looks like: a set is listed exactly
-- when it is ascending, below l, of at most so many positions and of the syndrome; and the list ascends in the order.
-- Both are proved for any test in the syndrome's place, so the generator is never looked into.
use mathlib.Core.Path.{◌≡◌, refl, sym, ap}
use mathlib.Core.Bool.{Bool, true, true≢false}
use mathlib.Core.Logic.{⊎_elim, ◌↔◌}
use mathlib.Core.List.{List, [], ◌∷◌, ◌++◌, map}
use Prim.Native.Nat.{ℕ, zero, suc, ◌+◌, ◌≤◌}
use native.Mathlib.Omega.{arith}
use borrow.Author.Tests.{le-leb, lt-ltb, leb-true, ltb-true, eq-eqb, eqb-true}
use lib.Dec.{eqb, ltb, leb}
use lib.ListN.{length}
use Rattle.base.specs.Lists.{In, here, there, Ascending, ends, next}
use Rattle.base.proofs.Cases.{by_test, by_order}
use Rattle.base.proofs.ListLaws.{in_nothing, ascending_from}
use Rattle.patterns.specs.Order.{before}
use Rattle.patterns.specs.StrictOrder.{Sorted}
use Rattle.patterns.specs.Listing.{ascending, syndrome, choose, up_to, sift, listing}
use Rattle.patterns.proofs.OrderLaws.{before_strict_total}
use Rattle.patterns.proofs.MemberLaws.{in_left, in_right, in_either, in_map, map_in}
use Rattle.patterns.proofs.SiftLaws.{sift_in, in_sift}
use Rattle.patterns.proofs.SortedLaws.{in_order_in, in_in_order, in_order_sorted, sorted_once, sorted_same}

-- ---- ascending positions, as a statement and as a test ----

pub ascending_true : (l from : ℕ) (ps : List ℕ) → ascending l from ps ≡ true → Ascending l from ps
unfolding ascending
ascending_true l from [] e = ends
ascending_true l from (p ∷ ps) e =
    by_test (leb from p)
    (λ t.
    by_test (ltb p l)
    (λ u. next (leb-true _ _ t) (ltb-true _ _ u) (ascending_true l (suc p) ps (rw (t, u) at e)))
    (λ u. absurd (true≢false (sym (rw (t, u) at e)))))
    (λ t. absurd (true≢false (sym (rw t at e))))

pub true_ascending : {l from : ℕ} {ps : List ℕ} → Ascending l from ps → ascending l from ps ≡ true
unfolding ascending
true_ascending ends = refl
true_ascending (next h k a) = simp (le-leb _ _ h, lt-ltb _ _ k, true_ascending a)

-- ---- all sets of k positions ----

pub choose_in : (room k from l : ℕ) → from + room ≡ l → (ps : List ℕ) → In ps (choose room k from) → Ascending l from ps × (length ps ≡ k)
unfolding choose
choose_in room zero from l e ps (here d) = rw d (ends, refl)
choose_in room zero from l e ps (there h) = absurd (in_nothing h)
choose_in zero (suc k) from l e ps h = absurd (in_nothing h)
choose_in (suc room) (suc k) from l e ps h =
    ⊎_elim
    (λ i.
    let r = map_in (λ (ps : List ℕ). from ∷ ps) (choose room k (suc from)) i in
    let a = choose_in room k (suc from) l (omega arith) r.0 r.1 in
    rw r.2 (next {from = from} {p = from} (omega arith) (omega arith) a.0, ap suc a.1))
    (λ i. let a = choose_in room (suc k) (suc from) l (omega arith) ps i in (ascending_from from (omega arith) a.0, a.1))
    (in_either (map (λ (ps : List ℕ). from ∷ ps) (choose room k (suc from))) h)

pub in_choose : (room from l : ℕ) → from + room ≡ l → {ps : List ℕ} → Ascending l from ps → In ps (choose room (length ps) from)
unfolding choose
in_choose zero from l e ends = here refl
in_choose zero from l e (next h k a) = absurd (omega arith)
in_choose (suc room) from l e ends = here refl
in_choose (suc room) from l e (next {p = p} {ps = ps} h k a) =
    by_order from p
    (λ lt. in_right (map (λ (qs : List ℕ). from ∷ qs) (choose room (length ps) (suc from))) (in_choose room (suc from) l (omega arith) (next lt k a)))
    (λ ge.
    let d : from ≡ p = omega arith in
    rw d (in_left (choose room (suc (length ps)) (suc p)) (in_map (λ (qs : List ℕ). p ∷ qs) (in_choose room (suc p) l (omega arith) a))))

in_choose_of : (room from l k : ℕ) → from + room ≡ l → {ps : List ℕ} → Ascending l from ps → length ps ≡ k → In ps (choose room k from)
in_choose_of room from l k e a d = rw d at (in_choose room from l e a)

-- ---- all sets of at most so many positions ----

pub up_to_in : (l limit : ℕ) {ps : List ℕ} → In ps (up_to l limit) → Ascending l 0 ps × (length ps ≤ limit)
unfolding up_to
up_to_in l zero {ps} h = let a = choose_in l 0 0 l (omega arith) ps h in (a.0, omega arith)
up_to_in l (suc limit) {ps} h =
    ⊎_elim (λ i. let a = up_to_in l limit i in (a.0, omega arith))
    (λ i. let a = choose_in l (suc limit) 0 l (omega arith) ps i in (a.0, omega arith))
    (in_either (up_to l limit) h)

pub in_up_to : (l limit : ℕ) {ps : List ℕ} → Ascending l 0 ps → length ps ≤ limit → In ps (up_to l limit)
unfolding up_to
in_up_to l zero a h = in_choose_of l 0 l 0 (omega arith) a (omega arith)
in_up_to l (suc limit) {ps} a h =
    by_order (length ps) (suc limit) (λ lt. in_left (choose l (suc limit) 0) (in_up_to l limit a (omega arith)))
    (λ ge. in_right (up_to l limit) (in_choose_of l 0 l (suc limit) (omega arith) a (omega arith)))

-- ---- the list ----

-- those of them that pass a test
module _ (P : List ℕ → Bool) (l limit : ℕ) where
  pub sifted_in : {ps : List ℕ} → In ps (sift P (up_to l limit)) → Ascending l 0 ps × (length ps ≤ limit) × (P ps ≡ true)
  sifted_in h = let r = sift_in P (up_to l limit) h in let a = up_to_in l limit r.0 in (a.0, a.1, r.1)

  pub in_sifted : {ps : List ℕ} → Ascending l 0 ps → length ps ≤ limit → P ps ≡ true → In ps (sift P (up_to l limit))
  in_sifted a h t = in_sift P (in_up_to l limit a h) t

module _ (n g l limit s : ℕ) where
  -- a set is listed exactly when it is one of at most so many positions below l with the syndrome
  pub listed_iff : (ps : List ℕ) → In ps (listing n g l limit s) ↔ (Ascending l 0 ps × (length ps ≤ limit) × (syndrome n g ps ≡ s))
  unfolding listing
  listed_iff ps =
      let P : List ℕ → Bool = λ qs. eqb (syndrome n g qs) s in (
        λ h. let r = sifted_in P l limit (in_order_in before_strict_total (sift P (up_to l limit)) h) in (r.0, r.1, eqb-true _ _ r.2),
        λ h. in_in_order before_strict_total (in_sifted P l limit h.0 h.1 (eq-eqb _ _ h.2)),
      )

  -- every listed pattern comes before every later one
  pub listing_sorted : Sorted before (listing n g l limit s)
  unfolding listing
  listing_sorted = in_order_sorted before_strict_total (sift (λ qs. eqb (syndrome n g qs) s) (up_to l limit))

  -- nothing stands twice
  pub listed_once : (xs : List (List ℕ)) (p : List ℕ) (ys : List (List ℕ)) → listing n g l limit s ≡ xs ++ p ∷ ys → (In p xs → ⊥) × (In p ys → ⊥)
  listed_once xs p ys e = sorted_once before_strict_total xs (rw e at listing_sorted)

  pub listed_limit : (ps : List ℕ) → In ps (listing n g l limit s) → length ps ≤ limit
  listed_limit ps h = ((listed_iff ps).0 h).1

  -- the two laws leave no other list
  pub listing_only : (xs : List (List ℕ)) → Sorted before xs
      → ((ps : List ℕ) → In ps xs ↔ (Ascending l 0 ps × (length ps ≤ limit) × (syndrome n g ps ≡ s))) → xs ≡ listing n g l limit s
  listing_only xs sorted iff =
      sorted_same before_strict_total sorted listing_sorted (λ a i. (listed_iff a).1 ((iff a).0 i)) (λ a i. (iff a).1 ((listed_iff a).0 i))
