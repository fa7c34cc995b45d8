-- Lists that ascend in an order: how they are joined, mapped and sifted, that nothing stands twice in them, that their
-- members alone decide them, and what follows a member. All for any order that is irreflexive and transitive. Then lists put in
-- an order, for any strict total one.
use mathlib.Core.Path.{◌≡◌, refl, sym, ap, subst, ◌∙◌}
use mathlib.Core.Bool.{Bool, true, false, true≢false}
use mathlib.Core.Logic.{◌⊎◌, inl, inr, ⊎_elim}
use mathlib.Core.List.{List, [], ◌∷◌, ◌++◌, map}
use Prim.Native.Nat.{ℕ, zero, suc, ◌<◌, ◌≤◌}
use native.Mathlib.Omega.{arith}
use lib.ListN.{length, get_or, take}
use Rattle.base.specs.Lists.{In, here, there}
use Rattle.base.proofs.Cases.{by_test}
use Rattle.patterns.specs.Listing.{sift, inserted, in_order}
use Rattle.patterns.specs.StrictOrder.{Sorted, empty, first, precedes, equals, succeeds, StrictTotal}
use Rattle.base.proofs.ListLaws.{in_nothing, at_place}
use Rattle.patterns.proofs.MemberLaws.{in_left, in_right, in_either, map_in}
use Rattle.patterns.proofs.SiftLaws.{sift_skip, sift_in, sift_all, sift_none, sift-append}

module _ {A : Type 0} {R : A → A → Bool} where
  pub sorted_head : {x : A} {xs : List A} → Sorted R (x ∷ xs) → (y : A) → In y xs → R x y ≡ true
  sorted_head (first h s) = h

  pub sorted_tail : {x : A} {xs : List A} → Sorted R (x ∷ xs) → Sorted R xs
  sorted_tail (first h s) = s

  pub sorted_append : {xs ys : List A} → Sorted R xs → Sorted R ys → ((x y : A) → In x xs → In y ys → R x y ≡ true) → Sorted R (xs ++ ys)
  sorted_append empty t c = t
  sorted_append {ys = ys} (first {x = x} {xs = xs} h s) t c =
      first (λ y i. ⊎_elim (λ k. h y k) (λ k. c x y (here refl) k) (in_either xs i))
      (sorted_append s t (λ a b i j. c a b (there i) j))

  pub append_sorted : (xs : List A) {ys : List A} → Sorted R (xs ++ ys) → Sorted R ys
  append_sorted [] s = s
  append_sorted (x ∷ xs) s = append_sorted xs (sorted_tail s)

  -- of two joined parts every member of the first comes before every one of the second
  pub append_cross : (xs : List A) {ys : List A} → Sorted R (xs ++ ys) → (a b : A) → In a xs → In b ys → R a b ≡ true
  append_cross [] s a b i j = absurd (in_nothing i)
  append_cross (x ∷ xs) s a b (here e) j = rw e (sorted_head s b (in_right xs j))
  append_cross (x ∷ xs) s a b (there i) j = append_cross xs (sorted_tail s) a b i j

  pub sorted_map : (f : A → A) {xs : List A} → ((a b : A) → In a xs → In b xs → R a b ≡ true → R (f a) (f b) ≡ true) → Sorted R xs → Sorted R (map f xs)
  sorted_map f c empty = empty
  sorted_map f c (first {x = x} {xs = xs} h s) =
      first {x = f x} (λ y i. let r = map_in f xs i in rw r.2 (c x r.0 (here refl) (there r.1) (h r.0 r.1)))
      (sorted_map f (λ a b i j. c a b (there i) (there j)) s)

  -- by another order that agrees on the members
  pub sorted_by : {S : A → A → Bool} {xs : List A} → ((a b : A) → In a xs → In b xs → R a b ≡ true → S a b ≡ true) → Sorted R xs → Sorted S xs
  sorted_by c empty = empty
  sorted_by c (first {x = x} h s) = first (λ y i. c x y (here refl) (there i) (h y i)) (sorted_by (λ a b i j. c a b (there i) (there j)) s)

  pub sorted_sift : (P : A → Bool) {xs : List A} → Sorted R xs → Sorted R (sift P xs)
  unfolding sift
  sorted_sift P empty = empty
  sorted_sift P (first {x = x} {xs = xs} h s) =
      by_test (P x) (λ u. rw u (first (λ y i. h y (sift_in P xs i).0) (sorted_sift P s))) (λ u. rw u (sorted_sift P s))

  -- the first ones, and two by their places
  pub sorted_take : (n : ℕ) {xs : List A} → Sorted R xs → Sorted R (take n xs)
  sorted_take zero s = empty
  sorted_take (suc n) empty = empty
  sorted_take (suc n) (first {xs = xs} h s) = first (λ y i. h y (taken n xs i)) (sorted_take n s)
    where
      taken : (n : ℕ) (xs : List A) {y : A} → In y (take n xs) → In y xs
      taken zero xs i = absurd (in_nothing i)
      taken (suc n) [] i = i
      taken (suc n) (x ∷ xs) (here e) = here e
      taken (suc n) (x ∷ xs) (there i) = there (taken n xs i)

  pub sorted_at : (d : A) {xs : List A} → Sorted R xs → (i j : ℕ) → i < j → j < length xs → R (get_or xs i d) (get_or xs j d) ≡ true
  sorted_at d empty i j h k = absurd (omega arith)
  sorted_at d (first m s) i zero h k = absurd (omega arith)
  sorted_at d (first {xs = xs} m s) zero (suc j) h k = m (get_or xs j d) (at_place xs d j (omega arith))
  sorted_at d (first m s) (suc i) (suc j) h k = sorted_at d s i j (omega arith) (omega arith)

module _ {A : Type 0} {R : A → A → Bool} (order : StrictTotal R) where
  pub never_both : (a b : A) → R a b ≡ true → R b a ≡ true → ⊥
  never_both a b h k = true≢false (sym (order.transitive a b a h k) ∙ order.irreflexive a)

  pub differs : {a b : A} → R a b ≡ true → a ≡ b → ⊥
  differs {b = b} h e = true≢false (sym h ∙ ap (λ (c : A). R c b) e ∙ order.irreflexive b)

  pub not_back : (a b : A) → R a b ≡ true → R b a ≡ false
  not_back a b h = by_test (R b a) (λ t. absurd (never_both a b h t)) (λ t. t)

  -- nothing stands twice
  pub sorted_once : (xs : List A) {x : A} {ys : List A} → Sorted R (xs ++ x ∷ ys) → (In x xs → ⊥) × (In x ys → ⊥)
  sorted_once xs {x} s = (
    λ i. let t = append_cross xs s x x i (here refl) in never_both x x t t,
    λ i. let t = sorted_head (append_sorted xs s) x i in never_both x x t t,
  )

  -- one of two lists with the same members and the same first one
  tail_within : {x y : A} {xs ys : List A} → x ≡ y → Sorted R (x ∷ xs) → ((a : A) → In a (x ∷ xs) → In a (y ∷ ys)) → (a : A) → In a xs → In a ys
  tail_within {x} {y} {xs} {ys} e s f a i =
      elim (f a (there i)) [
        | here d ↦ let t = sorted_head s a i in absurd (never_both x a t (rw (d ∙ sym e) (rw (d ∙ sym e) at t)))
        | there k ↦ k
      ]

  -- a list that ascends is known by its members
  pub sorted_same : {xs ys : List A} → Sorted R xs → Sorted R ys → ((a : A) → In a xs → In a ys) → ((a : A) → In a ys → In a xs) → xs ≡ ys
  sorted_same empty empty f g = refl
  sorted_same empty (first {x = y} k t) f g = absurd (in_nothing (g y (here refl)))
  sorted_same (first {x = x} h s) empty f g = absurd (in_nothing (f x (here refl)))
  sorted_same (first {x = x} {xs = xs} h s) (first {x = y} {xs = ys} k t) f g =
      let e = heads x y h k (f x (here refl)) (g y (here refl)) in
      let d = sorted_same s t (tail_within e (first h s) f) (tail_within (sym e) (first k t) g) in
      cc
    where
      heads : {xs ys : List A} (x y : A) → ((b : A) → In b xs → R x b ≡ true) → ((b : A) → In b ys → R y b ≡ true) → In x (y ∷ ys) → In y (x ∷ xs) → x ≡ y
      heads x y h k (here e) j = e
      heads x y h k (there i) (here e) = sym e
      heads x y h k (there i) (there j) = absurd (never_both x y (h y j) (k x i))

  -- ---- what follows ----

  -- behind a member stands what follows it
  pub sorted_behind : (done : List A) (q : A) (rest : List A) → Sorted R (done ++ q ∷ rest) → sift (R q) (done ++ q ∷ rest) ≡ rest
  sorted_behind done q rest s =
      sift-append (R q) done (q ∷ rest)
      ∙ ap (λ (l : List A). l ++ sift (R q) (q ∷ rest)) (sift_none (R q) done (λ a i. not_back a q (append_cross done s a q i (here refl))))
      ∙ sift_skip (R q) q rest (order.irreflexive q)
      ∙ sift_all (R q) rest (sorted_head (append_sorted done s))

  -- of what passes a test that, once passed, is passed by all that follows: what stands behind the first is what follows it
  pub sorted_next : (P : A → Bool) → ((a b : A) → P a ≡ true → R a b ≡ true → P b ≡ true)
      → {xs : List A} → Sorted R xs → (q : A) (rest : List A) → sift P xs ≡ q ∷ rest → sift (R q) xs ≡ rest
  unfolding sift
  sorted_next P up empty q rest e = absurd (let z : ◌≡◌ {A = ℕ} 0 1 = cc in omega arith)
  sorted_next P up (first {x = x} {xs = xs} h s) q rest e =
      by_test (P x)
      (λ t.
      let d = rw (t, sift_all P xs (λ a i. up x a t (h a i))) at e in
      let x=q : x ≡ q = cc in
      let xs=rest : xs ≡ rest = cc in
      subst (λ (z : A). sift (R z) (x ∷ xs) ≡ rest) x=q (rw (order.irreflexive x, ← xs=rest) (sift_all (R x) xs h)))
      (λ t.
      let d = rw t at e in
      rw (not_back x q (h q (sift_in P xs (rw d (here refl))).0)) (sorted_next P up s q rest d))

  -- ---- a list put in order ----

  -- by how x and y compare: x in front of y, as y, or somewhere behind y
  inserted-step : (C : List A → Type 0) (x y : A) (ys : List A) → (R x y ≡ true → C (x ∷ y ∷ ys)) → (x ≡ y → C (y ∷ ys)) → (R y x ≡ true → C (y ∷ inserted R x ys))
      → C (inserted R x (y ∷ ys))
  unfolding inserted
  inserted-step C x y ys f g h =
      elim (order.trichotomy x y) [
        | precedes a b c ↦ rw a (f a)
        | equals a b c ↦ rw (a, c) (g b)
        | succeeds a b c ↦ rw (a, c) (h c)
      ]

  in_inserted : (x : A) (ys : List A) {a : A} → (a ≡ x) ⊎ In a ys → In a (inserted R x ys)
  unfolding inserted
  in_inserted x [] (inl e) = here e
  in_inserted x [] (inr i) = absurd (in_nothing i)
  in_inserted x (y ∷ ys) {a} (inl e) =
      inserted-step (λ l. In a l) x y ys (λ t. here e) (λ d. here (e ∙ d)) (λ t. there (in_inserted x ys (inl e)))
  in_inserted x (y ∷ ys) {a} (inr (here e)) = inserted-step (λ l. In a l) x y ys (λ t. there (here e)) (λ d. here e) (λ t. here e)
  in_inserted x (y ∷ ys) {a} (inr (there k)) =
      inserted-step (λ l. In a l) x y ys (λ t. there (there k)) (λ d. there k) (λ t. there (in_inserted x ys (inr k)))

  -- the first of a list, or one behind it
  first-or : {a y : A} {ys : List A} {C : Type 0} → (a ≡ y → C) → (In a ys → C) → In a (y ∷ ys) → C
  first-or f g (here e) = f e
  first-or f g (there i) = g i

  inserted_in : (x : A) (ys : List A) {a : A} → In a (inserted R x ys) → (a ≡ x) ⊎ In a ys
  unfolding inserted
  inserted_in x [] i = first-or (λ e. inl e) (λ k. absurd (in_nothing k)) i
  inserted_in x (y ∷ ys) {a} i =
      inserted-step (λ l. In a l → (a ≡ x) ⊎ In a (y ∷ ys)) x y ys (λ t. first-or (λ e. inl e) (λ k. inr k)) (λ e j. inr j)
      (λ t. first-or (λ e. inr (here e)) (λ k. ⊎_elim (λ e. inl e) (λ j. inr (there j)) (inserted_in x ys k))) i

  inserted_sorted : (x : A) {ys : List A} → Sorted R ys → Sorted R (inserted R x ys)
  unfolding inserted
  inserted_sorted x empty = first (λ y i. absurd (in_nothing i)) empty
  inserted_sorted x (first {x = y} {xs = ys} h s) =
      inserted-step (λ l. Sorted R l) x y ys
      (λ t. first (λ z i. first-or (λ e. rw e t) (λ k. order.transitive x y z t (h z k)) i) (first h s))
      (λ e. first h s)
      (λ t. first (λ z i. ⊎_elim (λ e. rw e t) (λ k. h z k) (inserted_in x ys i)) (inserted_sorted x s))

  inserted-length : (x : A) (ys : List A) → length (inserted R x ys) ≤ suc (length ys)
  unfolding inserted
  inserted-length x [] = omega arith
  inserted-length x (y ∷ ys) =
      inserted-step (λ l. length l ≤ suc (suc (length ys))) x y ys (λ t. omega arith) (λ e. omega arith) (λ t. omega (arith, inserted-length x ys))

  pub in_in_order : {a : A} {xs : List A} → In a xs → In a (in_order R xs)
  unfolding in_order
  in_in_order (here {x = x} {xs = xs} e) = in_inserted x (in_order R xs) (inl e)
  in_in_order (there {x = x} {xs = xs} i) = in_inserted x (in_order R xs) (inr (in_in_order i))

  pub in_order_in : (xs : List A) {a : A} → In a (in_order R xs) → In a xs
  unfolding in_order
  in_order_in [] i = absurd (in_nothing i)
  in_order_in (x ∷ xs) i = ⊎_elim (λ e. here e) (λ k. there (in_order_in xs k)) (inserted_in x (in_order R xs) i)

  pub in_order_sorted : (xs : List A) → Sorted R (in_order R xs)
  unfolding in_order
  in_order_sorted [] = empty
  in_order_sorted (x ∷ xs) = inserted_sorted x (in_order_sorted xs)

  pub in_order-length : (xs : List A) → length (in_order R xs) ≤ length xs
  unfolding in_order
  in_order-length [] = omega arith
  in_order-length (x ∷ xs) = omega (arith, inserted-length x (in_order R xs), in_order-length xs)

  -- what ascends and has the same members is the list put in order, whatever order its members came in
  pub in_order_only : {xs ys : List A} → Sorted R ys → ((a : A) → In a ys → In a xs) → ((a : A) → In a xs → In a ys) → ys ≡ in_order R xs
  in_order_only {xs} sorted f g =
      sorted_same sorted (in_order_sorted xs) (λ a i. in_in_order (f a i)) (λ a i. g a (in_order_in xs i))

  -- one more, met last
  pub in_order_snoc : (xs : List A) (x : A) → inserted R x (in_order R xs) ≡ in_order R (xs ++ x ∷ [])
  in_order_snoc xs x =
      in_order_only (inserted_sorted x (in_order_sorted xs))
      (λ a i. ⊎_elim (λ e. in_right xs (here e)) (λ k. in_left (x ∷ []) (in_order_in xs k)) (inserted_in x (in_order R xs) i))
      (λ a i.
      ⊎_elim (λ k. in_inserted x (in_order R xs) (inr (in_in_order k))) (λ k. in_inserted x (in_order R xs) (inl (only k))) (in_either xs i))
    where
      only : {a x : A} → In a (x ∷ []) → a ≡ x
      only (here e) = e
      only (there k) = absurd (in_nothing k)

  -- what does not stand there makes the list longer by one
  pub inserted_more : (x : A) (ys : List A) → (In x ys → ⊥) → length (inserted R x ys) ≡ suc (length ys)
  unfolding inserted
  inserted_more x [] new = refl
  inserted_more x (y ∷ ys) new =
      inserted-step (λ l. length l ≡ suc (suc (length ys))) x y ys (λ t. refl) (λ e. absurd (new (here e)))
      (λ t. ap suc (inserted_more x ys (λ i. new (there i))))
