-- What passes a test, in its order; and, in a list that ascends, what follows a member or a mark.
use mathlib.Core.Path.{◌≡◌, refl, sym, ◌∙◌}
use mathlib.Core.Bool.{Bool, true, false, ◌&&◌, and_comm}
use mathlib.Core.List.{List, [], ◌∷◌, ◌++◌, map}
use Prim.Native.Nat.{◌≤◌}
use native.Mathlib.Omega.{arith}
use lib.ListN.{length}
use Rattle.base.specs.Lists.{In, here, there}
use Rattle.base.proofs.Cases.{by_test}
use Rattle.patterns.specs.Listing.{sift}

module _ {A : Type 0} (P : A → Bool) where
  pub sift_keep : (x : A) (xs : List A) → P x ≡ true → sift P (x ∷ xs) ≡ x ∷ sift P xs
  unfolding sift
  sift_keep x xs e = rw e

  pub sift_skip : (x : A) (xs : List A) → P x ≡ false → sift P (x ∷ xs) ≡ sift P xs
  unfolding sift
  sift_skip x xs e = rw e

  -- a member of what passes is a member that passes, and the other way round
  pub in_sift : {a : A} {xs : List A} → In a xs → P a ≡ true → In a (sift P xs)
  in_sift (here {x = x} {xs = xs} e) t = rw (sift_keep x xs (rw e at t)) (here e)
  in_sift (there {x = x} {xs = xs} h) t =
      by_test (P x) (λ u. rw (sift_keep x xs u) (there (in_sift h t))) (λ u. rw (sift_skip x xs u) (in_sift h t))

  pub sift_in : {a : A} (xs : List A) → In a (sift P xs) → In a xs × (P a ≡ true)
  unfolding sift
  sift_in [] h = elim h [ ]
  sift_in (x ∷ xs) h =
      by_test (P x) (λ u. kept x xs u (λ k. sift_in xs k) (rw u at h)) (λ u. let r = sift_in xs (rw u at h) in (there r.0, r.1))
    where
      kept : {b : A} (x : A) (xs : List A) → P x ≡ true → (In b (sift P xs) → In b xs × (P b ≡ true)) → In b (x ∷ sift P xs) → In b (x ∷ xs) × (P b ≡ true)
      kept x xs u f (here e) = (here e, rw e u)
      kept x xs u f (there k) = let r = f k in (there r.0, r.1)

  pub sift-append : (xs ys : List A) → sift P (xs ++ ys) ≡ sift P xs ++ sift P ys
  unfolding sift
  sift-append [] ys = refl
  sift-append (x ∷ xs) ys = by_test (P x) (λ u. rw (u, sift-append xs ys)) (λ u. rw (u, sift-append xs ys))

  pub sift-same : (Q : A → Bool) (xs : List A) → ((a : A) → In a xs → P a ≡ Q a) → sift P xs ≡ sift Q xs
  unfolding sift
  sift-same Q [] h = refl
  sift-same Q (x ∷ xs) h = rw (h x (here refl), sift-same Q xs (λ a i. h a (there i)))

  pub sift_all : (xs : List A) → ((a : A) → In a xs → P a ≡ true) → sift P xs ≡ xs
  unfolding sift
  sift_all [] h = refl
  sift_all (x ∷ xs) h = rw (h x (here refl), sift_all xs (λ a i. h a (there i)))

  pub sift_none : (xs : List A) → ((a : A) → In a xs → P a ≡ false) → sift P xs ≡ []
  unfolding sift
  sift_none [] h = refl
  sift_none (x ∷ xs) h = rw (h x (here refl)) (sift_none xs (λ a i. h a (there i)))

  pub sift-sift : (Q : A → Bool) (xs : List A) → sift P (sift Q xs) ≡ sift (λ a. Q a && P a) xs
  unfolding sift
  sift-sift Q [] = refl
  sift-sift Q (x ∷ xs) =
      by_test (Q x) (λ u. by_test (P x) (λ v. rw (u, v, sift-sift Q xs)) (λ v. rw (u, v, sift-sift Q xs)))
      (λ u. rw (u, sift-sift Q xs))

  pub sift-length : (xs : List A) → length (sift P xs) ≤ length xs
  unfolding sift
  sift-length [] = omega arith
  sift-length (x ∷ xs) =
      by_test (P x) (λ u. rw u (omega (arith, sift-length xs))) (λ u. rw u (omega (arith, sift-length xs)))

pub sift_comm : {A : Type 0} (P Q : A → Bool) (xs : List A) → sift P (sift Q xs) ≡ sift Q (sift P xs)
sift_comm P Q xs =
    sift-sift P Q xs ∙ sift-same (λ a. Q a && P a) (λ a. P a && Q a) xs (λ a i. and_comm (Q a) (P a)) ∙ sym (sift-sift Q P xs)

pub sift-map : {A B : Type 0} (P : B → Bool) (f : A → B) (xs : List A) → sift P (map f xs) ≡ map f (sift (λ x. P (f x)) xs)
unfolding sift
sift-map P f [] = refl
sift-map P f (x ∷ xs) = by_test (P (f x)) (λ u. rw (u, sift-map P f xs)) (λ u. rw (u, sift-map P f xs))
