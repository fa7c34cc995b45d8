-- Members of joined and mapped lists.
use mathlib.Core.Path.{◌≡◌, refl, ap}
use mathlib.Core.Logic.{◌⊎◌, inl, inr, ⊎_elim}
use mathlib.Core.List.{List, [], ◌∷◌, ◌++◌, map}
use Rattle.base.specs.Lists.{In, here, there}

module _ {A : Type 0} where
  pub in_left : {a : A} {xs : List A} (ys : List A) → In a xs → In a (xs ++ ys)
  in_left ys (here e) = here e
  in_left ys (there h) = there (in_left ys h)

  pub in_right : {a : A} (xs : List A) {ys : List A} → In a ys → In a (xs ++ ys)
  in_right [] h = h
  in_right (x ∷ xs) h = there (in_right xs h)

  pub in_either : {a : A} (xs : List A) {ys : List A} → In a (xs ++ ys) → In a xs ⊎ In a ys
  in_either [] h = inr h
  in_either (x ∷ xs) (here e) = inl (here e)
  in_either (x ∷ xs) (there h) = ⊎_elim (λ k. inl (there k)) (λ k. inr k) (in_either xs h)

  pub in_map : {B : Type 0} (f : A → B) {a : A} {xs : List A} → In a xs → In (f a) (map f xs)
  in_map f (here e) = here (ap f e)
  in_map f (there h) = there (in_map f h)

  pub map_in : {B : Type 0} (f : A → B) {b : B} (xs : List A) → In b (map f xs) → (a : A) × In a xs × (b ≡ f a)
  map_in f [] h = elim h [ ]
  map_in f (x ∷ xs) (here e) = (x, here refl, e)
  map_in f (x ∷ xs) (there h) = let r = map_in f xs h in (r.0, there r.1, r.2)
