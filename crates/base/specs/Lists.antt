-- Statements about lists: a member, a fact of every member, strictly ascending numbers.
use Rattle.std.specs.Prelude.{ℕ, suc, ◌≤◌, ◌<◌, ◌≡◌, List, [], ◌∷◌}

pub data In {A : Type 0} (a : A) : List A → Type 0 where
  here : {x : A} {xs : List A} → a ≡ x → In a (x ∷ xs)
  there : {x : A} {xs : List A} → In a xs → In a (x ∷ xs)

pub data All {A : Type 0} (P : A → Type 0) : List A → Type 0 where
  none : All P []
  each : {x : A} {xs : List A} → P x → All P xs → All P (x ∷ xs)

-- strictly ascending numbers, from `from` on and below l
pub data Ascending (l : ℕ) : ℕ → List ℕ → Type 0 where
  ends : {from : ℕ} → Ascending l from []
  next : {from p : ℕ} {ps : List ℕ} → from ≤ p → p < l → Ascending l (suc p) ps → Ascending l from (p ∷ ps)
