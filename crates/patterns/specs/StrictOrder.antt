-- What a strict total order is, for an order given as a test, when a list ascends in it, and what stands first by it.
use Rattle.std.specs.Prelude.{◌≡◌, Bool, true, false, List, [], ◌∷◌}
use Rattle.base.specs.Lists.{In}

-- exactly one of these holds of a and b: a comes first, they are equal, b comes first
pub data Trichotomy {A : Type 0} (R : A → A → Bool) (a b : A) : Type 0 where
  precedes : R a b ≡ true → (a ≡ b → ⊥) → R b a ≡ false → Trichotomy R a b
  equals : R a b ≡ false → a ≡ b → R b a ≡ false → Trichotomy R a b
  succeeds : R a b ≡ false → (a ≡ b → ⊥) → R b a ≡ true → Trichotomy R a b

pub record StrictTotal {A : Type 0} (R : A → A → Bool) : Type 0 where
  pub irreflexive : (a : A) → R a a ≡ false
  pub transitive : (a b c : A) → R a b ≡ true → R b c ≡ true → R a c ≡ true
  pub trichotomy : (a b : A) → Trichotomy R a b

-- every member comes before every later one
pub data Sorted {A : Type 0} (R : A → A → Bool) : List A → Type 0 where
  empty : Sorted R []
  first : {x : A} {xs : List A} → ((y : A) → In y xs → R x y ≡ true) → Sorted R xs → Sorted R (x ∷ xs)

-- what stands first of all that meet P: it does, and every other that does comes after it
pub record Foremost {A : Type 0} (R : A → A → Bool) (P : A → Type 0) (a : A) : Type 0 where
  pub meets : P a
  pub others_after : (b : A) → P b → (b ≡ a → ⊥) → R a b ≡ true
