-- Members of a list, what holds of every member, and ascending numbers.
use mathlib.Core.Path.{◌≡◌, refl}
use mathlib.Core.List.{List, [], ◌∷◌}
use Prim.Native.Nat.{ℕ, zero, suc, ◌+◌, ◌<◌, ◌≤◌}
use native.Mathlib.Omega.{arith}
use lib.ListN.{length, get_or}
use Rattle.base.specs.Lists.{In, here, there, All, none, each, Ascending, ends, next}

pub in_nothing : {A : Type 0} {a : A} → In a [] → ⊥
in_nothing h = elim h [ ]

pub no_member : {A : Type 0} (xs : List A) → ((a : A) → In a xs → ⊥) → xs ≡ []
no_member [] h = refl
no_member (x ∷ xs) h = absurd (h x (here refl))

pub at_place : {A : Type 0} (xs : List A) (d : A) (i : ℕ) → i < length xs → In (get_or xs i d) xs
at_place [] d i h = absurd (omega arith)
at_place (x ∷ xs) d zero h = here refl
at_place (x ∷ xs) d (suc i) h = there (at_place xs d i (omega arith))

pub all_at : {l : ℕ} {ps : List ℕ} → All (λ (p : ℕ). p < l) ps → (i : ℕ) → i < length ps → get_or ps i 0 < l
all_at none i h = absurd (omega arith)
all_at (each k ks) zero h = k
all_at (each k ks) (suc i) h = all_at ks i (omega arith)

-- ---- ascending numbers ----

pub ascending_from : {l from : ℕ} {ps : List ℕ} (to : ℕ) → to ≤ from → Ascending l from ps → Ascending l to ps
ascending_from to h ends = ends
ascending_from to h (next {p = p} a b c) = let e : to ≤ p = omega arith in next e b c

pub ascending_all : {l from : ℕ} {ps : List ℕ} → Ascending l from ps → All (λ (p : ℕ). p < l) ps
ascending_all ends = none
ascending_all (next h k a) = each k (ascending_all a)

pub ascending_above : {l from : ℕ} {ps : List ℕ} (to : ℕ) → to ≤ from → Ascending l from ps → All (λ (p : ℕ). to ≤ p) ps
ascending_above to h ends = none
ascending_above to h (next {p = p} j k a) = let e : to ≤ p = omega arith in each e (ascending_above to (omega arith) a)

pub ascending_at : {l from : ℕ} {ps : List ℕ} → Ascending l from ps → (i : ℕ) → i < length ps → get_or ps i 0 < l
ascending_at h = all_at (ascending_all h)

-- there are no more of them than numbers below l
pub ascending-length : {l from : ℕ} {ps : List ℕ} → Ascending l from ps → from ≤ l → from + length ps ≤ l
ascending-length ends h = omega arith
ascending-length (next j k a) h = omega (arith, ascending-length a k)

-- no later one is lower
pub ascending_on : {l from : ℕ} {ps : List ℕ} → Ascending l from ps → (i j : ℕ) → i ≤ j → j < length ps → get_or ps i 0 ≤ get_or ps j 0
ascending_on ends i j h k = absurd (omega arith)
ascending_on (next a b c) zero zero h k = omega arith
ascending_on (next a b c) zero (suc j) h k = omega (arith, all_from c j (omega arith))
  where
    all_from : {l from : ℕ} {ps : List ℕ} → Ascending l from ps → (i : ℕ) → i < length ps → from ≤ get_or ps i 0
    all_from ends i k = absurd (omega arith)
    all_from (next a b c) zero k = a
    all_from (next a b c) (suc i) k = omega (arith, all_from c i (omega arith))
ascending_on (next a b c) (suc i) zero h k = absurd (omega arith)
ascending_on (next a b c) (suc i) (suc j) h k = ascending_on c i j (omega arith) (omega arith)
