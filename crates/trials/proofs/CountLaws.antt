-- Counts: none is above the number of trials.
use mathlib.Core.Path.{◌≡◌, refl, ap}
use mathlib.Core.List.{List, [], ◌∷◌}
use Prim.Native.Nat.{ℕ, zero, suc, ◌≤◌}
use native.Mathlib.Omega.{arith}
use lib.ListN.{get_or, set, replicate}
use Rattle.trials.specs.Trials.{no_counts, counted}
use Rattle.trials.specs.Running.{Within}

-- an element of a list that has another at one place
get_d_set : {A : Type 0} (l : List A) (i j : ℕ) (a d : A) (P : A → Type 0) → P (get_or l j d) → (j ≡ i → P a) → P (get_or (set l i a) j d)
get_d_set [] i j a d P h k = h
get_d_set (x ∷ l) zero zero a d P h k = k refl
get_d_set (x ∷ l) zero (suc j) a d P h k = h
get_d_set (x ∷ l) (suc i) zero a d P h k = h
get_d_set (x ∷ l) (suc i) (suc j) a d P h k = get_d_set l i j a d P h (λ e. k (ap suc e))

pub counted_within : {m : ℕ} (row col : ℕ) (counts : List (List ℕ)) → Within counts m → Within (counted row col counts) (suc m)
unfolding counted
counted_within {m} row col counts w g i =
    get_d_set counts row g (set (get_or counts row []) col (suc (get_or (get_or counts row []) col 0))) [] (λ (l : List ℕ). get_or l i 0 ≤ suc m) (omega (arith, w g i))
    (λ e.
    get_d_set (get_or counts row []) col i (suc (get_or (get_or counts row []) col 0)) 0 (λ (n : ℕ). n ≤ suc m) (omega (arith, w row i)) (λ f. omega (arith, w row col)))

pub within_more : {m : ℕ} (n : ℕ) (counts : List (List ℕ)) → Within counts m → m ≤ n → Within counts n
within_more n counts w h row col = omega (arith, w row col, h)

zeros : (n i : ℕ) → get_or (replicate n 0) i 0 ≤ 0
zeros zero i = omega arith
zeros (suc n) zero = omega arith
zeros (suc n) (suc i) = zeros n i

pub none_within : Within no_counts 0
none_within = rows_of_zeros 9
  where
    rows_of_zeros : (n row col : ℕ) → get_or (get_or (replicate n (replicate 5 0)) row []) col 0 ≤ 0
    rows_of_zeros zero row col = omega arith
    rows_of_zeros (suc n) zero col = zeros 5 col
    rows_of_zeros (suc n) (suc row) col = rows_of_zeros n row col
