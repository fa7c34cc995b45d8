-- How many patterns there are: as many of k positions as Pascal's binomial says, and so fewer than 2 ^ 64 of at most
-- six positions below 4,096.
use mathlib.Core.Path.{◌≡◌, refl, ap, ap₂, ◌∙◌}
use mathlib.Core.List.{List, [], ◌∷◌, map}
use Prim.Native.Nat.{ℕ, zero, suc, ◌+◌, ◌*◌, ◌^◌, ◌<◌, ◌≤◌}
use native.Mathlib.Omega.{arith}
use native.Mathlib.Decide.{le_ind}
use native.Mathlib.Nat.{mul-le-mul_left}
use lib.ListN.{length, length-append}
use lib.Dec.{eqb}
use Rattle.patterns.specs.Listing.{syndrome, choose, up_to, listing}
use Rattle.patterns.specs.Walk.{walk}
use Rattle.patterns.proofs.OrderLaws.{before_strict_total}
use Rattle.patterns.proofs.SiftLaws.{sift-length}
use Rattle.patterns.proofs.SortedLaws.{in_order-length}

-- in how many ways k of n things can be chosen, by Pascal's rule
unfoldable pub binomial : ℕ → ℕ → ℕ
binomial n zero = 1
binomial zero (suc k) = 0
binomial (suc n) (suc k) = binomial n k + binomial n (suc k)

length-map : {A B : Type 0} (f : A → B) (xs : List A) → length (map f xs) ≡ length xs
length-map f [] = refl
length-map f (x ∷ xs) = ap suc (length-map f xs)

pub choose-length : (room k from : ℕ) → length (choose room k from) ≡ binomial room k
unfolding choose binomial
choose-length room zero from = refl
choose-length zero (suc k) from = refl
choose-length (suc room) (suc k) from =
    length-append (map (λ (ps : List ℕ). from ∷ ps) (choose room k (suc from))) (choose room (suc k) (suc from))
    ∙ ap₂ (λ (x y : ℕ). x + y) (length-map (λ (ps : List ℕ). from ∷ ps) (choose room k (suc from)) ∙ choose-length room k (suc from))
    (choose-length room (suc k) (suc from))

pascal_step : (x y z j n : ℕ) → y * suc j + x * j ≡ x * n → z * suc (suc j) + y * suc j ≡ y * n → (y + z) * suc (suc j) + (x + y) * suc j ≡ (x + y) * suc n
pascal_step x y z j n e d = omega arith

-- to name one more of n things beside k chosen: one of those already chosen, or another
pub binomial_next : (n k : ℕ) → binomial n (suc k) * suc k + binomial n k * k ≡ binomial n k * n
unfolding binomial
binomial_next zero zero = refl
binomial_next zero (suc k) = omega arith
binomial_next (suc n) zero = omega (arith, binomial_next n 0)
binomial_next (suc n) (suc k) = pascal_step (binomial n k) (binomial n (suc k)) (binomial n (suc (suc k))) k n (binomial_next n k) (binomial_next n (suc k))

binomial_zero : (n : ℕ) → binomial n 0 ≡ 1
unfolding binomial
binomial_zero n = refl

-- the number of sets of at most so many positions
pub count_zero : (l : ℕ) → length (up_to l 0) ≡ 1
unfolding up_to choose
count_zero l = refl

pub count_next : (l limit : ℕ) → length (up_to l (suc limit)) ≡ length (up_to l limit) + binomial l (suc limit)
unfolding up_to
count_next l limit =
    length-append (up_to l limit) (choose l (suc limit) 0) ∙ ap (λ (x : ℕ). length (up_to l limit) + x) (choose-length l (suc limit) 0)

up_to_grows : (l a b : ℕ) → a ≤ b → length (up_to l a) ≤ length (up_to l b)
up_to_grows l a b h =
    le_ind (λ (m : ℕ). length (up_to l a) ≤ length (up_to l m)) (omega arith) (λ m k ih. omega (arith, count_next l m)) b h

-- one more position multiplies the number by at most 4,096 / (k + 1)
binomial_bound : (l k : ℕ) → l ≤ 4096 → binomial l (suc k) * suc k ≤ binomial l k * 4096
binomial_bound l k h = omega (arith, binomial_next l k, mul-le-mul_left (binomial l k) h)

pub up_to_fits : (l limit : ℕ) → l ≤ 4096 → limit ≤ 6 → length (up_to l limit) < 2 ^ 64
up_to_fits l limit h k =
    omega (
      arith,
      up_to_grows l limit 6 k,
      count_zero l,
      count_next l 0,
      count_next l 1,
      count_next l 2,
      count_next l 3,
      count_next l 4,
      count_next l 5,
      binomial_zero l,
      binomial_bound l 0 h,
      binomial_bound l 1 h,
      binomial_bound l 2 h,
      binomial_bound l 3 h,
      binomial_bound l 4 h,
      binomial_bound l 5 h,
    )

pub walk_fits : (n g l limit s : ℕ) → l ≤ 4096 → limit ≤ 6 → length (walk n g l limit s) < 2 ^ 64
unfolding walk
walk_fits n g l limit s h k = omega (arith, sift-length (λ ps. eqb (syndrome n g ps) s) (up_to l limit), up_to_fits l limit h k)

pub listing_fits : (n g l limit s : ℕ) → l ≤ 4096 → limit ≤ 6 → length (listing n g l limit s) < 2 ^ 64
unfolding listing walk
listing_fits n g l limit s h k = omega (arith, in_order-length before_strict_total (walk n g l limit s), walk_fits n g l limit s h k)
