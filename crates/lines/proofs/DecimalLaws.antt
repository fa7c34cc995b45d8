-- What `decimal` writes: one equation for its last digit, digits only, the number they give, no leading zero, and how many.
use mathlib.Core.Path.{◌≡◌, refl, sym, ap, ◌∙◌}
use mathlib.Core.List.{List, [], ◌∷◌, ◌++◌}
use Prim.Native.Nat.{ℕ, zero, suc, ◌+◌, ◌-◌, ◌*◌, ◌/◌, ◌%◌, ◌^◌, ◌<◌, ◌≤◌}
use native.Mathlib.Omega.{arith}
use lib.ListN.{length, get_or, length-append, get_or-append}
use borrow.Author.Tests.{lt-ltb, le-ltb}
use Rattle.base.specs.Lists.{All, none, each}
use Rattle.base.proofs.Cases.{by_order}
use Rattle.parsing.specs.Input.{Digit, value_from, value_of}
use Rattle.lines.specs.Decimal.{digits_of, decimal}

-- more divisions than are needed change nothing
digits_of_enough : (more less v : ℕ) → v ≤ more → v ≤ less → digits_of more v ≡ digits_of less v
unfolding digits_of
digits_of_enough zero zero v h k = refl
digits_of_enough zero (suc less) v h k = rw (lt-ltb v 10 (omega arith))
digits_of_enough (suc more) zero v h k = rw (lt-ltb v 10 (omega arith))
digits_of_enough (suc more) (suc less) v h k =
    by_order v 10
    (λ l. rw (lt-ltb v 10 l))
    (λ l. rw (le-ltb v 10 l) (ap (λ (ds : List ℕ). ds ++ ((48 + v % 10) ∷ [])) (digits_of_enough more less (v / 10) (omega arith) (omega arith))))

pub decimal_small : (v : ℕ) → v < 10 → decimal v ≡ (48 + v) ∷ []
unfolding decimal digits_of
decimal_small zero h = refl
decimal_small (suc v) h = rw (lt-ltb (suc v) 10 h)

pub decimal_step : (v : ℕ) → 10 ≤ v → decimal v ≡ decimal (v / 10) ++ ((48 + v % 10) ∷ [])
unfolding decimal digits_of
decimal_step zero h = absurd (omega arith)
decimal_step (suc v) h =
    rw (le-ltb (suc v) 10 h)
    (ap (λ (ds : List ℕ). ds ++ ((48 + suc v % 10) ∷ [])) (digits_of_enough v (suc v / 10) (suc v / 10) (omega arith) (omega arith)))

-- induction along the digits
pub by_tens : (P : ℕ → Type 0) → ((v : ℕ) → v < 10 → P v) → ((v : ℕ) → 10 ≤ v → P (v / 10) → P v) → (v : ℕ) → P v
by_tens P small step v = go v v (omega arith)
  where
    go : (fuel v : ℕ) → v ≤ fuel → P v
    go zero v h = small v (omega arith)
    go (suc fuel) v h = by_order v 10 (small v) (λ l. step v l (go fuel (v / 10) (omega arith)))

all_append : {P : ℕ → Type 0} {xs ys : List ℕ} → All P xs → All P ys → All P (xs ++ ys)
all_append none k = k
all_append (each h hs) k = each h (all_append hs k)

one_digit : (d : ℕ) → d < 10 → All Digit ((48 + d) ∷ [])
one_digit d h = let e : Digit (48 + d) = omega arith in each e none

-- it holds digits only
pub decimal_digits : (v : ℕ) → All Digit (decimal v)
decimal_digits =
    by_tens (λ (v : ℕ). All Digit (decimal v))
    (λ v h. rw (decimal_small v h) (one_digit v h))
    (λ v h ih. rw (decimal_step v h) (all_append ih (one_digit (v % 10) (omega arith))))

value_append : (v : ℕ) (xs ys : List ℕ) → value_from v (xs ++ ys) ≡ value_from (value_from v xs) ys
unfolding value_from
value_append v [] ys = refl
value_append v (x ∷ xs) ys = value_append (v * 10 + (x - 48)) xs ys

value_one : (v c : ℕ) → value_from v (c ∷ []) ≡ v * 10 + (c - 48)
unfolding value_from
value_one v c = refl

-- which give the number
pub value_decimal : (v : ℕ) → value_of (decimal v) ≡ v
value_decimal =
    by_tens (λ (v : ℕ). value_of (decimal v) ≡ v)
    (λ v h. rw (decimal_small v h) (value_one 0 (48 + v) ∙ omega arith))
    (λ v h ih.
    rw (decimal_step v h)
    (value_append 0 (decimal (v / 10)) ((48 + v % 10) ∷ [])
    ∙ value_one (value_of (decimal (v / 10))) (48 + v % 10)
    ∙ omega arith))

-- there is a digit
pub decimal_some : (v : ℕ) → 1 ≤ length (decimal v)
decimal_some =
    by_tens (λ (v : ℕ). 1 ≤ length (decimal v))
    (λ v h. rw (decimal_small v h) (omega arith))
    (λ v h ih. rw (decimal_step v h) (simp length-append (omega arith)))

-- and only 0 begins with the digit 0
pub decimal_no_leading_zero : (v : ℕ) → get_or (decimal v) 0 0 ≡ 48 → v ≡ 0
decimal_no_leading_zero =
    by_tens (λ (v : ℕ). get_or (decimal v) 0 0 ≡ 48 → v ≡ 0)
    (λ v h. rw (decimal_small v h) (λ e. omega arith))
    (λ v h ih. rw (decimal_step v h) (λ e.
    let z : v / 10 ≡ 0 = ih (sym (get_or-append (decimal (v / 10)) ((48 + v % 10) ∷ []) 0 0 (decimal_some (v / 10))) ∙ e) in
    omega arith))

-- a number below 10^k, k at least 1, has at most k digits
pub decimal-length : (k v : ℕ) → v < 10 ^ suc k → length (decimal v) ≤ suc k
decimal-length zero v h = rw (decimal_small v (omega arith)) (omega arith)
decimal-length (suc k) v h =
    by_order v 10
    (λ l. rw (decimal_small v l) (omega arith))
    (λ l. rw (decimal_step v l) (simp length-append (omega (arith, decimal-length k (v / 10) (omega arith)))))

pub digits_u8 : (v : ℕ) → v < 2 ^ 8 → length (decimal v) ≤ 3
digits_u8 v h = decimal-length 2 v (omega arith)

pub digits_u16 : (v : ℕ) → v < 2 ^ 16 → length (decimal v) ≤ 5
digits_u16 v h = decimal-length 4 v (omega arith)

-- one of two bytes fits where there is room for five digits
pub two_bytes_fit : {v room : ℕ} (to : ℕ) → v < 65536 → to + 5 ≤ room → to + length (decimal v) ≤ room
two_bytes_fit {v} to h k = omega (arith, digits_u16 v (omega arith))

pub digits_u64 : (v : ℕ) → v < 2 ^ 64 → length (decimal v) ≤ 20
digits_u64 v h = decimal-length 19 v (omega arith)
