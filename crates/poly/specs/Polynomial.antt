-- Binary polynomials as numbers: bit i of a number is the coefficient of x^i, so x^p is 2 ^ p and the sum is XOR.
use Rattle.std.specs.Prelude.{ℕ, zero, suc, ◌+◌, ◌*◌, ◌/◌, ◌%◌, ◌^◌, true, false, List, [], ◌∷◌, ltb}
use Rattle.std.specs.Int.Bits.{bit_xor}

-- a fold over the binary digits of a number, from the highest down; the first argument bounds how many there are
unfoldable pub down_in : (ℕ → ℕ → ℕ) → ℕ → ℕ → ℕ
down_in f zero a = zero
down_in f (suc k) zero = zero
down_in f (suc k) (suc a) = f (down_in f k (suc a / 2)) (suc a % 2)

unfoldable pub down : (ℕ → ℕ → ℕ) → ℕ → ℕ
unfolding down_in
down f a = down_in f a a

-- the product: for each digit of a the sum so far times x, and b where the digit is 1
unfoldable pub times : ℕ → ℕ → ℕ
times a b = down (λ p d. bit_xor (p * 2) (d * b)) a

-- the degree: the place of the highest one (0 for the polynomials 0 and 1)
unfoldable pub degree_in : ℕ → ℕ → ℕ
degree_in zero a = zero
degree_in (suc k) a = elim (ltb a 2) [ true ↦ zero | false ↦ suc (degree_in k (a / 2)) ]

unfoldable pub degree : ℕ → ℕ
unfolding degree_in
degree a = degree_in a a

-- a polynomial of degree at most n, less g where it has the term x^n
unfoldable pub reduce : ℕ → ℕ → ℕ → ℕ
reduce n g v = bit_xor (v / 2 ^ n * g) v

-- the remainder of a divided by g of degree n, by long division; DivisionLaws has what makes it the remainder:
-- a quotient exists, the remainder is below 2 ^ n, and it is the only one
unfoldable pub rem : ℕ → ℕ → ℕ → ℕ
rem n g a = down (λ r d. reduce n g (r * 2 + d)) a

-- the sum of the powers of x at the given places
unfoldable pub powers : List ℕ → ℕ
powers [] = zero
powers (p ∷ ps) = bit_xor (2 ^ p) (powers ps)
