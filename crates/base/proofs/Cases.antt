-- Ways to go by cases that keep the equation or the order found, and the tests as rules.
use mathlib.Core.Path.{◌≡◌, refl, sym, ◌∙◌}
use mathlib.Core.Bool.{Bool, true, false}
use Prim.Native.Nat.{ℕ, ◌%◌, ◌<◌, ◌≤◌}
use native.Mathlib.Omega.{arith}
use native.Mathlib.Decide.{dec_lt, ℕ_discrete}
use lib.Dec.{ltb}
use borrow.Author.Tests.{lt-ltb, le-ltb, le-leb, lt-leb, eq-eqb, ne_eqb}

-- from facts to the tests that a definition makes
pub ruleset tests = (lt-ltb, le-ltb, le-leb, lt-leb, eq-eqb, ne_eqb)

pub by_test {ℓ} : {C : Type ℓ} (b : Bool) → (b ≡ true → C) → (b ≡ false → C) → C
by_test true f g = f refl
by_test false f g = g refl

pub by_order {ℓ} : {C : Type ℓ} (a b : ℕ) → (a < b → C) → (b ≤ a → C) → C
by_order a b f g = elim (dec_lt a b) [ yes h ↦ f h | no h ↦ g (omega arith) ]

pub by_equal {ℓ} : {C : Type ℓ} (a b : ℕ) → (a ≡ b → C) → ((a ≡ b → ⊥) → C) → C
by_equal a b f g = elim (ℕ_discrete a b) [ yes h ↦ f h | no h ↦ g h ]

pub by_parity {ℓ} : {C : Type ℓ} (a : ℕ) → (a % 2 ≡ 0 → C) → (a % 2 ≡ 1 → C) → C
by_parity a f g = by_equal (a % 2) 0 f (λ h. g (omega arith))

-- two comparisons that hold together
pub ltb_same : (a b c d : ℕ) → (a < b → c < d) → (c < d → a < b) → ltb a b ≡ ltb c d
ltb_same a b c d f g =
    by_order a b (λ h. lt-ltb a b h ∙ sym (lt-ltb c d (f h)))
    (λ h. le-ltb a b h ∙ sym (le-ltb c d (by_order c d (λ k. absurd (omega (arith, g k))) (λ k. k))))
