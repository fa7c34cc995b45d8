-- A walk of the powers of x that stores each one's position at its remainder: what the list holds after p of them, and that after
-- the whole period it is the table of first positions.
use mathlib.Core.Path.{◌≡◌, sym, ap, ◌∙◌}
use mathlib.Core.List.{List}
use Prim.Native.Nat.{ℕ, ◌+◌, ◌*◌, ◌^◌, ◌<◌, ◌≤◌}
use native.Mathlib.Omega.{arith}
use native.Mathlib.Numerals.{add-one}
use borrow.Author.Count.{below_more}
use lib.ListN.{length, get_or, set, replicate, get_or-replicate}
use lib.Seq.{get_or-set_same, get_or-set_other}
use Rattle.base.proofs.Cases.{by_equal}
use Rattle.poly.specs.Polynomial.{reduce}
use Rattle.poly.specs.Fit.{Divisor}
use Rattle.tables.specs.Tables.{entry_bits, power, period, first_table}
use Rattle.tables.proofs.PowerLaws.{power_lt, power_suc}
use Rattle.tables.proofs.PeriodLaws.{period-least, power-period, power_apart}
use Rattle.tables.proofs.TableLaws.{first_table_by_powers}

-- the entries after the first p powers
pub record Walked (n g p : ℕ) (l : List ℕ) : Type 0 where
  pub passed : (k : ℕ) → k < p → get_or l (power n g k) 0 ≡ k
  pub rest : (s : ℕ) → s < 2 ^ n → ((k : ℕ) → k < p → power n g k ≡ s → ⊥) → get_or l s 0 ≡ 65535

pub walked_none : (n g : ℕ) (l : List ℕ) → l ≡ replicate (2 ^ n) 65535 → Walked n g 0 l
walked_none n g l e = record {
  passed = λ k h. absurd (omega arith);
  rest = λ s b none. ap (λ (x : List ℕ). get_or x s 0) e ∙ get_or-replicate (2 ^ n) s 65535 0 b;
}

module _ (n g : ℕ) (d : Divisor n g) (at_least : 1 ≤ n) where
  pub walked_more : (p : ℕ) (l : List ℕ) → p < period n g → length l ≡ 2 ^ n → Walked n g p l → Walked n g (p + 1) (set l (power n g p) p)
  walked_more p l h e w =
      let at : ℕ = power n g p in
      record {
        passed =
            below_more (λ k. get_or (set l at p) (power n g k) 0 ≡ k) p
            (λ k b.
            get_or-set_other l at (power n g k) p 0 (λ s. omega (arith, power_apart n g d at_least k p (omega arith) h s))
            ∙ w.passed k b)
            (get_or-set_same l at p 0 (omega (arith, power_lt n g d p)));
        rest = λ s b none.
            get_or-set_other l at s p 0 (λ z. none p (omega arith) (sym z)) ∙ w.rest s b (λ k lt. none k (omega arith));
      }

  -- one power more, where remainder 1 returns and where it does not
  pub power_next : (t p : ℕ) → t ≡ power n g p → reduce n g (t * 2) ≡ power n g (p + 1)
  power_next t p e = ap (λ (x : ℕ). reduce n g (x * 2)) e ∙ sym (power_suc n g d p) ∙ ap (power n g) (sym (add-one p))

  pub returned : (p : ℕ) → p < period n g → power n g (p + 1) ≡ 1 → p + 1 ≡ period n g
  returned p h e = omega (arith, period-least n g d at_least (p + 1) (omega arith) e)

  pub not_returned : (p : ℕ) → p < period n g → (power n g (p + 1) ≡ 1 → ⊥) → p + 1 < period n g
  not_returned p h ne =
      by_equal (p + 1) (period n g) (λ e. absurd (ne (ap (power n g) e ∙ power-period n g d at_least))) (λ no. omega arith)

  module _ (at_most : n ≤ entry_bits) where
    pub walked_all : (l : List ℕ) → length l ≡ 2 ^ n → Walked n g (period n g) l → l ≡ first_table n g
    walked_all l e w = first_table_by_powers n g d at_least at_most l e w.passed (λ s b none. w.rest s b (λ k lt. none k))
