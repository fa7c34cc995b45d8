-- The tables as lists: their lengths and entries, a list that has those entries is the table, and the tests of conditions 5 and 6 say what they mean.
use mathlib.Core.Path.{◌≡◌, refl, sym, ap, ap₂, ◌∙◌}
use mathlib.Core.Bool.{Bool, true, false, true≢false, not, or-true}
use mathlib.Core.List.{List, [], ◌∷◌}
use Prim.Native.Nat.{ℕ, zero, suc, ◌+◌, ◌^◌, ◌<◌, ◌≤◌}
use native.Mathlib.Omega.{arith}
use borrow.Author.Tests.{eqb-true, eq-eqb, eqb-false, ne_eqb, not-false}
use lib.Dec.{eqb}
use lib.ListN.{length, get_or, set}
use lib.Seq.{ext_get_or, get_or-set_same, get_or-set_other}
use borrow.Author.Count.{below_more}
use Rattle.base.proofs.Cases.{by_test, by_order}
use Rattle.poly.specs.Fit.{Divisor}
use Rattle.tables.specs.Tables.{entry_bits, power, step, first, period, values, step_table, first_table, same, unfit_tables, right_tables, wrong_tables}
use Rattle.tables.proofs.FirstLaws.{first_hit, first_early, first_present, first_none}

pub length-values : (f : ℕ → ℕ) (count from : ℕ) → length (values f count from) ≡ count
unfolding values
length-values f zero from = refl
length-values f (suc count) from = ap suc (length-values f count (suc from))

pub get_or_values : (f : ℕ → ℕ) (count from i : ℕ) → i < count → get_or (values f count from) i 0 ≡ f (from + i)
unfolding values
get_or_values f zero from i h = absurd (omega arith)
get_or_values f (suc count) from zero h = ap f (omega arith)
get_or_values f (suc count) from (suc i) h = get_or_values f count (suc from) i (omega arith) ∙ ap f (omega arith)

-- a list with the values as its entries
pub values_by_entries : (f : ℕ → ℕ) (count : ℕ) (l : List ℕ) → length l ≡ count → ((i : ℕ) → i < count → get_or l i 0 ≡ f i) → l ≡ values f count 0
values_by_entries f count l e h =
    ext_get_or 0 l (values f count 0) (e ∙ sym (length-values f count 0))
    (λ i b. h i (omega arith) ∙ ap f (omega arith) ∙ sym (get_or_values f count 0 i (omega arith)))

-- a store one past the entries that are right
pub entries_more : (f : ℕ → ℕ) (l : List ℕ) (i v : ℕ) → i < length l → ((k : ℕ) → k < i → get_or l k 0 ≡ f k) → v ≡ f i
    → (k : ℕ) → k < i + 1 → get_or (set l i v) k 0 ≡ f k
entries_more f l i v b h e =
    below_more (λ k. get_or (set l i v) k 0 ≡ f k) i
    (λ k lt. get_or-set_other l i k v 0 (λ s. omega arith) ∙ h k lt)
    (get_or-set_same l i v 0 b ∙ e)

module _ (n g : ℕ) where
  pub length-step_table : length (step_table n g) ≡ 2 ^ n
  unfolding step_table
  length-step_table = length-values (step n g) (2 ^ n) 0

  pub length-first_table : length (first_table n g) ≡ 2 ^ n
  unfolding first_table
  length-first_table = length-values (first n g) (2 ^ n) 0

  pub get_or_step_table : (s : ℕ) → s < 2 ^ n → get_or (step_table n g) s 0 ≡ step n g s
  unfolding step_table
  get_or_step_table s h = get_or_values (step n g) (2 ^ n) 0 s h ∙ ap (step n g) (omega arith)

  pub get_or_first_table : (s : ℕ) → s < 2 ^ n → get_or (first_table n g) s 0 ≡ first n g s
  unfolding first_table
  get_or_first_table s h = get_or_values (first n g) (2 ^ n) 0 s h ∙ ap (first n g) (omega arith)

  pub step_table_by_entries : (l : List ℕ) → length l ≡ 2 ^ n → ((s : ℕ) → s < 2 ^ n → get_or l s 0 ≡ step n g s) → l ≡ step_table n g
  unfolding step_table
  step_table_by_entries = values_by_entries (step n g) (2 ^ n)

  pub first_table_by_entries : (l : List ℕ) → length l ≡ 2 ^ n → ((s : ℕ) → s < 2 ^ n → get_or l s 0 ≡ first n g s) → l ≡ first_table n g
  unfolding first_table
  first_table_by_entries = values_by_entries (first n g) (2 ^ n)

-- a list that has each power's position at its remainder, and the mark for absent elsewhere
pub first_table_by_powers : (n g : ℕ) → Divisor n g → 1 ≤ n → n ≤ entry_bits → (l : List ℕ) → length l ≡ 2 ^ n
    → ((p : ℕ) → p < period n g → get_or l (power n g p) 0 ≡ p)
    → ((s : ℕ) → s < 2 ^ n → ((p : ℕ) → power n g p ≡ s → ⊥) → get_or l s 0 ≡ 65535)
    → l ≡ first_table n g
first_table_by_powers n g d at_least at_most l e at other = first_table_by_entries n g l e entry
  where
    entry : (s : ℕ) → s < 2 ^ n → get_or l s 0 ≡ first n g s
    entry s b =
        by_order (first n g s) 65535
        (λ h.
        ap (λ (x : ℕ). get_or l x 0) (sym (first_hit n g d at_least s b h)) ∙ at (first n g s) (first_early n g d at_least s b h))
        (λ h.
        let none : (p : ℕ) → power n g p ≡ s → ⊥ = λ p z. omega (arith, first_present n g d at_least at_most s p z) in
        other s b none ∙ sym ((first_none n g d at_least at_most s b).1 none))

-- the test for the same list
pub same_equal : (a b : List ℕ) → same a b ≡ true → a ≡ b
unfolding same
same_equal [] [] e = refl
same_equal [] (y ∷ ys) e = absurd (let z : ◌≡◌ {A = ℕ} 0 1 = cc in omega arith)
same_equal (x ∷ xs) [] e = absurd (let z : ◌≡◌ {A = ℕ} 0 1 = cc in omega arith)
same_equal (x ∷ xs) (y ∷ ys) e =
    by_test (eqb x y) (λ t. ap₂ (λ (h : ℕ) (l : List ℕ). h ∷ l) (eqb-true x y t) (same_equal xs ys (rw (t, same) at e)))
    (λ t. absurd (let z : ◌≡◌ {A = ℕ} 0 1 = cc in omega arith))

same_self : (l : List ℕ) → same l l ≡ true
unfolding same
same_self [] = refl
same_self (x ∷ xs) = simp (eq-eqb x x refl) (same_self xs)

pub equal_same : (a b : List ℕ) → a ≡ b → same a b ≡ true
equal_same a b e = ap (same a) (sym e) ∙ same_self a

-- an answer that is true exactly when the lists are the same
pub same_answer : (r : Bool) (a b : List ℕ) → (r ≡ true → a ≡ b) → (a ≡ b → r ≡ true) → r ≡ same a b
same_answer r a b f h =
    by_test (same a b) (λ t. h (same_equal a b t) ∙ sym t)
    (λ t. by_test r (λ e. absurd (true≢false (sym (equal_same a b (f e)) ∙ t))) (λ e. e ∙ sym t))

-- condition 5
unfit_steps : (n : ℕ) (a b : ℕ) → (a ≡ 2 ^ n → ⊥) → unfit_tables n a b ≡ true
unfolding unfit_tables
unfit_steps n a b h = simp (ne_eqb _ _ h)

unfit_firsts : (n : ℕ) (a b : ℕ) → (b ≡ 2 ^ n → ⊥) → unfit_tables n a b ≡ true
unfolding unfit_tables
unfit_firsts n a b h = simp (ne_eqb _ _ h, or-true)

pub fit_tables : (n : ℕ) (a b : ℕ) → a ≡ 2 ^ n → b ≡ 2 ^ n → unfit_tables n a b ≡ false
unfolding unfit_tables
fit_tables n a b ha hb = simp (eq-eqb _ _ ha, eq-eqb _ _ hb)

pub fit_lengths : (n : ℕ) (a b : ℕ) → unfit_tables n a b ≡ false → (a ≡ 2 ^ n) × (b ≡ 2 ^ n)
unfolding unfit_tables
fit_lengths n a b e =
    by_test (eqb a (2 ^ n))
    (λ s. by_test (eqb b (2 ^ n)) (λ t. (eqb-true _ _ s, eqb-true _ _ t)) (λ t. absurd (true≢false (sym (unfit_firsts n a b (eqb-false _ _ t)) ∙ e))))
    (λ s. absurd (true≢false (sym (unfit_steps n a b (eqb-false _ _ s)) ∙ e)))

-- condition 6
pub right_tables_lem : (n g : ℕ) (a b : List ℕ) → right_tables n g a b ≡ true → (a ≡ step_table n g) × (b ≡ first_table n g)
unfolding right_tables
right_tables_lem n g a b e =
    by_test (same a (step_table n g))
    (λ s. (same_equal a (step_table n g) s, same_equal b (first_table n g) (rw s at e)))
    (λ s. absurd (true≢false (sym (rw s at e))))

pub tables_right : (n g : ℕ) → right_tables n g (step_table n g) (first_table n g) ≡ true
unfolding right_tables
tables_right n g = simp same_self

pub not_wrong : (n g : ℕ) (a b : List ℕ) → wrong_tables n g a b ≡ not (right_tables n g a b)
unfolding wrong_tables
not_wrong n g a b = refl

-- tables that are not refused are the tables
pub right_unless_wrong : (n g : ℕ) (a b : List ℕ) → wrong_tables n g a b ≡ false → (a ≡ step_table n g) × (b ≡ first_table n g)
unfolding wrong_tables
right_unless_wrong n g a b e = right_tables_lem n g a b (not-false _ e)
