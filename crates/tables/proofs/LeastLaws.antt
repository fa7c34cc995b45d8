-- The least number that passes a test: it passes, and nothing that passes is below it; and the pigeonhole principle.
use mathlib.Core.Path.{◌≡◌, refl, sym, ap, ◌∙◌}
use mathlib.Core.Bool.{Bool, true, true≢false}
use mathlib.Core.Logic.{◌⊎◌, inl, inr}
use Prim.Native.Nat.{ℕ, zero, suc, ◌+◌, ◌-◌, ◌<◌, ◌≤◌}
use native.Mathlib.Omega.{arith}
use borrow.Author.Tests.{lt-ltb, le-ltb}
use lib.Dec.{ltb}
use Rattle.base.specs.Outcome.{pick}
use Rattle.base.proofs.Cases.{by_test, by_order, by_equal}
use Rattle.tables.specs.Tables.{least}

module _ (test : ℕ → Bool) (other : ℕ) where
  -- where k passes, the least one passes, and is no greater
  pub record Least (from k r : ℕ) : Type 0 where
    pub passes : test r ≡ true
    pub at_least : from ≤ r
    pub at_most : r ≤ k

  pub least-found : (count from k : ℕ) → from ≤ k → k < from + count → test k ≡ true → Least from k (least test other count from)
  unfolding least
  least-found zero from k l h t = absurd (omega arith)
  least-found (suc count) from k l h t =
      by_test (test from)
      (λ e. rw (e, least) (record { passes = e; at_least = omega arith; at_most = l }))
      (λ e. rw (e, least)
      (let off : from ≡ k → ⊥ = λ s. true≢false (sym t ∙ ap test (sym s) ∙ e) in
      let f = least-found count (suc from) k (omega arith) (omega arith) t in
      record { passes = f.passes; at_least = omega (arith, f.at_least); at_most = f.at_most }))

  -- it passes, or is the other number
  pub least-or_other : (count from : ℕ) → (test (least test other count from) ≡ true) ⊎ (least test other count from ≡ other)
  unfolding least
  least-or_other zero from = inr refl
  least-or_other (suc count) from =
      by_test (test from) (λ e. rw (e, least) (inl e)) (λ e. rw (e, least) (least-or_other count (suc from)))

-- a number below k with the value v, or that there is none
data Value (f : ℕ → ℕ) (v k : ℕ) : Type 0 where
  taken : (i : ℕ) → i < k → f i ≡ v → Value f v k
  free : ((i : ℕ) → i < k → f i ≡ v → ⊥) → Value f v k

value : (f : ℕ → ℕ) (v k : ℕ) → Value f v k
value f v zero = free (λ i h e. omega arith)
value f v (suc k) = by_equal (f k) v (λ e. taken k (omega arith) e) (λ ne. more ne (value f v k))
  where
    more : (f k ≡ v → ⊥) → Value f v k → Value f v (suc k)
    more ne (taken i h e) = taken i (omega arith) e
    more ne (free none) = free (λ i h e. by_equal i k (λ s. ne (ap f (sym s) ∙ e)) (λ d. none i (omega arith) e))

-- two places with the same value
pub record Twice (f : ℕ → ℕ) (m : ℕ) : Type 0 where
  pub i : ℕ
  pub j : ℕ
  pub before : i < j
  pub within : j ≤ m
  pub equal : f i ≡ f j

-- the values above v move down by one
unfoldable close_up : ℕ → ℕ → ℕ
close_up v x = pick (ltb v x) (x - 1) x

close_up_low : (v x : ℕ) → x ≤ v → close_up v x ≡ x
unfolding close_up
close_up_low v x h = simp (le-ltb _ _ h)

close_up_high : (v x : ℕ) → v < x → close_up v x ≡ x - 1
unfolding close_up
close_up_high v x h = simp (lt-ltb _ _ h)

close_up_lt : (v x m : ℕ) → v < suc m → x < suc m → (x ≡ v → ⊥) → close_up v x < m
close_up_lt v x m hv hx ne =
    by_order v x (λ l. omega (arith, close_up_high v x l)) (λ l. omega (arith, close_up_low v x l))

-- and those that are not v keep apart
close_up_apart : (v x y : ℕ) → (x ≡ v → ⊥) → (y ≡ v → ⊥) → close_up v x ≡ close_up v y → x ≡ y
close_up_apart v x y nx ny e =
    by_order v x
    (λ l. by_order v y (λ k. omega (arith, close_up_high v x l, close_up_high v y k)) (λ k. omega (arith, close_up_high v x l, close_up_low v y k)))
    (λ l. by_order v y (λ k. omega (arith, close_up_low v x l, close_up_high v y k)) (λ k. omega (arith, close_up_low v x l, close_up_low v y k)))

-- m + 1 numbers have m values: two of them have the same one
pub pigeonhole : (m : ℕ) (f : ℕ → ℕ) → ((i : ℕ) → i ≤ m → f i < m) → Twice f m
pigeonhole zero f h = absurd (omega (arith, h 0 (omega arith)))
pigeonhole (suc m) f h = cases (value f (f (suc m)) (suc m)) (pigeonhole m (λ i. close_up (f (suc m)) (f i)))
  where
    cases : Value f (f (suc m)) (suc m)
        → (((i : ℕ) → i ≤ m → close_up (f (suc m)) (f i) < m) → Twice (λ i. close_up (f (suc m)) (f i)) m) → Twice f (suc m)
    cases (taken i b e) again = record { i = i; j = suc m; before = b; within = omega arith; equal = e }
    cases (free none) again =
        let t = again (λ i b. close_up_lt (f (suc m)) (f i) m (h (suc m) (omega arith)) (h i (omega arith)) (none i (omega arith))) in
        let ni : (f t.i ≡ f (suc m) → ⊥) = none t.i (omega (arith, t.before, t.within)) in
        let nj : (f t.j ≡ f (suc m) → ⊥) = none t.j (omega (arith, t.within)) in
        record {
          i = t.i;
          j = t.j;
          before = t.before;
          within = omega (arith, t.within);
          equal = close_up_apart (f (suc m)) (f t.i) (f t.j) ni nj t.equal;
        }
