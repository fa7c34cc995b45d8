-- How trials and rows are run one after the other: what is left to do comes, from where it stands, to what all comes to; and no count is
-- above the trials done.
use mathlib.Core.Path.{◌≡◌, sym, ap, ap₂, subst, ◌∙◌}
use Prim.Native.Nat.{ℕ, suc, ◌+◌, ◌*◌, ◌-◌, ◌<◌, ◌≤◌}
use native.Mathlib.Nat.{suc-mul}
use native.Mathlib.Numerals.{add-one}
use native.Mathlib.Omega.{arith}
use Rattle.packet.specs.declared.Crc.{Crc}
use Rattle.checksum.specs.declared.Check.{Check}
use Rattle.trials.specs.Trials.{Tried, trial, trials, rows_of}
use Rattle.trials.specs.Running.{Within}
use Rattle.trials.proofs.CountLaws.{counted_within, within_more}

-- ---- trials of one row ----

pub record RowRun (c : Crc) (k : Check) (limit f n : ℕ) (start t : Tried) (i : ℕ) : Type 0 where
  pub within : i ≤ n
  pub due : trials c k limit f (n - i) t ≡ trials c k limit f n start
  pub bound : Within t.counts (f * n + i)

module _ (c : Crc) (k : Check) (limit f n : ℕ) where
  trial_within : (t : Tried) (m : ℕ) → Within t.counts m → Within (trial c k limit f t).counts (suc m)
  unfolding trial
  trial_within t m w = counted_within _ _ t.counts w

  pub row_run_more : {start t u : Tried} {i : ℕ} → RowRun c k limit f n start t i → i < n → u ≡ trial c k limit f t → RowRun c k limit f n start u (i + 1)
  unfolding trials
  row_run_more {t = t} {u = u} {i = i} r h e =
      let one : suc (n - (i + 1)) ≡ n - i = omega arith in
      record {
        within = omega arith;
        due = ap (trials c k limit f (n - (i + 1))) e ∙ ap (λ (m : ℕ). trials c k limit f m t) one ∙ r.due;
        bound =
            subst (λ (v : Tried). Within v.counts (f * n + (i + 1))) (sym e)
            (within_more (f * n + (i + 1)) (trial c k limit f t).counts (trial_within t (f * n + i) r.bound) (omega arith));
      }

  pub row_run_all : {start t : Tried} {i : ℕ} → RowRun c k limit f n start t i → n ≤ i → (t ≡ trials c k limit f n start) × Within t.counts (suc f * n)
  unfolding trials
  row_run_all {t = t} {i = i} r h =
      let none : 0 ≡ n - i = omega arith in
      (ap (λ (m : ℕ). trials c k limit f m t) none ∙ r.due, within_more (suc f * n) t.counts r.bound (omega (arith, r.within, suc-mul f n)))

-- ---- rows ----

pub record RowsRun (c : Crc) (k : Check) (limit n : ℕ) (start t : Tried) (f : ℕ) : Type 0 where
  pub within : f ≤ 9
  pub due : rows_of c k limit n (9 - f) f t ≡ rows_of c k limit n 9 0 start
  pub bound : Within t.counts (f * n)

module _ (c : Crc) (k : Check) (limit n : ℕ) where
  pub rows_run_more : {start t u : Tried} {f : ℕ} → RowsRun c k limit n start t f → f < 9 → (u ≡ trials c k limit f n t) × Within u.counts (suc f * n)
      → RowsRun c k limit n start u (f + 1)
  unfolding rows_of
  rows_run_more {t = t} {u = u} {f = f} r h e =
      let one : suc (9 - (f + 1)) ≡ 9 - f = omega arith in
      record {
        within = omega arith;
        due =
            ap₂ (λ (m : ℕ) (v : Tried). rows_of c k limit n (9 - (f + 1)) m v) (add-one f) e.0
            ∙ ap (λ (m : ℕ). rows_of c k limit n m f t) one
            ∙ r.due;
        bound = let same : suc f * n ≡ (f + 1) * n = ap (λ (m : ℕ). m * n) (sym (add-one f)) in within_more ((f + 1) * n) u.counts e.1 (omega (arith, same));
      }

  pub rows_run_all : {start t : Tried} {f : ℕ} → RowsRun c k limit n start t f → 9 ≤ f → t ≡ rows_of c k limit n 9 0 start
  unfolding rows_of
  rows_run_all {t = t} {f = f} r h = let none : 0 ≡ 9 - f = omega arith in ap (λ (m : ℕ). rows_of c k limit n m f t) none ∙ r.due
