-- What is owed of the calls scatter and gather: where a stored byte comes from, that no two of a run come from one row, that each call
-- undoes the other, and that a lost run touches each row at most once. All shapes of 1 to 64 rows and columns are accepted.
use mathlib.Core.Path.{◌≡◌, refl, sym, ap, subst, ◌∙◌}
use mathlib.Core.Bool.{false}
use mathlib.Core.List.{List}
use Prim.Native.Nat.{ℕ, ◌+◌, ◌*◌, ◌%◌, ◌<◌, ◌≤◌}
use native.Mathlib.Nat.{mul_comm}
use native.Mathlib.Omega.{arith}
use lib.ListN.{length, get_or}
use Rattle.base.specs.Outcome.{accepted, Condition}
use Rattle.base.proofs.JudgeLaws.{applied, judge_clear}
use Rattle.scatter.specs.Blocks.{scattered, gathered}
use Rattle.scatter.specs.Calls.{most_side, block_conditions, block_call, scatter_output, gather_output}
use Rattle.scatter.specs.Losses.{came_from, row_of, InRun, Lost, byte_in, AtMostOnce}
use Rattle.scatter.proofs.BlockLaws.{length-scattered, stored_byte, scattered_back}
use Rattle.scatter.proofs.ConditionLaws.{shape_fits, fit_lengths, lengths_fit}
use Rattle.scatter.proofs.ExchangeLaws.{gathered_exchanged}
use Rattle.scatter.proofs.PlaceLaws.{came_from_inside, row_inside, stored_came_from, byte_in_its_row}
use Rattle.scatter.proofs.PlaceLaws.{one_row_one_byte, lost_run_once_a_row}

-- a call that is accepted, of r rows and c columns, an input s and an output o
module _ (r c : ℕ) (s o : List ℕ) (e : block_call r c s o ≡ accepted tt) where
  abbrev conditions : List Condition
  conditions = block_conditions r c (length s) (length o)

  clear : (k : ℕ) → applied k conditions ≡ false
  clear = judge_clear conditions tt tt e

  full : length s ≡ r * c
  full = (fit_lengths r c (length s) (length o) (clear 13)).0

  pub scatters : scatter_output r c s o ≡ scattered r c s
  scatters = simp (clear 12, clear 13)

  pub gathers : gather_output r c s o ≡ gathered r c s
  gathers = simp (clear 12, clear 13)

  accepts : (t p : List ℕ) → length t ≡ r * c → length p ≡ r * c → block_call r c t p ≡ accepted tt
  accepts t p ht hp = simp (clear 12, lengths_fit r c (length t) (length p) ht hp)

  -- stored byte j * r + i is input byte i * c + j
  pub stored_by_columns : (i j : ℕ) → i < r → j < c → get_or (scatter_output r c s o) (j * r + i) 0 ≡ get_or s (i * c + j) 0
  stored_by_columns i j hi hj = ap (λ (t : List ℕ). get_or t (j * r + i) 0) scatters ∙ stored_byte r c s i j hi hj refl refl

  length_stored : length (scatter_output r c s o) ≡ r * c
  length_stored = ap length scatters ∙ length-scattered r c s

  length_restored : length (gather_output r c s o) ≡ r * c
  length_restored = ap length (gathers ∙ sym (gathered_exchanged s refl refl)) ∙ length-scattered c r s ∙ mul_comm c r

  -- each stored byte came from a place of the input, and is the byte there
  pub stored_from : (k : ℕ) → k < length (scatter_output r c s o)
      → (came_from r c k < length s) × (get_or (scatter_output r c s o) k 0 ≡ get_or s (came_from r c k) 0)
  stored_from k h =
      let inside : k < r * c = omega (arith, h, length_stored) in (
        omega (arith, full, came_from_inside r c k inside),
        ap (λ (t : List ℕ). get_or t k 0) scatters ∙ stored_came_from r c s k inside,
      )

  -- that place is in one of the rows, which has the byte
  pub stored_in_row : (k : ℕ) → k < length (scatter_output r c s o) → let p = came_from r c k in
      (row_of c p < r) × (get_or (scatter_output r c s o) k 0 ≡ byte_in r c s (row_of c p) (p % c))
  stored_in_row k h =
      let inside : k < r * c = omega (arith, h, length_stored) in
      (row_inside r c k inside, (stored_from k h).1 ∙ sym (byte_in_its_row r c s (came_from r c k) (came_from_inside r c k inside)))

  -- of any run of at most r adjacent stored bytes, no two come from one row
  pub run_no_two_of_one_row : (from n k m : ℕ) → n ≤ r → from + n ≤ length (scatter_output r c s o) → InRun from n k → InRun from n m
      → row_of c (came_from r c k) ≡ row_of c (came_from r c m) → k ≡ m
  run_no_two_of_one_row from n k m most within ink inm =
      one_row_one_byte r c from n k m most ink inm (omega (arith, length_stored, ink)) (omega (arith, length_stored, inm))

-- ---- one call after the other ----

-- what scatter stored, gather accepts and restores, into any output of its length
pub gather_restores : (r c : ℕ) (s o back : List ℕ) → block_call r c s o ≡ accepted tt → length back ≡ r * c
    → (block_call r c (scatter_output r c s o) back ≡ accepted tt) × (gather_output r c (scatter_output r c s o) back ≡ s)
gather_restores r c s o back e h =
    let stored : List ℕ = scatter_output r c s o in
    let again : block_call r c stored back ≡ accepted tt = accepts r c s o e stored back (length_stored r c s o e) h in (
      again,
      gathers r c stored back again
          ∙ ap (gathered r c) (scatters r c s o e)
          ∙ sym (gathered_exchanged (scattered r c s) refl refl)
          ∙ scattered_back r c s (full r c s o e),
    )

-- and the other way round
pub scatter_restores : (r c : ℕ) (s o back : List ℕ) → block_call r c s o ≡ accepted tt → length back ≡ r * c
    → (block_call r c (gather_output r c s o) back ≡ accepted tt) × (scatter_output r c (gather_output r c s o) back ≡ s)
scatter_restores r c s o back e h =
    let restored : List ℕ = gather_output r c s o in
    let again : block_call r c restored back ≡ accepted tt = accepts r c s o e restored back (length_restored r c s o e) h in (
      again,
      scatters r c restored back again
          ∙ ap (scattered r c) (gathers r c s o e ∙ sym (gathered_exchanged s refl refl))
          ∙ scattered_back c r s (full r c s o e ∙ mul_comm r c),
    )

-- a lost run of stored bytes, at most as many as there are rows, touches each row at most once: gather accepts what is found, and each row
-- that it gives back differs in at most one byte
pub lost_run_touches_rows_once : (r c : ℕ) (s o found back : List ℕ) (from n : ℕ) → block_call r c s o ≡ accepted tt → n ≤ r
    → Lost from n (scatter_output r c s o) found → length back ≡ r * c
    → (block_call r c found back ≡ accepted tt) × ((i : ℕ) → AtMostOnce r c s (gather_output r c found back) i)
lost_run_touches_rows_once r c s o found back from n e most lost h =
    let again : block_call r c found back ≡ accepted tt = accepts r c s o e found back (lost.0 ∙ length_stored r c s o e) h in
    let gone : Lost from n (scattered r c s) found = subst (λ (t : List ℕ). Lost from n t found) (scatters r c s o e) lost in
    let once = lost_run_once_a_row r c from n s found most gone in
    (again, λ i. subst (λ (t : List ℕ). AtMostOnce r c s t i) (sym (gathers r c found back again)) (once i))

-- ---- every shape ----

-- with 1 to 64 rows and columns, and r times c bytes on both sides, no call is refused
pub every_shape_accepted : (r c : ℕ) (s o : List ℕ) → 1 ≤ r → r ≤ most_side → 1 ≤ c → c ≤ most_side → length s ≡ r * c → length o ≡ r * c
    → block_call r c s o ≡ accepted tt
every_shape_accepted r c s o a b d e hs ho = simp (shape_fits r c a b d e, lengths_fit r c (length s) (length o) hs ho)
