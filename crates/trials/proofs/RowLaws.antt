-- What a simulation leaves, for any CRC, range, field and limit, by what each of its trials comes to: a row of counts for each number of
-- flips, which add up to the trials, and the packet last received.
use mathlib.Core.Path.{◌≡◌, refl, ap, subst, ◌∙◌}
use mathlib.Core.List.{List, [], ◌∷◌}
use Prim.Native.Nat.{ℕ, zero, suc, ◌+◌, ◌*◌, ◌<◌, ◌≤◌}
use native.Mathlib.Omega.{arith}
use lib.ListN.{length, get_or, set, replicate, length-set, get_or-replicate, get_or-append}
use lib.Seq.{get_or-set_same, get_or-set_other, get_or-append-add}
use Rattle.base.proofs.Cases.{by_test, by_equal}
use Rattle.packet.specs.Packet.{flips}
use Rattle.packet.specs.declared.Crc.{Crc}
use Rattle.checksum.specs.declared.Check.{Check}
use Rattle.maker.specs.Stream.{state_after}
use Rattle.maker.specs.Calls.{made}
use Rattle.verdicts.specs.Verdicts.{Said, intact, repaired, several, nothing, verdict}
use Rattle.verdicts.proofs.VerdictLaws.{zero_not_one}
use Rattle.trials.specs.Trials.{most_flips, same, column, no_counts, counted, Tried, received, trial, trials, rows_of, simulated}
use Rattle.trials.specs.Trials.{joined_rows}
use Rattle.trials.proofs.SameLaws.{true_same}

-- ---- one row ----

-- five counts of n trials with f flips: without a flip all are intact, and with few none is repaired otherwise, nor is nothing found
pub data Row (limit f n : ℕ) : List ℕ → Type 0 where
  five : (a b c d e : ℕ) → a + b + c + d + e ≡ n → (f ≡ 0 → a ≡ n) → (f ≤ limit → (c ≡ 0) × (e ≡ 0)) → Row limit f n (a ∷ b ∷ c ∷ d ∷ e ∷ [])

-- a column that a trial with f flips may be counted in
pub record Allowed (limit f col : ℕ) : Type 0 where
  pub below : col < 5
  pub unflipped : f ≡ 0 → col ≡ 0
  pub few : f ≤ limit → (col ≡ 2 → ⊥) × (col ≡ 4 → ⊥)

row_long : {limit f n : ℕ} {row : List ℕ} → Row limit f n row → length row ≡ 5
row_long (five a b c d e h z l) = refl

pub row_adds : {limit f n a b c d e : ℕ} → Row limit f n (a ∷ b ∷ c ∷ d ∷ e ∷ []) → a + b + c + d + e ≡ n
row_adds (five a b c d e h z l) = h

pub row_unflipped : {limit n a b c d e : ℕ} → Row limit 0 n (a ∷ b ∷ c ∷ d ∷ e ∷ []) → (a ≡ n) × (b ≡ 0) × (c ≡ 0) × (d ≡ 0) × (e ≡ 0)
row_unflipped (five a b c d e h z l) = let all = z refl in (all, omega arith, omega arith, omega arith, omega arith)

pub row_few : {limit f n a b c d e : ℕ} → Row limit f n (a ∷ b ∷ c ∷ d ∷ e ∷ []) → f ≤ limit → (c ≡ 0) × (e ≡ 0)
row_few (five a b c d e h z l) = l

-- the counts of a row, read one by one
row_read : {limit f n : ℕ} {row : List ℕ} (at : ℕ → ℕ) → ((col : ℕ) → col < 5 → at col ≡ get_or row col 0) → Row limit f n row
    → Row limit f n (at 0 ∷ at 1 ∷ at 2 ∷ at 3 ∷ at 4 ∷ [])
row_read at r (five a b c d e h z l) =
    rw (r 0 (omega arith), r 1 (omega arith), r 2 (omega arith), r 3 (omega arith), r 4 (omega arith)) (five a b c d e h z l)

no_trials : (limit f : ℕ) → Row limit f 0 (replicate 5 0)
no_trials limit f = five 0 0 0 0 0 refl (λ z. refl) (λ l. (refl, refl))

-- a trial that is not intact has flips
not_unflipped : {limit f col : ℕ} {A : Type 0} → Allowed limit f (suc col) → f ≡ 0 → A
not_unflipped ok u = absurd (omega (arith, ok.unflipped u))

one_more : {limit f n : ℕ} {row : List ℕ} (col : ℕ) → Row limit f n row → Allowed limit f col
    → Row limit f (suc n) (set row col (suc (get_or row col 0)))
one_more zero (five a b c d e h z l) ok = five (suc a) b c d e (omega arith) (λ u. ap suc (z u)) l
one_more (suc zero) (five a b c d e h z l) ok = five a (suc b) c d e (omega arith) (not_unflipped ok) l
one_more (suc (suc zero)) (five a b c d e h z l) ok =
    five a b (suc c) d e (omega arith) (not_unflipped ok) (λ m. absurd ((ok.few m).0 refl))
one_more (suc (suc (suc zero))) (five a b c d e h z l) ok = five a b c (suc d) e (omega arith) (not_unflipped ok) l
one_more (suc (suc (suc (suc zero)))) (five a b c d e h z l) ok =
    five a b c d (suc e) (omega arith) (not_unflipped ok) (λ m. absurd ((ok.few m).1 refl))
one_more (suc (suc (suc (suc (suc col))))) r ok = absurd (omega (arith, ok.below))

-- the column of a verdict is allowed, if of a packet without flips it is intact, and of one with few it is not none and repairs to the packet made
pub column_allowed : {limit f : ℕ} (v : Said) (s t : List ℕ) → (f ≡ 0 → v ≡ intact)
    → (f ≤ limit → (v ≡ nothing → ⊥) × ((p : List ℕ) → v ≡ repaired p → flips s p ≡ t)) → Allowed limit f (column v s t)
column_allowed intact s t z l = record { below = omega arith; unflipped = λ e. refl; few = λ m. (λ e. omega arith, λ e. omega arith) }
column_allowed (repaired p) s t z l =
    record {
      below = by_test (same (flips s p) t) (λ e. rw e (omega arith)) (λ e. rw e (omega arith));
      unflipped = λ e. let d = z e in zero_not_one cc;
      few = λ m. rw (true_same (flips s p) t ((l m).1 p refl)) (λ e. omega arith, λ e. omega arith);
    }
column_allowed (several n p) s t z l =
    record { below = omega arith; unflipped = λ e. let d = z e in zero_not_one cc; few = λ m. (λ e. omega arith, λ e. omega arith) }
column_allowed nothing s t z l =
    record { below = omega arith; unflipped = λ e. let d = z e in zero_not_one cc; few = λ m. absurd ((l m).0 refl) }

-- ---- rows one behind the other ----

pub joined_at : (rows : List (List ℕ)) (f col : ℕ) → ((i : ℕ) → i < length rows → length (get_or rows i []) ≡ 5) → col < 5
    → {place : ℕ} → place ≡ 5 * f + col → get_or (joined_rows rows) place 0 ≡ get_or (get_or rows f []) col 0
joined_at [] f col long h e = refl
joined_at (row ∷ rows) zero col long h {place} e =
    let here : place ≡ col = omega arith in
    rw here (get_or-append row (joined_rows rows) 0 col (omega (arith, long 0 (omega arith))))
joined_at (row ∷ rows) (suc f) col long h {place} e =
    let behind : place ≡ length row + (5 * f + col) = omega (arith, long 0 (omega arith)) in
    rw behind
    (get_or-append-add row (joined_rows rows) (5 * f + col) 0 ∙ joined_at rows f col (λ i l. long (suc i) (omega arith)) h refl)

-- ---- all rows ----

-- n trials with each number of flips, and what each trial comes to
module _ (c : Crc) (k : Check) (limit n seed : ℕ) (packet output : List ℕ)
    (comes : (f y : ℕ) → f ≤ most_flips → let s = received c k (length packet) f y in
    (length s ≡ length packet) × Allowed limit f (column (verdict c k limit s) s (made c y k (length packet)))) where
  -- all trials with fewer than f flips are counted, m of those with f, and none of the others
  record Standing (f m : ℕ) (t : Tried) : Type 0 where
    long : length t.packet ≡ length packet
    last : 1 ≤ m → (y : ℕ) × (t.packet ≡ received c k (length packet) f y) × (t.state ≡ state_after f (state_after (length packet) y))
    nine : length t.counts ≡ suc most_flips
    done : (i : ℕ) → i < f → Row limit i n (get_or t.counts i [])
    begun : Row limit f m (get_or t.counts f [])
    ahead : (i : ℕ) → f < i → i ≤ most_flips → Row limit i 0 (get_or t.counts i [])

  stands_first : Standing 0 0 (record { state = seed; packet = packet; output = output; counts = no_counts })
  stands_first =
      record {
        long = refl;
        last = λ some. absurd (omega arith);
        nine = refl;
        done = λ i l. absurd (omega arith);
        begun = no_trials limit 0;
        ahead = λ i l m. rw (get_or-replicate (suc most_flips) i (replicate {A = ℕ} 5 0) [] (omega arith)) (no_trials limit i);
      }

  stands_after : {f m : ℕ} {t : Tried} → f ≤ most_flips → Standing f m t → Standing f (suc m) (trial c k limit f t)
  unfolding trial counted
  stands_after {f} {t = t} h q =
      let one = comes f t.state h in
      record {
        long = rw q.long one.0;
        last =
            λ some. (
              t.state,
              ap (λ (l : ℕ). received c k l f t.state) q.long,
              ap (λ (l : ℕ). state_after f (state_after l t.state)) q.long,
            );
        nine = length-set t.counts f _ ∙ q.nine;
        done = λ i l. rw (get_or-set_other t.counts f i _ [] (λ e. omega arith)) (q.done i l);
        begun = rw (q.long, get_or-set_same t.counts f _ [] (omega (arith, q.nine))) (one_more _ q.begun one.1);
        ahead = λ i l o. rw (get_or-set_other t.counts f i _ [] (λ e. omega arith)) (q.ahead i l o);
      }

  stands_then : {f all : ℕ} (j : ℕ) {m : ℕ} {t : Tried} → f ≤ most_flips → m + j ≡ all → Standing f m t → Standing f all (trials c k limit f j t)
  unfolding trials
  stands_then {all = all} zero {m = m} h e q = let same : m ≡ all = omega arith in rw same at q
  stands_then (suc j) h e q = stands_then j h (omega arith) (stands_after h q)

  -- a row that is finished goes over to the next
  stands_next : {f : ℕ} {t : Tried} → f < most_flips → Standing f n t → Standing (suc f) 0 t
  stands_next {f} h q =
      record {
        long = q.long;
        last = λ some. absurd (omega arith);
        nine = q.nine;
        done = λ i l. by_equal i f (λ e. rw e q.begun) (λ e. q.done i (omega arith));
        begun = q.ahead (suc f) (omega arith) h;
        ahead = λ i l m. q.ahead i (omega arith) m;
      }

  stands_last : (rows : ℕ) {f : ℕ} {t : Tried} → f + rows ≡ most_flips → Standing f 0 t → Standing most_flips n (rows_of c k limit n (suc rows) f t)
  unfolding rows_of
  stands_last zero {f} {t} e q =
      let all : f ≡ most_flips = omega arith in
      subst (λ (i : ℕ). Standing i n (trials c k limit f n t)) all (stands_then n (omega arith) (omega arith) q)
  stands_last (suc rows) e q = stands_last rows (omega arith) (stands_next (omega arith) (stands_then n (omega arith) (omega arith) q))

  abbrev left : Tried
  left = simulated c k limit n seed packet output

  stands : Standing most_flips n left
  unfolding simulated
  stands = stands_last most_flips refl stands_first

  pub counts_nine : length left.counts ≡ suc most_flips
  counts_nine = stands.nine

  pub row_of : (f : ℕ) → f ≤ most_flips → Row limit f n (get_or left.counts f [])
  row_of f h = by_equal f most_flips (λ e. rw e stands.begun) (λ e. stands.done f (omega arith))

  -- the same of the counts one behind the other
  pub row_joined : (f : ℕ) → f ≤ most_flips → let at : ℕ → ℕ = λ col. get_or (joined_rows left.counts) (5 * f + col) 0 in
      Row limit f n (at 0 ∷ at 1 ∷ at 2 ∷ at 3 ∷ at 4 ∷ [])
  row_joined f h =
      let cs = left.counts in
      let long : (i : ℕ) → i < length cs → length (get_or cs i []) ≡ 5 = λ i l. row_long (row_of i (omega (arith, counts_nine))) in
      row_read _ (λ col l. joined_at cs f col long l refl) (row_of f h)

  -- the packet is the one that the last trial received: that which began where its bytes and draws lead to the last state
  pub last_received : 1 ≤ n
      → (y : ℕ) × (left.packet ≡ received c k (length packet) most_flips y) × (left.state ≡ state_after most_flips (state_after (length packet) y))
  last_received = stands.last
