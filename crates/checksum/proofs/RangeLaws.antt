-- What decides the second check: the ends of the range, the field, or the total of the range. And how that total changes with one byte
-- of the packet: by what that byte counts there, which is nothing outside the range; the number in a field is such a total too.
-- The induction over the range takes two bytes, one word, at a time.
use mathlib.Core.Path.{◌≡◌, refl, ap, ap₂, ◌∙◌}
use mathlib.Core.Bool.{true, ◌||◌, or-true}
use mathlib.Core.Logic.{◌≢◌}
use mathlib.Core.List.{List, [], ◌∷◌}
use Prim.Native.Nat.{ℕ, zero, suc, ◌+◌, ◌-◌, ◌*◌, ◌%◌, ◌<◌, ◌≤◌}
use native.Mathlib.Omega.{arith}
use borrow.Author.Tests.{lt-ltb, le-ltb, le-leb, lt-leb, eq-eqb, ne_eqb, eqb-false}
use lib.Dec.{eqb, leb}
use lib.ListN.{length, get_or, take, drop, set, length-take, length-drop, get_or-eq_default}
use lib.Seq.{get_or-take, get_or-drop, drop-set-lt, drop-set-add, take-set-le, take-set-lt}
use Rattle.base.specs.Outcome.{pick}
use Rattle.base.proofs.Cases.{by_test, by_order}
use Rattle.packet.specs.Packet.{Bytes}
use Rattle.checksum.specs.Checksum.{sum_of, total, range, field_of, passes}
use Rattle.checksum.specs.Shares.{multiple, word_weight, share}
use Rattle.checksum.specs.declared.Check.{Check}
use Rattle.checksum.proofs.SumLaws.{total_nil, total_one, total_two, sum-multiple}

-- the elements of a part are bytes, and so is what is written
pub drop_bytes : (a : ℕ) (s : List ℕ) → Bytes s → Bytes (drop a s)
drop_bytes a s b i = rw get_or-drop (b (a + i))

pub take_bytes : (n : ℕ) (s : List ℕ) → Bytes s → Bytes (take n s)
take_bytes n s b i =
    by_order i n (λ l. rw get_or-take (b i))
    (λ g. rw (get_or-eq_default (take n s) 0 {n = i} (simp length-take (omega arith))) (omega arith))

pub set_bytes : (s : List ℕ) (j v : ℕ) → Bytes s → v < 256 → Bytes (set s j v)
set_bytes [] j v b h i = b i
set_bytes (x ∷ s) zero v b h zero = h
set_bytes (x ∷ s) zero v b h (suc i) = b (suc i)
set_bytes (x ∷ s) (suc j) v b h zero = b 0
set_bytes (x ∷ s) (suc j) v b h (suc i) = set_bytes s j v (λ k. b (suc k)) h i

pub range_bytes : (a e : ℕ) (s : List ℕ) → Bytes s → Bytes (range a e s)
unfolding range
range_bytes a e s b = take_bytes (e - a) (drop a s) (drop_bytes a s b)

-- where there is no second check, every packet passes it
pub no_check_passes : (k : Check) (s : List ℕ) → k.from ≡ k.to → passes k s ≡ true
unfolding passes
no_check_passes k s h = simp (eq-eqb _ _ h)

-- and so does one whose field says that no checksum was made
pub zero_field_passes : (k : Check) (s : List ℕ) → field_of k.field s ≡ 0 → passes k s ≡ true
unfolding passes
zero_field_passes k s h = simp (eq-eqb _ _ h, or-true)

-- else the sum of the range decides, or its plain total
pub sum_decides : (k : Check) (s : List ℕ) → k.from ≢ k.to → field_of k.field s ≢ 0
    → passes k s ≡ eqb (sum_of (range k.from k.to s)) 65535
unfolding passes
sum_decides k s h m = simp (ne_eqb _ _ h, ne_eqb _ _ m)

pub passes-total : (k : Check) (s : List ℕ) → k.from ≢ k.to → field_of k.field s ≢ 0 → Bytes s
    → passes k s ≡ multiple (total (range k.from k.to s))
passes-total k s h m b = sum_decides k s h m ∙ sum-multiple (range k.from k.to s) (range_bytes k.from k.to s b)

-- packets of one range and one field pass alike
pub passes_alike : (k : Check) (s t : List ℕ) → (k.from ≢ k.to → field_of k.field s ≡ field_of k.field t) → range k.from k.to s ≡ range k.from k.to t
    → passes k s ≡ passes k t
unfolding passes
passes_alike k s t f r =
    by_test (eqb k.from k.to) (λ e. rw e refl)
    (λ e. ap₂ (λ (x : ℕ) (l : List ℕ). eqb k.from k.to || eqb x 0 || eqb (sum_of l) 65535) (f (eqb-false _ _ e)) r)

pub range_length : (a e : ℕ) (s : List ℕ) → e ≤ length s → length (range a e s) ≡ e - a
unfolding range
range_length a e s h = simp (length-take, length-drop) (omega arith)

pub word_weight_even : (i : ℕ) → i % 2 ≡ 0 → word_weight i ≡ 256
unfolding word_weight
word_weight_even i h = simp (eq-eqb _ _ h)

pub word_weight_odd : (i : ℕ) → i % 2 ≡ 1 → word_weight i ≡ 1
unfolding word_weight
word_weight_odd i h = simp (ne_eqb (i % 2) 0 (omega arith))

word_weight_two : (i : ℕ) → word_weight (suc (suc i)) ≡ word_weight i
unfolding word_weight
word_weight_two i =
    let e : suc (suc i) % 2 ≡ i % 2 = omega arith in
    ap (λ (x : ℕ). pick (eqb x 0) 256 1) e

-- one byte changed, among all
pub total-set : (s : List ℕ) (i v : ℕ) → i < length s → total (set s i v) + word_weight i * get_or s i 0 ≡ total s + word_weight i * v
total-set [] i v h = absurd (omega arith)
total-set (x ∷ []) zero v h = rw (word_weight_even 0 refl) (omega (arith, total_one v, total_one x))
total-set (x ∷ []) (suc i) v h = absurd (omega arith)
total-set (x ∷ y ∷ s) zero v h = rw (word_weight_even 0 refl) (omega (arith, total_two v y s, total_two x y s))
total-set (x ∷ y ∷ s) (suc zero) v h = rw (word_weight_odd 1 refl) (omega (arith, total_two x v s, total_two x y s))
total-set (x ∷ y ∷ s) (suc (suc i)) v h =
    rw (word_weight_two i) (omega (arith, total_two x y (set s i v), total_two x y s, total-set s i v (omega arith)))

-- what is outside the range counts nothing
pub share_below : (a e i : ℕ) → i < a → share a e i ≡ 0
unfolding share
share_below a e i h = simp (lt-leb _ _ h)

pub share_above : (a e i : ℕ) → e ≤ i → share a e i ≡ 0
unfolding share
share_above a e i h = by_test (leb a i) (λ t. simp (t, le-ltb _ _ h)) (λ t. simp t)

pub share_within : (a e i : ℕ) → a ≤ i → i < e → share a e i ≡ word_weight (i - a)
unfolding share
share_within a e i h l = simp (le-leb _ _ h, lt-ltb _ _ l)

range_below : (a e i v : ℕ) (s : List ℕ) → i < a → range a e (set s i v) ≡ range a e s
unfolding range
range_below a e i v s h = simp drop-set-lt

drop-set : (a i v : ℕ) (s : List ℕ) → a ≤ i → drop a (set s i v) ≡ set (drop a s) (i - a) v
drop-set a i v s h =
    let e : i ≡ a + (i - a) = omega arith in
    ap (λ (x : ℕ). drop a (set s x v)) e ∙ drop-set-add a s (i - a) v

range_above : (a e i v : ℕ) (s : List ℕ) → a ≤ i → e ≤ i → range a e (set s i v) ≡ range a e s
unfolding range
range_above a e i v s h l = rw (drop-set a i v s h) (take-set-le (e - a) (drop a s) (i - a) v (omega arith))

range_within : (a e i v : ℕ) (s : List ℕ) → a ≤ i → i < e → range a e (set s i v) ≡ set (range a e s) (i - a) v
unfolding range
range_within a e i v s h l = rw (drop-set a i v s h) (take-set-lt (e - a) (drop a s) (i - a) v (omega arith))

get_or_range : (a e i : ℕ) (s : List ℕ) → a ≤ i → i < e → get_or (range a e s) (i - a) 0 ≡ get_or s i 0
unfolding range
get_or_range a e i s h l =
    let back : a + (i - a) ≡ i = omega arith in
    get_or-take (e - a) (drop a s) (i - a) 0 (omega arith) ∙ get_or-drop a s (i - a) 0 ∙ ap (λ (x : ℕ). get_or s x 0) back

-- one byte of the packet changed
pub total-range-set : (a e i v : ℕ) (s : List ℕ) → e ≤ length s
    → total (range a e (set s i v)) + share a e i * get_or s i 0 ≡ total (range a e s) + share a e i * v
total-range-set a e i v s h =
    by_order i a
    (λ l. rw (share_below a e i l, range_below a e i v s l) (omega arith))
    (λ g.
    by_order i e
    (λ l.
    rw (share_within a e i g l, range_within a e i v s g l, ← get_or_range a e i s g l)
    (total-set (range a e s) (i - a) v (omega (arith, range_length a e s h))))
    (λ m. rw (share_above a e i m, range_above a e i v s g m) (omega arith)))

total_both : (r : List ℕ) → length r ≡ 2 → total r ≡ get_or r 0 0 * 256 + get_or r 1 0
total_both [] h = absurd (omega arith)
total_both (x ∷ []) h = absurd (omega arith)
total_both (x ∷ y ∷ []) h = omega (arith, total_two x y [], total_nil)
total_both (x ∷ y ∷ z ∷ r) h = absurd (omega arith)

-- the field is a range of two bytes, and the number in it is their total
pub field_total : (f : ℕ) (s : List ℕ) → f + 2 ≤ length s → total (range f (f + 2) s) ≡ field_of f s
unfolding field_of
field_total f s h =
    let r = range f (f + 2) s in
    let long = range_length f (f + 2) s h in
    let high : get_or r 0 0 ≡ get_or s f 0 = ap (λ (x : ℕ). get_or r x 0) (omega arith) ∙ get_or_range f (f + 2) f s (omega arith) (omega arith) in
    let low : get_or r 1 0 ≡ get_or s (f + 1) 0 = ap (λ (x : ℕ). get_or r x 0) (omega arith) ∙ get_or_range f (f + 2) (f + 1) s (omega arith) (omega arith) in
    omega (arith, total_both r (omega arith), high, low)
