-- The sum of bytes is what the carries make of their plain total, so it is FFFFh exactly for a positive multiple of FFFFh.
-- The induction takes two bytes at a time and keeps the running sum below 65536.
use mathlib.Core.Path.{◌≡◌, refl, sym, ap, ◌∙◌}
use mathlib.Core.Bool.{false}
use mathlib.Core.Logic.{◌↔◌}
use mathlib.Core.List.{List, [], ◌∷◌}
use Prim.Native.Nat.{ℕ, zero, suc, ◌+◌, ◌-◌, ◌*◌, ◌/◌, ◌%◌, ◌<◌, ◌≤◌}
use native.Mathlib.Omega.{arith}
use borrow.Author.Tests.{lt-ltb, eq-eqb, ne_eqb, ltb-true, eqb-true, eqb-false}
use lib.Dec.{eqb, ltb}
use lib.ListN.{length, get_or, take, drop, length-drop, drop_of_length-le}
use lib.Seq.{drop-drop}
use Rattle.std.proofs.lemmas.List.{take_rest}
use Rattle.base.proofs.Cases.{by_test}
use Rattle.packet.specs.Packet.{Bytes}
use Rattle.checksum.specs.Checksum.{words, folded, sum_from, sum_of, plain, total, reduced}
use Rattle.checksum.specs.Shares.{multiple}

-- the equations of the definitions

pub total_nil : total [] ≡ 0
unfolding total plain words
total_nil = refl

pub total_one : (h : ℕ) → total (h ∷ []) ≡ h * 256
unfolding total plain words
total_one h = omega arith

pub total_two : (h l : ℕ) (s : List ℕ) → total (h ∷ l ∷ s) ≡ h * 256 + l + total s
unfolding total plain words
total_two h l s = refl

pub sum_start : (s : List ℕ) → sum_of s ≡ sum_from 0 (words s)
unfolding sum_of
sum_start s = refl

pub sum_nil : (r : ℕ) → sum_from r (words []) ≡ r
unfolding sum_from words
sum_nil r = refl

pub sum_one : (r h : ℕ) → sum_from r (words (h ∷ [])) ≡ folded (r + h * 256)
unfolding sum_from words
sum_one r h = ap (λ (x : ℕ). folded (r + x)) (omega arith)

pub sum_two : (r h l : ℕ) (s : List ℕ) → sum_from r (words (h ∷ l ∷ s)) ≡ sum_from (folded (r + (h * 256 + l))) (words s)
unfolding sum_from words
sum_two r h l s = refl

folded_lt : (r w : ℕ) → r < 65536 → w < 65536 → folded (r + w) < 65536
unfolding folded
folded_lt r w hr hw = omega arith

-- the word that bytes begin with, and those after it
words_turn : (s : List ℕ) → 0 < length s → words s ≡ (get_or s 0 0 * 256 + get_or s 1 0) ∷ words (drop 2 s)
unfolding words
words_turn [] h = absurd (omega arith)
words_turn (x ∷ []) h = refl
words_turn (x ∷ y ∷ s) h = refl

-- one turn of a pass over the words, at byte i
words_at : (s : List ℕ) (i : ℕ) → i < length s
    → (let rest = take (length s - i) (drop i s) in words (drop i s) ≡ (get_or rest 0 0 * 256 + get_or rest 1 0) ∷ words (drop (i + 2) s))
words_at s i h =
    let next : drop 2 (drop i s) ≡ drop (i + 2) s = drop-drop 2 i s in
    words_turn (drop i s) (omega (arith, length-drop i s)) ∙ rw (← next, take_rest s i) refl

pub sum_turn : (r i : ℕ) (s : List ℕ) → i < length s
    → (let rest = take (length s - i) (drop i s) in
    sum_from r (words (drop i s)) ≡ sum_from (folded (r + (get_or rest 0 0 * 256 + get_or rest 1 0))) (words (drop (i + 2) s)))
unfolding sum_from
sum_turn r i s h = rw (words_at s i h) refl

pub total_turn : (i : ℕ) (s : List ℕ) → i < length s
    → (let rest = take (length s - i) (drop i s) in total (drop i s) ≡ get_or rest 0 0 * 256 + get_or rest 1 0 + total (drop (i + 2) s))
unfolding total plain
total_turn i s h = rw (words_at s i h) refl

-- nothing is left past the end
pub sum_past : (r i : ℕ) (s : List ℕ) → length s ≤ i → sum_from r (words (drop i s)) ≡ r
sum_past r i s h = rw (drop_of_length-le s {i = i} h) (sum_nil r)

pub total_past : (i : ℕ) (s : List ℕ) → length s ≤ i → total (drop i s) ≡ 0
total_past i s h = rw (drop_of_length-le s {i = i} h) total_nil

pub reduced_zero : reduced 0 ≡ 0
unfolding reduced
reduced_zero = refl

pub reduced_positive : (t : ℕ) → 0 < t → reduced t ≡ suc ((t - 1) % 65535)
unfolding reduced
reduced_positive zero h = absurd (omega arith)
reduced_positive (suc t) h = ap (λ (x : ℕ). suc (x % 65535)) (omega arith)

reduced_small : (t : ℕ) → t < 65536 → reduced t ≡ t
reduced_small zero h = reduced_zero
reduced_small (suc t) h = omega (arith, reduced_positive (suc t) (omega arith))

-- a carry folded back keeps the number that the total is reduced to
reduced-folded : (x t : ℕ) → x < 131072 → reduced (folded x + t) ≡ reduced (x + t)
unfolding folded
reduced-folded zero t h = refl
reduced-folded (suc x) t h =
    reduced_positive (suc x % 65536 + suc x / 65536 + t) (omega arith) ∙ omega arith ∙ sym (reduced_positive (suc x + t) (omega arith))

sum_from_lem : (r : ℕ) (s : List ℕ) → r < 65536 → Bytes s → sum_from r (words s) ≡ reduced (r + total s)
sum_from_lem r [] hr b = sum_nil r ∙ sym (ap reduced (omega (arith, total_nil)) ∙ reduced_small r hr)
sum_from_lem r (h ∷ []) hr b =
    let f = folded_lt r (h * 256) hr (omega (arith, b 0)) in
    sum_one r h
    ∙ sym (reduced_small _ f)
    ∙ ap reduced (omega arith)
    ∙ reduced-folded (r + h * 256) 0 (omega (arith, b 0))
    ∙ ap reduced (omega (arith, total_one h))
sum_from_lem r (h ∷ l ∷ s) hr b =
    sum_two r h l s
    ∙ sum_from_lem (folded (r + (h * 256 + l))) s (folded_lt r (h * 256 + l) hr (omega (arith, b 0, b 1))) (λ i. b (suc (suc i)))
    ∙ reduced-folded (r + (h * 256 + l)) (total s) (omega (arith, b 0, b 1))
    ∙ ap reduced (omega (arith, total_two h l s))

-- the sum of RFC 1071 is the plain total of the words, reduced
pub sum-reduced : (s : List ℕ) → Bytes s → sum_of s ≡ reduced (total s)
sum-reduced s b = sum_start s ∙ sum_from_lem 0 s (omega arith) b ∙ ap reduced (omega arith)

pub reduced_lt : (t : ℕ) → reduced t < 65536
reduced_lt zero = omega (arith, reduced_zero)
reduced_lt (suc t) = omega (arith, reduced_positive (suc t) (omega arith))

pub sum_lt : (s : List ℕ) → Bytes s → sum_of s < 65536
sum_lt s b = omega (arith, sum-reduced s b, reduced_lt (total s))

reduced-passes : (t : ℕ) → reduced t ≡ 65535 ↔ (0 < t) × (t % 65535 ≡ 0)
reduced-passes zero = omega (arith, reduced_zero)
reduced-passes (suc t) = omega (arith, reduced_positive (suc t) (omega arith))

pub sum-passes : (s : List ℕ) → Bytes s → sum_of s ≡ 65535 ↔ (0 < total s) × (total s % 65535 ≡ 0)
sum-passes s b = rw (sum-reduced s b) (reduced-passes (total s))

pub multiple_zero : (t : ℕ) → t ≡ 0 → multiple t ≡ false
unfolding multiple
multiple_zero t e = rw e refl

pub multiple_positive : (t : ℕ) → 0 < t → multiple t ≡ eqb (t % 65535) 0
unfolding multiple
multiple_positive t h = simp (lt-ltb _ _ h)

-- the same as a test
pub sum-multiple : (s : List ℕ) → Bytes s → eqb (sum_of s) 65535 ≡ multiple (total s)
unfolding multiple
sum-multiple s b =
    by_test (eqb (sum_of s) 65535)
    (λ e.
    let h = (sum-passes s b).0 (eqb-true _ _ e) in
    e ∙ sym (simp (lt-ltb _ _ h.0, eq-eqb _ _ h.1)))
    (λ e.
    by_test (ltb 0 (total s))
    (λ p. rw (e, p) (sym (ne_eqb _ _ (λ m. eqb-false _ _ e ((sum-passes s b).1 (ltb-true _ _ p, m))))))
    (λ p. rw (e, p) refl))

-- the plain total is small
pub total_bound : (s : List ℕ) → Bytes s → total s ≤ 65536 * length s
total_bound [] h = omega (arith, total_nil)
total_bound (b ∷ []) h = omega (arith, total_one b, h 0)
total_bound (b ∷ d ∷ s) h = omega (arith, total_two b d s, h 0, h 1, total_bound s (λ i. h (suc (suc i))))
