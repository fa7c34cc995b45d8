-- Writing a record byte by byte: what is still to be stored of it, after each turn; and patterns read back from records.
use mathlib.Core.Path.{◌≡◌, refl, sym, ap, ap₂, ◌∙◌}
use mathlib.Core.List.{List, [], ◌∷◌, ◌++◌}
use Prim.Native.Nat.{ℕ, zero, suc, ◌+◌, ◌*◌, ◌/◌, ◌%◌, ◌<◌, ◌≤◌}
use native.Mathlib.Omega.{arith}
use native.Mathlib.Numerals.{add-one}
use borrow.Author.Tests.{le-leb}
use lib.Dec.{leb}
use lib.ListN.{length, take, drop, get_or, set, drop_of_length-le, length-append, length-drop}
use lib.Seq.{drop-cons, drop_at, get_or-drop, ext_get_or, sets, sets-eq}
use Rattle.base.specs.Outcome.{pick}
use Rattle.records.specs.Records.{position_bytes, record_of, records, positions_in, record_in, patterns_from, patterns_in}
use Rattle.records.proofs.PageLaws.{position_bytes-length, record_length}

-- the two bytes of one position
pub put_turn : (ps out whole : List ℕ) (to i : ℕ) {high low : ℕ} → i < length ps → high ≡ get_or ps i 0 / 256 → low ≡ get_or ps i 0 % 256
    → sets out to (position_bytes (drop i ps)) ≡ whole → sets (set (set out to high) (to + 1) low) (to + 2) (position_bytes (drop (i + 1) ps)) ≡ whole
unfolding position_bytes
put_turn ps out whole to i h a b e =
    let two : to + 2 ≡ suc (suc to) = omega arith in
    rw (a, b, add-one to, add-one i, two) (rw (drop-cons ps i 0 h) at e)

-- nothing is left after the last
pub put_done : (ps out : List ℕ) (to i : ℕ) → length ps ≤ i → sets out to (position_bytes (drop i ps)) ≡ out
unfolding position_bytes
put_done ps out to i h = rw (drop_of_length-le ps h)

-- the byte of kind and then the positions are the record
pub put_whole : (ps out : List ℕ) (at : ℕ) → at + (1 + 2 * length ps) ≤ length out
    → sets (set out at (length ps)) (at + 1) (position_bytes ps) ≡ take at out ++ record_of ps ++ drop (at + length (record_of ps)) out
unfolding record_of
put_whole ps out at h = rw (add-one at) (sets-eq (record_of ps) out at (omega (arith, record_length ps)))

-- ---- reading back ----

pub length-positions : (k : ℕ) (bs : List ℕ) → length (positions_in k bs) ≡ k
unfolding positions_in
length-positions zero bs = refl
length-positions (suc k) bs = ap suc (length-positions k (drop 2 bs))

-- fewer positions are the first of more
pub positions-take : (k m : ℕ) (bs : List ℕ) → k ≤ m → take k (positions_in m bs) ≡ positions_in k bs
unfolding positions_in
positions-take zero m bs h = refl
positions-take (suc k) zero bs h = absurd (omega arith)
positions-take (suc k) (suc m) bs h = ap (λ (r : List ℕ). (get_or bs 0 0 * 256 + get_or bs 1 0) ∷ r) (positions-take k m (drop 2 bs) (omega arith))

-- each position, by its two bytes
get_or_positions : (m : ℕ) (bs : List ℕ) (k : ℕ) → k < m → get_or (positions_in m bs) k 0 ≡ get_or bs (2 * k) 0 * 256 + get_or bs (2 * k + 1) 0
unfolding positions_in
get_or_positions zero bs k h = absurd (omega arith)
get_or_positions (suc m) bs zero h = refl
get_or_positions (suc m) bs (suc k) h =
    let high : 2 + 2 * k ≡ 2 * suc k = omega arith in
    let low : 2 + (2 * k + 1) ≡ 2 * suc k + 1 = omega arith in
    get_or_positions m (drop 2 bs) k (omega arith)
    ∙ ap₂ (λ (x y : ℕ). x * 256 + y) (get_or-drop 2 bs (2 * k) 0 ∙ ap (λ (i : ℕ). get_or bs i 0) high) (get_or-drop 2 bs (2 * k + 1) 0 ∙ ap (λ (i : ℕ). get_or bs i 0) low)

pub positions_by_entries : (m : ℕ) (bs l : List ℕ) → length l ≡ m → ((k : ℕ) → k < m → get_or l k 0 ≡ get_or bs (2 * k) 0 * 256 + get_or bs (2 * k + 1) 0) → l ≡ positions_in m bs
positions_by_entries m bs l e h =
    ext_get_or 0 l (positions_in m bs) (e ∙ sym (length-positions m bs)) (λ k b. h k (omega arith) ∙ sym (get_or_positions m bs k (omega arith)))

-- positions are read back, whatever stands behind them
positions-places : (ps rest : List ℕ) → positions_in (length ps) (position_bytes ps ++ rest) ≡ ps
unfolding positions_in position_bytes
positions-places [] rest = refl
positions-places (p ∷ ps) rest = ap₂ (λ (q : ℕ) (qs : List ℕ). q ∷ qs) (omega arith) (positions-places ps rest)

-- and so is a record
pub record_back : (ps rest : List ℕ) → record_in (record_of ps ++ rest) ≡ ps
unfolding record_of
record_back ps rest = positions-places ps rest

-- more records than there can be bytes change nothing
patterns_enough : (more less : ℕ) (bs : List ℕ) → length bs ≤ more → length bs ≤ less → patterns_from more bs ≡ patterns_from less bs
unfolding patterns_from
patterns_enough zero zero bs h l = refl
patterns_enough zero (suc less) [] h l = refl
patterns_enough zero (suc less) (k ∷ bs) h l = absurd (omega arith)
patterns_enough (suc more) zero [] h l = refl
patterns_enough (suc more) zero (k ∷ bs) h l = absurd (omega arith)
patterns_enough (suc more) (suc less) [] h l = refl
patterns_enough (suc more) (suc less) (k ∷ bs) h l =
    let d : length (drop (2 * k) bs) ≤ length bs = simp length-drop (omega arith) in
    ap (λ (ps : List (List ℕ)). pick (leb (2 * k) (length bs)) (positions_in k bs ∷ ps) [])
    (patterns_enough more less (drop (2 * k) bs) (omega arith) (omega arith))

pub patterns_none : patterns_in [] ≡ []
unfolding patterns_in patterns_from
patterns_none = refl

pub patterns_cons : (k : ℕ) (bs : List ℕ)
    → patterns_in (k ∷ bs) ≡ pick (leb (2 * k) (length bs)) (positions_in k bs ∷ patterns_in (drop (2 * k) bs)) []
unfolding patterns_in patterns_from
patterns_cons k bs =
    let d : length (drop (2 * k) bs) ≤ length bs = simp length-drop (omega arith) in
    ap (λ (ps : List (List ℕ)). pick (leb (2 * k) (length bs)) (positions_in k bs ∷ ps) [])
    (patterns_enough (length bs) (length (drop (2 * k) bs)) (drop (2 * k) bs) d (omega arith))

-- records hold the patterns whose records they are
pub patterns_records : (xs : List (List ℕ)) → patterns_in (records xs) ≡ xs
unfolding records record_of
patterns_records [] = patterns_none
patterns_records (ps ∷ xs) =
    let m : 2 * length ps ≤ length (position_bytes ps ++ records xs) = simp (length-append, position_bytes-length) (omega arith) in
    patterns_cons (length ps) (position_bytes ps ++ records xs)
    ∙ rw (
      le-leb (2 * length ps) (length (position_bytes ps ++ records xs)) m,
      positions-places ps (records xs),
      drop_at (position_bytes ps) (records xs) (2 * length ps) (position_bytes-length ps),
    )
    (ap (λ (qs : List (List ℕ)). ps ∷ qs) (patterns_records xs))
