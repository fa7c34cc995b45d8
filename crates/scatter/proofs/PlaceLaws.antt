-- Where stored bytes came from: no two of a run of at most r came from one row, so that a lost run touches each row at most once.
use mathlib.Core.Path.{◌≡◌, refl, sym, ap, ◌∙◌}
use mathlib.Core.List.{List, []}
use Prim.Native.Nat.{ℕ, zero, suc, ◌+◌, ◌*◌, ◌/◌, ◌%◌, ◌<◌, ◌≤◌}
use native.Mathlib.Nat.{add-zero, suc-mul, mul_comm, mul-le-mul_right, mul-add-div_right}
use native.Mathlib.Nat.{mod-lt, div-eq_of_lt, div-add-mod', div-lt_iff_lt-mul}
use native.Mathlib.Omega.{arith}
use lib.ListN.{get_or, take, drop, get_or-eq_default, length-take}
use Rattle.base.proofs.Cases.{by_order}
use Rattle.scatter.specs.Blocks.{pieces, scattered, gathered}
use Rattle.scatter.specs.Losses.{places, came_from, row_of, InRun, Lost, byte_in, AtMostOnce}
use Rattle.scatter.proofs.BlockLaws.{At, place_at, in_block, piece_at, length-pieces, byte_of_piece, stored_byte}
use Rattle.scatter.proofs.ExchangeLaws.{gathered_exchanged}

-- ---- rows ----

row_of_place : (i c j : ℕ) → j < c → row_of c (i * c + j) ≡ i
row_of_place i c j h = mul-add-div_right (omega arith) i j ∙ ap (λ (m : ℕ). i + m) (div-eq_of_lt h) ∙ add-zero i

-- the byte at a place stands in its row
pub byte_in_its_row : (r c : ℕ) (s : List ℕ) (p : ℕ) → p < r * c → byte_in r c s (row_of c p) (p % c) ≡ get_or s p 0
byte_in_its_row r c s p h =
    let some : 0 < c = omega (arith, (place_at r c p h).inside_fits) in
    byte_of_piece r c s (p / c) (p % c) ((div-lt_iff_lt-mul some).1 h) (mod-lt p some) ∙ ap (λ (m : ℕ). get_or s m 0) (div-add-mod' p c)

-- ---- where a stored byte came from ----

get_or_places : (n k i : ℕ) → i < n → get_or (places n k) i 0 ≡ k + i
unfolding places
get_or_places zero k i h = absurd (omega arith)
get_or_places (suc n) k zero h = omega arith
get_or_places (suc n) k (suc i) h = get_or_places n (suc k) i (omega arith) ∙ omega arith

came_from_lem : (r c : ℕ) {k : ℕ} (a : At c r k) → came_from r c k ≡ a.inside * c + a.piece
unfolding came_from
came_from_lem r c a =
    stored_byte r c (places (r * c) 0) a.inside a.piece a.inside_fits a.piece_fits a.at refl
    ∙ get_or_places (r * c) 0 (a.inside * c + a.piece) (in_block a.inside_fits a.piece_fits)
    ∙ omega arith

row_came_from : (r c : ℕ) {k : ℕ} (a : At c r k) → row_of c (came_from r c k) ≡ a.inside
row_came_from r c a = ap (row_of c) (came_from_lem r c a) ∙ row_of_place a.inside c a.piece a.piece_fits

pub came_from_inside : (r c k : ℕ) → k < r * c → came_from r c k < r * c
came_from_inside r c k h =
    let a = place_at c r k (rw (mul_comm c r) h) in
    rw (came_from_lem r c a) (in_block a.inside_fits a.piece_fits)

pub row_inside : (r c k : ℕ) → k < r * c → row_of c (came_from r c k) < r
row_inside r c k h = let a = place_at c r k (rw (mul_comm c r) h) in rw (row_came_from r c a) a.inside_fits

-- a stored byte is the input's byte at the place that it came from
pub stored_came_from : (r c : ℕ) (s : List ℕ) (k : ℕ) → k < r * c → get_or (scattered r c s) k 0 ≡ get_or s (came_from r c k) 0
stored_came_from r c s k h =
    let a = place_at c r k (rw (mul_comm c r) h) in
    stored_byte r c s a.inside a.piece a.inside_fits a.piece_fits a.at (came_from_lem r c a)

-- ---- a run ----

-- bytes of one row are stored r or more apart, where their columns differ
one_row_r_apart : (r i j l : ℕ) → j < l → j * r + i + r ≤ l * r + i
one_row_r_apart r i j l h = omega (arith, mul-le-mul_right r h, suc-mul j r)

-- bytes k and m of one row i, in a run of at most r, are in one column
one_row_one_column : (r from n i j l : ℕ) {k m : ℕ} → n ≤ r → k ≡ j * r + i → m ≡ l * r + i → InRun from n k → InRun from n m → j ≡ l
one_row_one_column r from n i j l most ek em ink inm =
    by_order j l
    (λ h. absurd (omega (arith, one_row_r_apart r i j l h, ink, inm)))
    (λ h. by_order l j (λ g. absurd (omega (arith, one_row_r_apart r i l j g, ink, inm))) (λ g. omega arith))

-- of a run of n stored bytes, at most r, no two came from one row
pub one_row_one_byte : (r c from n k m : ℕ) → n ≤ r → InRun from n k → InRun from n m → k < r * c → m < r * c
    → row_of c (came_from r c k) ≡ row_of c (came_from r c m) → k ≡ m
one_row_one_byte r c from n k m most ink inm hk hm same =
    let x = place_at c r k (rw (mul_comm c r) hk) in
    let y = place_at c r m (rw (mul_comm c r) hm) in
    let row : x.inside ≡ y.inside = sym (row_came_from r c x) ∙ same ∙ row_came_from r c y in
    let there : m ≡ y.piece * r + x.inside = y.at ∙ ap (λ (i : ℕ). y.piece * r + i) (sym row) in
    let column : x.piece ≡ y.piece = one_row_one_column r from n x.inside x.piece y.piece most x.at there ink inm in
    x.at ∙ ap (λ (j : ℕ). j * r + x.inside) column ∙ sym there

-- ---- a lost run ----

-- a byte that is not as it was stands in the run
differs_in_run : (from n : ℕ) (stored found : List ℕ) → Lost from n stored found
    → (k : ℕ) → (get_or found k 0 ≡ get_or stored k 0 → ⊥) → InRun from n k
differs_in_run from n stored found lost k differs =
    by_order k from
    (λ h. absurd (differs (lost.1 k (λ q. omega (arith, h, q)))))
    (λ h. by_order k (from + n) (λ g. (h, omega arith)) (λ g. absurd (differs (lost.1 k (λ q. omega (arith, g, q))))))

no_such_row : (r c : ℕ) (s : List ℕ) (i j : ℕ) → r ≤ i → byte_in r c s i j ≡ 0
no_such_row r c s i j h = ap (λ (p : List ℕ). get_or p j 0) (get_or-eq_default (pieces r c s) [] (omega (arith, length-pieces r c s)))

no_such_column : (r c : ℕ) (s : List ℕ) (i j : ℕ) → i < r → c ≤ j → byte_in r c s i j ≡ 0
no_such_column r c s i j hi hj =
    ap (λ (p : List ℕ). get_or p j 0) (piece_at r c s i hi)
    ∙ get_or-eq_default (take c (drop (i * c) s)) 0 (omega (arith, length-take c (drop (i * c) s)))

-- a byte that differs is in the block
in_shape : (r c : ℕ) (s t : List ℕ) (i j : ℕ) → (byte_in r c s i j ≡ byte_in r c t i j → ⊥) → (i < r) × (j < c)
in_shape r c s t i j differs =
    by_order i r
    (λ hi. by_order j c (λ hj. (hi, hj)) (λ hj. absurd (differs (no_such_column r c s i j hi hj ∙ sym (no_such_column r c t i j hi hj)))))
    (λ hi. absurd (differs (no_such_row r c s i j hi ∙ sym (no_such_row r c t i j hi))))

-- a byte that is found as it was stored is restored
found_restored : (r c : ℕ) (s found : List ℕ) (i j : ℕ) → i < r → j < c → get_or found (j * r + i) 0 ≡ get_or (scattered r c s) (j * r + i) 0
    → byte_in r c s i j ≡ byte_in r c (gathered r c found) i j
found_restored r c s found i j hi hj e =
    byte_of_piece r c s i j hi hj
    ∙ sym (stored_byte r c s i j hi hj refl refl)
    ∙ sym e
    ∙ sym (stored_byte c r found j i hj hi refl refl)
    ∙ ap (λ (t : List ℕ). get_or t (i * c + j) 0) (gathered_exchanged found refl refl)
    ∙ sym (byte_of_piece r c (gathered r c found) i j hi hj)

-- a lost run of n stored bytes, at most r, touches each row at most once
pub lost_run_once_a_row : (r c from n : ℕ) (s found : List ℕ) → n ≤ r → Lost from n (scattered r c s) found
    → (i : ℕ) → AtMostOnce r c s (gathered r c found) i
lost_run_once_a_row r c from n s found most lost i j l dj dl =
    let a = in_shape r c s (gathered r c found) i j dj in
    let b = in_shape r c s (gathered r c found) i l dl in
    one_row_one_column r from n i j l most refl refl
    (differs_in_run from n (scattered r c s) found lost (j * r + i) (λ e. dj (found_restored r c s found i j a.0 a.1 e)))
    (differs_in_run from n (scattered r c s) found lost (l * r + i) (λ e. dl (found_restored r c s found i l b.0 b.1 e)))
