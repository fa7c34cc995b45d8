-- Blocks: stored byte j * r + i is input byte i * c + j; and scattered once more, with rows and columns exchanged, bytes are as they were.
use mathlib.Core.Path.{◌≡◌, refl, sym, ap, ap₂, ◌∙◌}
use mathlib.Core.List.{List, [], ◌++◌}
use Prim.Native.Nat.{ℕ, zero, suc, ◌+◌, ◌*◌, ◌/◌, ◌%◌, ◌<◌}
use native.Mathlib.Nat.{zero-mul, mul-zero, suc-mul, mul_comm, mul-le-mul_right, mod-lt, div-add-mod', div-lt_iff_lt-mul}
use native.Mathlib.Omega.{arith}
use lib.ListN.{length, get_or, take, drop, length-append, length-map, get_or-append, get_or-map}
use lib.Seq.{get_or-take, get_or-drop, drop-drop, get_or-append-add, ext_get_or}
use Rattle.base.proofs.Cases.{by_order}
use Rattle.scatter.specs.Blocks.{pieces, across, crossings, scattered}

-- ---- pieces ----

pub length-pieces : (count size : ℕ) (s : List ℕ) → length (pieces count size s) ≡ count
unfolding pieces
length-pieces zero size s = refl
length-pieces (suc count) size s = ap suc (length-pieces count size (drop size s))

pub piece_at : (count size : ℕ) (s : List ℕ) (i : ℕ) → i < count → get_or (pieces count size s) i [] ≡ take size (drop (i * size) s)
unfolding pieces
piece_at zero size s i h = absurd (omega arith)
piece_at (suc count) size s zero h = ap (λ (k : ℕ). take size (drop k s)) (sym (zero-mul size))
piece_at (suc count) size s (suc i) h =
    let next : size + i * size ≡ suc i * size = omega (arith, suc-mul i size) in
    piece_at count size (drop size s) i (omega arith) ∙ ap (take size) (drop-drop (i * size) size s ∙ ap (λ (k : ℕ). drop k s) next)

-- byte j of piece i
pub byte_of_piece : (count size : ℕ) (s : List ℕ) (i j : ℕ) → i < count → j < size
    → get_or (get_or (pieces count size s) i []) j 0 ≡ get_or s (i * size + j) 0
byte_of_piece count size s i j hi hj =
    ap (λ (p : List ℕ). get_or p j 0) (piece_at count size s i hi)
    ∙ get_or-take size (drop (i * size) s) j 0 hj
    ∙ get_or-drop (i * size) s j 0

-- ---- what crosses them ----

length-across : (k : ℕ) (block : List (List ℕ)) → length (across k block) ≡ length block
length-across k block = length-map block (λ (p : List ℕ). get_or p k 0)

length-crossings : (count k : ℕ) (block : List (List ℕ)) → length (crossings count k block) ≡ count * length block
unfolding crossings
length-crossings zero k block = sym (zero-mul (length block))
length-crossings (suc count) k block =
    length-append (across k block) (crossings count (suc k) block)
    ∙ ap₂ (λ (x y : ℕ). x + y) (length-across k block) (length-crossings count (suc k) block)
    ∙ omega (arith, suc-mul count (length block))

crossings_at : (count k : ℕ) (block : List (List ℕ)) (j i : ℕ) → j < count → i < length block
    → get_or (crossings count k block) (j * length block + i) 0 ≡ get_or (get_or block i []) (k + j) 0
unfolding crossings
crossings_at zero k block j i hj hi = absurd (omega arith)
crossings_at (suc count) k block zero i hj hi =
    ap (λ (m : ℕ). get_or (across k block ++ crossings count (suc k) block) m 0) (omega (arith, zero-mul (length block)))
    ∙ get_or-append (across k block) (crossings count (suc k) block) 0 i (omega (arith, length-across k block))
    ∙ get_or-map (λ (p : List ℕ). get_or p k 0) block i []
    ∙ ap (λ (m : ℕ). get_or (get_or block i []) m 0) (omega arith)
crossings_at (suc count) k block (suc j) i hj hi =
    ap (λ (m : ℕ). get_or (across k block ++ crossings count (suc k) block) m 0)
    (omega (arith, suc-mul j (length block), length-across k block))
    ∙ get_or-append-add (across k block) (crossings count (suc k) block) (j * length block + i) 0
    ∙ crossings_at count (suc k) block j i (omega arith) hi
    ∙ ap (λ (m : ℕ). get_or (get_or block i []) m 0) (omega arith)

-- ---- the block ----

pub length-scattered : (r c : ℕ) (s : List ℕ) → length (scattered r c s) ≡ r * c
unfolding scattered
length-scattered r c s = length-crossings c 0 (pieces r c s) ∙ ap (λ (m : ℕ). c * m) (length-pieces r c s) ∙ mul_comm c r

-- stored byte j * r + i is input byte i * c + j
pub stored_byte : (r c : ℕ) (s : List ℕ) (i j : ℕ) {to from : ℕ} → i < r → j < c → to ≡ j * r + i → from ≡ i * c + j
    → get_or (scattered r c s) to 0 ≡ get_or s from 0
unfolding scattered
stored_byte r c s i j hi hj to from =
    let block : List (List ℕ) = pieces r c s in
    let long : length block ≡ r = length-pieces r c s in
    ap (λ (m : ℕ). get_or (crossings c 0 block) m 0) (to ∙ ap (λ (m : ℕ). j * m + i) (sym long))
    ∙ crossings_at c 0 block j i hj (omega (arith, long))
    ∙ ap (λ (m : ℕ). get_or (get_or block i []) m 0) (omega arith)
    ∙ byte_of_piece r c s i j hi hj
    ∙ ap (λ (m : ℕ). get_or s m 0) (sym from)

-- ---- places ----

pub in_block : {i j r c : ℕ} → i < r → j < c → i * c + j < r * c
in_block {i} {c = c} hi hj = omega (arith, mul-le-mul_right c hi, suc-mul i c)

-- a place among so many pieces of one size: in which piece it is, and where in that
pub record At (count size p : ℕ) : Type 0 where
  pub piece : ℕ
  pub inside : ℕ
  pub piece_fits : piece < count
  pub inside_fits : inside < size
  pub at : p ≡ piece * size + inside

pub place_at : (count size p : ℕ) → p < count * size → At count size p
place_at count size p h =
    by_order 0 size
    (λ some. record {
      piece = p / size;
      inside = p % size;
      piece_fits = (div-lt_iff_lt-mul some).1 h;
      inside_fits = mod-lt p some;
      at = sym (div-add-mod' p size);
    })
    (λ none. let z : size ≡ 0 = omega arith in absurd (omega (arith, h, ap (λ (m : ℕ). count * m) z, mul-zero count)))

-- ---- what was scattered is restored ----

pub scattered_back : (r c : ℕ) (s : List ℕ) → length s ≡ r * c → scattered c r (scattered r c s) ≡ s
scattered_back r c s full =
    let stored : List ℕ = scattered r c s in
    let long : length (scattered c r stored) ≡ r * c = length-scattered c r stored ∙ mul_comm c r in
    ext_get_or 0 (scattered c r stored) s (long ∙ sym full)
    (λ p h. let a = place_at r c p (rw long at h) in
    stored_byte c r stored a.inside a.piece a.inside_fits a.piece_fits a.at refl
    ∙ stored_byte r c s a.piece a.inside a.piece_fits a.inside_fits refl a.at)
