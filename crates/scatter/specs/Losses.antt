-- Where a stored byte came from, and what a run of lost bytes does to the rows.
use Rattle.std.specs.Prelude.{ℕ, zero, suc, ◌+◌, ◌*◌, ◌/◌, ◌≤◌, ◌<◌, ◌≡◌, List, [], ◌∷◌, length, get_or}
use Rattle.scatter.specs.Blocks.{written_by_rows, scattered}

-- so many places, from k on
unfoldable pub places : ℕ → ℕ → List ℕ
places zero k = []
places (suc count) k = k ∷ places count (suc k)

-- the place that stored byte k came from: scattered in the bytes' stead, the places tell it
unfoldable pub came_from : ℕ → ℕ → ℕ → ℕ
came_from r c k = get_or (scattered r c (places (r * c) 0)) k 0

-- the row in which a place is, where rows have c bytes
abbrev pub row_of : ℕ → ℕ → ℕ
row_of c p = p / c

-- byte k is in the run of n adjacent bytes that begins at `from`
abbrev pub InRun : ℕ → ℕ → ℕ → Type 0
InRun from n k = (from ≤ k) × (k < from + n)

-- a run of stored bytes is lost: as many bytes are found, whatever they are, and the others are as they were
abbrev pub Lost : ℕ → ℕ → List ℕ → List ℕ → Type 0
Lost from n stored found = (length found ≡ length stored) × ((k : ℕ) → (InRun from n k → ⊥) → get_or found k 0 ≡ get_or stored k 0)

-- of bytes written by rows, the one in row i and column j
abbrev pub byte_in : ℕ → ℕ → List ℕ → ℕ → ℕ → ℕ
byte_in r c s i j = get_or (get_or (written_by_rows r c s) i []) j 0

-- row i of s and row i of t differ in at most one byte: two columns in which they do are one
abbrev pub AtMostOnce : ℕ → ℕ → List ℕ → List ℕ → ℕ → Type 0
AtMostOnce r c s t i =
    (j k : ℕ) → (byte_in r c s i j ≡ byte_in r c t i j → ⊥) → (byte_in r c s i k ≡ byte_in r c t i k → ⊥) → j ≡ k
