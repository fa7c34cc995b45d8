-- A block of r rows and c columns: bytes written into it by rows and read by columns, and the way back.
use Rattle.std.specs.Prelude.{ℕ, zero, suc, List, [], ◌∷◌, ◌++◌, map, get_or, take, drop}

-- bytes cut into so many pieces of so many bytes each, one behind the other
unfoldable pub pieces : ℕ → ℕ → List ℕ → List (List ℕ)
pieces zero size s = []
pieces (suc count) size s = take size s ∷ pieces count size (drop size s)

-- the byte at place k of each piece
abbrev pub across : ℕ → List (List ℕ) → List ℕ
across k block = map (λ piece. get_or piece k 0) block

-- the bytes at place k of each piece, then those at the next place, and so on, for so many places
unfoldable pub crossings : ℕ → ℕ → List (List ℕ) → List ℕ
crossings zero k block = []
crossings (suc count) k block = across k block ++ crossings count (suc k) block

-- ---- by rows: r pieces of c bytes, which the columns cross ----

abbrev pub written_by_rows : ℕ → ℕ → List ℕ → List (List ℕ)
written_by_rows r c s = pieces r c s

abbrev pub read_by_columns : ℕ → List (List ℕ) → List ℕ
read_by_columns c rows = crossings c 0 rows

-- ---- by columns: c pieces of r bytes, which the rows cross ----

abbrev pub written_by_columns : ℕ → ℕ → List ℕ → List (List ℕ)
written_by_columns r c s = pieces c r s

abbrev pub read_by_rows : ℕ → List (List ℕ) → List ℕ
read_by_rows r columns = crossings r 0 columns

-- ---- before storage, and after it ----

unfoldable pub scattered : ℕ → ℕ → List ℕ → List ℕ
scattered r c s = read_by_columns c (written_by_rows r c s)

unfoldable pub gathered : ℕ → ℕ → List ℕ → List ℕ
gathered r c s = read_by_rows r (written_by_columns r c s)
