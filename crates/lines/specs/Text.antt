-- Lines of output: a line for each pattern and a closing line, or the line of a refusal or of a bad line.
use Rattle.std.specs.Prelude.{ℕ, List, [], ◌∷◌, ◌++◌, length}
use Rattle.lines.specs.Decimal.{decimal}

-- numbers with a blank before each
unfoldable pub spaced : List ℕ → List ℕ
spaced [] = []
spaced (p ∷ ps) = 32 ∷ decimal p ++ spaced ps

-- the line of a pattern: its count, then its positions
unfoldable pub line_of : List ℕ → List ℕ
line_of ps = decimal (length ps) ++ (spaced ps ++ (10 ∷ []))

-- the lines of several patterns
unfoldable pub text_of : List (List ℕ) → List ℕ
text_of [] = []
text_of (p ∷ ps) = line_of p ++ text_of ps

-- "end K": the line that closes a list of k patterns
unfoldable pub end_line : ℕ → List ℕ
end_line k = 101 ∷ 110 ∷ 100 ∷ 32 ∷ decimal k ++ (10 ∷ [])

-- "refused K": the line of the condition with number k
unfoldable pub refused_line : ℕ → List ℕ
refused_line k = 114 ∷ 101 ∷ 102 ∷ 117 ∷ 115 ∷ 101 ∷ 100 ∷ 32 ∷ decimal k ++ (10 ∷ [])

-- "bad line": for any other input
unfoldable pub bad_line : List ℕ
bad_line = 98 ∷ 97 ∷ 100 ∷ 32 ∷ 108 ∷ 105 ∷ 110 ∷ 101 ∷ 10 ∷ []
