-- What the listing program prints for its input.
use Rattle.std.specs.Prelude.{ℕ, Bool, ◌||◌, List, [], ◌∷◌, ◌++◌, ltb, length}
use Rattle.base.specs.Outcome.{Condition, when, judge}
use Rattle.poly.specs.Polynomial.{degree}
use Rattle.poly.specs.Generators.{unfit}
use Rattle.packet.specs.Packet.{unfit_length}
use Rattle.patterns.specs.Listing.{listing, unfit_limit, unfit_syndrome}
use Rattle.lines.specs.Text.{text_of, end_line, refused_line, bad_line}
use Rattle.parsing.specs.Input.{IsLine}

-- the greatest degree that the program lists
abbrev pub greatest_listed : ℕ
greatest_listed = 14

-- condition 1 of the program: unfit, or of a greater degree
unfoldable pub unfit_listed : ℕ → Bool
unfit_listed g = unfit g || ltb greatest_listed (degree g)

-- the four numbers of a line are refused by 1 to 4
abbrev pub list_conditions : ℕ → ℕ → ℕ → ℕ → List Condition
list_conditions generator bits limit syndrome =
    when 1 (unfit_listed generator)
    ∷ when 2 (unfit_length (degree generator) bits)
    ∷ when 3 (unfit_limit limit)
    ∷ when 4 (unfit_syndrome (degree generator) syndrome)
    ∷ []

-- the list that they name
abbrev pub list_for : ℕ → ℕ → ℕ → ℕ → List (List ℕ)
list_for generator bits limit syndrome = listing (degree generator) generator bits limit syndrome

-- a line for each pattern of a list, and "end" with their number
abbrev pub list_text : List (List ℕ) → List ℕ
list_text xs = text_of xs ++ end_line (length xs)

-- what is printed for four numbers: "refused" with the number of a condition, or the whole list
abbrev pub printed_for : ℕ → ℕ → ℕ → ℕ → List ℕ
printed_for generator bits limit syndrome =
    judge (list_conditions generator bits limit syndrome) refused_line (list_text (list_for generator bits limit syndrome))

-- and for an input: what its four numbers come to where it is a line of four, and "bad line" where it is not
pub data Prints (input : List ℕ) : List ℕ → Type 0 where
  for_line : (generator bits limit syndrome : ℕ) → IsLine (generator ∷ bits ∷ limit ∷ syndrome ∷ []) input
      → Prints input (printed_for generator bits limit syndrome)
  for_other : ((generator bits limit syndrome : ℕ) → IsLine (generator ∷ bits ∷ limit ∷ syndrome ∷ []) input → ⊥) → Prints input bad_line
