-- What one page holds of the patterns that follow its mark, and what a page call answers and leaves.
use Rattle.std.specs.Prelude.{ℕ, ◌-◌, List, [], ◌∷◌, ◌++◌, eqb, leb, length, drop}
use Rattle.base.specs.Outcome.{Outcome, refused, accepted, Condition, judge, pick}
use Rattle.patterns.specs.Patterns.{Point, ended, after}
use Rattle.records.specs.Records.{record_of, records}

-- the first patterns whose records fit whole into so many bytes, up to the first that does not
unfoldable pub fitting : ℕ → List (List ℕ) → List (List ℕ)
fitting room [] = []
fitting room (p ∷ ps) =
    pick (leb (length (record_of p)) room) (p ∷ fitting (room - length (record_of p)) ps) []

-- the last of a list of patterns, and p where it is empty
unfoldable pub last_of : List ℕ → List (List ℕ) → List ℕ
last_of p [] = p
last_of p (q ∷ qs) = last_of q qs

-- the next mark: ended where all that follow are written, and after the last one written where more are left
unfoldable pub next_point : List (List ℕ) → List (List ℕ) → Point
next_point rest written = pick (eqb (length written) (length rest)) ended (after (last_of [] written))

-- what an accepted page call returns
pub record Page : Type 0 where
  pub used : ℕ
  pub written : ℕ
  pub next : Point

-- the page over the patterns that follow the mark, for an output of so many bytes
abbrev pub page_of : List (List ℕ) → ℕ → Page
page_of rest room =
    record {
      used = length (records (fitting room rest));
      written = length (fitting room rest);
      next = next_point rest (fitting room rest);
    }

-- the output after it: the records, and beyond them what was there
abbrev pub page_bytes : List (List ℕ) → List ℕ → List ℕ
page_bytes rest out =
    records (fitting (length out) rest) ++ drop (length (records (fitting (length out) rest))) out

-- what a page call answers, by its conditions, the patterns that follow its mark and its output
abbrev pub paged_by : List Condition → List (List ℕ) → List ℕ → Outcome Page
paged_by ts rest out = judge ts refused (accepted (page_of rest (length out)))

-- its output as it stands when the call returns
abbrev pub left_by : List Condition → List (List ℕ) → List ℕ → List ℕ
left_by ts rest out = judge ts (λ number. out) (page_bytes rest out)
