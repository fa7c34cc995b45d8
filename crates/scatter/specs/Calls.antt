-- The calls scatter and gather: what they answer, and what the output then holds.
use Rattle.std.specs.Prelude.{ℕ, ◌*◌, Bool, not, ◌||◌, List, [], ◌∷◌, eqb, ltb, length}
use Rattle.base.specs.Outcome.{Outcome, refused, accepted, Condition, when, judge}
use Rattle.scatter.specs.Blocks.{scattered, gathered}

-- the most rows, and the most columns
abbrev pub most_side : ℕ
most_side = 64

-- a number of rows or of columns outside 1 to 64
unfoldable pub unfit_side : ℕ → Bool
unfit_side n = ltb n 1 || ltb most_side n

-- condition 12: that r is such a number, or c
unfoldable pub unfit_shape : ℕ → ℕ → Bool
unfit_shape r c = unfit_side r || unfit_side c

-- condition 13: an input or an output that is not of r times c bytes
unfoldable pub unfit_lengths : ℕ → ℕ → ℕ → ℕ → Bool
unfit_lengths r c input output = not (eqb input (r * c)) || not (eqb output (r * c))

-- both calls are refused by 12 and 13
abbrev pub block_conditions : ℕ → ℕ → ℕ → ℕ → List Condition
block_conditions r c input output =
    when 12 (unfit_shape r c)
    ∷ when 13 (unfit_lengths r c input output)
    ∷ []

-- what either call answers, of an input s and an output o
abbrev pub block_call : ℕ → ℕ → List ℕ → List ℕ → Outcome (Unit {0})
block_call r c s o = judge (block_conditions r c (length s) (length o)) refused (accepted tt)

-- the output after a call: as it was, or the bytes that an accepted call puts there
abbrev pub block_output : ℕ → ℕ → List ℕ → List ℕ → List ℕ → List ℕ
block_output r c s o put = judge (block_conditions r c (length s) (length o)) (λ _. o) put

abbrev pub scatter_output : ℕ → ℕ → List ℕ → List ℕ → List ℕ
scatter_output r c s o = block_output r c s o (scattered r c s)

abbrev pub gather_output : ℕ → ℕ → List ℕ → List ℕ → List ℕ
gather_output r c s o = block_output r c s o (gathered r c s)
