-- A simulation: packets are made, bits of them flip, and what a repair says of each is counted.
use Rattle.std.specs.Prelude.{ℕ, zero, suc, ◌*◌, Bool, true, false, ◌&&◌, List, [], ◌∷◌, ◌++◌, eqb, length, get_or, set, replicate}
use Rattle.base.specs.Outcome.{pick}
use Rattle.packet.specs.Packet.{flips}
use Rattle.packet.specs.declared.Crc.{Crc}
use Rattle.checksum.specs.declared.Check.{Check}
use Rattle.maker.specs.Stream.{state_after}
use Rattle.maker.specs.Calls.{made}
use Rattle.channel.specs.Channel.{drawn}
use Rattle.verdicts.specs.Verdicts.{Said, intact, repaired, several, nothing, verdict, output_for}

-- from no flip to this many: a row of counts for each number
abbrev pub most_flips : ℕ
most_flips = 8

-- are two lists of numbers the same?
unfoldable pub same : List ℕ → List ℕ → Bool
same [] [] = true
same [] (b ∷ t) = false
same (a ∷ s) [] = false
same (a ∷ s) (b ∷ t) = eqb a b && same s t

-- the column that a verdict is counted in, of a packet s that is received and the packet t that was made: intact, repaired to the packet
-- made, repaired otherwise, several, none
abbrev pub column : Said → List ℕ → List ℕ → ℕ
column intact s t = 0
column (repaired p) s t = pick (same (flips s p) t) 1 2
column (several n p) s t = 3
column nothing s t = 4

-- nine rows of five counts, before any trial
abbrev pub no_counts : List (List ℕ)
no_counts = replicate (suc most_flips) (replicate 5 0)

-- one count more, in a row and a column
unfoldable pub counted : ℕ → ℕ → List (List ℕ) → List (List ℕ)
counted row col counts = set counts row (set (get_or counts row []) col (suc (get_or (get_or counts row []) col 0)))

-- the counts of all rows, one row behind the other: row f is the five from 5 f on
abbrev pub joined_rows : List (List ℕ) → List ℕ
joined_rows [] = []
joined_rows (row ∷ rows) = row ++ joined_rows rows

-- how many they are
abbrev pub counts_length : ℕ
counts_length = suc most_flips * 5

-- what the trials so far have come to
pub record Tried : Type 0 where
  pub state : ℕ
  pub packet : List ℕ
  pub output : List ℕ
  pub counts : List (List ℕ)

-- what is received of the packet of so many bytes that is made from a state, after so many flips
unfoldable pub received : Crc → Check → ℕ → ℕ → ℕ → List ℕ
received c k len f x = flips (made c x k len) (drawn (8 * len) f (state_after len x))

-- trials by one CRC, range, field and limit
module _ (c : Crc) (k : Check) (limit : ℕ) where
  -- one trial with f flips: the state runs on over the bytes made and the draws
  unfoldable pub trial : ℕ → Tried → Tried
  trial f t =
      let len = length t.packet in
      let s = received c k len f t.state in
      record {
        state = state_after f (state_after len t.state);
        packet = s;
        output = output_for c k limit s t.output;
        counts = counted f (column (verdict c k limit s) s (made c t.state k len)) t.counts;
      }

  -- so many of them
  unfoldable pub trials : ℕ → ℕ → Tried → Tried
  trials f zero t = t
  trials f (suc n) t = trials f n (trial f t)

  -- so many with each number of flips: of so many numbers, from f on
  unfoldable pub rows_of : ℕ → ℕ → ℕ → Tried → Tried
  rows_of n zero f t = t
  rows_of n (suc rows) f t = rows_of n rows (suc f) (trials f n t)

  -- the whole simulation, n trials with each number of flips
  unfoldable pub simulated : ℕ → ℕ → List ℕ → List ℕ → Tried
  simulated n seed packet output =
      rows_of n (suc most_flips) 0 (record { state = seed; packet = packet; output = output; counts = no_counts })
