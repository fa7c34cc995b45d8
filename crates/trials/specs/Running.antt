-- What the inner functions of a simulation ask of and tell each other.
use Rattle.std.specs.Prelude.{◌≡◌, ℕ, ◌+◌, ◌*◌, ◌^◌, ◌≤◌, ◌<◌, List, [], get_or}
use Rattle.base.specs.Outcome.{pick}
use Rattle.poly.specs.Fit.{Fit}
use Rattle.packet.specs.declared.Crc.{Crc}
use Rattle.checksum.specs.declared.Check.{Check}
use Rattle.verdicts.specs.Verdicts.{Said, intact, repaired, several, nothing}
use Rattle.patterns.specs.Patterns.{most_positions}
use Rattle.placing.specs.declared.Powers.{Powers}
use Rattle.cursor.specs.Cursors.{ServedBy}
use Rattle.verdicts.specs.declared.Settings.{Settings}
use Rattle.trials.specs.Trials.{same, Tried}
use Rattle.trials.specs.declared.Column.{Column}
use Rattle.trials.specs.declared.Column.TheVariants.{Intact, Restored, FalseRepair, Several, None}

-- what packets of so many bytes are made and repaired by, once all conditions are past
pub record Usable (c : Crc) (k : Check) (len : ℕ) : Type 0 where
  pub fit : Fit c.generator
  pub init : c.init < 2 ^ c.generator.degree
  pub xorout : c.xorout < 2 ^ c.generator.degree
  pub long : c.generator.degree ≤ 8 * len
  pub short : len ≤ 512
  pub after : k.from ≤ k.field
  pub within : k.field + 2 ≤ k.to
  pub inside : k.to ≤ len

-- what trials of packets of so many bytes ask, with an output of so many: the conditions are past, and the powers serve
pub record Runnable (s : Settings) (powers : Powers) (len room : ℕ) : Type 0 where
  pub usable : Usable s.crc s.check len
  pub few : s.limit ≤ most_positions
  pub served : ServedBy s.crc.generator (8 * len) powers
  pub as_long : room ≡ len

-- the place of a column in a row
abbrev pub place : Column → ℕ
place Intact = 0
place Restored = 1
place FalseRepair = 2
place Several = 3
place None = 4

-- the column of a verdict, by the pattern that it names and the positions that were flipped
abbrev pub column_by : Said → List ℕ → ℕ
column_by intact ps = 0
column_by (repaired p) ps = pick (same p ps) 1 2
column_by (several n p) ps = 3
column_by nothing ps = 4

-- where trials stand
abbrev pub tried : ℕ → List ℕ → List ℕ → List (List ℕ) → Tried
tried state packet output counts = record { state = state; packet = packet; output = output; counts = counts }

-- no count is above m
abbrev pub Within : List (List ℕ) → ℕ → Type 0
Within counts m = (row col : ℕ) → get_or (get_or counts row []) col 0 ≤ m
