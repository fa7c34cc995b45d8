-- What the inner functions of a verdict ask.
use Rattle.std.specs.Prelude.{◌≢◌, List, ℕ, ◌+◌, ◌≤◌, length}
use Rattle.packet.specs.Packet.{Bytes}
use Rattle.packet.specs.Reading.{Readable}
use Rattle.packet.specs.declared.Crc.{Crc}
use Rattle.checksum.specs.declared.Check.{Check}
use Rattle.patterns.specs.Patterns.{most_positions}

-- a packet whose conditions are all past
pub record Settleable (c : Crc) (k : Check) (limit : ℕ) (packet : List ℕ) : Type 0 where
  pub readable : Readable c packet
  pub bytewise : Bytes packet
  pub short : length packet ≤ 512
  pub few : limit ≤ most_positions
  pub ordered : k.from ≤ k.to
  pub inside : k.to ≤ length packet
  pub field_inside : k.from ≢ k.to → k.field + 2 ≤ k.to
