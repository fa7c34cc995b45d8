-- What the function that takes a remainder asks for.
use Rattle.std.specs.Prelude.{ℕ, ◌^◌, ◌≤◌, ◌<◌, List}
use Rattle.poly.specs.Fit.{Fit}
use Rattle.packet.specs.Packet.{bits}
use Rattle.packet.specs.declared.Crc.{Crc}

-- an accepted CRC, and a packet that has its first n bits
pub record Readable (c : Crc) (s : List ℕ) : Type 0 where
  pub fit : Fit c.generator
  pub init : c.init < 2 ^ c.generator.degree
  pub xorout : c.xorout < 2 ^ c.generator.degree
  pub long : c.generator.degree ≤ bits s
