-- `number` reads one number as `read` does. Invariant: reading on from here, with the value so far and the digits still
-- allowed, is reading from the start; the value has as many digits as were read.
use Rattle.std.proofs.Common.{◌≡◌, ◌+◌, ◌-◌, ◌^◌, ◌<◌, ◌≤◌, drop}
use Rattle.parsing.specs.Parsing.{read_from, read}
use Rattle.parsing.proofs.number.Given as goal

abbrev pub invariant-loop-i : goal.invariant-loop-i
invariant-loop-i l =
    (l.i ≤ 8) × (l.value < 10 ^ (l.i + 1)) × (read_from l.close (8 - l.i) l.value (drop l.i l.rest) ≡ read l.close l.input)
