-- `append` looks up the high byte of r, which stands from x^16 on in r * x^8 + b, and adds what is below.
use mathlib.Core.Path.{ap}
use mathlib.Core.List.{List}
use Prim.Native.Nat.{ℕ}
use native.Mathlib.Omega.{arith}
use lib.ListN.{get_or}
use Rattle.ccitt.proofs.ByteLaws.{by_entry}
use Rattle.ccitt.proofs.append.Goals as goal

pub returns : goal.returns
returns c =
    let high = ap (λ (l : List ℕ). get_or l 0 0) c.to_be_bytes.ensures in
    let low = ap (λ (l : List ℕ). get_or l 1 0) c.to_be_bytes.ensures in
    by_entry c.args.r c.args.b c.ranges.r.fits c.ranges.b.fits c.byte_table.ensures (omega (arith, high)) (omega (arith, low, c.from_be_bytes.ensures))
