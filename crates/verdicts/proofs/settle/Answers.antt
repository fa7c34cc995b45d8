-- `settle` says intact where both checks pass, and else goes by the tally of the candidates.
use mathlib.Core.Path.{◌≡◌, ◌∙◌}
use mathlib.Core.Bool.{Bool, ◌&&◌}
use mathlib.Core.List.{List}
use Prim.Native.Nat.{ℕ, ◌^◌, ◌<◌}
use native.Mathlib.Omega.{arith}
use lib.Dec.{eqb}
use Rattle.packet.specs.Packet.{remainder}
use Rattle.packet.specs.declared.Crc.{Crc}
use Rattle.packet.proofs.RemainderLaws.{remainder_lt}
use Rattle.checksum.specs.Checksum.{passes}
use Rattle.checksum.specs.declared.Check.{Check}
use Rattle.weighing.proofs.WeighedLaws.{weighed_weighs}
use Rattle.cursor.proofs.LookupLaws.{as_long, prepared}
use Rattle.verdicts.specs.Verdicts.{passes_both, candidates}
use Rattle.verdicts.proofs.settle.Goals as goal

-- what decides whether both checks pass is the two checks
decided : (crc : Crc) (check : Check) (s : List ℕ) {r : ℕ} {b : Bool} → b ≡ (eqb r 0 && passes check s) → r ≡ remainder crc s → b ≡ passes_both crc check s
unfolding passes_both
decided crc check s h e = h ∙ rw e

pub both_pass-requires : goal.both_pass-requires
both_pass-requires c =
    let a = c.args in
    let p = c.requires.0 in
    weighed_weighs a.settings.check a.packet c.weigh-weighed.ensures p.bytewise p.short p.inside p.field_inside

pub returns-then-both_pass : goal.returns-then-both_pass
returns-then-both_pass c =
    let s = c.args.settings in
    rw (← decided s.crc s.check c.args.packet.now (rw c.weigh-weighed.ensures at c.both_pass.ensures) c.remainder_of-syndrome.ensures, c.if-both_pass.true)

pub tally_all-requires : goal.tally_all-requires
tally_all-requires c =
    let a = c.args in
    let f = c.requires.0 in
    let within : c.remainder_of-syndrome.result < 2 ^ a.settings.crc.generator.degree =
    omega (arith, c.remainder_of-syndrome.ensures, remainder_lt a.settings.crc f.readable.fit.divisor a.packet.now) in (
      record {
        prepared = prepared a.powers c.requires.1 c.remainder_of-syndrome.result within;
        weighs = weighed_weighs a.settings.check a.packet c.weigh-weighed.ensures f.bytewise f.short f.inside f.field_inside;
        long = rw c.weigh-weighed.ensures (as_long c.requires.1);
      },
      f.few,
    )

pub returns : goal.returns
unfolding candidates
returns c =
    let s = c.args.settings in
    let p = c.args.packet.now in
    rw (← decided s.crc s.check p (rw c.weigh-weighed.ensures at c.both_pass.ensures) c.remainder_of-syndrome.ensures, c.if-both_pass.false)
    (c.from.ensures (candidates s.crc s.check s.limit p) (rw (as_long c.requires.1, c.weigh-weighed.ensures, c.remainder_of-syndrome.ensures) at c.tally_all.ensures))
