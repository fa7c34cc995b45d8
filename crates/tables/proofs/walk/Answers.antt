-- `walk` stores each power's position at its remainder, and stops at the period. The invariant: t is what x^p leaves, p is below
-- the period, and the list holds the positions of the powers before p. The measure is what is left of the period.
use mathlib.Core.Path.{◌≡◌, refl, sym, ◌∙◌}
use Prim.Native.Nat.{◌+◌, ◌^◌, ◌<◌}
use native.Mathlib.Omega.{arith}
use lib.ListN.{length, set, length-set}
use Rattle.tables.specs.Tables.{power}
use Rattle.poly.proofs.GeneratorLaws.{fit_small}
use Rattle.tables.proofs.PowerLaws.{power_lt, power_zero}
use Rattle.tables.proofs.PeriodLaws.{period_positive, period_lt}
use Rattle.tables.proofs.WalkLaws.{Walked, walked_none, walked_more, walked_all, power_next, returned, not_returned}
use Rattle.tables.proofs.walk.Goals as goal

pub loop-t-init : goal.loop-t-init
loop-t-init c =
    let n = c.args.g.degree in
    let g = c.args.g.coefficients in
    let lent = c.requires.0 in
    let one = (fit_small c.args.g lent.fit).positive in (
      period_positive n g lent.fit.divisor one,
      sym (power_zero n g lent.fit.divisor one),
      refl,
      walked_none n g c.args.firsts.now c.requires.1,
    )

-- the position and the remainder are in range
record Ranges (c : goal.At-loop-t) : Type 0 where
  position : c.loop-t.p < 65535
  remainder : c.loop-t.t < 2 ^ c.args.g.degree

ranges : (c : goal.At-loop-t) → Ranges c
ranges c =
    let n = c.args.g.degree in
    let g = c.args.g.coefficients in
    let lent = c.requires.0 in
    let small = fit_small c.args.g lent.fit in
    record {
      position = omega (arith, period_lt n g lent.fit.divisor small.positive, lent.full);
      remainder = omega (arith, power_lt n g lent.fit.divisor c.loop-t.p);
    }

pub overflow_cast-firsts : goal.overflow_cast-firsts
overflow_cast-firsts c = omega (arith, ranges c)

pub offset_bounds-firsts-t : goal.offset_bounds-firsts-t
offset_bounds-firsts-t c =
    let e = c in
    omega (arith, ranges c, fit_small e.args.g e.requires.0.fit, e.requires.0.full)

pub bounds-firsts-t : goal.bounds-firsts-t
bounds-firsts-t c = omega (arith, ranges c, c.requires.0.full)

pub times_x-t-requires : goal.times_x-t-requires
times_x-t-requires c =
    let e = c in
    (e.requires.0.fit, (ranges c).remainder)

pub overflow_add-p : goal.overflow_add-p
overflow_add-p c = omega (arith, ranges c.before)

-- one turn: the next power, its position, and the list with the last one stored
record Turned (c : goal.After-times_x-t) : Type 0 where
  power-of : c.times_x-t.result ≡ power c.args.g.degree c.args.g.coefficients (c.loop-t.p + 1)
  size : length (set c.loop-t.firsts c.loop-t.t c.loop-t.p) ≡ length c.args.firsts.now
  walked : Walked c.args.g.degree c.args.g.coefficients (c.loop-t.p + 1)
      (set c.loop-t.firsts c.loop-t.t c.loop-t.p)

turned : (c : goal.After-times_x-t) → Turned c
turned c =
    let e = c in
    let n = e.args.g.degree in
    let g = e.args.g.coefficients in
    let lent = e.requires.0 in
    let one = (fit_small e.args.g lent.fit).positive in
    let p = c.loop-t.p in
    let l = c.loop-t.firsts in
    let inv = c.loop-t.invariant in
    record {
      power-of = c.times_x-t.ensures ∙ power_next n g lent.fit.divisor one c.loop-t.t p inv.1;
      size = length-set l c.loop-t.t p ∙ inv.2;
      walked = rw inv.1 (walked_more n g lent.fit.divisor one p l inv.0 (inv.2 ∙ lent.full) inv.3);
    }

pub loop-t-preserved : goal.loop-t-preserved
loop-t-preserved c =
    let e = c in
    let n = e.args.g.degree in
    let g = e.args.g.coefficients in
    let one = (fit_small e.args.g e.requires.0.fit).positive in
    let t = turned c.before in (
      not_returned n g e.requires.0.fit.divisor one c.loop-t.p c.loop-t.invariant.0 (λ h. omega (arith, h, t.power-of)),
      t.power-of,
      t.size,
      t.walked,
    )

pub returns : goal.returns
returns c =
    let e = c in
    let n = e.args.g.degree in
    let g = e.args.g.coefficients in
    let lent = e.requires.0 in
    let one = (fit_small e.args.g lent.fit).positive in
    let t = turned c.before in
    let end = returned n g lent.fit.divisor one c.loop-t.p c.loop-t.invariant.0 (omega (arith, t.power-of)) in
    record { value = end; firsts_after = walked_all n g lent.fit.divisor one lent.fit.most _ (t.size ∙ lent.full) (rw end at t.walked) }
