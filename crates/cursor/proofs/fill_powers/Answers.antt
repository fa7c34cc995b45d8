-- `fill_powers` fills a slice with the powers of x. Invariant: the entries below the index are right, and t is the power at it.
use Rattle.std.proofs.Common.{◌≡◌, ℕ, ◌^◌, ◌<◌, length, sym, ◌∙◌, arith}
use lib.Pow.{pow_mono}
use Rattle.poly.specs.Fit.{Divisor}
use Rattle.tables.specs.Tables.{power}
use Rattle.tables.proofs.PowerLaws.{power_lt, power_zero}
use Rattle.tables.proofs.TableLaws.{entries_more, values_by_entries}
use Rattle.tables.proofs.WalkLaws.{power_next}
use Rattle.cursor.proofs.fill_powers.Goals as goal

-- the power at hand is a remainder
small : (n g t i : ℕ) → Divisor n g → t ≡ power n g i → t < 2 ^ n
small n g t i d e = rw e (power_lt n g d i)

pub loop-power-init : goal.loop-power-init
loop-power-init c =
    let d = c.requires in
    record {
      next = sym (power_zero c.args.g.degree c.args.g.coefficients d.divisor (omega (arith, d.least)));
      right = λ k h. absurd (omega arith);
    }

pub overflow_cast-power : goal.overflow_cast-power
overflow_cast-power c =
    let l = c.loop-power in
    omega (arith, small c.args.g.degree c.args.g.coefficients l.t l.power-index c.requires.divisor l.invariant.next, pow_mono c.requires.most)

pub times_x-t-requires : goal.times_x-t-requires
times_x-t-requires c =
    let l = c.loop-power in
    (c.requires, small c.args.g.degree c.args.g.coefficients l.t l.power-index c.requires.divisor l.invariant.next)

pub loop-power-preserved : goal.loop-power-preserved
loop-power-preserved c =
    let l = c.loop-power in
    let n : ℕ = c.args.g.degree in
    let g : ℕ = c.args.g.coefficients in
    record {
      next = c.times_x-t.ensures ∙ power_next n g c.requires.divisor (omega (arith, c.requires.least)) l.t l.power-index l.invariant.next;
      right = entries_more (power n g) l.room l.power-index l.t (omega arith) l.invariant.right l.invariant.next;
    }

pub returns : goal.returns
returns c =
    let l = c.loop-power in
    values_by_entries (power c.args.g.degree c.args.g.coefficients) (length c.args.room.now) l.room (omega arith)
    (λ k h. l.invariant.right k (omega arith))
