-- `decimal_at` writes the number without its last digit by itself, and that digit behind it.
use mathlib.Core.Path.{ap, ◌∙◌}
use lib.ListN.{set}
use Rattle.lines.proofs.StoreLaws.{length_small, store_small, length-step, store_step}
use native.Mathlib.Omega.{arith}
use mathlib.Core.List.{List}
use Prim.Native.Nat.{ℕ, ◌+◌, ◌%◌}
use Rattle.lines.proofs.+decimal_at.Goals as goal

pub bounds-out-to : goal.bounds-out-to
bounds-out-to t c =
    let a = c.args in
    omega (arith, length_small a.v a.out.now a.to c.if-v-lt10.true)

pub returns-then-v-lt10 : goal.returns-then-v-lt10
returns-then-v-lt10 t c =
    let a = c.args in
    record {
      place = omega (arith, length_small a.v a.out.now a.to c.if-v-lt10.true);
      bytes = store_small a.v a.out.now a.to c.if-v-lt10.true;
    }

pub decimal_at-last-requires : goal.decimal_at-last-requires
decimal_at-last-requires t c =
    let a = c.args in
    (omega arith, omega (arith, length-step a.v a.out.now a.to c.if-v-lt10.false))

pub bounds-out-last : goal.bounds-out-last
bounds-out-last t c =
    let a = c.args in
    omega (arith, length-step a.v a.out.now a.to c.if-v-lt10.false, c.decimal_at-last.ensures.place)

pub overflow_add-result-2 : goal.overflow_add-result-2
overflow_add-result-2 t c =
    let a = c.args in
    record { fits = omega (arith, length-step a.v a.out.now a.to c.if-v-lt10.false, c.decimal_at-last.ensures.place) }

pub returns : goal.returns
returns t c =
    let d = c.decimal_at-last in
    let a = c.args in
    let h = c.if-v-lt10.false in
    record {
      place = omega (arith, length-step a.v a.out.now a.to h, d.ensures.place);
      bytes =
          ap (λ (l : List ℕ). set l d.result (48 + a.v % 10)) d.ensures.bytes
          ∙ store_step a.v a.out.now a.to d.result h d.ensures.place;
    }
