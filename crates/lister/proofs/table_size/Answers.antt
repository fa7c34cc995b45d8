-- `table_size` shifts one by the degree.
use Rattle.std.proofs.Common.{◌≡◌, refl, sym, ap, ◌∙◌, ◌*◌, ◌%◌, ◌^◌, ◌<◌, ◌≤◌, arith}
use Rattle.std.proofs.Math.Nat.{pow-le-pow_right}
use Rattle.poly.specs.Polynomial.{degree}
use Rattle.poly.specs.declared.Generator.{Generator}
use Rattle.poly.proofs.GeneratorLaws.{made_fit, shift_one}
use Rattle.lister.proofs.TurnLaws.{listed_fit}
use Rattle.lister.proofs.table_size.Goals as goal

pub overflow_shl-result : goal.overflow_shl-result
overflow_shl-result c =
    let small : c.of.result.degree ≤ 14 = rw c.of.ensures (listed_fit c.args.generator c.requires).1 in
    omega (arith, small)

pub returns : goal.returns
returns c =
    let g = c.args.generator in
    let fit = made_fit g (sym (listed_fit g c.requires).0) refl c.of.ensures in
    let e : 1 * 2 ^ c.of.result.degree % 18446744073709551616 ≡ 2 ^ degree g = shift_one c.of.result fit ∙ ap (λ (v : Generator). 2 ^ v.degree) c.of.ensures in
    let two : 0 < 2 = omega arith in
    record { size = e; most = omega (arith, e, pow-le-pow_right {n = 2} two (listed_fit g c.requires).1) }
