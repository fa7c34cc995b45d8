-- `one_between` finds the nearest position past the one between the ends.
use mathlib.Core.Path.{◌≡◌, refl}
use mathlib.Core.Bool.{true, false}
use Rattle.std.proofs.Common.{Some, None}
use mathlib.Core.List.{[], ◌∷◌}
use Prim.Native.Nat.{◌-◌}
use native.Mathlib.Omega.{arith}
use lib.ListN.{length, get_or}
use Rattle.spans.proofs.BetweenLaws.{three_ascend, cut_three, set_middle, one_after, between_finds}
use Rattle.spans.proofs.one_between.Goals as goal

pub left-v-requires : goal.left-v-requires
left-v-requires c = let k = three_ascend c.requires.2 c.requires.1 in (c.requires.0, omega (arith, k), k.2)

pub nearest_below-requires : goal.nearest_below-requires
nearest_below-requires c =
    let k = three_ascend c.requires.2 c.requires.1 in
    (c.left-v.ensures.ready _ (omega (arith, k)), omega (arith, k), omega (arith, k))

pub returns-in-Some : goal.returns-in-Some
returns-in-Some c power t =
    let q = c.args.pos.now in
    let near = c.in-Some.ensures in
    let e : length q - 1 ≡ 2 = omega (arith, c.requires.1) in
    rw (e, set_middle q c.in-Some.c c.requires.1)
    (between_finds power c.args.u (cut_three q c.requires.2 c.requires.1) (get_or q 2 0) _ refl (c.left-v.ensures.known power t) true (c.in-Some.c ∷ [])
    (one_after power (get_or q 2 0) _ (get_or q 1 0) (three_ascend c.requires.2 c.requires.1).1 refl (Some c.in-Some.c) (near.0, near.1 power t)))

pub returns : goal.returns
returns c power t =
    let q = c.args.pos.now in
    let e : length q - 1 ≡ 2 = omega (arith, c.requires.1) in
    rw e
    (between_finds power c.args.u (cut_three q c.requires.2 c.requires.1) (get_or q 2 0) _ refl (c.left-v.ensures.known power t) false []
    (one_after power (get_or q 2 0) _ (get_or q 1 0) (three_ascend c.requires.2 c.requires.1).1 refl None (c.in_default.ensures power t)))
