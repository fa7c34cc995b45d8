-- `take_at` puts the position in where the gap is.
use mathlib.Core.Path.{◌≡◌, refl, sym, ap, ◌∙◌}
use Prim.Native.Nat.{ℕ, ◌+◌, ◌-◌, ◌<◌}
use native.Mathlib.Omega.{arith}
use mathlib.Core.List.{List}
use lib.Dec.{ltb}
use lib.ListN.{length, take}
use lib.Seq.{length-take-le}
use Rattle.patterns.specs.Listing.{inserted}
use Rattle.channel.proofs.TakingLaws.{put_between, untaken_at}
use Rattle.channel.proofs.take_at.Goals as goal

-- as many are taken as the slice is long, but for one
short : (l : List ℕ) → 0 < length l → length (take (length l - 1) l) ≡ length l - 1
short l h = length-take-le _ _ (omega arith)

pub returns : goal.returns
returns c l a h =
    let b = c.below-at in
    let taken = take (length c.args.pos.now - 1) c.args.pos.now in
    let g = b.ensures.gap l a in
    let under : c.args.place + b.result < l = omega (arith, h, b.ensures.within, short c.args.pos.now c.requires.0, c.requires.0) in
    c.insert.ensures
    ∙ put_between taken (omega arith) g
    ∙ sym (ap (λ (p : ℕ). inserted ltb p taken) (untaken_at c.args.place taken a g refl under))
