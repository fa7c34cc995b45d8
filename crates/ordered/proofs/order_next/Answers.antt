-- `order_next` goes on among the sets of the given one's count, and then climbs through the counts above it.
use mathlib.Core.List.{List}
use Prim.Native.Nat.{ℕ}
use native.Mathlib.Omega.{arith}
use borrow.Author.Rules.{rules}
use lib.ListN.{length, take}
use lib.Seq.{length-take-le, length_front}
use Rattle.patterns.specs.Order.{before}
use Rattle.patterns.specs.StrictOrder.{Foremost}
use Rattle.spans.specs.Spans.{Summing, Behind}
use Rattle.ordered.specs.Ordered.{Among}
use Rattle.search.proofs.RisingLaws.{risen_within}
use Rattle.ordered.proofs.RiseLaws.{later_hit, later_miss, found_front, risen_among}
use Rattle.ordered.proofs.order_next.Goals as goal

pub returns-then-next_or_skip-clause-next : goal.returns-then-next_or_skip-clause-next
returns-then-next_or_skip-clause-next c power t =
    let p = c.next_or_skip in
    let ys : List ℕ = p.new.pos in
    let q : List ℕ = take c.args.count c.args.pos.now in
    let l : ℕ = length c.args.powers.powers.now in
    let n : ℕ = length c.args.pos.now in
    let e = length-take-le c.args.count c.args.pos.now c.requires.1 in
    let hit : Foremost before (Behind (Summing power l c.args.count 0 c.args.syndrome) q) ys = rw (c.if-next_or_skip.true, e) at (p.ensures power t) in
    found_front (Behind (Among power l 0 n c.args.syndrome) q) c.args.count c.args.pos.now ys c.requires.1 p.auto.pos
    (later_hit power l n c.args.syndrome q c.args.count e c.requires.1 ys hit)

pub returns : goal.returns
returns c =
    let p = c.next_or_skip in
    let q : List ℕ = take c.args.count c.args.pos.now in
    let l : ℕ = length c.args.powers.powers.now in
    let n : ℕ = length c.args.pos.now in
    let e = length-take-le c.args.count c.args.pos.now c.requires.1 in
    let w = length_front c.args.pos.now p.new.pos c.args.count p.auto.pos in
    record {
      counted = rw w at (risen_within c.rise.ensures);
      next = λ power t.
          let none : (y : List ℕ) → Behind (Summing power l c.args.count 0 c.args.syndrome) q y → ⊥ = rw (c.if-next_or_skip.false, e) at (p.ensures power t) in
          later_miss power l n c.args.syndrome q c.args.count e c.requires.1 none _ (omega arith) c.rise.result c.rise.new.pos
          (risen_among power l n c.args.syndrome (λ xs r ys k. rw (← k.shows, ← k.leaves) (search rules)) w c.rise.ensures);
    }
