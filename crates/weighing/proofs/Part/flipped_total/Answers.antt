-- `flipped_total` adds what the clear bits count and takes away what the set bits count.
use mathlib.Core.Path.{◌≡◌, ap, ◌∙◌}
use mathlib.Core.List.{List}
use Prim.Native.Nat.{ℕ, ◌+◌, ◌*◌, ◌≤◌}
use native.Mathlib.Omega.{arith}
use lib.ListN.{length, drop_of_length-le}
use Rattle.base.specs.Lists.{Ascending}
use Rattle.base.proofs.ListLaws.{ascending_at, ascending-length}
use Rattle.packet.specs.Packet.{bits, flips}
use Rattle.checksum.specs.Checksum.{total, range}
use Rattle.checksum.proofs.SumLaws.{total_bound}
use Rattle.checksum.proofs.RangeLaws.{range_bytes, range_length}
use Rattle.weighing.specs.Totals.{set_weight, clear_weight, Totalled}
use Rattle.weighing.proofs.WeightLaws.{total-flips, set_weight_nil, clear_weight_nil, clear_turn, set_turn}
use Rattle.weighing.proofs.Part.flipped_total.Invariants.{Weighing}
use Rattle.weighing.proofs.Part.flipped_total.Goals as goal

-- there are no more positions than bits, and the total is that of at most 512 bytes
record Small (before : ℕ) (q : List ℕ) : Type 0 where
  few : length q ≤ 4096
  small : before ≤ 65536 * 512

module _ (from to before : ℕ) (p q : List ℕ) (k : Totalled from to before p) (up : Ascending (bits p) 0 q) where
  bounds : Small before q
  bounds =
      record {
        few = omega (arith, ascending-length up (omega arith), k.short);
        small = omega (arith, k.known, total_bound (range from to p) (range_bytes from to p k.bytes), range_length from to p k.inside, k.inside, k.short);
      }

  -- no position left: all is weighed
  weighed : (plus minus i : ℕ) → Weighing from to p q plus minus i → length q ≤ i → total (range from to (flips p q)) + minus ≡ before + plus
  weighed plus minus i w end =
      let none = drop_of_length-le q {i = i} end in
      let a = ap (clear_weight from to p) none ∙ clear_weight_nil from to p in
      let m = ap (set_weight from to p) none ∙ set_weight_nil from to p in
      omega (arith, a, m, w.adding, w.taking, k.known, total-flips from to p up k.inside)

pub change-change-requires : goal.change-change-requires
change-change-requires c = ascending_at c.requires.1 c.loop-p.p-index (omega arith)

pub overflow_add-plus : goal.overflow_add-plus
overflow_add-plus c = omega (arith, bounds _ _ _ _ _ c.requires.0 c.requires.1)

pub overflow_add-minus : goal.overflow_add-minus
overflow_add-minus c = omega (arith, bounds _ _ _ _ _ c.requires.0 c.requires.1)

pub loop-p-preserved : goal.loop-p-preserved
loop-p-preserved c =
    let s = c.args.self in
    let p = s.packet.now in
    let q = c.args.pos.now in
    let i = c.loop-p.p-index in
    record {
      adding = omega (arith, clear_turn s.from s.to p q i (omega arith));
      taking = omega (arith, set_turn s.from s.to p q i (omega arith));
      few = omega arith;
      less = omega arith;
    }

pub overflow_add-result : goal.overflow_add-result
overflow_add-result c = omega (arith, bounds _ _ _ _ _ c.requires.0 c.requires.1)

pub overflow_sub-result : goal.overflow_sub-result
overflow_sub-result c = omega (arith, weighed _ _ _ _ _ c.requires.0 c.requires.1 _ _ _ c.loop-p.invariant (omega arith))

pub returns : goal.returns
returns c = omega (arith, weighed _ _ _ _ _ c.requires.0 c.requires.1 _ _ _ c.loop-p.invariant (omega arith))
