-- `copy_to` copies a packet. Invariant: the bytes below i are copied, and the length stays.
use mathlib.Core.Path.{◌≡◌, ◌∙◌}
use Prim.Native.Nat.{ℕ}
use native.Mathlib.Omega.{arith}
use borrow.Author.Count.{below_more}
use lib.ListN.{get_or, set, length-set}
use lib.Seq.{ext_get_or, get_or-set_same, get_or-set_other}
use Rattle.verdicts.proofs.copy_to.Goals as goal

pub loop-i-init : goal.loop-i-init
loop-i-init c = record { within = omega arith; long = c.requires; same = λ k h. absurd (omega arith) }

pub bounds-output-i : goal.bounds-output-i
bounds-output-i c = omega (arith, c.loop-i.invariant.long)

pub loop-i-preserved : goal.loop-i-preserved
loop-i-preserved c =
    let l = c.loop-i in
    let p = c.args.packet.now in
    let v : ℕ = get_or p l.i 0 in
    record {
      within = omega arith;
      long = length-set l.output l.i v ∙ l.invariant.long;
      same =
          below_more (λ k. get_or (set l.output l.i v) k 0 ≡ get_or p k 0) l.i
          (λ k h. get_or-set_other l.output l.i k v 0 (λ e. omega arith) ∙ l.invariant.same k h)
          (get_or-set_same l.output l.i v 0 (omega (arith, l.invariant.long)));
    }

pub returns : goal.returns
returns c =
    let l = c.loop-i in
    ext_get_or 0 l.output c.args.packet.now l.invariant.long (λ k h. l.invariant.same k (omega (arith, l.invariant.long)))
