-- `add_low` XORs a number into the last bytes. Invariant: the bytes below i are as at first, and what is left to add to
-- them, followed by the bytes done, is the whole sum. i falls.
use mathlib.Core.Path.{◌≡◌, refl, sym, ap, ap₂, ◌∙◌}
use mathlib.Core.List.{List, ◌++◌, append-nil}
use Prim.Native.Nat.{ℕ, suc, ◌-◌, ◌%◌, ◌≤◌}
use native.Mathlib.Omega.{arith}
use lib.Bits.{bit_xor, xor_zero_r}
use lib.ListN.{length, take, drop, get_or, take-append-drop}
use lib.Seq.{take-length, drop-length, take-set-le, take-take}
use Rattle.packet.specs.Packet.{Bytes, polynomial, bytes_of}
use Rattle.packet.proofs.PacketLaws.{bytes_take}
use Rattle.crc.proofs.AddLaws.{add_low_step}
use Rattle.crc.proofs.add_low.Invariants.{Adding}
use Rattle.crc.proofs.add_low.Goals as goal

-- nothing left to add: the bytes stand
added : {q p : List ℕ} {value i : ℕ} → Bytes q → i ≤ length q → Adding q p value 0 i → p ≡ bytes_of (length q) (bit_xor (polynomial q) value)
added {q} {p} {value} {i} b within a =
    sym (take-append-drop i p)
    ∙ ap (λ (t : List ℕ). t ++ drop i p) (a.kept ∙ sym (ap (bytes_of i) (xor_zero_r (polynomial (take i q))) ∙ bytes_take q b i within))
    ∙ a.sum

-- no byte left: the bytes stand
through : {q p : List ℕ} {value left : ℕ} → Adding q p value left 0 → p ≡ bytes_of (length q) (bit_xor (polynomial q) value)
unfolding bytes_of
through a = a.sum

pub loop-i-init : goal.loop-i-init
loop-i-init c =
    let q = c.args.packet.now in
    record {
      kept = refl;
      sum =
          ap₂ (λ (s t : List ℕ). bytes_of (length q) (bit_xor (polynomial s) c.args.value) ++ t) (take-length q) (drop-length q)
          ∙ append-nil (bytes_of (length q) (bit_xor (polynomial q) c.args.value));
    }

pub returns-then-left-eq0 : goal.returns-then-left-eq0
returns-then-left-eq0 c = added c.requires (omega arith) (rw c.if-left-eq0.true at c.loop-i.invariant)

pub loop-i-preserved : goal.loop-i-preserved
loop-i-preserved c =
    let q = c.args.packet.now in
    let p = c.loop-i.packet in
    let i : ℕ = c.loop-i.i - 1 in
    let e : suc i ≡ c.loop-i.i = omega arith in
    let a = c.loop-i.invariant in
    let x : ℕ = bit_xor (get_or p i 0) (c.loop-i.left % 256) in
    let kept : take (suc i) p ≡ take (suc i) q = rw e a.kept in
    record {
      kept =
          take-set-le i p i x (omega arith)
          ∙ sym (take-take i (suc i) p (omega arith)) ∙ ap (take i) kept ∙ take-take i (suc i) q (omega arith);
      sum =
          add_low_step q p i c.loop-i.left c.requires (omega arith) (omega arith) kept
          ∙ rw e a.sum;
    }

pub returns : goal.returns
returns c =
    let e : c.loop-i.i ≡ 0 = omega arith in
    through (rw e at c.loop-i.invariant)
