-- Gather is scatter with rows and columns exchanged: both are judged alike, and leave the same bytes.
use mathlib.Core.Path.{◌≡◌, ap, ◌∙◌}
use mathlib.Core.Bool.{or_comm}
use mathlib.Core.List.{List}
use Prim.Native.Nat.{ℕ}
use native.Mathlib.Nat.{mul_comm}
use lib.ListN.{length}
use Rattle.scatter.specs.Blocks.{scattered, gathered}
use Rattle.scatter.specs.Calls.{unfit_side, unfit_shape, unfit_lengths, block_call, block_output, scatter_output, gather_output}

shape_exchanged : (r c : ℕ) → unfit_shape c r ≡ unfit_shape r c
unfolding unfit_shape
shape_exchanged r c = or_comm (unfit_side c) (unfit_side r)

lengths_exchanged : (r c input output : ℕ) → unfit_lengths c r input output ≡ unfit_lengths r c input output
unfolding unfit_lengths
lengths_exchanged r c input output = rw (mul_comm c r)

pub gathered_exchanged : {r c x y : ℕ} (s : List ℕ) → x ≡ c → y ≡ r → scattered x y s ≡ gathered r c s
unfolding gathered scattered
gathered_exchanged s e f = rw (e, f)

pub call_exchanged : {r c x y : ℕ} (s o : List ℕ) → x ≡ c → y ≡ r → block_call x y s o ≡ block_call r c s o
call_exchanged {r} {c} s o e f = rw (e, f, shape_exchanged r c, lengths_exchanged r c (length s) (length o))

pub output_exchanged : {r c x y : ℕ} (s o : List ℕ) → x ≡ c → y ≡ r → scatter_output x y s o ≡ gather_output r c s o
output_exchanged {r} {c} {x} {y} s o e f =
    ap (block_output x y s o) (gathered_exchanged s e f) ∙ rw (e, f, shape_exchanged r c, lengths_exchanged r c (length s) (length o))
