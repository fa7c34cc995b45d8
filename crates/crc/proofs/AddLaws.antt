-- A number added to a packet, from its last byte on.
use mathlib.Core.Path.{◌≡◌, sym, ap, ap₂, ◌∙◌}
use mathlib.Core.List.{List, [], ◌∷◌, ◌++◌, append_assoc}
use Prim.Native.Nat.{ℕ, suc, ◌+◌, ◌*◌, ◌/◌, ◌%◌, ◌<◌}
use native.Mathlib.Omega.{arith}
use lib.Bits.{bit_xor, xor_block, xor_lt}
use lib.ListN.{length, get_or, take, drop, set}
use lib.Seq.{drop-cons, get_or-take, get_or-set_same, drop-set-lt, lt-length-set}
use Rattle.packet.specs.Packet.{Bytes, polynomial, bytes_of}
use Rattle.packet.proofs.PacketLaws.{polynomial-take, bytes_suc}

-- a sum, by its last byte
pub bytes_xor_suc : (i v b w : ℕ) → b < 256 → bytes_of (suc i) (bit_xor (v * 256 + b) w) ≡ bytes_of i (bit_xor v (w / 256)) ++ (bit_xor b (w % 256) ∷ [])
bytes_xor_suc i v b w h =
    let digit : w % 256 < 256 = omega arith in
    let parts : w ≡ w / 256 * 256 + w % 256 = omega arith in
    let sum : bit_xor (v * 256 + b) w ≡ bit_xor v (w / 256) * 256 + bit_xor b (w % 256) =
    ap (bit_xor (v * 256 + b)) parts ∙ xor_block 8 v (w / 256) b (w % 256) h digit in
    let small : bit_xor b (w % 256) < 256 = xor_lt 8 b (w % 256) h digit in
    let high : bit_xor (v * 256 + b) w / 256 ≡ bit_xor v (w / 256) = omega arith in
    let low : bit_xor (v * 256 + b) w % 256 ≡ bit_xor b (w % 256) = omega arith in
    bytes_suc i (bit_xor (v * 256 + b) w) ∙ ap₂ (λ (x y : ℕ). bytes_of i x ++ (y ∷ [])) high low

-- the sum with a number, one byte further down
pub add_low_step : (q p : List ℕ) (i left : ℕ) → Bytes q → i < length q → length p ≡ length q → take (suc i) p ≡ take (suc i) q
    → bytes_of i (bit_xor (polynomial (take i q)) (left / 256)) ++ drop i (set p i (bit_xor (get_or p i 0) (left % 256)))
    ≡ bytes_of (suc i) (bit_xor (polynomial (take (suc i) q)) left) ++ drop (suc i) p
add_low_step q p i left b h l e =
    let k : i < length p = omega arith in
    let x : ℕ = bit_xor (get_or p i 0) (left % 256) in
    let same : get_or p i 0 ≡ get_or q i 0 =
    sym (get_or-take (suc i) p i 0 (omega arith)) ∙ ap (λ (t : List ℕ). get_or t i 0) e ∙ get_or-take (suc i) q i 0 (omega arith) in
    let tail : drop i (set p i x) ≡ x ∷ drop (suc i) p =
    drop-cons (set p i x) i 0 (lt-length-set p i x k)
    ∙ ap₂ (λ (y : ℕ) (t : List ℕ). y ∷ t) (get_or-set_same p i x 0 k) (drop-set-lt (suc i) p i x (omega arith)) in
    let head : bytes_of (suc i) (bit_xor (polynomial (take (suc i) q)) left) ≡ bytes_of i (bit_xor (polynomial (take i q)) (left / 256)) ++ (x ∷ []) =
    ap (λ (y : ℕ). bytes_of (suc i) (bit_xor y left)) (polynomial-take q i h)
    ∙ bytes_xor_suc i (polynomial (take i q)) (get_or q i 0) left (b i)
    ∙ ap (λ (y : ℕ). bytes_of i (bit_xor (polynomial (take i q)) (left / 256)) ++ (bit_xor y (left % 256) ∷ [])) (sym same) in
    ap (λ (t : List ℕ). bytes_of i (bit_xor (polynomial (take i q)) (left / 256)) ++ t) tail
    ∙ sym (ap (λ (t : List ℕ). t ++ drop (suc i) p) head ∙ append_assoc (bytes_of i (bit_xor (polynomial (take i q)) (left / 256))) (x ∷ []) (drop (suc i) p))
