-- Sealing leaves the second check as it was: it changes the last n bits alone, and an accepted range, with the field in it, ends before
-- them. The bytes of a range are read off the polynomial divided by a power that the seal leaves as it was.
use mathlib.Core.Path.{◌≡◌, sym, ap, ◌∙◌}
use mathlib.Core.Logic.{◌≢◌}
use mathlib.Core.List.{List}
use Prim.Native.Nat.{ℕ, ◌+◌, ◌-◌, ◌*◌, ◌/◌, ◌^◌, ◌<◌, ◌≤◌}
use native.Mathlib.Omega.{arith}
use lib.ListN.{length, take, drop, take-append-drop, length-drop}
use lib.Pow.{high, shr-shr}
use lib.Seq.{take-add, drop_at, length-take-le}
use Rattle.poly.specs.Fit.{Divisor}
use Rattle.packet.specs.Packet.{Bytes, bits, polynomial, bytes_of}
use Rattle.packet.specs.declared.Crc.{Crc}
use Rattle.packet.proofs.FlipLaws.{polynomial-append, polynomial_lt, byte_power}
use Rattle.packet.proofs.PacketLaws.{bytes_take}
use Rattle.crc.specs.Calls.{sealed}
use Rattle.crc.proofs.SealLaws.{sealed-length, sealed_bytes, sealed_high}
use Rattle.checksum.specs.Checksum.{total, range, check_of, field_of, passes}
use Rattle.checksum.specs.declared.Check.{Check}
use Rattle.checksum.proofs.RangeLaws.{drop_bytes, passes_alike, field_total}
use Rattle.checksum.proofs.ConditionLaws.{FitRange}

-- the first bytes, read off the polynomial
polynomial_front : (e : ℕ) (s : List ℕ) → Bytes s → polynomial s / 2 ^ (8 * (length s - e)) ≡ polynomial (take e s)
polynomial_front e s b =
    let rest = drop e s in
    let count : 8 * length rest ≡ 8 * (length s - e) = ap (λ (x : ℕ). 8 * x) (length-drop e s) in
    let power : 256 ^ length rest ≡ 2 ^ (8 * (length s - e)) = byte_power (length rest) ∙ ap (λ (x : ℕ). 2 ^ x) count in
    let small : polynomial rest < 2 ^ (8 * (length s - e)) = rw power at (polynomial_lt rest (drop_bytes e s b)) in
    let split : polynomial s ≡ polynomial (take e s) * 2 ^ (8 * (length s - e)) + polynomial rest =
    ap polynomial (sym (take-append-drop e s))
    ∙ polynomial-append (take e s) rest
    ∙ ap (λ (x : ℕ). polynomial (take e s) * x + polynomial rest) power in
    ap (λ (x : ℕ). x / 2 ^ (8 * (length s - e))) split ∙ high (polynomial (take e s)) (8 * (length s - e)) small

-- packets that agree from x^n on have the same bytes before their last n bits
front_same : (n e : ℕ) (s t : List ℕ) → Bytes s → Bytes t → length t ≡ length s → polynomial t / 2 ^ n ≡ polynomial s / 2 ^ n → 8 * e + n ≤ bits s
    → take e t ≡ take e s
front_same n e s t bs bt same agree h =
    let k = 8 * (length s - e) in
    let parts : n + (k - n) ≡ k = omega arith in
    let split : (v : ℕ) → v / 2 ^ k ≡ v / 2 ^ n / 2 ^ (k - n) =
    λ v. ap (λ (x : ℕ). v / 2 ^ x) (sym parts) ∙ sym (shr-shr v n (k - n)) in
    let fronts : polynomial (take e t) ≡ polynomial (take e s) =
    sym (polynomial_front e t bt)
    ∙ ap (λ (x : ℕ). polynomial t / 2 ^ (8 * (x - e))) same
    ∙ split (polynomial t)
    ∙ ap (λ (x : ℕ). x / 2 ^ (k - n)) agree
    ∙ sym (split (polynomial s))
    ∙ polynomial_front e s bs in
    sym (bytes_take t bt e (omega arith)) ∙ ap (bytes_of e) fronts ∙ bytes_take s bs e (omega arith)

-- a range is a part of the first bytes
range_front : (a e : ℕ) (s : List ℕ) → a ≤ e → e ≤ length s → range a e s ≡ drop a (take e s)
unfolding range
range_front a e s h l =
    let parts : e ≡ a + (e - a) = omega arith in
    sym (ap (drop a) (ap (λ (x : ℕ). take x s) parts ∙ take-add a (e - a) s) ∙ drop_at (take a s) (take (e - a) (drop a s)) a (length-take-le a s (omega arith)))

-- the seal leaves an accepted range as it was
sealed-range : (c : Crc) (k : Check) (s : List ℕ) → Divisor c.generator.degree c.generator.coefficients → Bytes s
    → FitRange c.generator.degree (bits s) k → range k.from k.to (sealed c s) ≡ range k.from k.to s
sealed-range c k s d b fit =
    let long : c.generator.degree ≤ bits s = omega arith in
    let same = sealed-length c d s b long in
    range_front k.from k.to (sealed c s) (omega arith) (omega arith)
    ∙ ap (drop k.from) (front_same c.generator.degree k.to s (sealed c s) b (sealed_bytes c d s b long) same (sealed_high c d s b long) fit.whole)
    ∙ sym (range_front k.from k.to s (omega arith) (omega arith))

-- and so an accepted field
sealed_field : (c : Crc) (k : Check) (s : List ℕ) → Divisor c.generator.degree c.generator.coefficients → Bytes s
    → FitRange c.generator.degree (bits s) k → k.field + 2 ≤ k.to → field_of k.field (sealed c s) ≡ field_of k.field s
sealed_field c k s d b fit within =
    let f : ℕ = k.field in
    let inside : f + 2 ≤ length s = omega (arith, fit.whole) in
    let same = sealed-length c d s b (omega (arith, fit.whole)) in
    sym (field_total f (sealed c s) (omega arith))
    ∙ ap total (sealed-range c (check_of f (f + 2) f) s d b (record { ordered = omega arith; whole = omega (arith, fit.whole) }))
    ∙ field_total f s inside

-- so a packet passes the second check sealed as it did before
pub sealed-passes : (c : Crc) (k : Check) (s : List ℕ) → Divisor c.generator.degree c.generator.coefficients → Bytes s
    → FitRange c.generator.degree (bits s) k → (k.from ≢ k.to → k.field + 2 ≤ k.to) → passes k (sealed c s) ≡ passes k s
sealed-passes c k s d b fit within =
    passes_alike k (sealed c s) s (λ h. sealed_field c k s d b fit (within h)) (sealed-range c k s d b fit)
