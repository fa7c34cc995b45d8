-- How the total of a range changes when bits of the packet flip: a bit that was one takes its weight away, one that was zero adds it.
-- Several flips are several single ones, since a flip changes no other bit.
use mathlib.Core.Path.{◌≡◌, refl, ap}
use mathlib.Core.List.{List, [], ◌∷◌}
use Prim.Native.Nat.{ℕ, zero, suc, ◌+◌, ◌-◌, ◌*◌, ◌/◌, ◌%◌, ◌^◌, ◌<◌, ◌≤◌}
use native.Mathlib.Omega.{arith}
use lib.Bits.{bit_xor}
use lib.ListN.{length, get_or, drop}
use native.Mathlib.Numerals.{add-one}
use lib.Seq.{drop-cons}
use Rattle.base.specs.Lists.{All, none, each, Ascending, ends, next}
use Rattle.base.proofs.ListLaws.{ascending_all, ascending_above}
use Rattle.base.proofs.XorLaws.{mod_two_lt, xor-power}
use Rattle.packet.specs.Packet.{bits, bit_at, flip, flips}
use Rattle.packet.proofs.FlipLaws.{flip_is, flip-length, flips_nil, flips_cons, bit_at_flip_other}
use Rattle.checksum.specs.Checksum.{total, range}
use Rattle.checksum.specs.Shares.{share}
use Rattle.checksum.proofs.RangeLaws.{total-range-set}
use Rattle.weighing.specs.Totals.{weight, set_weight, clear_weight}

pub weight-flip : (a e : ℕ) (s : List ℕ) (p q : ℕ) → weight a e (flip s p) q ≡ weight a e s q
unfolding weight
weight-flip a e s p q = simp flip-length

weigh : (t t' c b v d w : ℕ) → d < 2 → t' + c * b ≡ t + c * v → v + d * w ≡ b + (1 - d) * w
    → t' + d * (c * w) ≡ t + (1 - d) * (c * w)
weigh t t' c b v zero w h e f = omega (arith, ap (λ (x : ℕ). c * x) f)
weigh t t' c b v (suc zero) w h e f = omega (arith, ap (λ (x : ℕ). c * x) f)
weigh t t' c b v (suc (suc d)) w h e f = absurd (omega arith)

pub total-flip : (a e : ℕ) (s : List ℕ) (p : ℕ) → e ≤ length s
    → total (range a e (flip s p)) + bit_at s p * weight a e s p ≡ total (range a e s) + (1 - bit_at s p) * weight a e s p
unfolding bit_at weight
total-flip a e s p he =
    let i = length s - 1 - p / 8 in
    let x = get_or s i 0 in
    rw (flip_is s p)
    (weigh (total (range a e s)) _ (share a e i) x (bit_xor x (2 ^ (p % 8))) (x / 2 ^ (p % 8) % 2) (2 ^ (p % 8)) (mod_two_lt (x / 2 ^ (p % 8)))
    (total-range-set a e i (bit_xor x (2 ^ (p % 8))) s he)
    (xor-power x (p % 8)))

-- several bits

pub set_weight_nil : (a e : ℕ) (s : List ℕ) → set_weight a e s [] ≡ 0
unfolding set_weight
set_weight_nil a e s = refl

pub clear_weight_nil : (a e : ℕ) (s : List ℕ) → clear_weight a e s [] ≡ 0
unfolding clear_weight
clear_weight_nil a e s = refl

pub set_weight_cons : (a e : ℕ) (s : List ℕ) (p : ℕ) (ps : List ℕ)
    → set_weight a e s (p ∷ ps) ≡ bit_at s p * weight a e s p + set_weight a e s ps
unfolding set_weight
set_weight_cons a e s p ps = refl

pub clear_weight_cons : (a e : ℕ) (s : List ℕ) (p : ℕ) (ps : List ℕ)
    → clear_weight a e s (p ∷ ps) ≡ (1 - bit_at s p) * weight a e s p + clear_weight a e s ps
unfolding clear_weight
clear_weight_cons a e s p ps = refl

-- a flip leaves what higher positions count
module _ (a e : ℕ) (s : List ℕ) (p : ℕ) (hp : p < bits s) where
  set_weight-flip : {ps : List ℕ} → All (λ (q : ℕ). suc p ≤ q) ps → All (λ (q : ℕ). q < bits s) ps → set_weight a e (flip s p) ps ≡ set_weight a e s ps
  unfolding set_weight
  set_weight-flip none none = refl
  set_weight-flip (each {x = q} l ls) (each h hs) =
      rw (bit_at_flip_other s p q hp h (λ m. omega arith), weight-flip a e s p q, set_weight-flip ls hs) refl

  clear_weight-flip : {ps : List ℕ} → All (λ (q : ℕ). suc p ≤ q) ps → All (λ (q : ℕ). q < bits s) ps → clear_weight a e (flip s p) ps ≡ clear_weight a e s ps
  unfolding clear_weight
  clear_weight-flip none none = refl
  clear_weight-flip (each {x = q} l ls) (each h hs) =
      rw (bit_at_flip_other s p q hp h (λ m. omega arith), weight-flip a e s p q, clear_weight-flip ls hs) refl

flips_from : {l from : ℕ} {ps : List ℕ} (a e : ℕ) (s : List ℕ) → l ≡ bits s → Ascending l from ps → e ≤ length s
    → total (range a e (flips s ps)) + set_weight a e s ps ≡ total (range a e s) + clear_weight a e s ps
flips_from a e s d ends he = rw (flips_nil s, set_weight_nil a e s, clear_weight_nil a e s) refl
flips_from a e s d (next {p = p} {ps = ps} l h c) he =
    let up = ascending_above (suc p) (omega arith) c in
    let all : All (λ (q : ℕ). q < bits s) ps = rw (← d) (ascending_all c) in
    rw (flips_cons s p ps, set_weight_cons a e s p ps, clear_weight_cons a e s p ps)
    (omega (
      arith,
      total-flip a e s p he,
      set_weight-flip a e s p (omega arith) up all,
      clear_weight-flip a e s p (omega arith) up all,
      flips_from a e (flip s p) (rw (flip-length s p) d) c (rw (flip-length s p) he),
    ))

pub total-flips : (a e : ℕ) (s : List ℕ) {ps : List ℕ} → Ascending (bits s) 0 ps → e ≤ length s
    → total (range a e (flips s ps)) + set_weight a e s ps ≡ total (range a e s) + clear_weight a e s ps
total-flips a e s h he = flips_from a e s refl h he

-- ---- one position more of what is left, and how much a bit counts ----

module _ (a e : ℕ) (s ps : List ℕ) (i : ℕ) (h : i < length ps) where
  pub clear_turn : clear_weight a e s (drop i ps) ≡ (1 - bit_at s (get_or ps i 0)) * weight a e s (get_or ps i 0) + clear_weight a e s (drop (i + 1) ps)
  clear_turn = rw (add-one, drop-cons ps i 0 h) (clear_weight_cons a e s (get_or ps i 0) (drop (suc i) ps))

  pub set_turn : set_weight a e s (drop i ps) ≡ bit_at s (get_or ps i 0) * weight a e s (get_or ps i 0) + set_weight a e s (drop (i + 1) ps)
  set_turn = rw (add-one, drop-cons ps i 0 h) (set_weight_cons a e s (get_or ps i 0) (drop (suc i) ps))
