-- What is taken of a packet decides its check, and that of any packet with flipped bits.
use mathlib.Core.Path.{◌≡◌, refl, sym, ap, ap₂, ◌∙◌}
use mathlib.Core.Bool.{true}
use mathlib.Core.Logic.{◌≢◌}
use mathlib.Core.List.{List}
use Prim.Native.Nat.{ℕ, ◌+◌, ◌-◌, ◌*◌, ◌≤◌}
use native.Mathlib.Omega.{arith}
use borrow.Author.Tests.{eq-eqb, ne_eqb}
use lib.ListN.{length, get_or, take, drop, length-drop}
use lib.Seq.{get_or-drop, take_all}
use Rattle.std.specs.Borrow.{Bor}
use Rattle.base.specs.Lists.{Ascending}
use Rattle.base.proofs.ListLaws.{ascending_all}
use Rattle.packet.specs.Packet.{Bytes, bits, flips}
use Rattle.packet.proofs.FlipLaws.{flips-length, flips_bytes}
use Rattle.checksum.specs.Checksum.{total, range, field_of, passes}
use Rattle.checksum.specs.Shares.{multiple}
use Rattle.checksum.specs.declared.Check.{Check}
use Rattle.checksum.proofs.RangeLaws.{field_total, zero_field_passes, passes-total}
use Rattle.weighing.specs.Totals.{in_field, weighed, Weighs}
use Rattle.weighing.specs.declared.Weighed.{Weighed}

pub no_field : (k : Check) (s : List ℕ) → k.from ≡ k.to → in_field k s ≡ 0
unfolding in_field
no_field k s h = simp (eq-eqb _ _ h)

pub some_field : (k : Check) (s : List ℕ) → k.from ≢ k.to → in_field k s ≡ field_of k.field s
unfolding in_field
some_field k s h = simp (ne_eqb _ _ h)

-- the number in a field is the word that the bytes from it on begin with
pub word_in_field : (f : ℕ) (s : List ℕ)
    → (let rest = take (length s - f) (drop f s) in get_or rest 0 0 * 256 + get_or rest 1 0) ≡ field_of f s
unfolding field_of
word_in_field f s =
    let all : take (length s - f) (drop f s) ≡ drop f s = take_all (length s - f) (drop f s) (omega (arith, length-drop f s)) in
    rw all (ap₂ (λ (h l : ℕ). h * 256 + l) (get_or-drop f s 0 0 ∙ ap (λ (n : ℕ). get_or s n 0) (omega arith)) (get_or-drop f s 1 0))

pub weighed_weighs : {w : Weighed} (k : Check) (packet : Bor (List ℕ)) → w ≡ weighed k packet → Bytes packet.now → length packet.now ≤ 512 → k.to ≤ length packet.now
    → (k.from ≢ k.to → k.field + 2 ≤ k.to) → Weighs w
weighed_weighs k packet e b short inside within =
    let s = packet.now in
    let field : k.from ≢ k.to → k.field + 2 ≤ length s = λ h. omega (arith, inside, within h) in
    rw e
    (record {
      summed = record { bytes = b; short = short; inside = inside; known = refl };
      field_totalled = λ h. record { bytes = b; short = short; inside = field h; known = some_field k s h ∙ sym (field_total k.field s (field h)) };
    })

-- ---- once the positions q are flipped, where there is a second check ----

module _ (w : Weighed) (q : List ℕ) (taken : Weighs w) (up : Ascending (bits w.packet.now) 0 q) (some : w.check.from ≢ w.check.to) where
  flipped_field : total (range w.check.field (w.check.field + 2) (flips w.packet.now q)) ≡ field_of w.check.field (flips w.packet.now q)
  flipped_field = field_total w.check.field (flips w.packet.now q) (rw (flips-length w.packet.now q) (taken.field_totalled some).inside)

  -- a field of zero passes
  pub flipped_zero : total (range w.check.field (w.check.field + 2) (flips w.packet.now q)) ≡ 0 → true ≡ passes w.check (flips w.packet.now q)
  flipped_zero h = sym (zero_field_passes w.check (flips w.packet.now q) (sym flipped_field ∙ h))

  -- and else the total of the range decides
  pub flipped_decides : total (range w.check.field (w.check.field + 2) (flips w.packet.now q)) ≢ 0
      → multiple (total (range w.check.from w.check.to (flips w.packet.now q))) ≡ passes w.check (flips w.packet.now q)
  flipped_decides h = sym (passes-total w.check (flips w.packet.now q) some (λ e. h (flipped_field ∙ e)) (flips_bytes w.packet.now q (ascending_all up) taken.summed.bytes))
