-- A stamped range has the sum FFFFh: the field adds to the total of the range what its sum lacks to FFFFh, or FFFFh where it lacks nothing.
-- What counts is the total of the range with the field as zero; a written field adds its number to it.
use mathlib.Core.Path.{◌≡◌, refl, sym, ap, ◌∙◌}
use mathlib.Core.Logic.{◌≢◌}
use mathlib.Core.Bool.{true, false}
use mathlib.Core.List.{List}
use Prim.Native.Nat.{ℕ, zero, suc, ◌+◌, ◌-◌, ◌/◌, ◌%◌, ◌<◌, ◌≤◌}
use native.Mathlib.Omega.{arith}
use borrow.Author.Tests.{eq-eqb}
use lib.ListN.{length, get_or, take, drop, set, length-set}
use lib.Seq.{set-set, set_comm, get_or-set_same, get_or-set_other}
use Rattle.packet.specs.Packet.{Bytes}
use Rattle.checksum.specs.Checksum.{sum_of, total, reduced, range, field_of, passes, unfit_field, with_field, as_written, stamped}
use Rattle.checksum.specs.Shares.{multiple, share}
use Rattle.checksum.specs.declared.Check.{Check}
use Rattle.checksum.proofs.SumLaws.{sum-reduced, reduced_zero, reduced_positive, multiple_positive}
use Rattle.checksum.proofs.RangeLaws.{set_bytes, range_bytes, passes-total, total-range-set, share_within, word_weight_even, word_weight_odd}
use Rattle.checksum.proofs.ConditionLaws.{FitField, fit_field}

pub with_field_is : (f v : ℕ) (s : List ℕ) → with_field f v s ≡ set (set s f (v / 256)) (f + 1) (v % 256)
unfolding with_field
with_field_is f v s = refl

apart : (f : ℕ) → f + 1 ≢ f
apart f e = omega arith

-- what a field held before does not matter
pub with_field_again : (f u v : ℕ) (s : List ℕ) → with_field f v (with_field f u s) ≡ with_field f v s
unfolding with_field
with_field_again f u v s =
    ap (λ (l : List ℕ). set l (f + 1) (v % 256)) (set_comm (set s f (u / 256)) (f + 1) f (u % 256) (v / 256) (apart f))
    ∙ set-set (set (set s f (u / 256)) f (v / 256)) (f + 1) (u % 256) (v % 256)
    ∙ ap (λ (l : List ℕ). set l (f + 1) (v % 256)) (set-set s f (u / 256) (v / 256))

pub with_field-length : (f v : ℕ) (s : List ℕ) → length (with_field f v s) ≡ length s
unfolding with_field
with_field-length f v s = simp length-set

pub with_field_bytes : (f v : ℕ) (s : List ℕ) → Bytes s → v < 65536 → Bytes (with_field f v s)
unfolding with_field
with_field_bytes f v s b h = set_bytes (set s f (v / 256)) (f + 1) (v % 256) (set_bytes s f (v / 256) b (omega arith)) (omega arith)

pub stamped_is : (k : Check) (s : List ℕ) → stamped k s ≡ with_field k.field (as_written (65535 - sum_of (range k.from k.to (with_field k.field 0 s)))) s
unfolding stamped
stamped_is k s = ap (λ (v : ℕ). with_field k.field v s) (omega arith)

-- the steps of a stamp: the field cleared, the range summed, the field written
pub stamp_steps : (k : Check) (r u v : ℕ) (s z y : List ℕ)
    → z ≡ with_field k.field 0 s → r ≡ sum_of (take (k.to - k.from) (drop k.from z)) → u ≡ 65535 - r → v ≡ as_written u
    → y ≡ with_field k.field v z → y ≡ stamped k s
unfolding range
stamp_steps k r u v s z y p q l e w = rw (stamped_is k s) (w ∙ rw (e, l, q, p) (with_field_again k.field 0 _ s))

high_cleared : (f : ℕ) (s : List ℕ) → f < length s → get_or (with_field f 0 s) f 0 ≡ 0
unfolding with_field
high_cleared f s h =
    get_or-set_other (set s f 0) (f + 1) f 0 0 (λ e. omega arith) ∙ get_or-set_same s f 0 0 h

low_cleared : (f v : ℕ) (s : List ℕ) → f + 1 < length s → get_or (set (with_field f 0 s) f v) (f + 1) 0 ≡ 0
unfolding with_field
low_cleared f v s h =
    get_or-set_other (set (set s f 0) (f + 1) 0) f (f + 1) v 0 (apart f)
    ∙ get_or-set_same (set s f 0) (f + 1) 0 0 (simp length-set h)

module _ (k : Check) (s : List ℕ) (fit : FitField k) (he : k.to ≤ length s) where
  share_high : share k.from k.to k.field ≡ 256
  share_high = share_within k.from k.to k.field fit.after (omega arith) ∙ word_weight_even (k.field - k.from) fit.even

  share_low : share k.from k.to (k.field + 1) ≡ 1
  share_low = share_within k.from k.to (k.field + 1) (omega arith) (omega arith) ∙ word_weight_odd (k.field + 1 - k.from) (omega arith)

  -- a number in the field adds to the total
  total-with_field : (v : ℕ) → total (range k.from k.to (with_field k.field v s)) ≡ total (range k.from k.to (with_field k.field 0 s)) + v
  total-with_field v =
      let f : ℕ = k.field in
      let z = with_field f 0 s in
      let up = rw (share_high, high_cleared f s (omega arith)) at (total-range-set k.from k.to f (v / 256) z (rw (with_field-length f 0 s) he)) in
      let down =
      rw (share_low, low_cleared f (v / 256) s (omega arith)) at (total-range-set k.from k.to (f + 1) (v % 256) (set z f (v / 256)) (simp (length-set, with_field-length) he)) in
      ap (λ (l : List ℕ). total (range k.from k.to l)) (sym (with_field_again f 0 v s) ∙ with_field_is f v z) ∙ omega (arith, up, down)

-- ---- what is written is never 0, and FFFFh is as good as 0 to the sum ----

pub written_for_zero : (v : ℕ) → v ≡ 0 → as_written v ≡ 65535
unfolding as_written
written_for_zero v e = rw e refl

pub written_as_is : (v : ℕ) → v ≢ 0 → as_written v ≡ v
unfolding as_written
written_as_is zero h = absurd (h refl)
written_as_is (suc v) h = refl

written_positive : (v : ℕ) → 0 < as_written v
written_positive zero = omega (arith, written_for_zero 0 refl)
written_positive (suc v) = omega (arith, written_as_is (suc v) (λ e. omega arith))

written_lt : (v : ℕ) → v < 65536 → as_written v < 65536
written_lt zero h = omega (arith, written_for_zero 0 refl)
written_lt (suc v) h = omega (arith, written_as_is (suc v) (λ e. omega arith))

pub written_same_modulo : (t v : ℕ) → (t + as_written v) % 65535 ≡ (t + v) % 65535
written_same_modulo t zero = omega (arith, written_for_zero 0 refl)
written_same_modulo t (suc v) = ap (λ (x : ℕ). (t + x) % 65535) (written_as_is (suc v) (λ e. omega arith))

-- a total with what it lacks is a multiple of FFFFh, and as it is written a positive one
lacking : (t : ℕ) → (t + (65535 - reduced t)) % 65535 ≡ 0
lacking zero = omega (arith, reduced_zero)
lacking (suc t) = omega (arith, reduced_positive (suc t) (omega arith))

complete : (t : ℕ) → multiple (t + as_written (65535 - reduced t)) ≡ true
complete t =
    let v = 65535 - reduced t in
    multiple_positive (t + as_written v) (omega (arith, written_positive v)) ∙ eq-eqb ((t + as_written v) % 65535) 0 (written_same_modulo t v ∙ lacking t)

-- so the sum of a range is the same with FFFFh in its field as with 0, where that is not 0
reduced_again : (t : ℕ) → reduced t ≢ 0 → reduced (t + 65535) ≡ reduced t
reduced_again zero h = absurd (h reduced_zero)
reduced_again (suc t) h = omega (arith, reduced_positive (suc t) (omega arith), reduced_positive (suc t + 65535) (omega arith))

pub ffff_sums_as_zero : (k : Check) (s : List ℕ) → Bytes s → k.to ≤ length s → FitField k → sum_of (range k.from k.to (with_field k.field 0 s)) ≢ 0
    → sum_of (range k.from k.to (with_field k.field 65535 s)) ≡ sum_of (range k.from k.to (with_field k.field 0 s))
ffff_sums_as_zero k s b he fit h =
    let summed : (v : ℕ) → v < 65536 → sum_of (range k.from k.to (with_field k.field v s)) ≡ reduced (total (range k.from k.to (with_field k.field v s))) =
    λ v l. sum-reduced _ (range_bytes k.from k.to _ (with_field_bytes k.field v s b l)) in
    let low = summed 0 (omega arith) in
    summed 65535 (omega arith) ∙ ap reduced (total-with_field k s fit he 65535) ∙ reduced_again _ (λ e. h (low ∙ e)) ∙ sym low

-- ---- the packet stamped ----

pub stamped-length : (k : Check) (s : List ℕ) → length (stamped k s) ≡ length s
stamped-length k s = ap length (stamped_is k s) ∙ with_field-length k.field _ s

pub stamped_bytes : (k : Check) (s : List ℕ) → Bytes s → Bytes (stamped k s)
stamped_bytes k s b = rw (stamped_is k s) (with_field_bytes k.field _ s b (written_lt _ (omega arith)))

-- what the field then holds, which is not 0, and that no other byte changed
with_field_field : (f v : ℕ) (s : List ℕ) → f + 1 < length s → field_of f (with_field f v s) ≡ v
unfolding with_field field_of
with_field_field f v s h =
    let low : f < length s = omega arith in
    let high : get_or (set (set s f (v / 256)) (f + 1) (v % 256)) f 0 ≡ v / 256 =
    get_or-set_other (set s f (v / 256)) (f + 1) f (v % 256) 0 (λ e. omega arith) ∙ get_or-set_same s f (v / 256) 0 low in
    omega (arith, high, get_or-set_same (set s f (v / 256)) (f + 1) (v % 256) 0 (simp length-set h))

pub stamped_field : (k : Check) (s : List ℕ) → k.field + 1 < length s
    → field_of k.field (stamped k s) ≡ as_written (65535 - sum_of (range k.from k.to (with_field k.field 0 s)))
stamped_field k s h = ap (field_of k.field) (stamped_is k s) ∙ with_field_field k.field _ s h

pub stamped_not_zero : (k : Check) (s : List ℕ) → k.field + 1 < length s → field_of k.field (stamped k s) ≢ 0
stamped_not_zero k s h e = omega (arith, e, stamped_field k s h, written_positive (65535 - sum_of (range k.from k.to (with_field k.field 0 s))))

pub stamped_other : (k : Check) (s : List ℕ) (i : ℕ) → (i ≡ k.field → ⊥) → (i ≡ k.field + 1 → ⊥) → get_or (stamped k s) i 0 ≡ get_or s i 0
unfolding with_field
stamped_other k s i a b = ap (λ (l : List ℕ). get_or l i 0) (stamped_is k s) ∙ get_or-set_other (set s k.field _) (k.field + 1) i _ 0 b ∙ get_or-set_other s k.field i _ 0 a

-- so the sum decides, and is FFFFh
pub stamp_passes : (k : Check) (s : List ℕ) → Bytes s → k.to ≤ length s → unfit_field k ≡ false → passes k (stamped k s) ≡ true
stamp_passes k s b he hf =
    let z = range k.from k.to (with_field k.field 0 s) in
    let bz = range_bytes k.from k.to (with_field k.field 0 s) (with_field_bytes k.field 0 s b (omega arith)) in
    let fit = fit_field k hf in
    passes-total k (stamped k s) (λ e. omega arith) (stamped_not_zero k s (omega arith)) (stamped_bytes k s b)
    ∙ ap multiple (ap (λ (l : List ℕ). total (range k.from k.to l)) (stamped_is k s) ∙ total-with_field k s fit he (as_written (65535 - sum_of z)) ∙ ap (λ (x : ℕ). total z + as_written (65535 - x)) (sum-reduced z bz))
    ∙ complete (total z)
