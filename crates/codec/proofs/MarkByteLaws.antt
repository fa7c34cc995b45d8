-- Marks as bytes: what reading and writing them comes to, and that a mark which was written is read back.
use mathlib.Core.Path.{◌≡◌, refl, ap}
use mathlib.Core.Bool.{true}
use mathlib.Core.List.{List, ◌++◌}
use Prim.Native.Nat.{ℕ, ◌-◌, ◌≤◌}
use native.Mathlib.Omega.{arith}
use lib.Dec.{ltb}
use lib.ListN.{length, get_or, replicate, length-append, length-replicate}
use borrow.Author.Tests.{eq-eqb, ne_eqb, le-leb, lt-leb}
use Rattle.base.proofs.Cases.{by_test, by_equal}
use Rattle.patterns.specs.Patterns.{most_positions, Point, start, ended, after}
use Rattle.patterns.specs.Listing.{ascending}
use Rattle.patterns.specs.Marks.{unfit_pattern, unfit_mark}
use Rattle.records.specs.Records.{record_of, longest_record}
use Rattle.records.proofs.PageLaws.{record_length}
use Rattle.records.proofs.RecordLaws.{record_back}
use Rattle.codec.specs.Marks.{malformed, point_by_kind, point_of_bytes, NoMark, other_length, other_first, padded, mark_bytes}

-- ---- bytes that are no mark ----

-- no length and no limit makes the mark of malformed bytes fit: condition 7 always applies to it
pub malformed-unfit : (l limit : ℕ) → unfit_mark l limit malformed ≡ true
unfolding unfit_pattern ascending
malformed-unfit l limit =
    by_test (ltb limit 2) (λ h. rw h) (λ h. rw h (by_test (ltb 0 l) (λ k. rw k) (λ k. rw k)))

pub no_mark_malformed : {s : List ℕ} → NoMark s → point_of_bytes s ≡ malformed
unfolding point_of_bytes
no_mark_malformed {s} (other_length h) = rw (ne_eqb (length s) longest_record h)
no_mark_malformed {s} (other_first above below) =
    by_equal (length s) longest_record
    (λ e.
    rw (
      eq-eqb (length s) longest_record e,
      ne_eqb (get_or s 0 0) 254 (λ k. omega arith),
      ne_eqb (get_or s 0 0) 255 (λ k. omega arith),
      lt-leb (get_or s 0 0) most_positions above,
    ))
    (λ h. rw (ne_eqb (length s) longest_record h))

-- ---- reading back ----

pub padded-length : (s : List ℕ) → length s ≤ longest_record → length (padded s) ≡ longest_record
padded-length s h = simp (length-append, length-replicate) (omega arith)

-- of a mark's pattern, not more positions than the bytes have room for
pub data Short : Point → Type 0 where
  at_start : Short start
  at_end : Short ended
  behind : {ps : List ℕ} → length ps ≤ most_positions → Short (after ps)

-- a record's first byte is neither of the two other kinds
after_record : (ps t : List ℕ) → length ps ≤ most_positions → point_by_kind (record_of ps ++ t) ≡ after ps
unfolding record_of
after_record ps t h =
    let a : length ps ≡ 254 → ⊥ = λ e. omega arith in
    let b : length ps ≡ 255 → ⊥ = λ e. omega arith in
    rw (ne_eqb (length ps) 254 a, ne_eqb (length ps) 255 b, le-leb (length ps) most_positions h) (ap after (record_back ps t))

pub read_back : {p : Point} → Short p → point_of_bytes (mark_bytes p) ≡ p
unfolding point_of_bytes mark_bytes
read_back at_start = refl
read_back at_end = refl
read_back (behind {ps = ps} h) =
    rw (eq-eqb (length (padded (record_of ps))) longest_record (padded-length (record_of ps) (omega (arith, record_length ps)))) (after_record ps (replicate (longest_record - length (record_of ps)) 0) h)
