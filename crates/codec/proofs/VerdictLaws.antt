-- Verdicts as bytes: what writing their parts one after the other comes to, and how many bytes they are.
use mathlib.Core.Path.{◌≡◌, refl, sym, ap, ap₂, ◌∙◌}
use mathlib.Core.List.{List, [], ◌∷◌, ◌++◌, append-nil}
use Prim.Native.Nat.{ℕ, zero, suc, ◌-◌, ◌/◌, ◌%◌, ◌^◌, ◌≤◌}
use native.Mathlib.Omega.{arith}
use lib.ListN.{length, take, drop, set, length-append, length-drop, drop_of_length-le}
use lib.Seq.{take_at, take-suc-set}
use Rattle.std.proofs.Math.Nat.{pow-succ', div-div-eq-div-mul}
use Rattle.std.specs.Int.{byte_at, bytes_high_first}
use borrow.Rule.Slice.PartMut.{post_of, put_mid}
use Rattle.packet.specs.Packet.{bytes_of}
use Rattle.packet.proofs.PacketLaws.{length_bytes}
use Rattle.patterns.specs.Patterns.{most_positions}
use Rattle.records.specs.Records.{record_of, longest_record}
use Rattle.records.proofs.PageLaws.{record_length}
use Rattle.codec.specs.Marks.{padded}
use Rattle.codec.specs.Verdicts.{verdict_length, laid}
use Rattle.codec.proofs.MarkByteLaws.{padded-length}

-- ---- the bytes of a number ----

module _ (v : ℕ) where
  byte_below : (k : ℕ) → byte_at (suc k) v ≡ byte_at k (v / 256)
  byte_below zero = refl
  byte_below (suc k) =
      ap (λ (q : ℕ). q % 256)
      (ap (λ (p : ℕ). v / p) (pow-succ' 256 (suc k)) ∙ sym (div-div-eq-div-mul v 256 (256 ^ suc k)))

  last_byte : (k : ℕ) → bytes_high_first (suc k) v ≡ bytes_high_first k (v / 256) ++ (v % 256 ∷ [])
  last_byte zero = refl
  last_byte (suc k) = ap₂ (λ (b : ℕ) (bs : List ℕ). b ∷ bs) (byte_below k) (last_byte k)

-- std's bytes, high byte first, are ours
pub high_first : (k v : ℕ) → bytes_high_first k v ≡ bytes_of k v
unfolding bytes_of
high_first zero v = refl
high_first (suc k) v = last_byte v k ∙ ap (λ (bs : List ℕ). bs ++ (v % 256 ∷ [])) (high_first k (v / 256))

-- ---- a verdict in parts: its kind, then a number in eight bytes, then a record ----

module _ (l : List ℕ) (x : ℕ) (full : length l ≡ verdict_length) (ys : List ℕ) (eight : length ys ≡ 8) where
  begun : List ℕ
  begun = put_mid 1 8 (set l 0 x) ys

  front : take 9 begun ≡ x ∷ ys
  unfolding begun
  front =
      ap (λ (t : List ℕ). take 9 (t ++ (ys ++ post_of 1 8 (set l 0 x)))) (take-suc-set l 0 x (omega arith))
      ∙ ap (λ (t : List ℕ). x ∷ t) (take_at ys (post_of 1 8 (set l 0 x)) 8 eight)

  pub parts_laid : (zs : List ℕ) → put_mid 9 (length (put_mid 1 8 (set l 0 x) ys) - 9) (put_mid 1 8 (set l 0 x) ys) zs ≡ x ∷ (ys ++ zs)
  unfolding begun
  parts_laid zs =
      ap₂ (λ (s t : List ℕ). s ++ (zs ++ t)) front (drop_of_length-le (drop 9 begun) (omega (arith, length-drop 9 begun)))
      ∙ ap (λ (t : List ℕ). x ∷ (ys ++ t)) (append-nil zs)

-- the parts together are as long as a verdict is
pub laid-length : (kind count : ℕ) (ps : List ℕ) → length ps ≤ most_positions → length (laid kind count ps) ≡ verdict_length
laid-length kind count ps h =
    let n : length (record_of ps) ≤ longest_record = omega (arith, record_length ps) in
    omega (arith, length-append (bytes_of 8 count) (padded (record_of ps)), length_bytes 8 count, padded-length (record_of ps) n)
