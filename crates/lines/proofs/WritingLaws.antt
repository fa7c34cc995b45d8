-- A text written part by part: what is stored so far, with what is still to come, is the whole text.
use mathlib.Core.Path.{◌≡◌, refl, sym, ap, ◌∙◌}
use mathlib.Core.List.{List, [], ◌∷◌, ◌++◌}
use Prim.Native.Nat.{ℕ, ◌+◌, ◌≤◌}
use native.Mathlib.Omega.{arith}
use lib.ListN.{length, take, set, length-append}
use lib.Seq.{sets, length-sets, take_at}
use Rattle.lines.specs.Decimal.{decimal}
use Rattle.lines.specs.Writing.{Stored, Front}
use Rattle.lines.proofs.StoreLaws.{sets_append, sets_start}

-- out and next, with `rest` still to be stored from next on, come from out₀ and to with `whole` to be stored
pub record Writing (out₀ : List ℕ) (to : ℕ) (whole out : List ℕ) (next : ℕ) (rest : List ℕ) : Type 0 where
  pub place : next + length rest ≡ to + length whole
  pub bytes : sets out next rest ≡ sets out₀ to whole
  pub size : length out ≡ length out₀

module _ {out₀ : List ℕ} {to : ℕ} {whole out : List ℕ} {next : ℕ} where
  -- the first part of what is to come is stored
  pub writing_part : (part rest : List ℕ) → Writing out₀ to whole out next (part ++ rest)
      → (out' : List ℕ) (next' : ℕ) → out' ≡ sets out next part → next' ≡ next + length part
      → Writing out₀ to whole out' next' rest
  writing_part part rest w out' next' e f =
      record {
        place = omega (arith, w.place, length-append part rest);
        bytes = rw (e, f) (sym (sets_append part rest out next) ∙ w.bytes);
        size = ap length e ∙ length-sets out next part ∙ w.size;
      }

  pub writing_byte : (b : ℕ) (rest : List ℕ) → Writing out₀ to whole out next (b ∷ rest)
      → Writing out₀ to whole (set out next b) (next + 1) rest
  writing_byte b rest w = writing_part (b ∷ []) rest w (set out next b) (next + 1) refl refl

  pub writing_stored : Writing out₀ to whole out next [] → Stored out₀ to whole next out
  writing_stored w = record { place = omega (arith, w.place); bytes = w.bytes }

-- two texts stored one behind the other are both, joined
pub stored_joined : {out mid after : List ℕ} {to middle next : ℕ} (word text : List ℕ)
    → Stored out to word middle mid → Stored mid middle text next after → Stored out to (word ++ text) next after
stored_joined {out} {mid} {after} {to} {middle} {next} word text g h =
    record {
      place = omega (arith, g.place, h.place, length-append word text);
      bytes = h.bytes ∙ rw (g.bytes, g.place) (sym (sets_append word text out to));
    }

-- a number is stored as any that equals it
pub stored_as : {out : List ℕ} {to v q next : ℕ} {after : List ℕ} → Stored out to (decimal v) next after → v ≡ q → Stored out to (decimal q) next after
stored_as h e = rw e at h

-- a text stored from the start on can be taken from there
pub stored_text : {out : List ℕ} {text : List ℕ} {n : ℕ} {after : List ℕ} → Stored out 0 text n after → Front n after → take n after ≡ text
stored_text {out} {text} {n} {after} h f =
    let e : n ≡ length text = omega (arith, h.place) in
    let l : length text ≤ length out = omega (arith, f.0, ap length h.bytes, length-sets out 0 text) in
    rw (h.bytes, e, sets_start text out l) (take_at text _ (length text) refl)
