-- A run of stores of joined texts is the two runs, one behind the other.
use mathlib.Core.Path.{◌≡◌, sym, ap, ◌∙◌}
use mathlib.Core.List.{List, [], ◌∷◌, ◌++◌}
use Prim.Native.Nat.{ℕ, suc, ◌+◌, ◌/◌, ◌%◌, ◌<◌, ◌≤◌}
use native.Mathlib.Omega.{arith}
use lib.ListN.{length, drop, set, length-append}
use lib.Seq.{sets, sets-eq}
use Rattle.lines.specs.Decimal.{decimal}
use Rattle.lines.proofs.DecimalLaws.{decimal_small, decimal_step}

pub sets_append : (a b out : List ℕ) (to : ℕ) → sets out to (a ++ b) ≡ sets (sets out to a) (to + length a) b
sets_append [] b out to = ap (λ (k : ℕ). sets out k b) (omega arith)
sets_append (x ∷ a) b out to =
    sets_append a b (sets out to (x ∷ [])) (suc to)
    ∙ ap (λ (k : ℕ). sets (sets out to (x ∷ a)) k b) (omega arith)

-- from the start on, that is the text and what stands beyond it
pub sets_start : (text out : List ℕ) → length text ≤ length out → sets out 0 text ≡ text ++ drop (length text) out
sets_start text out h =
    let e : 0 + length text ≡ length text = omega arith in
    sets-eq text out 0 (omega arith) ∙ ap (λ (k : ℕ). text ++ drop k out) e

-- what is stored of a number: its one digit, or the number without its last digit and then that digit
module _ (v : ℕ) (out : List ℕ) (to : ℕ) where
  pub length_small : v < 10 → length (decimal v) ≡ 1
  length_small h = rw (decimal_small v h)

  pub store_small : v < 10 → set out to (48 + v) ≡ sets out to (decimal v)
  store_small h = rw (decimal_small v h)

  pub length-step : 10 ≤ v → length (decimal v) ≡ length (decimal (v / 10)) + 1
  length-step h = rw (decimal_step v h) (length-append (decimal (v / 10)) ((48 + v % 10) ∷ []))

  pub store_step : (last : ℕ) → 10 ≤ v → last ≡ to + length (decimal (v / 10))
      → set (sets out to (decimal (v / 10))) last (48 + v % 10) ≡ sets out to (decimal v)
  store_step last h e =
      rw (e, decimal_step v h) (sym (sets_append (decimal (v / 10)) ((48 + v % 10) ∷ []) out to))
