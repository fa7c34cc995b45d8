-- A byte more behind a remainder of ccitt.
use mathlib.Core.Path.{◌≡◌, refl, sym, ap, ◌∙◌}
use mathlib.Core.List.{List}
use Prim.Native.Nat.{ℕ, ◌+◌, ◌*◌, ◌/◌, ◌%◌, ◌^◌, ◌<◌}
use native.Mathlib.Omega.{arith}
use native.Mathlib.Nat.{zero-add}
use lib.Bits.{bit_xor}
use lib.ListN.{length, get_or}
use Rattle.poly.specs.Polynomial.{rem, degree, degree_in}
use Rattle.poly.specs.Generators.{unfit, ccitt}
use Rattle.poly.specs.Fit.{Fit}
use Rattle.poly.proofs.DivisionLaws.{rem_top}
use Rattle.poly.proofs.GeneratorLaws.{fit_accepted}
use Rattle.tables.proofs.TableLaws.{length-values, get_or_values}
use Rattle.ccitt.specs.ByteTable.{byte_entry, byte_table}

pub ccitt-degree : ccitt.degree ≡ 16
unfolding degree degree_in
ccitt-degree = refl

pub ccitt_fit : Fit ccitt
unfolding unfit degree degree_in
ccitt_fit = fit_accepted 0x11021 refl

-- what was tested of the whole table, at each entry
pub entry_at : (b : ℕ) {table : List ℕ} → table ≡ byte_table → b < 256 → get_or table b 0 ≡ byte_entry b
unfolding byte_table
entry_at b is h = ap (λ (l : List ℕ). get_or l b 0) is ∙ get_or_values byte_entry 256 0 b h ∙ ap byte_entry (zero-add b)

pub table_length : {table : List ℕ} → table ≡ byte_table → length table ≡ 256
unfolding byte_table
table_length is = ap length is ∙ length-values byte_entry 256 0

-- the high byte of r is looked up; its low byte and b stand below x^16
pub by_entry : (r b : ℕ) {table : List ℕ} {top low : ℕ} → r < 2 ^ 16 → b < 256 → table ≡ byte_table → top ≡ r / 256 → low ≡ r % 256 * 256 + b
    → bit_xor (get_or table top 0) low ≡ rem ccitt.degree ccitt.coefficients (r * 256 + b)
unfolding byte_entry degree degree_in
by_entry r b {top = top} {low = low} h k is high rest =
    let places : r * 256 + b ≡ top * 2 ^ 16 + low = omega arith in
    ap (λ (x : ℕ). bit_xor x low) (entry_at top is (omega arith))
    ∙ sym
    (ap (rem ccitt.degree ccitt.coefficients) places
    ∙ rem_top ccitt.degree ccitt.coefficients ccitt_fit.divisor.low ccitt_fit.divisor.high top low (omega arith))
