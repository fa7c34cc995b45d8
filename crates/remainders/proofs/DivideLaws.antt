-- Division of bytes behind a register, one byte after the other, however a byte is taken in.
use mathlib.Core.Path.{◌≡◌, sym, ap, ◌∙◌}
use mathlib.Core.List.{List}
use Prim.Native.Nat.{ℕ, ◌+◌, ◌*◌, ◌^◌, ◌<◌, ◌≤◌}
use native.Mathlib.Numerals.{add-one}
use lib.ListN.{length, take, get_or}
use lib.Seq.{take_all}
use Rattle.poly.specs.Polynomial.{rem}
use Rattle.poly.specs.Fit.{Fit}
use Rattle.poly.specs.declared.Generator.{Generator}
use Rattle.poly.proofs.DivisionLaws.{rem_small, rem_lt, rem_block}
use Rattle.packet.specs.Packet.{Bytes, polynomial_after}
use Rattle.packet.proofs.PacketLaws.{after_nil, after_take}

-- r is the remainder of the register and the first i bytes
abbrev pub Divided : Generator → ℕ → List ℕ → ℕ → ℕ → Type 0
Divided g register s i r = r ≡ rem g.degree g.coefficients (polynomial_after register (take i s))

module _ (g : Generator) (fit : Fit g) (register : ℕ) (s : List ℕ) where
  pub divided_lt : (i : ℕ) {r : ℕ} → Divided g register s i r → r < 2 ^ g.degree
  divided_lt i e = rw e (rem_lt g.degree g.coefficients fit.divisor.low fit.divisor.high (polynomial_after register (take i s)))

  pub divided_none : register < 2 ^ g.degree → Divided g register s 0 register
  divided_none h = sym (ap (rem g.degree g.coefficients) (after_nil register) ∙ rem_small g.degree g.coefficients register h)

  pub divided_more : (i : ℕ) {r t : ℕ} → Bytes s → i < length s → Divided g register s i r
      → t ≡ rem g.degree g.coefficients (r * 256 + get_or s i 0) → Divided g register s (i + 1) t
  divided_more i b h e more =
      more
      ∙ ap (λ (x : ℕ). rem g.degree g.coefficients (x * 256 + get_or s i 0)) e
      ∙ rem_block g.degree g.coefficients fit.divisor.low fit.divisor.high 8 (polynomial_after register (take i s)) (get_or s i 0) (b i)
      ∙ ap (rem g.degree g.coefficients) (sym (ap (λ (k : ℕ). polynomial_after register (take k s)) (add-one i) ∙ after_take register s i h))

  pub divided_all : (i : ℕ) {r : ℕ} → length s ≤ i → Divided g register s i r → r ≡ rem g.degree g.coefficients (polynomial_after register s)
  divided_all i h e = e ∙ ap (λ (p : List ℕ). rem g.degree g.coefficients (polynomial_after register p)) (take_all i s h)
