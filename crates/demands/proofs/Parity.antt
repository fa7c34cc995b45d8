-- What parity tells of the calls, for a generator with an even number of ones (docs/RULES.md, section 10). Of every pattern and at
-- every degree: patterns/ParityLaws `count_parity`.
use mathlib.Core.Path.{◌≡◌, refl, subst, ◌∙◌}
use mathlib.Core.List.{List, [], ◌∷◌}
use Prim.Native.Nat.{ℕ, zero, suc, ◌+◌, ◌-◌, ◌%◌, ◌<◌}
use native.Mathlib.Omega.{arith}
use lib.Bits.{bit_xor}
use lib.Count.{ones}
use lib.ListN.{length, take}
use lib.Seq.{length-take-le}
use Rattle.base.specs.Lists.{In, here, there, All, none, each}
use Rattle.base.specs.Outcome.{accepted}
use Rattle.base.proofs.JudgeLaws.{judge_clear, judge_value}
use Rattle.poly.specs.Polynomial.{rem, powers}
use Rattle.poly.specs.Fit.{Fit}
use Rattle.poly.proofs.GeneratorLaws.{fit_accepted}
use Rattle.poly.proofs.ParityLaws.{parity_xor}
use Rattle.packet.specs.Packet.{Bytes, bits, remainder, flips}
use Rattle.packet.specs.declared.Crc.{Crc}
use Rattle.crc.specs.Calls.{packet_conditions, remainder_call}
use Rattle.checksum.specs.declared.Check.{Check}
use Rattle.patterns.specs.Listing.{syndrome}
use Rattle.records.specs.Records.{records}
use Rattle.records.specs.Sequences.{joined, reported}
use Rattle.patterns.proofs.ParityLaws.{count_parity, listed_parity, counts_differ_by_even}
use Rattle.pages.specs.Sequences.{Lending, accepted_calls}
use Rattle.verdicts.specs.Verdicts.{packet_list, Said, repaired, several, verdict}
use Rattle.repair.specs.Calls.{repair_call, repair_conditions}
use Rattle.verdicts.proofs.VerdictLaws.{verdict_repaired, verdict_several}
use Rattle.demands.specs.Demand2.{Numbered}
use Rattle.demands.specs.Demand3.{Supposed, repair_with}
use Rattle.demands.proofs.Demand2.{flips-add}
use Rattle.demands.proofs.Demand3.{fit_of, pages_joined}

all_taken : {A : Type 0} {P : A → Type 0} (xs : List A) (k : ℕ) → ((x : A) → In x xs → P x) → All P (take k xs)
all_taken xs zero h = none
all_taken [] (suc k) h = none
all_taken (x ∷ xs) (suc k) h = each (h x (here refl)) (all_taken xs k (λ y i. h y (there i)))

-- flipping bits of an accepted packet adds their number to that of ones in the call's remainder, modulo 2
pub flips_parity : (c : Crc) → Numbered c → ones c.generator.coefficients % 2 ≡ 0 → (s : List ℕ) → Bytes s
    → (r : ℕ) → remainder_call c s ≡ accepted r → (ps : List ℕ) → All (λ (p : ℕ). p < bits s) ps
    → (q : ℕ) × (remainder_call c (flips s ps) ≡ accepted q) × (ones q % 2 ≡ (ones r + length ps) % 2)
unfolding syndrome
flips_parity c numbered even s b r h ps within =
    let n : ℕ = c.generator.degree in
    let g : ℕ = c.generator.coefficients in
    let added : ℕ = rem n g (powers ps) in
    let fit = subst Fit numbered (fit_accepted g (judge_clear (packet_conditions c (bits s)) (remainder c s) r h 1)) in (
      bit_xor r added,
      flips-add c numbered s b r h ps within,
      omega (arith, parity_xor r added, count_parity n g fit.divisor even ps),
    )

-- an accepted packet, initial and final value, range, field and limit
module _ (c : Crc) (k : Check) (limit : ℕ) (s : List ℕ) (supposed : Supposed c k limit s) (even : ones c.generator.coefficients % 2 ≡ 0) where
  -- a listed pattern's number of positions and the remainder's number of ones are both even or both odd
  pub the_counts : (ps : List ℕ) → In ps (packet_list c limit s) → length ps % 2 ≡ ones (remainder c s) % 2
  the_counts =
      listed_parity c.generator.degree c.generator.coefficients (fit_of supposed).divisor even (bits s) limit (remainder c s)

  -- of two patterns of the list, one has as many positions as the other or an even number more
  pub the_differences : (p q : List ℕ) → In p (packet_list c limit s) → In q (packet_list c limit s) → (length p - length q) % 2 ≡ 0
  the_differences =
      counts_differ_by_even c.generator.degree c.generator.coefficients (fit_of supposed).divisor even (bits s) limit (remainder c s)

  -- so it is with every record of a sequence of page calls
  pub pages_parity : (lendings : List Lending)
      → let cs = accepted_calls c.generator.coefficients (bits s) limit (remainder c s) lendings in
      (xs : List (List ℕ)) × (joined cs ≡ records xs) × (length xs ≡ reported cs)
      × All (λ (ps : List ℕ). length ps % 2 ≡ ones (remainder c s) % 2) xs
  pages_parity lendings =
      let n : ℕ = reported (accepted_calls c.generator.coefficients (bits s) limit (remainder c s) lendings) in
      let j = pages_joined c k limit s supposed lendings in
      (take n (packet_list c limit s), j.0, length-take-le n (packet_list c limit s) j.1, all_taken (packet_list c limit s) n the_counts)

  -- and with the pattern that an accepted repair names
  pub verdict_parity : (lent : Lending) (v : Said) → repair_call (repair_with c k limit s lent) ≡ accepted v
      → ((p : List ℕ) → v ≡ repaired p → length p % 2 ≡ ones (remainder c s) % 2)
      × ((n : ℕ) (p : List ℕ) → v ≡ several n p → length p % 2 ≡ ones (remainder c s) % 2)
  verdict_parity lent v told =
      let said = judge_value (repair_conditions (repair_with c k limit s lent)) (verdict c k limit s) v told in
      let fit = fit_of supposed in (
        λ p h. the_counts p ((verdict_repaired c k limit s fit supposed.bytes p).0 (said ∙ h)).1.listed,
        λ n p h. the_counts p ((verdict_several c k limit s fit supposed.bytes n p).0 (said ∙ h)).3.meets.listed,
      )
