-- When a packet passes, which listed patterns lead to a passing packet, and the verdict that follows.
use Rattle.std.specs.Prelude.{ℕ, ◌≡◌, Bool, true, ◌&&◌, List, [], ◌∷◌, eqb, length}
use Rattle.base.specs.Lists.{In}
use Rattle.base.specs.Outcome.{pick}
use Rattle.packet.specs.Packet.{bits, remainder, flips}
use Rattle.packet.specs.declared.Crc.{Crc}
use Rattle.checksum.specs.Checksum.{passes}
use Rattle.checksum.specs.declared.Check.{Check}
use Rattle.patterns.specs.Patterns.{positions}
use Rattle.patterns.specs.Order.{before}
use Rattle.patterns.specs.StrictOrder.{Foremost}
use Rattle.patterns.specs.Listing.{listing, sift}
use Rattle.verdicts.specs.declared.Verdict.{Verdict}
use Rattle.verdicts.specs.declared.Verdict.TheVariants.{Intact, Repaired, Several, None}

-- both checks: the CRC, which is passed with remainder 0, and the second check
unfoldable pub passes_both : Crc → Check → List ℕ → Bool
passes_both c k s = eqb (remainder c s) 0 && passes k s

-- the list of a packet: every set of at most so many positions with its remainder
abbrev pub packet_list : Crc → ℕ → List ℕ → List (List ℕ)
packet_list c limit s = listing c.generator.degree c.generator.coefficients (bits s) limit (remainder c s)

-- the listed patterns that lead to a packet which passes the second check
unfoldable pub candidates : Crc → Check → ℕ → List ℕ → List (List ℕ)
candidates c k limit s = sift (λ ps. passes k (flips s ps)) (packet_list c limit s)

-- the four verdicts
pub data Said : Type 0 where
  intact : Said
  repaired : List ℕ → Said
  several : ℕ → List ℕ → Said
  nothing : Said

abbrev pub said : Verdict → Said
said Intact = intact
said (Repaired p) = repaired (positions p)
said (Several n p) = several n (positions p)
said None = nothing

-- the verdict by the patterns that pass: of several it has their number and the first
abbrev pub settled : List (List ℕ) → Said
settled [] = nothing
settled (p ∷ []) = repaired p
settled (p ∷ q ∷ ps) = several (length (p ∷ q ∷ ps)) p

-- the verdict on a packet
abbrev pub verdict : Crc → Check → ℕ → List ℕ → Said
verdict c k limit s = pick (passes_both c k s) intact (settled (candidates c k limit s))

-- the flipped packet where one pattern passes, and else what was there
abbrev pub mended : List (List ℕ) → List ℕ → List ℕ → List ℕ
mended [] s out = out
mended (p ∷ []) s out = flips s p
mended (p ∷ q ∷ ps) s out = out

-- the output for a packet: it changes only for Repaired
abbrev pub output_for : Crc → Check → ℕ → List ℕ → List ℕ → List ℕ
output_for c k limit s out = pick (passes_both c k s) out (mended (candidates c k limit s) s out)

-- ---- the same in demand 3's words; VerdictLaws joins the two ----

-- a listed set that leads to a passing packet: the packet with those bits flipped passes both checks
pub record Leads (c : Crc) (k : Check) (limit : ℕ) (s ps : List ℕ) : Type 0 where
  pub listed : In ps (packet_list c limit s)
  pub passing : passes_both c k (flips s ps) ≡ true

-- the listed sets that do
abbrev pub leading : Crc → Check → ℕ → List ℕ → List (List ℕ)
leading c k limit s = sift (λ ps. passes_both c k (flips s ps)) (packet_list c limit s)

-- the set that stands first, in the list's order, of those that meet P
abbrev pub Earliest : (List ℕ → Type 0) → List ℕ → Type 0
Earliest P ps = Foremost before P ps
