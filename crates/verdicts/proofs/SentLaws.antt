-- The packet sent: any packet of bytes as long as the received one that passes both checks and differs from it in at
-- most so many bits. The set of the bits that differ is listed and leads to the packet sent, so it is among those that
-- pass: none is never said, and where just one passes it is that one.
-- Where the received packet itself passes both checks the verdict is intact, whatever was sent: that is neither none nor
-- a repair, and the output then stays as it was.
use mathlib.Core.Path.{◌≡◌, sym, ap, ◌∙◌}
use mathlib.Core.Bool.{true}
use mathlib.Core.List.{List}
use Prim.Native.Nat.{ℕ, ◌≤◌}
use lib.Bits.{bit_xor}
use lib.ListN.{length}
use Rattle.base.specs.Lists.{Ascending}
use Rattle.base.proofs.XorLaws.{xor_zero_equal}
use Rattle.poly.specs.Fit.{Fit}
use Rattle.packet.specs.Packet.{Bytes, bits, remainder, flips, difference}
use Rattle.packet.specs.declared.Crc.{Crc}
use Rattle.packet.proofs.FlipLaws.{flips-length}
use Rattle.packet.proofs.DifferenceLaws.{difference-ascending, flips-difference, flips_twice}
use Rattle.checksum.specs.declared.Check.{Check}
use Rattle.patterns.specs.Listing.{syndrome}
use Rattle.patterns.proofs.ListingLaws.{listed_iff}
use Rattle.verdicts.specs.Verdicts.{passes_both, repaired, nothing, verdict, output_for, Leads}
use Rattle.verdicts.proofs.VerdictLaws.{both_passed, remainder-syndrome, verdict_nothing, verdict_repaired, output_repaired}

-- ---- the packet sent ----

module _ (c : Crc) (k : Check) (limit : ℕ) (s : List ℕ) (fit : Fit c.generator) (bs : Bytes s) where
  -- a set of few enough positions that makes a passing packet of the received one is listed
  set_leads : (t ps : List ℕ) → Ascending (bits s) 0 ps → length ps ≤ limit → flips s ps ≡ t → passes_both c k t ≡ true → Leads c k limit s ps
  set_leads t ps h few made pass =
      let cancels : bit_xor (remainder c s) (syndrome c.generator.degree c.generator.coefficients ps) ≡ 0 =
      sym (remainder-syndrome c k limit s fit bs ps h) ∙ ap (remainder c) made ∙ (both_passed c k t pass).0 in
      record {
        listed = (listed_iff c.generator.degree c.generator.coefficients (bits s) limit (remainder c s) ps).1 (h, few, sym (xor_zero_equal _ _ cancels));
        passing = rw made pass;
      }

  -- none is not said, and a repair is t
  abbrev Sent : List ℕ → List ℕ → Type 0
  Sent t out =
      (verdict c k limit s ≡ nothing → ⊥)
      × ((p : List ℕ) → verdict c k limit s ≡ repaired p → (flips s p ≡ t) × (output_for c k limit s out ≡ t))

  -- it is so where a set that makes t leads to a passing packet
  leads_sent : (t ps : List ℕ) → Leads c k limit s ps → flips s ps ≡ t → (out : List ℕ) → Sent t out
  leads_sent t ps l made out = (
    λ h. ((verdict_nothing c k limit s fit bs).0 h).1 ps l,
    λ p h.
        let same : ps ≡ p = ((verdict_repaired c k limit s fit bs p).0 h).2 ps l in
        let sent : flips s p ≡ t = ap (flips s) (sym same) ∙ made in
        (sent, output_repaired c k limit s p out h ∙ sent),
  )

  -- the sent_packet theorem
  pub sent_packet : (t : List ℕ) → Bytes t → length s ≡ length t → passes_both c k t ≡ true → length (difference s t) ≤ limit → (out : List ℕ)
      → (verdict c k limit s ≡ nothing → ⊥)
      × ((p : List ℕ) → verdict c k limit s ≡ repaired p → (flips s p ≡ t) × (output_for c k limit s out ≡ t))
  sent_packet t bt same pass few =
      let made = flips-difference s t bs bt same in
      leads_sent t (difference s t) (set_leads t (difference s t) (difference-ascending s t) few made pass) made

  -- the same, where the received packet is the sent one with a set of at most so many bits flipped, whichever they are
  pub sent_flipped : (t ps : List ℕ) → Bytes t → Ascending (bits t) 0 ps → length ps ≤ limit → s ≡ flips t ps → passes_both c k t ≡ true
      → (out : List ℕ)
      → (verdict c k limit s ≡ nothing → ⊥)
      × ((p : List ℕ) → verdict c k limit s ≡ repaired p → (flips s p ≡ t) × (output_for c k limit s out ≡ t))
  sent_flipped t ps bt h few received pass =
      let made : flips s ps ≡ t = ap (λ (l : List ℕ). flips l ps) received ∙ flips_twice t ps bt h in
      let long : length s ≡ length t = ap length received ∙ flips-length t ps in
      leads_sent t ps (set_leads t ps (rw long h) few made pass) made
