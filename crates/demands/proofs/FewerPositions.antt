-- What the most positions of a pattern decide, of the calls. At a limit within fewer positions a page and a repair are what they would be
-- if patterns held no more than these; and Several's number fits 64 bits.
use mathlib.Core.Path.{◌≡◌, refl}
use mathlib.Core.List.{List}
use Prim.Native.Nat.{ℕ, ◌+◌, ◌*◌, ◌^◌, ◌<◌, ◌≤◌}
use native.Mathlib.Omega.{arith}
use borrow.Author.Tests.{le-ltb}
use lib.ListN.{length}
use Rattle.base.specs.Outcome.{accepted}
use Rattle.base.proofs.JudgeLaws.{judge_value}
use Rattle.packet.specs.Packet.{bits, remainder, flips}
use Rattle.packet.specs.declared.Crc.{Crc}
use Rattle.packet.proofs.PacketLaws.{fit_length}
use Rattle.checksum.specs.declared.Check.{Check}
use Rattle.patterns.specs.Patterns.{most_positions, Point}
use Rattle.patterns.specs.Listing.{unfit_limit}
use Rattle.patterns.proofs.CountLaws.{listing_fits}
use Rattle.patterns.proofs.MarkLaws.{fit_limit}
use Rattle.patterns.proofs.SiftLaws.{sift-length}
use Rattle.records.specs.Records.{longest_record}
use Rattle.pages.specs.Conditions.{Request, unfit_output}
use Rattle.pages.specs.Calls.{page_call, page_left}
use Rattle.pages.specs.Sequences.{Lending}
use Rattle.verdicts.specs.Verdicts.{passes_both, packet_list, several, verdict}
use Rattle.verdicts.proofs.VerdictLaws.{verdict_several}
use Rattle.repair.specs.Calls.{Repair, repair_conditions, repair_call, repair_output}
use Rattle.demands.specs.Demand3.{Supposed, repair_with}
use Rattle.demands.specs.FewerPositions.{limit_beyond, room_below, page_call_within, page_left_within, repair_call_within, repair_output_within}
use Rattle.demands.proofs.Demand3.{fit_of}

module _ (most : ℕ) (fewer : most ≤ most_positions) where
  same_limit : (limit : ℕ) → limit ≤ most → limit_beyond most limit ≡ unfit_limit limit
  unfolding unfit_limit
  same_limit limit h = rw (le-ltb most limit h, le-ltb most_positions limit (omega arith))

  same-room : (room : ℕ) → longest_record ≤ room → room_below most room ≡ unfit_output room
  unfolding unfit_output
  same-room room h = rw (le-ltb room (1 + 2 * most) (omega arith), le-ltb room longest_record h)

  -- of every input, refused or accepted
  pub same_page : (r : Request) (m : Point) → r.limit ≤ most → longest_record ≤ length r.output
      → (page_call r m ≡ page_call_within most r m) × (page_left r m ≡ page_left_within most r m)
  same_page r m h room = (rw (same_limit r.limit h, same-room _ room), rw (same_limit r.limit h, same-room _ room))

  pub same_repair : (r : Repair) → r.limit ≤ most → (repair_call r ≡ repair_call_within most r) × (repair_output r ≡ repair_output_within most r)
  same_repair r h = (rw (same_limit r.limit h), rw (same_limit r.limit h))

-- with as many as a pattern holds they are the calls, at every limit and with every output
pub most_page : (r : Request) (m : Point) → (page_call r m ≡ page_call_within most_positions r m) × (page_left r m ≡ page_left_within most_positions r m)
unfolding unfit_limit unfit_output
most_page r m = (refl, refl)

pub most_repair : (r : Repair) → (repair_call r ≡ repair_call_within most_positions r) × (repair_output r ≡ repair_output_within most_positions r)
unfolding unfit_limit
most_repair r = (refl, refl)

-- the number that Several has
module _ (c : Crc) (k : Check) (limit : ℕ) (s : List ℕ) (supposed : Supposed c k limit s) (lent : Lending) where
  pub several_fits : (n : ℕ) (q : List ℕ) → repair_call (repair_with c k limit s lent) ≡ accepted (several n q) → n < 2 ^ 64
  several_fits n q told =
      let said = judge_value (repair_conditions (repair_with c k limit s lent)) (verdict c k limit s) (several n q) told in
      let many = ((verdict_several c k limit s (fit_of supposed) supposed.bytes n q).0 said).2 in
      let long = (fit_length c.generator.degree (bits s) supposed.fit_length).1 in
      omega (
        arith,
        many,
        sift-length (λ ps. passes_both c k (flips s ps)) (packet_list c limit s),
        listing_fits c.generator.degree c.generator.coefficients (bits s) limit (remainder c s) long (omega (arith, fit_limit limit supposed.fit_limit)),
      )
