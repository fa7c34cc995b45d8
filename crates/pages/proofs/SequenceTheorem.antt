-- The sequence for the page call: the law over any kind of request, with the call's own conditions. What it asks is
-- that an accepted call's output holds the longest record, which conditions 3 and 8 see to.
use mathlib.Core.Path.{◌≡◌, refl, ap}
use mathlib.Core.Bool.{false}
use mathlib.Core.List.{List}
use Prim.Native.Nat.{ℕ, suc}
use lib.ListN.{length}
use Rattle.base.specs.Lists.{All, none, each}
use Rattle.base.specs.Outcome.{accepted}
use Rattle.poly.specs.Polynomial.{degree}
use Rattle.patterns.specs.Patterns.{Point, start}
use Rattle.patterns.specs.Listing.{listing}
use Rattle.records.specs.Pages.{Page}
use Rattle.patterns.specs.Marks.{unfit_mark}
use Rattle.records.specs.Sequences.{calls, Sequence}
use Rattle.records.proofs.SequenceLaws.{listing_sequence}
use Rattle.pages.specs.Conditions.{page_conditions}
use Rattle.pages.specs.Calls.{page_call, page_left}
use Rattle.pages.specs.Sequences.{Lending, request_with, accepted_calls}
use Rattle.pages.proofs.PageTheorem.{accepted_roomy, page_mark_fits}

-- for every generator, length, limit and syndrome and every list of lendings, refused calls among them
pub page_sequence : (generator bits limit syndrome : ℕ) (lendings : List Lending)
    → Sequence (listing (degree generator) generator bits limit syndrome) (accepted_calls generator bits limit syndrome lendings)
page_sequence generator bits limit syndrome lendings =
    listing_sequence (degree generator) generator bits limit syndrome (λ (lent : Lending). lent.output)
    (λ lent m. page_conditions (request_with generator bits limit syndrome lent) m)
    (λ lent m p e. accepted_roomy (request_with generator bits limit syndrome lent) m p p e)
    lendings

-- ---- a sequence in which no call is refused ----

module _ (generator bits limit syndrome : ℕ) where
  -- a lending that is accepted at every fit mark
  abbrev Accepting : Lending → Type 0
  Accepting lent = (m : Point) → unfit_mark bits limit m ≡ false → (p : Page) × (page_call (request_with generator bits limit syndrome lent) m ≡ accepted p)

  accepted_from : {ls : List Lending} → All Accepting ls → (m : Point) → unfit_mark bits limit m ≡ false
      → length (calls (λ lent mark. page_call (request_with generator bits limit syndrome lent) mark) (λ lent mark. page_left (request_with generator bits limit syndrome lent) mark) m ls)
      ≡ length ls
  unfolding calls
  accepted_from none m fit = refl
  accepted_from (each {x = lent} {xs = ls} a rest) m fit =
      let called = a m fit in
      let p = called.0 in
      rw called.1 (ap suc (accepted_from rest p.next (page_mark_fits (request_with generator bits limit syndrome lent) m p called.1)))

  pub sequence_accepted : (lendings : List Lending)
      → All (λ (lent : Lending). (m : Point) → unfit_mark bits limit m ≡ false → (p : Page) × (page_call (request_with generator bits limit syndrome lent) m ≡ accepted p)) lendings
      → length (accepted_calls generator bits limit syndrome lendings) ≡ length lendings
  sequence_accepted lendings h = accepted_from h start refl
