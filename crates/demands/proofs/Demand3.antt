-- Demand 3 (docs/RULES.md, section 10), sentence by sentence. The calls are page_call (in accepted_calls) and repair_call, which
-- the contracts of the page and repair functions equal; the definitions named here are all in files of specs/.
use mathlib.Core.Path.{◌≡◌, sym, ap, subst, ◌∙◌}
use mathlib.Core.Bool.{true, false}
use mathlib.Core.Logic.{◌↔◌}
use mathlib.Core.List.{List, ◌∷◌, ◌++◌}
use Prim.Native.Nat.{ℕ, ◌≤◌}
use borrow.Author.Tests.{eq-eqb}
use lib.ListN.{length, take}
use Rattle.base.specs.Lists.{In, All, none, each, Ascending}
use Rattle.base.specs.Outcome.{accepted}
use Rattle.base.proofs.JudgeLaws.{judge_accepted, judge_value}
use Rattle.poly.specs.Polynomial.{degree}
use Rattle.poly.specs.Fit.{Fit}
use Rattle.poly.specs.declared.Generator.{Generator}
use Rattle.poly.proofs.GeneratorLaws.{fit_accepted}
use Rattle.packet.specs.Packet.{Bytes, bits, remainder, flips, difference}
use Rattle.packet.specs.declared.Crc.{Crc}
use Rattle.packet.proofs.RemainderLaws.{remainder_lt}
use Rattle.checksum.specs.declared.Check.{Check}
use Rattle.tables.specs.Tables.{step_table, first_table}
use Rattle.tables.proofs.TableLaws.{length-step_table, length-first_table, fit_tables, tables_right, not_wrong}
use Rattle.patterns.specs.Patterns.{Point, start, ended}
use Rattle.patterns.specs.Order.{before}
use Rattle.patterns.specs.StrictOrder.{Sorted}
use Rattle.patterns.specs.Listing.{syndrome, listing}
use Rattle.patterns.specs.Marks.{remaining, unfit_mark}
use Rattle.records.specs.Records.{records}
use Rattle.records.specs.Pages.{Page, page_of}
use Rattle.records.specs.Sequences.{joined, reported, reached, Sequence}
use Rattle.patterns.proofs.ListingLaws.{listed_iff, listed_once, listing_sorted}
use Rattle.pages.specs.Calls.{page_call}
use Rattle.pages.specs.Sequences.{Lending, request_with, accepted_calls}
use Rattle.pages.proofs.PageTheorem.{page_accepts}
use Rattle.pages.proofs.SequenceTheorem.{page_sequence, sequence_accepted}
use Rattle.verdicts.specs.Verdicts.{passes_both, packet_list, Said, intact, repaired, several, nothing, verdict, output_for, Leads, leading, Earliest}
use Rattle.repair.specs.Calls.{repair_conditions, repair_call, repair_output, unfit_copy}
use Rattle.verdicts.proofs.VerdictLaws.{verdict_intact, verdict_nothing, verdict_repaired, verdict_several, output_repaired, output_unchanged, in_leading, leading_sorted, two_lead}
use Rattle.verdicts.proofs.SentLaws.{sent_packet, sent_flipped}
use Rattle.demands.specs.Demand3.{Supposed, repair_with, Roomy}

pub fit_of : {c : Crc} {k : Check} {limit : ℕ} {s : List ℕ} → Supposed c k limit s → Fit c.generator
fit_of {c} p = subst Fit p.numbered (fit_accepted c.generator.coefficients p.fit_generator)

-- an accepted packet, generator, initial and final value, range, field and limit
module _ (c : Crc) (k : Check) (limit : ℕ) (s : List ℕ) (supposed : Supposed c k limit s) where
  -- 3.1: a set is in the list, once, just if it has at most N positions, below L, and the packet's remainder as syndrome; and
  -- the list is in order. And 3.6: `before` is a function of the positions of two sets and of nothing else.
  pub the_list :
      ((ps : List ℕ) → In ps (packet_list c limit s) ↔ (Ascending (bits s) 0 ps × (length ps ≤ limit) × (syndrome c.generator.degree c.generator.coefficients ps ≡ remainder c s)))
      × ((xs : List (List ℕ)) (p : List ℕ) (ys : List (List ℕ)) → packet_list c limit s ≡ xs ++ p ∷ ys → (In p xs → ⊥) × (In p ys → ⊥))
      × Sorted before (packet_list c limit s)
  the_list = (
    listed_iff c.generator.degree c.generator.coefficients (bits s) limit (remainder c s),
    listed_once c.generator.degree c.generator.coefficients (bits s) limit (remainder c s),
    listing_sorted c.generator.degree c.generator.coefficients (bits s) limit (remainder c s),
  )

  -- section 4's claim about a whole sequence of page calls
  pub the_sequence : (lendings : List Lending) → Sequence (packet_list c limit s) (accepted_calls c.generator.coefficients (bits s) limit (remainder c s) lendings)
  the_sequence lendings =
      subst (λ (g : Generator). Sequence (listing g.degree g.coefficients (bits s) limit (remainder c s)) (accepted_calls c.generator.coefficients (bits s) limit (remainder c s) lendings))
      supposed.numbered (page_sequence c.generator.coefficients (bits s) limit (remainder c s) lendings)

  -- 3.2: what the page calls of a sequence wrote, joined, is the beginning of the list, as long as the counts returned add up
  -- to; some of the calls may have been refused
  pub pages_joined : (lendings : List Lending)
      → let cs = accepted_calls c.generator.coefficients (bits s) limit (remainder c s) lendings in
      (joined cs ≡ records (take (reported cs) (packet_list c limit s))) × (reported cs ≤ length (packet_list c limit s))
  pages_joined lendings = let q = the_sequence lendings in (q.joins, q.within)

  -- 3.3: from Ended on it is the whole list; as many accepted calls as there are patterns are enough for that, and one is
  -- where there are none
  pub pages_whole : (lendings : List Lending)
      → let cs = accepted_calls c.generator.coefficients (bits s) limit (remainder c s) lendings in
      (reached start cs ≡ ended → joined cs ≡ records (packet_list c limit s))
      × (length (packet_list c limit s) ≤ length cs → 1 ≤ length cs → reached start cs ≡ ended)
  pages_whole lendings = let q = the_sequence lendings in (q.whole, λ many some. q.soon some many)

  -- a page call with right tables, room for the longest record and a fit mark is accepted, so what was said is not about
  -- nothing
  pub page_accepted : (lent : Lending) → Roomy c lent → (m : Point) → unfit_mark (bits s) limit m ≡ false
      → page_call (request_with c.generator.coefficients (bits s) limit (remainder c s) lent) m
      ≡ accepted (page_of (remaining (packet_list c limit s) m) (length lent.output))
  page_accepted lent roomy m fit =
      let same : degree c.generator.coefficients ≡ c.generator.degree = ap (λ (w : Generator). w.degree) supposed.numbered in
      page_accepts (request_with c.generator.coefficients (bits s) limit (remainder c s) lent) m supposed.fit_generator (rw same supposed.fit_length) supposed.fit_limit
      (rw same (remainder_lt c (fit_of supposed).divisor s)) (rw same roomy.right_steps) (rw same roomy.right_firsts) fit roomy.room
      ∙ ap (λ (n : ℕ). accepted (page_of (remaining (listing n c.generator.coefficients (bits s) limit (remainder c s)) m) (length lent.output))) same

  -- and of a sequence of such calls none is refused
  pub pages_accepted : (lendings : List Lending) → All (Roomy c) lendings
      → length (accepted_calls c.generator.coefficients (bits s) limit (remainder c s) lendings) ≡ length lendings
  pages_accepted lendings all = sequence_accepted c.generator.coefficients (bits s) limit (remainder c s) lendings (accepting all)
    where
      accepting : {ls : List Lending} → All (Roomy c) ls
          → All (λ (lent : Lending). (m : Point) → unfit_mark (bits s) limit m ≡ false
          → (p : Page) × (page_call (request_with c.generator.coefficients (bits s) limit (remainder c s) lent) m ≡ accepted p)) ls
      accepting none = none
      accepting (each {x = lent} h hs) = each (λ m fit. (page_of (remaining (packet_list c limit s) m) (length lent.output), page_accepted lent h m fit)) (accepting hs)

  -- ---- repair ----

  -- a repair with right tables and an output as long as the packet is accepted, so what follows is not about nothing
  pub repair_accepted : (out : List ℕ) → length out ≡ length s
      → repair_call (repair_with c k limit s (record { steps = step_table c.generator.degree c.generator.coefficients; firsts = first_table c.generator.degree c.generator.coefficients; output = out }))
      ≡ accepted (verdict c k limit s)
  unfolding unfit_copy
  repair_accepted out h =
      simp (
        supposed.fit_generator,
        supposed.fit_length,
        supposed.fit_values,
        supposed.fit_limit,
        fit_tables c.generator.degree _ _ (length-step_table c.generator.degree c.generator.coefficients) (length-first_table c.generator.degree c.generator.coefficients),
        not_wrong,
        tables_right,
        eq-eqb _ _ h,
        supposed.fit_range,
        supposed.fit_check_field,
      )

  -- `leading` has the listed sets that lead to a passing packet, each once, so its length is their number; and more than
  -- one is two that differ
  pub the_leading :
      ((ps : List ℕ) → In ps (leading c k limit s) ↔ Leads c k limit s ps)
      × Sorted before (leading c k limit s)
      × (2 ≤ length (leading c k limit s)
      ↔ ((p : List ℕ) × (q : List ℕ) × Leads c k limit s p × Leads c k limit s q × (p ≡ q → ⊥)))
  the_leading = (in_leading c k limit s, leading_sorted c k limit s, two_lead c k limit s)

  module _ (lent : Lending) (v : Said) (told : repair_call (repair_with c k limit s lent) ≡ accepted v) where
    told_verdict : verdict c k limit s ≡ v
    told_verdict = judge_value (repair_conditions (repair_with c k limit s lent)) (verdict c k limit s) v told

    told_output : repair_output (repair_with c k limit s lent) ≡ output_for c k limit s lent.output
    told_output =
        judge_accepted (repair_conditions (repair_with c k limit s lent)) (verdict c k limit s) v (λ _. lent.output)
        (output_for c k limit s lent.output) told

    -- 3.4: Intact exactly where the packet passes both checks
    pub says_intact : v ≡ intact ↔ (passes_both c k s ≡ true)
    says_intact = rw (← told_verdict) (verdict_intact c k limit s)

    -- of any other packet None, Repaired or Several if none, exactly one or more of the listed sets turn it into one that passes
    -- both, and only then; Several with how many, and with the one of them that stands first
    pub says_otherwise : passes_both c k s ≡ false
        → (v ≡ nothing ↔ ((ps : List ℕ) → Leads c k limit s ps → ⊥))
        × ((p : List ℕ) → v ≡ repaired p ↔ (Leads c k limit s p × ((q : List ℕ) → Leads c k limit s q → q ≡ p)))
        × ((n : ℕ) (q : List ℕ) → v ≡ several n q ↔ ((2 ≤ length (leading c k limit s)) × (n ≡ length (leading c k limit s)) × Earliest (Leads c k limit s) q))
    says_otherwise h =
        let fit = fit_of supposed in
        let bs = supposed.bytes in
        let none = verdict_nothing c k limit s fit bs in
        let one = verdict_repaired c k limit s fit bs in
        let more = verdict_several c k limit s fit bs in
        rw (← told_verdict) (
          (λ w. (none.0 w).1, λ w. none.1 (h, w)),
          λ p. (λ w. let r = (one p).0 w in (r.1, r.2), λ w. (one p).1 (h, w.0, w.1)),
          λ n q. (λ w. let r = (more n q).0 w in (r.1, r.2, r.3), λ w. (more n q).1 (h, w.0, w.1, w.2)),
        )

    -- so the pattern that Several names leads to a passing packet, and every other that does comes after it
    pub names_the_earliest : (n : ℕ) (q : List ℕ) → v ≡ several n q
        → Leads c k limit s q × ((p : List ℕ) → Leads c k limit s p → (p ≡ q → ⊥) → before q p ≡ true)
    names_the_earliest n q h =
        let e = ((verdict_several c k limit s (fit_of supposed) supposed.bytes n q).0 (told_verdict ∙ h)).3 in
        (e.meets, e.others_after)

    -- section 6: for Repaired the output holds the packet with the pattern's bits flipped, and for any other verdict it stays
    pub the_output : ((p : List ℕ) → v ≡ repaired p → repair_output (repair_with c k limit s lent) ≡ flips s p)
        × (((p : List ℕ) → v ≡ repaired p → ⊥) → repair_output (repair_with c k limit s lent) ≡ lent.output)
    the_output = (
      λ p h. told_output ∙ output_repaired c k limit s p lent.output (told_verdict ∙ h),
      λ other. told_output ∙ output_unchanged c k limit s lent.output (λ p h. other p (sym told_verdict ∙ h)),
    )

    -- 3.5: for any packet of that length that passes both checks and from which at most N bits are different, None is not said,
    -- and if Repaired is said, the output is that packet
    pub the_packet_sent : (t : List ℕ) → Bytes t → length s ≡ length t → passes_both c k t ≡ true → length (difference s t) ≤ limit
        → (v ≡ nothing → ⊥) × ((p : List ℕ) → v ≡ repaired p → (flips s p ≡ t) × (repair_output (repair_with c k limit s lent) ≡ t))
    the_packet_sent t bt same pass few =
        let r = sent_packet c k limit s (fit_of supposed) supposed.bytes t bt same pass few lent.output in
        (λ h. r.0 (told_verdict ∙ h), λ p h. let q = r.1 p (told_verdict ∙ h) in (q.0, told_output ∙ q.1))

    -- the same of any set of at most N bits that flipped on the way
    pub the_bits_flipped : (t ps : List ℕ) → Bytes t → Ascending (bits t) 0 ps → length ps ≤ limit → s ≡ flips t ps → passes_both c k t ≡ true
        → (v ≡ nothing → ⊥) × ((p : List ℕ) → v ≡ repaired p → (flips s p ≡ t) × (repair_output (repair_with c k limit s lent) ≡ t))
    the_bits_flipped t ps bt ascends few received pass =
        let r = sent_flipped c k limit s (fit_of supposed) supposed.bytes t ps bt ascends few received pass lent.output in
        (λ h. r.0 (told_verdict ∙ h), λ p h. let q = r.1 p (told_verdict ∙ h) in (q.0, told_output ∙ q.1))
