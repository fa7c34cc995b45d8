-- What an accepted page call does to the text that is due: its records are the first lines, and what follows its next mark,
-- with the count gone on, is the rest.
use mathlib.Core.Path.{◌≡◌, refl, sym, ap, subst, ◌∙◌}
use mathlib.Core.Bool.{false, true≢false}
use mathlib.Core.List.{List, ◌++◌, append_assoc}
use Prim.Native.Nat.{ℕ, ◌+◌, ◌^◌, ◌<◌, ◌≤◌}
use native.Mathlib.Omega.{arith}
use borrow.Author.Tests.{lt-ltb}
use lib.ListN.{length, take, drop, take-append-drop, length-drop}
use Rattle.base.specs.Outcome.{refused, accepted}
use Rattle.base.proofs.Cases.{by_test, by_order}
use Rattle.base.proofs.JudgeLaws.{applied, judge_clear, refused_not_accepted}
use Rattle.poly.specs.Polynomial.{degree}
use Rattle.poly.specs.Generators.{unfit}
use Rattle.packet.proofs.PacketLaws.{fit_length}
use Rattle.tables.specs.Tables.{step_table, first_table}
use Rattle.tables.specs.Calls.{steps_after, firsts_after}
use Rattle.tables.proofs.TableLaws.{fit_tables}
use Rattle.patterns.specs.Patterns.{Point, start, ended, after, point_of}
use Rattle.records.specs.Records.{longest_record, patterns_in}
use Rattle.records.specs.Pages.{Page}
use Rattle.patterns.proofs.MarkLaws.{fit_limit, fit_syndrome}
use Rattle.patterns.proofs.CountLaws.{listing_fits}
use Rattle.records.proofs.RecordLaws.{patterns_records}
use Rattle.pages.specs.Conditions.{Request}
use Rattle.pages.specs.Sequences.{Lending, request_with}
use Rattle.paging.specs.declared.Query.{Query}
use Rattle.pages.specs.Calls.{page_call, page_left}
use Rattle.pages.proofs.PageTheorem.{page_accepts, page_holds, page_next, page_goes_on, page_mark_fits}
use Rattle.lines.specs.Text.{text_of, end_line}
use Rattle.lines.proofs.RecordLaws.{text_append}
use Rattle.lister.specs.Printed.{unfit_listed, list_conditions, Prints}
use Rattle.lister.specs.Turns.{WasRead, printed, ahead, text_due, turns_for, NotEnded, Going, Sound, Turned, Run, last, more}
use Rattle.lister.specs.declared.Due.{Due}
use Rattle.lister.specs.declared.Due.TheVariants.{Listing}
use Rattle.lister.specs.declared.Turn.{Turn}
use Rattle.patterns.specs.declared.Mark.{Mark}
use Rattle.lister.proofs.PrintedLaws.{printed_prints}

-- a generator that is listed is fit, and of degree 14 at most
pub listed_fit : (g : ℕ) → unfit_listed g ≡ false → (unfit g ≡ false) × (degree g ≤ 14)
unfolding unfit_listed
listed_fit g e =
    by_test (unfit g)
    (λ u. absurd (true≢false (rw u at e)))
    (λ u. (u, by_order 14 (degree g) (λ h. absurd (true≢false (rw (u, lt-ltb 14 (degree g) h) at e))) (λ h. h)))

-- what is due, by its case
pub sound_listing : {due : Due} {s : Query} {m : Mark} {count : ℕ} → due ≡ Listing s m count → Sound due → Going s (point_of m) count
sound_listing e h = rw e at h

module _ {s : Query} {m : Point} {count : ℕ} (going : Going s m count) where
  -- none of the program's conditions applies
  pub going_clear : (k : ℕ) → applied k (list_conditions s.generator s.bits s.limit s.syndrome) ≡ false
  going_clear = judge_clear (list_conditions s.generator s.bits s.limit s.syndrome) tt tt going.clear

  -- tables of the right length are built
  pub tables_built : (steps firsts : List ℕ) → length steps ≡ 2 ^ degree s.generator → length firsts ≡ 2 ^ degree s.generator
      → (steps_after s.generator steps firsts ≡ step_table (degree s.generator) s.generator)
      × (firsts_after s.generator steps firsts ≡ first_table (degree s.generator) s.generator)
  tables_built steps firsts a b =
      let u = (listed_fit s.generator (going_clear 1)).0 in
      let f = fit_tables (degree s.generator) (length steps) (length firsts) a b in
      (rw (u, f), rw (u, f))

  -- a page call with right tables, into an output with room for the longest record
  module _ (lent : Lending)
      (right : (lent.steps ≡ step_table (degree s.generator) s.generator) × (lent.firsts ≡ first_table (degree s.generator) s.generator))
      (room : longest_record ≤ length lent.output) where
    abbrev request : Request
    request = request_with s.generator s.bits s.limit s.syndrome lent

    -- is not refused
    pub turn_accepted : (k : ℕ) → page_call request m ≡ refused k → ⊥
    turn_accepted k e =
        refused_not_accepted
        (sym e
        ∙ page_accepts request m (listed_fit s.generator (going_clear 1)).0 (going_clear 2) (going_clear 3) (fit_syndrome _ _ (going_clear 4))
        right.0 right.1 going.fits room)

    module _ (p : Page) (e : page_call request m ≡ accepted p) where
      -- what is left after it
      rest : ahead s p.next ≡ drop p.written (ahead s m)
      rest = page_goes_on request m p e

      counts : p.written + length (ahead s p.next) ≡ length (ahead s m)
      counts = omega (arith, ap length rest, length-drop p.written (ahead s m), (page_holds request m p e).1)

      pub turn_fits : (total : ℕ) → total ≡ count + p.written → total < 2 ^ 64
      turn_fits total sum =
          omega (
            arith,
            counts,
            going.counted,
            listing_fits (degree s.generator) s.generator s.bits s.limit s.syndrome
                (fit_length (degree s.generator) s.bits (going_clear 2)).1
                (omega (arith, fit_limit s.limit (going_clear 3))),
          )

      -- the count and the mark go on together
      pub turn_going : (total : ℕ) → total ≡ count + p.written → Going s p.next total
      turn_going total sum =
          record {
            clear = going.clear;
            fits = page_mark_fits request m p e;
            counted = omega (arith, counts, going.counted);
          }

      -- and less is left, or nothing but the line that closes
      pub turn_fewer : NotEnded m → turns_for s p.next < turns_for s m
      turn_fewer h =
          rw (turns_open m h)
          (by_order p.written (length (ahead s m))
          (λ l. let n = (page_next request m p e).1 l in rw n.1 (omega (arith, n.0, rw n.1 at counts)))
          (λ l. rw ((page_next request m p e).0.1 (omega (arith, (page_holds request m p e).1))) (omega arith)))
        where
          turns_open : (q : Point) → NotEnded q → turns_for s q ≡ 2 + length (ahead s q)
          turns_open start h = refl
          turns_open ended h = absurd h
          turns_open (after ps) h = refl

      -- the text of its records, and what is due after it, are what was due
      pub turn_text : (total : ℕ) → total ≡ count + p.written → text_of (ahead s m) ++ end_line (count + length (ahead s m))
          ≡ text_of (patterns_in (take p.used (page_left request m))) ++ (text_of (ahead s p.next) ++ end_line (total + length (ahead s p.next)))
      turn_text total sum =
          let w : ℕ = p.written in
          let xs : List (List ℕ) = ahead s m in
          let whole : total + length (ahead s p.next) ≡ count + length xs = omega (arith, counts) in
          let first : patterns_in (take p.used (page_left request m)) ≡ take w xs = ap patterns_in (page_holds request m p e).0 ∙ patterns_records (take w xs) in
          let split : text_of xs ≡ text_of (take w xs) ++ text_of (drop w xs) = ap text_of (sym (take-append-drop w xs)) ∙ text_append (take w xs) (drop w xs) in
          rw (whole, first, rest)
          (ap (λ (t : List ℕ). t ++ end_line (count + length xs)) split
          ∙ append_assoc (text_of (take w xs)) (text_of (drop w xs)) (end_line (count + length xs)))

-- what a turn did, by its case
pub turned_as : (due : Due) (steps firsts text : List ℕ) {r q : Turn} → r ≡ q → Turned due steps firsts text r → Turned due steps firsts text q
turned_as due steps firsts text e h = rw e at h

-- the texts of a run of turns, joined, are what was due
pub run_prints : {steps firsts : List ℕ} {due : Due} {text : List ℕ} → Run steps firsts due text → text ≡ text_due due
run_prints (last text n t) = sym t.0
run_prints (more text n t r) = ap (λ (rest : List ℕ). take n text ++ rest) (run_prints r) ∙ sym t.0

-- so whatever turns follow upon what is due by the bytes that were read of an input, the texts joined are what is to be printed for it
pub program_prints : (buffer : List ℕ) (n : ℕ) (input : List ℕ) → WasRead buffer n input → {steps firsts : List ℕ} {due : Due} {text : List ℕ}
    → ((whole : List ℕ) → WasRead buffer n whole → text_due due ≡ printed whole) → Run steps firsts due text → Prints input text
program_prints buffer n input w e r = subst (Prints input) (sym (run_prints r ∙ e input w)) (printed_prints input)
