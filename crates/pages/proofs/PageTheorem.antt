-- What docs/RULES.md, section 4, says of one page, about the page call's own answer and output.
use mathlib.Core.Path.{◌≡◌, refl, sym, ap, subst, ◌∙◌}
use mathlib.Core.Bool.{true, false}
use mathlib.Core.Logic.{◌↔◌}
use mathlib.Core.List.{List, [], ◌∷◌}
use Prim.Native.Nat.{ℕ, zero, suc, ◌+◌, ◌-◌, ◌*◌, ◌^◌, ◌<◌, ◌≤◌}
use native.Mathlib.Omega.{arith}
use lib.ListN.{length, take, drop, get_or}
use borrow.Author.Tests.{lt-leb, le-ltb}
use Rattle.base.specs.Lists.{In, here, there}
use Rattle.base.specs.Outcome.{refused, accepted, judge}
use Rattle.base.proofs.Cases.{by_order, by_equal}
use Rattle.base.proofs.JudgeLaws.{judge_refused, judge_accepted, judge_value, judge_clear}
use Rattle.poly.specs.Polynomial.{degree}
use Rattle.poly.specs.Generators.{unfit}
use Rattle.packet.specs.Packet.{unfit_length}
use Rattle.tables.specs.Tables.{step_table, first_table}
use Rattle.tables.proofs.TableLaws.{length-step_table, length-first_table, fit_tables, tables_right, not_wrong}
use Rattle.patterns.specs.Patterns.{Point, ended, after}
use Rattle.patterns.specs.Listing.{follows, unfit_limit, unfit_syndrome}
use Rattle.patterns.specs.Marks.{remaining, unfit_mark}
use Rattle.records.specs.Records.{record_of, records, longest_record}
use Rattle.records.specs.Pages.{fitting, last_of, Page, page_of, page_bytes}
use Rattle.patterns.proofs.SiftLaws.{sift_in, in_sift}
use Rattle.patterns.proofs.MarkLaws.{fit_limit, fit_iff}
use Rattle.patterns.proofs.FollowLaws.{remaining_ended}
use Rattle.patterns.proofs.ListingLaws.{listed_iff, listed_limit, listing_sorted}
use Rattle.records.proofs.PageLaws.{fitting-take, fitting-length, fitting_most, fitting_unless, page_fits, page_length, page_used, page_kept, page_leaves, next_ended, next_after, last_take}
use Rattle.pages.specs.Conditions.{Request, unfit_output, page_conditions}
use Rattle.pages.specs.Calls.{requested, page_call, page_left}
use Rattle.pages.proofs.ConditionLaws.{fit_output}

-- what follows a mark: the listed patterns that come after it; the mark's own pattern need not be one of them
pub follows_mark : (r : Request) (m : Point) (ps : List ℕ) → In ps (remaining (requested r) m) ↔ (In ps (requested r) × (follows m ps ≡ true))
follows_mark r m ps = (sift_in (follows m) (requested r), λ h. in_sift (follows m) h.0 h.1)

-- fit numbers, a fit mark, right tables and room for the longest record are all that an accepted call takes
pub page_accepts : (r : Request) (m : Point)
    → unfit r.generator ≡ false → unfit_length (degree r.generator) r.bits ≡ false → unfit_limit r.limit ≡ false → r.syndrome < 2 ^ degree r.generator
    → r.steps ≡ step_table (degree r.generator) r.generator → r.firsts ≡ first_table (degree r.generator) r.generator
    → unfit_mark r.bits r.limit m ≡ false → longest_record ≤ length r.output
    → page_call r m ≡ accepted (page_of (remaining (requested r) m) (length r.output))
unfolding unfit_syndrome unfit_output
page_accepts r m generator bits limit within steps firsts mark room =
    let n = degree r.generator in
    rw (steps, firsts)
    (simp (
      generator,
      bits,
      limit,
      lt-leb _ _ within,
      fit_tables n _ _ (length-step_table n r.generator) (length-first_table n r.generator),
      not_wrong,
      tables_right,
      mark,
      le-ltb _ _ room,
    ))

-- a refused call leaves its output
pub page_refused : (r : Request) (m : Point) (k : ℕ) → page_call r m ≡ refused k → page_left r m ≡ r.output
page_refused r m k h =
    judge_refused (page_conditions r m) (page_of (remaining (requested r) m) (length r.output)) k (λ _. r.output) (page_bytes (remaining (requested r) m) r.output) h

in_get_or : (xs : List (List ℕ)) (i : ℕ) → i < length xs → In (get_or xs i []) xs
in_get_or [] i h = absurd (omega arith)
in_get_or (x ∷ xs) zero h = here refl
in_get_or (x ∷ xs) (suc i) h = there (in_get_or xs i (omega arith))

-- the limit of an accepted call is accepted, and its output has room for a record of as many positions
pub accepted_roomy : (r : Request) (m : Point) (a b : Page) → judge (page_conditions r m) refused (accepted a) ≡ accepted b → 1 + 2 * r.limit ≤ length r.output
accepted_roomy r m a b h =
    let clear = judge_clear (page_conditions r m) a b h in
    omega (arith, fit_limit r.limit (clear 3), fit_output (length r.output) (clear 8))

-- an accepted call; `rest` is what follows its mark
module _ (r : Request) (m : Point) (p : Page) (h : page_call r m ≡ accepted p) where
  abbrev rest : List (List ℕ)
  rest = remaining (requested r) m

  value : page_of rest (length r.output) ≡ p
  value = judge_value (page_conditions r m) (page_of rest (length r.output)) p h

  leaves : page_left r m ≡ page_bytes rest r.output
  leaves = judge_accepted (page_conditions r m) (page_of rest (length r.output)) p (λ _. r.output) (page_bytes rest r.output) h

  -- a page holds the listed patterns that follow its mark: the bytes used are the records of the first of them, as many as
  -- are returned as written
  pub page_holds : (take p.used (page_left r m) ≡ records (take p.written (remaining (requested r) m))) × (p.written ≤ length (remaining (requested r) m))
  page_holds =
      subst (λ (q : Page). (take q.used (page_left r m) ≡ records (take q.written rest)) × (q.written ≤ length rest)) value (
        ap (take (page_of rest (length r.output)).used) leaves ∙ page_used rest r.output ∙ ap records (fitting-take (length r.output) rest),
        fitting-length (length r.output) rest,
      )

  -- where it stops, the next record does not fit whole
  pub page_stops : (q : List ℕ) (qs : List (List ℕ)) → drop p.written (remaining (requested r) m) ≡ q ∷ qs → length r.output < p.used + length (record_of q)
  page_stops =
      subst (λ (x : Page). (q : List ℕ) (qs : List (List ℕ)) → drop x.written rest ≡ q ∷ qs → length r.output < x.used + length (record_of q)) value
      (fitting_most (length r.output) rest)

  -- it is empty only where nothing follows its mark
  pub page_writes : p.written ≡ 0 → remaining (requested r) m ≡ []
  page_writes =
      subst (λ (x : Page). x.written ≡ 0 → rest ≡ []) value
      (λ e.
      fitting_unless r.limit (length r.output) rest
      (λ q i. listed_limit (degree r.generator) r.generator r.bits r.limit r.syndrome q (sift_in _ (requested r) i).0) (accepted_roomy r m (page_of rest (length r.output)) p h) (omega arith))

  some : 1 ≤ length rest → 1 ≤ p.written
  some k = by_equal p.written 0 (λ e. absurd (omega (arith, ap length (page_writes e)))) (λ ne. omega arith)

  -- the next mark is Ended just where all that followed are written, and otherwise After the last of these
  pub page_next : (p.next ≡ ended ↔ (p.written ≡ length (remaining (requested r) m)))
      × (p.written < length (remaining (requested r) m) → (1 ≤ p.written) × (p.next ≡ after (get_or (remaining (requested r) m) (p.written - 1) [])))
  page_next =
      let w : ℕ = length (fitting (length r.output) rest) in
      let wrote : w ≡ p.written = ap (λ (x : Page). x.written) value in
      let whole : p.written ≡ length rest → p.next ≡ ended =
      λ e. sym (ap (λ (x : Page). x.next) value) ∙ next_ended rest (fitting (length r.output) rest) (wrote ∙ e) in
      let between : p.written < length rest → (1 ≤ p.written) × (p.next ≡ after (get_or rest (p.written - 1) [])) =
      λ k. (
        some (omega arith),
        sym (ap (λ (x : Page). x.next) value)
            ∙ next_after rest (fitting (length r.output) rest) (omega arith)
            ∙ ap after (last_written (length r.output) rest p.written wrote (some (omega arith))),
      ) in (
        (
          λ e. by_order p.written (length rest) (λ k. absurd (never (sym (between k).1 ∙ e))) (λ k. omega (arith, page_holds.1)),
          whole,
        ),
        between,
      )
    where
      never : {q : List ℕ} → after q ≡ ended → ⊥
      never d = let z : ◌≡◌ {A = ℕ} 0 1 = cc in omega arith

      last_written : (room : ℕ) (xs : List (List ℕ)) (w : ℕ) → length (fitting room xs) ≡ w → 1 ≤ w → last_of [] (fitting room xs) ≡ get_or xs (w - 1) []
      last_written room xs w e k =
          let one : suc (w - 1) ≡ w = omega arith in
          ap (last_of []) (fitting-take room xs ∙ ap (λ (i : ℕ). take i xs) (e ∙ sym one)) ∙ last_take [] (w - 1) xs (omega (arith, fitting-length room xs))

  -- what follows the mark returned is what followed the mark given, less what was written
  pub page_goes_on : remaining (requested r) p.next ≡ drop p.written (remaining (requested r) m)
  page_goes_on =
      subst (λ (x : Page). remaining (requested r) x.next ≡ drop x.written rest) value
      (page_leaves (listing_sorted (degree r.generator) r.generator r.bits r.limit r.syndrome) m (length r.output)
      (λ k. subst (λ (x : Page). 1 ≤ x.written) (sym value) (some k)))

  pub page_within : p.used ≤ length r.output
  page_within = subst (λ (x : Page). x.used ≤ length r.output) value (page_fits rest r.output)

  -- bytes beyond those used stay
  pub page_keeps : (drop p.used (page_left r m) ≡ drop p.used r.output) × (length (page_left r m) ≡ length r.output)
  page_keeps =
      subst (λ (x : Page). (drop x.used (page_left r m) ≡ drop x.used r.output) × (length (page_left r m) ≡ length r.output)) value
      (ap (drop (page_of rest (length r.output)).used) leaves ∙ page_kept rest r.output, ap length leaves ∙ page_length rest r.output)

  -- the mark returned is one that a next call with this length and limit accepts
  pub page_mark_fits : unfit_mark r.bits r.limit p.next ≡ false
  page_mark_fits =
      by_order p.written (length rest)
      (λ k.
      let q = get_or rest (p.written - 1) [] in
      let listed = (sift_in _ (requested r) (in_get_or rest (p.written - 1) (omega arith))).0 in
      let l = (listed_iff (degree r.generator) r.generator r.bits r.limit r.syndrome q).0 listed in
      rw (page_next.1 k).1 ((fit_iff r.bits r.limit q).1 (l.0, l.1)))
      (λ k. rw (page_next.0.1 (omega (arith, page_holds.1))))

-- a page from Ended is empty, and leaves the mark and the output
pub page_from_ended : (r : Request) (p : Page) → page_call r ended ≡ accepted p → (p.written ≡ 0) × (p.next ≡ ended) × (p.used ≡ 0) × (page_left r ended ≡ r.output)
unfolding fitting records
page_from_ended r p h =
    let none = remaining_ended (requested r) in
    let empty : page_of [] (length r.output) ≡ p = ap (λ (xs : List (List ℕ)). page_of xs (length r.output)) (sym none) ∙ value r ended p h in
    let zero-written : p.written ≡ 0 = sym (ap (λ (x : Page). x.written) empty) in (
      zero-written,
      (page_next r ended p h).0.1 (zero-written ∙ sym (ap length none)),
      sym (ap (λ (x : Page). x.used) empty),
      leaves r ended p h ∙ ap (λ (xs : List (List ℕ)). page_bytes xs r.output) none,
    )
