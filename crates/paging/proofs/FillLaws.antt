-- A page under way: which patterns are done and which are left, what the output holds, and how it ends.
use mathlib.Core.Path.{◌≡◌, refl, sym, ap, ◌∙◌}
use mathlib.Core.List.{List, [], ◌∷◌, ◌++◌, append-nil}
use Rattle.std.proofs.Common.{Option, Some, None}
use Prim.Native.Nat.{ℕ, ◌+◌, ◌*◌, ◌-◌, ◌<◌, ◌≤◌}
use native.Mathlib.Omega.{arith}
use native.Mathlib.Nat.{sub-zero}
use lib.ListN.{length, take, drop, length-append}
use lib.Seq.{append_snoc, length-take-le, take_all}
use Rattle.base.specs.Lists.{Ascending}
use Rattle.patterns.specs.Patterns.{most_positions, Point, ended, after, positions}
use Rattle.patterns.specs.Order.{before}
use Rattle.patterns.specs.Listing.{sift}
use Rattle.records.specs.Records.{records, record_of}
use Rattle.records.specs.Pages.{fitting, last_of, next_point, Page, page_of, page_bytes}
use Rattle.records.specs.Slices.{RecordPut}
use Rattle.patterns.specs.declared.Pattern.{Pattern}
use Rattle.records.proofs.PageLaws.{record_length, records_longer, page_put, fitting_on, fitting_off, fitting_out, next_ended, next_after}
use Rattle.search.specs.Search.{Told}
use Rattle.cursor.specs.Cursors.{FoundFits, ahead_of}
use Rattle.cursor.proofs.AheadLaws.{told_ahead_of}

-- `out` is the output at first and `cur` now; `rest` is what the page is about, and `m` the limit
pub record Filling (l m : ℕ) (xs rest : List (List ℕ)) (out pos cur : List ℕ) (ahead : Option ℕ) (last : Pattern) (used written : ℕ) : Type 0 where
  pub done : List (List ℕ)
  pub left : List (List ℕ)
  pub split : rest ≡ done ++ left
  pub told : Told before l m xs left ahead pos
  pub taken : used ≡ length (records done)
  pub count : written ≡ length done
  pub content : cur ≡ records done ++ drop (length (records done)) out
  pub room : used ≤ length out
  pub small : written ≤ used
  pub named : positions last ≡ last_of [] done
  pub fits : fitting (length out) rest ≡ done ++ fitting (length out - length (records done)) left
  pub placed : length pos ≡ m
  pub long : length cur ≡ length out

last_snoc : (p : List ℕ) (xs : List (List ℕ)) (q : List ℕ) → last_of p (xs ++ q ∷ []) ≡ q
unfolding last_of
last_snoc p [] q = refl
last_snoc p (x ∷ xs) q = last_snoc x xs q

-- nothing done yet
pub filling_none : (l : ℕ) (xs : List (List ℕ)) (out pos : List ℕ) (r : Option ℕ) (last : Pattern) → FoundFits l r pos → positions last ≡ []
    → Filling l (length pos) xs (ahead_of before xs r pos) out pos out r last 0 0
unfolding records last_of
filling_none l xs out pos r last h e =
    record {
      done = [];
      left = ahead_of before xs r pos;
      split = refl;
      told = told_ahead_of before l (length pos) xs r pos h refl;
      taken = refl;
      count = refl;
      content = refl;
      room = omega arith;
      small = omega arith;
      named = e;
      fits = sym (ap (λ (i : ℕ). fitting i (ahead_of before xs r pos)) (sub-zero (length out)));
      placed = refl;
      long = refl;
    }

-- a page that wrote `done`, whose records are those that fit
page_done : (rest done : List (List ℕ)) (out : List ℕ) (used written : ℕ) (next : Point) → fitting (length out) rest ≡ done → used ≡ length (records done)
    → written ≡ length done → next_point rest done ≡ next → ◌≡◌ {A = Page} (record { used = used; written = written; next = next }) (page_of rest (length out))
page_done rest done out used written next e u k n =
    let a : used ≡ length (records (fitting (length out) rest)) = u ∙ ap (λ (d : List (List ℕ)). length (records d)) (sym e) in
    let b : written ≡ length (fitting (length out) rest) = k ∙ ap length (sym e) in
    let c : next ≡ next_point rest (fitting (length out) rest) = sym n ∙ ap (next_point rest) (sym e) in
    λ i. record { used = a i; written = b i; next = c i }

bytes_done : (rest done : List (List ℕ)) (out cur : List ℕ) → fitting (length out) rest ≡ done → cur ≡ records done ++ drop (length (records done)) out → cur ≡ page_bytes rest out
bytes_done rest done out cur e b = b ∙ ap (λ (d : List (List ℕ)). records d ++ drop (length (records d)) out) (sym e)

module _ {l m : ℕ} {xs rest : List (List ℕ)} {out pos cur : List ℕ} {ahead : Option ℕ} {last : Pattern} {used written : ℕ}
    (f : Filling l m xs rest out pos cur ahead last used written) where
  -- nothing is left: the page is ended
  all_done : ahead ≡ None → fitting (length out) rest ≡ f.done
  all_done e =
      let none : f.left ≡ [] = rw e at f.told in
      fitting_out (length out) f.done (fitting (length out) rest) (rw none at f.fits)

  pub filled_page : ahead ≡ None → ◌≡◌ {A = Page} (record { used = used; written = written; next = ended }) (page_of rest (length out))
  filled_page e =
      let none : f.left ≡ [] = rw e at f.told in
      let whole : rest ≡ f.done = f.split ∙ ap (λ (t : List (List ℕ)). f.done ++ t) none ∙ append-nil f.done in
      page_done rest f.done out used written ended (all_done e) f.taken f.count (next_ended rest f.done (ap length (sym whole)))

  pub filled_bytes : ahead ≡ None → cur ≡ page_bytes rest out
  filled_bytes e = bytes_done rest f.done out cur (all_done e) f.content

  module _ {k : ℕ} (e : ahead ≡ Some k) where
    found : Told before l m xs f.left (Some k) pos
    found = rw e at f.told

    pub found_within : (k ≤ length pos) × Ascending l 0 (take k pos)
    found_within = (omega (arith, found.1, f.placed), found.0.ascends)

    size : length (record_of (take k pos)) ≡ 1 + 2 * k
    size = record_length (take k pos) ∙ ap (λ (i : ℕ). 1 + 2 * i) (length-take-le k pos found_within.0)

    -- the pattern found does not fit: the page ends after the last one written
    off_done : length out - used < 1 + 2 * k → fitting (length out) rest ≡ f.done
    off_done h =
        fitting_off (length out) f.done (take k pos) (sift (before (take k pos)) xs) (fitting (length out) rest)
        (rw found.0.split at f.fits) (omega (arith, f.taken, f.room)) (omega (arith, f.taken, f.room, size))

    pub stopped_page : length out - used < 1 + 2 * k → ◌≡◌ {A = Page} (record { used = used; written = written; next = after (positions last) }) (page_of rest (length out))
    stopped_page h =
        let more : length f.done < length rest = rw (f.split, length-append, found.0.split) (omega arith) in
        page_done rest f.done out used written (after (positions last)) (off_done h) f.taken f.count
        (next_after rest f.done more ∙ ap after (sym f.named))

    pub stopped_bytes : length out - used < 1 + 2 * k → cur ≡ page_bytes rest out
    stopped_bytes h = bytes_done rest f.done out cur (off_done h) f.content

    pub fits_room : 1 + 2 * k ≤ length out - used → used + (1 + 2 * length (take k pos)) ≤ length cur
    fits_room h = rw (length-take-le k pos found_within.0) (omega (arith, f.long, f.room))

    -- one pattern more
    pub filling_more : 1 + 2 * k ≤ length out - used → m ≤ most_positions → (q : Pattern) → positions q ≡ take most_positions (take k pos)
        → (next : ℕ) (cur' pos' : List ℕ) → RecordPut (take k pos) cur used cur' next → (r : Option ℕ) → Told before l m xs (sift (before (take k pos)) xs) r pos'
        → length pos' ≡ m → length cur' ≡ length out → Filling l m xs rest out pos' cur' r q next (written + 1)
    filling_more h four q named next cur' pos' put r t p c =
        let d : List (List ℕ) = f.done in
        let s : List ℕ = take k pos in
        let behind : next ≡ length (records (d ++ s ∷ [])) = put.behind ∙ ap (λ (i : ℕ). i + length (record_of s)) f.taken ∙ sym (records_longer d s) in
        record {
          done = d ++ s ∷ [];
          left = sift (before s) xs;
          split = f.split ∙ ap (λ (t : List (List ℕ)). d ++ t) found.0.split ∙ sym (append_snoc d s (sift (before s) xs));
          told = t;
          taken = behind;
          count = simp length-append (omega (arith, f.count));
          content = put.content ∙ rw f.taken (page_put d s out cur f.content);
          room = omega (arith, put.behind, size, f.room);
          small = omega (arith, put.behind, size, f.small);
          named = named ∙ take_all most_positions s (rw (length-take-le k pos found_within.0) (omega (arith, found.1))) ∙ sym (last_snoc [] d s);
          fits =
              fitting_on (length out) d s (sift (before s) xs) (fitting (length out) rest) (rw found.0.split at f.fits)
              (omega (arith, f.taken, f.room, size));
          placed = p;
          long = c;
        }
