-- One page: its patterns are the first of those that follow the mark, as many as fit; a page with room for one record
-- writes one unless nothing follows; its bytes are the records, and beyond them what was there; and what follows the
-- mark that it returns is what it left.
use mathlib.Core.Path.{◌≡◌, refl, sym, ap, ◌∙◌}
use mathlib.Core.List.{List, [], ◌∷◌, ◌++◌, append_assoc, append-nil}
use Prim.Native.Nat.{ℕ, zero, suc, ◌+◌, ◌*◌, ◌-◌, ◌<◌, ◌≤◌}
use native.Mathlib.Omega.{arith}
use borrow.Author.Tests.{le-leb, lt-leb, leb-true, leb-false, eq-eqb, ne_eqb}
use lib.Dec.{leb}
use lib.ListN.{length, take, drop, get_or, length-append, length-drop, drop_of_length-le}
use lib.Seq.{take-append_seam, drop-append_seam, drop-append-add, drop-drop, append_snoc}
use Rattle.base.specs.Lists.{In, here}
use Rattle.base.proofs.Cases.{by_test, by_order}
use Rattle.patterns.specs.Patterns.{Point, ended, after}
use Rattle.patterns.specs.Order.{before}
use Rattle.patterns.specs.StrictOrder.{Sorted}
use Rattle.patterns.specs.Marks.{remaining}
use Rattle.records.specs.Records.{position_bytes, record_of, records}
use Rattle.records.specs.Pages.{fitting, last_of, next_point, page_of, page_bytes}
use Rattle.patterns.proofs.FollowLaws.{remaining_next, remaining_ended}

-- ---- records ----

pub position_bytes-length : (ps : List ℕ) → length (position_bytes ps) ≡ 2 * length ps
unfolding position_bytes
position_bytes-length [] = refl
position_bytes-length (p ∷ ps) = omega (arith, position_bytes-length ps)

pub record_length : (ps : List ℕ) → length (record_of ps) ≡ 1 + 2 * length ps
unfolding record_of
record_length ps = omega (arith, position_bytes-length ps)

pub records-append : (xs ys : List (List ℕ)) → records (xs ++ ys) ≡ records xs ++ records ys
unfolding records
records-append [] ys = refl
records-append (x ∷ xs) ys = ap (λ (l : List ℕ). record_of x ++ l) (records-append xs ys) ∙ sym (append_assoc (record_of x) (records xs) (records ys))

-- ---- what fits ----

pub fitting_nothing : (room : ℕ) → fitting room [] ≡ []
unfolding fitting
fitting_nothing room = refl

pub fitting_next : (room : ℕ) (p : List ℕ) (ps : List (List ℕ)) → length (record_of p) ≤ room → fitting room (p ∷ ps) ≡ p ∷ fitting (room - length (record_of p)) ps
unfolding fitting
fitting_next room p ps h = rw (le-leb (length (record_of p)) room h)

pub fitting_stop : (room : ℕ) (p : List ℕ) (ps : List (List ℕ)) → room < length (record_of p) → fitting room (p ∷ ps) ≡ []
unfolding fitting
fitting_stop room p ps h = rw (lt-leb (length (record_of p)) room h)

-- the patterns of a page are the first of those that follow
pub fitting_split : (room : ℕ) (ps : List (List ℕ)) → fitting room ps ++ drop (length (fitting room ps)) ps ≡ ps
unfolding fitting
fitting_split room [] = refl
fitting_split room (p ∷ ps) =
    by_test (leb (length (record_of p)) room) (λ t. rw (t, fitting_split (room - length (record_of p)) ps)) (λ t. rw t)

pub fitting-take : (room : ℕ) (ps : List (List ℕ)) → fitting room ps ≡ take (length (fitting room ps)) ps
unfolding fitting
fitting-take room [] = refl
fitting-take room (p ∷ ps) =
    by_test (leb (length (record_of p)) room) (λ t. rw t (ap (λ (l : List (List ℕ)). p ∷ l) (fitting-take (room - length (record_of p)) ps))) (λ t. rw t)

pub fitting-length : (room : ℕ) (ps : List (List ℕ)) → length (fitting room ps) ≤ length ps
fitting-length room ps = omega (arith, length-append (fitting room ps) (drop (length (fitting room ps)) ps), ap length (fitting_split room ps))

-- they fit
pub fitting_used : (room : ℕ) (ps : List (List ℕ)) → length (records (fitting room ps)) ≤ room
unfolding fitting records
fitting_used room [] = omega arith
fitting_used room (p ∷ ps) =
    by_test (leb (length (record_of p)) room)
    (λ t.
    let h = leb-true (length (record_of p)) room t in
    rw (t, length-append (record_of p) (records (fitting (room - length (record_of p)) ps)))
    (omega (arith, fitting_used (room - length (record_of p)) ps)))
    (λ t. rw t (omega arith))

-- the first that is left does not
pub fitting_most : (room : ℕ) (ps : List (List ℕ)) (q : List ℕ) (rest : List (List ℕ))
    → drop (length (fitting room ps)) ps ≡ q ∷ rest → room < length (records (fitting room ps)) + length (record_of q)
unfolding fitting records
fitting_most room [] q rest e = absurd (let z : ◌≡◌ {A = ℕ} 0 1 = cc in omega arith)
fitting_most room (p ∷ ps) q rest e =
    by_test (leb (length (record_of p)) room)
    (λ t.
    let h = leb-true (length (record_of p)) room t in
    let d = fitting_most (room - length (record_of p)) ps q rest (rw t at e) in
    rw (t, length-append (record_of p) (records (fitting (room - length (record_of p)) ps))) (omega arith))
    (λ t.
    let h = leb-false (length (record_of p)) room t in
    let d = rw t at e in
    let p=q : p ≡ q = cc in
    rw t (omega (arith, ap (λ (l : List ℕ). length (record_of l)) p=q)))

-- with room for the first record it is written
pub fitting_some : (room : ℕ) (p : List ℕ) (ps : List (List ℕ)) → 1 + 2 * length p ≤ room → 1 ≤ length (fitting room (p ∷ ps))
fitting_some room p ps h = rw (fitting_next room p ps (omega (arith, record_length p))) (omega arith)

-- with room for the longest record a page writes one, unless nothing follows
pub fitting_unless : (limit room : ℕ) (ps : List (List ℕ)) → ((q : List ℕ) → In q ps → length q ≤ limit) → 1 + 2 * limit ≤ room
    → length (fitting room ps) < 1 → ps ≡ []
fitting_unless limit room [] bound h e = refl
fitting_unless limit room (p ∷ ps) bound h e = absurd (omega (arith, bound p (here refl), fitting_some room p ps (omega (arith, bound p (here refl)))))

-- ---- the bytes ----

module _ (rest : List (List ℕ)) (out : List ℕ) where
  pub page_fits : (page_of rest (length out)).used ≤ length out
  page_fits = fitting_used (length out) rest

  -- the bytes used are the records, and the others stay
  pub page_used : take (page_of rest (length out)).used (page_bytes rest out) ≡ records (fitting (length out) rest)
  page_used = take-append_seam (records (fitting (length out) rest)) _

  pub page_kept : drop (page_of rest (length out)).used (page_bytes rest out) ≡ drop (page_of rest (length out)).used out
  page_kept = drop-append_seam (records (fitting (length out) rest)) _

  pub page_length : length (page_bytes rest out) ≡ length out
  page_length =
      length-append (records (fitting (length out) rest)) (drop (length (records (fitting (length out) rest))) out)
      ∙ omega (arith, length-drop (length (records (fitting (length out) rest))) out, fitting_used (length out) rest)

-- ---- record by record ----

pub records_last : (done : List (List ℕ)) (q : List ℕ) → records (done ++ q ∷ []) ≡ records done ++ record_of q
unfolding records
records_last done q = records-append done (q ∷ []) ∙ ap (λ (l : List ℕ). records done ++ l) (append-nil (record_of q))

pub records_longer : (done : List (List ℕ)) (q : List ℕ) → length (records (done ++ q ∷ [])) ≡ length (records done) + length (record_of q)
records_longer done q = ap length (records_last done q) ∙ length-append (records done) (record_of q)

-- a page under way, with the records of `done` written, and one more put behind them
pub page_put : (done : List (List ℕ)) (q : List ℕ) (out cur : List ℕ) → cur ≡ records done ++ drop (length (records done)) out
    → take (length (records done)) cur ++ record_of q ++ drop (length (records done) + length (record_of q)) cur
    ≡ records (done ++ q ∷ []) ++ drop (length (records (done ++ q ∷ []))) out
page_put done q out cur e =
    rw (e, records_longer done q, records_last done q, take-append_seam (records done), drop-append-add (records done), drop-drop)

-- what fits, with `done` taken off: one more that fits, the first that does not, or no more
pub fitting_on : (room : ℕ) (done : List (List ℕ)) (q : List ℕ) (rest whole : List (List ℕ))
    → whole ≡ done ++ fitting (room - length (records done)) (q ∷ rest) → length (records done) + length (record_of q) ≤ room
    → whole ≡ (done ++ q ∷ []) ++ fitting (room - length (records (done ++ q ∷ []))) rest
fitting_on room done q rest whole e h =
    let less : room - length (records (done ++ q ∷ [])) ≡ room - length (records done) - length (record_of q) = omega (arith, records_longer done q) in
    e
    ∙ ap (λ (l : List (List ℕ)). done ++ l) (fitting_next (room - length (records done)) q rest (omega arith))
    ∙ sym (append_snoc done q (fitting (room - length (records done) - length (record_of q)) rest))
    ∙ ap (λ (i : ℕ). (done ++ q ∷ []) ++ fitting i rest) (sym less)

pub fitting_off : (room : ℕ) (done : List (List ℕ)) (q : List ℕ) (rest whole : List (List ℕ))
    → whole ≡ done ++ fitting (room - length (records done)) (q ∷ rest) → length (records done) ≤ room → room < length (records done) + length (record_of q) → whole ≡ done
fitting_off room done q rest whole e l h =
    e ∙ ap (λ (r : List (List ℕ)). done ++ r) (fitting_stop (room - length (records done)) q rest (omega arith)) ∙ append-nil done

pub fitting_out : (room : ℕ) (done whole : List (List ℕ)) → whole ≡ done ++ fitting (room - length (records done)) [] → whole ≡ done
fitting_out room done whole e = e ∙ ap (λ (r : List (List ℕ)). done ++ r) (fitting_nothing (room - length (records done))) ∙ append-nil done

-- ---- the mark ----

pub next_ended : (rest written : List (List ℕ)) → length written ≡ length rest → next_point rest written ≡ ended
unfolding next_point
next_ended rest written e = rw (eq-eqb (length written) (length rest) e)

pub next_after : (rest written : List (List ℕ)) → length written < length rest → next_point rest written ≡ after (last_of [] written)
unfolding next_point
next_after rest written h = rw (ne_eqb (length written) (length rest) (omega arith))

-- the last of the first k + 1
pub last_take : (p : List ℕ) (k : ℕ) (xs : List (List ℕ)) → k < length xs → last_of p (take (suc k) xs) ≡ get_or xs k []
unfolding last_of
last_take p k [] h = absurd (omega arith)
last_take p zero (x ∷ xs) h = refl
last_take p (suc k) (x ∷ xs) h = last_take x k xs (omega arith)

-- ---- what a page leaves ----

module _ {xs : List (List ℕ)} (sorted : Sorted before xs) where
  -- what follows the last of several that follow a mark
  remaining_last : (m : Point) (w : List ℕ) (ws rest : List (List ℕ)) → remaining xs m ≡ w ∷ (ws ++ rest) → remaining xs (after (last_of w ws)) ≡ rest
  unfolding last_of
  remaining_last m w [] rest e = remaining_next sorted m w rest e
  remaining_last m w (v ∷ vs) rest e = remaining_last (after w) v vs rest (remaining_next sorted m w (v ∷ (vs ++ rest)) e)

  after_written : (m : Point) (written rest : List (List ℕ)) → remaining xs m ≡ written ++ rest → 1 ≤ length written → remaining xs (after (last_of [] written)) ≡ rest
  unfolding last_of
  after_written m [] rest e h = absurd (omega arith)
  after_written m (w ∷ ws) rest e h = remaining_last m w ws rest e

  -- what follows the mark that a page returns is what followed its own, less what it wrote
  pub page_leaves : (m : Point) (room : ℕ) → (1 ≤ length (remaining xs m) → 1 ≤ length (fitting room (remaining xs m)))
      → remaining xs (page_of (remaining xs m) room).next ≡ drop (page_of (remaining xs m) room).written (remaining xs m)
  page_leaves m room some =
      by_order (length (fitting room (remaining xs m))) (length (remaining xs m))
      (λ lt.
      rw (next_after (remaining xs m) (fitting room (remaining xs m)) lt)
      (after_written m (fitting room (remaining xs m)) (drop (length (fitting room (remaining xs m))) (remaining xs m))
      (sym (fitting_split room (remaining xs m))) (some (omega arith))))
      (λ ge.
      let e : length (fitting room (remaining xs m)) ≡ length (remaining xs m) = omega (arith, fitting-length room (remaining xs m)) in
      rw (next_ended (remaining xs m) (fitting room (remaining xs m)) e) (remaining_ended xs ∙ sym (drop_of_length-le (remaining xs m) {i = length (fitting room (remaining xs m))} ge)))
