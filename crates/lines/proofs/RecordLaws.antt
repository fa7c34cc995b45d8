-- The text of a page's patterns, record by record.
use mathlib.Core.Path.{◌≡◌, refl, sym, ap, ◌∙◌}
use mathlib.Core.List.{List, [], ◌∷◌, ◌++◌, append_assoc}
use Prim.Native.Nat.{ℕ, zero, suc, ◌+◌, ◌*◌, ◌/◌, ◌<◌, ◌≤◌}
use native.Mathlib.Omega.{arith}
use lib.ListN.{length, get_or, drop, take-append-drop}
use Rattle.std.specs.List.{IsSplitAt}
use borrow.Author.Tests.{le-leb, lt-leb}
use Rattle.records.specs.Records.{positions_in, patterns_in, patterns_from}
use Rattle.records.proofs.RecordLaws.{length-positions, patterns_cons}
use Rattle.lines.specs.Decimal.{decimal}
use Rattle.lines.specs.Text.{spaced, line_of, text_of}

-- the text of the positions in some bytes: the first two bytes' position, and those behind it
pub spaced_none : (bs : List ℕ) → length bs < 2 → spaced (positions_in (length bs / 2) bs) ≡ []
unfolding positions_in spaced
spaced_none bs h = let e : length bs / 2 ≡ 0 = omega arith in rw (e, spaced)

pub spaced_pair : {bs : List ℕ} (pair rest : List ℕ) → bs ≡ pair ++ rest → length pair ≡ 2
    → spaced (positions_in (length bs / 2) bs)
    ≡ 32 ∷ decimal (get_or pair 0 0 * 256 + get_or pair 1 0) ++ spaced (positions_in (length rest / 2) rest)
unfolding positions_in spaced
spaced_pair [] rest e h = absurd (omega arith)
spaced_pair (x ∷ []) rest e h = absurd (omega arith)
spaced_pair (x ∷ y ∷ []) rest e h =
    let more : suc (suc (length rest)) / 2 ≡ suc (length rest / 2) = omega arith in
    rw (e, more)
spaced_pair (x ∷ y ∷ z ∷ pair) rest e h = absurd (omega arith)

pub line_text : (k : ℕ) (bs : List ℕ) → line_of (positions_in k bs) ≡ decimal k ++ (spaced (positions_in k bs) ++ (10 ∷ []))
unfolding line_of
line_text k bs = rw (length-positions k bs)

-- positions are read from the bytes that hold them
positions_front : (k : ℕ) (xs ys : List ℕ) → 2 * k ≤ length xs → positions_in k (xs ++ ys) ≡ positions_in k xs
unfolding positions_in
positions_front zero xs ys h = refl
positions_front (suc k) [] ys h = absurd (omega arith)
positions_front (suc k) (x ∷ []) ys h = absurd (omega arith)
positions_front (suc k) (x ∷ y ∷ xs) ys h = ap (λ (ps : List ℕ). (x * 256 + y) ∷ ps) (positions_front k xs ys (omega arith))

-- at the rest of a page: nothing past its end, nothing at a record that is cut off, else a record and what follows it
pub text_past : (page : List ℕ) → length page ≡ 0 → text_of (patterns_in page) ≡ []
unfolding patterns_in patterns_from text_of
text_past [] h = refl
text_past (x ∷ page) h = absurd (omega arith)

module _ {page rest : List ℕ} {k n : ℕ} (e : page ≡ k ∷ rest) (m : n ≡ k) where
  pub text_cut : length rest < 2 * n → text_of (patterns_in page) ≡ []
  unfolding text_of
  text_cut l = rw (e, patterns_cons k rest, lt-leb (2 * k) (length rest) (omega arith))

  pub text_step : {positions following : List ℕ} → IsSplitAt rest (2 * n) positions following
      → text_of (patterns_in page) ≡ line_of (positions_in k positions) ++ text_of (patterns_in following)
  unfolding text_of
  text_step {positions} {following} s =
      let whole : positions ++ following ≡ rest = rw (s.1, s.2) (take-append-drop (2 * n) rest) in
      let front : positions_in k rest ≡ positions_in k positions = rw (sym whole) (positions_front k positions following (omega (arith, s.3))) in
      let behind : drop (2 * k) rest ≡ following = rw (sym m) (sym s.2) in
      rw (e, patterns_cons k rest, le-leb (2 * k) (length rest) (omega (arith, s.0)), front, behind)

-- the lines of patterns one behind the other
pub text_append : (xs ys : List (List ℕ)) → text_of (xs ++ ys) ≡ text_of xs ++ text_of ys
unfolding text_of
text_append [] ys = refl
text_append (x ∷ xs) ys = ap (λ (t : List ℕ). line_of x ++ t) (text_append xs ys) ∙ sym (append_assoc (line_of x) (text_of xs) (text_of ys))
