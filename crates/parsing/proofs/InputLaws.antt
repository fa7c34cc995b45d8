-- The input is a whole line, of just the numbers read, exactly where it is a line of them; and what reading does at each kind
-- of byte.
use mathlib.Core.Path.{◌≡◌, refl, sym, ap, ◌∙◌}
use mathlib.Core.Bool.{true, false, true≢false}
use mathlib.Core.List.{List, [], ◌∷◌, ◌++◌}
use Prim.Native.Nat.{ℕ, zero, suc, ◌+◌, ◌-◌, ◌*◌, ◌≤◌}
use native.Mathlib.Omega.{arith}
use lib.Dec.{eqb}
use lib.ListN.{length}
use borrow.Author.Tests.{lt-ltb, le-ltb, le-leb, lt-leb, eq-eqb, ne_eqb, eqb-true}
use Rattle.base.specs.Lists.{All, none, each}
use Rattle.base.proofs.Cases.{by_test, by_order}
use Rattle.parsing.specs.Input.{Digit, value_from, value_of, Digits, closing, IsLine, no_more, one_more}
use Rattle.std.specs.Prelude.{Some, None}
use Rattle.parsing.specs.Parsing.{is_digit, Reading, read_from, read, numbers_in, whole_line}

digit_true : (c : ℕ) → Digit c → is_digit c ≡ true
digit_true c h = simp (le-leb 48 c h.0, lt-ltb c 58 h.1)

pub digit_false : (c : ℕ) → (Digit c → ⊥) → is_digit c ≡ false
digit_false c h =
    by_order c 48
    (λ l. simp (lt-leb 48 c l))
    (λ l. by_order c 58
    (λ k. absurd (h (l, k)))
    (λ k. simp (le-leb 48 c l, le-ltb c 58 k)))

true_digit : (c : ℕ) → is_digit c ≡ true → Digit c
true_digit c e =
    by_order c 48
    (λ l. absurd (true≢false (sym e ∙ digit_false c (λ d. omega arith))))
    (λ low. by_order c 58
    (λ high. (low, high))
    (λ l. absurd (true≢false (sym e ∙ digit_false c (λ d. omega arith)))))

value_first : (c : ℕ) (cs : List ℕ) → value_of (c ∷ cs) ≡ value_from (c - 48) cs
unfolding value_from
value_first c cs = ap (λ (v : ℕ). value_from v cs) (omega arith)

module _ (close : ℕ) where
  pub read_digit : (c : ℕ) (cs : List ℕ) → Digit c → read close (c ∷ cs) ≡ read_from close 8 (c - 48) cs
  unfolding read
  read_digit c cs h = rw (digit_true c h)

  pub read_other : (c : ℕ) (cs : List ℕ) → (Digit c → ⊥) → read close (c ∷ cs) ≡ None
  unfolding read
  read_other c cs h = rw (digit_false c h)

  pub read_from_close : (room v c : ℕ) (cs : List ℕ) → c ≡ close → read_from close room v (c ∷ cs) ≡ Some (v, cs)
  unfolding read_from
  read_from_close zero v c cs h = rw (eq-eqb c close h)
  read_from_close (suc room) v c cs h = rw (eq-eqb c close h)

  pub read_from_full : (v c : ℕ) (cs : List ℕ) → (c ≡ close → ⊥) → read_from close 0 v (c ∷ cs) ≡ None
  unfolding read_from
  read_from_full v c cs h = rw (ne_eqb c close h)

  pub read_from_other : (room v c : ℕ) (cs : List ℕ) → (c ≡ close → ⊥) → (Digit c → ⊥) → read_from close room v (c ∷ cs) ≡ None
  unfolding read_from
  read_from_other zero v c cs h k = rw (ne_eqb c close h)
  read_from_other (suc room) v c cs h k = rw (ne_eqb c close h, digit_false c k)

  pub read_from_digit : (room v c : ℕ) (cs : List ℕ) → (c ≡ close → ⊥) → Digit c
      → read_from close (suc room) v (c ∷ cs) ≡ read_from close room (v * 10 + (c - 48)) cs
  unfolding read_from
  read_from_digit room v c cs h k = rw (ne_eqb c close h, digit_true c k)

  -- digits and the closing byte are read as the number that they give
  read_from_text : (Digit close → ⊥) → {ds : List ℕ} → All Digit ds → (room v : ℕ) (rest : List ℕ) → length ds ≤ room
      → read_from close room v (ds ++ (close ∷ rest)) ≡ Some (value_from v ds, rest)
  unfolding value_from
  read_from_text other none room v rest h = read_from_close room v close rest refl
  read_from_text other (each d ds) zero v rest h = absurd (omega arith)
  read_from_text other (each {x = c} {xs = cs} d ds) (suc room) v rest h =
      read_from_digit room v c (cs ++ (close ∷ rest)) (λ e. other (rw e at d)) d
      ∙ read_from_text other ds room (v * 10 + (c - 48)) rest (omega arith)

  read_text : (Digit close → ⊥) → {v : ℕ} {ds : List ℕ} → Digits v ds → (rest : List ℕ) → read close (ds ++ (close ∷ rest)) ≡ Some (v, rest)
  read_text other {v} {ds} h rest = go h.digits h.some h.few h.value
    where
      go : {ds : List ℕ} → All Digit ds → 1 ≤ length ds → length ds ≤ 9 → value_of ds ≡ v → read close (ds ++ (close ∷ rest)) ≡ Some (v, rest)
      go none some few e = absurd (omega arith)
      go (each {x = c} {xs = cs} d ds) some few e =
          read_digit c (cs ++ (close ∷ rest)) d
          ∙ read_from_text other ds 8 (c - 48) rest (omega arith)
          ∙ ap (λ (x : ℕ). Some (x, rest)) (sym (value_first c cs) ∙ e)

  -- and nothing else is read as a number
  data Split (room v w : ℕ) (rest text : List ℕ) : Type 0 where
    split : (ds : List ℕ) → All Digit ds → length ds ≤ room → value_from v ds ≡ w → text ≡ ds ++ (close ∷ rest) → Split room v w rest text

  not_found : {w : ℕ} {rest : List ℕ} → ◌≡◌ {A = Reading} None (Some (w, rest)) → ⊥
  not_found e = cc

  closed : (room v w c : ℕ) (cs rest : List ℕ) → eqb c close ≡ true → ◌≡◌ {A = Reading} (Some (v, cs)) (Some (w, rest)) → Split room v w rest (c ∷ cs)
  unfolding value_from
  closed room v w c cs rest e f =
      let h : c ≡ close = eqb-true c close e in
      let p : ◌≡◌ {A = ℕ × List ℕ} (v, cs) (w, rest) = cc in
      let t : cs ≡ rest = ap (λ (q : ℕ × List ℕ). q.1) p in
      split [] none (omega arith) (ap (λ (q : ℕ × List ℕ). q.0) p) (cc)

  read_from_split : (room v w : ℕ) (rest text : List ℕ) → read_from close room v text ≡ Some (w, rest) → Split room v w rest text
  unfolding read_from value_from
  read_from_split room v w rest [] e = absurd (not_found e)
  read_from_split zero v w rest (c ∷ cs) e =
      by_test (eqb c close)
      (λ t. closed zero v w c cs rest t (rw t at e))
      (λ t. absurd (not_found (rw t at e)))
  read_from_split (suc room) v w rest (c ∷ cs) e =
      by_test (eqb c close)
      (λ t. closed (suc room) v w c cs rest t (rw t at e))
      (λ t. by_test (is_digit c)
      (λ d. more d (read_from_split room (v * 10 + (c - 48)) w rest cs (rw (t, d) at e)))
      (λ d. absurd (not_found (rw (t, d) at e))))
    where
      more : is_digit c ≡ true → Split room (v * 10 + (c - 48)) w rest cs → Split (suc room) v w rest (c ∷ cs)
      more d (split ds all few value text) =
          split (c ∷ ds) (each (true_digit c d) all) (omega arith) value (ap (λ (t : List ℕ). c ∷ t) text)

  data Spelled (v : ℕ) (rest text : List ℕ) : Type 0 where
    spelled : {ds : List ℕ} → Digits v ds → text ≡ ds ++ (close ∷ rest) → Spelled v rest text

  read_split : (v : ℕ) (rest text : List ℕ) → read close text ≡ Some (v, rest) → Spelled v rest text
  unfolding read
  read_split v rest [] e = absurd (not_found e)
  read_split v rest (c ∷ cs) e =
      by_test (is_digit c)
      (λ d. whole_text d (read_from_split 8 (c - 48) v rest cs (rw d at e)))
      (λ d. absurd (not_found (rw d at e)))
    where
      whole_text : is_digit c ≡ true → Split 8 (c - 48) v rest cs → Spelled v rest (c ∷ cs)
      whole_text d (split ds all few value text) =
          spelled {ds = c ∷ ds}
          (record { digits = each (true_digit c d) all; some = omega arith; few = omega arith; value = value_first c ds ∙ value })
          (ap (λ (t : List ℕ). c ∷ t) text)

-- ---- a line, number by number ----

closing_no_digit : (more : ℕ) → Digit (closing more) → ⊥
closing_no_digit zero h = omega arith
closing_no_digit (suc more) h = omega arith

-- one number read, and what follows it
module _ {left more byte : ℕ} (input : List ℕ) (l : left ≡ suc more) (b : byte ≡ closing more) where
  module _ {v : ℕ} {rest : List ℕ} (e : read byte input ≡ Some (v, rest)) where
    pub numbers_found : numbers_in left input ≡ v ∷ numbers_in more rest
    unfolding numbers_in
    numbers_found = let f = rw b at e in rw (l, f, numbers_in)

    pub line_found : whole_line left input ≡ whole_line more rest
    unfolding whole_line
    line_found = let f = rw b at e in rw (l, f, whole_line)

  module _ (e : read byte input ≡ None) where
    pub numbers_missing : numbers_in left input ≡ []
    unfolding numbers_in
    numbers_missing = let f = rw b at e in rw (l, f, numbers_in)

    pub line_missing : whole_line left input ≡ false
    unfolding whole_line
    line_missing = let f = rw b at e in rw (l, f, whole_line)

-- nothing stands behind a whole line
pub line_ends : (input : List ℕ) → whole_line 0 input ≡ eqb (length input) 0
unfolding whole_line
line_ends [] = refl
line_ends (c ∷ cs) = sym (ne_eqb (suc (length cs)) 0 (λ e. omega arith))

-- a number is read or not
by_reading : (more : ℕ) (input : List ℕ) (P : Type 0) → ((v : ℕ) (rest : List ℕ) → read (closing more) input ≡ Some (v, rest) → P)
    → (read (closing more) input ≡ None → P) → P
by_reading more input P read_one none_read = go (read (closing more) input) refl
  where
    go : (r : Reading) → read (closing more) input ≡ r → P
    go (Some (v, rest)) e = read_one v rest e
    go None e = none_read e

-- a line of some numbers is a whole line, and just these are read
pub line_read : {vs input : List ℕ} → IsLine vs input → (whole_line (length vs) input ≡ true) × (numbers_in (length vs) input ≡ vs)
unfolding whole_line numbers_in
line_read no_more = (refl, refl)
line_read (one_more {v = v} {vs = vs} {ds = ds} {rest = rest} {input = input} h e l) =
    let r : read (closing (length vs)) input ≡ Some (v, rest) = rw e (read_text (closing (length vs)) (closing_no_digit (length vs)) h rest) in
    let ih = line_read l in (
      line_found input refl refl r ∙ ih.0,
      numbers_found input refl refl r ∙ ap (λ (ws : List ℕ). v ∷ ws) ih.1,
    )

-- and a whole line is a line of the numbers read
pub read_line : (count : ℕ) (input : List ℕ) → whole_line count input ≡ true → (length (numbers_in count input) ≡ count) × IsLine (numbers_in count input) input
unfolding whole_line numbers_in
read_line zero [] e = (refl, no_more)
read_line zero (c ∷ cs) e = absurd (true≢false (sym e))
read_line (suc more) input e =
    by_reading more input _
    (λ v rest r.
    let ih = read_line more rest (sym (line_found input refl refl r) ∙ e) in
    elim (read_split (closing more) v rest input r) [
      | spelled {ds} h t ↦
          rw (numbers_found input refl refl r)
          (ap suc ih.0, one_more {rest = rest} h (t ∙ ap (λ (k : ℕ). ds ++ (closing k ∷ rest)) (sym ih.0)) ih.1)
    ])
    (λ r. absurd (true≢false (sym e ∙ line_missing input refl refl r)))
