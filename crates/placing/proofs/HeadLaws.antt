-- The first set of a given sum: one step of the search for it, from a position and after a set.
use mathlib.Core.Path.{◌≡◌, refl, sym, ap, ◌∙◌}
use mathlib.Core.Bool.{Bool}
use mathlib.Core.List.{List, [], ◌∷◌, ◌++◌, map}
use Prim.Native.Nat.{ℕ, zero, suc, ◌+◌, ◌-◌, ◌<◌, ◌≤◌}
use native.Mathlib.Omega.{arith}
use native.Mathlib.Nat.{sub-zero}
use native.Mathlib.Numerals.{add-one}
use lib.Bits.{bit_xor, xor_comm}
use lib.Dec.{eqb}
use lib.ListN.{length}
use borrow.Author.Tests.{eq-eqb, ne_eqb, eqb-true, eqb-false}
use Rattle.base.proofs.Cases.{by_test}
use Rattle.base.proofs.XorLaws.{xor-ac, xor_cancel}
use Rattle.patterns.specs.Order.{lower}
use Rattle.base.specs.Lists.{Ascending, next}
use Rattle.patterns.specs.Listing.{choose, sift}
use Rattle.patterns.proofs.SiftLaws.{sift-append, sift-map, sift-same, sift_comm}
use Rattle.placing.specs.Placing.{xor_all, summing, Head, headless, starts, head_of, first_from, first_after, answer}
use Rattle.placing.proofs.ChooseLaws.{choose_zero, choose_past, choose-step, choose_after}

-- the first of two, and one with a position in front
abbrev pub or_else : Head → Head → Head
or_else headless y = y
or_else (starts p) y = starts p

abbrev pub onto : ℕ → Head → Head
onto p headless = headless
onto p (starts ps) = starts (p ∷ ps)

pub head_append : (xs ys : List (List ℕ)) → head_of (xs ++ ys) ≡ or_else (head_of xs) (head_of ys)
unfolding head_of
head_append [] ys = refl
head_append (x ∷ xs) ys = refl

head_map : (p : ℕ) (xs : List (List ℕ)) → head_of (map (λ ps. p ∷ ps) xs) ≡ onto p (head_of xs)
unfolding head_of
head_map p [] = refl
head_map p (x ∷ xs) = refl

pub head_nil : head_of [] ≡ headless
unfolding head_of
head_nil = refl

module _ (power : ℕ → ℕ) where
  -- a sum with one position more is u exactly where the sum without it is u less its power
  sum_cons : (p u : ℕ) (ps : List ℕ) → eqb (xor_all power (p ∷ ps)) u ≡ eqb (xor_all power ps) (bit_xor u (power p))
  unfolding xor_all
  sum_cons p u ps =
      by_test (eqb (xor_all power ps) (bit_xor u (power p)))
      (λ e. eq-eqb (bit_xor (power p) (xor_all power ps)) u (ap (bit_xor (power p)) (eqb-true _ _ e) ∙ simp xor-ac) ∙ sym e)
      (λ e.
      ne_eqb (bit_xor (power p) (xor_all power ps)) u
      (λ f. eqb-false _ _ e (sym (xor_cancel (power p) (xor_all power ps)) ∙ ap (bit_xor (power p)) f ∙ xor_comm (power p) u))
      ∙ sym e)

  pub summing-append : (u : ℕ) (xs ys : List (List ℕ)) → summing power u (xs ++ ys) ≡ summing power u xs ++ summing power u ys
  unfolding summing
  summing-append u xs ys = sift-append (λ ps. eqb (xor_all power ps) u) xs ys

  summing-map : (u p : ℕ) (xs : List (List ℕ))
      → summing power u (map (λ ps. p ∷ ps) xs) ≡ map (λ ps. p ∷ ps) (summing power (bit_xor u (power p)) xs)
  unfolding summing
  summing-map u p xs =
      sift-map (λ ps. eqb (xor_all power ps) u) (λ ps. p ∷ ps) xs
      ∙ ap (map (λ ps. p ∷ ps))
      (sift-same (λ ps. eqb (xor_all power (p ∷ ps)) u) (λ ps. eqb (xor_all power ps) (bit_xor u (power p))) xs (λ ps i. sum_cons p u ps))

  pub summing-sift : (u : ℕ) (P : List ℕ → Bool) (xs : List (List ℕ)) → sift P (summing power u xs) ≡ summing power u (sift P xs)
  unfolding summing
  summing-sift u P xs = sift_comm P (λ ps. eqb (xor_all power ps) u) xs

  pub summing_nil : (u : ℕ) → summing power u [] ≡ []
  unfolding summing sift
  summing_nil u = refl

  -- sets that start with p, and others behind them
  head_split : (u p : ℕ) (xs ys : List (List ℕ))
      → head_of (summing power u (map (λ ps. p ∷ ps) xs ++ ys))
      ≡ or_else (onto p (head_of (summing power (bit_xor u (power p)) xs))) (head_of (summing power u ys))
  head_split u p xs ys =
      ap head_of (summing-append u (map (λ ps. p ∷ ps) xs) ys)
      ∙ head_append (summing power u (map (λ ps. p ∷ ps) xs)) (summing power u ys)
      ∙ ap (λ (h : Head). or_else h (head_of (summing power u ys)))
      (ap head_of (summing-map u p xs) ∙ head_map p (summing power (bit_xor u (power p)) xs))

  pub first_from_zero : (l from u : ℕ) → first_from power l zero from u ≡ answer (eqb 0 u) []
  unfolding first_from summing sift xor_all head_of
  first_from_zero l from u =
      rw choose_zero (by_test (eqb 0 u) (λ e. rw e) (λ e. rw e))

  -- no room, with whatever list of no positions
  pub first_from_empty : (l from u : ℕ) (xs : List ℕ) → length xs ≡ 0 → answer (eqb u 0) xs ≡ first_from power l (length xs) from u
  first_from_empty l from u [] h =
      let swapped : eqb u 0 ≡ eqb 0 u = by_test (eqb u 0) (λ e. rw (e, eq-eqb 0 u (sym (eqb-true u 0 e)))) (λ e. rw (e, ne_eqb 0 u (λ z. eqb-false u 0 e (sym z)))) in
      ap (λ (r : Bool). answer r []) swapped ∙ sym (first_from_zero l from u)
  first_from_empty l from u (x ∷ xs) h = absurd (omega arith)

  pub first_from_past : (l k from u : ℕ) → l ≤ from → first_from power l (suc k) from u ≡ headless
  unfolding first_from
  first_from_past l k from u h = ap (λ (x : List (List ℕ)). head_of (summing power u x)) (choose_past l k from h) ∙ ap head_of (summing_nil u) ∙ head_nil

  pub first_from-step : (l k from u : ℕ) → from < l
      → first_from power l (suc k) from u
      ≡ or_else (onto from (first_from power l k (from + 1) (bit_xor u (power from)))) (first_from power l (suc k) (from + 1) u)
  unfolding first_from
  first_from-step l k from u h =
      rw add-one
      (ap (λ (x : List (List ℕ)). head_of (summing power u x)) (choose-step l k from h)
      ∙ head_split u from (choose (l - suc from) k (suc from)) (choose (l - suc from) (suc k) (suc from)))

  pub first_from_whole : (l k u : ℕ) → first_from power l k 0 u ≡ head_of (summing power u (choose l k zero))
  unfolding first_from
  first_from_whole l k u = rw sub-zero

  -- what comes after a set is the same from whichever position up to its first the sets are taken
  after_from : (l from : ℕ) (ps : List ℕ) → Ascending l from ps
      → sift (lower ps) (choose (l - from) (length ps) from) ≡ sift (lower ps) (choose l (length ps) zero)
  after_from l from [] a = ap (sift (lower [])) (choose_zero (l - from) from ∙ sym (choose_zero l zero))
  after_from l from (p ∷ ps) (next h b a) =
      choose_after l (length ps) p ps (p - from) from (omega arith) b
      ∙ sym (ap (λ (r : ℕ). sift (lower (p ∷ ps)) (choose r (suc (length ps)) zero)) (sym (sub-zero l)) ∙ choose_after l (length ps) p ps p zero (omega arith) b)

  -- nothing comes after the empty set among those of no positions
  pub first_after_empty : (l u : ℕ) (xs : List ℕ) → length xs ≡ 0 → first_after power l xs u ≡ headless
  unfolding first_after lower summing sift xor_all head_of
  first_after_empty l u (x ∷ xs) h = absurd (omega arith)
  first_after_empty l u [] h = rw choose_zero (by_test (eqb 0 u) (λ e. rw e) (λ e. rw e))

  pub first_after_cons : (l p : ℕ) (ps : List ℕ) (u : ℕ) → Ascending l 0 (p ∷ ps)
      → first_after power l (p ∷ ps) u
      ≡ or_else (onto p (first_after power l ps (bit_xor u (power p)))) (first_from power l (suc (length ps)) (p + 1) u)
  unfolding first_after first_from
  first_after_cons l p ps u (next h b a) =
      rw add-one
      (ap head_of (summing-sift u (lower (p ∷ ps)) (choose l (suc (length ps)) zero))
      ∙ ap (λ (x : List (List ℕ)). head_of (summing power u x))
      (ap (λ (r : ℕ). sift (lower (p ∷ ps)) (choose r (suc (length ps)) zero)) (sym (sub-zero l))
      ∙ choose_after l (length ps) p ps p zero (omega arith) b)
      ∙ head_split u p (sift (lower ps) (choose (l - suc p) (length ps) (suc p))) (choose (l - suc p) (suc (length ps)) (suc p))
      ∙ ap (λ (x : List (List ℕ)). or_else (onto p (head_of x)) (head_of (summing power u (choose (l - suc p) (suc (length ps)) (suc p)))))
      (ap (summing power (bit_xor u (power p))) (after_from l (suc p) ps a) ∙ sym (summing-sift (bit_xor u (power p)) (lower ps) (choose l (length ps) zero))))
