-- What a search tells of the first that meets something: for an equivalent something, by another order that agrees, of two kinds one
-- behind the other, and of the sets that are placed one position after the other.
use mathlib.Core.Path.{◌≡◌, subst, ◌∙◌}
use mathlib.Core.Bool.{Bool, true, false}
use mathlib.Core.Logic.{◌⊎◌, ⊎_elim, ◌↔◌}
use mathlib.Core.List.{List, [], ◌∷◌}
use Prim.Native.Nat.{ℕ, ◌-◌, ◌≤◌}
use native.Mathlib.Omega.{arith}
use native.Mathlib.Nat.{sub-zero}
use borrow.Author.Tests.{eq-eqb, eqb-true}
use lib.Dec.{eqb}
use lib.ListN.{length}
use Rattle.base.specs.Lists.{In}
use Rattle.base.proofs.ListLaws.{in_nothing}
use Rattle.patterns.specs.Order.{lower}
use Rattle.patterns.specs.StrictOrder.{Sorted, Foremost}
use Rattle.patterns.specs.Listing.{choose, sift}
use Rattle.patterns.proofs.SiftLaws.{sift_in, in_sift}
use Rattle.patterns.proofs.SortedLaws.{sorted_sift}
use Rattle.patterns.proofs.ForemostLaws.{foremost_same, first_foremost}
use Rattle.patterns.proofs.ListingLaws.{choose_in, in_choose}
use Rattle.patterns.proofs.WalkLaws.{choose_sorted}
use Rattle.placing.specs.Placing.{xor_all, summing, head_of, first_from, first_after, answer}
use Rattle.spans.specs.Spans.{Finds, Summing}

-- ---- any order, any kind ----

module _ {A : Type 0} (R : A → A → Bool) where
  pub finds_same : (P Q : A → Type 0) (r : Bool) (a : A) → ((b : A) → P b ↔ Q b) → Finds R P r a → Finds R Q r a
  finds_same P Q true a same f = foremost_same same f
  finds_same P Q false a same f = λ b q. f b ((same b).1 q)

  -- of two kinds, those of the first being before those of the second: found among the first
  pub finds_in_first : (P F S : A → Type 0) (a : A) → ((b : A) → F b → P b) → ((b : A) → P b → F b ⊎ S b)
      → ((b c : A) → F b → S c → R b c ≡ true) → Foremost R F a → Foremost R P a
  finds_in_first P F S a f split cross e =
      record { meets = f a e.meets; others_after = λ b p ne. ⊎_elim (λ k. e.others_after b k ne) (λ k. cross a b e.meets k) (split b p) }

  -- and where the first has none, among the second
  pub finds_in_second : (P F S : A → Type 0) (r : Bool) (a : A) → ((b : A) → S b → P b) → ((b : A) → P b → F b ⊎ S b)
      → ((b : A) → F b → ⊥) → Finds R S r a → Finds R P r a
  finds_in_second P F S r a f split none =
      finds_same S P r a (λ b. (f b, λ p. ⊎_elim (λ k. absurd (none b k)) (λ k. k) (split b p)))

  -- by another order that agrees on what is looked for
  pub finds_by : (S : A → A → Bool) (P : A → Type 0) (r : Bool) (a : A) → ((b c : A) → P b → P c → S b c ≡ R b c) → Finds R P r a → Finds S P r a
  finds_by S P true a same f = record { meets = f.meets; others_after = λ b m ne. same a b f.meets m ∙ f.others_after b m ne }
  finds_by S P false a same f = f

-- ---- sets that are placed ----

-- the first of a list that ascends
head_finds : (r : Bool) (ps : List ℕ) (xs : List (List ℕ)) → Sorted lower xs → answer r ps ≡ head_of xs → Finds lower (λ q. In q xs) r ps
unfolding head_of
head_finds true ps [] s e = absurd (let z : ◌≡◌ {A = ℕ} 0 1 = cc in omega arith)
head_finds true ps (x ∷ xs) s e = let d : x ≡ ps = cc in subst (Foremost lower (λ q. In q (x ∷ xs))) d (first_foremost s)
head_finds false ps [] s e = λ b i. in_nothing i
head_finds false ps (x ∷ xs) s e = absurd (let z : ◌≡◌ {A = ℕ} 0 1 = cc in omega arith)

module _ (power : ℕ → ℕ) (l : ℕ) where
  in_summing : (k from u : ℕ) → from ≤ l → (q : List ℕ) → In q (summing power u (choose (l - from) k from)) ↔ Summing power l k from u q
  unfolding summing
  in_summing k from u h q = (
    λ i.
        let s = sift_in (λ ps. eqb (xor_all power ps) u) (choose (l - from) k from) i in
        let a = choose_in (l - from) k from l (omega arith) q s.0 in
        record { ascends = a.0; counts = a.1; sums = eqb-true _ _ s.1 },
    λ m. in_sift (λ ps. eqb (xor_all power ps) u) (rw (← m.counts) (in_choose (l - from) from l (omega arith) m.ascends)) (eq-eqb _ _ m.sums),
  )

  summing_sorted : (k from u : ℕ) → Sorted lower (summing power u (choose (l - from) k from))
  unfolding summing
  summing_sorted k from u = sorted_sift (λ qs. eqb (xor_all power qs) u) (choose_sorted (l - from) k from)

  -- from a position on
  pub first_finds : (k from u : ℕ) → from ≤ l → (r : Bool) (ps : List ℕ) → answer r ps ≡ first_from power l k from u → Finds lower (Summing power l k from u) r ps
  unfolding first_from
  first_finds k from u h r ps e =
      finds_same lower (λ q. In q (summing power u (choose (l - from) k from))) (Summing power l k from u) r ps (in_summing k from u h)
      (head_finds r ps (summing power u (choose (l - from) k from)) (summing_sorted k from u) e)

  -- after a set, among those of its count
  pub after_finds : (u : ℕ) (ps : List ℕ) (r : Bool) (ys : List ℕ) → answer r ys ≡ first_after power l ps u
      → Finds lower (λ x. Summing power l (length ps) 0 u x × (lower ps x ≡ true)) r ys
  unfolding first_after
  after_finds u ps r ys e =
      let xs : List (List ℕ) = summing power u (choose (l - 0) (length ps) 0) in
      finds_same lower (λ q. In q (sift (lower ps) xs)) (λ x. Summing power l (length ps) 0 u x × (lower ps x ≡ true)) r ys
      (λ q. (
        λ i. let s = sift_in (lower ps) xs i in ((in_summing (length ps) 0 u (omega arith) q).0 s.0, s.1),
        λ m. in_sift (lower ps) ((in_summing (length ps) 0 u (omega arith) q).1 m.0) m.1,
      ))
      (head_finds r ys (sift (lower ps) xs) (sorted_sift (lower ps) (summing_sorted (length ps) 0 u)) (rw (sub-zero l) e))
