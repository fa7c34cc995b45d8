-- Count by count in the list's order: the sets of one count, those of the counts above it, and what follows a set.
use mathlib.Core.Path.{◌≡◌, refl, sym, ◌∙◌}
use mathlib.Core.Bool.{Bool, true, false}
use mathlib.Core.Logic.{◌⊎◌, inl, inr}
use mathlib.Core.List.{List, [], ◌++◌}
use Rattle.std.proofs.Common.{Option, Some, None}
use Prim.Native.Nat.{ℕ, ◌+◌, ◌≤◌}
use native.Mathlib.Omega.{arith}
use lib.ListN.{length, take, drop}
use lib.Seq.{length-take-le, take_at}
use Rattle.base.proofs.Cases.{by_order, by_equal}
use Rattle.patterns.specs.Order.{before}
use Rattle.patterns.specs.StrictOrder.{Foremost}
use Rattle.patterns.proofs.OrderLaws.{before_strict_total, fewer_before}
use Rattle.patterns.proofs.SortedLaws.{never_both}
use Rattle.placing.specs.Placing.{Lookup}
use Rattle.search.specs.Search.{OddOnes, ruled_out, Missed, FirstHit, Risen}
use Rattle.search.proofs.ParityLaws.{none_placed}
use Rattle.spans.specs.Spans.{Finds, Summing, Behind}
use Rattle.spans.proofs.FindLaws.{finds_in_first, finds_in_second, first_finds}
use Rattle.ordered.specs.Ordered.{Among, FindsAt}

-- a count that is ruled out has none
pub none_summing : (g k u : ℕ) → ruled_out g k u ≡ true → {power : ℕ → ℕ} {pow first : List ℕ} {period : ℕ} → Lookup power pow first period → OddOnes g pow
    → (x : List ℕ) → Summing power (length pow) k 0 u x → ⊥
none_summing g k u out {power} {pow} t odd = first_finds power (length pow) k 0 u (omega arith) false [] (sym (none_placed g k u out t odd))

-- ---- a count found, of a slice whose front was lent ----

pub found_front : (P : List ℕ → Type 0) (k : ℕ) (xs ys : List ℕ) → k ≤ length xs → length ys ≡ length (take k xs) → Foremost before P ys → FindsAt before P (Some k) (ys ++ drop k xs)
found_front P k xs ys h same e = rw (take_at ys (drop k xs) k (same ∙ length-take-le k xs h)) e

-- what is told of one kind, told of another
pub found_by : {P Q : List ℕ → Type 0} → ((r : Bool) (x : List ℕ) → Finds before P r x → Finds before Q r x) → (r : Option ℕ) (pos : List ℕ) → FindsAt before P r pos → FindsAt before Q r pos
found_by f (Some k) pos h = f true (take k pos) h
found_by f None pos h = f false [] h

module _ (power : ℕ → ℕ) (l most u : ℕ) where
  in_among : {least k : ℕ} {x : List ℕ} → least ≤ k → k ≤ most → Summing power l k 0 u x → Among power l least most u x
  in_among from to m = record { ascends = m.ascends; enough = omega (arith, m.counts); within = omega (arith, m.counts); sums = m.sums }

  of_count : {least : ℕ} {x : List ℕ} → Among power l least most u x → Summing power l (length x) 0 u x
  of_count m = record { ascends = m.ascends; counts = refl; sums = m.sums }

  -- ---- what a rise found, where each step tells of the sets of one count ----

  module _ {S : List ℕ → Bool → List ℕ → Type 0} (told : (xs : List ℕ) (r : Bool) (ys : List ℕ) → S xs r ys → Finds before (Summing power l (length xs) 0 u) r ys) where
    missed : (j : ℕ) → Missed S j → (x : List ℕ) → Summing power l j 0 u x → ⊥
    missed j (xs, ys, e, m) = rw e at (told xs false ys m)

    first_among : (least : ℕ) (r : Option ℕ) (pos : List ℕ) → FirstHit S least most r pos → FindsAt before (Among power l least most u) r pos
    first_among least (Some k) pos (from, to, (xs, n, hit), below) =
        let f : Foremost before (Summing power l k 0 u) (take k pos) = rw n at (told xs true (take k pos) hit) in
        record {
          meets = in_among from to f.meets;
          others_after = λ x m ne.
              by_order (length x) k (λ lt. absurd (missed (length x) (below (length x) m.enough lt) x (of_count m)))
              (λ ge.
              by_equal (length x) k (λ e. f.others_after x (rw e at (of_count m)) ne)
              (λ e. fewer_before (take k pos) x (omega (arith, f.meets.counts))));
        }
    first_among least None pos none = λ x m. missed (length x) (none (length x) m.enough m.within) x (of_count m)

    pub risen_among : {least m : ℕ} {r : Option ℕ} {pos : List ℕ} → m ≡ most → Risen S least m r pos → FindsAt before (Among power l least most u) r pos
    risen_among {least} {r = r} {pos = pos} e f = first_among least r pos (rw e at f.first)

  -- ---- after a set q: more of its count, and then the counts above it ----

  module _ (q : List ℕ) (k : ℕ) (count : length q ≡ k) (room : k ≤ most) where
    abbrev SameCount : List ℕ → Type 0
    SameCount = Behind (Summing power l k 0 u) q

    abbrev Later : List ℕ → Type 0
    Later = Behind (Among power l 0 most u) q

    later_split : (x : List ℕ) → Later x → SameCount x ⊎ Among power l (k + 1) most u x
    later_split x (m, t) =
        by_order (length x) k (λ h. absurd (never_both before_strict_total x q (fewer_before x q (omega arith)) t))
        (λ g.
        by_equal (length x) k (λ e. inl (record { ascends = m.ascends; counts = e; sums = m.sums }, t))
        (λ e. inr (record { ascends = m.ascends; enough = omega arith; within = m.within; sums = m.sums })))

    pub later_hit : (x : List ℕ) → Foremost before SameCount x → Foremost before Later x
    later_hit x e =
        finds_in_first before Later SameCount (Among power l (k + 1) most u) x
        (λ b m. (record { ascends = m.0.ascends; enough = omega arith; within = omega (arith, m.0.counts); sums = m.0.sums }, m.1)) later_split
        (λ b c m n. fewer_before b c (omega (arith, m.0.counts, n.enough))) e

    pub later_miss : ((x : List ℕ) → SameCount x → ⊥) → (above : ℕ) → above ≡ k + 1 → (r : Option ℕ) (x : List ℕ) → FindsAt before (Among power l above most u) r x → FindsAt before Later r x
    later_miss none above e r x f =
        found_by
        (λ r x.
        finds_in_second before Later SameCount (Among power l (k + 1) most u) r x
        (λ b m. (record { ascends = m.ascends; enough = omega arith; within = m.within; sums = m.sums }, fewer_before q b (omega (arith, m.enough)))) later_split none)
        r x (rw e at f)
