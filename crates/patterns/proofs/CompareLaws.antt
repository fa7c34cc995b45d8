-- The order of positions is the order of tuples: of the count, the span and the positions, each as `<` compares it. And spans by their ends.
use mathlib.Core.Path.{◌≡◌, refl, ap, ◌∙◌}
use mathlib.Core.Bool.{Bool, true, false, ◌||◌, ◌&&◌, cond}
use mathlib.Core.List.{List, [], ◌∷◌}
use Prim.Native.Nat.{ℕ, ◌-◌, ◌<◌}
use native.Mathlib.Omega.{arith}
use lib.ListN.{length, get_or}
use lib.Dec.{ltb, eqb}
use Rattle.std.proofs.Common.{Option, Some, Ordering, Less, Equal, Greater}
use Rattle.std.specs.Ordering.{nat_cmp, is_some_and, is_lt, partial_ordering_then}
use Rattle.std.specs.Cmp.Lexicographic.{slice_partial_cmp}
use Rattle.patterns.specs.Order.{keyed, span, lower, before}

-- ---- numbers first, then something else ----

-- by the two tests of numbers
decided : (less same : Bool) (rest : Option Ordering) →
    is_some_and is_lt (partial_ordering_then (Some (cond less Less (cond same Equal Greater))) rest) ≡ (less || (same && is_some_and is_lt rest))
decided true same rest = refl
decided false true rest = refl
decided false false rest = refl

number_first : (a b : ℕ) (rest : Option Ordering) →
    is_some_and is_lt (partial_ordering_then (Some (nat_cmp a b)) rest) ≡ (ltb a b || (eqb a b && is_some_and is_lt rest))
number_first a b rest = decided (ltb a b) (eqb a b) rest

-- a tuple compares its first two parts first
regrouped : (o : Ordering) (next rest : Option Ordering) → partial_ordering_then (partial_ordering_then (Some o) next) rest ≡ partial_ordering_then (Some o) (partial_ordering_then next rest)
regrouped Less next rest = refl
regrouped Equal next rest = refl
regrouped Greater next rest = refl

-- ---- positions, then tuples ----

-- how `<` compares them
abbrev compares : List ℕ → List ℕ → Option Ordering
compares = slice_partial_cmp (λ (a b : ℕ). Some (nat_cmp a b))

lower_slices : (p q : List ℕ) → is_some_and is_lt (compares p q) ≡ lower p q
unfolding lower
lower_slices [] [] = refl
lower_slices [] (b ∷ q) = refl
lower_slices (a ∷ p) [] = refl
lower_slices (a ∷ p) (b ∷ q) = number_first a b (compares p q) ∙ ap (λ (x : Bool). ltb a b || (eqb a b && x)) (lower_slices p q)

pub before_tuples : (p q : List ℕ) {m n : ℕ} → m ≡ span p → n ≡ span q
    → is_some_and is_lt (partial_ordering_then (partial_ordering_then (Some (nat_cmp (length p) (length q))) (Some (nat_cmp m n))) (compares p q)) ≡ before p q
unfolding before keyed
before_tuples p q {m} {n} e f =
    ap (is_some_and is_lt) (regrouped (nat_cmp (length p) (length q)) (Some (nat_cmp m n)) (compares p q))
    ∙ number_first (length p) (length q) (partial_ordering_then (Some (nat_cmp m n)) (compares p q))
    ∙ ap (λ (x : Bool). ltb (length p) (length q) || (eqb (length p) (length q) && x))
    (number_first m n (compares p q) ∙ rw (e, f, lower_slices p q) refl)

-- ---- spans ----

pub span_few : (ps : List ℕ) → length ps < 2 → span ps ≡ 0
unfolding span
span_few [] h = refl
span_few (p ∷ []) h = omega arith
span_few (p ∷ q ∷ ps) h = absurd (omega arith)

pub span_ends : (ps : List ℕ) → span ps ≡ get_or ps (length ps - 1) 0 - get_or ps 0 0
unfolding span
span_ends ps = ap (λ (i : ℕ). get_or ps (length ps - 1) 0 - get_or ps i 0) (omega arith)
