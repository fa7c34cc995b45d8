-- The sets of k positions, one position at a time, and what of them comes after a given one.
use mathlib.Core.Path.{◌≡◌, refl, ap, ap₂, ◌∙◌}
use mathlib.Core.Bool.{true}
use mathlib.Core.List.{List, [], ◌∷◌, ◌++◌, map}
use Prim.Native.Nat.{ℕ, zero, suc, ◌+◌, ◌-◌, ◌<◌, ◌≤◌}
use native.Mathlib.Omega.{arith}
use lib.ListN.{length}
use Rattle.base.specs.Lists.{In}
use Rattle.patterns.specs.Order.{lower}
use Rattle.base.specs.Lists.{Ascending, ends, next}
use Rattle.patterns.specs.Listing.{choose, sift}
use Rattle.patterns.proofs.OrderLaws.{lower_less, lower_more, lower-same}
use Rattle.patterns.proofs.MemberLaws.{map_in}
use Rattle.patterns.proofs.SiftLaws.{sift-append, sift-map, sift_all, sift_none, sift-same}
use Rattle.patterns.proofs.ListingLaws.{choose_in}

pub choose_zero : (room from : ℕ) → choose room zero from ≡ [] ∷ []
unfolding choose
choose_zero zero from = refl
choose_zero (suc room) from = refl

-- among the positions below l
pub choose_past : (l k from : ℕ) → l ≤ from → choose (l - from) (suc k) from ≡ []
unfolding choose
choose_past l k from h = let e : l - from ≡ zero = omega arith in ap (λ (r : ℕ). choose r (suc k) from) e

pub choose-step : (l k from : ℕ) → from < l
    → choose (l - from) (suc k) from ≡ map (λ ps. from ∷ ps) (choose (l - suc from) k (suc from)) ++ choose (l - suc from) (suc k) (suc from)
unfolding choose
choose-step l k from h =
    let e : l - from ≡ suc (l - suc from) = omega arith in
    ap (λ (r : ℕ). choose r (suc k) from) e

-- sets that start past p come after every set that starts with p
choose-later : (p : ℕ) (ps : List ℕ) (room k from : ℕ) → p < from → (q : List ℕ) → In q (choose room (suc k) from) → lower (p ∷ ps) q ≡ true
choose-later p ps room k from h q i = let a = choose_in room (suc k) from (from + room) refl q i in starts a.0 a.1
  where
    starts : {l : ℕ} {q : List ℕ} → Ascending l from q → length q ≡ suc k → lower (p ∷ ps) q ≡ true
    starts ends e = absurd (omega arith)
    starts (next {p = b} {ps = bs} g _ _) e = lower_less p b ps bs (omega arith)

-- what comes after a set p ∷ ps: those that start with p too and go on with what comes after ps, and those that start past p
pub choose_after : (l k : ℕ) (p : ℕ) (ps : List ℕ) (d from : ℕ) → from + d ≡ p → p < l
    → sift (lower (p ∷ ps)) (choose (l - from) (suc k) from)
    ≡ map (λ q. p ∷ q) (sift (lower ps) (choose (l - suc p) k (suc p))) ++ choose (l - suc p) (suc k) (suc p)
choose_after l k p ps zero from e h =
    let f : from ≡ p = omega arith in
    rw f
    (ap (sift (lower (p ∷ ps))) (choose-step l k p h)
    ∙ sift-append (lower (p ∷ ps)) (map (λ q. p ∷ q) (choose (l - suc p) k (suc p))) (choose (l - suc p) (suc k) (suc p))
    ∙ ap₂ (λ (x y : List (List ℕ)). x ++ y)
    (sift-map (lower (p ∷ ps)) (λ q. p ∷ q) (choose (l - suc p) k (suc p))
    ∙ ap (map (λ q. p ∷ q))
    (sift-same (λ q. lower (p ∷ ps) (p ∷ q)) (lower ps) (choose (l - suc p) k (suc p)) (λ q i. lower-same p ps q)))
    (sift_all (lower (p ∷ ps)) (choose (l - suc p) (suc k) (suc p)) (choose-later p ps (l - suc p) k (suc p) (omega arith))))
choose_after l k p ps (suc d) from e h =
    ap (sift (lower (p ∷ ps))) (choose-step l k from (omega arith))
    ∙ sift-append (lower (p ∷ ps)) (map (λ q. from ∷ q) (choose (l - suc from) k (suc from))) (choose (l - suc from) (suc k) (suc from))
    ∙ ap₂ (λ (x y : List (List ℕ)). x ++ y)
    (sift_none (lower (p ∷ ps)) (map (λ q. from ∷ q) (choose (l - suc from) k (suc from)))
    (λ q i. let r = map_in (λ (q : List ℕ). from ∷ q) (choose (l - suc from) k (suc from)) i in rw r.2 (lower_more p from ps r.0 (omega arith))))
    (choose_after l k p ps d (suc from) (omega arith) h)
