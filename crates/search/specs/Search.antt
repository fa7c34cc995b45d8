-- What a search goes through and what it answers, over any powers: the sets of at most so many positions whose powers have a given
-- sum, count by count, and the first of them.
use Rattle.std.specs.Prelude.{ℕ, zero, suc, ◌%◌, ◌≤◌, ◌<◌, ◌≡◌, Bool, true, false, not, ◌&&◌, List, [], ◌∷◌, ◌++◌, Option, Some, None, eqb, length, get_or, take}
use Rattle.std.specs.Int.Count.{ones}
use Rattle.base.specs.Lists.{Ascending}
use Rattle.patterns.specs.Listing.{choose, up_to, sift}
use Rattle.patterns.specs.Walk.{by_positions}
use Rattle.placing.specs.Placing.{summing, Head, headless, starts, Describes}
use Rattle.placing.specs.declared.Powers.{Powers}
use denote.Ref.{MutBor}
use denote.Param.Members.{Shared}

-- what a walk meets: the sets of at most so many positions below l whose powers have the sum s
unfoldable pub walked : (ℕ → ℕ) → ℕ → ℕ → ℕ → List (List ℕ)
walked power l limit s = summing power s (up_to l limit)

-- all sets of k positions below l, then those of k + 1, and so on for m counts
unfoldable pub rising : ℕ → ℕ → ℕ → List (List ℕ)
rising l k zero = []
rising l k (suc m) = choose l k zero ++ rising l (suc k) m

-- a count found, of the positions left behind
abbrev pub found : Option ℕ → List ℕ → Head
found (Some k) pos = starts (take k pos)
found None pos = headless

-- a count found is at most so many
abbrev pub CountWithin : ℕ → Option ℕ → Type 0
CountWithin limit (Some k) = k ≤ limit
CountWithin limit None = Unit {0}

-- what the generator's number of ones tells of the powers: if it is even, each of them has an odd number of ones
abbrev pub OddOnes : ℕ → List ℕ → Type 0
OddOnes g pow = ones g % 2 ≡ 0 → (p : ℕ) → p < length pow → ones (get_or pow p 0) % 2 ≡ 1

-- parity rules out sets of k positions with the sum u: of k and the number of u's ones one is even and the other odd, and the
-- generator's number of ones is even
unfoldable pub ruled_out : ℕ → ℕ → ℕ → Bool
ruled_out g k u = not (eqb (k % 2) (ones u % 2)) && eqb (ones g % 2) 0

-- a search through `ahead`, a part of `list` that ends where the list ends, in the order R: nothing is there, or the set found
-- leads it, and behind it stands what comes after it in the list
pub record FoundFirst (R : List ℕ → List ℕ → Bool) (l : ℕ) (list ahead : List (List ℕ)) (p : List ℕ) : Type 0 where
  pub split : ahead ≡ p ∷ sift (R p) list
  pub ascends : Ascending l 0 p

abbrev pub Told : (List ℕ → List ℕ → Bool) → ℕ → ℕ → List (List ℕ) → List (List ℕ) → Option ℕ → List ℕ → Type 0
Told R l limit list ahead (Some k) pos = FoundFirst R l list ahead (take k pos) × (k ≤ limit)
Told R l limit list ahead None pos = ahead ≡ []

-- what the two searches tell, for whatever powers the tables describe: of the list, and of what follows p in it
abbrev pub FirstTold : Powers → ℕ → ℕ → Option ℕ → List ℕ → Type 0
FirstTold t s limit r pos =
    (power : ℕ → ℕ) → Describes power t
    → Told by_positions (length t.powers.now) limit (walked power (length t.powers.now) limit s) (walked power (length t.powers.now) limit s) r pos

abbrev pub NextTold : Powers → ℕ → ℕ → List ℕ → Option ℕ → List ℕ → Type 0
NextTold t s limit p r pos =
    (power : ℕ → ℕ) → Describes power t
    → Told by_positions (length t.powers.now) limit (walked power (length t.powers.now) limit s) (sift (by_positions p) (walked power (length t.powers.now) limit s)) r pos

-- a call of f at a `&mut` to xs may give r and leave ys
pub record Steps {F : Type 0} (g : Shared F (MutBor (List ℕ) × Unit {0}) (Bool × (MutBor (List ℕ) × Unit {0}))) (f : F) (xs : List ℕ) (r : Bool) (ys : List ℕ) : Type 0 where
  pub shown : MutBor (List ℕ)
  pub shows : shown.now ≡ xs
  pub left : MutBor (List ℕ)
  pub met : g.post f (shown, tt) (r, (left, tt))
  pub leaves : left.now ≡ ys

-- a step found nothing in some slice of k positions
abbrev pub Missed : (List ℕ → Bool → List ℕ → Type 0) → ℕ → Type 0
Missed S k = (xs ys : List ℕ) × (length xs ≡ k) × S xs false ys

-- from the count `least` on and up to `most`: the first count at which a step found something, with what it left in front; or nothing
abbrev pub FirstHit : (List ℕ → Bool → List ℕ → Type 0) → ℕ → ℕ → Option ℕ → List ℕ → Type 0
FirstHit S least most (Some k) pos = (least ≤ k) × (k ≤ most) × ((xs : List ℕ) × (length xs ≡ k) × S xs true (take k pos)) × ((j : ℕ) → least ≤ j → j < k → Missed S j)
FirstHit S least most None pos = (j : ℕ) → least ≤ j → j ≤ most → Missed S j

pub record Risen (S : List ℕ → Bool → List ℕ → Type 0) (least most : ℕ) (r : Option ℕ) (pos : List ℕ) : Type 0 where
  pub first : FirstHit S least most r pos
