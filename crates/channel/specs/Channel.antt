-- The channel: positions of a packet are drawn from the stream, each once, and the bits there flip.
use Rattle.std.specs.Prelude.{ℕ, zero, suc, ◌-◌, ◌%◌, Bool, false, ◌||◌, List, [], ◌∷◌, eqb, ltb, get_or}
use Rattle.base.specs.Outcome.{pick}
use Rattle.patterns.specs.Listing.{inserted}
use Rattle.maker.specs.Stream.{state_after}

-- is a position among some?
unfoldable pub among : ℕ → List ℕ → Bool
among p [] = false
among p (t ∷ ts) = eqb p t || among p ts

-- of the `room` positions from `from` on those that are not yet taken, ascending
unfoldable pub untaken : List ℕ → ℕ → ℕ → List ℕ
untaken taken zero from = []
untaken taken (suc room) from = pick (among from taken) (untaken taken room (suc from)) (from ∷ untaken taken room (suc from))

-- the positions below l that so many draws from a state on take, ascending: draw i, counted from 0, is the next state modulo l - i, and
-- takes the position at that place, counted from 0, among those below l that are not yet taken
unfoldable pub drawn : ℕ → ℕ → ℕ → List ℕ
drawn l zero x = []
drawn l (suc i) x =
    let taken = drawn l i x in
    let next = state_after (suc i) x in
    inserted ltb (get_or (untaken taken l 0) (next % (l - i)) 0) taken
