-- What placing positions goes through and what it answers, over any powers: the sets of so many positions whose powers have a given
-- sum, and the first of them.
use Rattle.std.specs.Prelude.{ℕ, zero, ◌+◌, ◌-◌, ◌*◌, ◌^◌, ◌≤◌, ◌<◌, ◌≡◌, Bool, true, false, List, [], ◌∷◌, Option, Some, None, eqb, length, get_or}
use Rattle.std.specs.Int.Bits.{bit_xor}
use Rattle.patterns.specs.Order.{lower}
use Rattle.patterns.specs.Listing.{choose, sift}
use Rattle.placing.specs.declared.Powers.{Powers}

-- the sum of the powers at the given positions
unfoldable pub xor_all : (ℕ → ℕ) → List ℕ → ℕ
xor_all power [] = zero
xor_all power (p ∷ ps) = bit_xor (power p) (xor_all power ps)

-- those of the given sets whose powers have the sum u
unfoldable pub summing : (ℕ → ℕ) → ℕ → List (List ℕ) → List (List ℕ)
summing power u xs = sift (λ ps. eqb (xor_all power ps) u) xs

-- the first of a list of sets, if it has one
pub data Head : Type 0 where
  headless : Head
  starts : List ℕ → Head

unfoldable pub head_of : List (List ℕ) → Head
head_of [] = headless
head_of (p ∷ ps) = starts p

-- the first set of k positions from `from` on and below l whose powers have the sum u
unfoldable pub first_from : (ℕ → ℕ) → ℕ → ℕ → ℕ → ℕ → Head
first_from power l k from u = head_of (summing power u (choose (l - from) k from))

-- the first such set that comes after ps, among those of as many positions as ps
unfoldable pub first_after : (ℕ → ℕ) → ℕ → List ℕ → ℕ → Head
first_after power l ps u = head_of (sift (lower ps) (summing power u (choose l (length ps) zero)))

-- an answer of yes or no, with the positions left behind
abbrev pub answer : Bool → List ℕ → Head
answer true ps = starts ps
answer false ps = headless

-- the least position at or past lo with the power u, if it is below l; no position below l, if it is not
pub record Nearest (power : ℕ → ℕ) (l lo u p : ℕ) : Type 0 where
  pub skipped : (q : ℕ) → lo ≤ q → q < p → q < l → power q ≡ u → ⊥
  pub met : p < l → (lo ≤ p) × (power p ≡ u)

-- the first position of each power, and the period: what only the look-up of the last position needs
pub record Firsts (power : ℕ → ℕ) (first : List ℕ) (period : ℕ) : Type 0 where
  pub hit : (s : ℕ) → s < length first → get_or first s 0 < 65535 → power (get_or first s 0) ≡ s
  pub least : (p : ℕ) → get_or first (power p) 0 ≤ p
  pub again : (p : ℕ) → power (p + period) ≡ power p
  pub only : (p q : ℕ) → power p ≡ power q → p ≤ q → (k : ℕ) × (q ≡ p + k * period)

-- what the two tables are to a search: the powers below the length of `pow`, and the first position of each
pub record Lookup (power : ℕ → ℕ) (pow first : List ℕ) (period : ℕ) : Type 0 where
  pub known : (p : ℕ) → p < length pow → get_or pow p 0 ≡ power p
  pub firsts : Firsts power first period

-- remainders below 2 ^ n, at most so many
pub record Shape (n : ℕ) (pow : List ℕ) : Type 0 where
  pub short : length pow ≤ 4096
  pub inside : (p : ℕ) → p < length pow → get_or pow p 0 < 2 ^ n

-- an entry for each of them: again for the look-up alone
pub record Indexed (n : ℕ) (first : List ℕ) (period : ℕ) : Type 0 where
  pub full : length first ≡ 2 ^ n
  pub positive : 1 ≤ period

-- the tables lie so, the search starts within them, and the sum looked for is a remainder too
pub record Ready (pow first : List ℕ) (period lo u : ℕ) : Type 0 where
  pub n : ℕ
  pub shape : Shape n pow
  pub index : Indexed n first period
  pub start : lo ≤ length pow
  pub sum : u < 2 ^ n

-- the tables that a search reads lie so
abbrev pub ReadyFor : Powers → ℕ → ℕ → Type 0
ReadyFor t lo u = Ready t.powers.now t.firsts.now t.period lo u

-- these are the powers that they describe
abbrev pub Describes : (ℕ → ℕ) → Powers → Type 0
Describes power t = Lookup power t.powers.now t.firsts.now t.period

-- r is t with the powers below `end` alone: what a search asks of t, and what describes t, serves r too
pub record Below (t : Powers) (end : ℕ) (r : Powers) : Type 0 where
  pub ends : length r.powers.now ≡ end
  pub ready : (lo u : ℕ) → lo ≤ end → ReadyFor t lo u → ReadyFor r lo u
  pub known : (power : ℕ → ℕ) → Describes power t → Describes power r

-- what looking for the nearest position below l answers, for whatever powers the tables describe: its place, or nothing
abbrev pub NearestFound : Powers → ℕ → ℕ → ℕ → Option ℕ → Type 0
NearestFound t l lo u (Some p) = (p < l) × ((power : ℕ → ℕ) → Describes power t → Nearest power l lo u p)
NearestFound t l lo u None = (power : ℕ → ℕ) → Describes power t → Nearest power l lo u l

-- what placing k positions from lo on answers
abbrev pub Placed : Powers → ℕ → ℕ → ℕ → Bool → List ℕ → Type 0
Placed t k lo u r pos = (power : ℕ → ℕ) → Describes power t → answer r pos ≡ first_from power (length t.powers.now) k lo u

-- what going on from the positions ps answers
abbrev pub Resumed : Powers → ℕ → List ℕ → Bool → List ℕ → Type 0
Resumed t u ps r pos = (power : ℕ → ℕ) → Describes power t → answer r pos ≡ first_after power (length t.powers.now) ps u
