-- `fill_powers` fills a slice with the powers of x. Invariant: the entries below the index are right, and t is the power at it.
use Rattle.std.proofs.Common.{◌≡◌, ℕ, ◌<◌, List, get_or}
use Rattle.tables.specs.Tables.{power}
use Rattle.cursor.proofs.fill_powers.Given as goal

pub record Entered (n g : ℕ) (now : List ℕ) (t i : ℕ) : Type 0 where
  pub next : t ≡ power n g i
  pub right : (k : ℕ) → k < i → get_or now k 0 ≡ power n g k

abbrev pub invariant-loop-power : goal.invariant-loop-power
invariant-loop-power l = Entered l.g.degree l.g.coefficients l.room l.t l.power-index
