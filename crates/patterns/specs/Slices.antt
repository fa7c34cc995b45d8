-- A pattern's positions in an array.
use Rattle.std.specs.Prelude.{ℕ, ◌-◌, List, ◌++◌, length, replicate}
use Rattle.patterns.specs.Patterns.{most_positions}

-- positions with zeros behind them, as many in all as a pattern holds at most
abbrev pub spread_out : List ℕ → List ℕ
spread_out ps = ps ++ replicate (most_positions - length ps) 0
