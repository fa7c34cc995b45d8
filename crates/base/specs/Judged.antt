-- The judgement on a call, for the inner functions that judge.
use Rattle.std.specs.Prelude.{List}
use Rattle.base.specs.Outcome.{Outcome, refused, accepted, Condition, judge}

-- the judgement by these conditions
abbrev pub judged : List Condition → Outcome (Unit {0})
judged ts = judge ts refused (accepted tt)
