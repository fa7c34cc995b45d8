-- Condition 8 of a page.
use mathlib.Core.Path.{◌≡◌}
use mathlib.Core.Bool.{false}
use Prim.Native.Nat.{ℕ, ◌≤◌}
use borrow.Author.Tests.{ltb-false}
use Rattle.records.specs.Records.{longest_record}
use Rattle.pages.specs.Conditions.{unfit_output}

pub fit_output : (room : ℕ) → unfit_output room ≡ false → longest_record ≤ room
unfolding unfit_output
fit_output room e = ltb-false room longest_record e
