-- `decimal_at` calls itself for the number without its last digit. The number falls.
use Rattle.lines.proofs.+decimal_at.Given as goal

abbrev pub decreases-decimal_at : goal.decreases-decimal_at
decreases-decimal_at l = l.v
