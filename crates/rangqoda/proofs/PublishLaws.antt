-- What `rangqoda_publish` returns for the bytes that a repair wrote stands for the packet that its verdict hands back.
use mathlib.Core.Path.{◌≡◌}
use mathlib.Core.List.{List, []}
use Prim.Native.Nat.{ℕ}
use native.Mathlib.Omega.{arith}
use borrow.Author.Tests.{eq-eqb}
use Rattle.patterns.specs.Patterns.{positions}
use Rattle.patterns.proofs.PositionLaws.{positions_most}
use Rattle.verdicts.specs.declared.Verdict.{Verdict}
use Rattle.verdicts.specs.declared.Verdict.TheVariants.{Intact, Repaired, Several, None}
use Rattle.verdicts.specs.Verdicts.{said}
use Rattle.repair.specs.Calls.{handed_back}
use Rattle.codec.specs.Verdicts.{verdict_length, verdict_bytes, publish_code, published}
use Rattle.codec.proofs.VerdictLaws.{laid-length}

pub published-handed : (v : Verdict) (received copy : List ℕ) → published (publish_code (verdict_bytes (said v))) received copy ≡ handed_back (said v) received copy
unfolding verdict_bytes publish_code
published-handed Intact received copy = rw (eq-eqb _ verdict_length (laid-length 0 0 [] (omega arith)))
published-handed (Repaired p) received copy = rw (eq-eqb _ verdict_length (laid-length 1 1 (positions p) (positions_most p)))
published-handed (Several k p) received copy = rw (eq-eqb _ verdict_length (laid-length 2 k (positions p) (positions_most p)))
published-handed None received copy = rw (eq-eqb _ verdict_length (laid-length 3 0 [] (omega arith)))
