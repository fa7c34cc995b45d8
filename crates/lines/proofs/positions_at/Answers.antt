-- `positions_at` writes a position's blank and digits in each turn.
use Rattle.std.proofs.Common.{◌≡◌, ◌∙◌, ℕ, List, ◌++◌, length-append, length-set, ◌+◌, ◌*◌, ◌/◌, length, get_or, arith}
use Rattle.std.specs.Slice.Iter.{chunks_exact_rest}
use Rattle.lines.specs.Decimal.{decimal}
use Rattle.lines.specs.Text.{spaced}
use Rattle.lines.specs.Writing.{Stored}
use Rattle.records.specs.Records.{positions_in}
use Rattle.lines.proofs.DecimalLaws.{digits_u16}
use Rattle.lines.proofs.RecordLaws.{spaced_none, spaced_pair}
use Rattle.lines.proofs.WritingLaws.{writing_byte, writing_part, writing_stored, stored_as}
use Rattle.lines.proofs.positions_at.Goals as goal

-- what is left holds the two bytes of a position more
two_more : {before : List ℕ} (pair rest : List ℕ) → before ≡ pair ++ rest → length pair ≡ 2 → length before ≡ 2 + length rest
two_more pair rest e h = rw e (omega (arith, length-append pair rest))

pub decimal_at-next-requires : goal.decimal_at-next-requires
decimal_at-next-requires c =
    let l = c.loop-pair in
    let s = c.in-Some.ensures.steps in
    simp length-set (omega (
      arith,
      l.invariant.4.size,
      two_more c.in-Some.pair.now (chunks_exact_rest c.next.new.self) s.1.0 (s.1.1 ∙ l.invariant.2),
      digits_u16 c.from.result (omega arith),
    ))

pub loop-pair-preserved : goal.loop-pair-preserved
loop-pair-preserved c =
    let l = c.loop-pair in
    let s = c.in-Some.ensures.steps in
    let pair = c.in-Some.pair.now in
    let two : length pair ≡ 2 = s.1.1 ∙ l.invariant.2 in
    let rest = chunks_exact_rest c.next.new.self in
    let text = spaced (positions_in (length rest / 2) rest) in
    let position = get_or pair 0 0 * 256 + get_or pair 1 0 in
    let digits : Stored _ _ (decimal position) _ _ = stored_as c.decimal_at-next.ensures (c.from.ensures ∙ c.position_of.ensures) in (
      omega arith,
      tt,
      s.0 ∙ l.invariant.2,
      omega (arith, two_more pair rest s.1.0 two, digits_u16 position (omega arith), digits.place),
      writing_part (decimal position) text
          (writing_byte 32 (decimal position ++ text) (rw (spaced_pair pair rest s.1.0 two) at l.invariant.4))
          _ _ digits.bytes digits.place,
    )

pub returns-clause-text : goal.returns-clause-text
returns-clause-text c =
    writing_stored (rw (spaced_none (chunks_exact_rest c.loop-pair.pair-iterator) (omega (arith, c.in-None.ensures.steps))) at c.loop-pair.invariant.4)
