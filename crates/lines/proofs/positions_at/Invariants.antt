-- `positions_at` writes the positions with their blanks. Invariant: what is stored, with the positions left, is the whole text.
use Rattle.std.proofs.Common.{◌≡◌, ◌+◌, ◌*◌, ◌/◌, ◌≤◌, length}
use Rattle.std.specs.Slice.Iter.{chunks_exact_rest, chunks_exact_size}
use Rattle.lines.specs.Text.{spaced}
use Rattle.records.specs.Records.{positions_in}
use Rattle.lines.proofs.WritingLaws.{Writing}
use Rattle.lines.proofs.positions_at.Given as goal

abbrev pub invariant-loop-pair : goal.invariant-loop-pair
invariant-loop-pair l =
    let rest = chunks_exact_rest l.pair-iterator in
    (goal.iterator-loop-pair).can_next l.pair-iterator
    × (goal.iterator-loop-pair).is_finite l.pair-iterator
    × (chunks_exact_size l.pair-iterator ≡ 2)
    × (l.next + 3 * length rest ≤ l.to + 3 * length l.bytes)
    × Writing l.initial.out l.to (spaced (positions_in (length l.bytes / 2) l.bytes)) l.out l.next (spaced (positions_in (length rest / 2) rest))
