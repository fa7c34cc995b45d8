-- `text_at` writes a part of the output, which `sets` spells byte by byte.
use Rattle.std.proofs.Common.{arith, ◌≡◌, ◌+◌, ◌-◌, length, append_assoc, drop-drop}
use Rattle.std.proofs.lemmas.List.Edits.{sets-eq}
use Rattle.lines.proofs.text_at.Goals as goal

pub returns : goal.returns
returns c =
    let a = c.args in
    let n : a.to + length a.text.now - a.to ≡ length a.text.now = omega arith in
    record {
      place = omega arith;
      bytes = rw (
        sets-eq a.text.now a.out.now a.to c.requires,
        n,
        c.copy_from_slice.ensures.after,
        append_assoc,
        drop-drop (length a.text.now) a.to a.out.now,
      );
    }
