-- A read goes on where the last one ended.
use Rattle.std.proofs.Common.{◌≡◌, ℕ, ◌+◌, ◌-◌, ◌≤◌, List, ◌++◌, rules, length, take, sym, ap, ◌∙◌, subst, length-take-le}
use Rattle.std.proofs.lemmas.List.{take-append-le}
use Rattle.std.proofs.Math.Seq.{take-append-add}
use Rattle.std.specs.Io.KnownBytes.{Consumes}
use Rattle.std.proofs.KnownBytes.{Consumes-trans}
use borrow.Rule.Slice.PartMut.{put_mid, post_of}
use Rattle.streams.proofs.read_full.Goals as goal

-- the first bytes, when a read has put some behind those that stood there
joined : (d k n : ℕ) (xs ys : List ℕ) → d ≤ length xs → n ≤ length ys → take d xs ++ take n ys ≡ take (d + n) (put_mid d k xs ys)
joined d k n xs ys within fits =
    let after = post_of d k xs in
    let front : length (take d xs) ≡ d = length-take-le d xs within in
    sym (ap (λ m. take (m + n) (take d xs ++ (ys ++ after))) (sym front) ∙ take-append-add (take d xs) (ys ++ after) n ∙ ap (λ l. take d xs ++ l) (take-append-le n ys after fits))

pub loop-done-preserved : goal.loop-done-preserved
loop-done-preserved g c =
    let at = c.loop-done in
    let n = c.in_ok-n.n in
    (search rules, search rules, subst (Consumes _ _) (joined at.done (length at.buffer - at.done) n at.buffer c.read.new.buf at.invariant.1 c.in_ok-n.ensures.bound.0) (Consumes-trans _ _ _ _ _ at.invariant.2 c.in_ok-n.ensures.bytes.0))
