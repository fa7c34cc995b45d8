-- What was written is a beginning of the bytes, and all of them at the end.
use Rattle.std.proofs.Common.{◌≡◌, ℕ, ◌+◌, ◌-◌, ◌≤◌, List, ◌++◌, length, take, drop, sym, ap, ◌∙◌, subst, Option, take-append-drop, length-drop, arith}
use Rattle.std.proofs.Math.Seq.{take-add}
use Rattle.std.specs.Io.KnownBytes.{Appends}
use Rattle.std.proofs.KnownBytes.{Appends-trans, Appends-kept}
use lib.Seq.{take_all}
use Rattle.streams.specs.Streams.{WroteSome}
use Rattle.streams.proofs.StreamLaws.{on_err}
use Rattle.streams.proofs.write_all.Goals as goal

-- the part that is lent from a place on
lent : (xs : List ℕ) (d : ℕ) → take (length xs - d) (drop d xs) ≡ drop d xs
lent xs d = take_all (length xs - d) (drop d xs) (omega (arith, length-drop d xs))

within : (xs : List ℕ) (d n : ℕ) → d ≤ length xs → n ≤ length (take (length xs - d) (drop d xs)) → d + n ≤ length xs
within xs d n h k = omega (arith, h, k, ap length (lent xs d), length-drop d xs)

-- n of them behind the first d
joined : (xs : List ℕ) (d n : ℕ) → take d xs ++ take n (take (length xs - d) (drop d xs)) ≡ take (d + n) xs
joined xs d n = ap (λ l. take d xs ++ take n l) (lent xs d) ∙ sym (take-add d n xs)

moved : (a b c : Option (List ℕ)) (xs : List ℕ) (d n : ℕ) → Appends a b (take d xs) → Appends b c (take n (take (length xs - d) (drop d xs)))
    → Appends a c (take (d + n) xs)
moved a b c xs d n p q = subst (Appends a c) (joined xs d n) (Appends-trans a b c _ _ p q)

some : (a b : Option (List ℕ)) (xs : List ℕ) (d : ℕ) → Appends a b (take d xs) → WroteSome a b xs
some a b xs d p = (take d xs, drop d xs, sym (take-append-drop d xs), p)

pub loop-done-preserved : goal.loop-done-preserved
loop-done-preserved g c =
    let at = c.loop-done in
    let w = c.in_ok-taken in
    (within c.args.bytes.now at.done w.taken at.invariant.0 w.ensures.bound, moved _ _ _ c.args.bytes.now at.done w.taken at.invariant.1 w.ensures.bytes)

pub returns-in_err-taken-clause-err : goal.returns-in_err-taken-clause-err
returns-in_err-taken-clause-err g c =
    on_err c.from_residual.result (some _ _ c.args.bytes.now c.loop-done.done (Appends-kept _ _ _ _ c.loop-done.invariant.1 c.in_err-taken.ensures.bytes))

pub returns-then-taken-eq0-clause-err : goal.returns-then-taken-eq0-clause-err
returns-then-taken-eq0-clause-err g c =
    some _ _ c.args.bytes.now (c.loop-done.done + c.in_ok-taken.taken) (moved _ _ _ c.args.bytes.now c.loop-done.done c.in_ok-taken.taken c.loop-done.invariant.1 c.in_ok-taken.ensures.bytes)
