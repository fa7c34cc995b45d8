-- `parse` reads number by number, with the closing byte that `closing` gives.
use Rattle.std.proofs.Common.{◌≡◌, sym, ap, ◌∙◌, ℕ, suc, ◌-◌, List, length, arith, add-one}
use Rattle.std.proofs.lemmas.List.{set-get_or}
use Rattle.std.proofs.lemmas.List.Edits.{sets}
use Rattle.parsing.specs.Input.{closing}
use Rattle.parsing.specs.Parsing.{numbers_in}
use Rattle.parsing.proofs.InputLaws.{numbers_found, numbers_missing, line_found, line_missing, line_ends}
use Rattle.parsing.proofs.parse.Goals as goal

behind : {byte k : ℕ} (more : ℕ) → byte ≡ closing k → k ≡ more → byte ≡ closing more
behind more b e = b ∙ ap closing e

pub loop-i-preserved : goal.loop-i-preserved
loop-i-preserved c =
    let l = c.loop-i in
    let more = length c.args.out.now - suc l.i in
    let left : length c.args.out.now - l.i ≡ suc more = omega arith in
    let b = behind more c.closing_byte.ensures (omega arith) in
    rw add-one (
      ap (λ (ns : List ℕ). sets l.out l.i ns) (sym (numbers_found l.rest.now left b c.in-Some.ensures)) ∙ l.invariant.0,
      sym (line_found l.rest.now left b c.in-Some.ensures) ∙ l.invariant.1,
    )

pub returns-in_default : goal.returns-in_default
returns-in_default c =
    let l = c.loop-i in
    let more = length c.args.out.now - suc l.i in
    let left : length c.args.out.now - l.i ≡ suc more = omega arith in
    let b = behind more c.closing_byte.ensures (omega arith) in
    record {
      answer = sym (line_missing l.rest.now left b c.in_default.ensures) ∙ l.invariant.1;
      numbers = set-get_or l.out l.i 0 ∙ ap (λ (ns : List ℕ). sets l.out l.i ns) (sym (numbers_missing l.rest.now left b c.in_default.ensures)) ∙ l.invariant.0;
    }

pub returns : goal.returns
unfolding numbers_in
returns c =
    let l = c.loop-i in
    let none : length c.args.out.now - l.i ≡ 0 = omega arith in
    record { answer = c.is_empty.ensures ∙ sym (line_ends l.rest.now) ∙ rw none at l.invariant.1; numbers = rw none at l.invariant.0 }
