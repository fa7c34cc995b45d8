-- `right_steps` compares the step table, two entries a turn. The invariant: the mismatches gathered are 0 exactly when the pairs
-- passed are right, and the rest of the table is still to come.
use mathlib.Core.Path.{◌≡◌, sym, ap, ◌∙◌}
use Prim.Native.Nat.{ℕ, ◌+◌, ◌*◌, ◌/◌}
use native.Mathlib.Omega.{arith}
use lib.Bits.{bit_xor}
use lib.Dec.{eqb}
use lib.ListN.{length, get_or, drop, length-drop}
use Rattle.tables.specs.Tables.{step_table}
use Rattle.poly.proofs.GeneratorLaws.{fit_small}
use Rattle.tables.proofs.TableLaws.{same_answer}
use Rattle.verifying.proofs.RuleLaws.{step_rule}
use Rattle.verifying.proofs.GatherLaws.{gathered_more, gathered_answer, mismatch, or_zero, cut}
use Rattle.verifying.proofs.right_steps.Goals as goal

pub overflow_cast-t : goal.overflow_cast-t
overflow_cast-t c = omega (arith, c.loop-k.invariant.within, c.in-Some.ensures.steps.1, c.requires.full, fit_small c.args.g c.requires.fit)

pub loop-k-preserved : goal.loop-k-preserved
loop-k-preserved c =
    let l = c.args.steps.now in
    let half = c.args.g.coefficients / 2 in
    let pair = c.in-Some.pair.now in
    let k = c.loop-k.k-iterator.count in
    let a = c.loop-k.invariant in
    let z = c.in-Some.ensures.steps in
    let q = cut l pair c.next.new.self.iter.rest.now (k * 2) (sym a.left ∙ z.0.1.0) (z.0.1.1 ∙ a.pairs) in
    let step : bit_xor c.in-Some.k half ≡ bit_xor k half = ap (λ (x : ℕ). bit_xor x half) z.1 in
    let even = mismatch (get_or pair 0 0) c.in-Some.k k z.1 in
    let odd = mismatch (get_or pair 1 0) (bit_xor c.in-Some.k half) (bit_xor k half) step in
    let both = or_zero (bit_xor (get_or pair 0 0) c.in-Some.k) (bit_xor (get_or pair 1 0) (bit_xor c.in-Some.k half)) in
    record {
      pairs = z.0.0 ∙ a.pairs;
      within = omega (arith, q.inside, z.2);
      left = q.left ∙ ap (λ (x : ℕ). drop x l) (omega (arith, z.2));
      gathered = rw z.2
          (gathered_more (λ j. (get_or l (j * 2) 0 ≡ j) × (get_or l (j * 2 + 1) 0 ≡ bit_xor j half)) k c.loop-k.wrong _ a.gathered (
            (λ t. (sym q.even ∙ even.0 (both.0 t).0, sym q.odd ∙ odd.0 (both.0 t).1)),
            (λ p. both.1 (even.1 (q.even ∙ p.0), odd.1 (q.odd ∙ p.1))),
          ));
    }

pub returns : goal.returns
returns c =
    let l = c.args.steps.now in
    let n = c.args.g.degree in
    let g = c.args.g.coefficients in
    let k = c.loop-k.k-iterator.count in
    let a = c.loop-k.invariant in
    let end : k ≡ length l / 2 = omega (arith, ap length a.left, length-drop (k * 2) l, c.in-None.ensures.steps.0.1.0) in
    let all = gathered_answer (λ j. (get_or l (j * 2) 0 ≡ j) × (get_or l (j * 2 + 1) 0 ≡ bit_xor j (g / 2))) k (length l / 2) c.loop-k.wrong end a.gathered in
    let rule = step_rule n g c.requires.fit.divisor (fit_small c.args.g c.requires.fit).positive c.requires.fit.most l c.requires.full in
    same_answer (eqb c.loop-k.wrong 0) l (step_table n g) (λ z. rule.0 (all.0 z)) (λ h. all.1 (rule.1 h))
