-- An output that is written byte by byte: so many bytes of the whole stand in it.
use mathlib.Core.Path.{◌≡◌, sym, ap, ◌∙◌}
use mathlib.Core.List.{List, [], ◌∷◌, ◌++◌}
use Prim.Native.Nat.{ℕ, suc, ◌<◌, ◌≤◌}
use native.Mathlib.Omega.{arith}
use lib.ListN.{length, get_or, take, set, length-set}
use lib.Seq.{take_all, take-suc, take-suc-set}
use Rattle.scatter.specs.Steps.{Part}

pub part_none : {whole output : List ℕ} {done : ℕ} → length output ≡ length whole → done ≡ 0 → Part whole done output
part_none long none = record { long = long; same = rw none }

pub part_more : {whole output : List ℕ} {done next b : ℕ} → Part whole done output → done < length whole
    → b ≡ get_or whole done 0 → next ≡ suc done → Part whole next (set output done b)
part_more {whole} {output} {done} {b = b} p h byte next =
    record {
      long = length-set output done b ∙ p.long;
      same =
          ap (λ (m : ℕ). take m (set output done b)) next
          ∙ take-suc-set output done b (omega (arith, p.long))
          ∙ ap (λ (l : List ℕ). l ++ (b ∷ [])) p.same
          ∙ ap (λ (x : ℕ). take done whole ++ (x ∷ [])) byte
          ∙ sym (take-suc whole done 0 h)
          ∙ ap (λ (m : ℕ). take m whole) (sym next);
    }

pub part_all : {whole output : List ℕ} {done : ℕ} → Part whole done output → length whole ≤ done → output ≡ whole
part_all {whole} {output} {done} p h = sym (take_all done output (omega (arith, p.long))) ∙ p.same ∙ take_all done whole h
