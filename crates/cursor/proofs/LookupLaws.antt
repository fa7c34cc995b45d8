-- The tables of a generator serve the search: its powers are those of x, and what it meets is the walk.
use mathlib.Core.Path.{◌≡◌, sym, ap, subst, ◌∙◌}
use mathlib.Core.List.{List, [], ◌∷◌}
use Rattle.std.proofs.Common.{Option}
use Prim.Native.Nat.{ℕ, ◌%◌, ◌^◌, ◌<◌, ◌≤◌}
use native.Mathlib.Omega.{arith}
use native.Mathlib.Nat.{zero-add}
use lib.Bits.{bit_xor}
use lib.Count.{ones}
use lib.Dec.{eqb}
use lib.ListN.{length, get_or}
use Rattle.poly.specs.Polynomial.{rem, powers}
use Rattle.poly.specs.Fit.{Divisor}
use Rattle.poly.specs.declared.Generator.{Generator}
use Rattle.poly.proofs.DivisionLaws.{rem_zero, rem-xor}
use Rattle.poly.proofs.ParityLaws.{ones_power, parity_rem}
use Rattle.tables.specs.Tables.{power, first}
use Rattle.tables.proofs.PowerLaws.{power_lt}
use Rattle.tables.proofs.PeriodLaws.{period_positive, power_again, power_only}
use Rattle.tables.proofs.FirstLaws.{first_hit, first-least}
use Rattle.tables.proofs.TableLaws.{length-values, get_or_values, length-first_table, get_or_first_table}
use Rattle.patterns.specs.Listing.{syndrome, up_to}
use Rattle.patterns.specs.Walk.{by_positions, walk}
use Rattle.patterns.proofs.SiftLaws.{sift-same}
use Rattle.placing.specs.Placing.{xor_all, summing}
use Rattle.search.specs.Search.{walked, Told, OddOnes}
use Rattle.placing.specs.declared.Powers.{Powers}
use Rattle.cursor.specs.Cursors.{Serves, ServedBy, Prepared}
use Rattle.cursor.specs.declared.Cursor.{Cursor}

-- the syndrome of a set of positions is the sum of their powers
pub syndrome-sum : (n g : ℕ) → Divisor n g → (ps : List ℕ) → syndrome n g ps ≡ xor_all (power n g) ps
unfolding syndrome powers xor_all power
syndrome-sum n g d [] = rem_zero n g
syndrome-sum n g d (p ∷ ps) = rem-xor n g d.low d.high (2 ^ p) (powers ps) ∙ ap (bit_xor (rem n g (2 ^ p))) (syndrome-sum n g d ps)

walk-walked : (n g : ℕ) → Divisor n g → (l limit s : ℕ) → walk n g l limit s ≡ walked (power n g) l limit s
unfolding walk walked summing
walk-walked n g d l limit s =
    sift-same (λ ps. eqb (syndrome n g ps) s) (λ ps. eqb (xor_all (power n g) ps) s) (up_to l limit)
    (λ ps h. ap (λ (x : ℕ). eqb x s) (syndrome-sum n g d ps))

-- a search over the powers of the generator tells of the walk
pub told_walk : (n g : ℕ) → Divisor n g → (l limit s : ℕ) (ahead : List (List ℕ) → List (List ℕ)) (r : Option ℕ) (pos : List ℕ)
    → Told by_positions l limit (walked (power n g) l limit s) (ahead (walked (power n g) l limit s)) r pos
    → Told by_positions l limit (walk n g l limit s) (ahead (walk n g l limit s)) r pos
told_walk n g d l limit s ahead r pos h =
    subst (λ (xs : List (List ℕ)). Told by_positions l limit xs (ahead xs) r pos) (sym (walk-walked n g d l limit s)) h

-- with a generator that has an even number of ones, every power has an odd number of them
pub odd_ones : {c : Cursor} → Prepared c → OddOnes c.generator.coefficients c.powers.powers.now
unfolding power
odd_ones {c} h even p k =
    let d = h.fit.divisor in
    ap (λ (x : ℕ). ones x % 2) (h.lookup.known p k)
    ∙ parity_rem c.generator.degree c.generator.coefficients d.low d.high even (2 ^ p)
    ∙ ap (λ (x : ℕ). x % 2) (ones_power p)

-- what serves every syndrome serves a cursor
module _ {g : Generator} {l k : ℕ} {pow firsts : List ℕ} (h : Serves g l pow firsts k) where
  full : length firsts ≡ 2 ^ g.degree
  full = ap length h.right_firsts ∙ length-first_table g.degree g.coefficients

  pub as_long : length pow ≡ l
  as_long = ap length h.powers ∙ length-values (power g.degree g.coefficients) l 0

  known : (p : ℕ) → p < length pow → get_or pow p 0 ≡ power g.degree g.coefficients p
  known p j =
      ap (λ (t : List ℕ). get_or t p 0) h.powers
      ∙ get_or_values (power g.degree g.coefficients) l 0 p (omega (arith, as_long)) ∙ ap (power g.degree g.coefficients) (zero-add p)

  entry : (t : ℕ) → t < 2 ^ g.degree → get_or firsts t 0 ≡ first g.degree g.coefficients t
  entry t j = ap (λ (xs : List ℕ). get_or xs t 0) h.right_firsts ∙ get_or_first_table g.degree g.coefficients t j

-- so the powers that are lent serve a cursor
pub prepared : {g : Generator} {l : ℕ} (t : Powers) → ServedBy g l t → (s : ℕ) → s < 2 ^ g.degree → Prepared (record { generator = g; powers = t; syndrome = s })
prepared {g} t h s within =
    let n : ℕ = g.degree in
    let b : ℕ = g.coefficients in
    let d = h.fit.divisor in
    let one : 1 ≤ n = omega (arith, h.fit.least) in
    record {
      fit = h.fit;
      ready =
          record {
            n = n;
            shape = record { short = omega (arith, as_long h, h.short); inside = λ p j. rw (known h p j) (power_lt n b d p) };
            index = record { full = full h; positive = rw h.turns (period_positive n b d one) };
            start = omega arith;
            sum = within;
          };
      lookup =
          record {
            known = known h;
            firsts =
                record {
                  hit = λ s j e. rw (entry h s (omega (arith, full h))) (first_hit n b d one s (omega (arith, full h)) (rw (entry h s (omega (arith, full h))) at e));
                  least = λ p. rw (entry h (power n b p) (power_lt n b d p)) (first-least n b d one p);
                  again = rw h.turns (power_again n b d one);
                  only = rw h.turns (power_only n b d one);
                };
          };
    }
