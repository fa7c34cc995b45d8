-- What the program prints, by the form of a line alone: for a line of four numbers what these come to, and "bad line" for
-- any other input; and that as many bytes of the input as a line may have, and one more, decide it.
use mathlib.Core.Path.{◌≡◌, refl, sym, ap, subst, ◌∙◌}
use mathlib.Core.Bool.{true≢false}
use mathlib.Core.List.{List, [], ◌∷◌}
use Prim.Native.Nat.{ℕ, ◌*◌, ◌<◌, ◌≤◌}
use native.Mathlib.Omega.{arith}
use lib.ListN.{length, get_or, take, length-append}
use lib.Seq.{sets, length-take-le, take_all}
use Rattle.base.proofs.Cases.{by_test, by_order}
use Rattle.parsing.specs.Input.{closing, IsLine, no_more, one_more}
use Rattle.lines.specs.Text.{bad_line}
use Rattle.parsing.specs.Parsing.{numbers_in, whole_line}
use Rattle.parsing.proofs.InputLaws.{line_read, read_line}
use Rattle.lister.specs.Printed.{printed_for, Prints, for_line, for_other}
use Rattle.lister.specs.Turns.{longest_line, printed}

pub printed_line : (input : List ℕ) (g l n s : ℕ) → IsLine (g ∷ l ∷ n ∷ s ∷ []) input → printed input ≡ printed_for g l n s
printed_line input g l n s h = let r = line_read h in rw (r.0, r.1)

-- four numbers, of a list that has as many
abbrev four : List ℕ → List ℕ
four ns = get_or ns 0 0 ∷ get_or ns 1 0 ∷ get_or ns 2 0 ∷ get_or ns 3 0 ∷ []

four_of : (ns : List ℕ) → length ns ≡ 4 → ns ≡ four ns
four_of [] h = absurd (omega arith)
four_of (a ∷ []) h = absurd (omega arith)
four_of (a ∷ b ∷ []) h = absurd (omega arith)
four_of (a ∷ b ∷ c ∷ []) h = absurd (omega arith)
four_of (a ∷ b ∷ c ∷ d ∷ []) h = refl
four_of (a ∷ b ∷ c ∷ d ∷ e ∷ ns) h = absurd (omega arith)

-- which are what a slice of four then holds
pub sets_four : (ns : List ℕ) → length ns ≡ 4 → sets (0 ∷ 0 ∷ 0 ∷ 0 ∷ []) 0 ns ≡ ns
sets_four ns h = ap (sets (0 ∷ 0 ∷ 0 ∷ 0 ∷ []) 0) (four_of ns h) ∙ sym (four_of ns h)

-- what is computed is what is to be printed
pub printed_prints : (input : List ℕ) → Prints input (printed input)
printed_prints input =
    by_test (whole_line 4 input)
    (λ e.
    let r = read_line 4 input e in
    rw e (for_line _ _ _ _ (subst (λ (ns : List ℕ). IsLine ns input) (four_of (numbers_in 4 input) r.0) r.1)))
    (λ e. rw e (for_other (λ g l n s h. true≢false (sym (line_read h).0 ∙ e))))

pub printed_bad : (input : List ℕ) → ((g l n s : ℕ) → IsLine (g ∷ l ∷ n ∷ s ∷ []) input → ⊥) → printed input ≡ bad_line
printed_bad input none =
    by_test (whole_line 4 input)
    (λ e.
    let r = read_line 4 input e in
    absurd (none _ _ _ _ (subst (λ (ns : List ℕ). IsLine ns input) (four_of (numbers_in 4 input) r.0) r.1)))
    (λ e. rw e)

-- and nothing else is to be printed
pub prints_only : {input text : List ℕ} → Prints input text → text ≡ printed input
prints_only {input} (for_line g l n s h) = sym (printed_line input g l n s h)
prints_only {input} (for_other none) = sym (printed_bad input none)

-- a line of so many numbers has at most ten bytes for each
line_short : {vs input : List ℕ} → IsLine vs input → length input ≤ 10 * length vs
line_short no_more = omega arith
line_short (one_more {vs = vs} {ds = ds} {rest = rest} h e l) =
    omega (arith, h.few, ap length e, length-append ds (closing (length vs) ∷ rest), line_short l)

long_bad : (input : List ℕ) → longest_line < length input → printed input ≡ bad_line
long_bad input h = printed_bad input (λ g l n s q. omega (arith, line_short q))

pub printed-first : (room : ℕ) (input : List ℕ) → longest_line < room → printed (take room input) ≡ printed input
printed-first room input h =
    by_order room (length input)
    (λ l. long_bad (take room input) (omega (arith, length-take-le room input (omega arith))) ∙ sym (long_bad input (omega arith)))
    (λ l. ap printed (take_all room input l))
