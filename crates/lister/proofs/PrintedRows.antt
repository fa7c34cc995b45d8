-- What is printed for some inputs, computed from the definitions: the rules' example, a degree above 14, and a line that
-- wants its line feed.
use mathlib.Core.Path.{◌≡◌, refl}
use mathlib.Core.List.{[], ◌∷◌}
use Rattle.poly.specs.Polynomial.{down, down_in, degree, degree_in, reduce, rem, powers}
use Rattle.poly.specs.Generators.{unfit}
use Rattle.packet.specs.Packet.{unfit_length}
use Rattle.patterns.specs.Order.{keyed, span, lower, before}
use Rattle.patterns.specs.Listing.{syndrome, choose, up_to, sift, inserted, in_order, listing, unfit_limit, unfit_syndrome}
use Rattle.lines.specs.Decimal.{digits_of, decimal}
use Rattle.lines.specs.Text.{spaced, line_of, text_of, end_line, refused_line, bad_line}
use Rattle.parsing.specs.Parsing.{read_from, read, numbers_in, whole_line}
use Rattle.lister.specs.Printed.{unfit_listed}
use Rattle.lister.specs.Turns.{printed}

-- "53 8 2 3": "2 0 1", "2 3 7", "end 2"
pub example_row : printed (53 ∷ 51 ∷ 32 ∷ 56 ∷ 32 ∷ 50 ∷ 32 ∷ 51 ∷ 10 ∷ [])
    ≡ 50 ∷ 32 ∷ 48 ∷ 32 ∷ 49 ∷ 10 ∷ 50 ∷ 32 ∷ 51 ∷ 32 ∷ 55 ∷ 10 ∷ 101 ∷ 110 ∷ 100 ∷ 32 ∷ 50 ∷ 10 ∷ []
unfolding down down_in degree degree_in reduce rem powers unfit unfit_length keyed span lower before syndrome choose up_to sift inserted in_order listing unfit_limit unfit_syndrome digits_of decimal spaced line_of text_of end_line refused_line bad_line read_from read numbers_in whole_line unfit_listed
example_row = refl

-- "32769 40 1 1": "refused 1"
pub degree_row : printed (51 ∷ 50 ∷ 55 ∷ 54 ∷ 57 ∷ 32 ∷ 52 ∷ 48 ∷ 32 ∷ 49 ∷ 32 ∷ 49 ∷ 10 ∷ [])
    ≡ 114 ∷ 101 ∷ 102 ∷ 117 ∷ 115 ∷ 101 ∷ 100 ∷ 32 ∷ 49 ∷ 10 ∷ []
unfolding degree degree_in unfit digits_of decimal refused_line read_from read numbers_in whole_line unfit_listed
degree_row = refl

-- "53 8 2 3" without a line feed: "bad line"
pub feed_row : printed (53 ∷ 51 ∷ 32 ∷ 56 ∷ 32 ∷ 50 ∷ 32 ∷ 51 ∷ []) ≡ 98 ∷ 97 ∷ 100 ∷ 32 ∷ 108 ∷ 105 ∷ 110 ∷ 101 ∷ 10 ∷ []
unfolding bad_line read_from read whole_line
feed_row = refl
