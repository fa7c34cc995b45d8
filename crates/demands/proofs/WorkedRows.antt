-- The rows worked by hand hold of the meanings: every definition is unfolded, and the checker computes both sides.
use mathlib.Core.Path.{refl}
use Rattle.poly.specs.Polynomial.{down, down_in, degree, degree_in, reduce, rem, powers}
use Rattle.poly.specs.Generators.{unfit}
use Rattle.packet.specs.Packet.{polynomial, polynomial_after, bytes_of, unfit_length, unfit_values, as_read, remainder, flip, flips}
use Rattle.crc.specs.Calls.{sealed}
use Rattle.tables.specs.Tables.{power, least, period, step, first}
use Rattle.checksum.specs.Checksum.{words, folded, sum_from, sum_of, range, field_of, passes, unfit_range, unfit_field, with_field, as_written, stamped}
use Rattle.maker.specs.Stream.{next_state, byte_of, yielded, state_after}
use Rattle.maker.specs.Calls.{made}
use Rattle.patterns.specs.Order.{keyed, span, lower, before}
use Rattle.patterns.specs.Listing.{syndrome, choose, up_to, sift, inserted, in_order, listing, follows}
use Rattle.verdicts.specs.Verdicts.{passes_both, candidates}
use Rattle.channel.specs.Channel.{among, untaken, drawn}
use Rattle.trials.specs.Trials.{same, counted, received, trial, trials, rows_of, simulated}
use Rattle.demands.specs.Worked.{Worked}

pub worked_rows : Worked
unfolding down down_in degree degree_in reduce rem powers unfit polynomial polynomial_after bytes_of unfit_length unfit_values as_read remainder sealed flip flips power least period step first words folded sum_from sum_of range field_of passes unfit_range unfit_field with_field as_written stamped next_state byte_of yielded state_after made keyed span lower before syndrome choose up_to sift inserted in_order listing follows passes_both candidates among untaken drawn same counted received trial trials rows_of simulated
worked_rows =
    record {
      row1 = refl;
      row2 = (refl, refl);
      row3 = refl;
      row4 = (refl, refl, refl, refl);
      row5 = (refl, refl);
      row6 = (refl, refl);
      row7 = (refl, refl);
      row8 = refl;
      row9 = refl;
      row10 = refl;
      row11 = λ limit. refl;
      row12 = (refl, refl);
      row13 = (refl, refl);
      row14 = (refl, refl, refl);
      row15 = (refl, refl, refl);
      row16 = refl;
      row17 = (refl, refl);
      row18 = (refl, refl, refl);
      row19 = (λ limit. refl, refl, refl, refl);
      row20 = (refl, refl, refl);
      row21 = (refl, refl);
      row22 = (λ limit. refl, refl, refl);
      row23 = (refl, refl);
      row24 = refl;
      row25 = refl;
      row26 = refl;
    }
