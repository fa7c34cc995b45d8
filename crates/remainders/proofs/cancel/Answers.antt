-- `cancel` takes the term out where it is there.
use Rattle.remainders.proofs.CancelLaws.{cancel_there}
use Rattle.remainders.proofs.cancel.Goals as goal

pub returns-else-v-g-eq0 : goal.returns-else-v-g-eq0
returns-else-v-g-eq0 c =
    let fit = c.requires.0 in
    cancel_there c.args.g.degree c.args.g.coefficients fit.divisor c.args.v c.args.j fit.most c.requires.1.0 c.requires.1.1 c.if-v-g-eq0.false
