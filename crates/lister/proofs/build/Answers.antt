-- `build` calls for the tables, which are refused neither by the generator nor by their length.
use Rattle.std.proofs.Common.{◌∙◌}
use Rattle.lister.proofs.TurnLaws.{sound_listing, tables_built}
use Rattle.lister.proofs.build.Goals as goal

pub returns-in-Listing : goal.returns-in-Listing
returns-in-Listing c =
    let e = c.in-Listing.is in
    let full-steps = rw e at c.requires.1 in
    let full-firsts = rw e at c.requires.2 in
    let built = tables_built (sound_listing e c.requires.0) c.args.steps.now c.args.firsts.now full-steps full-firsts in
    rw e (c.tables.ensures.steps ∙ built.0, c.tables.ensures.firsts ∙ built.1)
