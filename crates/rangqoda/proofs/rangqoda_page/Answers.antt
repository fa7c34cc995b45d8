-- An accepted page only came from as many bytes as a mark has, so the next mark, which `rangqoda_page` writes, has room.
use mathlib.Core.Path.{ap, ◌∙◌}
use Rattle.pages.specs.Conditions.{page_request}
use Rattle.pages.specs.Calls.{page_call}
use Rattle.rangqoda.proofs.PageLaws.{accepted_long}
use Rattle.rangqoda.proofs.rangqoda_page.Goals as goal

pub put_mark-requires : goal.put_mark-requires
put_mark-requires c =
    let a = c.args in
    let request = page_request a.generator a.bits a.limit a.syndrome a.step.now a.first.now a.output.now in
    accepted_long request a.mark.now (c.in-Ok.ensures.answer ∙ ap (page_call request) c.read_mark-at.ensures)
