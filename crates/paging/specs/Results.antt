-- The values of a page's result.
use Rattle.patterns.specs.Patterns.{point_of}
use Rattle.records.specs.Pages.{Page}
use Rattle.paging.specs.declared.PageResult.{PageResult}

abbrev pub page_result : PageResult → Page
page_result r = record { used = r.used; written = r.written; next = point_of r.next }
