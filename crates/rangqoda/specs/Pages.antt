-- The page call for a C caller: what the memory lent to it then holds.
use Rattle.std.specs.Prelude.{ℕ, List}
use Rattle.base.specs.Outcome.{Outcome}
use Rattle.records.specs.Pages.{Page}
use Rattle.rangqoda.specs.Codes.{changed}
use Rattle.codec.specs.Marks.{mark_bytes}

-- the mark's bytes, the number of bytes used and the number of records written, after a call of this answer
abbrev pub mark_after : List ℕ → Outcome Page → List ℕ
mark_after mark = changed mark (λ page. mark_bytes page.next)

abbrev pub used_after : ℕ → Outcome Page → ℕ
used_after used = changed used (λ page. page.used)

abbrev pub written_after : ℕ → Outcome Page → ℕ
written_after written = changed written (λ page. page.written)
