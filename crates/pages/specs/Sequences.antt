-- A sequence of page calls: generator, length, limit and syndrome stay, tables and output may be others at each call.
use Rattle.std.specs.Prelude.{ℕ, List}
use Rattle.patterns.specs.Patterns.{start}
use Rattle.records.specs.Sequences.{Call, calls}
use Rattle.pages.specs.Conditions.{Request, page_request}
use Rattle.pages.specs.Calls.{page_call, page_left}

-- what is lent anew at each call
pub record Lending : Type 0 where
  pub steps : List ℕ
  pub firsts : List ℕ
  pub output : List ℕ

-- the request of a call: what stays, and what is lent
abbrev pub request_with : ℕ → ℕ → ℕ → ℕ → Lending → Request
request_with generator bits limit syndrome lent =
    page_request generator bits limit syndrome lent.steps lent.firsts lent.output

-- the accepted ones among the page calls of some lendings: the first is given Start, and each the mark reached
abbrev pub accepted_calls : ℕ → ℕ → ℕ → ℕ → List Lending → List Call
accepted_calls generator bits limit syndrome lendings =
    calls (λ lent mark. page_call (request_with generator bits limit syndrome lent) mark)
    (λ lent mark. page_left (request_with generator bits limit syndrome lent) mark) start lendings
