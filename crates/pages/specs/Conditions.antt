-- What a page call is given, and the conditions that refuse it.
use Rattle.std.specs.Prelude.{ℕ, Bool, List, [], ◌∷◌, ltb, length}
use Rattle.base.specs.Outcome.{Condition, when}
use Rattle.poly.specs.Polynomial.{degree}
use Rattle.poly.specs.Generators.{unfit}
use Rattle.packet.specs.Packet.{unfit_length}
use Rattle.tables.specs.Tables.{unfit_tables, wrong_tables}
use Rattle.patterns.specs.Patterns.{Point}
use Rattle.patterns.specs.Listing.{unfit_limit, unfit_syndrome}
use Rattle.patterns.specs.Marks.{unfit_mark}
use Rattle.records.specs.Records.{longest_record}
use Rattle.tables.specs.declared.Tables.{Tables}
use Rattle.paging.specs.declared.Query.{Query}

-- what a page call is given, beside its mark
pub record Request : Type 0 where
  pub generator : ℕ
  pub bits : ℕ
  pub limit : ℕ
  pub syndrome : ℕ
  pub steps : List ℕ
  pub firsts : List ℕ
  pub output : List ℕ

abbrev pub page_request : ℕ → ℕ → ℕ → ℕ → List ℕ → List ℕ → List ℕ → Request
page_request generator bits limit syndrome steps firsts output =
    record {
      generator = generator;
      bits = bits;
      limit = limit;
      syndrome = syndrome;
      steps = steps;
      firsts = firsts;
      output = output;
    }

-- the same of a query and tables that are lent
abbrev pub page_request_by : Query → Tables → List ℕ → Request
page_request_by q t output = page_request q.generator q.bits q.limit q.syndrome t.steps.now t.firsts.now output

-- condition 8 of a page: fewer bytes than the longest record has
unfoldable pub unfit_output : ℕ → Bool
unfit_output room = ltb room longest_record

-- a page call is refused by 1 to 8
abbrev pub page_conditions : Request → Point → List Condition
page_conditions r mark =
    when 1 (unfit r.generator)
    ∷ when 2 (unfit_length (degree r.generator) r.bits)
    ∷ when 3 (unfit_limit r.limit)
    ∷ when 4 (unfit_syndrome (degree r.generator) r.syndrome)
    ∷ when 5 (unfit_tables (degree r.generator) (length r.steps) (length r.firsts))
    ∷ when 6 (wrong_tables (degree r.generator) r.generator r.steps r.firsts)
    ∷ when 7 (unfit_mark r.bits r.limit mark)
    ∷ when 8 (unfit_output (length r.output))
    ∷ []
