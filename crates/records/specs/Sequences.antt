-- A sequence of page calls (docs/RULES.md, section 4): any list of them, refused ones among them, each given the mark reached.
use Rattle.std.specs.Prelude.{ℕ, zero, ◌+◌, ◌-◌, ◌≤◌, ◌<◌, ◌≡◌, List, [], ◌∷◌, ◌++◌, length, take, drop, get_or}
use Rattle.base.specs.Outcome.{Outcome, refused, accepted}
use Rattle.patterns.specs.Patterns.{Point, start, ended, after}
use Rattle.records.specs.Records.{records}
use Rattle.records.specs.Pages.{fitting, Page}

-- ---- a sequence of calls ----

-- an accepted call: what it returned, and its output as it stood then
pub record Call : Type 0 where
  pub page : Page
  pub output : List ℕ

-- the accepted calls so far: none more where this call was refused, else this one and those made from its mark
abbrev pub continued : Outcome Page → List ℕ → List Call → (Point → List Call) → List Call
continued (refused number) out same onward = same
continued (accepted page) out same onward = record { page = page; output = out } ∷ onward page.next

-- the accepted calls among some requests, in their order, where `answer` and `left` are what a request's call
-- answers and leaves in its output at a given mark; each call is given the mark reached, and a refused one leaves it
unfoldable pub calls : {Request : Type 0} → (Request → Point → Outcome Page) → (Request → Point → List ℕ) → Point → List Request → List Call
calls answer left mark [] = []
calls answer left mark (r ∷ rs) =
    continued (answer r mark) (left r mark) (calls answer left mark rs) (λ reached. calls answer left reached rs)

-- the pages joined: the bytes used of each accepted call, one call's after the other's
unfoldable pub joined : List Call → List ℕ
joined [] = []
joined (c ∷ cs) = take c.page.used c.output ++ joined cs

-- how many records the accepted calls returned as written, in all
unfoldable pub reported : List Call → ℕ
reported [] = zero
reported (c ∷ cs) = c.page.written + reported cs

-- the mark reached: the one that the last accepted call returned, and the first one where none was accepted
unfoldable pub reached : Point → List Call → Point
reached mark [] = mark
reached mark (c ∷ cs) = reached c.page.next cs

-- ---- the claim ----

-- of the records behind the first k, each accepted call adds those that its output has room for, and answers with their number
pub data CountsUp (xs : List (List ℕ)) : ℕ → List Call → Type 0 where
  none : {k : ℕ} → CountsUp xs k []
  adds : {k : ℕ} {c : Call} {cs : List Call}
      → take c.page.used c.output ≡ records (fitting (length c.output) (drop k xs))
      → c.page.written ≡ length (fitting (length c.output) (drop k xs))
      → CountsUp xs (k + c.page.written) cs → CountsUp xs k (c ∷ cs)

-- the whole sequence, for the list xs of patterns and the accepted calls cs; k is `reported cs`
pub record Sequence (xs : List (List ℕ)) (cs : List Call) : Type 0 where
  -- counted from 0, call by call
  pub counted : CountsUp xs zero cs
  pub within : reported cs ≤ length xs
  -- the pages, joined, are the records of the list's first k patterns
  pub joins : joined cs ≡ records (take (reported cs) xs)
  -- the mark reached is Start as long as no call was accepted
  pub first : length cs ≡ 0 → reached start cs ≡ start
  -- after that it is Ended where k is the length of the list
  pub last : 1 ≤ length cs → reported cs ≡ length xs → reached start cs ≡ ended
  -- and After the k-th pattern where the list is longer (there is one, and get_or counts from 0)
  pub begun : 1 ≤ length cs → reported cs < length xs → 1 ≤ reported cs
  pub between : 1 ≤ length cs → reported cs < length xs → reached start cs ≡ after (get_or xs (reported cs - 1) [])
  -- it is Ended with one call accepted, and no fewer than there are patterns
  pub soon : 1 ≤ length cs → length xs ≤ length cs → reached start cs ≡ ended
  -- once Ended, the pages joined are the whole list
  pub whole : reached start cs ≡ ended → joined cs ≡ records xs
