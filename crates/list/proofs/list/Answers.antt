-- What is due for the input was printed, or a beginning of it, and nothing else.
use Rattle.std.proofs.Common.{◌≡◌, List, ℕ, OnOk, OnErr, IfSome, Some, None, Ok, Err, Result, Option, subst}
use Rattle.std.specs.Io.KnownBytes.{Appends}
use Rattle.streams.specs.Streams.{WroteSome}
use Rattle.streams.proofs.StreamLaws.{wrote_none, on_err}
use Rattle.lister.specs.Turns.{printed}
use Rattle.lister.proofs.PrintedLaws.{printed_prints}
use Rattle.list.specs.Moved.{Listed, ListedSome}
use Rattle.list.proofs.list.Goals as goal

listed : {T E : Type 0} (r : Result T E) (input before after : Option (List ℕ)) (text : List ℕ)
    → IfSome input (λ bytes. text ≡ printed bytes) → OnOk r (Appends before after text) → OnOk r (IfSome input (λ bytes. Listed bytes before after))
listed (Err e) input before after text due moved = tt
listed (Ok x) None before after text due moved = tt
listed (Ok x) (Some bytes) before after text due moved = (printed bytes, printed_prints bytes, subst (Appends before after) due moved)

listed_some : {T E : Type 0} (r : Result T E) (input before after : Option (List ℕ)) (text : List ℕ)
    → IfSome input (λ bytes. text ≡ printed bytes) → OnErr r (WroteSome before after text) → OnErr r (IfSome input (λ bytes. ListedSome bytes before after))
listed_some (Ok x) input before after text due moved = tt
listed_some (Err e) None before after text due moved = tt
listed_some (Err e) (Some bytes) before after text due moved = (printed bytes, printed_prints bytes, subst (WroteSome before after) due moved)

none_listed : (input out : Option (List ℕ)) → IfSome input (λ bytes. ListedSome bytes out out)
none_listed None out = tt
none_listed (Some bytes) out = (printed bytes, printed_prints bytes, wrote_none out (printed bytes))

pub returns-in_err-due-clause-err : goal.returns-in_err-due-clause-err
returns-in_err-due-clause-err g c = on_err c.from_residual.result (none_listed (g.R.Read.remaining c.args.input.now) (g.W.Write.contents c.args.out.now))

pub returns-clause-ok : goal.returns-clause-ok
returns-clause-ok g c = listed _ _ _ _ _ c.in_ok-due.ensures.text c.print_by.ensures.ok

pub returns-clause-err : goal.returns-clause-err
returns-clause-err g c = listed_some _ _ _ _ _ c.in_ok-due.ensures.text c.print_by.ensures.err
