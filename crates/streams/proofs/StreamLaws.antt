-- What some of the bytes written are, among more of them.
use Rattle.std.proofs.Common.{◌≡◌, ℕ, List, [], ◌++◌, sym, ap, ◌∙◌, refl, append_assoc, Result, Ok, Err, OnErr, Option}
use Rattle.std.specs.Io.KnownBytes.{Appends}
use Rattle.std.proofs.KnownBytes.{Appends-trans, Appends-nil}
use Rattle.streams.specs.Streams.{WroteSome}

-- nothing is a beginning of any bytes
pub wrote_none : (a : Option (List ℕ)) (bytes : List ℕ) → WroteSome a a bytes
wrote_none a bytes = ([], bytes, refl, Appends-nil a)

-- behind bytes that were all written
pub wrote_behind : (a b c : Option (List ℕ)) (all done next : List ℕ) → all ≡ done ++ next → Appends a b done → WroteSome b c next → WroteSome a c all
wrote_behind a b c all done next e p (first, rest, split, q) =
    (done ++ first, rest, e ∙ ap (λ l. done ++ l) split ∙ sym (append_assoc done first rest), Appends-trans a b c done first p q)

-- before bytes of which none was
pub wrote_before : (a b : Option (List ℕ)) (all bytes more : List ℕ) → all ≡ bytes ++ more → WroteSome a b bytes → WroteSome a b all
wrote_before a b all bytes more e (first, rest, split, p) =
    (first, rest ++ more, e ∙ ap (λ l. l ++ more) split ∙ append_assoc first rest more, p)

pub on_err : {T E P : Type 0} (r : Result T E) → P → OnErr r P
on_err (Ok x) p = tt
on_err (Err e) p = p

pub on_err_then : {T E P Q : Type 0} (r : Result T E) → (P → Q) → OnErr r P → OnErr r Q
on_err_then (Ok x) f p = tt
on_err_then (Err e) f p = f p
