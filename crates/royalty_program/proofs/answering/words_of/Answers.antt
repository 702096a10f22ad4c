use Rattle.std.proofs.Common.{◌≡◌, Err, Ok, Result, refl}
use Rattle.std.proofs.lemmas.Iterator.{items_from_collect}
use Rattle.std.proofs.lemmas.Iterator.Adapters.{YieldsList-from_vec}
use Rattle.std.specs.Prelude.{IfOk}
use Rattle.std.specs.Result.{IsErrAnd, MatchResult}
use Rattle.royalty_program.proofs.answering.words_of.Goals as goal

-- what holds of an answer holds of it with another error
mapped : {T E F : Type 0} (r : Result T E) (s : Result T F) (P : T → Type 0) (Q : E → F → Type 0)
    → MatchResult r (λ x. s ≡ Ok x) (λ e. IsErrAnd s (Q e)) → IfOk r P → IfOk s P
mapped (Ok x) s P Q same holds = rw same holds
mapped (Err e) (Err f) P Q other holds = tt
mapped (Err e) (Ok x) P Q other holds = absurd other

pub returns-in-Ok-clause-all : goal.returns-in-Ok-clause-all
returns-in-Ok-clause-all c = rw c.in-Ok.is
    (mapped c.collect.result c.map_err.result _ _ c.map_err.ensures.cases
    (items_from_collect c.collect.result c.collect.ensures.ran (YieldsList-from_vec _ refl c.in-Ok.words.rest.ok.0)))
