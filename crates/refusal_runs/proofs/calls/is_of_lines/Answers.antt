use Rattle.std.proofs.Common.{◌<◌, [], All, subst, arith}
use Rattle.std.proofs.lemmas.List.{get_or_default}
use Rattle.refusal_runs.proofs.calls.is_of_lines.Goals as goal

pub returns : goal.returns
returns c = λ _ k d lt.
    subst (All (λ posting. posting.0 < c.args.lines)) (get_or_default c.args.book.now k [] d lt) (c.loop-account.invariant k (omega arith))
