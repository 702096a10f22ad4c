use Rattle.std.proofs.Common.{◌<◌, [], All, subst, arith}
use Rattle.std.proofs.lemmas.List.{get_or_default}
use Rattle.thread_tests.proofs.payee_book_tests.assert_lines.Goals as goal

pub returns : goal.returns
returns g c = λ k d lt.
    subst (All (λ posting. posting.0 < c.args.lines)) (get_or_default c.args.book.now k [] d lt) (c.loop-account.invariant k (omega arith))
