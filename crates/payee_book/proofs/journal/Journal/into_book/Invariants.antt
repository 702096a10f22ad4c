use Rattle.std.proofs.Common.{map, vec_items}
use Rattle.payee_book.proofs.Journals.{AreInOrderUpTo}
use Rattle.payee_book.proofs.journal.Journal.into_book.Given as goal

abbrev pub invariant-loop-account : goal.invariant-loop-account
invariant-loop-account l = AreInOrderUpTo (map (λ e. e.items) (vec_items l.initial.statements)) (map (λ e. e.items) (vec_items l.statements)) l.account
