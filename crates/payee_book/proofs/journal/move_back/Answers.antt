use Rattle.std.proofs.lemmas.List.Sorted.{IsPermutation-trans}
use Rattle.payee_book.proofs.journal.move_back.Goals as goal

pub loop-place-preserved : goal.loop-place-preserved
loop-place-preserved c = IsPermutation-trans c.args.postings.now c.loop-place.postings c.move_one_back-steps_left.new.postings c.loop-place.invariant c.move_one_back-steps_left.ensures
