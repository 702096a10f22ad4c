use Rattle.std.specs.List.Sorted.{IsPermutation}
use Rattle.payee_book.proofs.journal.move_back.Given as goal

-- they are the same postings
abbrev pub invariant-loop-place : goal.invariant-loop-place
invariant-loop-place l = IsPermutation l.fn.postings l.postings
