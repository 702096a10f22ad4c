use Rattle.std.proofs.Common.{◌≡◌, [], map, replicate}
use Rattle.payee_book.proofs.postings.no_postings.Given as goal

-- the lists so far are empty
abbrev pub invariant-loop : goal.invariant-loop
invariant-loop l = map (λ list. list.items) l.lists.items ≡ replicate l.counter []
