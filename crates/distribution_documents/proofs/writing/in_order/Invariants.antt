use Rattle.std.proofs.Common.{◌≡◌, Ok, Some, map}
use Rattle.distribution_documents.proofs.writing.in_order.Given as goal

-- the files of the payees so far
abbrev pub invariant-loop-slot : goal.invariant-loop-slot
invariant-loop-slot g l = l.yielded ≡ map (λ files. Some (Ok files)) l.written.items
