use Rattle.std.proofs.Common.{◌≡◌, ◌++◌, flat_map}
use Rattle.distribution_documents.specs.Slots.{files_in}
use Rattle.distribution_documents.proofs.writing.add_all.Given as goal

-- the files of the payees so far are added
abbrev pub invariant-loop-files : goal.invariant-loop-files
invariant-loop-files g l = l.written.items ≡ l.initial.written.items ++ flat_map files_in l.yielded
