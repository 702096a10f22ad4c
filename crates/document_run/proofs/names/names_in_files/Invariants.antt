use Rattle.std.proofs.Common.{map, take}
use Rattle.document_run.specs.Names.{AreNamesOf, items_of}
use Rattle.document_run.proofs.names.names_in_files.Given as goal

-- the names by the files that were read so far
abbrev pub invariant-loop-place : goal.invariant-loop-place
invariant-loop-place g l = AreNamesOf (take l.place l.submitters) (g.S.SubmitterFiles.holds l.files) (map (λ account. account.items) l.accounts) (items_of l.fn.names) (items_of l.names)
