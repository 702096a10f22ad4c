use Rattle.std.proofs.Common.{take}
use Rattle.starting_files.specs.Tables.{IsTableOf}
use Rattle.starting_files.proofs.making.table_of.Given as goal

abbrev pub invariant-loop-place : goal.invariant-loop-place
invariant-loop-place g l = IsTableOf l.table (take l.place l.submitters) (g.F.SubmitterFiles.holds l.files) l.text.items
