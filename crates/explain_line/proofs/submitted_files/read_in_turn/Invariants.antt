use Rattle.explain_line.specs.LookedAt.{AreLookedAt}
use Rattle.explain_line.proofs.submitted_files.read_in_turn.Given as goal

-- the files so far were read
abbrev pub invariant-loop-place : goal.invariant-loop-place
invariant-loop-place g l = AreLookedAt (g.F.SubmitterFiles.holds l.files) l.place l.rows l.read.items l.filed.items
