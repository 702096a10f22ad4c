use Rattle.cwr_share.specs.Lines.{lines_of}
use Rattle.explain_line.proofs.LookedLemmas.{SoFar}
use Rattle.explain_line.proofs.submitted_files.look_at.Given as goal

-- of the rows so far what their file has is found, where it is this one
abbrev pub invariant-loop-at : goal.invariant-loop-at
invariant-loop-at l = SoFar l.place (lines_of l.text) l.rows l.at l.initial.filed.items l.filed.items
