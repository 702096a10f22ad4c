use Rattle.std.proofs.Common.{◌≡◌, ◌++◌, map, take}
use Rattle.std.specs.List.{enumerate_from}
use Rattle.csv_table.specs.Written.{text_of}
use Rattle.explain_line.specs.Submitted.{submitted_share_row}
use Rattle.explain_line.proofs.submitted_rows.write_submitted_shares.Given as goal

-- the share lines so far are written
abbrev pub invariant-loop-place : goal.invariant-loop-place
invariant-loop-place l =
    l.rows.text ≡ l.initial.rows.text
    ++ text_of (map (submitted_share_row l.tis l.registry l.land l.right l.submitter l.numbers l.shares) (enumerate_from 0 (take l.place l.shares)))
