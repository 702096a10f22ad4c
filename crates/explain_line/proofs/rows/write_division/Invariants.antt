use Rattle.std.proofs.Common.{◌≡◌, ◌++◌, map, take}
use Rattle.std.specs.List.{enumerate_from}
use Rattle.csv_table.specs.Written.{text_of}
use Rattle.explain_line.specs.Explanation.{participant_row}
use Rattle.line_split.specs.Claims.{participants_of}
use Rattle.explain_line.proofs.rows.write_division.Given as goal

-- the participants so far are written
abbrev pub invariant-loop-place : goal.invariant-loop-place
invariant-loop-place l = l.rows.text ≡ l.initial.rows.text ++ text_of (map (participant_row l.registry l.amount l.claims.list) (enumerate_from 0 (take l.place (participants_of l.claims.list))))
