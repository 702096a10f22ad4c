use Rattle.std.proofs.Common.{◌≡◌, ◌++◌, ℕ, List, flat_map, map, take}
use Rattle.csv_table.specs.Written.{text_of}
use Rattle.linked_works.specs.Rows.{link_shown}
use Rattle.explain_line.specs.LookedAt.{AreFiledBy}
use Rattle.explain_line.specs.Submitted.{file_by, link_rows}
use Rattle.explain_line.proofs.submitted_rows.write_linked.Given as goal

-- the rows so far are written, whatever files their registrations were found in
abbrev pub invariant-loop-place : goal.invariant-loop-place
invariant-loop-place l = (files : List (List ℕ × List (List ℕ))) → AreFiledBy (λ row. file_by files row.name.now) l.linked l.filed
    → l.rows.text ≡ l.initial.rows.text ++ text_of (flat_map (link_rows l.tis l.registry l.land l.right files) (map link_shown (take l.place l.linked)))
