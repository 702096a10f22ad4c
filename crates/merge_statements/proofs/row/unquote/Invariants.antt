use Rattle.std.proofs.Common.{◌≡◌, ◌≤◌, ◌-◌, ◌++◌, drop, length, take}
use Rattle.csv.specs.Writing.{default_writer, escaped}
use Rattle.merge_statements.proofs.row.unquote.Given as goal

-- what was read are the bytes so far
abbrev pub invariant-loop-at : goal.invariant-loop-at
invariant-loop-at l = record {
  within : l.at ≤ length l.text;
  room : l.size ≤ l.at;
  read : l.text ≡ escaped default_writer (take l.size l.room) ++ drop l.at l.text;
}

abbrev pub decreases-loop-at : goal.decreases-loop-at
decreases-loop-at l = length l.text - l.at
