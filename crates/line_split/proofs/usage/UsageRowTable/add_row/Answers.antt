use Rattle.line_split.proofs.UsageRows.{line_in_limits}
use Rattle.line_split.proofs.usage.UsageRowTable.add_row.Goals as goal

pub push-requires-clause-sound : goal.push-requires-clause-sound
push-requires-clause-sound c = rw c.in-Ok.ensures.line (line_in_limits c.args.rows.now.row c.in-Ok.ensures.sound)
