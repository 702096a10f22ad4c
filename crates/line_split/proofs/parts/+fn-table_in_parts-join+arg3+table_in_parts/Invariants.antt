use Rattle.std.proofs.Common.{◌+◌, ◌*◌}
use Rattle.line_split.proofs.parts.«+fn-table_in_parts-join+arg3+table_in_parts».Given as goal

abbrev pub decreases-table_in_parts : goal.decreases-table_in_parts
decreases-table_in_parts g l = 2 * l.halvings

abbrev pub «decreases-join+arg3» : goal.«decreases-join+arg3»
«decreases-join+arg3» g l = 2 * l.halvings + 1
