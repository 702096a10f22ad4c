use Rattle.std.proofs.Common.{◌+◌, ◌*◌}
use Rattle.line_split.proofs.parts.«+fn-lines_in_parts-join+arg2+fn-lines_in_parts-join+arg3+lines_in_parts».Given as goal

abbrev pub decreases-lines_in_parts : goal.decreases-lines_in_parts
decreases-lines_in_parts g l = 2 * l.halvings

abbrev pub «decreases-join+arg2» : goal.«decreases-join+arg2»
«decreases-join+arg2» g l = 2 * l.halvings + 1

abbrev pub «decreases-join+arg3» : goal.«decreases-join+arg3»
«decreases-join+arg3» g l = 2 * l.halvings + 1
