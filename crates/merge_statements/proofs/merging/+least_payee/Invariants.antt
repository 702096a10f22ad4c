use Rattle.std.proofs.Common.{length}
use Rattle.merge_statements.proofs.merging.«+least_payee».Given as goal

abbrev pub decreases-least_payee : goal.decreases-least_payee
decreases-least_payee g l = length l.parts.now
