use Rattle.std.proofs.Common.{rules}
use Rattle.usage_totals.specs.RepeatsSoFar.{hash_of}
use Rattle.usage_totals.proofs.repeats.hash_of_line.Goals as goal

pub returns : goal.returns
unfolding hash_of
returns c = search rules
