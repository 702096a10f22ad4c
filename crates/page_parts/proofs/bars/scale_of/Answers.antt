use Rattle.std.proofs.Common.{arith}
use Rattle.page_parts.specs.Bars.{above, below, table_shown}
use Rattle.page_parts.proofs.Scales.{above_small, below_small, table_small}
use Rattle.page_parts.proofs.bars.scale_of.Goals as goal

pub returns-clause-below : goal.returns-clause-below
returns-clause-below c = omega (arith, table_small below below_small (table_shown c.args.table.now) c.requires, c.loop-place.invariant.below)

pub returns-clause-above : goal.returns-clause-above
returns-clause-above c = omega (arith, table_small above above_small (table_shown c.args.table.now) c.requires, c.loop-place.invariant.above)
