use Rattle.std.proofs.Common.{arith}
use Rattle.decimal_amounts.proofs.scale.within.Goals as goal

pub returns-else-units-from : goal.returns-else-units-from
returns-else-units-from c = (c.args.units, omega arith, omega (arith, c.if-units-from.false, c.from.ensures))
