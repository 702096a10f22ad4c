use Rattle.std.proofs.Common.{arith}
use Rattle.tis_tree.proofs.Bits.{added_bit}
use Rattle.tis_tree.proofs.places.Places.add.Goals as goal

pub returns : goal.returns
returns c = λ other lt. added_bit c.args.self.now.words c.args.place other (omega arith)
