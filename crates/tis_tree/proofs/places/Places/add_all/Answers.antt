use Rattle.std.proofs.Common.{◌<◌, ◌/◌, arith}
use Rattle.tis_tree.proofs.Bits.{joined_bit}
use Rattle.tis_tree.proofs.places.Places.add_all.Goals as goal

pub returns : goal.returns
returns c = λ place lt.
    let before : place / 64 < c.loop-word.word = omega arith in
    joined_bit c.loop-word.self.words c.args.self.now.words c.args.places.now.words place (c.loop-word.invariant.joined (place / 64) before)
