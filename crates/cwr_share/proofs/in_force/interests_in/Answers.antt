use Rattle.std.proofs.Common.{◌<◌, arith, length}
use Rattle.cwr_share.proofs.JoinedLemmas.{behind_last}
use Rattle.cwr_share.proofs.in_force.interests_in.Goals as goal

pub returns : goal.returns
returns c =
    let some : 0 < length c.args.lines.now = grind (arith, c.if-is_empty.false, c.is_empty.ensures) in
    behind_last c.checked_add.result _ c.args.lines.now c.index-lines-lines.result c.interest.result some c.requires.rise c.index-lines-lines.is c.interest.ensures c.checked_add.ensures
