use Rattle.std.proofs.Common.{arith}
use Rattle.node_table.proofs.Joins.{hands}
use Rattle.node_table.proofs.steps.hand_out.Goals as goal

pub split_seat-requires : goal.split_seat-requires
split_seat-requires c =
    let nodes = c.args.nodes.now in
    let receiver = c.args.receiver.now in
    (c.requires.seat, omega (arith, nodes.table.wide), λ s kept seen. (hands nodes.board.shared.key receiver.id receiver.me c.requires.at s kept seen).rule)
