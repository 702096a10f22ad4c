use Rattle.std.proofs.Common.{arith}
use Rattle.node_table.proofs.Joins.{deals}
use Rattle.node_table.proofs.steps.deal_seat.Goals as goal

pub split_seat-requires : goal.split_seat-requires
split_seat-requires c =
    let nodes = c.args.nodes.now in
    let tally = c.args.tally.now in
    (c.requires.seat, omega (arith, nodes.table.wide), λ s kept seen. (deals nodes.board.shared.key tally.id tally.me c.requires.at s kept seen).rule)
