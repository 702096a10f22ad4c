use Rattle.std.proofs.Common.{arith}
use Rattle.node_table.proofs.Looks.{begins_receiving}
use Rattle.node_table.proofs.steps.begin_receiving.Goals as goal

pub load-requires : goal.load-requires
load-requires c =
    let nodes = c.args.nodes.now in
    let seat = c.args.seat.now in
    (c.requires.seat, omega (arith, nodes.table.wide), begins_receiving nodes.board.shared.key nodes.board.shared.table_id.slots seat.id seat.me nodes.shape c.args.mailbox c.requires.at)
