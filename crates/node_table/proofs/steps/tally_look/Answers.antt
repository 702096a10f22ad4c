use Rattle.std.proofs.Common.{arith}
use Rattle.node_table.proofs.Looks.{tally_looks_again}
use Rattle.node_table.proofs.steps.tally_look.Goals as goal

pub load-requires : goal.load-requires
load-requires c =
    let nodes = c.args.nodes.now in
    let seat = c.args.seat.now in
    (c.requires.seat, omega (arith, nodes.table.wide), tally_looks_again nodes.board.shared.key nodes.board.shared.table_id.slots seat.id seat.me c.requires.at)
