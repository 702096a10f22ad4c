use Rattle.node_table.proofs.SenderCalls.{takes_slot}
use Rattle.node_table.proofs.steps.take_slot.Goals as goal

pub load-requires : goal.load-requires
load-requires c =
    let seat = c.args.seat.now in
    let board = c.args.nodes.now.board.shared in
    let at = c.requires.at in
    let told = takes_slot c.args.nodes.now.shape board.key board.table_id.words c.args.nodes.now.table board.table_id.slots seat.id seat.me c.args.number at in
    (c.requires.seat, told.0, told.1)
