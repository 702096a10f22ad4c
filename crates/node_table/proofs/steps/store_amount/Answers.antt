use Rattle.node_table.proofs.SenderCalls.{stores_amount}
use Rattle.node_table.proofs.steps.store_amount.Goals as goal

pub store-requires : goal.store-requires
store-requires c =
    let seat = c.args.seat.now in
    let board = c.args.nodes.now.board.shared in
    let at = c.requires.at in
    let told = stores_amount c.args.nodes.now.shape board.key board.table_id.words c.args.nodes.now.table board.table_id.slots seat.id seat.me at.0 c.args.node at.1 c.requires.node c.args.amount at.2 at.3 in
    rw c.amount_word_of-word.ensures (c.requires.seat, told.0, told.1)
