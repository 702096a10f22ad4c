use Rattle.node_table.proofs.SenderCalls.{stores_link}
use Rattle.node_table.proofs.steps.store_link.Goals as goal

pub store-requires : goal.store-requires
store-requires c =
    let seat = c.args.seat.now in
    let board = c.args.nodes.now.board.shared in
    let at = c.requires.at in
    let told = stores_link c.args.nodes.now.shape board.key board.table_id.words c.args.nodes.now.table board.table_id.slots seat.id seat.me at.0 c.args.node at.1 c.args.before c.requires.nodes.1 at.2 in
    rw c.next_word-word.ensures (rw c.link_to-link.ensures (c.requires.seat, told.0, told.1))
