use Rattle.node_table.proofs.SenderCalls.{swaps_head}
use Rattle.node_table.proofs.steps.swap_head.Goals as goal

pub swap-requires : goal.swap-requires
swap-requires c =
    let seat = c.args.seat.now in
    let board = c.args.nodes.now.board.shared in
    let at = c.requires.at in
    let word = c.head_word-word.result in
    let is = c.head_word-word.ensures in
    let told = swaps_head c.args.nodes.now.shape board.key board.table_id.words c.args.nodes.now.table board.table_id.slots seat.id seat.me c.args.mailbox c.args.node at.0 word is at.1 in
    rw c.link_to-link.ensures (c.requires.seat, told.0, told.1)
