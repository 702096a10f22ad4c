use Rattle.std.proofs.Common.{arith}
use Rattle.node_table.proofs.ReceiverCalls.{loads_head}
use Rattle.node_table.proofs.steps.load_head.Goals as goal

pub load-requires : goal.load-requires
load-requires c =
    let nodes = c.args.nodes.now in
    let seat = c.args.seat.now in
    let at = c.requires.at in
    let word = c.head_word-word.result in
    let is = c.head_word-word.ensures in (
      c.requires.seat,
      omega (arith, nodes.table.wide, c.requires.there, is),
      loads_head nodes.shape nodes.board.shared.key nodes.board.shared.table_id.words nodes.table nodes.board.shared.table_id.slots seat.id seat.me c.args.mailbox at.0 word is at.1,
    )
