use Rattle.std.proofs.Common.{arith}
use Rattle.node_table.proofs.ReceiverCalls.{swaps_stub}
use Rattle.node_table.proofs.steps.stub_swap.Goals as goal

pub swap-requires : goal.swap-requires
swap-requires c =
    let nodes = c.args.nodes.now in
    let seat = c.args.seat.now in
    let at = c.requires.at in
    let word = c.head_word-word.result in
    let is = c.head_word-word.ensures in
    rw c.link_to-link.ensures (
      c.requires.seat,
      omega (arith, nodes.table.wide, c.requires.there, is),
      swaps_stub nodes.shape nodes.board.shared.key nodes.board.shared.table_id.words nodes.table nodes.board.shared.table_id.slots seat.id seat.me c.args.mailbox at.0 c.args.stub c.requires.stub word is at.1,
    )
