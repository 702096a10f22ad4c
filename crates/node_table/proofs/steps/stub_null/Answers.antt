use Rattle.std.proofs.Common.{arith}
use Rattle.node_table.proofs.ReceiverCalls.{nulls_stub}
use Rattle.node_table.proofs.steps.stub_null.Goals as goal

pub store-requires : goal.store-requires
store-requires c =
    let nodes = c.args.nodes.now in
    let seat = c.args.seat.now in
    let at = c.requires.at in
    rw c.next_word-word.ensures (
      c.requires.seat,
      omega (arith, nodes.table.wide, c.requires.there, c.requires.stub),
      nulls_stub nodes.shape nodes.board.shared.key nodes.board.shared.table_id.words nodes.table nodes.board.shared.table_id.slots seat.id seat.me c.args.mailbox at.0 c.args.stub c.requires.stub at.1,
    )
