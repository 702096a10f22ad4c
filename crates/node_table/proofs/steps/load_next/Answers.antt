use Rattle.std.proofs.Common.{arith}
use Rattle.node_table.proofs.ReceiverCalls.{loads_next}
use Rattle.node_table.proofs.steps.load_next.Goals as goal

pub load-requires : goal.load-requires
load-requires c =
    let nodes = c.args.nodes.now in
    let seat = c.args.seat.now in
    let at = c.requires.at in
    rw c.next_word-word.ensures (
      c.requires.seat,
      omega (arith, nodes.table.wide, c.requires.tail),
      loads_next nodes.shape nodes.board.shared.key nodes.board.shared.table_id.words nodes.table nodes.board.shared.table_id.slots seat.id seat.me at.0 c.args.tail at.1,
    )
