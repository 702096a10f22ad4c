use Rattle.std.proofs.Common.{arith}
use Rattle.node_table.proofs.ReceiverCalls.{loads_line}
use Rattle.node_table.proofs.steps.load_line.Goals as goal

pub load-requires : goal.load-requires
load-requires c =
    let nodes = c.args.nodes.now in
    let seat = c.args.seat.now in
    rw c.line_word_of-word.ensures (
      c.requires.seat,
      omega (arith, nodes.table.wide, c.requires.node),
      loads_line nodes.shape nodes.board.shared.key nodes.board.shared.table_id.words nodes.table nodes.board.shared.table_id.slots seat.id seat.me c.args.node c.requires.at,
    )
