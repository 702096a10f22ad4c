use Rattle.std.proofs.Common.{arith}
use Rattle.node_table.proofs.ReceiverCalls.{adds_turn}
use Rattle.node_table.proofs.steps.give_back.Goals as goal

pub fetch_add-requires : goal.fetch_add-requires
fetch_add-requires c =
    let nodes = c.args.nodes.now in
    let seat = c.args.seat.now in
    rw c.turn_word-word.ensures (
      c.requires.seat,
      omega (arith, nodes.table.wide, c.requires.node),
      adds_turn nodes.shape nodes.board.shared.key nodes.board.shared.table_id.words nodes.table nodes.board.shared.table_id.slots seat.id seat.me c.args.node c.requires.at,
    )
