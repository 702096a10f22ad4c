use Rattle.std.proofs.Common.{◌∙◌}
use Rattle.node_table.specs.Tells.{in_slot}
use Rattle.node_table.proofs.SenderCalls.{ends_line, slot_first}
use Rattle.node_table.proofs.steps.end_line.Goals as goal

pub exchange-requires : goal.exchange-requires
exchange-requires c =
    let me = c.args.seat.now.me in
    rw c.slot_of.ensures (c.requires.seat, (in_slot me.1, slot_first me c.args.number c.requires.at.is))

pub store-requires : goal.store-requires
store-requires c =
    let seat = c.exchange.new.seat in
    let board = c.args.nodes.now.board.shared in
    let done = c.exchange.ensures in
    let told = ends_line c.args.nodes.now.shape board.key board.table_id.words c.args.nodes.now.table board.table_id.slots seat.id c.args.seat.now.me c.args.number c.args.mailbox c.first_of.result c.requires.number c.first_of.ensures seat.me c.requires.at (rw c.slot_of.ensures at done.3) in
    rw c.line_word_of-word.ensures (done.0 ∙ c.requires.seat, told.0, told.1)
