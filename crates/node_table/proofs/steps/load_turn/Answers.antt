use Rattle.std.proofs.Common.{◌≡◌, ◌∙◌, w64, to_z, of_z}
use Rattle.std.proofs.lemmas.Int.{to_z-of_z}
use Rattle.node_table.specs.Tells.{in_slot}
use Rattle.node_table.proofs.SenderCalls.{loads_turn, slot_first}
use Rattle.node_table.proofs.steps.load_turn.Goals as goal

pub exchange-requires : goal.exchange-requires
exchange-requires c =
    let me = c.args.seat.now.me in
    rw c.slot_of.ensures (c.requires.seat, (in_slot me.1, slot_first me c.args.number c.requires.at.is))

pub load-requires : goal.load-requires
load-requires c =
    let seat = c.exchange.new.seat in
    let board = c.args.nodes.now.board.shared in
    let done = c.exchange.ensures in
    let same : to_z w64 (of_z w64 c.args.amount) ≡ c.args.amount = to_z-of_z w64 c.args.amount c.ranges.amount in
    let laid = rw c.slot_of.ensures at (rw same at done.3) in
    let told = loads_turn c.args.nodes.now.shape board.key board.table_id.words c.args.nodes.now.table board.table_id.slots seat.id c.args.seat.now.me c.args.number c.args.mailbox c.first_of.result c.requires.number c.first_of.ensures seat.me c.args.count c.args.line c.args.amount c.requires.at laid in
    rw c.turn_word-word.ensures (done.0 ∙ c.requires.seat, told.0, told.1)
