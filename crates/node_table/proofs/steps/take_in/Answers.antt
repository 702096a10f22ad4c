use Rattle.std.proofs.Common.{ap, arith}
use Rattle.atomic_table.specs.Table.{Me}
use Rattle.node_table.specs.declared.seats.Known.{Known}
use Rattle.node_table.specs.declared.seats.Posting.{Posting}
use Rattle.node_table.proofs.Joins.{gets_in}
use Rattle.node_table.proofs.steps.take_in.Goals as goal

pub join_seat-requires : goal.join_seat-requires
join_seat-requires c =
    let nodes = c.args.nodes.now in
    let receiver = c.args.receiver.now in
    let other = c.args.sender in
    let at = c.requires.at in
    (c.requires.seat.0, c.requires.seat.1, ap (λ (x : Me Posting Known). x.1) at.sender.is, omega (arith, nodes.table.wide), λ s kept seen apart there. (gets_in nodes.board.shared.key receiver.id receiver.me other.id other.me at s kept seen apart there).rule)
