use Rattle.std.proofs.Common.{arith, subst, sym}
use Rattle.atomic_table.specs.Table.{Me, Splits}
use Rattle.block_draw.specs.declared.seats.GathererSeat.{GathererSeat}
use Rattle.block_draw.specs.declared.seats.Known.{Known}
use Rattle.block_draw.specs.Rule.{KeepsDraw, opened_gatherer}
use Rattle.block_draw.specs.Steps.{after_deal, dealt, gatherer_in}
use Rattle.block_draw.proofs.Openings.{seat_deals}
use Rattle.block_draw.proofs.steps.deal_seat.Goals as goal

pub split_seat-requires : goal.split_seat-requires
split_seat-requires c =
    let seat = c.args.gatherer.now in
    let shape = c.args.counter.now.shared.key in
    let g : GathererSeat = opened_gatherer (gatherer_in seat.me.0).shape (gatherer_in seat.me.0).dealt in
    (c.requires.seat, omega (arith, c.requires.words), subst (λ (x : Me _ Known). Splits (KeepsDraw shape) seat.id x.0 (after_deal x.0) (dealt x.0)) (sym c.requires.at.is) (seat_deals shape seat.id g c.requires.at.more))
