use Rattle.std.proofs.Common.{ap, arith, subst, sym}
use Rattle.atomic_table.specs.Table.{Me, Joins}
use Rattle.block_draw.specs.declared.seats.Known.{Known}
use Rattle.block_draw.specs.declared.seats.Known.TheVariants.{Gathers, Gone}
use Rattle.block_draw.specs.Rule.{KeepsDraw}
use Rattle.block_draw.specs.Steps.{drawer_in, gathered_with, gatherer_in}
use Rattle.block_draw.proofs.Gathers.{gathers_in}
use Rattle.block_draw.proofs.steps.take_in.Goals as goal

pub join_seat-requires : goal.join_seat-requires
join_seat-requires c =
    let seat = c.args.gatherer.now in
    let other = c.args.drawer in
    let shape = c.args.counter.now.shared.key in
    let g : Known = Gathers (gatherer_in seat.me.0) in
    let at = c.requires.at in (
      c.requires.seat.0,
      c.requires.seat.1,
      ap (λ (x : Me _ Known). x.1) at.1.0,
      omega (arith, c.requires.words),
      subst (λ (x : Me _ Known). Joins (KeepsDraw shape) seat.id x.0 other.id other.me.0 (gathered_with x.0 other.me.0) Gone) (sym at.0.is)
          (subst (λ (x : Me _ Known). Joins (KeepsDraw shape) seat.id g other.id x.0 (gathered_with g x.0) Gone) (sym at.1.0) (gathers_in shape seat.id (gatherer_in seat.me.0) other.id (drawer_in other.me.0) at.1.1)),
    )
