use Rattle.std.proofs.Common.{arith, subst, sym}
use mathlib.Core.Option.{none}
use Rattle.atomic_table.specs.Table.{Me, Allows, step}
use Rattle.block_draw.specs.declared.seats.Known.{Known}
use Rattle.block_draw.specs.Rule.{KeepsDraw}
use Rattle.block_draw.specs.Steps.{gatherer_in, tells_look}
use Rattle.block_draw.proofs.Gathers.{looks}
use Rattle.block_draw.proofs.steps.look_again.Goals as goal

pub load-requires : goal.load-requires
load-requires c =
    let seat = c.args.gatherer.now in
    let shape = c.args.counter.now.shared.key in
    let slots = c.args.counter.now.shared.table_id.slots in
    (c.requires.seat, omega (arith, c.requires.words), subst (λ (x : Me _ Known). Allows (KeepsDraw shape) slots seat.id x 0 (λ n. n) (tells_look (step slots 0 0 0 none) x)) (sym c.requires.at.is) (looks shape slots seat.id (gatherer_in seat.me.0)))
