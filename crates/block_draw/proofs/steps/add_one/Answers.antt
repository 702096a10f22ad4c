use Rattle.std.proofs.Common.{◌+◌, ◌%◌, ◌^◌, arith, subst, sym}
use mathlib.Core.Option.{none}
use Rattle.atomic_table.specs.Table.{Me, Allows, step}
use Rattle.block_draw.specs.declared.seats.Known.{Known}
use Rattle.block_draw.specs.Rule.{KeepsDraw}
use Rattle.block_draw.specs.Steps.{drawer_in, tells_draw}
use Rattle.block_draw.proofs.Draws.{draws}
use Rattle.block_draw.proofs.steps.add_one.Goals as goal

pub fetch_add-requires : goal.fetch_add-requires
fetch_add-requires c =
    let seat = c.args.drawer.now in
    let shape = c.args.counter.now.shared.key in
    let slots = c.args.counter.now.shared.table_id.slots in
    (c.requires.seat, omega (arith, c.requires.words), subst (λ (x : Me _ Known). Allows (KeepsDraw shape) slots seat.id x 0 (λ n. (n + 1) % 2 ^ 64) (tells_draw (step slots 0 1 0 none) x)) (sym c.requires.at.0) (draws shape slots seat.id (drawer_in seat.me.0) c.requires.at.1))
