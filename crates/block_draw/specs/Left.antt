-- What it means that a drawer finds no block left.
use Rattle.std.specs.Prelude.{ℕ, ◌≡◌, ◌<◌, ◌≤◌, length, slice_index, true, ⊤}
use mathlib.Core.Option.{some}
use lib.ListN.{get_elem?}
use Rattle.atomic_table.specs.Table.{State}
use Rattle.block_draw.specs.declared.seats.DrawerSeat.{DrawerSeat}
use Rattle.block_draw.specs.declared.seats.Known.{Known}
use Rattle.block_draw.specs.declared.seats.Known.TheVariants.{Draws}
use Rattle.block_draw.specs.declared.seats.Shape.{Shape}
use Rattle.block_draw.specs.Rule.{KeepsDraw, times_so_far}

-- each block was drawn, by one of the drawers, once
abbrev pub IsAllDrawn : (shape : Shape) (s : State ⊤ Known) → KeepsDraw shape s → Type 0
IsAllDrawn shape s kept = (block : ℕ) → block < shape.blocks → times_so_far shape kept.gatherer kept.others block ≡ 1

-- Of every state under the rule: the number at the counter is past the last block exactly where each block was drawn; so each was where a drawer has found none left, and where one was gathered.
pub record NoneIsLeft : Type 0 where
  pub all : (shape : Shape) (s : State ⊤ Known) (kept : KeepsDraw shape s) → shape.blocks ≤ slice_index s.words 0 → IsAllDrawn shape s kept
  pub only : (shape : Shape) (s : State ⊤ Known) (kept : KeepsDraw shape s) → IsAllDrawn shape s kept → shape.blocks ≤ slice_index s.words 0
  pub found : (shape : Shape) (s : State ⊤ Known) (kept : KeepsDraw shape s) (seat : ℕ) (d : DrawerSeat) → get_elem? s.views seat ≡ some (Draws d) → d.is_done ≡ true → IsAllDrawn shape s kept
  pub gathered : (shape : Shape) (s : State ⊤ Known) (kept : KeepsDraw shape s) → 0 < length kept.gatherer.gathered → IsAllDrawn shape s kept
