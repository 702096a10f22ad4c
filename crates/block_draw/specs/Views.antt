-- How a clause sees a draw and its drawers.
use Rattle.std.specs.Prelude.{ℕ, ◌≡◌, ◌<◌, ◌+◌, ◌==◌, ◌++◌, ◌∷◌, [], Bool, HoldsAt, List, cond, false, length, true}
use Rattle.atomic_table.specs.Seated.{TableId}
use Rattle.block_draw.specs.declared.draw.Draw.{Draw}
use Rattle.block_draw.specs.declared.draw.Drawer.{Drawer}
use Rattle.block_draw.specs.declared.seats.Shape.{Shape}
use Rattle.block_draw.specs.Seats.{drawn_by}
use Rattle.block_draw.specs.Steps.{drawer_in, gatherer_in}

-- a drawer: its draw, how many blocks that has, its number, the blocks that it drew, in order, and whether it has found that none is left
pub record DrawerView : Type 0 where
  pub draw : TableId
  pub blocks : ℕ
  pub number : ℕ
  pub drawn : List ℕ
  pub is_done : Bool

-- a draw: its name, how many blocks and drawers it has, how many drawers were gathered, and what each of these drew
pub record DrawView : Type 0 where
  pub draw : TableId
  pub blocks : ℕ
  pub drawers : ℕ
  pub gathered : ℕ
  pub drawn : ℕ → List ℕ

abbrev pub drawer_of : Drawer → DrawerView
drawer_of d =
    record { draw = d.seat.table_id; blocks = d.shape.blocks; number = (drawer_in d.seat.me.0).number; drawn = (drawer_in d.seat.me.0).drawn; is_done = d.is_done }

abbrev pub draw_of : Draw → DrawView
draw_of d =
    record { draw = d.seat.table_id; blocks = d.shape.blocks; drawers = d.shape.drawers; gathered = length (gatherer_in d.seat.me.0).gathered; drawn = drawn_by (gatherer_in d.seat.me.0).gathered }

-- a draw and a drawer that were just opened
abbrev pub opened_draw : TableId → (blocks drawers : ℕ) → DrawView
opened_draw draw blocks drawers = record { draw = draw; blocks = blocks; drawers = drawers; gathered = 0; drawn = λ number. [] }

abbrev pub opened_drawer : TableId → (blocks number : ℕ) → DrawerView
opened_drawer draw blocks number = record { draw = draw; blocks = blocks; number = number; drawn = []; is_done = false }

-- the drawers of a draw by number, which have drawn nothing
abbrev pub AreNewDrawers : TableId → Shape → List Drawer → Type 0
AreNewDrawers draw shape drawers = (number : ℕ) → number < shape.drawers → HoldsAt (λ d. drawer_of d ≡ opened_drawer draw shape.blocks number) drawers number

-- a drawer after it drew this block, and after it found that none is left
abbrev pub with_block : DrawerView → ℕ → DrawerView
with_block d block = record { draw = d.draw; blocks = d.blocks; number = d.number; drawn = d.drawn ++ block ∷ []; is_done = d.is_done }

abbrev pub finished : DrawerView → DrawerView
finished d = record { draw = d.draw; blocks = d.blocks; number = d.number; drawn = d.drawn; is_done = true }

-- a draw after this drawer was gathered
abbrev pub with_drawer : DrawView → DrawerView → DrawView
with_drawer v d = record { draw = v.draw; blocks = v.blocks; drawers = v.drawers; gathered = v.gathered + 1; drawn = λ number. cond (number == d.number) d.drawn (v.drawn number) }
