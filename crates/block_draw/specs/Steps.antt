-- What each step at the counter of a draw leaves its seat with, and what it tells.
use Rattle.std.specs.Prelude.{ℕ, ◌≡◌, ◌<◌, ◌+◌, ◌++◌, ◌∷◌, [], All, Bool, false, true, length, nat_lt, if◌then◌else◌}
use Rattle.atomic_table.specs.Table.{Me, Step}
use Rattle.block_draw.specs.declared.seats.DrawerSeat.{DrawerSeat}
use Rattle.block_draw.specs.declared.seats.GathererSeat.{GathererSeat}
use Rattle.block_draw.specs.declared.seats.Known.{Known}
use Rattle.block_draw.specs.declared.seats.Known.TheVariants.{Draws, Gathers}
use Rattle.block_draw.specs.declared.seats.Shape.{Shape}
use Rattle.block_draw.specs.Drawn.{AreDrawnOnce}
use Rattle.block_draw.specs.Seats.{drawn_by}
use Rattle.block_draw.specs.Rule.{opened_gatherer}

-- ---- what a seat knows, by its kind

abbrev pub no_shape : Shape
no_shape = record { blocks = 0; drawers = 0 }

abbrev pub new_drawer : Shape → ℕ → DrawerSeat
new_drawer shape number = record { shape = shape; number = number; drawn = []; is_done = false }

abbrev pub drawer_in : Known → DrawerSeat
drawer_in (Draws d) = d
drawer_in known = new_drawer no_shape 0

abbrev pub gatherer_in : Known → GathererSeat
gatherer_in (Gathers g) = g
gatherer_in known = opened_gatherer no_shape 0

-- ---- the next drawer is dealt a seat

abbrev pub after_deal : Known → Known
after_deal known = let g : GathererSeat = gatherer_in known in Gathers record { shape = g.shape; dealt = g.dealt + 1; gathered = g.gathered }

abbrev pub dealt : Known → Known
dealt known = let g : GathererSeat = gatherer_in known in Draws (new_drawer g.shape g.dealt)

-- ---- one is added to the counter

-- a drawer with one block more
abbrev pub with_drawn : DrawerSeat → ℕ → DrawerSeat
with_drawn d block = record { shape = d.shape; number = d.number; drawn = d.drawn ++ block ∷ []; is_done = d.is_done }

-- one that has found that no block is left
abbrev pub out_of_blocks : DrawerSeat → DrawerSeat
out_of_blocks d = record { shape = d.shape; number = d.number; drawn = d.drawn; is_done = true }

-- a drawer that found this number there
abbrev pub after_draw : ℕ → DrawerSeat → DrawerSeat
after_draw n d = if nat_lt n d.shape.blocks then with_drawn d n else out_of_blocks d

module _ {S : Type 0} where
  -- it has that block, which is above all that it drew before; or it has found that none is left
  abbrev pub tells_draw : Step S → Me S Known → ℕ → Me S Known → Type 0
  tells_draw step before n after = (after ≡ (Draws (after_draw n (drawer_in before.0)), [])) × All (λ block. block < n) (drawer_in before.0).drawn

-- ---- a drawer is gathered

abbrev pub gathered_with : Known → Known → Known
gathered_with known other = let g : GathererSeat = gatherer_in known in Gathers record { shape = g.shape; dealt = g.dealt; gathered = drawer_in other ∷ g.gathered }

-- once all drawers were gathered, each block was drawn by one of them
abbrev pub AreAllDrawn : GathererSeat → Type 0
AreAllDrawn g = length g.gathered ≡ g.shape.drawers → AreDrawnOnce g.shape.drawers (drawn_by g.gathered) g.shape.blocks

module _ {S : Type 0} where
  abbrev pub tells_look : Step S → Me S Known → ℕ → Me S Known → Type 0
  tells_look step before n after = (after ≡ before) × AreAllDrawn (gatherer_in before.0)

  -- ---- where a seat is before a step

  -- it has dealt some seats, and gathered nothing
  pub record IsDealing (me : Me S Known) : Type 0 where
    pub is : me ≡ (Gathers (opened_gatherer (gatherer_in me.0).shape (gatherer_in me.0).dealt), [])
    pub more : (gatherer_in me.0).dealt < (gatherer_in me.0).shape.drawers

  abbrev pub IsDrawing : Me S Known → Bool → Type 0
  IsDrawing me is_done = (me ≡ (Draws (drawer_in me.0), [])) × ((drawer_in me.0).is_done ≡ is_done)

  -- it has dealt all seats
  pub record IsGathering (me : Me S Known) : Type 0 where
    pub is : me ≡ (Gathers (gatherer_in me.0), [])
    pub all : (gatherer_in me.0).dealt ≡ (gatherer_in me.0).shape.drawers
