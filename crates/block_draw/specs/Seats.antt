-- What each seat at the counter of a draw knows, and what the counter and the other seats make of it.
use Rattle.std.specs.Prelude.{ℕ, ◌≡◌, ◌<◌, ◌≤◌, ◌+◌, ◌==◌, ◌∷◌, [], List, cond, length, true, ⊤}
use Rattle.std.specs.List.{sum_by}
use Rattle.block_draw.specs.declared.TheConstants.{MOST_BLOCKS, MOST_DRAWERS}
use Rattle.block_draw.specs.declared.seats.DrawerSeat.{DrawerSeat}
use Rattle.block_draw.specs.declared.seats.GathererSeat.{GathererSeat}
use Rattle.block_draw.specs.declared.seats.Known.{Known}
use Rattle.block_draw.specs.declared.seats.Known.TheVariants.{Draws, Gathers, Gone}
use Rattle.block_draw.specs.declared.seats.Shape.{Shape}
use Rattle.block_draw.specs.Drawn.{times_drawn}

pub record IsSmall (shape : Shape) : Type 0 where
  pub blocks : shape.blocks ≤ MOST_BLOCKS
  pub drawers : (0 < shape.drawers) × (shape.drawers ≤ MOST_DRAWERS)

-- what a drawer drew that was gathered; nothing, if it was not
abbrev pub drawn_by : List DrawerSeat → ℕ → List ℕ
drawn_by [] number = []
drawn_by (d ∷ ds) number = cond (number == d.number) d.drawn (drawn_by ds number)

-- how often a drawer that was not gathered drew a block
abbrev pub times_in : ℕ → Known → ℕ
times_in block (Draws d) = times_drawn block d.drawn
times_in block (Gathers g) = 0
times_in block Gone = 0

-- one for a drawer that was not gathered
abbrev pub draws_in : Known → ℕ
draws_in (Draws d) = 1
draws_in (Gathers g) = 0
draws_in Gone = 0

-- one for such a drawer that found no block left
abbrev pub done_in : Known → ℕ
done_in (Draws d) = cond d.is_done 1 0
done_in (Gathers g) = 0
done_in Gone = 0

-- The seat that gathers: the others are those of the drawers that were dealt one; each of them was gathered or was not; and who was gathered had found no block left.
pub record IsGatherer (shape : Shape) (counter : ℕ) (others : List Known) (g : GathererSeat) : Type 0 where
  pub shape_is : g.shape ≡ shape
  pub dealt : g.dealt ≡ length others
  pub within : length others ≤ shape.drawers
  pub counted : length g.gathered + sum_by draws_in others ≡ length others
  pub late : (number : ℕ) → length others ≤ number → drawn_by g.gathered number ≡ []
  pub done : 0 < length g.gathered → shape.blocks ≤ counter

-- The seat of a drawer, by its number. It was not gathered; and where it has found no block left, there is none.
pub record IsDrawer (shape : Shape) (counter : ℕ) (g : GathererSeat) (number : ℕ) (d : DrawerSeat) : Type 0 where
  pub shape_is : d.shape ≡ shape
  pub number_is : d.number ≡ number
  pub fresh : drawn_by g.gathered number ≡ []
  pub done : d.is_done ≡ true → shape.blocks ≤ counter

abbrev pub IsOther : Shape → (counter : ℕ) → GathererSeat → (number : ℕ) → Known → Type 0
IsOther shape counter g number (Draws d) = IsDrawer shape counter g number d
IsOther shape counter g number (Gathers other) = ⊥
IsOther shape counter g number Gone = ⊤
