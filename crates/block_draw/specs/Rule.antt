-- The rule of the counter of a draw: the blocks that were drawn so far are those below the counter, each drawn by one drawer, once.
use Rattle.std.specs.Prelude.{ℕ, ◌≡◌, ◌≤◌, ◌+◌, ◌∷◌, [], List, cond, length, min, nat_lt}
use Rattle.std.specs.List.{sum_by}
use mathlib.Core.Option.{some}
use lib.ListN.{get_elem?}
use Rattle.atomic_table.specs.Table.{State}
use Rattle.block_draw.specs.declared.seats.GathererSeat.{GathererSeat}
use Rattle.block_draw.specs.declared.seats.Known.{Known}
use Rattle.block_draw.specs.declared.seats.Known.TheVariants.{Gathers}
use Rattle.block_draw.specs.declared.seats.Shape.{Shape}
use Rattle.block_draw.specs.Drawn.{sum_below, times_drawn}
use Rattle.block_draw.specs.Seats.{IsGatherer, IsOther, IsSmall, done_in, drawn_by, times_in}

-- how often a block was drawn: by the drawers that were gathered, and by the others
abbrev pub times_so_far : Shape → GathererSeat → List Known → ℕ → ℕ
times_so_far shape g others block = sum_below shape.drawers (λ drawer. times_drawn block (drawn_by g.gathered drawer)) + sum_by (times_in block) others

module _ {S : Type 0} where
  pub record KeepsDraw (shape : Shape) (s : State S Known) : Type 0 where
    pub counter : ℕ
    pub gatherer : GathererSeat
    pub others : List Known
    pub small : IsSmall shape
    pub words : s.words ≡ counter ∷ []
    pub views : s.views ≡ Gathers gatherer ∷ others
    pub gathers : IsGatherer shape counter others gatherer
    pub draws : (number : ℕ) (v : Known) → get_elem? others number ≡ some v → IsOther shape counter gatherer number v
    pub once : (block : ℕ) → times_so_far shape gatherer others block ≡ cond (nat_lt block (min counter shape.blocks)) 1 0
    -- the counter is past the last block by as many at most as have found none left
    pub past : counter ≤ shape.blocks + (length gatherer.gathered + sum_by done_in others)

-- the first seat of a counter that was just made, when so many drawers have a seat
abbrev pub opened_gatherer : Shape → (dealt : ℕ) → GathererSeat
opened_gatherer shape dealt = record { shape = shape; dealt = dealt; gathered = [] }

abbrev pub draw_opened : Shape → Known
draw_opened shape = Gathers (opened_gatherer shape 0)
