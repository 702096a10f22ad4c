-- The rule of a table of nodes: some pairs of mailbox and event lead to a pool that a core shows, and the words and
-- what each seat knows are that core's. A step adds one pair at most: the event of its kind, in its mailbox
-- (`KeepsOn`).
use Rattle.std.specs.Prelude.{ℕ, ◌≡◌, ◌<◌, ◌++◌, ◌∷◌, All, List, [], None, Option, Some, length, slice_index, slice_set}
use mathlib.Core.Option.{some}
use lib.ListN.{get_elem?}
use Rattle.atomic_table.specs.Table.{State}
use Rattle.queue_core.specs.declared.step.Step.{Step}
use Rattle.queue_core.specs.Events.{Event}
use Rattle.queue_core.specs.Pool.{Pool, PoolLeads, after_in}
use Rattle.queue_core.specs.Pooled.{IsPooled, Pooled, head_in, node_at}
use Rattle.queue_core.specs.PoolLaws.{event_in}
use Rattle.queue_core.specs.PoolShows.{ShowsPool}
use Rattle.queue_core.specs.PoolSteps.{stepped_in}
use Rattle.node_table.specs.declared.seats.Known.{Known}
use Rattle.node_table.specs.declared.seats.Known.TheVariants.{Tallies}
use Rattle.node_table.specs.declared.seats.Posting.{Posting}
use Rattle.node_table.specs.declared.seats.Shape.{Shape}
use Rattle.node_table.specs.declared.seats.TallySeat.{TallySeat}
use Rattle.node_table.specs.Layout.{amount_word_of, head_word, line_word_of, next_word, turn_word}
use Rattle.queue_core.specs.Items.{IsInRange}
use Rattle.node_table.specs.Seats.{Owned, Has, HasShape, IsSeat}

-- the words are those of the core
pub record AreWords (shape : Shape) (c : Pooled) (words : List ℕ) : Type 0 where
  pub wide : length words ≡ next_word (length c.nodes)
  pub head : (b : ℕ) → b < length c.heads → slice_index words (head_word shape b) ≡ head_in c b
  pub next : (n : ℕ) → n < length c.nodes → slice_index words (next_word n) ≡ (node_at c n).next
  pub turn : (n : ℕ) → n < length c.nodes → slice_index words (turn_word n) ≡ (node_at c n).turn
  pub line : (n : ℕ) → n < length c.nodes → slice_index words (line_word_of n) ≡ (node_at c n).line
  pub amount : (n : ℕ) → n < length c.nodes → slice_index words (amount_word_of n) ≡ (node_at c n).amount

-- A core shows what events lead to, and all items are within the limits.
pub record IsNodeMail (shape : Shape) (events : List (ℕ × Event)) (q : Pool) (c : Pooled) : Type 0 where
  pub fits : HasShape shape c
  pub pooled : IsPooled c
  pub leads : PoolLeads c.ring events q
  pub shows : ShowsPool c q
  pub ranged : (b p : ℕ) → All IsInRange ((q.boxes b).items p)

-- no two seats have the same part, or the holding of one node
abbrev pub AreApart : List Known → Type 0
AreApart views = (i j : ℕ) (v w : Known) (thing : Owned) → get_elem? views i ≡ some v → get_elem? views j ≡ some w → ¬ (i ≡ j) → Has v thing → ¬ Has w thing

pub record KeepsNodes (shape : Shape) (s : State Posting Known) : Type 0 where
  pub events : List (ℕ × Event)
  pub pool : Pool
  pub core : Pooled
  pub mail : IsNodeMail shape events pool core
  pub words : AreWords shape core s.words
  pub seats : (seat : ℕ) (v : Known) → get_elem? s.views seat ≡ some v → IsSeat core pool s.homes v
  pub apart : AreApart s.views

-- ---- what a step leaves under the rule

-- the events, and behind them that of a step in a mailbox, if it has one
abbrev pub events_after : (event : Option Event) (b : ℕ) → List (ℕ × Event) → List (ℕ × Event)
events_after None b events = events
events_after (Some event) b events = events ++ (b, event) ∷ []

-- the pool after it
abbrev pub later_in : (event : Option Event) (b : ℕ) → Pool → Pool
later_in None b q = q
later_in (Some event) b q = after_in b event q

-- A state is under the rule by these events, this pool and this core.
pub record KeepsAs (shape : Shape) (events : List (ℕ × Event)) (q : Pool) (c : Pooled) (s : State Posting Known)
    : Type 0 where
  pub rule : KeepsNodes shape s
  pub events_are : rule.events ≡ events
  pub pool_is : rule.pool ≡ q
  pub core_is : rule.core ≡ c

-- A step of the core in a mailbox leads from one state to another: the step was due, and the core is the one that it
-- leaves. The events are those that there were, and behind them the one event of the step in that mailbox, or none.
abbrev pub KeepsOn : (shape : Shape) (s : State Posting Known) → KeepsNodes shape s → (b : ℕ) → Step
    → State Posting Known → Type 0
KeepsOn shape s kept b x t = (n : Pooled) × (stepped_in kept.core b x ≡ Some n)
    × KeepsAs shape (events_after (event_in kept.core kept.pool b x) b kept.events)
    (later_in (event_in kept.core kept.pool b x) b kept.pool) n t

-- A seat is cut in two, or takes in another's view, without a step of the core: nothing happens in any mailbox.
abbrev pub SplitsStill : Shape → (seat : ℕ) → (known left right : Known) → Type 0
SplitsStill shape seat known left right = (s : State Posting Known) (kept : KeepsNodes shape s)
    → get_elem? s.views seat ≡ some known
    → KeepsAs shape kept.events kept.pool kept.core
    record { words = s.words; homes = s.homes; views = slice_set s.views seat left ++ right ∷ [] }

abbrev pub JoinsStill : Shape → (seat : ℕ) → Known → (other : ℕ) → (was both spent : Known) → Type 0
JoinsStill shape seat known other was both spent = (s : State Posting Known) (kept : KeepsNodes shape s)
    → get_elem? s.views seat ≡ some known → ¬ (other ≡ seat)
    → get_elem? (slice_set s.views seat both) other ≡ some was
    → KeepsAs shape kept.events kept.pool kept.core
    record { words = s.words; homes = s.homes; views = slice_set (slice_set s.views seat both) other spent }

-- a tally that has dealt so many seats
abbrev pub opened_tally : Shape → (dealt : ℕ) → TallySeat
opened_tally shape dealt = record { shape = shape; dealt = dealt; gathered = []; taken_in = [] }

-- what the first seat knows when the table is made: it is the tally's
abbrev pub nodes_opened : Shape → Known
nodes_opened shape = Tallies (opened_tally shape 0)
