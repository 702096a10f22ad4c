-- What the seats of a table of nodes know, in any state under its rule: between any two steps of running threads.
use Rattle.std.specs.Prelude.{ℕ, ◌≡◌, ◌<◌, ◌+◌, ◌%◌, ◌⊎◌, Contains, List, Some, false, length, slice_index}
use Rattle.std.specs.Prelude.{slice_index_or, true}
use mathlib.Core.Option.{some}
use lib.ListN.{get_elem?}
use Rattle.atomic_table.specs.Table.{State}
use Rattle.queue_core.specs.declared.entry.Entry.TheVariants.{Of}
use Rattle.queue_core.specs.declared.item.Item.TheVariants.{End}
use Rattle.queue_core.specs.Items.{is_end}
use Rattle.queue_core.specs.Mailbox.{is_among}
use Rattle.queue_core.specs.Pool.{post_at}
use Rattle.queue_core.specs.PoolShows.{node_in}
use Rattle.queue_core.specs.Received.{IsPrefix}
use Rattle.queue_core.specs.StoredWords.{amount_word, line_word}
use Rattle.node_table.specs.declared.seats.Holding.{Holding}
use Rattle.node_table.specs.declared.seats.Known.{Known}
use Rattle.node_table.specs.declared.seats.Known.TheVariants.{Holds, Receives, Sends, Tallies}
use Rattle.node_table.specs.declared.seats.Posting.{Posting}
use Rattle.node_table.specs.declared.seats.ReceiverSeat.{ReceiverSeat}
use Rattle.node_table.specs.declared.seats.SenderSeat.{SenderSeat}
use Rattle.node_table.specs.declared.seats.Shape.{Shape}
use Rattle.node_table.specs.declared.seats.TallySeat.{TallySeat}
use Rattle.node_table.specs.Layout.{amount_word_of, line_word_of}
use Rattle.node_table.specs.Rule.{KeepsNodes}
use Rattle.node_table.specs.Seats.{Has, got_in, items_in}
use Rattle.node_table.specs.Seats.Owned.{Node}

-- a seat has this view
abbrev pub IsAt : List Known → (seat : ℕ) → Known → Type 0
IsAt views seat view = get_elem? views seat ≡ some view

-- a receiver: it has a seat, or the tally has gathered it
abbrev pub Receiving : List Known → ReceiverSeat → Type 0
Receiving views r =
    ((seat : ℕ) × IsAt views seat (Receives r))
    ⊎ ((seat : ℕ) × (tally : TallySeat) × IsAt views seat (Tallies tally) × Contains tally.gathered r)

-- a sender: it has a seat, or a receiver or the tally has taken it in
abbrev pub Sending : List Known → SenderSeat → Type 0
Sending views a =
    ((seat : ℕ) × IsAt views seat (Sends a))
    ⊎ ((seat : ℕ) × (r : ReceiverSeat) × IsAt views seat (Receives r) × Contains r.taken_in a)
    ⊎ ((seat : ℕ) × (tally : TallySeat) × IsAt views seat (Tallies tally) × Contains tally.taken_in a)

-- an item that was taken and not given back: it has a seat, or a receiver has it at hand
abbrev pub IsHeldIn : List Known → Holding → Type 0
IsHeldIn views h =
    ((seat : ℕ) × IsAt views seat (Holds h))
    ⊎ ((seat : ℕ) × (r : ReceiverSeat) × IsAt views seat (Receives r) × (r.at_hand ≡ Some h))

-- What was received of the sender is the first part of what it filled for the mailbox, and an end mark is the last of
-- that.
pub record BeginsWhatWasFilled (r : ReceiverSeat) (a : SenderSeat) : Type 0 where
  pub begins : IsPrefix (got_in r.got a.number) (items_in r.mailbox a.filled)
  pub end_is_last : (k : ℕ) → k < length (items_in r.mailbox a.filled)
      → is_end (slice_index_or (items_in r.mailbox a.filled) k End) ≡ true
      → k + 1 ≡ length (items_in r.mailbox a.filled)

abbrev pub ReceivedBeginsFilled : Type 0
ReceivedBeginsFilled = (shape : Shape) (s : State Posting Known) → KeepsNodes shape s
    → (r : ReceiverSeat) (a : SenderSeat) → Receiving s.views r → Sending s.views a → BeginsWhatWasFilled r a

-- The words of the node are those of the item. Of all that was filled, in whichever mailbox, and was not given back,
-- the item alone stands in the node; and no later post of its sender goes into it, in whichever mailbox.
pub record StandsAlone (shape : Shape) (s : State Posting Known) (kept : KeepsNodes shape s) (h : Holding)
    : Type 0 where
  pub line : slice_index s.words (line_word_of h.node) ≡ line_word h.item
  pub amount : slice_index s.words (amount_word_of h.node) ≡ amount_word h.item
  pub alone : (b p k : ℕ) → b < shape.mailboxes → k < length ((kept.pool.boxes b).items p)
      → is_among (Of p k) (kept.pool.boxes b).given ≡ false → node_in kept.core kept.pool b (Of p k) ≡ h.node
      → (b ≡ h.mailbox) × (Of p k ≡ Of h.sender h.place)
  pub no_later : (j i : ℕ) → post_at kept.pool h.sender j ≡ (h.mailbox, h.place) → j < i
      → i < length (kept.pool.posts h.sender) → ¬ (i % shape.ring ≡ j % shape.ring)

abbrev pub HeldNodesStand : Type 0
HeldNodesStand = (shape : Shape) (s : State Posting Known) (kept : KeepsNodes shape s) (h : Holding)
    → IsHeldIn s.views h → StandsAlone shape s kept h

-- two seats do not hold one node
abbrev pub HeldNodesDiffer : Type 0
HeldNodesDiffer = (shape : Shape) (s : State Posting Known) → KeepsNodes shape s
    → (seat other : ℕ) (v w : Known) (n : ℕ) → IsAt s.views seat v → IsAt s.views other w → ¬ (seat ≡ other) → Has v (Node n) → ¬ Has w (Node n)
