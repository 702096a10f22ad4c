-- What the steps at a table of nodes come to, under its rule: each kind of atomic step adds one event at most, of its
-- kind, and whatever else a seat does adds none.
use Rattle.std.specs.Prelude.{ℕ, ℤ, unsigned_abs, ◌≡◌, ◌<◌, ◌≤◌, ◌+◌, ◌%◌, ◌^◌, ◌∷◌, [], List, Some, false, slice_index}
use Rattle.atomic_table.specs.Table.{Act, Me, State, Valid, stepped}
use Rattle.atomic_table.specs.Table.Act.{keeps}
use Rattle.queue_core.specs.declared.TheConstants.{MOST_AMOUNT, MOST_POOL_POSTS, MOST_POSTS}
use Rattle.queue_core.specs.declared.item.Item.{Item}
use Rattle.queue_core.specs.declared.item.Item.TheVariants.{End, Post}
use Rattle.queue_core.specs.declared.reader.ReaderPoint.TheVariants as reads
use Rattle.queue_core.specs.declared.sender.SenderPoint.TheVariants as sends
use Rattle.queue_core.specs.declared.step.Step.{Step}
use Rattle.queue_core.specs.declared.step.Step.TheVariants as step
use Rattle.queue_core.specs.StoredWords.{amount_word, line_word, link_to, null}
use Rattle.node_table.specs.declared.seats.Holding.{Holding}
use Rattle.node_table.specs.declared.seats.Known.{Known}
use Rattle.node_table.specs.declared.seats.Known.TheVariants.{Dealt, Gone, Receives, Sends, Tallies}
use Rattle.node_table.specs.declared.seats.Posting.{Posting}
use Rattle.node_table.specs.declared.seats.ReceiverSeat.{ReceiverSeat}
use Rattle.node_table.specs.declared.seats.SenderSeat.{SenderSeat}
use Rattle.node_table.specs.declared.seats.Shape.{Shape}
use Rattle.node_table.specs.declared.seats.TallySeat.{TallySeat}
use Rattle.node_table.specs.Asks.{IsDealing, IsGathering, IsHandingOut, IsTakingBack, IsTakingIn, IsTallying}
use Rattle.node_table.specs.Layout.{amount_word_of, head_word, line_word_of, next_word, stub_of, turn_word}
use Rattle.node_table.specs.Rule.{JoinsStill, KeepsAs, KeepsNodes, KeepsOn, SplitsStill}
use Rattle.node_table.specs.Seats.{has_ended}
use Rattle.node_table.specs.Tells.{LoadsHead, LoadsNext, after_deal, after_hand, dealt, gathered, hand_of, node_of}
use Rattle.node_table.specs.Tells.{posting, taken_back, taken_in, tallied}
use Rattle.node_laws.specs.States.{IsAt}

-- ---- the atomic steps

-- A seat makes a step of a kind in a mailbox, as its view says that it may: on this word, which becomes that. A sender
-- begins a call, with what it is to fill in its slot, or goes on in one; a receiver goes on in a take, or uses what it
-- has at hand.
pub data Makes (shape : Shape) : Me Posting Known → (mailbox : ℕ) → Step → (word : ℕ) → (ℕ → ℕ) → Type 0 where
  load_turn : (v : SenderSeat) (slot b line : ℕ) (amount : ℤ) → v.caller.point ≡ sends.Rest → b < v.shape.mailboxes
      → has_ended v b ≡ false → v.caller.count < MOST_POOL_POSTS → line < MOST_POSTS
      → 0 < unsigned_abs amount → unsigned_abs amount ≤ MOST_AMOUNT
      → Makes shape (Sends v, (slot, posting b (Post line amount)) ∷ []) b (step.LoadTurn v.number line amount)
      (turn_word (node_of v b (Post line amount))) (λ n. n)
  end_line : (v : SenderSeat) (slot b : ℕ) → v.caller.point ≡ sends.Rest → b < v.shape.mailboxes
      → has_ended v b ≡ false
      → Makes shape (Sends v, (slot, posting b End) ∷ []) b (step.EndLine v.number)
      (line_word_of (node_of v b End)) (λ _. line_word End)
  store_line : (v : SenderSeat) (slots : List (ℕ × Posting)) (item : Item) → v.caller.mailbox < v.shape.mailboxes
      → v.caller.point ≡ sends.Line item
      → Makes shape (Sends v, slots) v.caller.mailbox (step.StoreLine v.number)
      (line_word_of (node_of v v.caller.mailbox item)) (λ _. line_word item)
  store_amount : (v : SenderSeat) (slots : List (ℕ × Posting)) (item : Item) → v.caller.mailbox < v.shape.mailboxes
      → v.caller.point ≡ sends.Amount item
      → Makes shape (Sends v, slots) v.caller.mailbox (step.StoreAmount v.number)
      (amount_word_of (node_of v v.caller.mailbox item)) (λ _. amount_word item)
  store_null : (v : SenderSeat) (slots : List (ℕ × Posting)) (item : Item) → v.caller.mailbox < v.shape.mailboxes
      → v.caller.point ≡ sends.Null item
      → Makes shape (Sends v, slots) v.caller.mailbox (step.StoreNull v.number)
      (next_word (node_of v v.caller.mailbox item)) (λ _. null)
  swap_head : (v : SenderSeat) (slots : List (ℕ × Posting)) (item : Item) → v.caller.mailbox < v.shape.mailboxes
      → v.caller.point ≡ sends.Swap item
      → Makes shape (Sends v, slots) v.caller.mailbox (step.SwapHead v.number)
      (head_word shape v.caller.mailbox) (λ _. link_to (node_of v v.caller.mailbox item))
  store_link : (v : SenderSeat) (slots : List (ℕ × Posting)) (item : Item) (before : ℕ)
      → v.caller.mailbox < v.shape.mailboxes → v.caller.point ≡ sends.Link item before
      → Makes shape (Sends v, slots) v.caller.mailbox (step.StoreLink v.number)
      (next_word before) (λ _. link_to (node_of v v.caller.mailbox item))
  load_next : (v : ReceiverSeat) → LoadsNext v.reader.point
      → Makes shape (Receives v, []) v.mailbox step.LoadNext (next_word v.reader.tail) (λ n. n)
  load_head : (v : ReceiverSeat) → LoadsHead v.reader.point
      → Makes shape (Receives v, []) v.mailbox step.LoadHead (head_word shape v.mailbox) (λ n. n)
  stub_null : (v : ReceiverSeat) → v.reader.point ≡ reads.Null
      → Makes shape (Receives v, []) v.mailbox step.StubNull (next_word (stub_of v.shape v.mailbox)) (λ _. null)
  stub_swap : (v : ReceiverSeat) → v.reader.point ≡ reads.Swap
      → Makes shape (Receives v, []) v.mailbox step.StubSwap
      (head_word shape v.mailbox) (λ _. link_to (stub_of v.shape v.mailbox))
  stub_link : (v : ReceiverSeat) (before : ℕ) → v.reader.point ≡ reads.Link before
      → Makes shape (Receives v, []) v.mailbox step.StubLink
      (next_word before) (λ _. link_to (stub_of v.shape v.mailbox))
  load_line : (v : ReceiverSeat) (h : Holding) → v.at_hand ≡ Some h → v.reader.point ≡ reads.Rest
      → Makes shape (Receives v, []) v.mailbox (step.LoadLine h.node) (line_word_of h.node) (λ n. n)
  load_amount : (v : ReceiverSeat) (h : Holding) → v.at_hand ≡ Some h → v.reader.point ≡ reads.Rest
      → Makes shape (Receives v, []) v.mailbox (step.LoadAmount h.node) (amount_word_of h.node) (λ n. n)
  give_back : (v : ReceiverSeat) (h : Holding) → v.at_hand ≡ Some h → v.reader.point ≡ reads.Rest
      → Makes shape (Receives v, []) v.mailbox (step.GiveBack h.node) (turn_word h.node) (λ n. (n + 1) % 2 ^ 64)

-- From any state under the rule such a step leads to one under it, by that step of the core in that mailbox: the events
-- are those that there were, and behind them the event of the step, or none.
abbrev pub EachStepAddsItsEvent : Type 0
EachStepAddsItsEvent = (shape : Shape) (s : State Posting Known) (kept : KeepsNodes shape s) (seat : ℕ)
    (me : Me Posting Known) (b : ℕ) (x : Step) (word : ℕ) (f : ℕ → ℕ)
    → Makes shape me b x word f → IsAt s.views seat me.0
    → (w : Known) × KeepsOn shape s kept b x (stepped s word (f (slice_index s.words word)) seat me.1 w keeps)

-- ---- what else a seat does

-- A seat begins, gives its slot back, or looks, by a load of the first word, which nobody writes.
pub data Looks : Me Posting Known → Type 0 where
  take_slot : (shape : Shape) (p : ℕ) → p < shape.senders → Looks (Dealt shape p, [])
  give_slot : (v : SenderSeat) (slot : ℕ) (laid : Posting) → Looks (Sends v, (slot, laid) ∷ [])
  begin_receiving : (shape : Shape) (turn : ℕ) → shape.senders ≤ turn → Looks (Dealt shape turn, [])
  look : (v : ReceiverSeat) → Looks (Receives v, [])
  tally_look : (v : TallySeat) → Looks (Tallies v, [])

abbrev pub NoLookIsAnEvent : Type 0
NoLookIsAnEvent = (shape : Shape) (s : State Posting Known) (kept : KeepsNodes shape s) (seat : ℕ)
    (me : Me Posting Known) → Looks me → IsAt s.views seat me.0
    → (w : Known) × (act : Act Posting) × Valid s.homes me.1 act
    × KeepsAs shape kept.events kept.pool kept.core (stepped s 0 (slice_index s.words 0) seat me.1 w act)

-- The tally deals a seat, and a receiver hands out what it has at hand.
abbrev pub NoSplitIsAnEvent : Type 0
NoSplitIsAnEvent = (shape : Shape) (seat : ℕ) (me : Me Posting Known)
    → (IsDealing me → SplitsStill shape seat me.0 (after_deal me.0) (dealt me.0))
    × (IsHandingOut me → SplitsStill shape seat me.0 (after_hand me.0) (hand_of me.0))

-- A receiver takes back what it handed out, or takes a sender in; the tally gathers a receiver, or takes a sender in.
abbrev pub NoJoinIsAnEvent : Type 0
NoJoinIsAnEvent = (shape : Shape) (seat other : ℕ) (me them : Me Posting Known)
    → (IsTakingBack me them → JoinsStill shape seat me.0 other them.0 (taken_back me.0 them.0) Gone)
    × (IsTakingIn me them → JoinsStill shape seat me.0 other them.0 (taken_in me.0 them.0) Gone)
    × (IsGathering me them → JoinsStill shape seat me.0 other them.0 (gathered me.0 them.0) Gone)
    × (IsTallying me them → JoinsStill shape seat me.0 other them.0 (tallied me.0 them.0) Gone)
