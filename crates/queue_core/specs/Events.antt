-- What may happen in the abstract mailbox, and what comes of it.
use Rattle.std.specs.Prelude.{ℕ, ◌≡◌, ◌==◌, ◌<◌, ◌+◌, ◌-◌, ◌%◌, ◌++◌, Bool, false, true, not, List, [], ◌∷◌, length, slice_index_or, if◌then◌else◌}
use Rattle.std.specs.List.{filter}
use Rattle.queue_core.specs.declared.entry.Entry.{Entry}
use Rattle.queue_core.specs.declared.entry.Entry.TheVariants.{Of, Stub}
use Rattle.queue_core.specs.declared.item.Item.{Item}
use Rattle.queue_core.specs.declared.item.Item.TheVariants.{Post, End}
use Rattle.queue_core.specs.Items.{is_end}
use Rattle.queue_core.specs.Mailbox.{IsHeld, Mailbox, is_among, is_same, item_at, left_entries, opening, sent}

pub data Event : Type 0 where
  -- a sender fills an item
  Fill : (sender : ℕ) → Item → Event
  -- its item is exchanged in
  Exchange : (sender : ℕ) → Event
  -- its item is linked
  Link : (sender : ℕ) → Event
  -- the reader passes an entry
  Pass : Event
  -- it gives back what it held
  GiveBack : (sender place : ℕ) → Event
  -- the stub is exchanged in
  StubIn : Event
  -- the stub is linked
  StubLink : Event

-- A sender with so many ring slots uses them in turn for its posts, and one more for its end mark.
abbrev pub slot_of : (ring : ℕ) → Item → (place : ℕ) → ℕ
slot_of ring (Post line amount) place = place % ring
slot_of ring End place = ring

abbrev pub slot_at : (ring : ℕ) → Mailbox → (sender place : ℕ) → ℕ
slot_at ring m p k = slot_of ring (item_at m p k) k

-- An item may be filled where all items of the sender are sent, none of them is the end mark, and the one that last used its slot is given back.
pub record MayFill (ring : ℕ) (m : Mailbox) (p : ℕ) (item : Item) : Type 0 where
  pub all_sent : sent m p ≡ m.items p
  pub not_ended : (k : ℕ) → k < length (m.items p) → is_end (item_at m p k) ≡ false
  pub slot_free : (k : ℕ) → k < length (m.items p) → slot_at ring m p k ≡ slot_of ring item (length (m.items p))
      → ((j : ℕ) → k < j → j < length (m.items p) → ¬ (slot_at ring m p j ≡ slot_at ring m p k))
      → is_among (Of p k) m.given ≡ true

-- The last item may be exchanged in where it is not yet.
pub record MayExchange (m : Mailbox) (p : ℕ) : Type 0 where
  pub some : 0 < length (m.items p)
  pub new : is_among (Of p (length (m.items p) - 1)) m.order ≡ false

-- An entry of the sender is in flight.
abbrev pub MayLink : Mailbox → ℕ → Type 0
MayLink m p = (k : ℕ) × (is_among (Of p k) m.in_flight ≡ true)

-- The first entry that is left may be passed where it has a successor and neither is in flight.
pub record MayPass (m : Mailbox) : Type 0 where
  pub successor : 1 < length (left_entries m)
  pub first_linked : is_among (slice_index_or (left_entries m) 0 Stub) m.in_flight ≡ false
  pub next_linked : is_among (slice_index_or (left_entries m) 1 Stub) m.in_flight ≡ false

-- which events may happen
abbrev pub May : (ring : ℕ) → Mailbox → Event → Type 0
May ring m (Fill p item) = MayFill ring m p item
May ring m (Exchange p) = MayExchange m p
May ring m (Link p) = MayLink m p
May ring m Pass = MayPass m
May ring m (GiveBack p k) = IsHeld m p k
May ring m StubIn = is_among Stub (left_entries m) ≡ false
May ring m StubLink = is_among Stub m.in_flight ≡ true

-- whether an entry is one of a sender's
abbrev pub is_of : ℕ → Entry → Bool
is_of p (Of q k) = q == p
is_of p Stub = false

-- an entry more that is exchanged in, and in flight
abbrev pub exchanged : Entry → Mailbox → Mailbox
exchanged entry m = record m { order = m.order ++ entry ∷ []; in_flight = m.in_flight ++ entry ∷ [] }

-- what comes of an event
abbrev pub after : Event → Mailbox → Mailbox
after (Fill p item) m = record m { items = λ q. if q == p then m.items q ++ item ∷ [] else m.items q }
after (Exchange p) m = exchanged (Of p (length (m.items p) - 1)) m
after (Link p) m = record m { in_flight = filter (λ entry. not (is_of p entry)) m.in_flight }
after Pass m = record m { passed = m.passed + 1 }
after (GiveBack p k) m = record m { given = m.given ++ Of p k ∷ [] }
after StubIn m = exchanged Stub m
after StubLink m = record m { in_flight = filter (λ entry. not (is_same Stub entry)) m.in_flight }

-- The mailboxes that a list of events leads to, each event where it may happen.
pub data Leads (ring : ℕ) : List Event → Mailbox → Type 0 where
  none : Leads ring [] opening
  more : (events : List Event) (m : Mailbox) (event : Event) → Leads ring events m → May ring m event → Leads ring (events ++ event ∷ []) (after event m)
