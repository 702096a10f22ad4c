-- What the reader has received of each sender, whatever the order of events.
use Rattle.std.specs.Prelude.{ℕ, ◌≡◌, ◌<◌, ◌+◌, ◌++◌, List, length, slice_index_or, true}
use Rattle.queue_core.specs.declared.item.Item.{Item}
use Rattle.queue_core.specs.declared.item.Item.TheVariants.{End}
use Rattle.queue_core.specs.Items.{is_end}
use Rattle.queue_core.specs.Mailbox.{IsHeld, Mailbox, got_of, sent}
use Rattle.queue_core.specs.Events.{Event, Leads, slot_at}

-- the list begins with the other
abbrev pub IsPrefix : List Item → List Item → Type 0
IsPrefix part whole = (rest : List Item) × (whole ≡ part ++ rest)

pub record IsReceivedInOrder (ring : ℕ) (m : Mailbox) : Type 0 where
  -- what was received of a sender is the first part of what it sent, in order and once
  pub in_order : (p : ℕ) → IsPrefix (got_of m p) (sent m p)
  -- an end mark is sent once, and last
  pub end_is_last : (p k : ℕ) → k < length (sent m p) → is_end (slice_index_or (sent m p) k End) ≡ true → k + 1 ≡ length (sent m p)
  -- so where the end mark is among what was received of a sender, that is all of what it sent
  pub all_with_end : (p k : ℕ) → k < length (got_of m p) → is_end (slice_index_or (got_of m p) k End) ≡ true → got_of m p ≡ sent m p
  -- no item that the reader holds shares its slot with one that was filled later
  pub held_alone : (p k j : ℕ) → IsHeld m p k → k < j → j < length (m.items p) → ¬ (slot_at ring m p j ≡ slot_at ring m p k)

-- so it is after every list of events
abbrev pub AllAreReceivedInOrder : Type 0
AllAreReceivedInOrder = (ring : ℕ) → 0 < ring → (events : List Event) → (m : Mailbox) → Leads ring events m → IsReceivedInOrder ring m
