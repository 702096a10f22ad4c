-- How the links of a mailbox show the abstract one. Nothing here says what is written in a node beside its link, how often a sender has posted, or how often a node was given back.
use Rattle.std.specs.Prelude.{ℕ, ◌≡◌, ◌<◌, ◌+◌, ◌-◌, Bool, false, true, length, ⊤}
use Rattle.queue_core.specs.declared.entry.Entry.{Entry}
use Rattle.queue_core.specs.declared.entry.Entry.TheVariants.{Of, Stub}
use Rattle.queue_core.specs.declared.item.Item.{Item}
use Rattle.queue_core.specs.declared.sender.SenderPoint.{SenderPoint}
use Rattle.queue_core.specs.declared.sender.SenderPoint.TheVariants as sends
use Rattle.queue_core.specs.declared.reader.ReaderPoint.{ReaderPoint}
use Rattle.queue_core.specs.declared.reader.ReaderPoint.TheVariants as reads
use Rattle.queue_core.specs.Mailbox.{Mailbox, is_among, item_at, left_entries}
use Rattle.queue_core.specs.Chain.{IsChain, entry_at}
use Rattle.queue_core.specs.StoredWords.{null}

-- What the links of one mailbox are: the node that each entry stands in, the word of the link of each node, the head,
-- and where its senders and its reader are. A mailbox among others over the same nodes hands in other functions: a
-- sender is at rest in all of them but that of its call.
pub record Links : Type 0 where
  pub node : Entry → ℕ
  pub next : ℕ → ℕ
  pub head : ℕ
  pub tail : ℕ
  pub points : ℕ → SenderPoint
  pub point : ReaderPoint

abbrev pub is_in_flight : Mailbox → Entry → Bool
is_in_flight m entry = is_among entry m.in_flight

-- the place of a sender's last item
abbrev pub last_of : Mailbox → ℕ → ℕ
last_of m p = length (m.items p) - 1

-- The entry was exchanged in right after one that is left and stands in the node.
abbrev pub ComesAfter : Links → Mailbox → Entry → (before : ℕ) → Type 0
ComesAfter k m entry before = (i : ℕ) × (i + 1 < length (left_entries m)) × (entry_at (left_entries m) (i + 1) ≡ entry) × (k.node (entry_at (left_entries m) i) ≡ before)

-- ---- a sender in its call

-- An item of the sender is in flight just where the sender is about to store its link, and the node that gets it is the one before it: StoreLink.
abbrev pub IsOwedBySender : Links → Mailbox → ℕ → SenderPoint → Type 0
IsOwedBySender k m p (sends.Link item before) =
    (0 < length (m.items p)) × (item_at m p (last_of m p) ≡ item) × (is_in_flight m (Of p (last_of m p)) ≡ true) × ComesAfter k m (Of p (last_of m p)) before
    × ((j : ℕ) → j < last_of m p → is_in_flight m (Of p j) ≡ false)
IsOwedBySender k m p _ = (j : ℕ) → is_in_flight m (Of p j) ≡ false

-- The sender has filled the item, which is not exchanged in.
abbrev pub IsFilled : Mailbox → ℕ → Item → Type 0
IsFilled m p item =
    (0 < length (m.items p)) × (item_at m p (last_of m p) ≡ item) × (is_among (Of p (last_of m p)) m.order ≡ false)
    × ((j : ℕ) → j < last_of m p → is_among (Of p j) m.order ≡ true)

-- all that it has filled is exchanged in
abbrev pub AreExchanged : Mailbox → ℕ → Type 0
AreExchanged m p = (j : ℕ) → j < length (m.items p) → is_among (Of p j) m.order ≡ true

-- The item at hand is the last that was filled, and the link of its node is null before it is exchanged in: SwapHead.
abbrev pub IsAtHand : Links → Mailbox → ℕ → SenderPoint → Type 0
IsAtHand k m p sends.Rest = AreExchanged m p
IsAtHand k m p (sends.Line item) = IsFilled m p item
IsAtHand k m p (sends.Amount item) = IsFilled m p item
IsAtHand k m p (sends.Null item) = IsFilled m p item
IsAtHand k m p (sends.Swap item) = IsFilled m p item × (k.next (k.node (Of p (last_of m p))) ≡ null)
IsAtHand k m p (sends.Link item before) = AreExchanged m p

pub record IsSending (k : Links) (m : Mailbox) (p : ℕ) (point : SenderPoint) : Type 0 where
  pub in_flight : IsOwedBySender k m p point
  pub at_hand : IsAtHand k m p point

-- ---- the reader in its take

-- The stub is in flight just where the reader is about to store its link: StubLink.
abbrev pub IsOwedByReader : Links → Mailbox → ReaderPoint → Type 0
IsOwedByReader k m (reads.Link before) = (is_in_flight m Stub ≡ true) × ComesAfter k m Stub before
IsOwedByReader k m _ = is_in_flight m Stub ≡ false

-- Where the tail is: LoadNext takes only a sender's node, LoadHead answers Empty only at the stub, and the stub is put in only where it is not left.
abbrev pub IsTailAt : Links → Mailbox → ReaderPoint → Type 0
IsTailAt k m reads.Rest = ⊤
IsTailAt k m reads.StubHead = k.tail ≡ k.node Stub
IsTailAt k m reads.Null = (¬ (k.tail ≡ k.node Stub)) × (is_among Stub (left_entries m) ≡ false)
IsTailAt k m reads.Swap = (¬ (k.tail ≡ k.node Stub)) × (is_among Stub (left_entries m) ≡ false) × (k.next (k.node Stub) ≡ null)
IsTailAt k m _ = ¬ (k.tail ≡ k.node Stub)

pub record IsTaking (k : Links) (m : Mailbox) : Type 0 where
  pub in_flight : IsOwedByReader k m k.point
  pub at_tail : IsTailAt k m k.point

-- What is left is a chain, and whoever is in a call owes just the links that are in flight.
pub record ShowLinks (k : Links) (m : Mailbox) : Type 0 where
  pub chain : IsChain k.node k.next (is_in_flight m) k.head k.tail (left_entries m)
  pub senders : (p : ℕ) → IsSending k m p (k.points p)
  pub reader : IsTaking k m
