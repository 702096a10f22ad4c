-- How one mailbox of a table shows the abstract one, whatever else the table has: its links, the words of its items,
-- its end marks and what its reader holds. It says nothing of how often a sender has posted, or how often a node was
-- given back: these may be common to many mailboxes.
use Rattle.std.specs.Prelude.{ℕ, ◌≡◌, ◌<◌, ◌≤◌, ◌↔◌, Bool, true, false, [], length, slice_index_or, ⊤}
use Rattle.queue_core.specs.declared.entry.Entry.{Entry}
use Rattle.queue_core.specs.declared.entry.Entry.TheVariants.{Of, Stub}
use Rattle.queue_core.specs.declared.item.Item.{Item}
use Rattle.queue_core.specs.declared.item.Item.TheVariants.{End}
use Rattle.queue_core.specs.declared.sender.SenderPoint.{SenderPoint}
use Rattle.queue_core.specs.declared.sender.SenderPoint.TheVariants as sends
use Rattle.queue_core.specs.Items.{is_end}
use Rattle.queue_core.specs.Mailbox.{IsHeld, Mailbox, is_among, item_at, sent}
use Rattle.queue_core.specs.StoredWords.{amount_word, line_word}
use Rattle.queue_core.specs.Links.{Links, ShowLinks, last_of}

-- what a mailbox reads of its table
pub record Box : Type 0 where
  pub links : Links
  -- the words of each node
  pub line : ℕ → ℕ
  pub amount : ℕ → ℕ
  -- how many senders there are, and which have ended in it
  pub senders : ℕ
  pub ended : ℕ → Bool
  -- which nodes its reader holds
  pub held : ℕ → Bool

abbrev pub HoldsItem : Box → (node : ℕ) → Item → Type 0
HoldsItem x node item = (x.line node ≡ line_word item) × (x.amount node ≡ amount_word item)

-- What a sender has stored so far is its last item's: each store, and SwapHead.
abbrev pub HasStored : Box → (node : ℕ) → SenderPoint → Type 0
HasStored x node (sends.Amount item) = x.line node ≡ line_word item
HasStored x node (sends.Null item) = HoldsItem x node item
HasStored x node (sends.Swap item) = HoldsItem x node item
HasStored x node _ = ⊤

pub record ShowsBox (x : Box) (m : Mailbox) : Type 0 where
  pub links : ShowLinks x.links m
  -- LoadTurn and EndLine are due only before the end mark
  pub ended : (p : ℕ) → p < x.senders → (x.ended p ≡ true) ↔ ((k : ℕ) × (k < length (sent m p)) × (is_end (slice_index_or (sent m p) k End) ≡ true))
  -- nobody else fills anything
  pub no_others : (p : ℕ) → x.senders ≤ p → m.items p ≡ []
  -- LoadLine, LoadAmount and GiveBack are due for what is held, and for nothing else
  pub held : (n : ℕ) → (x.held n ≡ true) ↔ ((p k : ℕ) × IsHeld m p k × (x.links.node (Of p k) ≡ n))
  pub stored : (p : ℕ) → p < x.senders → HasStored x (x.links.node (Of p (last_of m p))) (x.links.points p)
  -- LoadLine and LoadAmount: a node keeps its item until it is given back
  pub kept : (p k : ℕ) → is_among (Of p k) m.order ≡ true → is_among (Of p k) m.given ≡ false → HoldsItem x (x.links.node (Of p k)) (item_at m p k)

-- An entry stands in its node from when it is filled until it is given back; the stub always does.
abbrev pub IsStanding : Mailbox → Entry → Type 0
IsStanding m (Of p k) = (k < length (m.items p)) × (is_among (Of p k) m.given ≡ false)
IsStanding m Stub = ⊤
