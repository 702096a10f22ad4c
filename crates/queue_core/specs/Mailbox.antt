-- The abstract mailbox: what has been filled, in what order it was exchanged in, and what is in flight. It has no words, links or nodes.
use Rattle.std.specs.Prelude.{ℕ, ◌≡◌, ◌==◌, ◌&&◌, Bool, false, true, not, List, [], ◌∷◌, take, drop, slice_index_or}
use Rattle.std.specs.List.{enumerate_from, filter, filter_map, list_any}
use Rattle.std.specs.Prelude.{map, Option, Some, None}
use Rattle.queue_core.specs.declared.entry.Entry.{Entry}
use Rattle.queue_core.specs.declared.entry.Entry.TheVariants.{Of, Stub}
use Rattle.queue_core.specs.declared.item.Item.{Item}
use Rattle.queue_core.specs.declared.item.Item.TheVariants.{End}

abbrev pub is_same : Entry → Entry → Bool
is_same (Of p k) (Of q j) = (p == q) && (k == j)
is_same (Of p k) Stub = false
is_same Stub (Of q j) = false
is_same Stub Stub = true

abbrev pub is_among : Entry → List Entry → Bool
is_among entry entries = list_any (is_same entry) entries

pub record Mailbox : Type 0 where
  -- what each sender has filled, by its number
  pub items : ℕ → List Item
  -- what was exchanged in, in order
  pub order : List Entry
  -- what was exchanged in and is not linked yet
  pub in_flight : List Entry
  -- how many entries the reader has passed
  pub passed : ℕ
  -- the entries that the reader has given back
  pub given : List Entry

-- a mailbox in which nothing has happened: the stub alone is in it
abbrev pub opening : Mailbox
opening = record {
  items = λ p. [];
  order = Stub ∷ [];
  in_flight = [];
  passed = 0;
  given = [];
}

-- the item of a sender at a place
abbrev pub item_at : Mailbox → ℕ → ℕ → Item
item_at m p k = slice_index_or (m.items p) k End

-- whether an item was exchanged in and linked
abbrev pub is_linked : Mailbox → Entry → Bool
is_linked m entry = is_among entry m.order && not (is_among entry m.in_flight)

-- what a sender has sent: its items without one that is not exchanged or in flight
abbrev pub sent : Mailbox → ℕ → List Item
sent m p = map (λ placed. placed.1) (filter (λ placed. is_linked m (Of p placed.0)) (enumerate_from 0 (m.items p)))

-- the entries that the reader has passed, and those that it has not
abbrev pub passed_entries : Mailbox → List Entry
passed_entries m = take m.passed m.order

abbrev pub left_entries : Mailbox → List Entry
left_entries m = drop m.passed m.order

-- the item of an entry with its sender; the stub has none
abbrev pub received_at : Mailbox → Entry → Option (ℕ × Item)
received_at m (Of p k) = Some (p, item_at m p k)
received_at m Stub = None

-- what the reader has received, in order
abbrev pub got : Mailbox → List (ℕ × Item)
got m = filter_map (received_at m) (passed_entries m)

-- what it has received of one sender
abbrev pub got_of : Mailbox → ℕ → List Item
got_of m p = map (λ pair. pair.1) (filter (λ pair. pair.0 == p) (got m))

-- an entry is held where it is passed and not given back
pub record IsHeld (m : Mailbox) (sender place : ℕ) : Type 0 where
  pub passed : is_among (Of sender place) (passed_entries m) ≡ true
  pub kept : is_among (Of sender place) m.given ≡ false
