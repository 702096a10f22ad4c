-- A chain of nodes from a tail to a head, whatever node each entry stands in.
use Rattle.std.specs.Prelude.{ℕ, ◌≡◌, ◌<◌, ◌+◌, ◌-◌, Bool, false, List, AllPairs, length, slice_index_or, if◌then◌else◌}
use Rattle.queue_core.specs.declared.entry.Entry.{Entry}
use Rattle.queue_core.specs.declared.entry.Entry.TheVariants.{Stub}
use Rattle.queue_core.specs.StoredWords.{link_to, null}

-- the entry at a place
abbrev pub entry_at : List Entry → ℕ → Entry
entry_at entries i = slice_index_or entries i Stub

-- the word of the link to an entry: null before it is stored
abbrev pub link_word : (node : Entry → ℕ) → (flies : Entry → Bool) → Entry → ℕ
link_word node flies entry = if flies entry then null else link_to (node entry)

-- Each entry stands in a node, each node has the word of a link to the next, and the links of some entries are in flight.
pub record IsChain (node : Entry → ℕ) (next : ℕ → ℕ) (flies : Entry → Bool) (head tail : ℕ) (left : List Entry) : Type 0 where
  -- LoadNext finds a node at the tail, and SwapHead and StubSwap find one at the head
  pub some : 0 < length left
  -- two entries stand in different nodes, so the stub is left once at most: the stores of a link hit no other node's
  pub apart : AllPairs (λ entry later. ¬ (node entry ≡ node later)) left
  -- LoadNext passes the first only where it is linked
  pub first_linked : flies (entry_at left 0) ≡ false
  -- LoadNext and LoadHead look at the first
  pub tail_is : tail ≡ node (entry_at left 0)
  -- SwapHead and StubSwap put an entry after the last, and LoadHead finds whether the first is the last
  pub head_is : head ≡ link_to (node (entry_at left (length left - 1)))
  -- LoadNext finds the next entry where it is linked, and null before that
  pub links : (i : ℕ) → i + 1 < length left → next (node (entry_at left i)) ≡ link_word node flies (entry_at left (i + 1))
  -- LoadNext finds null at the last
  pub end : next (node (entry_at left (length left - 1))) ≡ null
