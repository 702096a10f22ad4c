-- Where the nodes and the words of a table are.
use Rattle.std.specs.Prelude.{ℕ, ◌≡◌, ◌<◌, ◌≤◌, ◌+◌, ◌*◌}
use Rattle.queue_core.specs.declared.TheConstants.{MOST_MAILBOXES, MOST_NODES, MOST_SENDERS}
use Rattle.node_table.specs.declared.seats.Shape.{Shape}

-- how large a table may be
pub record IsSmall (shape : Shape) : Type 0 where
  pub senders : (0 < shape.senders) × (shape.senders ≤ MOST_SENDERS)
  pub mailboxes : (0 < shape.mailboxes) × (shape.mailboxes ≤ MOST_MAILBOXES)
  pub ring : (0 < shape.ring) × (shape.ring ≤ MOST_NODES)

-- ---- the nodes: those of each sender, and then the stub of each mailbox

-- a sender has its ring nodes, and one for its end mark in each mailbox
abbrev pub first_of : Shape → (p : ℕ) → ℕ
first_of shape p = p * (shape.ring + shape.mailboxes)

abbrev pub stub_of : Shape → (b : ℕ) → ℕ
stub_of shape b = first_of shape shape.senders + b

abbrev pub nodes_in : Shape → ℕ
nodes_in shape = stub_of shape shape.mailboxes

-- ---- the words: each node has eight, a line of memory, of which it uses four; the head of a mailbox stands
-- with its stub, in the fifth. Before the first node there are six, and no step writes the first of all. (Large
-- memory that the C library gives begins 16 bytes into a line, so word 6 begins one.)

abbrev pub next_word : (n : ℕ) → ℕ
next_word n = 8 * n + 6

abbrev pub turn_word : (n : ℕ) → ℕ
turn_word n = 8 * n + 7

abbrev pub line_word_of : (n : ℕ) → ℕ
line_word_of n = 8 * n + 8

abbrev pub amount_word_of : (n : ℕ) → ℕ
amount_word_of n = 8 * n + 9

abbrev pub head_word : Shape → (b : ℕ) → ℕ
head_word shape b = 8 * stub_of shape b + 10

abbrev pub words_in : Shape → ℕ
words_in shape = 8 * nodes_in shape + 6

-- ---- the slots: every fourth is a sender's, from the third on; so no two senders write to one line of memory,
-- nor does a sender write to one that holds anything else

abbrev pub slot_of : (p : ℕ) → ℕ
slot_of p = 4 * p + 2

abbrev pub slots_in : Shape → ℕ
slots_in shape = 4 * shape.senders + 2

-- ---- a table of a shape, by its key and how many words it has

pub record IsTableOf (shape key : Shape) (words : ℕ) : Type 0 where
  pub key_is : key ≡ shape
  pub wide : words ≡ words_in shape
  pub small : IsSmall shape
