-- The words of a node, and how a link and an item are written in them.
use Rattle.std.specs.Prelude.{ℕ, ℤ, pos, negsuc, neg_ℤ, ◌/◌, ◌≡◌, ◌==◌, ◌+◌, ◌*◌, ◌-◌, ◌%◌, if◌then◌else◌}
use Rattle.queue_core.specs.declared.item.Item.{Item}
use Rattle.queue_core.specs.declared.item.Item.TheVariants.{Post, End}
use Rattle.queue_core.specs.declared.words.Node.{Node}

abbrev pub null : ℕ
null = 0

abbrev pub link_to : ℕ → ℕ
link_to node = node + 1

abbrev pub line_word : Item → ℕ
line_word (Post line amount) = line + 1
line_word End = 0

-- the word of an amount: twice its size, and 1 more where it is negative
abbrev pub word_of_amount : ℤ → ℕ
word_of_amount (pos size) = 2 * size
word_of_amount (negsuc below) = 2 * (below + 1) + 1

-- the amount of a word
abbrev pub amount_of_word : ℕ → ℤ
amount_of_word word = if word % 2 == 0 then pos (word / 2) else neg_ℤ (pos (word / 2))

abbrev pub amount_word : Item → ℕ
amount_word (Post line amount) = word_of_amount amount
amount_word End = 0

-- the item of the two words: 0 as the line is the end mark
abbrev pub item_of : (line word : ℕ) → Item
item_of line word = if line == 0 then End else Post (line - 1) (amount_of_word word)

-- a node in which nothing was written
abbrev pub empty_node : Node
empty_node = record { next = null; turn = 0; line = 0; amount = 0 }

-- What is written of an amount, and of an item, reads back.
abbrev pub AmountsReadBack : Type 0
AmountsReadBack = (amount : ℤ) → amount_of_word (word_of_amount amount) ≡ amount

abbrev pub ItemsReadBack : Type 0
ItemsReadBack = (item : Item) → item_of (line_word item) (amount_word item) ≡ item
