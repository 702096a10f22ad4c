-- The table of steps of a pool's core: where each is due, in the mailbox that is named, and what it leaves. A step that
-- is not due has no outcome, and a sender in a call in another mailbox makes none in this one.
use Rattle.std.specs.Prelude.{ℕ, ℤ, unsigned_abs, ◌≡◌, ◌++◌, ◌∷◌, [], List, length, ◌==◌, ◌+◌, ◌-◌, ◌/◌, ◌&&◌, ◌^◌, ◌%◌, Bool}
use Rattle.std.specs.Prelude.{true, false, not, nat_lt, nat_le, Option, None, Some, option_map, if◌then◌else◌}
use Rattle.queue_core.specs.declared.TheConstants.{MOST_AMOUNT, MOST_POSTS}
use Rattle.queue_core.specs.declared.item.Item.{Item}
use Rattle.queue_core.specs.declared.item.Item.TheVariants.{Post, End}
use Rattle.queue_core.specs.declared.item.Posted.TheVariants.{Sent, Full}
use Rattle.queue_core.specs.declared.item.Took.{Took}
use Rattle.queue_core.specs.declared.item.Took.TheVariants as took
use Rattle.queue_core.specs.declared.sender.SenderPoint.{SenderPoint}
use Rattle.queue_core.specs.declared.sender.SenderPoint.TheVariants as sends
use Rattle.queue_core.specs.declared.sender.Caller.{Caller}
use Rattle.queue_core.specs.declared.reader.ReaderPoint.{ReaderPoint}
use Rattle.queue_core.specs.declared.reader.ReaderPoint.TheVariants as reads
use Rattle.queue_core.specs.declared.step.Step.{Step}
use Rattle.queue_core.specs.declared.step.Step.TheVariants as step
use Rattle.queue_core.specs.declared.step.PoolStep.{PoolStep}
use Rattle.queue_core.specs.Items.{is_end}
use Rattle.queue_core.specs.StoredWords.{amount_word, line_word, link_to, null}
use Rattle.queue_core.specs.Pooled.{Pooled, has_ended_in, head_in, is_held_in, node_at, node_of, point_in, reader_in, sender_at, stub_in}
use Rattle.queue_core.specs.Pooled.{with_end, with_head, with_holder, with_node, with_point, with_reader, with_sender}

-- ---- the steps of a sender

abbrev pub is_at_rest : SenderPoint → Bool
is_at_rest sends.Rest = true
is_at_rest _ = false

-- the item of the store that is due
abbrev pub line_due : SenderPoint → Option Item
line_due (sends.Line item) = Some item
line_due _ = None

abbrev pub amount_due : SenderPoint → Option Item
amount_due (sends.Amount item) = Some item
amount_due _ = None

abbrev pub null_due : SenderPoint → Option Item
null_due (sends.Null item) = Some item
null_due _ = None

-- the item whose exchange is due
abbrev pub swap_due : SenderPoint → Option Item
swap_due (sends.Swap item) = Some item
swap_due _ = None

-- the item whose link is due, and the node that gets it
abbrev pub link_due : SenderPoint → Option (Item × ℕ)
link_due (sends.Link item before) = Some (item, before)
link_due _ = None

-- whether the node of an item was given back as often as its sender has gone round
abbrev pub is_free : Pooled → (b p : ℕ) → Item → Bool
is_free c b p item = (node_at c (node_of c b p item)).turn == (sender_at c p).count / c.ring

-- It looks whether its next ring node is free.
abbrev pub load_turn : (b p line : ℕ) (amount : ℤ) → Pooled → Option Pooled
load_turn b p line amount c =
    let sender = sender_at c p in
    let item = Post line amount in
    if is_at_rest sender.point && (not (has_ended_in c b p) && (nat_lt sender.count c.most && (nat_lt line MOST_POSTS && (nat_lt 0 (unsigned_abs amount) && nat_le (unsigned_abs amount) MOST_AMOUNT))))
    then Some (
    if is_free c b p item
    then with_point b p (sends.Line item) c
    else with_sender p (record sender { last = Some Full }) c)
    else None

abbrev pub store_line : (b p : ℕ) → Pooled → Option Pooled
store_line b p c =
    option_map (λ item.
    let n = node_of c b p item in
    with_point b p (sends.Amount item) (with_node n (record (node_at c n) { line = line_word item }) c))
    (line_due (point_in c b p))

abbrev pub end_line : (b p : ℕ) → Pooled → Option Pooled
end_line b p c =
    let n = node_of c b p End in
    if is_at_rest (sender_at c p).point && not (has_ended_in c b p)
    then Some (with_point b p (sends.Amount End) (with_node n (record (node_at c n) { line = line_word End }) c))
    else None

abbrev pub store_amount : (b p : ℕ) → Pooled → Option Pooled
store_amount b p c =
    option_map (λ item.
    let n = node_of c b p item in
    with_point b p (sends.Null item) (with_node n (record (node_at c n) { amount = amount_word item }) c))
    (amount_due (point_in c b p))

abbrev pub store_null : (b p : ℕ) → Pooled → Option Pooled
store_null b p c =
    option_map (λ item.
    let n = node_of c b p item in
    with_point b p (sends.Swap item) (with_node n (record (node_at c n) { next = null }) c))
    (null_due (point_in c b p))

-- The head of the mailbox becomes the node; what was the head is the node that gets the link.
abbrev pub swap_head : (b p : ℕ) → Pooled → Option Pooled
swap_head b p c =
    option_map (λ item. with_head b (link_to (node_of c b p item)) (with_point b p (sends.Link item (head_in c b - 1)) c))
    (swap_due (point_in c b p))

-- a sender whose item is sent
abbrev pub after_sent : Item → Caller → Caller
after_sent item sender = record sender {
  point = sends.Rest;
  count = if is_end item then sender.count else sender.count + 1;
  last = Some Sent;
}

-- an end mark that is sent ends the sender in its mailbox
abbrev pub ends : (b p : ℕ) → Item → Pooled → Pooled
ends b p item c = record c { ended = if is_end item then (with_end b p c).ended else c.ended }

abbrev pub store_link : (b p : ℕ) → Pooled → Option Pooled
store_link b p c =
    option_map (λ linked.
    ends b p linked.0
    (with_sender p (after_sent linked.0 (sender_at c p)) (with_node linked.1 (record (node_at c linked.1) { next = link_to (node_of c b p linked.0) }) c)))
    (link_due (point_in c b p))

-- ---- the steps of a reader

abbrev pub goes_to : (b : ℕ) → ReaderPoint → Pooled → Pooled
goes_to b point c = with_reader b (record (reader_in c b) { point = point }) c

-- a take ends
abbrev pub answers : (b : ℕ) → Took ℕ → Pooled → Pooled
answers b what c = with_reader b (record (reader_in c b) { point = reads.Rest; last = Some what }) c

-- the tail is passed: the next node becomes the tail
abbrev pub passes : (b : ℕ) → Pooled → Pooled
passes b c = with_reader b (record (reader_in c b) { tail = (node_at c (reader_in c b).tail).next - 1 }) c

-- a sender's node is taken, and held from now on
abbrev pub takes : (b : ℕ) → Pooled → Pooled
takes b c = with_holder (reader_in c b).tail (Some b) (answers b (took.Held (reader_in c b).tail) (passes b c))

abbrev pub has_next : (b : ℕ) → Pooled → Bool
has_next b c = not ((node_at c (reader_in c b).tail).next == null)

abbrev pub is_at_stub : (b : ℕ) → Pooled → Bool
is_at_stub b c = (reader_in c b).tail == stub_in c b

abbrev pub next_at : ReaderPoint → (b : ℕ) → Pooled → Option Pooled
next_at reads.Rest b c =
    if is_at_stub b c then Some (if has_next b c then goes_to b reads.Second (passes b c) else goes_to b reads.StubHead c)
    else Some (if has_next b c then takes b c else goes_to b reads.NodeHead c)
next_at reads.Second b c = if not (is_at_stub b c) then Some (if has_next b c then takes b c else goes_to b reads.NodeHead c) else None
next_at reads.Last b c = Some (if has_next b c then takes b c else answers b took.Busy c)
next_at _ b c = None

abbrev pub load_next : (b : ℕ) → Pooled → Option Pooled
load_next b c = next_at (reader_in c b).point b c

-- whether nothing was exchanged in after the tail
abbrev pub is_last : (b : ℕ) → Pooled → Bool
is_last b c = head_in c b == link_to (reader_in c b).tail

abbrev pub head_at : ReaderPoint → (b : ℕ) → Pooled → Option Pooled
head_at reads.StubHead b c = Some (answers b (if is_last b c then took.Empty else took.Busy) c)
head_at reads.NodeHead b c = Some (if is_last b c then goes_to b reads.Null c else answers b took.Busy c)
head_at _ b c = None

abbrev pub load_head : (b : ℕ) → Pooled → Option Pooled
load_head b c = head_at (reader_in c b).point b c

abbrev pub stub_null_at : ReaderPoint → (b : ℕ) → Pooled → Option Pooled
stub_null_at reads.Null b c = Some (goes_to b reads.Swap (with_node (stub_in c b) (record (node_at c (stub_in c b)) { next = null }) c))
stub_null_at _ b c = None

abbrev pub stub_swap_at : ReaderPoint → (b : ℕ) → Pooled → Option Pooled
stub_swap_at reads.Swap b c = Some (with_head b (link_to (stub_in c b)) (goes_to b (reads.Link (head_in c b - 1)) c))
stub_swap_at _ b c = None

abbrev pub stub_link_at : ReaderPoint → (b : ℕ) → Pooled → Option Pooled
stub_link_at (reads.Link before) b c = Some (goes_to b reads.Last (with_node before (record (node_at c before) { next = link_to (stub_in c b) }) c))
stub_link_at _ b c = None

-- A node that is held may be read and given back between takes, by the reader that took it.
abbrev pub may_use : ReaderPoint → (b n : ℕ) → Pooled → Bool
may_use reads.Rest b n c = is_held_in c b n
may_use _ b n c = false

abbrev pub load_held : (b n : ℕ) → Pooled → Option Pooled
load_held b n c = if may_use (reader_in c b).point b n c then Some c else None

-- words have 64 bits
abbrev pub give_back : (b n : ℕ) → Pooled → Option Pooled
give_back b n c =
    if may_use (reader_in c b).point b n c
    then Some (with_holder n None (with_node n (record (node_at c n) { turn = ((node_at c n).turn + 1) % 2 ^ 64 }) c))
    else None

-- what a step in a mailbox that is there leaves, where it is due
abbrev pub stepped_in : Pooled → (b : ℕ) → Step → Option Pooled
stepped_in c b (step.LoadTurn p line amount) = load_turn b p line amount c
stepped_in c b (step.StoreLine p) = store_line b p c
stepped_in c b (step.EndLine p) = end_line b p c
stepped_in c b (step.StoreAmount p) = store_amount b p c
stepped_in c b (step.StoreNull p) = store_null b p c
stepped_in c b (step.SwapHead p) = swap_head b p c
stepped_in c b (step.StoreLink p) = store_link b p c
stepped_in c b step.LoadNext = load_next b c
stepped_in c b step.LoadHead = load_head b c
stepped_in c b step.StubNull = stub_null_at (reader_in c b).point b c
stepped_in c b step.StubSwap = stub_swap_at (reader_in c b).point b c
stepped_in c b step.StubLink = stub_link_at (reader_in c b).point b c
stepped_in c b (step.LoadLine n) = load_held b n c
stepped_in c b (step.LoadAmount n) = load_held b n c
stepped_in c b (step.GiveBack n) = give_back b n c

-- what a step leaves, where it is due
abbrev pub stepped : Pooled → PoolStep → Option Pooled
stepped c at = if nat_lt at.mailbox (length c.heads) then stepped_in c at.mailbox at.step else None

-- a step in the first mailbox, which is the only one where a mailbox stands alone
abbrev pub in_first : Step → PoolStep
in_first s = record { mailbox = 0; step = s }

-- The steps of the list, each due where the one before it led, lead from a core to another.
pub data Follows : List PoolStep → Pooled → Pooled → Type 0 where
  none : (c : Pooled) → Follows [] c c
  more : (steps : List PoolStep) (a c n : Pooled) (s : PoolStep) → Follows steps a c → stepped c s ≡ Some n → Follows (steps ++ s ∷ []) a n
