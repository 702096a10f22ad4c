-- What a step at a table of nodes tells its seat: what the seat knows then.
use Rattle.std.specs.Prelude.{ℕ, ◌≡◌, ◌<◌, ◌≤◌, ◌+◌, ◌-◌, ◌/◌, ◌%◌, ◌++◌, ◌∷◌, ◌==◌, All, Bool, false, true, List, [], Option, None, Some, replicate, slice_set, if◌then◌else◌, ⊤}
use Rattle.atomic_table.specs.Table.{Me, Step}
use Rattle.queue_core.specs.declared.entry.Entry.TheVariants.{Of, Stub}
use Rattle.queue_core.specs.declared.item.Item.{Item}
use Rattle.queue_core.specs.declared.item.Item.TheVariants.{Post, End}
use Rattle.queue_core.specs.declared.item.Posted.TheVariants.{Full}
use Rattle.queue_core.specs.declared.item.Took.TheVariants.{Held, Empty, Busy}
use Rattle.queue_core.specs.declared.reader.Reader.{Reader}
use Rattle.queue_core.specs.declared.reader.ReaderPoint.{ReaderPoint}
use Rattle.queue_core.specs.declared.reader.ReaderPoint.TheVariants as reads
use Rattle.queue_core.specs.declared.sender.Caller.{Caller}
use Rattle.queue_core.specs.declared.sender.SenderPoint.{SenderPoint}
use Rattle.queue_core.specs.declared.sender.SenderPoint.TheVariants as sends
use Rattle.queue_core.specs.Items.{IsFirstOf, IsInRange, is_end}
use Rattle.queue_core.specs.StoredWords.{amount_word, line_word}
use Rattle.queue_core.specs.Mailbox.{is_among}
use Rattle.queue_core.specs.Pooled.{new_caller, new_reader}
use Rattle.queue_core.specs.PoolSteps.{after_sent}
use Rattle.node_table.specs.declared.seats.Holding.{Holding}
use Rattle.node_table.specs.declared.seats.Known.{Known}
use Rattle.node_table.specs.declared.seats.Known.TheVariants.{Dealt, Sends, Receives, Holds, Tallies, Gone}
use Rattle.node_table.specs.declared.seats.Posting.{Posting}
use Rattle.node_table.specs.declared.seats.ReceiverSeat.{ReceiverSeat}
use Rattle.node_table.specs.declared.seats.SenderSeat.{SenderSeat}
use Rattle.node_table.specs.declared.seats.Shape.{Shape}
use Rattle.node_table.specs.declared.seats.TallySeat.{TallySeat}
use Rattle.node_table.specs.Layout.{first_of, nodes_in, slot_of, stub_of}
use Rattle.node_table.specs.Seats.{got_in, items_in, known_in, own_entries}

-- ---- a sender

abbrev pub posting : (b : ℕ) → Item → Posting
posting b item = record { mailbox = b; item = item }

-- what a slot that the seat took last has in it
abbrev pub in_slot : List (ℕ × Posting) → Posting
in_slot [] = posting 0 End
in_slot (x ∷ xs) = x.1

-- it is in another place of its call
abbrev pub with_caller : Caller → SenderSeat → SenderSeat
with_caller caller v = record { shape = v.shape; number = v.number; caller = caller; ended = v.ended; filled = v.filled }

abbrev pub at_point : SenderPoint → SenderSeat → SenderSeat
at_point point v = with_caller (record v.caller { point = point }) v

-- a sender that has begun, and has done nothing
abbrev pub new_sender : Shape → (p : ℕ) → SenderSeat
new_sender shape p = record { shape = shape; number = p; caller = new_caller; ended = replicate shape.mailboxes false; filled = [] }

-- the node that it fills with an item, in the mailbox of its call
abbrev pub node_of : SenderSeat → (b : ℕ) → Item → ℕ
node_of v b (Post line amount) = first_of v.shape v.number + v.caller.count % v.shape.ring
node_of v b End = first_of v.shape v.number + (v.shape.ring + b)

-- whether the turn that was found lets it fill its next ring node
abbrev pub is_free_at : (found : ℕ) → SenderSeat → Bool
is_free_at found v = found == v.caller.count / v.shape.ring

-- it has filled an item of a mailbox, and is to store its first word or its second
abbrev pub filling : SenderPoint → Posting → SenderSeat → SenderSeat
filling point laid v =
    record { shape = v.shape; number = v.number; caller = record v.caller { point = point; mailbox = laid.mailbox }; ended = v.ended; filled = v.filled ++ (laid.mailbox, laid.item) ∷ [] }

-- it found its next ring node full
abbrev pub found_full : SenderSeat → SenderSeat
found_full v = with_caller (record v.caller { last = Some Full }) v

abbrev pub after_turn : (found : ℕ) → Posting → SenderSeat → SenderSeat
after_turn found laid v = if is_free_at found v then filling (sends.Line laid.item) laid v else found_full v

-- the store of a line: of the item at hand, or of an end mark, which is filled by it
abbrev pub after_line_at : SenderPoint → Posting → SenderSeat → SenderSeat
after_line_at sends.Rest laid v = filling (sends.Amount End) (posting laid.mailbox End) v
after_line_at (sends.Line item) laid v = at_point (sends.Amount item) v
after_line_at _ laid v = v

abbrev pub after_amount_at : SenderPoint → SenderSeat → SenderSeat
after_amount_at (sends.Amount item) v = at_point (sends.Null item) v
after_amount_at _ v = v

abbrev pub after_null_at : SenderPoint → SenderSeat → SenderSeat
after_null_at (sends.Null item) v = at_point (sends.Swap item) v
after_null_at _ v = v

abbrev pub after_swap_at : SenderPoint → (found : ℕ) → SenderSeat → SenderSeat
after_swap_at (sends.Swap item) found v = at_point (sends.Link item (found - 1)) v
after_swap_at _ found v = v

-- its item is sent; an end mark ends it in the mailbox of its call
abbrev pub after_sending : Item → SenderSeat → SenderSeat
after_sending item v = record {
  shape = v.shape;
  number = v.number;
  caller = after_sent item v.caller;
  ended = if is_end item then slice_set v.ended v.caller.mailbox true else v.ended;
  filled = v.filled;
}

abbrev pub after_link_at : SenderPoint → SenderSeat → SenderSeat
after_link_at (sends.Link item before) v = after_sending item v
after_link_at _ v = v

-- ---- a receiver

-- a receiver that has begun, and has done nothing
abbrev pub new_receiver : Shape → (b : ℕ) → ReceiverSeat
new_receiver shape b = record { shape = shape; mailbox = b; reader = new_reader (stub_of shape b); passed = []; given = []; got = []; at_hand = None; taken_in = [] }

abbrev pub with_reader_at : Reader → ReceiverSeat → ReceiverSeat
with_reader_at reader v =
    record { shape = v.shape; mailbox = v.mailbox; reader = reader; passed = v.passed; given = v.given; got = v.got; at_hand = v.at_hand; taken_in = v.taken_in }

abbrev pub reading_at : ReaderPoint → ReceiverSeat → ReceiverSeat
reading_at point v = with_reader_at (record v.reader { point = point }) v

abbrev pub with_hand : Option Holding → ReceiverSeat → ReceiverSeat
with_hand hand v =
    record { shape = v.shape; mailbox = v.mailbox; reader = v.reader; passed = v.passed; given = v.given; got = v.got; at_hand = hand; taken_in = v.taken_in }

-- the tail has no next
abbrev pub without_next_at : ReaderPoint → (stub : ℕ) → Reader → Reader
without_next_at reads.Rest stub r = record r { point = if r.tail == stub then reads.StubHead else reads.NodeHead }
without_next_at reads.Second stub r = record r { point = reads.NodeHead }
without_next_at reads.Last stub r = record r { point = reads.Rest; last = Some Busy }
without_next_at _ stub r = r

abbrev pub without_next : (stub : ℕ) → Reader → Reader
without_next stub r = without_next_at r.point stub r

-- the head is the tail, or another node
abbrev pub after_head_at : ReaderPoint → (found : ℕ) → Reader → Reader
after_head_at reads.StubHead found r = record r { point = reads.Rest; last = Some (if found == r.tail + 1 then Empty else Busy) }
after_head_at reads.NodeHead found r = if found == r.tail + 1 then record r { point = reads.Null } else record r { point = reads.Rest; last = Some Busy }
after_head_at _ found r = r

abbrev pub after_head : (found : ℕ) → Reader → Reader
after_head found r = after_head_at r.point found r

-- the stub is passed
abbrev pub past_stub : (next : ℕ) → ReceiverSeat → ReceiverSeat
past_stub next v = record {
  shape = v.shape;
  mailbox = v.mailbox;
  reader = record v.reader { point = reads.Second; tail = next };
  passed = v.passed ++ Stub ∷ [];
  given = v.given;
  got = v.got;
  at_hand = v.at_hand;
  taken_in = v.taken_in;
}

-- a node is taken, and the receiver has it at hand
abbrev pub past_node : (next : ℕ) → Holding → ReceiverSeat → ReceiverSeat
past_node next h v = record {
  shape = v.shape;
  mailbox = v.mailbox;
  reader = record { point = reads.Rest; tail = next; last = Some (Held v.reader.tail) };
  passed = v.passed ++ Of h.sender h.place ∷ [];
  given = v.given;
  got = v.got ++ (h.sender, h.item) ∷ [];
  at_hand = Some h;
  taken_in = v.taken_in;
}

-- what the receiver has at hand is given back
abbrev pub after_give : Option Holding → ReceiverSeat → ReceiverSeat
after_give None v = v
after_give (Some h) v = record {
  shape = v.shape;
  mailbox = v.mailbox;
  reader = v.reader;
  passed = v.passed;
  given = v.given ++ Of h.sender h.place ∷ [];
  got = v.got;
  at_hand = None;
  taken_in = v.taken_in;
}

-- some sender was not taken in
abbrev pub IsAwaitedAt : ReceiverSeat → Type 0
IsAwaitedAt v = (p : ℕ) × (p < v.shape.senders) × (known_in v.mailbox v.taken_in p ≡ None)

-- of each sender that was taken in, what was received is what it sent
abbrev pub IsWholeAt : ReceiverSeat → Type 0
IsWholeAt v = (p : ℕ) (items : List Item) → known_in v.mailbox v.taken_in p ≡ Some items → got_in v.got p ≡ items

-- of each sender that was taken in, what was received is the first part of what it sent
abbrev pub BeginsAt : ReceiverSeat → Type 0
BeginsAt v = (p : ℕ) (items : List Item) → known_in v.mailbox v.taken_in p ≡ Some items → IsFirstOf (got_in v.got p) items

-- an item was taken, and not given back
abbrev pub IsHeldAt : ReceiverSeat → Holding → Type 0
IsHeldAt v h = (is_among (Of h.sender h.place) (own_entries v.passed) ≡ true) × (is_among (Of h.sender h.place) v.given ≡ false)

-- The node at the tail, one of a sender's, is taken with its item, which is within the limits. It was not taken before, and is held then.
pub record HasTakenNode (next : ℕ) (v w : ReceiverSeat) : Type 0 where
  pub held : Holding
  pub seat : w ≡ past_node next held v
  pub shape : held.shape ≡ v.shape
  pub mailbox : held.mailbox ≡ v.mailbox
  pub node : held.node ≡ v.reader.tail
  pub block : held.node / (v.shape.ring + v.shape.mailboxes) ≡ held.sender
  pub within : held.sender < v.shape.senders
  pub ranged : IsInRange held.item
  pub fresh : is_among (Of held.sender held.place) (own_entries v.passed) ≡ false
  pub kept : IsHeldAt w held
  pub begins : BeginsAt w

pub record HasLoadedNext (found : ℕ) (v w : ReceiverSeat) : Type 0 where
  pub small : found ≤ nodes_in v.shape
  pub null : found ≡ 0 → w ≡ with_reader_at (without_next (stub_of v.shape v.mailbox) v.reader) v
  pub busy : found ≡ 0 → v.reader.point ≡ reads.Last → IsAwaitedAt v
  pub stub : ¬ (found ≡ 0) → v.reader.tail ≡ stub_of v.shape v.mailbox → (w ≡ past_stub (found - 1) v) × (¬ (found - 1 ≡ stub_of v.shape v.mailbox))
  pub node : ¬ (found ≡ 0) → ¬ (v.reader.tail ≡ stub_of v.shape v.mailbox) → HasTakenNode (found - 1) v w

pub record HasLoadedHead (found : ℕ) (v w : ReceiverSeat) : Type 0 where
  pub seat : w ≡ with_reader_at (after_head found v.reader) v
  pub busy : ¬ (found ≡ v.reader.tail + 1) → IsAwaitedAt v
  pub empty : found ≡ v.reader.tail + 1 → v.reader.point ≡ reads.StubHead → IsWholeAt v

-- ---- where the receiver is before a load

abbrev pub LoadsNext : ReaderPoint → Type 0
LoadsNext reads.Rest = ⊤
LoadsNext reads.Second = ⊤
LoadsNext reads.Last = ⊤
LoadsNext _ = ⊥

abbrev pub LoadsHead : ReaderPoint → Type 0
LoadsHead reads.StubHead = ⊤
LoadsHead reads.NodeHead = ⊤
LoadsHead _ = ⊥

-- ---- what the steps tell

-- what a sender knows after a step, what a receiver knows, and what the tally knows
abbrev pub SenderThen : (SenderSeat → SenderSeat → Type 0) → Known → (Known → Type 0) → Type 0
SenderThen P (Sends a) is = (b : SenderSeat) × is (Sends b) × P a b
SenderThen P _ is = ⊤

abbrev pub ReceiverThen : (ReceiverSeat → ReceiverSeat → Type 0) → Known → (Known → Type 0) → Type 0
ReceiverThen P (Receives a) is = (b : ReceiverSeat) × is (Receives b) × P a b
ReceiverThen P _ is = ⊤

abbrev pub TallyThen : (TallySeat → Type 0) → Known → (Known → Type 0) → Type 0
TallyThen P (Tallies a) is = is (Tallies a) × P a
TallyThen P _ is = ⊤

abbrev pub OfSender : (SenderSeat → SenderSeat → Type 0) → Me Posting Known → Me Posting Known → Type 0
OfSender P v w = SenderThen P v.0 (λ known. w ≡ (known, v.1))

abbrev pub OfReceiver : (ReceiverSeat → ReceiverSeat → Type 0) → Me Posting Known → Me Posting Known → Type 0
OfReceiver P v w = ReceiverThen P v.0 (λ known. w ≡ (known, v.1))

abbrev pub OfTally : (TallySeat → Type 0) → Me Posting Known → Me Posting Known → Type 0
OfTally P v w = TallyThen P v.0 (λ known. w ≡ (known, v.1))

-- a sender that was dealt begins, and has its slot
abbrev pub SenderBegins : Known → Me Posting Known → Type 0
SenderBegins (Dealt shape p) w = (laid : Posting) × (w ≡ (Sends (new_sender shape p), (slot_of p, laid) ∷ []))
SenderBegins _ w = ⊤

abbrev pub tells_take_slot : Step Posting → Me Posting Known → ℕ → Me Posting Known → Type 0
tells_take_slot s v found w = SenderBegins v.0 w

-- a receiver that was dealt begins
abbrev pub ReceiverBegins : Known → Me Posting Known → Type 0
ReceiverBegins (Dealt shape turn) w = w ≡ (Receives (new_receiver shape (turn - shape.senders)), [])
ReceiverBegins _ w = ⊤

abbrev pub tells_begin_receiving : Step Posting → Me Posting Known → ℕ → Me Posting Known → Type 0
tells_begin_receiving s v found w = ReceiverBegins v.0 w

-- A sender that finds its next ring node not given back has sent at least as many posts as it has ring nodes.
abbrev pub tells_load_turn : Step Posting → Me Posting Known → ℕ → Me Posting Known → Type 0
tells_load_turn s v found w = OfSender (λ a b. (b ≡ after_turn found (in_slot v.1) a) × (is_free_at found a ≡ false → a.shape.ring ≤ a.caller.count)) v w

abbrev pub tells_store_line : Step Posting → Me Posting Known → ℕ → Me Posting Known → Type 0
tells_store_line s v found w = OfSender (λ a b. b ≡ after_line_at a.caller.point (in_slot v.1) a) v w

abbrev pub tells_store_amount : Step Posting → Me Posting Known → ℕ → Me Posting Known → Type 0
tells_store_amount s v found w = OfSender (λ a b. b ≡ after_amount_at a.caller.point a) v w

abbrev pub tells_store_null : Step Posting → Me Posting Known → ℕ → Me Posting Known → Type 0
tells_store_null s v found w = OfSender (λ a b. b ≡ after_null_at a.caller.point a) v w

abbrev pub tells_swap_head : Step Posting → Me Posting Known → ℕ → Me Posting Known → Type 0
tells_swap_head s v found w = OfSender (λ a b. (b ≡ after_swap_at a.caller.point found a) × (0 < found) × (found ≤ nodes_in a.shape)) v w

abbrev pub tells_store_link : Step Posting → Me Posting Known → ℕ → Me Posting Known → Type 0
tells_store_link s v found w = OfSender (λ a b. b ≡ after_link_at a.caller.point a) v w

-- a sender in no call gives its slot back
abbrev pub SlotGiven : Known → Me Posting Known → List (ℕ × Posting) → Type 0
SlotGiven (Sends a) w [] = ⊤
SlotGiven (Sends a) w (x ∷ xs) = w ≡ (Sends a, xs)
SlotGiven _ w xs = ⊤

abbrev pub tells_give_slot : Step Posting → Me Posting Known → ℕ → Me Posting Known → Type 0
tells_give_slot s v found w = SlotGiven v.0 w v.1

abbrev pub tells_load_next : Step Posting → Me Posting Known → ℕ → Me Posting Known → Type 0
tells_load_next s v found w = OfReceiver (HasLoadedNext found) v w

abbrev pub tells_load_head : Step Posting → Me Posting Known → ℕ → Me Posting Known → Type 0
tells_load_head s v found w = OfReceiver (HasLoadedHead found) v w

abbrev pub tells_stub_null : Step Posting → Me Posting Known → ℕ → Me Posting Known → Type 0
tells_stub_null s v found w = OfReceiver (λ a b. b ≡ reading_at reads.Swap a) v w

abbrev pub tells_stub_swap : Step Posting → Me Posting Known → ℕ → Me Posting Known → Type 0
tells_stub_swap s v found w = OfReceiver (λ a b. (b ≡ reading_at (reads.Link (found - 1)) a) × (0 < found) × (found ≤ nodes_in a.shape)) v w

abbrev pub tells_stub_link : Step Posting → Me Posting Known → ℕ → Me Posting Known → Type 0
tells_stub_link s v found w = OfReceiver (λ a b. b ≡ reading_at reads.Last a) v w

-- a look at a word that nobody writes
abbrev pub tells_look : Step Posting → Me Posting Known → ℕ → Me Posting Known → Type 0
tells_look s v found w = OfReceiver (λ a b. (b ≡ a) × BeginsAt a) v w

abbrev pub tells_load_line : Step Posting → Me Posting Known → ℕ → Me Posting Known → Type 0
tells_load_line s v found w = OfReceiver (λ a b. (b ≡ a) × ((h : Holding) → a.at_hand ≡ Some h → found ≡ line_word h.item)) v w

abbrev pub tells_load_amount : Step Posting → Me Posting Known → ℕ → Me Posting Known → Type 0
tells_load_amount s v found w = OfReceiver (λ a b. (b ≡ a) × ((h : Holding) → a.at_hand ≡ Some h → found ≡ amount_word h.item)) v w

abbrev pub tells_give_back : Step Posting → Me Posting Known → ℕ → Me Posting Known → Type 0
tells_give_back s v found w = OfReceiver (λ a b. (b ≡ after_give a.at_hand a) × ((h : Holding) → a.at_hand ≡ Some h → IsHeldAt a h)) v w

-- ---- the tally

-- What each gathered receiver received of each sender that was taken in is the first part of what that sent in its mailbox.
abbrev pub TallyBegins : TallySeat → Type 0
TallyBegins v = All (λ (r : ReceiverSeat). All (λ (a : SenderSeat). IsFirstOf (got_in r.got a.number) (items_in r.mailbox a.filled)) v.taken_in) v.gathered

abbrev pub tells_tally : Step Posting → Me Posting Known → ℕ → Me Posting Known → Type 0
tells_tally s v found w = OfTally TallyBegins v w

-- ---- how seats are cut in two and put together

-- the tally deals the next seat
abbrev pub after_deal : Known → Known
after_deal (Tallies v) = Tallies (record { shape = v.shape; dealt = v.dealt + 1; gathered = v.gathered; taken_in = v.taken_in })
after_deal known = known

abbrev pub dealt : Known → Known
dealt (Tallies v) = Dealt v.shape v.dealt
dealt known = known

-- what is at hand is handed out
abbrev pub after_hand : Known → Known
after_hand (Receives v) = Receives (with_hand None v)
after_hand known = known

abbrev pub handed : Option Holding → Known
handed None = Gone
handed (Some h) = Holds h

abbrev pub hand_of : Known → Known
hand_of (Receives v) = handed v.at_hand
hand_of known = known

-- and taken back
abbrev pub taken_back : Known → Known → Known
taken_back (Receives v) (Holds h) = Receives (with_hand (Some h) v)
taken_back known other = known

-- a receiver takes a sender in
abbrev pub with_taken_in : SenderSeat → ReceiverSeat → ReceiverSeat
with_taken_in a v =
    record { shape = v.shape; mailbox = v.mailbox; reader = v.reader; passed = v.passed; given = v.given; got = v.got; at_hand = v.at_hand; taken_in = a ∷ v.taken_in }

abbrev pub taken_in : Known → Known → Known
taken_in (Receives v) (Sends a) = Receives (with_taken_in a v)
taken_in known other = known

-- the tally gathers a receiver, and takes a sender in
abbrev pub with_receiver : ReceiverSeat → TallySeat → TallySeat
with_receiver a v = record { shape = v.shape; dealt = v.dealt; gathered = a ∷ v.gathered; taken_in = v.taken_in }

abbrev pub gathered : Known → Known → Known
gathered (Tallies v) (Receives a) = Tallies (with_receiver a v)
gathered known other = known

abbrev pub with_sender : SenderSeat → TallySeat → TallySeat
with_sender a v = record { shape = v.shape; dealt = v.dealt; gathered = v.gathered; taken_in = a ∷ v.taken_in }

abbrev pub tallied : Known → Known → Known
tallied (Tallies v) (Sends a) = Tallies (with_sender a v)
tallied known other = known
