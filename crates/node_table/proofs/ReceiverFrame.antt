-- What a step of the receiver of a mailbox has to show, so that the rule of a table of nodes is kept.
use Rattle.std.proofs.Common.{◌≡◌, ◌∙◌, ◌<◌, ◌+◌, ◌*◌, ◌∷◌, ◌⊎◌, [], ℕ, All, List, Option, Some, suc, length, set, ap, sym, refl, subst, inl, inr, arith, get_or-set_other, get_or-set_same}
use Rattle.std.specs.Prelude.{slice_index_or, true}
use Rattle.std.proofs.lemmas.List.Elements.{All-cons, All-weaker}
use mathlib.Core.Option.{Option as Slot, some}
use lib.ListN.{get_elem?}
use Rattle.atomic_table.specs.Table.{State}
use Rattle.atomic_table.proofs.Lists.{at_set}
use Rattle.queue_core.specs.declared.entry.Entry.{Entry}
use Rattle.queue_core.specs.declared.entry.Entry.TheVariants.{Of}
use Rattle.queue_core.specs.declared.item.Item.{Item}
use Rattle.queue_core.specs.declared.item.Item.TheVariants.{End}
use Rattle.queue_core.specs.declared.reader.Reader.{Reader}
use Rattle.queue_core.specs.declared.sender.Caller.{Caller}
use Rattle.queue_core.specs.declared.step.Step.{Step}
use Rattle.queue_core.specs.declared.words.Node.{Node as Word}
use Rattle.queue_core.specs.Mailbox.{IsHeld, Mailbox, got, passed_entries}
use Rattle.queue_core.specs.Events.{Event}
use Rattle.queue_core.specs.Pool.{Pool, PoolLeads}
use Rattle.queue_core.specs.Pooled.{Pooled, has_ended_in, new_reader, reader_in, sender_at, stub_in, with_reader}
use Rattle.queue_core.specs.PoolShows.{node_in, place_of}
use Rattle.queue_core.specs.PoolLaws.{ShowsAfterIn, event_in}
use Rattle.queue_core.specs.PoolSteps.{stepped_in}
use Rattle.queue_core.proofs.MailboxHolds.{Holds}
use Rattle.queue_core.proofs.PoolKept.{holds_in}
use Rattle.queue_core.proofs.PoolRuns.{step_shows_in}
use Rattle.queue_core.proofs.PoolStepsKeep.{keeps_step_in}
use Rattle.node_table.specs.declared.seats.Holding.{Holding}
use Rattle.node_table.specs.declared.seats.Known.{Known}
use Rattle.node_table.specs.declared.seats.Known.TheVariants.{Dealt, Sends, Receives, Holds as holds_item, Tallies, Gone}
use Rattle.node_table.specs.declared.seats.Posting.{Posting}
use Rattle.node_table.specs.declared.seats.ReceiverSeat.{ReceiverSeat}
use Rattle.node_table.specs.declared.seats.SenderSeat.{SenderSeat}
use Rattle.node_table.specs.declared.seats.Shape.{Shape}
use Rattle.node_table.specs.declared.seats.TallySeat.{TallySeat}
use Rattle.node_table.specs.Layout.{nodes_in, stub_of}
use Rattle.node_table.specs.Rule.{AreWords, KeepsNodes, KeepsOn, events_after, later_in}
use Rattle.queue_core.specs.Items.{IsInRange}
use Rattle.node_table.specs.Seats.{AreTakenIn, Owned, Has, HasShape, IsAlone, KnowsMailbox, IsHolding, IsNew, IsPartOf, IsReceiverSeat, IsSeat, IsSenderSeat, IsTakenIn, IsTallySeat, receiver_part}
use Rattle.node_table.specs.Seats.Owned.{Node, Part}
use Rattle.node_table.proofs.AfterEvent.{later, later_held, later_items, later_other, later_own, on_event, told_leads, told_shows}
use Rattle.node_table.proofs.Owned.{apart_set, other_has_not}

-- ---- where the receiver of one mailbox alone goes on

-- what senders and the receivers of other mailboxes know of is as it was
pub record ButReader (c n : Pooled) (q q' : Pool) (b : ℕ) : Type 0 where
  pub ring : n.ring ≡ c.ring
  pub most : n.most ≡ c.most
  pub heads : length n.heads ≡ length c.heads
  pub senders : n.senders ≡ c.senders
  pub ended : n.ended ≡ c.ended
  pub readers : (d : ℕ) → ¬ (d ≡ b) → reader_in n d ≡ reader_in c d
  pub boxes : (d : ℕ) → ¬ (d ≡ b) → q'.boxes d ≡ q.boxes d
  pub items : (d : ℕ) → (q'.boxes d).items ≡ (q.boxes d).items
  pub posts : q'.posts ≡ q.posts

module _ (c n : Pooled) (q q' : Pool) (b : ℕ) (same : ButReader c n q q' b) where
  -- each sender is where it was
  same_sender : (p : ℕ) → sender_at n p ≡ sender_at c p
  same_sender p i = sender_at (record c { senders = same.senders i }) p

  -- and has ended where it had
  same_ended : (d p : ℕ) → has_ended_in n d p ≡ has_ended_in c d p
  same_ended d p i = slice_index_or (same.ended i) (p * same.heads i + d) true

  -- the stub is the node that it was
  same_stub : (d : ℕ) → stub_in n d ≡ stub_in c d
  same_stub d i = length (same.senders i) * (same.ring i + same.heads i) + d

  -- an entry of a sender stands where it stood
  pub same_node : (d p k : ℕ) → node_in n q' d (Of p k) ≡ node_in c q d (Of p k)
  same_node d p k i = p * (same.ring i + same.heads i) + place_of (same.ring i) (same.posts i p) d (slice_index_or (same.items d i p) k End) k

  -- the table has the shape that it had
  pub fits_on : (shape : Shape) → HasShape shape c → HasShape shape n
  fits_on shape fits = record {
    senders = ap (λ (xs : List Caller). length xs) same.senders ∙ fits.senders;
    mailboxes = same.heads ∙ fits.mailboxes;
    ring = same.ring ∙ fits.ring;
    most = same.most ∙ fits.most;
  }

  -- what is held still is the same holding
  pub still_holding : (g : Holding) → IsHolding c q g → IsHeld (q'.boxes g.mailbox) g.sender g.place → IsHolding n q' g
  still_holding g was held = record {
    shape = fits_on g.shape was.shape;
    mailbox = omega (arith, was.mailbox, same.heads);
    held = held;
    node = same_node g.mailbox g.sender g.place ∙ was.node;
    item = (λ i. slice_index_or (same.items g.mailbox i g.sender) g.place End) ∙ was.item;
  }

  -- what a sender knows
  sender_stays : (a : SenderSeat) → IsSenderSeat c q a → IsSenderSeat n q' a
  sender_stays a was = record {
    shape = fits_on a.shape was.shape;
    within = was.within;
    caller = same_sender a.number ∙ was.caller;
    flags = was.flags;
    ended = λ d low. same_ended d a.number ∙ was.ended d low;
    items = λ d. (λ i. same.items d i a.number) ∙ was.items d;
  }

  -- and what is known of one that was taken in
  pub taken_stays : (a : SenderSeat) → IsTakenIn c q a → IsTakenIn n q' a
  taken_stays a was = record { seat = sender_stays a was.seat; rest = was.rest }

  -- a dealt seat of another mailbox
  new_stays : (homes : List (Slot Posting)) (shape : Shape) (turn : ℕ) → ¬ (turn ≡ shape.senders + b) → IsNew c q homes shape turn → IsNew n q' homes shape turn
  new_stays homes shape turn other was = record {
    sender = λ less. let x = was.sender less in record {
      caller = same_sender turn ∙ x.caller;
      going = λ d low. same_ended d turn ∙ x.going d (omega (arith, low, same.heads));
      items = λ d. (λ i. same.items d i turn) ∙ x.items d;
      slot = x.slot;
    };
    receiver = λ d low is.
        let x = was.receiver d low is in
        let apart : ¬ (d ≡ b) = λ e. other (omega (arith, is, e)) in record {
          reader = same.readers d apart ∙ (x.reader ∙ ap new_reader (sym (same_stub d)));
          passed = ap passed_entries (same.boxes d apart) ∙ x.passed;
          given = ap (λ (m : Mailbox). m.given) (same.boxes d apart) ∙ x.given;
        };
  }

  -- what is known of a receiver of another mailbox that was gathered
  gathered_stays : (a : ReceiverSeat) → ¬ (a.mailbox ≡ b) → KnowsMailbox c q a → KnowsMailbox n q' a
  gathered_stays a other was =
      let box = same.boxes a.mailbox other in record {
        shape = fits_on a.shape was.shape;
        within = was.within;
        reader = same.readers a.mailbox other ∙ was.reader;
        passed = ap passed_entries box ∙ was.passed;
        given = ap (λ (m : Mailbox). m.given) box ∙ was.given;
        got = ap got box ∙ was.got;
      }

  -- the part of the receiver, whose seat this is not
  abbrev part : ℕ
  part = length c.senders + (b + 1)

  -- a receiver that has another part reads another mailbox
  other_part : (a : ReceiverSeat) → HasShape a.shape c → ¬ (part ≡ receiver_part a.shape a.mailbox) → ¬ (a.mailbox ≡ b)
  other_part a fits apart is = apart (omega (arith, fits.senders, is))

  -- so what is known of gathered receivers stays so, where none of them is this one
  all_stay : (rs : List ReceiverSeat) → ¬ IsPartOf rs part → All (KnowsMailbox c q) rs → All (KnowsMailbox n q') rs
  all_stay [] apart all = λ k d low. absurd (omega (arith, low))
  all_stay (r ∷ rs) apart all =
      let first = all 0 r (omega arith) in
      All-cons (KnowsMailbox n q') r rs (gathered_stays r (other_part r first.shape (λ is. apart (inl is))) first) (all_stay rs (λ is. apart (inr is)) (λ k d low. all (suc k) d (omega (arith, low))))

  -- what the tally knows
  tally_stays : (homes : List (Slot Posting)) (a : TallySeat) → ¬ Has (Tallies a) (Part part) → IsTallySeat c q homes a → IsTallySeat n q' homes a
  tally_stays homes a apart was = record {
    shape = fits_on a.shape was.shape;
    waiting = λ turn late low. new_stays homes a.shape turn (λ is. apart (inr (inl (omega (arith, late, is, was.shape.senders))))) (was.waiting turn late low);
    gathered = all_stay a.gathered (λ is. apart (inr (inr (inl is)))) was.gathered;
    taken_in = All-weaker (IsTakenIn c q) (IsTakenIn n q') taken_stays a.taken_in was.taken_in;
    ended = was.ended;
  }

  -- What another seat knows stays so, where what it holds is the same holding still.
  pub seat_stays : (homes : List (Slot Posting)) (d : Known) → ¬ Has d (Part part) → ((g : Holding) → Has d (Node g.node) → IsHolding c q g → IsHolding n q' g) → IsSeat c q homes d → IsSeat n q' homes d
  seat_stays homes (Dealt shape turn) apart still was = record {
    shape_is = fits_on shape was.shape_is;
    within = was.within;
    new = new_stays homes shape turn (λ is. apart (omega (arith, is, was.shape_is.senders))) was.new;
  }
  seat_stays homes (Sends a) apart still was = sender_stays a was
  seat_stays homes (Receives a) apart still was =
      let other : ¬ (a.mailbox ≡ b) = other_part a was.its_mailbox.shape (λ is. apart (inl is)) in
      let box = same.boxes a.mailbox other in record {
        its_mailbox = gathered_stays a other was.its_mailbox;
        at_hand = λ g hand. let held = was.at_hand g hand in (still g (g, hand, refl) held.0, held.1);
        taken_in = All-weaker (IsTakenIn c q) (IsTakenIn n q') taken_stays a.taken_in was.taken_in;
        ended = was.ended;
        alone = λ all. subst (λ m. IsAlone m a.reader.point) (sym box) (was.alone all);
      }
  seat_stays homes (holds_item g) apart still was = still g refl was
  seat_stays homes (Tallies a) apart still was = tally_stays homes a apart was
  seat_stays homes Gone apart still was = tt

-- who has the holding of a node holds an entry that stands in it
held_has : (c : Pooled) (q : Pool) (homes : List (Slot Posting)) (d : Known) (n : ℕ) → IsSeat c q homes d → Has d (Node n) → (g : Holding) × IsHolding c q g × (g.node ≡ n)
held_has c q homes (Dealt shape turn) n is has = absurd has
held_has c q homes (Sends a) n is has = absurd has
held_has c q homes (Receives a) n is has = (has.0, (is.at_hand has.0 has.1).0, has.2)
held_has c q homes (holds_item g) n is has = (g, is, has)
held_has c q homes (Tallies a) n is has = absurd has
held_has c q homes Gone n is has = absurd has

-- ---- a step of the receiver

module _ (shape : Shape) (s : State Posting Known) (kept : KeepsNodes shape s) (id : ℕ) (v : ReceiverSeat) (seen : get_elem? s.views id ≡ some (Receives v)) where
  abbrev c : Pooled
  c = kept.core

  abbrev q : Pool
  q = kept.pool

  abbrev b : ℕ
  b = v.mailbox

  abbrev m : Mailbox
  m = q.boxes b

  -- what the receiver knows is so
  pub own : IsReceiverSeat c q v
  own = kept.seats id (Receives v) seen

  -- its mailbox is there
  pub low : b < length c.heads
  low = omega (arith, own.its_mailbox.within, own.its_mailbox.shape.mailboxes)

  -- and has its reader
  pub readers_low : b < length c.readers
  readers_low = omega (arith, low, kept.mail.pooled.readers)

  -- the mailboxes are those that events lead to
  pub holds : (d : ℕ) → Holds c.ring (q.boxes d)
  holds = holds_in c kept.mail.pooled kept.events q kept.mail.leads kept.mail.shows b low

  -- the stub, by what the receiver knows
  pub stub_is : stub_in c b ≡ stub_of v.shape b
  stub_is i = own.its_mailbox.shape.senders i * (own.its_mailbox.shape.ring i + own.its_mailbox.shape.mailboxes i) + b

  -- how many nodes there are, by what the receiver knows
  pub nodes_are : length c.nodes ≡ nodes_in v.shape
  nodes_are = kept.mail.pooled.nodes ∙ (λ i. own.its_mailbox.shape.senders i * (own.its_mailbox.shape.ring i + own.its_mailbox.shape.mailboxes i) + own.its_mailbox.shape.mailboxes i)

  -- a core whose senders are as they were, and the readers of other mailboxes
  pub but_reader : (event : Option Event) (heads : List ℕ) (nodes : List Word) (holders : List (Option ℕ)) (readers : List Reader) → length heads ≡ length c.heads
      → ((d : ℕ) → ¬ (d ≡ b) → reader_in (record c { readers = readers }) d ≡ reader_in c d) → (later event m).items ≡ m.items → (later_in event b q).posts ≡ q.posts
      → ButReader c (record c { heads = heads; nodes = nodes; holders = holders; readers = readers }) q (later_in event b q) b
  but_reader event heads nodes holders readers many others items posts = record {
    ring = refl;
    most = refl;
    heads = many;
    senders = refl;
    ended = refl;
    readers = others;
    boxes = later_other q b event;
    items = later_items q b event items;
    posts = posts;
  }

  -- where the reader is written, it is that, and the others are as they were
  pub reader_set : (r : Reader) → reader_in (with_reader b r c) b ≡ r
  reader_set r = get_or-set_same c.readers b r _ readers_low

  pub reader_else : (r : Reader) (d : ℕ) → ¬ (d ≡ b) → reader_in (with_reader b r c) d ≡ reader_in c d
  reader_else r d other = get_or-set_other c.readers b d r _ other

  -- The step is due, and it leaves all but the receiver of the mailbox as it was. What others hold is held still, and what the receiver has then it had before, or it is the holding of a node that nobody had.
  pub record Moves (x : Step) (event : Option Event) (n : Pooled) (words : List ℕ) (w : ReceiverSeat) : Type 0 where
    pub due : stepped_in c b x ≡ Some n
    pub event_is : event_in c q b x ≡ event
    pub same : ButReader c n q (later_in event b q) b
    pub are_words : AreWords shape n words
    pub seat : IsReceiverSeat n (later_in event b q) w
    pub others : (g : Holding) → ¬ Has (Receives v) (Node g.node) → IsHolding c q g → IsHolding n (later_in event b q) g
    pub new : (thing : Owned) → Has (Receives w) thing → Has (Receives v) thing ⊎ ((a : ℕ) × (thing ≡ Node a) × ((g : Holding) → IsHolding c q g → ¬ (a ≡ g.node)))

  module _ (x : Step) (event : Option Event) (n : Pooled) (words : List ℕ) (w : ReceiverSeat) (moves : Moves x event n words w) where
    abbrev q' : Pool
    q' = later_in event b q

    -- what the law of the step tells
    told : ShowsAfterIn event c.ring b q n
    told = subst (λ e. ShowsAfterIn e c.ring b q n) moves.event_is (step_shows_in b x kept.events q c n low kept.mail.pooled kept.mail.leads kept.mail.shows moves.due)

    -- another seat is not the receiver's
    not_its : (j : ℕ) (d : Known) → ¬ (j ≡ id) → get_elem? s.views j ≡ some d → (thing : Owned) → Has (Receives v) thing → ¬ Has d thing
    not_its j d other there = other_has_not s.views kept.apart id (Receives v) seen j d other there

    -- what another seat knows stays so
    stays : (j : ℕ) (d : Known) → ¬ (j ≡ id) → get_elem? s.views j ≡ some d → IsSeat n q' s.homes d
    stays j d other there =
        let part_is : length c.senders + (b + 1) ≡ receiver_part v.shape b = ap (λ (k : ℕ). k + (b + 1)) own.its_mailbox.shape.senders in
        seat_stays c n q q' b moves.same s.homes d (not_its j d other there (Part (length c.senders + (b + 1))) (inl part_is)) (λ g has. moves.others g (λ mine. not_its j d other there (Node g.node) mine has)) (kept.seats j d there)

    -- what the receiver has then, no other seat has
    fresh : (thing : Owned) → Has (Receives w) thing → (j : ℕ) (d : Known) → ¬ (j ≡ id) → get_elem? s.views j ≡ some d → ¬ Has d thing
    fresh thing has j d other there has_d = elim (moves.new thing has) [
      | inl mine ↦ not_its j d other there thing mine has_d
      | inr node ↦
          let held = held_has c q s.homes d node.0 (kept.seats j d there) (subst (λ e. Has d e) node.1 has_d) in
          node.2 held.0 held.1 (sym held.2)
    ]

    -- So the rule is kept.
    pub moved : KeepsOn shape s kept b x record { words = words; homes = s.homes; views = set s.views id (Receives w) }
    moved = on_event shape s kept b x event n _ moves.due moves.event_is record {
      rule = record {
        events = events_after event b kept.events;
        pool = q';
        core = n;
        mail = record {
          fits = fits_on c n q q' b moves.same shape kept.mail.fits;
          pooled = keeps_step_in c n b x kept.mail.pooled low moves.due;
          leads = subst (λ (r : ℕ). PoolLeads r (events_after event b kept.events) q') (sym moves.same.ring) (told_leads q b event c.ring n kept.events kept.mail.leads told);
          shows = told_shows q b event c.ring n told;
          ranged = λ d p. subst (λ (items : ℕ → List Item). All IsInRange (items p)) (sym (moves.same.items d)) (kept.mail.ranged d p);
        };
        words = moves.are_words;
        seats = λ j d e. elim (at_set s.views id j (Receives w) d e) [
          | inl mine ↦ subst (IsSeat n q' s.homes) mine.1 moves.seat
          | inr old ↦ stays j d old.0 old.1
        ];
        apart = apart_set s.views kept.apart id (Receives v) seen (Receives w) fresh;
      };
      events_are = refl;
      pool_is = refl;
      core_is = refl;
    }

  -- ---- what the receiver knows after a step

  abbrev pub seat_with : Reader → (passed given : List Entry) → List (ℕ × Item) → Option Holding → ReceiverSeat
  seat_with reader passed given received hand =
      record { shape = v.shape; mailbox = v.mailbox; reader = reader; passed = passed; given = given; got = received; at_hand = hand; taken_in = v.taken_in }

  -- all but the senders that were taken in is new
  pub record Knows (event : Option Event) (n : Pooled) (reader : Reader) (passed given : List Entry) (received : List (ℕ × Item)) (hand : Option Holding) : Type 0 where
    pub reader_is : reader_in n b ≡ reader
    pub passed_is : passed_entries (later event m) ≡ passed
    pub given_is : (later event m).given ≡ given
    pub got_is : got (later event m) ≡ received
    pub holding : (h : Holding) → hand ≡ Some h → IsHolding n (later_in event b q) h × (h.mailbox ≡ b)
    pub alone : AreTakenIn v → IsAlone (later event m) reader.point

  -- With that it knows what a receiver knows.
  pub seat_after : (event : Option Event) (n : Pooled) → ButReader c n q (later_in event b q) b → (reader : Reader) (passed given : List Entry) (received : List (ℕ × Item)) (hand : Option Holding) → Knows event n reader passed given received hand
      → IsReceiverSeat n (later_in event b q) (seat_with reader passed given received hand)
  seat_after event n same reader passed given received hand knows =
      let box = later_own q b event in record {
        its_mailbox = record {
          shape = fits_on c n q (later_in event b q) b same v.shape own.its_mailbox.shape;
          within = own.its_mailbox.within;
          reader = knows.reader_is;
          passed = ap passed_entries box ∙ knows.passed_is;
          given = ap (λ (m : Mailbox). m.given) box ∙ knows.given_is;
          got = ap got box ∙ knows.got_is;
        };
        at_hand = knows.holding;
        taken_in = All-weaker (IsTakenIn c q) (IsTakenIn n (later_in event b q)) (taken_stays c n q (later_in event b q) b same) v.taken_in own.taken_in;
        ended = own.ended;
        alone = λ all. subst (λ m. IsAlone m reader.point) (sym box) (knows.alone all);
      }

  -- ---- a step that takes nothing and gives nothing back

  -- The receiver goes on, and has at hand what it had.
  pub record GoesOn (x : Step) (event : Option Event) (n : Pooled) (words : List ℕ) (reader : Reader) (passed : List Entry) : Type 0 where
    pub due : stepped_in c b x ≡ Some n
    pub event_is : event_in c q b x ≡ event
    pub same : ButReader c n q (later_in event b q) b
    pub are_words : AreWords shape n words
    pub reader_is : reader_in n b ≡ reader
    pub passed_is : passed_entries (later event m) ≡ passed
    pub given_is : (later event m).given ≡ m.given
    pub got_is : got (later event m) ≡ got m
    pub held : (p k : ℕ) → IsHeld m p k → IsHeld (later event m) p k
    pub alone : AreTakenIn v → IsAlone (later event m) reader.point

  -- So the rule is kept.
  pub gone_on : (x : Step) (event : Option Event) (n : Pooled) (words : List ℕ) (reader : Reader) (passed : List Entry) → GoesOn x event n words reader passed
      → KeepsOn shape s kept b x record { words = words; homes = s.homes; views = set s.views id (Receives (seat_with reader passed v.given v.got v.at_hand)) }
  gone_on x event n words reader passed goes =
      let still : (g : Holding) → IsHolding c q g → IsHolding n (later_in event b q) g = λ g was. still_holding c n q (later_in event b q) b goes.same g was (later_held q b event goes.held g.mailbox g.sender g.place was.held) in
      moved x event n words (seat_with reader passed v.given v.got v.at_hand) record {
        due = goes.due;
        event_is = goes.event_is;
        same = goes.same;
        are_words = goes.are_words;
        seat = seat_after event n goes.same reader passed v.given v.got v.at_hand record {
          reader_is = goes.reader_is;
          passed_is = goes.passed_is;
          given_is = goes.given_is ∙ own.its_mailbox.given;
          got_is = goes.got_is ∙ own.its_mailbox.got;
          holding = λ h hand. let was = own.at_hand h hand in (still h was.0, was.1);
          alone = goes.alone;
        };
        others = λ g free. still g;
        new = still_has;
      }
    where
      -- it has what it had
      still_has : (thing : Owned) → Has (Receives (seat_with reader passed v.given v.got v.at_hand)) thing → Has (Receives v) thing ⊎ ((a : ℕ) × (thing ≡ Node a) × ((g : Holding) → IsHolding c q g → ¬ (a ≡ g.node)))
      still_has (Part its) has = inl has
      still_has (Node node) has = inl has
