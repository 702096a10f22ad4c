-- Seats at a table of nodes are cut in two and put together: the core, the pool, the words and what all other seats know stay as they were.
use Rattle.std.proofs.Common.{[], ap, arith, inl, inr, List, None, Option, refl, set, Some, subst, sym, true, ℕ, ◌++◌, ◌+◌, ◌<◌, ◌∙◌, ◌∷◌, ◌≡◌, ◌≤◌, ◌⊎◌}
use Rattle.std.proofs.lemmas.List.Elements.{All-cons}
use Rattle.std.proofs.lemmas.Option.{none-some}
use mathlib.Core.Option.{some}
use lib.ListN.{get_elem?}
use Rattle.atomic_table.specs.Table.{Me, State}
use Rattle.atomic_table.proofs.Lists.{set_else}
use Rattle.queue_core.specs.declared.reader.ReaderPoint.TheVariants as reads
use Rattle.queue_core.specs.declared.sender.SenderPoint.TheVariants as sends
use Rattle.queue_core.specs.Pool.{Pool}
use Rattle.queue_core.specs.Pooled.{Pooled}
use Rattle.node_table.specs.declared.seats.Holding.{Holding}
use Rattle.node_table.specs.declared.seats.Known.{Known}
use Rattle.node_table.specs.declared.seats.Known.TheVariants.{Sends, Receives, Holds, Tallies, Gone}
use Rattle.node_table.specs.declared.seats.Posting.{Posting}
use Rattle.node_table.specs.declared.seats.ReceiverSeat.{ReceiverSeat}
use Rattle.node_table.specs.declared.seats.SenderSeat.{SenderSeat}
use Rattle.node_table.specs.declared.seats.Shape.{Shape}
use Rattle.node_table.specs.declared.seats.TallySeat.{TallySeat}
use Rattle.node_table.specs.Seats.{HasEndedEverywhere, Owned, Has, has_ended, KnowsMailbox, IsHolding, IsPartIn, IsPartOf, IsReceiverSeat, IsSeat, IsSenderSeat, IsTakenIn, IsTallySeat}
use Rattle.node_table.specs.Seats.Owned.{Part, Node}
use Rattle.node_table.specs.Rule.{JoinsStill, KeepsAs, KeepsNodes, SplitsStill, opened_tally}
use Rattle.node_table.specs.Tells.{after_deal, after_hand, dealt, gathered, hand_of, handed, taken_back, taken_in, tallied, with_hand}
use Rattle.node_table.specs.Asks.{IsTakingIn, IsDealing, IsGathering, IsHandingOut, IsTakingBack, IsTallying, holding_in, receiver_in, sender_in, tally_in}
use Rattle.node_table.proofs.Owned.{apart_join, apart_split, read_join, read_split}

-- ---- what is to be shown of a cut, and of a join

module _ (shape : Shape) (id : ℕ) (known : Known) (s : State Posting Known) (kept : KeepsNodes shape s) (seen : get_elem? s.views id ≡ some known) where
  abbrev Knows : Known → Type 0
  Knows = IsSeat kept.core kept.pool s.homes

  cut_keeps : (left right : Known) → Knows left → Knows right → ((thing : Owned) → Has left thing → Has known thing) → ((thing : Owned) → Has right thing → Has known thing) → ((thing : Owned) → Has left thing → ¬ Has right thing)
      → KeepsAs shape kept.events kept.pool kept.core record { words = s.words; homes = s.homes; views = set s.views id left ++ right ∷ [] }
  cut_keeps left right knows_left knows_right from_left from_right differ = record {
    rule = record {
      events = kept.events;
      pool = kept.pool;
      core = kept.core;
      mail = kept.mail;
      words = kept.words;
      seats = λ j d e. elim (read_split s.views id left right j d e) [
        | inl mine ↦ subst Knows mine.1 knows_left
        | inr (inl old) ↦ kept.seats j d old.1
        | inr (inr last) ↦ subst Knows last.1 knows_right
      ];
      apart = apart_split s.views kept.apart id known seen left right from_left from_right differ;
    };
    events_are = refl;
    pool_is = refl;
    core_is = refl;
  }

  -- the other seat's view is read after the own one has changed
  join_keeps : (other : ℕ) (was both : Known) → ¬ (other ≡ id) → get_elem? (set s.views id both) other ≡ some was → (Knows was → Knows both) → ((thing : Owned) → Has both thing → Has known thing ⊎ Has was thing)
      → KeepsAs shape kept.events kept.pool kept.core record { words = s.words; homes = s.homes; views = set (set s.views id both) other Gone }
  join_keeps other was both apart there knows from =
      let at : get_elem? s.views other ≡ some was = sym (set_else s.views id other both apart) ∙ there in
      record {
        rule = record {
          events = kept.events;
          pool = kept.pool;
          core = kept.core;
          mail = kept.mail;
          words = kept.words;
          seats = λ j d e. elim (read_join s.views id other both Gone j d e) [
            | inl mine ↦ subst Knows mine.1 (knows (kept.seats other was at))
            | inr (inl old) ↦ kept.seats j d old.2
            | inr (inr out) ↦ subst Knows out.1 tt
          ];
          apart = apart_join s.views kept.apart id known seen other was both at from;
        };
        events_are = refl;
        pool_is = refl;
        core_is = refl;
      }

-- ---- what the parts have

-- the tally that has dealt a seat has what it had
left_had : (v : TallySeat) (thing : Owned) → Has (after_deal (Tallies v)) thing → Has (Tallies v) thing
left_had v (Part part) has = elim has [
  | inl first ↦ inl first
  | inr (inl late) ↦ inr (inl (omega (arith, late)))
  | inr (inr its) ↦ inr (inr its)
]
left_had v (Node n) has = has

-- the seat that was dealt has a part that the tally had
dealt_had : (v : TallySeat) (thing : Owned) → Has (dealt (Tallies v)) thing → Has (Tallies v) thing
dealt_had v (Part part) has = inr (inl (omega (arith, has)))
dealt_had v (Node n) has = has

-- which the tally has no more, where the seats that it gathered and took in were dealt before
dealt_differ : (v : TallySeat) → ((part : ℕ) → IsPartOf v.gathered part ⊎ IsPartIn v.taken_in part → part ≤ v.dealt) → (thing : Owned) → Has (after_deal (Tallies v)) thing → ¬ Has (dealt (Tallies v)) thing
dealt_differ v early (Part part) has is = elim has [
  | inl first ↦ omega (arith, first, is)
  | inr (inl late) ↦ omega (arith, late, is)
  | inr (inr its) ↦ omega (arith, early part its, is)
]
dealt_differ v early (Node n) has is = is

-- a receiver that has handed out what it had at hand has its parts still, and the new seat has the node
hand_left : (v : ReceiverSeat) (thing : Owned) → Has (Receives (with_hand None v)) thing → Has (Receives v) thing
hand_left v (Part part) has = has
hand_left v (Node n) has = absurd (none-some has.0 has.1)

hand_had : (v : ReceiverSeat) (h : Holding) → v.at_hand ≡ Some h → (thing : Owned) → Has (Holds h) thing → Has (Receives v) thing
hand_had v h hand (Part part) has = absurd has
hand_had v h hand (Node n) has = (h, hand, has)

hand_differ : (v : ReceiverSeat) (h : Holding) (thing : Owned) → Has (Receives (with_hand None v)) thing → ¬ Has (Holds h) thing
hand_differ v h (Part part) has is = is
hand_differ v h (Node n) has is = none-some has.0 has.1

-- what is in two equal options is equal
some_same : (h g : Holding) → Some h ≡ Some g → h ≡ g
some_same h g e = cc

back_from : (v : ReceiverSeat) (h : Holding) (thing : Owned) → Has (Receives (with_hand (Some h) v)) thing → Has (Receives v) thing ⊎ Has (Holds h) thing
back_from v h (Part part) has = inl has
back_from v h (Node n) has = inr (ap (λ (x : Holding). x.node) (some_same h has.0 has.1) ∙ has.2)

-- whoever takes a sender in has its part too
in_from : (v : ReceiverSeat) (a : SenderSeat) (thing : Owned) → Has (taken_in (Receives v) (Sends a)) thing → Has (Receives v) thing ⊎ Has (Sends a) thing
in_from v a (Part part) has = elim has [
  | inl own ↦ inl (inl own)
  | inr (inl its) ↦ inr its
  | inr (inr old) ↦ inl (inr old)
]
in_from v a (Node n) has = inl has

tallied_from : (v : TallySeat) (a : SenderSeat) (thing : Owned) → Has (tallied (Tallies v) (Sends a)) thing → Has (Tallies v) thing ⊎ Has (Sends a) thing
tallied_from v a (Part part) has = elim has [
  | inl first ↦ inl (inl first)
  | inr (inl late) ↦ inl (inr (inl late))
  | inr (inr (inl old)) ↦ inl (inr (inr (inl old)))
  | inr (inr (inr (inl its))) ↦ inr its
  | inr (inr (inr (inr old))) ↦ inl (inr (inr (inr old)))
]
tallied_from v a (Node n) has = inl has

-- and the tally that gathers a receiver has that one's
gathered_from : (v : TallySeat) (a : ReceiverSeat) (thing : Owned) → Has (gathered (Tallies v) (Receives a)) thing → Has (Tallies v) thing ⊎ Has (Receives a) thing
gathered_from v a (Part part) has = elim has [
  | inl first ↦ inl (inl first)
  | inr (inl late) ↦ inl (inr (inl late))
  | inr (inr (inl (inl its))) ↦ inr (inl its)
  | inr (inr (inl (inr old))) ↦ inl (inr (inr (inl old)))
  | inr (inr (inr old)) ↦ inl (inr (inr (inr old)))
]
gathered_from v a (Node n) has = absurd has

-- ---- what the parts know

module _ (c : Pooled) (q : Pool) where
  -- what a receiver knows of its mailbox does not turn on what it has at hand, or on whom it took in
  still_knows : (v : ReceiverSeat) (hand : Option Holding) (seats : List SenderSeat) → KnowsMailbox c q v → KnowsMailbox c q (record v { at_hand = hand; taken_in = seats })
  still_knows v hand seats was =
      record { shape = was.shape; within = was.within; reader = was.reader; passed = was.passed; given = was.given; got = was.got }

  -- a receiver with something else at hand
  with_hand_is : (v : ReceiverSeat) (hand : Option Holding) → ((h : Holding) → hand ≡ Some h → IsHolding c q h × (h.mailbox ≡ v.mailbox)) → IsReceiverSeat c q v → IsReceiverSeat c q (with_hand hand v)
  with_hand_is v hand holds was = record {
    its_mailbox = still_knows v hand v.taken_in was.its_mailbox;
    at_hand = holds;
    taken_in = was.taken_in;
    ended = was.ended;
    alone = was.alone;
  }

  -- a sender in no call may be taken in
  taken : (a : SenderSeat) → a.caller.point ≡ sends.Rest → IsSenderSeat c q a → IsTakenIn c q a
  taken a rest its = record { seat = its; rest = rest }

-- ---- seats are cut in two and put together

module _ (shape : Shape) (id : ℕ) where
  seat_deals : (v : TallySeat) → v.dealt < v.shape.senders + v.shape.mailboxes → ((part : ℕ) → IsPartOf v.gathered part ⊎ IsPartIn v.taken_in part → part ≤ v.dealt)
      → SplitsStill shape id (Tallies v) (after_deal (Tallies v)) (dealt (Tallies v))
  seat_deals v more early s kept seen =
      let was : IsTallySeat kept.core kept.pool s.homes v = kept.seats id (Tallies v) seen in
      cut_keeps shape id (Tallies v) s kept seen (after_deal (Tallies v)) (dealt (Tallies v))
      record { shape = was.shape; waiting = λ turn late low. was.waiting turn (omega (arith, late)) low; gathered = was.gathered; taken_in = was.taken_in; ended = was.ended }
      record { shape_is = was.shape; within = more; new = was.waiting v.dealt (omega arith) more }
      (left_had v) (dealt_had v) (dealt_differ v early)

  hands_out : (v : ReceiverSeat) (h : Holding) → v.at_hand ≡ Some h → SplitsStill shape id (Receives v) (after_hand (Receives v)) (hand_of (Receives v))
  hands_out v h hand = subst (λ o. SplitsStill shape id (Receives v) (after_hand (Receives v)) (handed o)) (sym hand) (λ s kept seen.
      let was : IsReceiverSeat kept.core kept.pool v = kept.seats id (Receives v) seen in
      cut_keeps shape id (Receives v) s kept seen (after_hand (Receives v)) (Holds h) (with_hand_is kept.core kept.pool v None (λ g none. absurd (none-some g none)) was) (was.at_hand h hand).0 (hand_left v) (hand_had v h hand) (hand_differ v h))

  takes_back : (v : ReceiverSeat) (other : ℕ) (h : Holding) → h.mailbox ≡ v.mailbox → JoinsStill shape id (Receives v) other (Holds h) (taken_back (Receives v) (Holds h)) Gone
  takes_back v other h same s kept seen apart there =
      join_keeps shape id (Receives v) s kept seen other (Holds h) (taken_back (Receives v) (Holds h)) apart there
      (λ held. with_hand_is kept.core kept.pool v (Some h) (λ g is. subst (λ (x : Holding). IsHolding kept.core kept.pool x × (x.mailbox ≡ v.mailbox)) (some_same h g is) (held, same)) (kept.seats id (Receives v) seen))
      (back_from v h)

  takes_in : (v : ReceiverSeat) (other : ℕ) (a : SenderSeat) → v.reader.point ≡ reads.Rest → a.caller.point ≡ sends.Rest → has_ended a v.mailbox ≡ true → JoinsStill shape id (Receives v) other (Sends a) (taken_in (Receives v) (Sends a)) Gone
  takes_in v other a at rest over s kept seen apart there =
      let c : Pooled = kept.core in
      let q : Pool = kept.pool in
      let was : IsReceiverSeat c q v = kept.seats id (Receives v) seen in
      join_keeps shape id (Receives v) s kept seen other (Sends a) (taken_in (Receives v) (Sends a)) apart there
      (λ its. record {
        its_mailbox = still_knows c q v v.at_hand (a ∷ v.taken_in) was.its_mailbox;
        at_hand = was.at_hand;
        taken_in = All-cons (IsTakenIn c q) a v.taken_in (taken c q a rest its) was.taken_in;
        ended = All-cons (λ (a : SenderSeat). has_ended a v.mailbox ≡ true) a v.taken_in over was.ended;
        alone = λ all. rw at tt;
      })
      (in_from v a)

  gathers : (v : TallySeat) (other : ℕ) (a : ReceiverSeat) → JoinsStill shape id (Tallies v) other (Receives a) (gathered (Tallies v) (Receives a)) Gone
  gathers v other a s kept seen apart there =
      let c : Pooled = kept.core in
      let q : Pool = kept.pool in
      let was : IsTallySeat c q s.homes v = kept.seats id (Tallies v) seen in
      join_keeps shape id (Tallies v) s kept seen other (Receives a) (gathered (Tallies v) (Receives a)) apart there
      (λ its. record {
        shape = was.shape;
        waiting = was.waiting;
        gathered = All-cons (KnowsMailbox c q) a v.gathered its.its_mailbox was.gathered;
        taken_in = was.taken_in;
        ended = was.ended;
      })
      (gathered_from v a)

  tallies_in : (v : TallySeat) (other : ℕ) (a : SenderSeat) → a.caller.point ≡ sends.Rest → HasEndedEverywhere a → JoinsStill shape id (Tallies v) other (Sends a) (tallied (Tallies v) (Sends a)) Gone
  tallies_in v other a rest over s kept seen apart there =
      let c : Pooled = kept.core in
      let q : Pool = kept.pool in
      let was : IsTallySeat c q s.homes v = kept.seats id (Tallies v) seen in
      join_keeps shape id (Tallies v) s kept seen other (Sends a) (tallied (Tallies v) (Sends a)) apart there
      (λ its. record {
        shape = was.shape;
        waiting = was.waiting;
        gathered = was.gathered;
        taken_in = All-cons (IsTakenIn c q) a v.taken_in (taken c q a rest its) was.taken_in;
        ended = All-cons HasEndedEverywhere a v.taken_in over was.ended;
      })
      (tallied_from v a)

-- ---- the same as the functions ask for it

-- what a seat knows
known_is : (me : Me Posting Known) (known : Known) → me ≡ (known, []) → known ≡ me.0
known_is me known is = ap (λ (x : Me Posting Known). x.0) (sym is)

module _ (shape : Shape) (id : ℕ) (me : Me Posting Known) where
  pub deals : IsDealing me → SplitsStill shape id me.0 (after_deal me.0) (dealt me.0)
  deals at =
      let v = opened_tally (tally_in me.0).shape (tally_in me.0).dealt in
      subst (λ (x : Known). SplitsStill shape id x (after_deal x) (dealt x)) (known_is me (Tallies v) at.is_tally) (seat_deals shape id v at.more (λ part has. elim has [
        | inl nobody ↦ absurd nobody
        | inr nobody ↦ absurd nobody
      ]))

  pub hands : IsHandingOut me → SplitsStill shape id me.0 (after_hand me.0) (hand_of me.0)
  hands at =
      subst (λ (x : Known). SplitsStill shape id x (after_hand x) (hand_of x)) (known_is me (Receives (receiver_in me.0)) at.is_receiver) (hands_out shape id (receiver_in me.0) at.holding at.hand)

  module _ (other : ℕ) (them : Me Posting Known) where
    -- of two seats by what each knows
    both_known : (known was : Known) (both : Known → Known → Known) → me ≡ (known, []) → them ≡ (was, []) → JoinsStill shape id known other was (both known was) Gone
        → JoinsStill shape id me.0 other them.0 (both me.0 them.0) Gone
    both_known known was both mine theirs joins =
        let own = known_is me known mine in
        let its = known_is them was theirs in
        subst (λ (x : Known × Known). JoinsStill shape id x.0 other x.1 (both x.0 x.1) Gone) (λ i. (own i, its i)) joins

    pub gets_back : IsTakingBack me them → JoinsStill shape id me.0 other them.0 (taken_back me.0 them.0) Gone
    gets_back at = both_known (Receives (receiver_in me.0)) (Holds (holding_in them.0)) taken_back at.is_receiver at.held (takes_back shape id (receiver_in me.0) other (holding_in them.0) at.same)

    pub gets_in : IsTakingIn me them → JoinsStill shape id me.0 other them.0 (taken_in me.0 them.0) Gone
    gets_in at =
        both_known (Receives (receiver_in me.0)) (Sends (sender_in them.0)) taken_in at.receiver.is_receiver at.sender.is (takes_in shape id (receiver_in me.0) other (sender_in them.0) at.receiver.rest at.sender.rest at.ended)

    pub gathers_in : IsGathering me them → JoinsStill shape id me.0 other them.0 (gathered me.0 them.0) Gone
    gathers_in at = both_known (Tallies (tally_in me.0)) (Receives (receiver_in them.0)) gathered at.is_tally at.receiver (gathers shape id (tally_in me.0) other (receiver_in them.0))

    pub counts_in : IsTallying me them → JoinsStill shape id me.0 other them.0 (tallied me.0 them.0) Gone
    counts_in at = both_known (Tallies (tally_in me.0)) (Sends (sender_in them.0)) tallied at.is_tally at.sender.is (tallies_in shape id (tally_in me.0) other (sender_in them.0) at.sender.rest at.ended)
