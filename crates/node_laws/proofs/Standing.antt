-- What stands in a table of nodes, and what its seats know.
use Rattle.std.proofs.Common.{◌≡◌, ◌∙◌, ◌<◌, ◌+◌, ◌++◌, ℕ, List, drop, length, take, true, ap, inl, inr, subst, sym, arith}
use Rattle.std.specs.Prelude.{◌%◌, slice_index_or}
use Rattle.std.proofs.lemmas.List.{take-append-drop}
use Rattle.std.proofs.lemmas.List.Elements.{All-contains}
use Rattle.atomic_table.specs.Table.{State}
use Rattle.queue_core.specs.declared.entry.Entry.TheVariants.{Of}
use Rattle.queue_core.specs.declared.item.Item.{Item}
use Rattle.queue_core.specs.declared.item.Item.TheVariants.{End}
use Rattle.queue_core.specs.Box.{HoldsItem}
use Rattle.queue_core.specs.Items.{is_end}
use Rattle.queue_core.specs.Mailbox.{Mailbox, got_of, passed_entries}
use Rattle.queue_core.specs.Pool.{Pool}
use Rattle.queue_core.specs.Pooled.{Pooled}
use Rattle.queue_core.specs.PoolShows.{box_in}
use Rattle.queue_core.proofs.Entries.{count_own}
use Rattle.queue_core.proofs.MailboxHolds.{Holds, has_sent, passed_sent}
use Rattle.queue_core.proofs.PoolKept.{holds_in}
use Rattle.queue_core.proofs.PoolNodes.{apart_in, before_stubs, no_others}
use Rattle.queue_core.proofs.PoolPosts.{held_alone, posts_after}
use Rattle.queue_core.proofs.PoolTells.{held_tells}
use Rattle.queue_core.proofs.ReceivedLemmas.{got_first}
use Rattle.node_table.specs.declared.seats.Holding.{Holding}
use Rattle.node_table.specs.declared.seats.Known.{Known}
use Rattle.node_table.specs.declared.seats.Known.TheVariants as known
use Rattle.node_table.specs.declared.seats.Posting.{Posting}
use Rattle.node_table.specs.declared.seats.ReceiverSeat.{ReceiverSeat}
use Rattle.node_table.specs.declared.seats.SenderSeat.{SenderSeat}
use Rattle.node_table.specs.declared.seats.Shape.{Shape}
use Rattle.node_table.specs.Rule.{KeepsNodes}
use Rattle.node_table.specs.Seats.{IsHolding, IsSenderSeat, IsTakenIn, KnowsMailbox, got_in, items_in}
use Rattle.node_table.specs.Seats.Owned.{Node}
use Rattle.node_table.proofs.AtHandSteps.{held_stands}
use Rattle.node_laws.specs.States.{BeginsWhatWasFilled, HeldNodesDiffer, HeldNodesStand, IsHeldIn, ReceivedBeginsFilled, Receiving, Sending, StandsAlone}

module _ (shape : Shape) (s : State Posting Known) (kept : KeepsNodes shape s) where
  abbrev c : Pooled
  c = kept.core

  abbrev q : Pool
  q = kept.pool

  holds : (b : ℕ) → Holds c.ring (q.boxes b)
  holds = holds_in c kept.mail.pooled kept.events q kept.mail.leads kept.mail.shows 0 kept.mail.pooled.some_mailboxes

  -- ---- what was received

  knows : (r : ReceiverSeat) → Receiving s.views r → KnowsMailbox c q r
  knows r (inl (seat, seen)) = (kept.seats seat (known.Receives r) seen).its_mailbox
  knows r (inr (seat, tally, seen, among)) = All-contains (KnowsMailbox c q) tally.gathered r (kept.seats seat (known.Tallies tally) seen).gathered among

  sends : (a : SenderSeat) → Sending s.views a → IsSenderSeat c q a
  sends a (inl (seat, seen)) = kept.seats seat (known.Sends a) seen
  sends a (inr (inl (seat, r, seen, among))) = (All-contains (IsTakenIn c q) r.taken_in a (kept.seats seat (known.Receives r) seen).taken_in among).seat
  sends a (inr (inr (seat, tally, seen, among))) = (All-contains (IsTakenIn c q) tally.taken_in a (kept.seats seat (known.Tallies tally) seen).taken_in among).seat

  begins : (r : ReceiverSeat) (a : SenderSeat) → KnowsMailbox c q r → IsSenderSeat c q a → BeginsWhatWasFilled r a
  begins r a its is =
      let p = a.number in
      let m : Mailbox = q.boxes r.mailbox in
      let turns = (holds r.mailbox).turns p in
      let n = (has_sent m p turns).0 in
      let has = (has_sent m p turns).1 in
      let y = count_own p (passed_entries m) in
      let some = passed_sent m p turns (holds r.mailbox).reader n has in
      let first : got_of m p ≡ take y (m.items p) = got_first c.ring m (holds r.mailbox) p (omega (arith, some, has.exchanged, turns.filled_first)) in
      let received : take y (m.items p) ≡ got_in r.got p = sym first ∙ ap (λ pairs. got_in pairs p) its.got in
      let filled : m.items p ≡ items_in r.mailbox a.filled = is.items r.mailbox in
      let rest = drop y (m.items p) in
      record {
        begins = (rest, sym filled ∙ (sym (take-append-drop y (m.items p)) ∙ ap (λ (l : List Item). l ++ rest) received));
        end_is_last =
            subst (λ (l : List Item). (k : ℕ) → k < length l → is_end (slice_index_or l k End) ≡ true → k + 1 ≡ length l) filled
            ((holds r.mailbox).slots p).end_last;
      }

  -- ---- what is held

  holding : (h : Holding) → IsHeldIn s.views h → IsHolding c q h
  holding h (inl (seat, seen)) = kept.seats seat (known.Holds h) seen
  holding h (inr (seat, r, seen, hand)) = ((kept.seats seat (known.Receives r) seen).at_hand h hand).0

  stands : (h : Holding) → IsHolding c q h → StandsAlone shape s kept h
  stands h is =
      let ok = kept.mail.pooled in
      let within = held_stands c.ring (q.boxes h.mailbox) (holds h.mailbox) h.sender h.place is.held in
      let words : HoldsItem (box_in c q h.mailbox) h.node h.item =
      subst (λ (x : ℕ × Item). HoldsItem (box_in c q h.mailbox) x.0 x.1) (λ i. (is.node i, is.item i))
      (held_tells kept.events q c h.mailbox h.sender h.place ok kept.mail.leads kept.mail.shows is.mailbox is.held) in
      let under = before_stubs c ok q (posts_after c.ring ok.some_nodes kept.events q kept.mail.leads) holds (no_others c q kept.mail.shows) h.mailbox h.sender h.place is.mailbox within in
      let low : h.node < length c.nodes = omega (arith, under, is.node, ok.nodes) in
      record {
        line = kept.words.line h.node low ∙ words.0;
        amount = kept.words.amount h.node low ∙ words.1;
        alone = λ b p k there filled not_given same. apart_in kept.events q c ok kept.mail.leads kept.mail.shows b h.mailbox (omega (arith, there, kept.mail.fits.mailboxes)) is.mailbox
            (Of p k) (Of h.sender h.place) (filled, not_given) within (same ∙ sym is.node);
        no_later = λ j i at before there same. held_alone c.ring ok.some_nodes kept.events q kept.mail.leads h.mailbox h.sender h.place is.held j i at before there
            (subst (λ (ring : ℕ). i % ring ≡ j % ring) (sym kept.mail.fits.ring) same);
      }

pub received : ReceivedBeginsFilled
received shape s kept r a receives sends_it = begins shape s kept r a (knows shape s kept r receives) (sends shape s kept a sends_it)

pub held : HeldNodesStand
held shape s kept h is = stands shape s kept h (holding shape s kept h is)

pub apart : HeldNodesDiffer
apart shape s kept seat other v w n here there differ = kept.apart seat other v w (Node n) here there differ
