-- A mailbox of a table is as it was where what it reads is as it was: the nodes of entries that stand, their words, and where everyone is.
use Rattle.std.proofs.Common.{◌≡◌, ◌∙◌, ◌<◌, ℕ, List, true, false, length, ap, sym, refl, subst, arith}
use Rattle.std.specs.Prelude.{◌↔◌, slice_index_or}
use Rattle.std.proofs.lemmas.Bool.{false_from_ne_true, false≢true}
use Rattle.queue_core.specs.declared.entry.Entry.{Entry}
use Rattle.queue_core.specs.declared.entry.Entry.TheVariants.{Of, Stub}
use Rattle.queue_core.specs.declared.item.Item.{Item}
use Rattle.queue_core.specs.declared.item.Item.TheVariants.{End}
use Rattle.queue_core.specs.declared.sender.SenderPoint.{SenderPoint}
use Rattle.queue_core.specs.Items.{is_end}
use Rattle.queue_core.specs.declared.sender.SenderPoint.TheVariants as sends
use Rattle.queue_core.specs.declared.reader.ReaderPoint.{ReaderPoint}
use Rattle.queue_core.specs.declared.reader.ReaderPoint.TheVariants as reads
use Rattle.queue_core.specs.Mailbox.{IsHeld, Mailbox, is_among, item_at, left_entries, sent}
use Rattle.queue_core.specs.Chain.{IsChain, entry_at}
use Rattle.queue_core.specs.Links.{ComesAfter, IsAtHand, IsOwedByReader, IsOwedBySender, IsSending, IsTailAt, Links, ShowLinks, is_in_flight, last_of}
use Rattle.queue_core.specs.Box.{Box, HasStored, HoldsItem, IsStanding, ShowsBox}
use Rattle.queue_core.specs.Events.{Event, Leads}
use Rattle.queue_core.proofs.EventsKeep.{holds_after}
use Rattle.queue_core.proofs.ChainLemmas.{frame, renumber}
use Rattle.queue_core.proofs.Entries.{among_first, among_rest, read_among}
use Rattle.queue_core.proofs.LeftLemmas.{left_unpassed}
use Rattle.queue_core.proofs.MailboxHolds.{Holds, item_within}

-- Two tables give a mailbox the same to read: the nodes of its items, the words of what stands, and where everyone is.
pub record ReadsSame (m : Mailbox) (x y : Box) : Type 0 where
  pub node : (p k : ℕ) → k < length (m.items p) → y.links.node (Of p k) ≡ x.links.node (Of p k)
  pub stub : y.links.node Stub ≡ x.links.node Stub
  pub next : (e : Entry) → IsStanding m e → y.links.next (x.links.node e) ≡ x.links.next (x.links.node e)
  pub line : (e : Entry) → IsStanding m e → y.line (x.links.node e) ≡ x.line (x.links.node e)
  pub amount : (e : Entry) → IsStanding m e → y.amount (x.links.node e) ≡ x.amount (x.links.node e)
  pub head : y.links.head ≡ x.links.head
  pub tail : y.links.tail ≡ x.links.tail
  pub points : (p : ℕ) → y.links.points p ≡ x.links.points p
  pub point : y.links.point ≡ x.links.point
  pub senders : y.senders ≡ x.senders
  pub ended : (p : ℕ) → y.ended p ≡ x.ended p
  pub held : (n : ℕ) → y.held n ≡ x.held n

-- Then it shows what it showed: whatever is written elsewhere in the table, and however many mailboxes there are.
abbrev pub BoxStays : Type 0
BoxStays = (ring : ℕ) (events : List Event) (m : Mailbox) (x y : Box) → Leads ring events m → ReadsSame m x y → ShowsBox x m → ShowsBox y m

module _ (ring : ℕ) (m : Mailbox) (holds : Holds ring m) where
  -- what is left stands
  pub left_stands : (e : Entry) → is_among e (left_entries m) ≡ true → IsStanding m e
  left_stands (Of p k) left = (
    item_within m p (holds.turns p) k (among_rest (Of p k) m.passed m.order left),
    false_from_ne_true (is_among (Of p k) m.given) (λ given. false≢true (sym (left_unpassed ring m holds p k left) ∙ holds.reader.given_passed p k given)),
  )
  left_stands Stub left = tt

  -- and what is not exchanged in yet
  pub fresh_stands : (p : ℕ) → 0 < length (m.items p) → is_among (Of p (last_of m p)) m.order ≡ false → IsStanding m (Of p (last_of m p))
  fresh_stands p some new = (
    omega (arith, some),
    false_from_ne_true (is_among (Of p (last_of m p)) m.given) (λ given. false≢true (sym new ∙ among_first (Of p (last_of m p)) m.passed m.order (holds.reader.given_passed p (last_of m p) given))),
  )

module _ (ring : ℕ) (m : Mailbox) (holds : Holds ring m) (x : Box) (shows : ShowsBox x m) (y : Box)
    (node : (p k : ℕ) → k < length (m.items p) → y.links.node (Of p k) ≡ x.links.node (Of p k)) (stub : y.links.node Stub ≡ x.links.node Stub)
    (next : (e : Entry) → IsStanding m e → y.links.next (x.links.node e) ≡ x.links.next (x.links.node e))
    (head : y.links.head ≡ x.links.head) (tail : y.links.tail ≡ x.links.tail) (points : (p : ℕ) → y.links.points p ≡ x.links.points p) (point : y.links.point ≡ x.links.point) where
  abbrev k : Links
  k = x.links

  abbrev k' : Links
  k' = y.links

  node_is : (e : Entry) → IsStanding m e → k'.node e ≡ k.node e
  node_is (Of p j) stands = node p j stands.0
  node_is Stub stands = stub

  next_is : (e : Entry) → IsStanding m e → k'.next (k'.node e) ≡ k.next (k.node e)
  next_is e stands = ap k'.next (node_is e stands) ∙ next e stands

  left_is : (i : ℕ) → i < length (left_entries m) → IsStanding m (entry_at (left_entries m) i)
  left_is i low = left_stands ring m holds (entry_at (left_entries m) i) (read_among (left_entries m) i Stub low)

  chain : IsChain k'.node k'.next (is_in_flight m) k'.head k'.tail (left_entries m)
  chain =
      let moved = renumber k.node k.next (is_in_flight m) k.head k.tail (left_entries m) shows.links.chain k'.node (λ i low. node_is (entry_at (left_entries m) i) (left_is i low)) in
      let same = frame k'.node k.next (is_in_flight m) k.head k.tail (left_entries m) moved k'.next (is_in_flight m)
      (λ i low. next_is (entry_at (left_entries m) i) (left_is i low) ∙ ap k.next (sym (node_is (entry_at (left_entries m) i) (left_is i low)))) (λ i low. refl) in
      subst (λ h. IsChain k'.node k'.next (is_in_flight m) h k'.tail (left_entries m)) (sym head) (subst (λ t. IsChain k'.node k'.next (is_in_flight m) k.head t (left_entries m)) (sym tail) same)

  comes : (e : Entry) (n : ℕ) → ComesAfter k m e n → ComesAfter k' m e n
  comes e n after = (after.0, after.1, after.2, node_is (entry_at (left_entries m) after.0) (left_is after.0 (omega (arith, after.1))) ∙ after.3)

  owed : (p : ℕ) (pt : SenderPoint) → IsOwedBySender k m p pt → IsOwedBySender k' m p pt
  owed p pt = elim pt as (λ pt. IsOwedBySender k m p pt → IsOwedBySender k' m p pt) [
    | sends.Link i n ↦ λ o. (o.0, o.1, o.2, comes (Of p (last_of m p)) n o.3, o.4)
    | _ ↦ λ o. o
  ]

  hand : (p : ℕ) (pt : SenderPoint) → IsAtHand k m p pt → IsAtHand k' m p pt
  hand p pt = elim pt as (λ pt. IsAtHand k m p pt → IsAtHand k' m p pt) [
    | sends.Rest ↦ λ h. h
    | sends.Line i ↦ λ h. h
    | sends.Amount i ↦ λ h. h
    | sends.Null i ↦ λ h. h
    | sends.Swap i ↦ λ h. (h.0, next_is (Of p (last_of m p)) (fresh_stands ring m holds p h.0.0 h.0.2) ∙ h.1)
    | sends.Link i n ↦ λ h. h
  ]

  owed_reader : (pt : ReaderPoint) → IsOwedByReader k m pt → IsOwedByReader k' m pt
  owed_reader pt = elim pt as (λ pt. IsOwedByReader k m pt → IsOwedByReader k' m pt) [
    | reads.Link n ↦ λ o. (o.0, comes Stub n o.1)
    | _ ↦ λ o. o
  ]

  at_tail : (pt : ReaderPoint) → IsTailAt k m pt → IsTailAt k' m pt
  at_tail pt = elim pt as (λ pt. IsTailAt k m pt → IsTailAt k' m pt) [
    | reads.Rest ↦ λ h. h
    | reads.StubHead ↦ λ h. tail ∙ (h ∙ sym stub)
    | reads.Null ↦ λ h. (λ is. h.0 (sym tail ∙ (is ∙ stub)), h.1)
    | reads.Swap ↦ λ h. (λ is. h.0 (sym tail ∙ (is ∙ stub)), h.1, next_is Stub tt ∙ h.2)
    | _ ↦ λ h is. h (sym tail ∙ (is ∙ stub))
  ]

  pub links_frame : ShowLinks k' m
  links_frame = record {
    chain = chain;
    senders = λ p. subst (IsSending k' m p) (sym (points p)) record { in_flight = owed p (k.points p) (shows.links.senders p).in_flight; at_hand = hand p (k.points p) (shows.links.senders p).at_hand };
    reader = record {
      in_flight = subst (IsOwedByReader k' m) (sym point) (owed_reader k.point shows.links.reader.in_flight);
      at_tail = subst (IsTailAt k' m) (sym point) (at_tail k.point shows.links.reader.at_tail);
    };
  }

  module _ (line : (e : Entry) → IsStanding m e → y.line (k.node e) ≡ x.line (k.node e)) (amount : (e : Entry) → IsStanding m e → y.amount (k.node e) ≡ x.amount (k.node e))
      (senders : y.senders ≡ x.senders) (ended : (p : ℕ) → y.ended p ≡ x.ended p) (held : (n : ℕ) → y.held n ≡ x.held n) where
    words : (e : Entry) (item : Item) → IsStanding m e → HoldsItem x (k.node e) item → HoldsItem y (k'.node e) item
    words e item stands has = (ap y.line (node_is e stands) ∙ (line e stands ∙ has.0), ap y.amount (node_is e stands) ∙ (amount e stands ∙ has.1))

    stored : (p : ℕ) (pt : SenderPoint) → IsAtHand k m p pt → HasStored x (k.node (Of p (last_of m p))) pt → HasStored y (k'.node (Of p (last_of m p))) pt
    stored p pt = elim pt as (λ pt. IsAtHand k m p pt → HasStored x (k.node (Of p (last_of m p))) pt → HasStored y (k'.node (Of p (last_of m p))) pt) [
      | sends.Rest ↦ λ h s. tt
      | sends.Line i ↦ λ h s. tt
      | sends.Amount i ↦ λ h s. let stands = fresh_stands ring m holds p h.0 h.2 in ap y.line (node_is (Of p (last_of m p)) stands) ∙ (line (Of p (last_of m p)) stands ∙ s)
      | sends.Null i ↦ λ h s. words (Of p (last_of m p)) i (fresh_stands ring m holds p h.0 h.2) s
      | sends.Swap i ↦ λ h s. words (Of p (last_of m p)) i (fresh_stands ring m holds p h.0.0 h.0.2) s
      | sends.Link i n ↦ λ h s. tt
    ]

    within : (p j : ℕ) → IsHeld m p j → j < length (m.items p)
    within p j is = item_within m p (holds.turns p) j (among_first (Of p j) m.passed m.order is.passed)

    pub box_frame : ShowsBox y m
    box_frame = record {
      links = links_frame;
      ended = λ p low. subst (λ b. (b ≡ true) ↔ ((k : ℕ) × (k < length (sent m p)) × (is_end (slice_index_or (sent m p) k End) ≡ true))) (sym (ended p)) (shows.ended p (omega (arith, low, senders)));
      no_others = λ p past. shows.no_others p (omega (arith, past, senders));
      held = λ n. (
        λ is. let found = (shows.held n).0 (sym (held n) ∙ is) in (found.0, found.1, found.2, node found.0 found.1 (within found.0 found.1 found.2) ∙ found.3),
        λ found. held n ∙ (shows.held n).1 (found.0, found.1, found.2, sym (node found.0 found.1 (within found.0 found.1 found.2)) ∙ found.3),
      );
      stored = λ p low. subst (HasStored y (k'.node (Of p (last_of m p)))) (sym (points p)) (stored p (k.points p) (shows.links.senders p).at_hand (shows.stored p (omega (arith, low, senders))));
      kept = λ p j among not_given. words (Of p j) (item_at m p j) (item_within m p (holds.turns p) j among, not_given) (shows.kept p j among not_given);
    }

pub box_stays : BoxStays
box_stays ring events m x y leads same shows =
    box_frame ring m (holds_after ring events m leads) x shows y same.node same.stub same.next same.head same.tail same.points same.point same.line same.amount same.senders same.ended same.held
