-- A sender that may fill an item has filled it: what is kept, and what the links show of it.
use Rattle.std.proofs.Common.{◌≡◌, ◌∙◌, ◌<◌, ◌+◌, ◌++◌, ◌∷◌, [], ℕ, true, false, List, filter, length, take, map, refl, ap, sym, subst, inl, inr, arith}
use Rattle.std.specs.Prelude.{slice_index_or}
use Rattle.std.specs.List.{enumerate_from}
use Rattle.std.proofs.lemmas.Bool.{cases_eq, false_from_ne_true}
use Rattle.std.proofs.lemmas.List.{take-append-le, take_all}
use Rattle.queue_core.specs.declared.entry.Entry.{Entry}
use Rattle.queue_core.specs.declared.entry.Entry.TheVariants.{Of, Stub}
use Rattle.queue_core.specs.declared.item.Item.{Item}
use Rattle.queue_core.specs.declared.item.Item.TheVariants.{End}
use Rattle.queue_core.specs.declared.sender.SenderPoint.{SenderPoint}
use Rattle.queue_core.specs.declared.sender.SenderPoint.TheVariants as sends
use Rattle.queue_core.specs.declared.reader.ReaderPoint.{ReaderPoint}
use Rattle.queue_core.specs.declared.reader.ReaderPoint.TheVariants as reads
use Rattle.queue_core.specs.Mailbox.{Mailbox, is_among, is_linked, item_at, left_entries, sent}
use Rattle.queue_core.specs.Events.{MayExchange, MayFill, after}
use Rattle.queue_core.specs.Events.Event.{Fill}
use Rattle.queue_core.specs.Chain.{IsChain, entry_at}
use Rattle.queue_core.specs.Links.{ComesAfter, IsAtHand, IsFilled, IsOwedByReader, IsOwedBySender, IsSending, IsTailAt, Links, ShowLinks, is_in_flight, last_of}
use Rattle.queue_core.proofs.ChainLemmas.{renumber}
use Rattle.queue_core.proofs.Entries.{among_rest, count_own, read_among, turn_among}
use Rattle.queue_core.proofs.EventsKeep.{fill_keeps, its_items, long, new_item, old_item, other_items}
use Rattle.queue_core.proofs.MailboxHolds.{Holds, all_sent, item_within, sent_linked}

module _ (ring : ℕ) (m : Mailbox) (holds : Holds ring m) (p : ℕ) (item : Item) (may : MayFill ring m p item) where
  abbrev m' : Mailbox
  m' = after (Fill p item) m

  its : (q : ℕ) → q ≡ p → m'.items q ≡ m.items q ++ item ∷ []
  its = its_items ring m holds p item may

  others : (q : ℕ) → ¬ (q ≡ p) → m'.items q ≡ m.items q
  others = other_items ring m holds p item may

  -- an item that was there is there
  item_kept : (q j : ℕ) → (q ≡ p → j < length (m.items p)) → item_at m' q j ≡ item_at m q j
  item_kept q j old = elim (cases_eq q p) [
    | inl same ↦ subst (λ (q : ℕ). item_at m' q j ≡ item_at m q j) (sym same) (ap (λ xs. slice_index_or xs j End) (its p refl) ∙ old_item ring m holds p item may j (old same))
    | inr other ↦ ap (λ xs. slice_index_or xs j End) (others q other)
  ]

  -- what was exchanged in was there
  placed : (q j : ℕ) → is_among (Of q j) m.order ≡ true → q ≡ p → j < length (m.items p)
  placed q j among same = subst (λ (q : ℕ). j < length (m.items q)) same (item_within m q (holds.turns q) j among)

  -- and its item is as it was
  pub item_placed : (q j : ℕ) → is_among (Of q j) m.order ≡ true → item_at m' q j ≡ item_at m q j
  item_placed q j among = item_kept q j (placed q j among)

  -- ---- what is sent

  all : (count_own p m.order ≡ length (m.items p)) × ((j : ℕ) → is_in_flight m (Of p j) ≡ false)
  all = all_sent m p (holds.turns p) may.all_sent

  pub same_sent : (q : ℕ) → sent m' q ≡ sent m q
  same_sent q = elim (cases_eq q p) [
    | inl same ↦ subst (λ (q : ℕ). sent m' q ≡ sent m q) (sym same) own
    | inr other ↦ ap (λ xs. map (λ placed. placed.1) (filter (λ placed. is_linked m (Of q placed.0)) (enumerate_from 0 xs))) (others q other)
  ]
    where
      own : sent m' p ≡ sent m p
      own =
          let holds' = fill_keeps ring m holds p item may in
          let count : ℕ = count_own p m.order in
          sent_linked m' p (holds'.turns p) all.1
          ∙ (ap (take count) (its p refl) ∙ (take-append-le count (m.items p) (item ∷ []) (omega (arith, all.0)) ∙ (take_all count (m.items p) (omega (arith, all.0)) ∙ sym may.all_sent)))

  -- ---- the sender that has filled it

  more : length (m'.items p) ≡ length (m.items p) + 1
  more = ap (λ (xs : List Item). length xs) (its p refl) ∙ long ring m holds p item may

  last_is : last_of m' p ≡ length (m.items p)
  last_is = omega (arith, more)

  -- the new item is the last of its sender
  pub new_is : item_at m' p (last_of m' p) ≡ item
  new_is = rw last_is (ap (λ xs. slice_index_or xs (length (m.items p)) End) (its p refl) ∙ new_item ring m holds p item may (length (m.items p)) refl)

  -- and not exchanged in
  pub new_waits : MayExchange m' p
  new_waits = record {
    some = omega (arith, more);
    new = false_from_ne_true (is_among (Of p (last_of m' p)) m.order) (λ among. let low = placed p (last_of m' p) among refl in omega (arith, low, last_is));
  }

  filled : IsFilled m' p item
  filled = (new_waits.some, new_is, new_waits.new, λ j low. turn_among p j m.order (holds.turns p).one_by_one (omega (arith, low, last_is, all.0)))

  module _ (k : Links) where
    pub at_line : IsSending k m' p (sends.Line item)
    at_line = record { in_flight = all.1; at_hand = filled }

  -- ---- the links

  module _ (k : Links) (shows : ShowLinks k m) (node : Entry → ℕ) (points : ℕ → SenderPoint) (stub_same : node Stub ≡ k.node Stub) (node_same : (q j : ℕ) → (q ≡ p → j < length (m.items p)) → node (Of q j) ≡ k.node (Of q j)) where
    abbrev k' : Links
    k' = record { node = node; next = k.next; head = k.head; tail = k.tail; points = points; point = k.point }

    node_kept : (e : Entry) → is_among e m.order ≡ true → node e ≡ k.node e
    node_kept (Of q j) among = node_same q j (placed q j among)
    node_kept Stub among = stub_same

    node_left : (i : ℕ) → i < length (left_entries m) → node (entry_at (left_entries m) i) ≡ k.node (entry_at (left_entries m) i)
    node_left i low = node_kept (entry_at (left_entries m) i) (among_rest (entry_at (left_entries m) i) m.passed m.order (read_among (left_entries m) i Stub low))

    chain : IsChain node k.next (is_in_flight m) k.head k.tail (left_entries m)
    chain = renumber k.node k.next (is_in_flight m) k.head k.tail (left_entries m) shows.chain node node_left

    comes_after : (e : Entry) (n : ℕ) → ComesAfter k m e n → ComesAfter k' m' e n
    comes_after e n after = (after.0, after.1, after.2, node_left after.0 (omega (arith, after.1)) ∙ after.3)

    -- another sender
    module _ (q : ℕ) (other : ¬ (q ≡ p)) where
      same_items : m'.items q ≡ m.items q
      same_items = others q other

      owed_other : (pt : SenderPoint) → IsOwedBySender k m q pt → IsOwedBySender k' m' q pt
      owed_other pt = elim pt as (λ pt. IsOwedBySender k m q pt → IsOwedBySender k' m' q pt) [
        | sends.Link i n ↦ λ o. rw same_items (o.0, o.1, o.2, comes_after (Of q (last_of m q)) n o.3, o.4)
        | _ ↦ λ o j. o j
      ]

      filled_other : (i : Item) → IsFilled m q i → IsFilled m' q i
      filled_other i h = rw same_items h

      hand_other : (pt : SenderPoint) → IsAtHand k m q pt → IsAtHand k' m' q pt
      hand_other sends.Rest h = rw same_items h
      hand_other (sends.Line i) h = filled_other i h
      hand_other (sends.Amount i) h = filled_other i h
      hand_other (sends.Null i) h = filled_other i h
      hand_other (sends.Swap i) h = (filled_other i h.0, rw same_items (ap k.next (node_same q (last_of m q) (λ same. absurd (other same))) ∙ h.1))
      hand_other (sends.Link i n) h = rw same_items h

      sending_other : (pt : SenderPoint) → IsSending k m q pt → IsSending k' m' q pt
      sending_other pt was = record { in_flight = owed_other pt was.in_flight; at_hand = hand_other pt was.at_hand }

    -- the reader
    owed_reader : (pt : ReaderPoint) → IsOwedByReader k m pt → IsOwedByReader k' m' pt
    owed_reader pt = elim pt as (λ pt. IsOwedByReader k m pt → IsOwedByReader k' m' pt) [
      | reads.Link n ↦ λ o. (o.0, comes_after Stub n o.1)
      | _ ↦ λ o. o
    ]

    tail_at : (pt : ReaderPoint) → IsTailAt k m pt → IsTailAt k' m' pt
    tail_at pt = elim pt as (λ pt. IsTailAt k m pt → IsTailAt k' m' pt) [
      | reads.Rest ↦ λ h. h
      | reads.StubHead ↦ λ h. h ∙ sym stub_same
      | reads.Null ↦ λ h. (λ is. h.0 (is ∙ stub_same), h.1)
      | reads.Swap ↦ λ h. (λ is. h.0 (is ∙ stub_same), h.1, ap k.next stub_same ∙ h.2)
      | _ ↦ λ h is. h (is ∙ stub_same)
    ]

    pub filled_links : ((q : ℕ) → ¬ (q ≡ p) → points q ≡ k.points q) → IsSending k' m' p (points p) → ShowLinks k' m'
    filled_links others_stay own = record {
      chain = chain;
      senders = λ q. elim (cases_eq q p) [
        | inl same ↦ subst (λ q. IsSending k' m' q (points q)) (sym same) own
        | inr other ↦ subst (IsSending k' m' q) (sym (others_stay q other)) (sending_other q other (k.points q) (shows.senders q))
      ];
      reader = record { in_flight = owed_reader k.point shows.reader.in_flight; at_tail = tail_at k.point shows.reader.at_tail };
    }
