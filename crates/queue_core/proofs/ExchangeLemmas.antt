-- An entry that is exchanged in, by its sender: what the links show of it.
use Rattle.std.proofs.Common.{◌≡◌, ◌∙◌, ◌<◌, ◌+◌, ◌-◌, ◌++◌, ◌∷◌, [], ℕ, true, false, List, filter, length, map, not, ap, sym, refl, subst, inl, inr, arith}
use Rattle.std.specs.Prelude.{◌&&◌}
use Rattle.std.specs.List.{enumerate_from}
use Rattle.std.proofs.lemmas.Bool.{and_left, and_right, cases_Bool, cases_eq, false≢true, not_from_true}
use Rattle.std.proofs.lemmas.List.{get_or_append_left, get_or_push, length_push}
use Rattle.queue_core.specs.declared.entry.Entry.{Entry}
use Rattle.queue_core.specs.declared.entry.Entry.TheVariants.{Of, Stub}
use Rattle.queue_core.specs.declared.item.Item.{Item}
use Rattle.queue_core.specs.declared.sender.SenderPoint.{SenderPoint}
use Rattle.queue_core.specs.declared.sender.SenderPoint.TheVariants as sends
use Rattle.queue_core.specs.declared.reader.ReaderPoint.{ReaderPoint}
use Rattle.queue_core.specs.declared.reader.ReaderPoint.TheVariants as reads
use Rattle.queue_core.specs.Mailbox.{IsHeld, Mailbox, is_among, is_linked, is_same, left_entries, passed_entries, sent}
use Rattle.queue_core.specs.Events.{MayExchange, after, exchanged}
use Rattle.queue_core.specs.Events.Event.{Exchange, StubIn}
use Rattle.queue_core.specs.Chain.{IsChain, entry_at}
use Rattle.queue_core.specs.StoredWords.{link_to, null}
use Rattle.queue_core.specs.Links.{AreExchanged, ComesAfter, IsAtHand, IsFilled, IsOwedByReader, IsOwedBySender, IsSending, IsTailAt, Links, ShowLinks, is_in_flight, last_of}
use Rattle.queue_core.proofs.ChainLemmas.{push}
use Rattle.queue_core.proofs.Entries.{among_last, among_more, read_among, same_self, same_true, among_other}
use Rattle.queue_core.proofs.EventsKeep.{left_more, not_left, same_passed}
use Rattle.queue_core.proofs.MailboxHolds.{Holds}

-- an entry more in a mailbox: what is left, and what is in flight
module _ (ring : ℕ) (m : Mailbox) (holds : Holds ring m) (entry : Entry) (new : is_among entry (left_entries m) ≡ false) where
  abbrev m' : Mailbox
  m' = exchanged entry m

  pub left_is : left_entries m' ≡ left_entries m ++ entry ∷ []
  left_is = left_more ring m holds entry new

  pub left_long : length (left_entries m') ≡ length (left_entries m) + 1
  left_long = ap (λ (xs : List Entry). length xs) left_is ∙ length_push (left_entries m) entry

  pub left_old : (i : ℕ) → i < length (left_entries m) → entry_at (left_entries m') i ≡ entry_at (left_entries m) i
  left_old i low = ap (λ xs. entry_at xs i) left_is ∙ get_or_append_left (left_entries m) (entry ∷ []) Stub i low

  pub left_new : (i : ℕ) → i ≡ length (left_entries m) → entry_at (left_entries m') i ≡ entry
  left_new i is = ap (λ xs. entry_at xs i) left_is ∙ get_or_push (left_entries m) entry Stub i (sym is)

  pub other_left : (i : ℕ) → i < length (left_entries m) → ¬ (entry_at (left_entries m) i ≡ entry)
  other_left i low same = false≢true (sym new ∙ (ap (λ e. is_among e (left_entries m)) (sym same) ∙ read_among (left_entries m) i Stub low))

  pub flies_old : (e : Entry) → ¬ (e ≡ entry) → is_in_flight m' e ≡ is_in_flight m e
  flies_old e other = among_other e entry m.in_flight other

  pub flies_new : is_in_flight m' entry ≡ true
  flies_new = among_last entry m.in_flight

  -- where it was not exchanged in before, it changes nothing of what is sent, nor of what is passed
  module _ (unsent : (q j : ℕ) → Of q j ≡ entry → is_among entry m.order ≡ false) where
    pub same_linked : (q j : ℕ) → is_linked m' (Of q j) ≡ is_linked m (Of q j)
    same_linked q j = elim (cases_Bool (is_same (Of q j) entry)) [
      | inl same ↦
          let is : Of q j ≡ entry = same_true (Of q j) entry same in
          subst (λ e. is_linked m' e ≡ is_linked m e) (sym is)
          (and_right (is_among entry m'.order) (not (is_in_flight m' entry)) (not_from_true (is_in_flight m' entry) flies_new)
          ∙ sym (and_left (is_among entry m.order) (not (is_in_flight m entry)) (unsent q j is)))
      | inr apart ↦
          let other : ¬ (Of q j ≡ entry) = λ is. false≢true (sym apart ∙ subst (λ e. is_same (Of q j) e ≡ true) is (same_self (Of q j))) in
          λ i. among_other (Of q j) entry m.order other i && not (flies_old (Of q j) other i)
    ]

    pub same_sent : (q : ℕ) → sent m' q ≡ sent m q
    same_sent q = λ i. map (λ placed. placed.1) (filter (λ placed. same_linked q placed.0 i) (enumerate_from 0 (m.items q)))

  pub held_kept : (q j : ℕ) → (IsHeld m q j → IsHeld m' q j) × (IsHeld m' q j → IsHeld m q j)
  held_kept q j =
      let same : passed_entries m' ≡ passed_entries m = same_passed ring m holds entry new in (
        λ held. record { passed = ap (is_among (Of q j)) same ∙ held.passed; kept = held.kept },
        λ held. record { passed = ap (is_among (Of q j)) (sym same) ∙ held.passed; kept = held.kept },
      )

  module _ (k : Links) (shows : ShowLinks k m) where
    -- what comes after a node comes after it still
    pub comes_after : (k' : Links) → k'.node ≡ k.node → (e : Entry) (before : ℕ) → ComesAfter k m e before → ComesAfter k' m' e before
    comes_after k' same e before after =
        let within : after.0 + 1 < length (left_entries m) = after.1 in (
          after.0,
          omega (arith, within, left_long),
          left_old (after.0 + 1) within ∙ after.2,
          ap k'.node (left_old after.0 (omega (arith, within))) ∙ (λ i. same i (entry_at (left_entries m) after.0)) ∙ after.3,
        )

    -- the new one comes after what was the head
    pub comes_last : (k' : Links) → k'.node ≡ k.node → ComesAfter k' m' entry (k.head - 1)
    comes_last k' same =
        let some = shows.chain.some in
        let place : length (left_entries m) - 1 + 1 ≡ length (left_entries m) = omega (arith, some) in
        let head : k.node (entry_at (left_entries m) (length (left_entries m) - 1)) ≡ k.head - 1 = omega (arith, shows.chain.head_is) in (
          length (left_entries m) - 1,
          omega (arith, some, left_long),
          left_new (length (left_entries m) - 1 + 1) place,
          ap k'.node (left_old (length (left_entries m) - 1) (omega (arith, some))) ∙ (λ i. same i (entry_at (left_entries m) (length (left_entries m) - 1))) ∙ head,
        )

    -- the chain is longer by it
    pub chain_more : ((i : ℕ) → i < length (left_entries m) → ¬ (k.node (entry_at (left_entries m) i) ≡ k.node entry)) → k.next (k.node entry) ≡ null
        → IsChain k.node k.next (is_in_flight m') (link_to (k.node entry)) k.tail (left_entries m')
    chain_more apart none =
        subst (IsChain k.node k.next (is_in_flight m') (link_to (k.node entry)) k.tail) (sym left_is)
        (push k.node k.next (is_in_flight m) k.head k.tail (left_entries m) shows.chain entry (is_in_flight m') apart none (λ i low. flies_old (entry_at (left_entries m) i) (other_left i low)) flies_new)

    -- a sender whose entry it is not is where it was
    module _ (links : Links) (same_node : links.node ≡ k.node) (same_next : links.next ≡ k.next) (q : ℕ) (not_new : (j : ℕ) → ¬ (Of q j ≡ entry)) where
      among : (j : ℕ) → is_among (Of q j) m'.order ≡ is_among (Of q j) m.order
      among j = among_other (Of q j) entry m.order (not_new j)

      owed_kept : (pt : SenderPoint) → IsOwedBySender k m q pt → IsOwedBySender links m' q pt
      owed_kept pt = elim pt as (λ pt. IsOwedBySender k m q pt → IsOwedBySender links m' q pt) [
        | sends.Link i before ↦ λ owed. (
          owed.0,
          owed.1,
          flies_old (Of q (last_of m q)) (not_new (last_of m q)) ∙ owed.2,
          comes_after links same_node (Of q (last_of m q)) before owed.3,
          λ j low. flies_old (Of q j) (not_new j) ∙ owed.4 j low,
        )
        | _ ↦ λ owed j. flies_old (Of q j) (not_new j) ∙ owed j
      ]

      filled_kept : (i : Item) → IsFilled m q i → IsFilled m' q i
      filled_kept i filled = (filled.0, filled.1, among (last_of m q) ∙ filled.2, λ j low. among j ∙ filled.3 j low)

      exchanged_kept : AreExchanged m q → AreExchanged m' q
      exchanged_kept all j low = among j ∙ all j low

      hand_kept : (pt : SenderPoint) → IsAtHand k m q pt → IsAtHand links m' q pt
      hand_kept sends.Rest h = exchanged_kept h
      hand_kept (sends.Line i) h = filled_kept i h
      hand_kept (sends.Amount i) h = filled_kept i h
      hand_kept (sends.Null i) h = filled_kept i h
      hand_kept (sends.Swap i) h = (filled_kept i h.0, (λ j. same_next j (same_node j (Of q (last_of m q)))) ∙ h.1)
      hand_kept (sends.Link i before) h = exchanged_kept h

      pub sending_kept : (pt : SenderPoint) → IsSending k m q pt → IsSending links m' q pt
      sending_kept pt was = record { in_flight = owed_kept pt was.in_flight; at_hand = hand_kept pt was.at_hand }

-- ---- a sender's last item is exchanged in

module _ (ring : ℕ) (m : Mailbox) (holds : Holds ring m) (k : Links) (shows : ShowLinks k m) (p : ℕ) (item : Item) (at : k.points p ≡ sends.Swap item) where
  abbrev entry : Entry
  entry = Of p (last_of m p)

  at_hand : IsAtHand k m p (sends.Swap item)
  at_hand = subst (IsAtHand k m p) at (shows.senders p).at_hand

  none_flies : (j : ℕ) → is_in_flight m (Of p j) ≡ false
  none_flies = subst (IsOwedBySender k m p) at (shows.senders p).in_flight

  pub may_exchange : MayExchange m p
  may_exchange = record { some = at_hand.0.0; new = at_hand.0.2 }

  new : is_among entry (left_entries m) ≡ false
  new = not_left ring m holds p may_exchange

  module _ (apart : (i : ℕ) → i < length (left_entries m) → ¬ (k.node (entry_at (left_entries m) i) ≡ k.node entry)) (points : ℕ → SenderPoint)
      (own : points p ≡ sends.Link item (k.head - 1)) (others : (q : ℕ) → ¬ (q ≡ p) → points q ≡ k.points q) where
    abbrev links : Links
    links = record { node = k.node; next = k.next; head = link_to (k.node entry); tail = k.tail; points = points; point = k.point }

    abbrev swapped : Mailbox
    swapped = after (Exchange p) m

    flies : (e : Entry) → ¬ (e ≡ entry) → is_in_flight swapped e ≡ is_in_flight m e
    flies = flies_old ring m holds entry new

    -- the sender is about to store its link
    sending_own : IsSending links swapped p (sends.Link item (k.head - 1))
    sending_own = record {
      in_flight = (
        may_exchange.some,
        at_hand.0.1,
        flies_new ring m holds entry new,
        comes_last ring m holds entry new k shows links refl,
        λ j low. flies (Of p j) (λ same. let is : j ≡ last_of m p = cc in omega (arith, is, low)) ∙ none_flies j,
      );
      at_hand = λ j low. elim (cases_eq j (last_of m p)) [
        | inl same ↦ rw same (among_last entry m.order)
        | inr other ↦ among_more (Of p j) m.order (entry ∷ []) (at_hand.0.3 j (omega (arith, low, other)))
      ];
    }

    -- the reader
    stub_other : ¬ (Stub ≡ entry)
    stub_other same = cc

    owed_reader : (pt : ReaderPoint) → IsOwedByReader k m pt → IsOwedByReader links swapped pt
    owed_reader pt = elim pt as (λ pt. IsOwedByReader k m pt → IsOwedByReader links swapped pt) [
      | reads.Link before ↦ λ owed. (flies Stub stub_other ∙ owed.0, comes_after ring m holds entry new k shows links refl Stub before owed.1)
      | _ ↦ λ owed. flies Stub stub_other ∙ owed
    ]

    same_stub : is_among Stub (left_entries swapped) ≡ is_among Stub (left_entries m)
    same_stub = ap (is_among Stub) (left_is ring m holds entry new) ∙ among_other Stub entry (left_entries m) stub_other

    tail_at : (pt : ReaderPoint) → IsTailAt k m pt → IsTailAt links swapped pt
    tail_at pt = elim pt as (λ pt. IsTailAt k m pt → IsTailAt links swapped pt) [
      | reads.Null ↦ λ h. (h.0, same_stub ∙ h.1)
      | reads.Swap ↦ λ h. (h.0, same_stub ∙ h.1, h.2)
      | _ ↦ λ h. h
    ]

    pub exchange_shows : ShowLinks links swapped
    exchange_shows = record {
      chain = chain_more ring m holds entry new k shows apart at_hand.1;
      senders = λ q. elim (cases_eq q p) [
        | inl same ↦ subst (λ q. IsSending links swapped q (points q)) (sym same) (subst (IsSending links swapped p) (sym own) sending_own)
        | inr other ↦ subst (IsSending links swapped q) (sym (others q other))
            (sending_kept ring m holds entry new k shows links refl refl q (λ j same. let is : q ≡ p = cc in other is) (k.points q) (shows.senders q))
      ];
      reader = record { in_flight = owed_reader k.point shows.reader.in_flight; at_tail = tail_at k.point shows.reader.at_tail };
    }

-- ---- the stub is exchanged in

module _ (ring : ℕ) (m : Mailbox) (holds : Holds ring m) (k : Links) (shows : ShowLinks k m) (at : k.point ≡ reads.Swap) where
  tail_is : IsTailAt k m reads.Swap
  tail_is = subst (IsTailAt k m) at shows.reader.at_tail

  pub may_stub_in : is_among Stub (left_entries m) ≡ false
  may_stub_in = tail_is.1

  module _ (apart : (i : ℕ) → i < length (left_entries m) → ¬ (k.node (entry_at (left_entries m) i) ≡ k.node Stub)) where
    abbrev links_in : Links
    links_in = record { node = k.node; next = k.next; head = link_to (k.node Stub); tail = k.tail; points = k.points; point = reads.Link (k.head - 1) }

    pub stub_in_shows : ShowLinks links_in (after StubIn m)
    stub_in_shows = record {
      chain = chain_more ring m holds Stub may_stub_in k shows apart tail_is.2;
      senders = λ q. sending_kept ring m holds Stub may_stub_in k shows links_in refl refl q (λ j same. cc) (k.points q) (shows.senders q);
      reader = record {
        in_flight = (flies_new ring m holds Stub may_stub_in, comes_last ring m holds Stub may_stub_in k shows links_in refl);
        at_tail = tail_is.0;
      };
    }
