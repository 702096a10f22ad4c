-- The link of an entry is stored: what the links show of it.
use Rattle.std.proofs.Common.{◌≡◌, ◌∙◌, ◌+◌, ℕ, false, List, ap, sym, refl}
use Rattle.queue_core.specs.declared.entry.Entry.{Entry}
use Rattle.queue_core.specs.declared.entry.Entry.TheVariants.{Of, Stub}
use Rattle.queue_core.specs.declared.item.Item.{Item}
use Rattle.queue_core.specs.declared.sender.SenderPoint.{SenderPoint}
use Rattle.queue_core.specs.declared.sender.SenderPoint.TheVariants as sends
use Rattle.queue_core.specs.declared.reader.ReaderPoint.{ReaderPoint}
use Rattle.queue_core.specs.declared.reader.ReaderPoint.TheVariants as reads
use Rattle.queue_core.specs.Mailbox.{Mailbox, is_among, left_entries}
use Rattle.queue_core.specs.Chain.{IsChain, entry_at}
use Rattle.queue_core.specs.StoredWords.{link_to}
use Rattle.queue_core.specs.Links.{ComesAfter, IsAtHand, IsOwedByReader, IsOwedBySender, IsSending, IsTailAt, Links, ShowLinks, is_in_flight, last_of}
use Rattle.queue_core.proofs.ChainLemmas.{link, same_place}

-- An entry is linked after a node. Other nodes, other entries in flight, and what is left are as they were.
module _ (m : Mailbox) (k : Links) (shows : ShowLinks k m) (entry : Entry) (before : ℕ) (after : ComesAfter k m entry before)
    (in_flight : List Entry) (landed : is_among entry in_flight ≡ false) (still : (e : Entry) → ¬ (e ≡ entry) → is_among e in_flight ≡ is_in_flight m e)
    (next : ℕ → ℕ) (stored : next before ≡ link_to (k.node entry)) (others : (n : ℕ) → ¬ (n ≡ before) → next n ≡ k.next n)
    (points : ℕ → SenderPoint) (point : ReaderPoint) where
  abbrev m' : Mailbox
  m' = record m { in_flight = in_flight }

  abbrev k' : Links
  k' = record { node = k.node; next = next; head = k.head; tail = k.tail; points = points; point = point }

  here : k.node (entry_at (left_entries m) after.0) ≡ before
  here = after.3

  pub chain_linked : IsChain k.node next (is_in_flight m') k.head k.tail (left_entries m)
  chain_linked =
      link k.node k.next (is_in_flight m) k.head k.tail (left_entries m) shows.chain after.0 next (is_in_flight m') after.1
      (ap next here ∙ stored ∙ ap (λ e. link_to (k.node e)) (sym after.2))
      (λ n other. others n (λ same. other (same ∙ sym here)))
      (ap (is_in_flight m') after.2 ∙ landed)
      (λ j within other. still (entry_at (left_entries m) j) (λ same.
      other (same_place k.node k.next (is_in_flight m) k.head k.tail (left_entries m) shows.chain j (after.0 + 1) within after.1 (ap k.node (same ∙ sym after.2)))))

  -- a sender that the entry is not of, and whose item at hand stands in another node
  module _ (q : ℕ) (not_its : (j : ℕ) → ¬ (Of q j ≡ entry)) where
    owed_still : (pt : SenderPoint) → IsOwedBySender k m q pt → IsOwedBySender k' m' q pt
    owed_still pt = elim pt as (λ pt. IsOwedBySender k m q pt → IsOwedBySender k' m' q pt) [
      | sends.Link i n ↦ λ o. (o.0, o.1, still (Of q (last_of m q)) (not_its (last_of m q)) ∙ o.2, o.3, λ j low. still (Of q j) (not_its j) ∙ o.4 j low)
      | _ ↦ λ o j. still (Of q j) (not_its j) ∙ o j
    ]

    hand_still : (pt : SenderPoint) → ((item : Item) → pt ≡ sends.Swap item → ¬ (k.node (Of q (last_of m q)) ≡ before)) → IsAtHand k m q pt → IsAtHand k' m' q pt
    hand_still pt = elim pt as (λ pt. ((item : Item) → pt ≡ sends.Swap item → ¬ (k.node (Of q (last_of m q)) ≡ before)) → IsAtHand k m q pt → IsAtHand k' m' q pt) [
      | sends.Swap i ↦ λ other h. (h.0, others (k.node (Of q (last_of m q))) (other i refl) ∙ h.1)
      | _ ↦ λ other h. h
    ]

    pub sending_still : (pt : SenderPoint) → ((item : Item) → pt ≡ sends.Swap item → ¬ (k.node (Of q (last_of m q)) ≡ before)) → IsSending k m q pt → IsSending k' m' q pt
    sending_still pt other was = record { in_flight = owed_still pt was.in_flight; at_hand = hand_still pt other was.at_hand }

  -- the reader, where the entry is not the stub
  pub taking_still : ¬ (Stub ≡ entry) → (pt : ReaderPoint) → (pt ≡ reads.Swap → ¬ (k.node Stub ≡ before)) → IsOwedByReader k m pt → IsTailAt k m pt → IsOwedByReader k' m' pt × IsTailAt k' m' pt
  taking_still not_stub pt = elim pt as (λ pt. (pt ≡ reads.Swap → ¬ (k.node Stub ≡ before)) → IsOwedByReader k m pt → IsTailAt k m pt → IsOwedByReader k' m' pt × IsTailAt k' m' pt) [
    | reads.Link n ↦ λ other o h. ((still Stub not_stub ∙ o.0, o.1), h)
    | reads.Swap ↦ λ other o h. (still Stub not_stub ∙ o, (h.0, h.1, others (k.node Stub) (other refl) ∙ h.2))
    | _ ↦ λ other o h. (still Stub not_stub ∙ o, h)
  ]
