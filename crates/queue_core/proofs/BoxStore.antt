-- A sender's store in one mailbox, whatever else its table has: a word of the node of an item that is not exchanged in.
use Rattle.std.proofs.Common.{◌≡◌, ◌∙◌, ◌<◌, ℕ, false, length, ap, sym, refl, subst, inl, inr}
use Rattle.std.proofs.lemmas.Bool.{cases_eq, false≢true}
use Rattle.queue_core.specs.declared.entry.Entry.{Entry}
use Rattle.queue_core.specs.declared.entry.Entry.TheVariants.{Of, Stub}
use Rattle.queue_core.specs.declared.item.Item.{Item}
use Rattle.queue_core.specs.declared.sender.SenderPoint.{SenderPoint}
use Rattle.queue_core.specs.declared.sender.SenderPoint.TheVariants as sends
use Rattle.queue_core.specs.declared.reader.ReaderPoint.{ReaderPoint}
use Rattle.queue_core.specs.declared.reader.ReaderPoint.TheVariants as reads
use Rattle.queue_core.specs.Mailbox.{Mailbox, is_among, left_entries}
use Rattle.queue_core.specs.Chain.{entry_at}
use Rattle.queue_core.specs.Links.{IsAtHand, IsSending, IsTailAt, is_in_flight, last_of}
use Rattle.queue_core.specs.Box.{Box, HasStored, HoldsItem, IsStanding, ShowsBox}
use Rattle.queue_core.proofs.BoxFrame.{fresh_stands, left_stands}
use Rattle.queue_core.proofs.BoxSwap.{AreApart}
use Rattle.queue_core.proofs.ChainLemmas.{frame}
use Rattle.queue_core.proofs.Entries.{among_rest, read_among}
use Rattle.queue_core.proofs.MailboxHolds.{Holds, item_within}

module _ (ring : ℕ) (m : Mailbox) (holds : Holds ring m) (x : Box) (shows : ShowsBox x m) (apart : AreApart x m) (p : ℕ) (some : 0 < length (m.items p)) (new : is_among (Of p (last_of m p)) m.order ≡ false) where
  abbrev entry : Entry
  entry = Of p (last_of m p)

  abbrev node : ℕ
  node = x.links.node entry

  pub waits : IsStanding m entry
  waits = fresh_stands ring m holds p some new

  elsewhere : (e : Entry) → IsStanding m e → ¬ (e ≡ entry) → ¬ (x.links.node e ≡ node)
  elsewhere e stands other same = other (apart e entry stands waits same)

  module _ (next line amount : ℕ → ℕ) (next_else : (a : ℕ) → ¬ (a ≡ node) → next a ≡ x.links.next a) (line_else : (a : ℕ) → ¬ (a ≡ node) → line a ≡ x.line a)
      (amount_else : (a : ℕ) → ¬ (a ≡ node) → amount a ≡ x.amount a) (points : ℕ → SenderPoint) (others : (q : ℕ) → ¬ (q ≡ p) → points q ≡ x.links.points q) where
    abbrev pub stored : Box
    stored = record {
      links = record { node = x.links.node; next = next; head = x.links.head; tail = x.links.tail; points = points; point = x.links.point };
      line = line;
      amount = amount;
      senders = x.senders;
      ended = x.ended;
      held = x.held;
    }

    -- what is left stands elsewhere
    left_same : (i : ℕ) → i < length (left_entries m) → next (x.links.node (entry_at (left_entries m) i)) ≡ x.links.next (x.links.node (entry_at (left_entries m) i))
    left_same i low =
        let left = read_among (left_entries m) i Stub low in
        next_else _ (elsewhere (entry_at (left_entries m) i) (left_stands ring m holds (entry_at (left_entries m) i) left) (λ same.
        false≢true (sym new ∙ among_rest entry m.passed m.order (ap (λ e. is_among e (left_entries m)) (sym same) ∙ left))))

    -- another sender's item at hand does, too
    hand_still : (q : ℕ) → ¬ (q ≡ p) → (pt : SenderPoint) → IsAtHand x.links m q pt → IsAtHand stored.links m q pt
    hand_still q other pt = elim pt as (λ pt. IsAtHand x.links m q pt → IsAtHand stored.links m q pt) [
      | sends.Swap i ↦ λ hand. (hand.0, next_else _ (elsewhere (Of q (last_of m q)) (fresh_stands ring m holds q hand.0.0 hand.0.2) (λ same. let is : q ≡ p = cc in other is)) ∙ hand.1)
      | _ ↦ λ hand. hand
    ]

    tail_still : (pt : ReaderPoint) → IsTailAt x.links m pt → IsTailAt stored.links m pt
    tail_still pt = elim pt as (λ pt. IsTailAt x.links m pt → IsTailAt stored.links m pt) [
      | reads.Swap ↦ λ at. (at.0, at.1, next_else _ (elsewhere Stub tt (λ same. cc)) ∙ at.2)
      | _ ↦ λ at. at
    ]

    holds_still : (e : Entry) (item : Item) → IsStanding m e → ¬ (e ≡ entry) → HoldsItem x (x.links.node e) item → HoldsItem stored (x.links.node e) item
    holds_still e item stands other has = (line_else _ (elsewhere e stands other) ∙ has.0, amount_else _ (elsewhere e stands other) ∙ has.1)

    words_still : (q : ℕ) → ¬ (q ≡ p) → (pt : SenderPoint) → IsAtHand x.links m q pt → HasStored x (x.links.node (Of q (last_of m q))) pt → HasStored stored (x.links.node (Of q (last_of m q))) pt
    words_still q other pt = elim pt as (λ pt. IsAtHand x.links m q pt → HasStored x (x.links.node (Of q (last_of m q))) pt → HasStored stored (x.links.node (Of q (last_of m q))) pt) [
      | sends.Amount i ↦ λ hand has. line_else _ (elsewhere (Of q (last_of m q)) (fresh_stands ring m holds q hand.0 hand.2) (λ same. let is : q ≡ p = cc in other is)) ∙ has
      | sends.Null i ↦ λ hand has. holds_still (Of q (last_of m q)) i (fresh_stands ring m holds q hand.0 hand.2) (λ same. let is : q ≡ p = cc in other is) has
      | sends.Swap i ↦ λ hand has. holds_still (Of q (last_of m q)) i (fresh_stands ring m holds q hand.0.0 hand.0.2) (λ same. let is : q ≡ p = cc in other is) has
      | _ ↦ λ hand has. tt
    ]

    -- It is shown where the sender is at a point at which it owes no link, with what it has stored so far.
    pub store_box : (pt : SenderPoint) → points p ≡ pt → IsSending stored.links m p pt → HasStored stored node pt → ShowsBox stored m
    store_box pt own sending has = record {
      links = record {
        chain = frame x.links.node x.links.next (is_in_flight m) x.links.head x.links.tail (left_entries m) shows.links.chain next (is_in_flight m) left_same (λ i low. refl);
        senders = λ q. elim (cases_eq q p) [
          | inl same ↦ subst (λ q. IsSending stored.links m q (points q)) (sym same) (subst (IsSending stored.links m p) (sym own) sending)
          | inr other ↦
              let was = shows.links.senders q in
              subst (IsSending stored.links m q) (sym (others q other)) record { in_flight = was.in_flight; at_hand = hand_still q other (x.links.points q) was.at_hand }
        ];
        reader = let was = shows.links.reader in record { in_flight = was.in_flight; at_tail = tail_still x.links.point was.at_tail };
      };
      ended = shows.ended;
      no_others = shows.no_others;
      held = shows.held;
      stored = λ q low. elim (cases_eq q p) [
        | inl same ↦ subst (λ q. HasStored stored (x.links.node (Of q (last_of m q))) (points q)) (sym same) (subst (HasStored stored node) (sym own) has)
        | inr other ↦ subst (HasStored stored (x.links.node (Of q (last_of m q)))) (sym (others q other)) (words_still q other (x.links.points q) (shows.links.senders q).at_hand (shows.stored q low))
      ];
      kept = λ q j among not_given.
          holds_still (Of q j) _ (item_within m q (holds.turns q) j among, not_given) (λ same. false≢true (sym new ∙ (ap (λ e. is_among e m.order) (sym same) ∙ among))) (shows.kept q j among not_given);
    }
