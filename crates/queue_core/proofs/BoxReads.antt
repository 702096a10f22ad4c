-- The reader's steps in one mailbox, whatever else its table has.
use Rattle.std.proofs.Common.{◌≡◌, ◌∙◌, ◌<◌, ◌+◌, ◌-◌, ◌++◌, ◌∷◌, [], ℕ, Bool, true, false, List, filter, length, map, not, ap, sym, refl, subst, inl, inr, arith}
use Rattle.std.specs.Prelude.{◌&&◌, ◌↔◌, slice_index_or}
use Rattle.std.specs.List.{enumerate_from}
use Rattle.std.proofs.lemmas.Bool.{cases_eq, cases_lt, false_from_ne_true, false≢true}
use Rattle.std.proofs.lemmas.List.{get_or-drop, take_more}
use Rattle.std.proofs.lemmas.Map.Views.{any-filter_same}
use Rattle.queue_core.specs.declared.entry.Entry.{Entry}
use Rattle.queue_core.specs.declared.entry.Entry.TheVariants.{Of, Stub}
use Rattle.queue_core.specs.declared.item.Item.TheVariants.{End}
use Rattle.queue_core.specs.declared.sender.SenderPoint.{SenderPoint}
use Rattle.queue_core.specs.declared.sender.SenderPoint.TheVariants as sends
use Rattle.queue_core.specs.declared.reader.ReaderPoint.{ReaderPoint}
use Rattle.queue_core.specs.declared.reader.ReaderPoint.TheVariants as reads
use Rattle.queue_core.specs.Items.{is_end}
use Rattle.queue_core.specs.Mailbox.{IsHeld, Mailbox, is_among, is_linked, is_same, left_entries, passed_entries, sent}
use Rattle.queue_core.specs.Events.{after}
use Rattle.queue_core.specs.Events.Event.{Pass, StubIn, StubLink}
use Rattle.queue_core.specs.Chain.{entry_at}
use Rattle.queue_core.specs.StoredWords.{link_to, null}
use Rattle.queue_core.specs.Links.{IsAtHand, IsOwedByReader, IsTailAt, Links, ShowLinks, is_in_flight, last_of}
use Rattle.queue_core.specs.Box.{Box, HasStored, IsStanding, ShowsBox}
use Rattle.queue_core.proofs.BoxFrame.{fresh_stands, left_stands}
use Rattle.queue_core.proofs.BoxSwap.{AreApart}
use Rattle.queue_core.proofs.ChainLemmas.{frame}
use Rattle.queue_core.proofs.Entries.{among_last, among_more, among_push, among_rest, kept_passes, only, read_among, same_true}
use Rattle.queue_core.proofs.ExchangeLemmas.{held_kept, may_stub_in, same_linked, same_sent, stub_in_shows}
use Rattle.queue_core.proofs.LandedLemmas.{chain_linked, sending_still}
use Rattle.queue_core.proofs.LeftLemmas.{left_unpassed}
use Rattle.queue_core.proofs.MailboxHolds.{Holds}
use Rattle.queue_core.proofs.PassLemmas.{next_is, pass_shows, successor}

-- what is stored of an item says nothing of links
stored_still : (x y : Box) → y.line ≡ x.line → y.amount ≡ x.amount → (node : ℕ) (pt : SenderPoint) → HasStored x node pt → HasStored y node pt
stored_still x y line amount node pt = elim pt as (λ pt. HasStored x node pt → HasStored y node pt) [
  | sends.Amount i ↦ λ has. (λ t. line t node) ∙ has
  | sends.Null i ↦ λ has. ((λ t. line t node) ∙ has.0, (λ t. amount t node) ∙ has.1)
  | sends.Swap i ↦ λ has. ((λ t. line t node) ∙ has.0, (λ t. amount t node) ∙ has.1)
  | _ ↦ λ has. tt
]

module _ (ring : ℕ) (m : Mailbox) (holds : Holds ring m) (x : Box) (shows : ShowsBox x m) (apart : AreApart x m) where
  abbrev k : Links
  k = x.links

  abbrev left : List Entry
  left = left_entries m

  -- ---- the reader is at another point, and the tail is as it was

  abbrev pub looked : ReaderPoint → Box
  looked point = record x { links = record k { point = point } }

  pub look_box : (point : ReaderPoint) → IsOwedByReader k m point → IsTailAt k m point → ShowsBox (looked point) m
  look_box point owed at = record {
    links = record {
      chain = shows.links.chain;
      senders = λ q. let was = shows.links.senders q in record { in_flight = was.in_flight; at_hand = was.at_hand };
      reader = record { in_flight = owed; at_tail = at };
    };
    ended = shows.ended;
    no_others = shows.no_others;
    held = shows.held;
    stored = λ q low. stored_still x (looked point) refl refl _ (k.points q) (shows.stored q low);
    kept = λ q j among not_given. let has = shows.kept q j among not_given in (has.0, has.1);
  }

  -- where the tail is the stub, the first that is left is it
  pub first_stub : k.tail ≡ k.node Stub → entry_at left 0 ≡ Stub
  first_stub is =
      apart (entry_at left 0) Stub (left_stands ring m holds (entry_at left 0) (read_among left 0 Stub shows.links.chain.some)) tt (sym shows.links.chain.tail_is ∙ is)

  -- ---- LoadHead: where the tail is the head, only one entry is left

  module _ (last : k.head ≡ link_to k.tail) where
    pub one_left : length left ≡ 1
    one_left = elim (cases_lt 1 (length left)) [
      | inl more ↦
          let chain = shows.links.chain in
          let same : k.node (entry_at left 0) ≡ k.node (entry_at left (length left - 1)) = omega (arith, last, chain.head_is, chain.tail_is) in
          absurd (chain.apart 0 (length left - 1) Stub (omega (arith, more)) (omega (arith, more)) same)
      | inr one ↦ omega (arith, one, shows.links.chain.some)
    ]

    pub stub_gone : ¬ (k.tail ≡ k.node Stub) → is_among Stub left ≡ false
    stub_gone other = false_from_ne_true (is_among Stub left) (λ among. other (shows.links.chain.tail_is ∙ ap k.node (only left one_left among)))

  -- ---- StubNull

  module _ (at : k.point ≡ reads.Null) (next : ℕ → ℕ) (there : next (k.node Stub) ≡ null) (else : (a : ℕ) → ¬ (a ≡ k.node Stub) → next a ≡ k.next a) where
    gone : IsTailAt k m reads.Null
    gone = subst (IsTailAt k m) at shows.links.reader.at_tail

    landed : is_in_flight m Stub ≡ false
    landed = subst (IsOwedByReader k m) at shows.links.reader.in_flight

    abbrev pub nulled : Box
    nulled = record x { links = record k { next = next; point = reads.Swap } }

    not_left : (i : ℕ) → i < length left → ¬ (k.node (entry_at left i) ≡ k.node Stub)
    not_left i low same =
        let among = read_among left i Stub low in
        let is = apart (entry_at left i) Stub (left_stands ring m holds (entry_at left i) among) tt same in
        false≢true (sym gone.1 ∙ subst (λ e. is_among e left ≡ true) is among)

    hand_still : (q : ℕ) (pt : SenderPoint) → IsAtHand k m q pt → IsAtHand nulled.links m q pt
    hand_still q pt = elim pt as (λ pt. IsAtHand k m q pt → IsAtHand nulled.links m q pt) [
      | sends.Swap i ↦ λ hand. (hand.0, else _ (λ same. let is = apart (Of q (last_of m q)) Stub (fresh_stands ring m holds q hand.0.0 hand.0.2) tt same in cc) ∙ hand.1)
      | _ ↦ λ hand. hand
    ]

    pub null_box : ShowsBox nulled m
    null_box = record {
      links = record {
        chain = frame k.node k.next (is_in_flight m) k.head k.tail left shows.links.chain next (is_in_flight m) (λ i low. else _ (not_left i low)) (λ i low. refl);
        senders = λ q. let was = shows.links.senders q in record { in_flight = was.in_flight; at_hand = hand_still q (k.points q) was.at_hand };
        reader = record { in_flight = landed; at_tail = (gone.0, gone.1, there) };
      };
      ended = shows.ended;
      no_others = shows.no_others;
      held = shows.held;
      stored = λ q low. stored_still x nulled refl refl _ (k.points q) (shows.stored q low);
      kept = λ q j among not_given. let has = shows.kept q j among not_given in (has.0, has.1);
    }

  -- ---- StubSwap

  module _ (at : k.point ≡ reads.Swap) where
    pub may_in : is_among Stub left ≡ false
    may_in = may_stub_in ring m holds k shows.links at

    stub_apart : (i : ℕ) → i < length left → ¬ (k.node (entry_at left i) ≡ k.node Stub)
    stub_apart i low same =
        let among = read_among left i Stub low in
        let is = apart (entry_at left i) Stub (left_stands ring m holds (entry_at left i) among) tt same in
        false≢true (sym may_in ∙ subst (λ e. is_among e left ≡ true) is among)

    abbrev pub put_in : Box
    put_in = record x { links = record k { head = link_to (k.node Stub); point = reads.Link (k.head - 1) } }

    pub linked_in : (q j : ℕ) → is_linked (after StubIn m) (Of q j) ≡ is_linked m (Of q j)
    linked_in = same_linked ring m holds Stub may_in (λ q j same. cc)

    pub in_box : ShowsBox put_in (after StubIn m)
    in_box = record {
      links = stub_in_shows ring m holds k shows.links at stub_apart;
      ended = λ q low. subst (λ xs. (x.ended q ≡ true) ↔ ((j : ℕ) × (j < length xs) × (is_end (slice_index_or xs j End) ≡ true))) (sym (same_sent ring m holds Stub may_in (λ q j same. cc) q)) (shows.ended q low);
      no_others = shows.no_others;
      held = λ n. (
        λ is. let found = (shows.held n).0 is in (found.0, found.1, (held_kept ring m holds Stub may_in found.0 found.1).0 found.2, found.3),
        λ found. (shows.held n).1 (found.0, found.1, (held_kept ring m holds Stub may_in found.0 found.1).1 found.2, found.3),
      );
      stored = λ q low. stored_still x put_in refl refl _ (k.points q) (shows.stored q low);
      kept = λ q j among not_given. elim (among_push (Of q j) Stub m.order among) [
        | inl old ↦ let has = shows.kept q j old not_given in (has.0, has.1)
        | inr new ↦ absurd (let both : Of q j ≡ Stub = new in cc)
      ];
    }

  -- ---- StubLink

  module _ (before : ℕ) (at : k.point ≡ reads.Link before) (next : ℕ → ℕ) (there : next before ≡ link_to (k.node Stub)) (else : (a : ℕ) → ¬ (a ≡ before) → next a ≡ k.next a) where
    pub owed_stub : IsOwedByReader k m (reads.Link before)
    owed_stub = subst (IsOwedByReader k m) at shows.links.reader.in_flight

    at_link : IsTailAt k m (reads.Link before)
    at_link = subst (IsTailAt k m) at shows.links.reader.at_tail

    abbrev linked : Mailbox
    linked = after StubLink m

    place_low : owed_stub.1.0 < length left
    place_low = omega (arith, owed_stub.1.1)

    -- the node that gets the link is that of an entry that is left
    abbrev pub before_entry : Entry
    before_entry = entry_at left owed_stub.1.0

    before_left : is_among before_entry left ≡ true
    before_left = read_among left owed_stub.1.0 Stub place_low

    pub before_stands : IsStanding m before_entry
    before_stands = left_stands ring m holds before_entry before_left

    pub before_is : k.node before_entry ≡ before
    before_is = owed_stub.1.3

    flies_stub : is_in_flight linked Stub ≡ false
    flies_stub = false_from_ne_true (is_in_flight linked Stub) (λ flies.
        let its : not (is_same Stub Stub) ≡ true = kept_passes (λ e. not (is_same Stub e)) Stub m.in_flight flies in
        false≢true its)

    flies_else : (e : Entry) → ¬ (e ≡ Stub) → is_in_flight linked e ≡ is_in_flight m e
    flies_else (Of q j) other = any-filter_same (is_same (Of q j)) (λ e. not (is_same Stub e)) true (λ f same. ap (λ e. not (is_same Stub e)) (sym (same_true (Of q j) f same))) m.in_flight
    flies_else Stub other = absurd (other refl)

    pub linked_link : (q j : ℕ) → is_linked linked (Of q j) ≡ is_linked m (Of q j)
    linked_link q j = λ t. is_among (Of q j) m.order && not (flies_else (Of q j) (λ e. cc) t)

    abbrev pub stub_linked : Box
    stub_linked = record x { links = record k { next = next; point = reads.Last } }

    links_linked : ShowLinks stub_linked.links linked
    links_linked = record {
      chain = chain_linked m k shows.links Stub before owed_stub.1 linked.in_flight flies_stub flies_else next there else k.points reads.Last;
      senders = λ q.
          sending_still m k shows.links Stub before owed_stub.1 linked.in_flight flies_stub flies_else next there else k.points reads.Last q (λ j same. cc) (k.points q)
          (λ i swaps same.
          let hand = subst (IsAtHand k m q) swaps (shows.links.senders q).at_hand in
          let one = apart before_entry (Of q (last_of m q)) before_stands (fresh_stands ring m holds q hand.0.0 hand.0.2) (before_is ∙ sym same) in
          false≢true (sym hand.0.2 ∙ among_rest (Of q (last_of m q)) m.passed m.order (subst (λ e. is_among e left ≡ true) one before_left)))
          (shows.links.senders q);
      reader = record { in_flight = flies_stub; at_tail = at_link };
    }

    pub link_stub_box : ShowsBox stub_linked linked
    link_stub_box = record {
      links = links_linked;
      ended = λ q low.
          let same : sent linked q ≡ sent m q = λ t. map (λ placed. placed.1) (filter (λ placed. linked_link q placed.0 t) (enumerate_from 0 (m.items q))) in
          subst (λ xs. (x.ended q ≡ true) ↔ ((j : ℕ) × (j < length xs) × (is_end (slice_index_or xs j End) ≡ true))) (sym same) (shows.ended q low);
      no_others = shows.no_others;
      held = λ n. (
        λ is. let found = (shows.held n).0 is in (found.0, found.1, record { passed = found.2.passed; kept = found.2.kept }, found.3),
        λ found. (shows.held n).1 (found.0, found.1, record { passed = found.2.passed; kept = found.2.kept }, found.3),
      );
      stored = λ q low. stored_still x stub_linked refl refl _ (k.points q) (shows.stored q low);
      kept = λ q j among not_given. let has = shows.kept q j among not_given in (has.0, has.1);
    }

  -- ---- LoadNext, where the tail has a next node

  abbrev first : Entry
  first = entry_at left 0

  abbrev passed_on : Mailbox
  passed_on = after Pass m

  passed_more : passed_entries passed_on ≡ passed_entries m ++ first ∷ []
  passed_more =
      let some : m.passed < length m.order = holds.reader.some_left in
      let here : m.passed ≡ m.passed + 0 = omega arith in
      take_more m.order m.passed Stub some ∙ ap (λ e. passed_entries m ++ e ∷ []) (ap (entry_at m.order) here ∙ sym (get_or-drop m.passed m.order 0 Stub))

  -- what was held is held still
  held_more : (n : ℕ) → x.held n ≡ true → (p j : ℕ) × IsHeld passed_on p j × (k.node (Of p j) ≡ n)
  held_more n is =
      let found = (shows.held n).0 is in
      (found.0, found.1, record { passed = ap (is_among (Of found.0 found.1)) passed_more ∙ among_more (Of found.0 found.1) (passed_entries m) (first ∷ []) found.2.passed; kept = found.2.kept }, found.3)

  -- and what is held then was held, or is what was passed
  held_before : (n p j : ℕ) → IsHeld passed_on p j → k.node (Of p j) ≡ n → ¬ (Of p j ≡ first) → x.held n ≡ true
  held_before n p j held is other = elim (among_push (Of p j) first (passed_entries m) (ap (is_among (Of p j)) (sym passed_more) ∙ held.passed)) [
    | inl old ↦ (shows.held n).1 (p, j, record { passed = old; kept = held.kept }, is)
    | inr new ↦ absurd (other new)
  ]

  module _ (some : ¬ (k.next k.tail ≡ null)) (point : ReaderPoint) (held : ℕ → Bool) where
    abbrev pub passed_box : Box
    passed_box = record x { links = record k { tail = k.next k.tail - 1; point = point }; held = held }

    pub pass_box : IsOwedByReader passed_box.links passed_on point → IsTailAt passed_box.links passed_on point
        → ((n : ℕ) → (held n ≡ true) ↔ ((p j : ℕ) × IsHeld passed_on p j × (k.node (Of p j) ≡ n))) → ShowsBox passed_box passed_on
    pass_box owed at held_is = record {
      links = pass_shows m k shows.links some (k.next k.tail - 1) refl point owed at;
      ended = shows.ended;
      no_others = shows.no_others;
      held = held_is;
      stored = λ q low. stored_still x passed_box refl refl _ (k.points q) (shows.stored q low);
      kept = λ q j among not_given. let has = shows.kept q j among not_given in (has.0, has.1);
    }

  -- the stub is passed
  module _ (some : ¬ (k.next k.tail ≡ null)) (landed : is_in_flight m Stub ≡ false) (is : k.tail ≡ k.node Stub) where
    second_apart : ¬ (k.next k.tail - 1 ≡ k.node Stub)
    second_apart same = shows.links.chain.apart 0 1 Stub (omega arith) (successor m k shows.links some) (ap k.node (first_stub is) ∙ sym same ∙ next_is m k shows.links some)

    pub pass_stub_box : ShowsBox (passed_box some reads.Second x.held) passed_on
    pass_stub_box = pass_box some reads.Second x.held landed second_apart (λ n. (
      held_more n,
      λ found. held_before n found.0 found.1 found.2 found.3 (λ same. let both : Of found.0 found.1 ≡ Stub = same ∙ first_stub is in cc),
    ))

  -- a sender's node is taken
  module _ (some : ¬ (k.next k.tail ≡ null)) (landed : is_in_flight m Stub ≡ false) (other : ¬ (k.tail ≡ k.node Stub)) (held : ℕ → Bool)
      (taken : held k.tail ≡ true) (else : (n : ℕ) → ¬ (n ≡ k.tail) → held n ≡ x.held n) where
    first_left : is_among first left ≡ true
    first_left = read_among left 0 Stub shows.links.chain.some

    -- the entry that is passed
    first_of : (e : Entry) → first ≡ e → (p j : ℕ) × IsHeld passed_on p j × (k.node (Of p j) ≡ k.tail)
    first_of (Of q j) is =
        let left_it : is_among (Of q j) left ≡ true = ap (λ e. is_among e left) (sym is) ∙ first_left in
        let unpassed : is_among (Of q j) (passed_entries m) ≡ false = left_unpassed ring m holds q j left_it in (
          q,
          j,
          record {
            passed = ap (is_among (Of q j)) (passed_more ∙ ap (λ e. passed_entries m ++ e ∷ []) is) ∙ among_last (Of q j) (passed_entries m);
            kept = false_from_ne_true (is_among (Of q j) m.given) (λ given. false≢true (sym unpassed ∙ holds.reader.given_passed q j given));
          },
          ap k.node (sym is) ∙ sym shows.links.chain.tail_is,
        )
    first_of Stub is = absurd (other (shows.links.chain.tail_is ∙ ap k.node is))

    held_is : (n : ℕ) → (held n ≡ true) ↔ ((p j : ℕ) × IsHeld passed_on p j × (k.node (Of p j) ≡ n))
    held_is n = elim (cases_eq n k.tail) [
      | inl same ↦ (
        λ is. let found = first_of first refl in (found.0, found.1, found.2, found.3 ∙ sym same),
        λ found. subst (λ n. held n ≡ true) (sym same) taken,
      )
      | inr apart ↦ (
        λ is. held_more n (sym (else n apart) ∙ is),
        λ found. else n apart ∙ held_before n found.0 found.1 found.2 found.3 (λ same. apart (sym found.3 ∙ (ap k.node same ∙ sym shows.links.chain.tail_is))),
      )
    ]

    pub take_box : ShowsBox (passed_box some reads.Rest held) passed_on
    take_box = pass_box some reads.Rest held landed tt held_is
