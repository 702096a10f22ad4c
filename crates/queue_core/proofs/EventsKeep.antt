-- Each event keeps what holds of a mailbox.
use Rattle.std.proofs.Common.{◌≡◌, ◌∙◌, ◌<◌, ◌+◌, ◌-◌, ◌++◌, ◌∷◌, ◌⊎◌, [], ℕ, Bool, true, false, List, zero, suc, filter, length, take, drop, get_or, not, ap, sym, refl, subst, inl, inr, arith}
use Rattle.std.specs.Prelude.{slice_index_or}
use Rattle.std.proofs.lemmas.Bool.{cases_eq, cases_lt, eq-eqb, false_from_ne_true, false≢true, ne_eqb, or_cases}
use Rattle.std.proofs.lemmas.List.{append-nil, drop-append-le, drop_more, get_or-drop, get_or_append_left, get_or_push, length-drop, length_push, take-append-le, take_more}
use Rattle.std.proofs.lemmas.List.Elements.{filter-append}
use Rattle.std.proofs.lemmas.List.FromFn.{map-range_with_len_more}
use Rattle.queue_core.specs.declared.entry.Entry.{Entry}
use Rattle.queue_core.specs.declared.entry.Entry.TheVariants.{Of, Stub}
use Rattle.queue_core.specs.declared.item.Item.{Item}
use Rattle.queue_core.specs.declared.item.Item.TheVariants.{End}
use Rattle.queue_core.specs.Items.{is_end}
use Rattle.queue_core.specs.Mailbox.{IsHeld, Mailbox, is_among, is_same, left_entries, passed_entries}
use Rattle.queue_core.specs.Events.{Event, Leads, May, MayExchange, MayFill, MayPass, after, exchanged, is_of, slot_of}
use Rattle.queue_core.specs.Events.Event.{Fill, Exchange, Link, Pass, GiveBack, StubIn, StubLink}
use Rattle.queue_core.specs.Events.Leads.{none, more}
use Rattle.queue_core.proofs.Entries.{among_first, among_kept, among_last, among_more, among_push, among_rest, count_own, fewer_kept, head_among, in_turn, none_kept, own, own_other, own_push, same_true, turn_among}
use Rattle.queue_core.proofs.MailboxHolds.{Holds, InSlots, InTurn, IsPassed, all_sent, opening_holds, slot_in}

-- Entries of a sender stay in turn where its own stay and no more of them fly.
same_turn : (p filled : ℕ) (order order' in_flight in_flight' : List Entry) → own p order' ≡ own p order → ((k : ℕ) → is_among (Of p k) in_flight' ≡ true → is_among (Of p k) in_flight ≡ true)
    → InTurn order in_flight p filled → InTurn order' in_flight' p filled
same_turn p filled order order' in_flight in_flight' same fewer turns =
    let count : count_own p order' ≡ count_own p order = ap (λ (l : List Entry). length l) same in
    record {
      one_by_one = same ∙ (turns.one_by_one ∙ ap (in_turn p) (sym count));
      filled_first = omega (arith, count, turns.filled_first);
      one_waits = omega (arith, count, turns.one_waits);
      last_flies = λ k flies. let last = turns.last_flies k (fewer k flies) in (last.0 ∙ sym count, count ∙ last.1);
    }

-- a number's place behind another one, or that there is none
search_behind : (f : ℕ → ℕ) (v k n : ℕ) → ((j : ℕ) × (k < j) × (j < n) × (f j ≡ v)) ⊎ ((j : ℕ) → k < j → j < n → ¬ (f j ≡ v))
search_behind f v k zero = inr (λ j behind within same. absurd (omega (arith, within)))
search_behind f v k (suc n) = elim (search_behind f v k n) [
  | inl found ↦ inl (found.0, found.1, omega (arith, found.2), found.3)
  | inr nowhere ↦ elim (cases_lt k n) [
    | inr before ↦ inr (λ j behind within same. absurd (omega (arith, behind, within, before)))
    | inl behind ↦ elim (cases_eq (f n) v) [
      | inl same ↦ inl (n, behind, omega arith, same)
      | inr other ↦ inr (λ j after within same. elim (cases_eq j n) [
        | inl last ↦ other (ap f (sym last) ∙ same)
        | inr earlier ↦ nowhere j after (omega (arith, within, earlier)) same
      ])
    ]
  ]
]

module _ (ring : ℕ) (m : Mailbox) (holds : Holds ring m) where
  -- as many entries are left as were exchanged in and not passed
  count_left : length (left_entries m) ≡ length m.order - m.passed
  count_left = length-drop m.passed m.order

  -- fewer links are in flight
  fewer_fly : (keep : Entry → Bool) → Holds ring (record m { in_flight = filter keep m.in_flight })
  fewer_fly keep = record {
    turns = λ p. same_turn p (length (m.items p)) m.order m.order m.in_flight (filter keep m.in_flight) refl (λ k flies. among_kept keep (Of p k) m.in_flight flies) (holds.turns p);
    slots = holds.slots;
    reader = record {
      some_left = holds.reader.some_left;
      landed = λ p k passed. still (Of p k) (holds.reader.landed p k passed);
      given_passed = holds.reader.given_passed;
    };
    rest = record {
      first_landed = still (slice_index_or (left_entries m) 0 Stub) holds.rest.first_landed;
      stub_once = holds.rest.stub_once;
      stub_left = λ flies. holds.rest.stub_left (among_kept keep Stub m.in_flight flies);
    };
  }
    where
      still : (e : Entry) → is_among e m.in_flight ≡ false → is_among e (filter keep m.in_flight) ≡ false
      still e landed = false_from_ne_true (is_among e (filter keep m.in_flight)) (λ flies. false≢true (sym landed ∙ among_kept keep e m.in_flight flies))

  pub link_keeps : (p : ℕ) → Holds ring (after (Link p) m)
  link_keeps p = fewer_fly (λ entry. not (is_of p entry))

  pub stub_link_keeps : Holds ring (after StubLink m)
  stub_link_keeps = fewer_fly (λ entry. not (is_same Stub entry))

  module _ (may : MayPass m) where
    within : m.passed + 1 < length m.order
    within = omega (arith, may.successor, count_left)

    -- the entry that is passed
    first_is : get_or m.order m.passed Stub ≡ slice_index_or (left_entries m) 0 Stub
    first_is = let same : m.passed ≡ m.passed + 0 = omega arith in ap (λ i. get_or m.order i Stub) same ∙ sym (get_or-drop m.passed m.order 0 Stub)

    next_is : slice_index_or (drop (m.passed + 1) m.order) 0 Stub ≡ slice_index_or (left_entries m) 1 Stub
    next_is =
        let same : (m.passed + 1) + 0 ≡ m.passed + 1 = omega arith in
        get_or-drop (m.passed + 1) m.order 0 Stub ∙ (ap (λ i. get_or m.order i Stub) same ∙ sym (get_or-drop m.passed m.order 1 Stub))

    passed_more : take (m.passed + 1) m.order ≡ passed_entries m ++ get_or m.order m.passed Stub ∷ []
    passed_more = take_more m.order m.passed Stub (omega (arith, within))

    left_fewer : left_entries m ≡ get_or m.order m.passed Stub ∷ drop (m.passed + 1) m.order
    left_fewer = drop_more m.order m.passed Stub (omega (arith, within))

    first_lands : is_among (get_or m.order m.passed Stub) m.in_flight ≡ false
    first_lands = ap (λ e. is_among e m.in_flight) first_is ∙ may.first_linked

    pub pass_keeps : Holds ring (after Pass m)
    pass_keeps = record {
      turns = holds.turns;
      slots = holds.slots;
      reader = record {
        some_left = within;
        landed = λ p k passed. elim (among_push (Of p k) (get_or m.order m.passed Stub) (passed_entries m) (ap (is_among (Of p k)) (sym passed_more) ∙ passed)) [
          | inl old ↦ holds.reader.landed p k old
          | inr first ↦ ap (λ e. is_among e m.in_flight) first ∙ first_lands
        ];
        given_passed = λ p k given. ap (is_among (Of p k)) passed_more ∙ among_more (Of p k) (passed_entries m) (get_or m.order m.passed Stub ∷ []) (holds.reader.given_passed p k given);
      };
      rest = record {
        first_landed = ap (λ e. is_among e m.in_flight) next_is ∙ may.next_linked;
        stub_once =
            let fewer = fewer_kept (is_same Stub) (get_or m.order m.passed Stub) (drop (m.passed + 1) m.order) in
            let same : length (filter (is_same Stub) (left_entries m)) ≡ length (filter (is_same Stub) (get_or m.order m.passed Stub ∷ drop (m.passed + 1) m.order)) = ap (λ l. length (filter (is_same Stub) l)) left_fewer in
            omega (arith, fewer, same, holds.rest.stub_once);
        stub_left = λ flies. elim (or_cases (is_same Stub (get_or m.order m.passed Stub)) (is_among Stub (drop (m.passed + 1) m.order)) (ap (is_among Stub) (sym left_fewer) ∙ holds.rest.stub_left flies)) [
          | inl first ↦ absurd (false≢true (sym first_lands ∙ (ap (λ e. is_among e m.in_flight) (sym (same_true Stub (get_or m.order m.passed Stub) first)) ∙ flies)))
          | inr later ↦ later
        ];
      };
    }

  pub give_back_keeps : (p k : ℕ) → IsHeld m p k → Holds ring (after (GiveBack p k) m)
  give_back_keeps p k held = record {
    turns = holds.turns;
    slots = λ q. record {
      end_last = (holds.slots q).end_last;
      given_first = λ i j before within same. among_more (Of q i) m.given (Of p k ∷ []) ((holds.slots q).given_first i j before within same);
    };
    reader = record {
      some_left = holds.reader.some_left;
      landed = holds.reader.landed;
      given_passed = λ q j given. elim (among_push (Of q j) (Of p k) m.given given) [
        | inl old ↦ holds.reader.given_passed q j old
        | inr this ↦ ap (λ e. is_among e (passed_entries m)) this ∙ held.passed
      ];
    };
    rest = record {
      first_landed = holds.rest.first_landed;
      stub_once = holds.rest.stub_once;
      stub_left = holds.rest.stub_left;
    };
  }

  -- an entry that is not left is exchanged in
  module _ (entry : Entry) (new : is_among entry (left_entries m) ≡ false) where
    pub left_more : left_entries (exchanged entry m) ≡ left_entries m ++ entry ∷ []
    left_more = drop-append-le m.passed m.order (entry ∷ []) (omega (arith, holds.reader.some_left))

    pub same_passed : passed_entries (exchanged entry m) ≡ passed_entries m
    same_passed = take-append-le m.passed m.order (entry ∷ []) (omega (arith, holds.reader.some_left))

    -- what is not in flight and another entry is not in flight after it
    still_landed : (e : Entry) → ¬ (e ≡ entry) → is_among e m.in_flight ≡ false → is_among e (m.in_flight ++ entry ∷ []) ≡ false
    still_landed e other landed = false_from_ne_true (is_among e (m.in_flight ++ entry ∷ [])) (λ flies. elim (among_push e entry m.in_flight flies) [
      | inl old ↦ false≢true (sym landed ∙ old)
      | inr same ↦ other same
    ])

    passed_exchanged : ((p k : ℕ) → Of p k ≡ entry → is_among (Of p k) (passed_entries m) ≡ false) → IsPassed (exchanged entry m)
    passed_exchanged unpassed = record {
      some_left = omega (arith, holds.reader.some_left, length_push m.order entry);
      landed = λ p k passed.
          let old : is_among (Of p k) (passed_entries m) ≡ true = ap (is_among (Of p k)) (sym same_passed) ∙ passed in
          still_landed (Of p k) (λ same. false≢true (sym (unpassed p k same) ∙ old)) (holds.reader.landed p k old);
      given_passed = λ p k given. ap (is_among (Of p k)) same_passed ∙ holds.reader.given_passed p k given;
    }

    -- the first entry that is left stays the first
    same_first : slice_index_or (left_entries (exchanged entry m)) 0 Stub ≡ slice_index_or (left_entries m) 0 Stub
    same_first = ap (λ l. slice_index_or l 0 Stub) left_more ∙ get_or_append_left (left_entries m) (entry ∷ []) Stub 0 (omega (arith, count_left, holds.reader.some_left))

    first_still_landed : is_among (slice_index_or (left_entries (exchanged entry m)) 0 Stub) (m.in_flight ++ entry ∷ []) ≡ false
    first_still_landed =
        let first = slice_index_or (left_entries m) 0 Stub in
        let there : is_among first (left_entries m) ≡ true = head_among (left_entries m) Stub (omega (arith, count_left, holds.reader.some_left)) in
        ap (λ e. is_among e (m.in_flight ++ entry ∷ [])) same_first
        ∙ still_landed first (λ same. false≢true (sym new ∙ (ap (λ e. is_among e (left_entries m)) (sym same) ∙ there))) holds.rest.first_landed

    stubs_more : filter (is_same Stub) (left_entries (exchanged entry m)) ≡ filter (is_same Stub) (left_entries m) ++ filter (is_same Stub) (entry ∷ [])
    stubs_more = ap (filter (is_same Stub)) left_more ∙ filter-append (is_same Stub) (left_entries m) (entry ∷ [])

  pub stub_in_keeps : is_among Stub (left_entries m) ≡ false → Holds ring (after StubIn m)
  stub_in_keeps new = record {
    turns = λ p. same_turn p (length (m.items p)) m.order (m.order ++ Stub ∷ []) m.in_flight (m.in_flight ++ Stub ∷ []) (own_other p Stub m.order refl)
        (λ k flies. elim (among_push (Of p k) Stub m.in_flight flies) [
          | inl old ↦ old
          | inr same ↦ cc
        ]) (holds.turns p);
    slots = holds.slots;
    reader = passed_exchanged Stub new (λ p k same. cc);
    rest = record {
      first_landed = first_still_landed Stub new;
      stub_once =
          let one : filter (is_same Stub) (left_entries (exchanged Stub m)) ≡ Stub ∷ [] = stubs_more Stub new ∙ ap (λ l. l ++ Stub ∷ []) (none_kept (is_same Stub) (left_entries m) new) in
          omega (arith, ap (λ (l : List Entry). length l) one);
      stub_left = λ flies. ap (is_among Stub) (left_more Stub new) ∙ among_last Stub (left_entries m);
    };
  }

  module _ (p : ℕ) (may : MayExchange m p) where
    abbrev place : ℕ
    place = length (m.items p) - 1

    -- all items before it are exchanged in
    pub at_count : count_own p m.order ≡ place
    at_count =
        let turns = holds.turns p in
        elim (cases_lt place (count_own p m.order)) [
          | inl before ↦ absurd (false≢true (sym may.new ∙ turn_among p place m.order turns.one_by_one before))
          | inr past ↦ omega (arith, past, may.some, turns.one_waits)
        ]

    pub not_left : is_among (Of p place) (left_entries m) ≡ false
    not_left = false_from_ne_true (is_among (Of p place) (left_entries m)) (λ left. false≢true (sym may.new ∙ among_rest (Of p place) m.passed m.order left))

    not_passed : is_among (Of p place) (passed_entries m) ≡ false
    not_passed = false_from_ne_true (is_among (Of p place) (passed_entries m)) (λ passed. false≢true (sym may.new ∙ among_first (Of p place) m.passed m.order passed))

    -- the sender's own entries stay in turn
    own_exchanged : InTurn (m.order ++ Of p place ∷ []) (m.in_flight ++ Of p place ∷ []) p (length (m.items p))
    own_exchanged =
        let turns = holds.turns p in
        let more : own p (m.order ++ Of p place ∷ []) ≡ own p m.order ++ Of p place ∷ [] = own_push p place m.order in
        let count : count_own p (m.order ++ Of p place ∷ []) ≡ count_own p m.order + 1 = ap (λ (l : List Entry). length l) more ∙ length_push (own p m.order) (Of p place) in
        let full : count_own p (m.order ++ Of p place ∷ []) ≡ length (m.items p) = omega (arith, count, at_count, may.some) in
        record {
          one_by_one =
              more ∙ (ap (λ l. l ++ Of p place ∷ []) turns.one_by_one
              ∙ (sym (map-range_with_len_more (Of p) 0 (count_own p m.order) place (omega (arith, at_count)))
              ∙ ap (in_turn p) (sym count)));
          filled_first = omega (arith, full);
          one_waits = omega (arith, full);
          last_flies = λ k flies. elim (among_push (Of p k) (Of p place) m.in_flight flies) [
            | inl old ↦ let last = turns.last_flies k old in absurd (omega (arith, last.1, at_count, may.some))
            | inr same ↦ let here : k ≡ place = cc in (omega (arith, here, full, may.some), full)
          ];
        }

    pub exchange_keeps : Holds ring (after (Exchange p) m)
    exchange_keeps = record {
      turns = λ q. elim (cases_eq p q) [
        | inl same ↦ subst (λ q. InTurn (m.order ++ Of p place ∷ []) (m.in_flight ++ Of p place ∷ []) q (length (m.items q))) same own_exchanged
        | inr other ↦
            same_turn q (length (m.items q)) m.order (m.order ++ Of p place ∷ []) m.in_flight (m.in_flight ++ Of p place ∷ []) (own_other q (Of p place) m.order (ne_eqb p q other))
            (λ k flies. elim (among_push (Of q k) (Of p place) m.in_flight flies) [
              | inl old ↦ old
              | inr same ↦ let its : p ≡ q = cc in absurd (other its)
            ]) (holds.turns q)
      ];
      slots = holds.slots;
      reader = passed_exchanged (Of p place) not_left (λ q k same. ap (λ e. is_among e (passed_entries m)) same ∙ not_passed);
      rest = record {
        first_landed = first_still_landed (Of p place) not_left;
        stub_once =
            let same : filter (is_same Stub) (left_entries (exchanged (Of p place) m)) ≡ filter (is_same Stub) (left_entries m) = stubs_more (Of p place) not_left ∙ append-nil (filter (is_same Stub) (left_entries m)) in
            omega (arith, ap (λ (l : List Entry). length l) same, holds.rest.stub_once);
        stub_left = λ flies. elim (among_push Stub (Of p place) m.in_flight flies) [
          | inl old ↦ ap (is_among Stub) (left_more (Of p place) not_left) ∙ among_more Stub (left_entries m) (Of p place ∷ []) (holds.rest.stub_left old)
          | inr same ↦ cc
        ];
      };
    }

  module _ (p : ℕ) (item : Item) (may : MayFill ring m p item) where
    abbrev filled : List Item
    filled = m.items p ++ item ∷ []

    pub long : length filled ≡ length (m.items p) + 1
    long = length_push (m.items p) item

    -- the item at a place that was filled before, and the new one
    pub old_item : (k : ℕ) → k < length (m.items p) → slice_index_or filled k End ≡ slice_index_or (m.items p) k End
    old_item k within = get_or_append_left (m.items p) (item ∷ []) End k within

    pub new_item : (k : ℕ) → length (m.items p) ≡ k → slice_index_or filled k End ≡ item
    new_item k is = get_or_push (m.items p) item End k is

    -- its entries stay in turn
    own_filled : InTurn m.order m.in_flight p (length filled)
    own_filled =
        let turns = holds.turns p in
        let sent = all_sent m p turns may.all_sent in
        record {
          one_by_one = turns.one_by_one;
          filled_first = omega (arith, sent.0, long);
          one_waits = omega (arith, sent.0, long);
          last_flies = λ k flies. absurd (false≢true (sym (sent.1 k) ∙ flies));
        }

    -- an item with the slot of the new one is given back
    slot_given : (k : ℕ) → k < length (m.items p) → slot_in ring (m.items p) k ≡ slot_of ring item (length (m.items p)) → is_among (Of p k) m.given ≡ true
    slot_given k within same = elim (search_behind (slot_in ring (m.items p)) (slot_in ring (m.items p) k) k (length (m.items p))) [
      | inl found ↦ (holds.slots p).given_first k found.0 found.1 found.2 found.3
      | inr last ↦ may.slot_free k within same last
    ]

    own_slots : InSlots ring m.given p filled
    own_slots = record {
      end_last = λ k within ended. elim (cases_lt k (length (m.items p))) [
        | inl old ↦ absurd (false≢true (sym (may.not_ended k old) ∙ (ap is_end (sym (old_item k old)) ∙ ended)))
        | inr new ↦ omega (arith, new, within, long)
      ];
      given_first = λ k j before within same.
          let low : k < length (m.items p) = omega (arith, before, within, long) in
          let slot_k : slot_in ring filled k ≡ slot_in ring (m.items p) k = ap (λ i. slot_of ring i k) (old_item k low) in
          elim (cases_lt j (length (m.items p))) [
            | inl old ↦
                let slot_j : slot_in ring filled j ≡ slot_in ring (m.items p) j = ap (λ i. slot_of ring i j) (old_item j old) in
                (holds.slots p).given_first k j before old (sym slot_j ∙ (same ∙ slot_k))
            | inr new ↦
                let last : length (m.items p) ≡ j = omega (arith, new, within, long) in
                let slot_j : slot_in ring filled j ≡ slot_of ring item (length (m.items p)) = ap (λ i. slot_of ring i j) (new_item j last) ∙ ap (slot_of ring item) (sym last) in
                slot_given k low (sym slot_k ∙ (sym same ∙ slot_j))
          ];
    }

    -- the items of its sender and of others after it
    pub its_items : (q : ℕ) → q ≡ p → (after (Fill p item) m).items q ≡ m.items q ++ item ∷ []
    its_items q same = rw (eq-eqb q p same) refl

    pub other_items : (q : ℕ) → ¬ (q ≡ p) → (after (Fill p item) m).items q ≡ m.items q
    other_items q other = rw (ne_eqb q p other) refl

    -- what holds of each sender's items, of the new ones too
    each_sender : (P : ℕ → List Item → Type 0) → ((q : ℕ) → P q (m.items q)) → P p filled → (q : ℕ) → P q ((after (Fill p item) m).items q)
    each_sender P old new q = elim (cases_eq q p) [
      | inl same ↦ subst (P q) (sym (its_items q same)) (subst (λ q. P q (m.items q ++ item ∷ [])) (sym same) new)
      | inr other ↦ subst (P q) (sym (other_items q other)) (old q)
    ]

    pub fill_keeps : Holds ring (after (Fill p item) m)
    fill_keeps = record {
      turns = each_sender (λ q items. InTurn m.order m.in_flight q (length items)) holds.turns own_filled;
      slots = each_sender (λ q items. InSlots ring m.given q items) holds.slots own_slots;
      reader = record {
        some_left = holds.reader.some_left;
        landed = holds.reader.landed;
        given_passed = holds.reader.given_passed;
      };
      rest = record {
        first_landed = holds.rest.first_landed;
        stub_once = holds.rest.stub_once;
        stub_left = holds.rest.stub_left;
      };
    }

-- each event keeps it
pub event_keeps : (ring : ℕ) (m : Mailbox) (event : Event) → May ring m event → Holds ring m → Holds ring (after event m)
event_keeps ring m (Fill p item) may holds = fill_keeps ring m holds p item may
event_keeps ring m (Exchange p) may holds = exchange_keeps ring m holds p may
event_keeps ring m (Link p) may holds = link_keeps ring m holds p
event_keeps ring m Pass may holds = pass_keeps ring m holds may
event_keeps ring m (GiveBack p k) may holds = give_back_keeps ring m holds p k may
event_keeps ring m StubIn may holds = stub_in_keeps ring m holds may
event_keeps ring m StubLink may holds = stub_link_keeps ring m holds

-- so it holds after every list of events
pub holds_after : (ring : ℕ) (events : List Event) (m : Mailbox) → Leads ring events m → Holds ring m
holds_after ring events m none = opening_holds ring
holds_after ring _ _ (more events m event leads may) = event_keeps ring m event may (holds_after ring events m leads)
