-- What holds of an abstract mailbox after every list of events, in parts: the order of each sender's entries, its slots, the reader, and the stub.
use Rattle.std.proofs.Common.{◌≡◌, ◌∙◌, ◌≤◌, ◌<◌, ◌+◌, ◌-◌, ℕ, true, false, List, filter, length, take, not, ap, sym, refl, inl, inr, arith}
use Rattle.std.specs.Prelude.{slice_index_or}
use Rattle.std.proofs.lemmas.Bool.{and_from, and_left, and_right, cases_Bool, cases_eq, cases_lt, false_from_ne_true, false≢true, not_from_false, not_from_true}
use Rattle.std.proofs.lemmas.List.{length-take-le}
use Rattle.queue_core.specs.declared.entry.Entry.{Entry}
use Rattle.queue_core.specs.declared.entry.Entry.TheVariants.{Of, Stub}
use Rattle.queue_core.specs.declared.item.Item.{Item}
use Rattle.queue_core.specs.declared.item.Item.TheVariants.{End}
use Rattle.queue_core.specs.Items.{is_end}
use Rattle.queue_core.specs.Mailbox.{Mailbox, is_among, is_linked, is_same, left_entries, opening, passed_entries, sent}
use Rattle.queue_core.specs.Events.{slot_of}
use Rattle.queue_core.proofs.Entries.{among_turn, count_own, first_count, first_placed, first_turn, in_turn, own, turn_among}

-- A sender has filled so many items. Its entries are exchanged in one by one, all but at most the last, and only the last one's link is in flight.
pub record InTurn (order in_flight : List Entry) (p filled : ℕ) : Type 0 where
  pub one_by_one : own p order ≡ in_turn p (count_own p order)
  pub filled_first : count_own p order ≤ filled
  pub one_waits : filled ≤ count_own p order + 1
  pub last_flies : (k : ℕ) → is_among (Of p k) in_flight ≡ true → (k + 1 ≡ count_own p order) × (count_own p order ≡ filled)

-- the slot of the item at a place
abbrev pub slot_in : (ring : ℕ) → List Item → (place : ℕ) → ℕ
slot_in ring items k = slot_of ring (slice_index_or items k End) k

-- An end mark is the last item, and an item whose slot was filled again is given back.
pub record InSlots (ring : ℕ) (given : List Entry) (p : ℕ) (items : List Item) : Type 0 where
  pub end_last : (k : ℕ) → k < length items → is_end (slice_index_or items k End) ≡ true → k + 1 ≡ length items
  pub given_first : (k j : ℕ) → k < j → j < length items → slot_in ring items j ≡ slot_in ring items k → is_among (Of p k) given ≡ true

-- The reader has an entry left, what it passed is linked, and what it gave back is passed.
pub record IsPassed (m : Mailbox) : Type 0 where
  pub some_left : m.passed < length m.order
  pub landed : (p k : ℕ) → is_among (Of p k) (passed_entries m) ≡ true → is_among (Of p k) m.in_flight ≡ false
  pub given_passed : (p k : ℕ) → is_among (Of p k) m.given ≡ true → is_among (Of p k) (passed_entries m) ≡ true

-- The first entry that is left is linked. The stub is left once at most, and it is left where its link is in flight.
pub record IsLeft (m : Mailbox) : Type 0 where
  pub first_landed : is_among (slice_index_or (left_entries m) 0 Stub) m.in_flight ≡ false
  pub stub_once : length (filter (is_same Stub) (left_entries m)) ≤ 1
  pub stub_left : is_among Stub m.in_flight ≡ true → is_among Stub (left_entries m) ≡ true

-- what holds of a mailbox whose senders have so many ring slots each
pub record Holds (ring : ℕ) (m : Mailbox) : Type 0 where
  pub turns : (p : ℕ) → InTurn m.order m.in_flight p (length (m.items p))
  pub slots : (p : ℕ) → InSlots ring m.given p (m.items p)
  pub reader : IsPassed m
  pub rest : IsLeft m

-- it holds at the opening
pub opening_holds : (ring : ℕ) → Holds ring opening
opening_holds ring = record {
  turns = λ p. record {
    one_by_one = refl;
    filled_first = omega arith;
    one_waits = omega arith;
    last_flies = λ k flies. absurd (false≢true flies);
  };
  slots = λ p. record {
    end_last = λ k within. absurd (omega (arith, within));
    given_first = λ k j before within. absurd (omega (arith, within));
  };
  reader = record {
    some_left = omega arith;
    landed = λ p k passed. refl;
    given_passed = λ p k given. absurd (false≢true given);
  };
  rest = record {
    first_landed = refl;
    stub_once = omega arith;
    stub_left = λ flies. absurd (false≢true flies);
  };
}

-- How many items a sender has sent: those that are exchanged in, without the last where its link is in flight.
pub record HasSent (m : Mailbox) (p count : ℕ) : Type 0 where
  pub is : sent m p ≡ take count (m.items p)
  pub exchanged : count ≤ count_own p m.order
  pub flies_behind : (k : ℕ) → is_among (Of p k) m.in_flight ≡ true → count ≤ k
  pub waits_in_flight : count < count_own p m.order → is_among (Of p count) m.in_flight ≡ true

module _ (m : Mailbox) (p : ℕ) (turns : InTurn m.order m.in_flight p (length (m.items p))) where
  abbrev exchanged_count : ℕ
  exchanged_count = count_own p m.order

  -- where the linked ones are those at the places below a number
  sent_below : (n : ℕ) → ((k : ℕ) → k < n → is_linked m (Of p k) ≡ true) → ((k : ℕ) → n ≤ k → is_linked m (Of p k) ≡ false) → sent m p ≡ take n (m.items p)
  sent_below n below above =
      let n_is : n - 0 ≡ n = omega arith in
      first_placed (λ k. is_linked m (Of p k)) n below above 0 (m.items p) ∙ ap (λ i. take i (m.items p)) n_is

  -- an entry at a place past the exchanged ones is not linked
  past_all : (k : ℕ) → exchanged_count ≤ k → is_linked m (Of p k) ≡ false
  past_all k past =
      let out : is_among (Of p k) m.order ≡ false = false_from_ne_true (is_among (Of p k) m.order) (λ among. let under = among_turn p k m.order turns.one_by_one among in absurd (omega (arith, under, past))) in
      and_left (is_among (Of p k) m.order) (not (is_among (Of p k) m.in_flight)) out

  -- one that is exchanged in and not in flight is linked
  is_landed : (k : ℕ) → k < exchanged_count → is_among (Of p k) m.in_flight ≡ false → is_linked m (Of p k) ≡ true
  is_landed k under none =
      and_from (is_among (Of p k) m.order) (not (is_among (Of p k) m.in_flight)) (turn_among p k m.order turns.one_by_one under) (not_from_false (is_among (Of p k) m.in_flight) none)

  -- nothing of it is in flight at another place than the last
  stands : (k : ℕ) → ¬ (k + 1 ≡ exchanged_count) → is_among (Of p k) m.in_flight ≡ false
  stands k other = false_from_ne_true (is_among (Of p k) m.in_flight) (λ flies. other (turns.last_flies k flies).0)

  -- where none of its entries is in flight, all that are exchanged in are sent
  pub sent_linked : ((k : ℕ) → is_among (Of p k) m.in_flight ≡ false) → sent m p ≡ take exchanged_count (m.items p)
  sent_linked none = sent_below exchanged_count (λ k below. is_landed k below (none k)) past_all

  -- an item that is exchanged in is filled
  pub item_within : (k : ℕ) → is_among (Of p k) m.order ≡ true → k < length (m.items p)
  item_within k among = let under = among_turn p k m.order turns.one_by_one among in omega (arith, under, turns.filled_first)

  pub has_sent : (n : ℕ) × HasSent m p n
  has_sent = elim (cases_Bool (is_among (Of p (exchanged_count - 1)) m.in_flight)) [
    | inl flies ↦
        let last = turns.last_flies (exchanged_count - 1) flies in (
          exchanged_count - 1,
          record {
            is = sent_below (exchanged_count - 1) (λ k below. is_landed k (omega (arith, below)) (stands k (λ is. omega (arith, is, below)))) (λ k above. elim (cases_eq k (exchanged_count - 1)) [
              | inl same ↦
                  let its : is_among (Of p k) m.in_flight ≡ true = rw same flies in
                  and_right (is_among (Of p k) m.order) (not (is_among (Of p k) m.in_flight)) (not_from_true (is_among (Of p k) m.in_flight) its)
              | inr other ↦ past_all k (omega (arith, above, other))
            ]);
            exchanged = omega arith;
            flies_behind = λ k flies. let its = (turns.last_flies k flies).0 in omega (arith, its);
            waits_in_flight = λ below. flies;
          },
        )
    | inr none ↦
        let nothing : (k : ℕ) → is_among (Of p k) m.in_flight ≡ false = λ k. elim (cases_eq (k + 1) exchanged_count) [
          | inl last ↦ let same : k ≡ exchanged_count - 1 = omega (arith, last) in rw same none
          | inr other ↦ stands k other
        ] in (
          exchanged_count,
          record {
            is = sent_linked nothing;
            exchanged = omega arith;
            flies_behind = λ k flies. absurd (false≢true (sym (nothing k) ∙ flies));
            waits_in_flight = λ below. absurd (omega (arith, below));
          },
        )
  ]

  -- as many are sent as it says
  pub count_sent : (n : ℕ) → HasSent m p n → length (sent m p) ≡ n
  count_sent n has = ap (λ (l : List Item). length l) has.is ∙ length-take-le n (m.items p) (omega (arith, has.exchanged, turns.filled_first))

  -- where all items are sent, all are exchanged in and none is in flight
  pub all_sent : sent m p ≡ m.items p → (exchanged_count ≡ length (m.items p)) × ((k : ℕ) → is_among (Of p k) m.in_flight ≡ false)
  all_sent same =
      let n = has_sent.0 in
      let has = has_sent.1 in
      let long : length (m.items p) ≡ n = sym (ap (λ (l : List Item). length l) same) ∙ count_sent n has in (
        omega (arith, long, has.exchanged, turns.filled_first),
        λ k. false_from_ne_true (is_among (Of p k) m.in_flight) (λ flies.
            let last = turns.last_flies k flies in
            let behind = has.flies_behind k flies in
            omega (arith, last.0, last.1, behind, long)),
      )

  -- what the reader has passed of it is sent
  pub passed_sent : IsPassed m → (n : ℕ) → HasSent m p n → count_own p (passed_entries m) ≤ n
  passed_sent reader n has = elim (cases_lt n (count_own p (passed_entries m))) [
    | inr within ↦ within
    | inl beyond ↦
        let some : count_own p (passed_entries m) ≤ exchanged_count = first_count p m.passed m.order in
        let flies : is_among (Of p n) m.in_flight ≡ true = has.waits_in_flight (omega (arith, some, beyond)) in
        let passed : is_among (Of p n) (passed_entries m) ≡ true = turn_among p n (passed_entries m) (first_turn p m.passed m.order turns.one_by_one) beyond in
        absurd (false≢true (sym (reader.landed p n passed) ∙ flies))
  ]
