-- What was received of a sender is the first part of what it sent.
use Rattle.std.proofs.Common.{[], ◌≡◌, ◌∙◌, ◌≤◌, ◌<◌, ◌+◌, ◌++◌, ℕ, true, length, take, drop, map, ap, sym, arith}
use Rattle.std.specs.Prelude.{slice_index_or}
use Rattle.std.proofs.lemmas.Bool.{false≢true}
use Rattle.std.proofs.lemmas.List.{append-nil, get_or-take, get_or_append_left, length-append, nil_from_length, take-append-drop, take-take}
use Rattle.queue_core.specs.declared.item.Item.TheVariants.{End}
use Rattle.queue_core.specs.Items.{is_end}
use Rattle.queue_core.specs.Mailbox.{IsHeld, Mailbox, got_of, passed_entries, sent}
use Rattle.queue_core.specs.Events.{slot_at}
use Rattle.queue_core.specs.Received.{AllAreReceivedInOrder, IsPrefix}
use Rattle.queue_core.proofs.Entries.{count_own, first_turn, item_of, items_in_turn, received_own}
use Rattle.queue_core.proofs.MailboxHolds.{Holds, count_sent, has_sent, passed_sent}
use Rattle.queue_core.proofs.EventsKeep.{holds_after}

module _ (ring : ℕ) (m : Mailbox) (holds : Holds ring m) where
  -- what was received of a sender are so many of its first items
  pub got_first : (p : ℕ) → count_own p (passed_entries m) ≤ length (m.items p) → got_of m p ≡ take (count_own p (passed_entries m)) (m.items p)
  got_first p some =
      received_own m p (passed_entries m)
      ∙ (ap (map (item_of m)) (first_turn p m.passed m.order (holds.turns p).one_by_one) ∙ items_in_turn m p (count_own p (passed_entries m)) some)

  -- it is the first part of what it sent
  pub got_prefix : (p : ℕ) → IsPrefix (got_of m p) (sent m p)
  got_prefix p =
      let turns = holds.turns p in
      let n = (has_sent m p turns).0 in
      let has = (has_sent m p turns).1 in
      let y = count_own p (passed_entries m) in
      let some : y ≤ n = passed_sent m p turns holds.reader n has in
      let got : got_of m p ≡ take y (take n (m.items p)) = got_first p (omega (arith, some, has.exchanged, turns.filled_first)) ∙ sym (take-take y n (m.items p) some) in
      (drop y (take n (m.items p)), has.is ∙ (sym (take-append-drop y (take n (m.items p))) ∙ ap (λ l. l ++ drop y (take n (m.items p))) (sym got)))

  -- an end mark is sent last
  pub end_sent_last : (p k : ℕ) → k < length (sent m p) → is_end (slice_index_or (sent m p) k End) ≡ true → k + 1 ≡ length (sent m p)
  end_sent_last p k within ended =
      let turns = holds.turns p in
      let n = (has_sent m p turns).0 in
      let has = (has_sent m p turns).1 in
      let long : length (sent m p) ≡ n = count_sent m p turns n has in
      let same : slice_index_or (sent m p) k End ≡ slice_index_or (m.items p) k End = ap (λ l. slice_index_or l k End) has.is ∙ get_or-take n (m.items p) k End (omega (arith, within, long)) in
      let last : k + 1 ≡ length (m.items p) = (holds.slots p).end_last k (omega (arith, within, long, has.exchanged, turns.filled_first)) (ap is_end (sym same) ∙ ended) in
      omega (arith, last, within, long, has.exchanged, turns.filled_first)

  -- what was received with the end mark is all that was sent
  pub all_got_with_end : (p k : ℕ) → k < length (got_of m p) → is_end (slice_index_or (got_of m p) k End) ≡ true → got_of m p ≡ sent m p
  all_got_with_end p k within ended =
      let rest = (got_prefix p).0 in
      let is = (got_prefix p).1 in
      let long : length (sent m p) ≡ length (got_of m p) + length rest = ap length is ∙ length-append (got_of m p) rest in
      let same : slice_index_or (sent m p) k End ≡ slice_index_or (got_of m p) k End = ap (λ l. slice_index_or l k End) is ∙ get_or_append_left (got_of m p) rest End k within in
      let last : k + 1 ≡ length (sent m p) = end_sent_last p k (omega (arith, within, long)) (ap is_end same ∙ ended) in
      let none : rest ≡ [] = nil_from_length rest (omega (arith, last, within, long)) in
      sym (is ∙ (ap (λ l. got_of m p ++ l) none ∙ append-nil (got_of m p)))

  -- a held item is alone in its slot
  pub held_is_alone : (p k j : ℕ) → IsHeld m p k → k < j → j < length (m.items p) → ¬ (slot_at ring m p j ≡ slot_at ring m p k)
  held_is_alone p k j held before within same = false≢true (sym held.kept ∙ (holds.slots p).given_first k j before within same)

pub received_in_order : AllAreReceivedInOrder
received_in_order ring some events m leads =
    let holds = holds_after ring events m leads in
    record {
      in_order = got_prefix ring m holds;
      end_is_last = end_sent_last ring m holds;
      all_with_end = all_got_with_end ring m holds;
      held_alone = held_is_alone ring m holds;
    }
