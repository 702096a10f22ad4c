-- The entries that are left: which of a sender's they are, and that where none of them is left all that it sent is received.
use Rattle.std.proofs.Common.{◌≡◌, ◌∙◌, ◌≤◌, ◌+◌, ◌-◌, ◌++◌, [], ℕ, true, false, List, zero, suc, length, take, drop, map, ap, sym, refl, arith}
use Rattle.std.specs.List.{range_with_len}
use Rattle.std.proofs.lemmas.Bool.{false_from_ne_true}
use Rattle.std.proofs.lemmas.List.{drop_at, length-append, take-append-drop}
use Rattle.std.proofs.lemmas.List.Elements.{filter-append}
use Rattle.queue_core.specs.declared.entry.Entry.{Entry}
use Rattle.queue_core.specs.declared.entry.Entry.TheVariants.{Of}
use Rattle.queue_core.specs.Mailbox.{Mailbox, got_of, is_among, left_entries, passed_entries, sent}
use Rattle.queue_core.specs.Events.{is_of}
use Rattle.queue_core.proofs.Entries.{among_numbered, among_own, among_turn, count_own, first_turn, own}
use Rattle.queue_core.proofs.MailboxHolds.{Holds, has_sent, passed_sent}
use Rattle.queue_core.proofs.ReceivedLemmas.{got_first}

-- consecutive places without the first ones
drop_range : {X : Type 0} (f : ℕ → X) (y a n : ℕ) → drop y (map f (range_with_len a n)) ≡ map f (range_with_len (a + y) (n - y))
drop_range f zero a n =
    let first : a ≡ a + 0 = omega arith in
    let many : n ≡ n - 0 = omega arith in
    ap (λ a. map f (range_with_len a n)) first ∙ ap (λ n. map f (range_with_len (a + 0) n)) many
drop_range f (suc y) a zero = let none : 0 ≡ 0 - suc y = omega arith in ap (λ n. map f (range_with_len (a + suc y) n)) none
drop_range f (suc y) a (suc n) =
    let first : (a + 1) + y ≡ a + suc y = omega arith in
    let many : n - y ≡ suc n - suc y = omega arith in
    drop_range f y (a + 1) n ∙ (ap (λ a. map f (range_with_len a (n - y))) first ∙ ap (λ n. map f (range_with_len (a + suc y) n)) many)

module _ (ring : ℕ) (m : Mailbox) (holds : Holds ring m) (p : ℕ) where
  abbrev passed_count : ℕ
  passed_count = count_own p (passed_entries m)

  -- its passed entries and those that are left
  own_split : own p (passed_entries m) ++ own p (left_entries m) ≡ own p m.order
  own_split = sym (filter-append (is_of p) (passed_entries m) (left_entries m)) ∙ ap (own p) (take-append-drop m.passed m.order)

  -- its entries that are left are those from the first that is not passed
  pub left_turn : own p (left_entries m) ≡ map (Of p) (range_with_len passed_count (count_own p m.order - passed_count))
  left_turn =
      let first : 0 + passed_count ≡ passed_count = omega arith in
      sym (drop_at (own p (passed_entries m)) (own p (left_entries m)) passed_count refl)
      ∙ (ap (drop passed_count) (own_split ∙ (holds.turns p).one_by_one)
      ∙ (drop_range (Of p) passed_count 0 (count_own p m.order)
      ∙ ap (λ a. map (Of p) (range_with_len a (count_own p m.order - passed_count))) first))

  module _ (k : ℕ) where
    -- an entry that is left is not passed
    pub left_unpassed : is_among (Of p k) (left_entries m) ≡ true → is_among (Of p k) (passed_entries m) ≡ false
    left_unpassed left =
        let later : passed_count ≤ k = (among_numbered p k passed_count (count_own p m.order - passed_count) (ap (is_among (Of p k)) (sym left_turn) ∙ (among_own p k (left_entries m) ∙ left))).0 in
        false_from_ne_true (is_among (Of p k) (passed_entries m)) (λ passed.
        let under = among_turn p k (passed_entries m) (first_turn p m.passed m.order (holds.turns p).one_by_one) passed in
        absurd (omega (arith, later, under)))

  -- where nothing of a sender is left, all that it sent is received
  pub all_received : own p (left_entries m) ≡ [] → got_of m p ≡ sent m p
  all_received none =
      let turns = holds.turns p in
      let n = (has_sent m p turns).0 in
      let has = (has_sent m p turns).1 in
      let every : passed_count ≡ count_own p m.order =
      omega (arith, ap (λ (l : List Entry). length l) own_split, length-append (own p (passed_entries m)) (own p (left_entries m)), ap (λ (l : List Entry). length l) none) in
      let some : passed_count ≤ n = passed_sent m p turns holds.reader n has in
      let same : passed_count ≡ n = omega (arith, some, every, has.exchanged) in
      got_first ring m holds p (omega (arith, some, has.exchanged, turns.filled_first)) ∙ (ap (λ (i : ℕ). take i (m.items p)) same ∙ sym has.is)
