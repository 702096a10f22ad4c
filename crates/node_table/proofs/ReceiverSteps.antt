-- The steps of a receiver keep the rule of a table of nodes.
use Rattle.std.proofs.Common.{◌≡◌, ◌∙◌, ◌<◌, ◌≤◌, ◌+◌, ◌-◌, ◌%◌, ◌^◌, ◌++◌, ◌∷◌, ℕ, Bool, true, false, [], None, Some, length, get_or, set, ap, sym, refl, subst, inl, inr, arith, length-set}
use Rattle.std.specs.Prelude.{◌==◌, if◌then◌else◌}
use Rattle.std.specs.List.{filter_map}
use Rattle.std.proofs.lemmas.Bool.{eq-eqb}
use mathlib.Core.Option.{none, some}
use lib.ListN.{get_elem?}
use Rattle.atomic_table.specs.Table.{State, keeps, step, Allows}
use Rattle.queue_core.specs.declared.entry.Entry.TheVariants.{Stub}
use Rattle.queue_core.specs.declared.item.Took.TheVariants as took
use Rattle.queue_core.specs.declared.words.Node.{Node}
use Rattle.queue_core.specs.declared.reader.Reader.{Reader}
use Rattle.queue_core.specs.declared.reader.ReaderPoint.{ReaderPoint}
use Rattle.queue_core.specs.declared.reader.ReaderPoint.TheVariants as reads
use Rattle.queue_core.specs.declared.step.Step.{Step}
use Rattle.queue_core.specs.declared.step.Step.TheVariants as steps
use Rattle.queue_core.specs.Mailbox.{Mailbox, is_among, left_entries, passed_entries, received_at}
use Rattle.queue_core.specs.Events.{after}
use Rattle.queue_core.specs.Events.Event.{StubIn, StubLink}
use Rattle.queue_core.specs.StoredWords.{link_to, null}
use Rattle.queue_core.specs.Links.{IsTailAt, ShowLinks}
use Rattle.queue_core.specs.Pool.{Pool}
use Rattle.queue_core.specs.Pooled.{IsReaderPoint, Pooled, head_in, node_at, reader_in, stub_in, with_head, with_node, with_reader}
use Rattle.queue_core.specs.PoolShows.{links_in}
use Rattle.queue_core.specs.PoolSteps.{goes_to, head_at, is_last, stub_link_at, stub_null_at, stub_swap_at}
use Rattle.queue_core.proofs.Entries.{own as entries_of}
use Rattle.queue_core.proofs.EventsKeep.{same_passed}
use Rattle.queue_core.proofs.ExchangeLemmas.{held_kept, left_is}
use Rattle.queue_core.proofs.LeftLemmas.{all_received}
use Rattle.queue_core.proofs.PooledKept.{head_keeps, reader_keeps, stub_within}
use Rattle.queue_core.proofs.PoolRuns.{step_shows_in}
use Rattle.queue_core.proofs.PoolTells.{head_tells}
use Rattle.queue_core.proofs.StepLemmas.{chosen}
use Rattle.node_table.specs.declared.seats.Holding.{Holding}
use Rattle.node_table.specs.declared.seats.Known.{Known}
use Rattle.node_table.specs.declared.seats.Known.TheVariants.{Receives}
use Rattle.node_table.specs.declared.seats.Posting.{Posting}
use Rattle.node_table.specs.declared.seats.ReceiverSeat.{ReceiverSeat}
use Rattle.node_table.specs.declared.seats.Shape.{Shape}
use Rattle.node_table.specs.Layout.{amount_word_of, head_word, line_word_of, next_word, nodes_in, stub_of, turn_word}
use Rattle.node_table.specs.Rule.{AreWords, KeepsNodes, KeepsOn}
use Rattle.node_table.specs.Seats.{IsAlone, IsReceiverSeat, got_in}
use Rattle.node_table.specs.Tells.{HasLoadedHead, IsAwaitedAt, IsWholeAt, LoadsHead, LoadsNext, after_give, after_head, after_head_at, reading_at, tells_give_back, tells_load_amount, tells_load_head, tells_load_line, tells_load_next, tells_stub_link, tells_stub_null, tells_stub_swap, with_reader_at}
use Rattle.node_table.proofs.AtHandSteps.{amount_found, amount_kept, give_kept, hand_held, line_found, line_kept}
use Rattle.node_table.proofs.LoadNextStep.{next_kept}
use Rattle.node_table.proofs.ReceiverFrame.{but_reader, gone_on, holds, low, nodes_are, own, reader_else, reader_set, stub_is}
use Rattle.node_table.proofs.TakenIn.{find_awaited, head_alone, known_sent, one_entry}
use Rattle.node_table.proofs.Words.{head_words, look_words, next_words, stub_there}

-- ---- LoadHead is due

-- a test chooses the reader that a core has then
one_reader : (c : Pooled) (b : ℕ) (test : Bool) (x y : Reader) → (if test then with_reader b x c else with_reader b y c) ≡ with_reader b (if test then x else y) c
one_reader c b true x y = refl
one_reader c b false x y = refl

-- the reader that LoadHead leaves, by where it is
head_due : (c : Pooled) (b : ℕ) (point : ReaderPoint) → LoadsHead point → head_at point b c ≡ Some (with_reader b (after_head_at point (head_in c b) (reader_in c b)) c)
head_due c b point =
    elim point as (λ q. LoadsHead q → head_at q b c ≡ Some (with_reader b (after_head_at q (head_in c b) (reader_in c b)) c)) [
      | reads.StubHead ↦ λ at. refl
      | reads.NodeHead ↦ λ at. ap Some (one_reader c b (is_last b c) (record (reader_in c b) { point = reads.Null }) (record (reader_in c b) { point = reads.Rest; last = Some took.Busy }))
      | _ ↦ λ at. absurd at
    ]

-- ---- LoadHead, and the steps that put the stub in

module _ (shape : Shape) (id : ℕ) (v : ReceiverSeat) (s : State Posting Known) (kept : KeepsNodes shape s) (seen : get_elem? s.views id ≡ some (Receives v)) where
  abbrev c : Pooled
  c = kept.core

  abbrev q : Pool
  q = kept.pool

  abbrev b : ℕ
  b = v.mailbox

  abbrev m : Mailbox
  m = q.boxes b

  abbrev mine : IsReceiverSeat c q v
  mine = own shape s kept id v seen

  abbrev reader : Reader
  reader = reader_in c b

  abbrev stub : ℕ
  stub = stub_in c b

  -- its mailbox is there
  there : b < length c.heads
  there = low shape s kept id v seen

  -- and the core shows its links
  links : ShowLinks (links_in c q b) m
  links = (kept.mail.shows.boxes b there).links

  -- the stub, the point, the tail and the head, by what the receiver knows
  stub_here : stub ≡ stub_of v.shape b
  stub_here = stub_is shape s kept id v seen

  stub_low : stub_of shape b < length c.nodes
  stub_low = stub_there shape c kept.mail.fits kept.mail.pooled b there

  point_is : reader.point ≡ v.reader.point
  point_is = ap (λ (r : Reader). r.point) mine.its_mailbox.reader

  tail_is : reader.tail ≡ v.reader.tail
  tail_is = ap (λ (r : Reader). r.tail) mine.its_mailbox.reader

  head_is : get_or s.words (head_word shape b) 0 ≡ head_in c b
  head_is = kept.words.head b there

  -- where the reader is written, it is that, and the others are as they were
  set_is : (r : Reader) → reader_in (with_reader b r c) b ≡ r
  set_is = reader_set shape s kept id v seen

  else_is : (r : Reader) (d : ℕ) → ¬ (d ≡ b) → reader_in (with_reader b r c) d ≡ reader_in c d
  else_is = reader_else shape s kept id v seen

  -- the rule after a step, where the reader is elsewhere, and a word is another
  abbrev KeepsThen : Step → Reader → (i word : ℕ) → Type 0
  KeepsThen x reader i word = KeepsOn shape s kept b x record { words = set s.words i word; homes = s.homes; views = set s.views id (Receives (with_reader_at reader v)) }

  -- ---- LoadHead

  module _ (at : LoadsHead v.reader.point) where
    abbrev found : ℕ
    found = get_or s.words (head_word shape b) 0

    -- where the tail alone is left, it is so at the point that comes next
    alone_then : (point : ReaderPoint) → LoadsHead point → (r : Reader) → IsAlone m point → IsAlone m (after_head_at point found r).point
    alone_then point =
        elim point as (λ q. LoadsHead q → (r : Reader) → IsAlone m q → IsAlone m (after_head_at q found r).point) [
          | reads.StubHead ↦ λ at r one. tt
          | reads.NodeHead ↦ λ at r one.
              chosen (λ (r : Reader). IsAlone m r.point) (found == r.tail + 1) (record r { point = reads.Null }) (record r { point = reads.Rest; last = Some took.Busy }) (λ _. one) (λ _. tt)
          | _ ↦ λ at. absurd at
        ]

    -- at both points the tail alone is left
    one_left : (point : ReaderPoint) → LoadsHead point → IsAlone m point → length (left_entries m) ≡ 1
    one_left point =
        elim point as (λ q. LoadsHead q → IsAlone m q → length (left_entries m) ≡ 1) [
          | reads.StubHead ↦ λ at one. one
          | reads.NodeHead ↦ λ at one. one
          | _ ↦ λ at. absurd at
        ]

    -- the rule is kept
    pub head_kept : KeepsThen steps.LoadHead (after_head found v.reader) (head_word shape b) found
    head_kept =
        let r : Reader = after_head (head_in c b) reader in
        let n : Pooled = with_reader b r c in
        gone_on shape s kept id v seen steps.LoadHead None n _ _ _ record {
          due = head_due c b reader.point (subst LoadsHead (sym point_is) at);
          event_is = refl;
          same = but_reader shape s kept id v seen None n.heads n.nodes n.holders n.readers refl (else_is r) refl refl;
          are_words = look_words shape c s.words kept.words n (head_word shape b) refl refl;
          reader_is = set_is r ∙ (λ i. after_head (sym head_is i) (mine.its_mailbox.reader i));
          passed_is = mine.its_mailbox.passed;
          given_is = refl;
          got_is = refl;
          held = λ p k held. held;
          alone = λ all. alone_then v.reader.point at v.reader (mine.alone all);
        }

    -- where the head is not the tail, more than one entry is left
    head_busy : ¬ (found ≡ v.reader.tail + 1) → IsAwaitedAt v
    head_busy other = elim (find_awaited v) [
      | inl all ↦ absurd (other (head_is ∙ (head_alone m (links_in c q b) links (one_left v.reader.point at (mine.alone all)) ∙ ap link_to tail_is)))
      | inr awaited ↦ awaited
    ]

    -- where the stub alone is left, all that was sent is received
    head_empty : found ≡ v.reader.tail + 1 → v.reader.point ≡ reads.StubHead → IsWholeAt v
    head_empty same stubbed p items known =
        let at_stub : reader.tail ≡ stub = subst (IsTailAt (links_in c q b) m) (point_is ∙ stubbed) links.reader.at_tail in
        let last : is_last b c ≡ true = eq-eqb (head_in c b) (link_to reader.tail) (sym head_is ∙ (same ∙ ap link_to (sym tail_is))) in
        let only = head_tells kept.events q c b kept.mail.pooled kept.mail.leads kept.mail.shows there at_stub last in
        ap (λ pairs. got_in pairs p) (sym mine.its_mailbox.got) ∙ (all_received c.ring m (holds shape s kept id v seen b) p (ap (entries_of p) only) ∙ known_sent shape s kept id v seen p items known)

    -- so this is what it tells
    head_told : HasLoadedHead found v (with_reader_at (after_head found v.reader) v)
    head_told = record { seat = refl; busy = head_busy; empty = head_empty }

  -- ---- StubNull

  module _ (at : v.reader.point ≡ reads.Null) where
    -- the rule is kept: a word of the stub is written, and no event happens
    pub null_kept : KeepsThen steps.StubNull (record v.reader { point = reads.Swap }) (next_word (stub_of v.shape b)) null
    null_kept =
        let node : Node = record (node_at c stub) { next = null } in
        let n : Pooled = goes_to b reads.Swap (with_node stub node c) in
        let in_nodes : stub < length c.nodes = omega (arith, stub_within c kept.mail.pooled b there) in
        gone_on shape s kept id v seen steps.StubNull None n _ _ _ record {
          due = ap (λ point. stub_null_at point b c) (point_is ∙ at);
          event_is = refl;
          same = but_reader shape s kept id v seen None n.heads n.nodes n.holders n.readers refl (else_is (record reader { point = reads.Swap })) refl refl;
          are_words = subst (λ x. AreWords shape n (set s.words (next_word x) null)) stub_here
              (next_words shape c s.words kept.words n stub in_nodes node refl refl null refl refl refl refl);
          reader_is = set_is (record reader { point = reads.Swap }) ∙ ap (λ (r : Reader). record r { point = reads.Swap }) mine.its_mailbox.reader;
          passed_is = mine.its_mailbox.passed;
          given_is = refl;
          got_is = refl;
          held = λ p k held. held;
          alone = λ all. subst (IsAlone m) at (mine.alone all);
        }

  -- ---- StubSwap

  module _ (at : v.reader.point ≡ reads.Swap) where
    abbrev linking : Reader
    linking = record reader { point = reads.Link (head_in c b - 1) }

    abbrev swapped : Pooled
    swapped = with_head b (link_to stub) (with_reader b linking c)

    -- the stub becomes the head
    swap_due : stub_swap_at reader.point b c ≡ Some swapped
    swap_due = ap (λ point. stub_swap_at point b c) (point_is ∙ at)

    -- it was not left
    swap_may : is_among Stub (left_entries m) ≡ false
    swap_may = (step_shows_in b steps.StubSwap kept.events q c swapped there kept.mail.pooled kept.mail.leads kept.mail.shows swap_due).0

    -- the rule is kept
    pub swap_kept : KeepsThen steps.StubSwap (record v.reader { point = reads.Link (get_or s.words (head_word shape b) 0 - 1) }) (head_word shape b) (stub_of v.shape b + 1)
    swap_kept =
        let its = holds shape s kept id v seen b in
        let passed : passed_entries (after StubIn m) ≡ passed_entries m = same_passed c.ring m its Stub swap_may in
        gone_on shape s kept id v seen steps.StubSwap (Some StubIn) swapped _ _ _ record {
          due = swap_due;
          event_is = refl;
          same = but_reader shape s kept id v seen (Some StubIn) swapped.heads swapped.nodes swapped.holders swapped.readers (length-set c.heads b (link_to stub)) (else_is linking) refl refl;
          are_words = head_words shape c s.words kept.words swapped b (stub_of v.shape b + 1) there stub_low (ap (λ (x : ℕ). set c.heads b (x + 1)) stub_here) refl;
          reader_is = set_is linking ∙ (λ i. record (mine.its_mailbox.reader i) { point = reads.Link (sym head_is i - 1) });
          passed_is = passed ∙ mine.its_mailbox.passed;
          given_is = refl;
          got_is = ap (filter_map (received_at m)) passed;
          held = λ p k held. (held_kept c.ring m its Stub swap_may p k).0 held;
          alone = λ all.
              let one = one_entry (left_entries m) (subst (IsAlone m) at (mine.alone all)) in
              (one.0, left_is c.ring m its Stub swap_may ∙ ap (λ xs. xs ++ Stub ∷ []) one.1);
        }

    -- what was the head is a link
    swap_found : (0 < get_or s.words (head_word shape b) 0) × (get_or s.words (head_word shape b) 0 ≤ nodes_in v.shape)
    swap_found =
        let is = head_keeps c kept.mail.pooled b there in
        (omega (arith, head_is, is.0), omega (arith, head_is, is.1, nodes_are shape s kept id v seen))

  -- ---- StubLink

  module _ (before : ℕ) (at : v.reader.point ≡ reads.Link before) where
    -- the rule is kept: the stub is linked
    pub link_kept : KeepsThen steps.StubLink (record v.reader { point = reads.Last }) (next_word before) (stub_of v.shape b + 1)
    link_kept =
        let node : Node = record (node_at c before) { next = link_to stub } in
        let n : Pooled = goes_to b reads.Last (with_node before node c) in
        let in_nodes : before < length c.nodes = subst (IsReaderPoint (length c.nodes)) (point_is ∙ at) (reader_keeps c kept.mail.pooled b there).1 in
        gone_on shape s kept id v seen steps.StubLink (Some StubLink) n _ _ _ record {
          due = ap (λ point. stub_link_at point b c) (point_is ∙ at);
          event_is = refl;
          same = but_reader shape s kept id v seen (Some StubLink) n.heads n.nodes n.holders n.readers refl (else_is (record reader { point = reads.Last })) refl refl;
          are_words = next_words shape c s.words kept.words n before in_nodes node refl refl (stub_of v.shape b + 1) (ap link_to (sym stub_here)) refl refl refl;
          reader_is = set_is (record reader { point = reads.Last }) ∙ ap (λ (r : Reader). record r { point = reads.Last }) mine.its_mailbox.reader;
          passed_is = mine.its_mailbox.passed;
          given_is = refl;
          got_is = refl;
          held = λ p k held. record { passed = held.passed; kept = held.kept };
          alone = λ all. subst (IsAlone m) at (mine.alone all);
        }

module _ (shape : Shape) (slots id : ℕ) (v : ReceiverSeat) where
  pub next_loads : LoadsNext v.reader.point → Allows (KeepsNodes shape) slots id (Receives v, []) (next_word v.reader.tail) (λ n. n) (tells_load_next (step slots (next_word v.reader.tail) 0 0 none) (Receives v, []))
  next_loads at s kept deep seen small = let next = next_kept shape id v s kept seen at in (Receives next.0, keeps, tt, next.1.2.rule, (next.0, refl, next.2))

  pub head_loads : LoadsHead v.reader.point → Allows (KeepsNodes shape) slots id (Receives v, []) (head_word shape v.mailbox) (λ n. n) (tells_load_head (step slots (head_word shape v.mailbox) 0 0 none) (Receives v, []))
  head_loads at s kept deep seen small =
      let w : ReceiverSeat = with_reader_at (after_head (get_or s.words (head_word shape v.mailbox) 0) v.reader) v in
      (Receives w, keeps, tt, (head_kept shape id v s kept seen at).2.rule, (w, refl, head_told shape id v s kept seen at))

  pub stub_nulls : v.reader.point ≡ reads.Null
      → Allows (KeepsNodes shape) slots id (Receives v, []) (next_word (stub_of v.shape v.mailbox)) (λ _. null) (λ _. tells_stub_null (step slots (next_word (stub_of v.shape v.mailbox)) null 0 none) (Receives v, []) null)
  stub_nulls at s kept deep seen small =
      let w : ReceiverSeat = reading_at reads.Swap v in
      (Receives w, keeps, tt, (null_kept shape id v s kept seen at).2.rule, (w, refl, refl))

  pub stub_swaps : v.reader.point ≡ reads.Swap
      → Allows (KeepsNodes shape) slots id (Receives v, []) (head_word shape v.mailbox) (λ _. stub_of v.shape v.mailbox + 1) (tells_stub_swap (step slots (head_word shape v.mailbox) (stub_of v.shape v.mailbox + 1) 0 none) (Receives v, []))
  stub_swaps at s kept deep seen small =
      let w : ReceiverSeat = reading_at (reads.Link (get_or s.words (head_word shape v.mailbox) 0 - 1)) v in
      let found = swap_found shape id v s kept seen at in
      (Receives w, keeps, tt, (swap_kept shape id v s kept seen at).2.rule, (w, refl, (refl, found.0, found.1)))

  pub stub_links : (before : ℕ) → v.reader.point ≡ reads.Link before
      → Allows (KeepsNodes shape) slots id (Receives v, []) (next_word before) (λ _. stub_of v.shape v.mailbox + 1) (λ _. tells_stub_link (step slots (next_word before) (stub_of v.shape v.mailbox + 1) 0 none) (Receives v, []) (stub_of v.shape v.mailbox + 1))
  stub_links before at s kept deep seen small =
      let w : ReceiverSeat = reading_at reads.Last v in
      (Receives w, keeps, tt, (link_kept shape id v s kept seen before at).2.rule, (w, refl, refl))

  -- what is at hand
  module _ (h : Holding) (hand : v.at_hand ≡ Some h) (at : v.reader.point ≡ reads.Rest) where
    pub line_loads : Allows (KeepsNodes shape) slots id (Receives v, []) (line_word_of h.node) (λ n. n) (tells_load_line (step slots (line_word_of h.node) 0 0 none) (Receives v, []))
    line_loads s kept deep seen small = (Receives v, keeps, tt, (line_kept shape id v s kept seen h hand at).2.rule, (v, refl, (refl, line_found shape id v s kept seen h hand)))

    pub amount_loads : Allows (KeepsNodes shape) slots id (Receives v, []) (amount_word_of h.node) (λ n. n) (tells_load_amount (step slots (amount_word_of h.node) 0 0 none) (Receives v, []))
    amount_loads s kept deep seen small = (Receives v, keeps, tt, (amount_kept shape id v s kept seen h hand at).2.rule, (v, refl, (refl, amount_found shape id v s kept seen h hand)))

    pub turn_adds : Allows (KeepsNodes shape) slots id (Receives v, []) (turn_word h.node) (λ n. (n + 1) % 2 ^ 64) (tells_give_back (step slots (turn_word h.node) 1 0 none) (Receives v, []))
    turn_adds s kept deep seen small =
        let w : ReceiverSeat = after_give (Some h) v in
        (Receives w, keeps, tt, (give_kept shape id v s kept seen h hand at).2.rule, (w, refl, (ap (λ o. after_give o v) (sym hand), hand_held shape id v s kept seen h hand)))
