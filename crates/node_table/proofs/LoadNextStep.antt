-- LoadNext keeps the rule of a table of nodes: it is a look, or the first entry that is left is passed.
use Rattle.std.proofs.Common.{◌≡◌, ◌∙◌, ◌<◌, ◌≤◌, ◌+◌, ◌-◌, ◌/◌, ◌++◌, ◌∷◌, ◌⊎◌, [], ℕ, Bool, List, true, false, None, Some, length, get_or, not, set, ap, sym, refl, subst, inl, inr, arith, get_or-set_other, get_or-set_same, length-set}
use Rattle.std.specs.Prelude.{◌==◌, slice_index_or, if◌then◌else◌}
use Rattle.std.specs.List.{filter_map}
use Rattle.std.proofs.lemmas.Bool.{cases_eq, eq-eqb, false_from_ne_true, false≢true, ne_eqb}
use Rattle.std.proofs.lemmas.List.{append-nil, get_or-drop, take_more}
use Rattle.std.proofs.lemmas.List.Elements.{All-get_or, filter_map-append}
use Rattle.std.proofs.lemmas.Nat.{div-mul-add}
use mathlib.Core.Option.{some}
use lib.ListN.{get_elem?}
use Rattle.atomic_table.specs.Table.{State}
use Rattle.atomic_table.proofs.Lists.{set_here}
use Rattle.queue_core.specs.declared.entry.Entry.{Entry}
use Rattle.queue_core.specs.declared.entry.Entry.TheVariants.{Of, Stub}
use Rattle.queue_core.specs.declared.item.Item.TheVariants.{End}
use Rattle.queue_core.specs.declared.item.Took.TheVariants as took
use Rattle.queue_core.specs.declared.reader.Reader.{Reader}
use Rattle.queue_core.specs.declared.reader.ReaderPoint.{ReaderPoint}
use Rattle.queue_core.specs.declared.reader.ReaderPoint.TheVariants as reads
use Rattle.queue_core.specs.declared.step.Step.TheVariants as steps
use Rattle.queue_core.specs.Box.{IsStanding}
use Rattle.queue_core.specs.Mailbox.{IsHeld, Mailbox, got, is_among, item_at, left_entries, passed_entries, received_at}
use Rattle.queue_core.specs.Chain.{entry_at}
use Rattle.queue_core.specs.Events.{after}
use Rattle.queue_core.specs.Events.Event.{Pass}
use Rattle.queue_core.specs.Links.{IsOwedByReader, IsTailAt, Links, ShowLinks, is_in_flight}
use Rattle.queue_core.specs.Pool.{Pool, after_in}
use Rattle.queue_core.specs.Pooled.{Pooled, node_at, reader_in, stub_in, with_reader}
use Rattle.queue_core.specs.PoolLaws.{ShowsAfterIn}
use Rattle.queue_core.specs.PoolShows.{box_in, links_in, node_in, place_of}
use Rattle.queue_core.specs.PoolSteps.{answers, goes_to, has_next, is_at_stub, next_at, passes, stepped_in, takes}
use Rattle.queue_core.proofs.BoxFrame.{left_stands}
use Rattle.queue_core.proofs.BoxReads.{first_stub}
use Rattle.queue_core.proofs.Entries.{among_last, among_more, read_among}
use Rattle.queue_core.proofs.LeftLemmas.{left_unpassed}
use Rattle.queue_core.proofs.MailboxHolds.{Holds}
use Rattle.queue_core.proofs.PooledKept.{next_within, reader_keeps}
use Rattle.queue_core.proofs.PoolKept.{apart_here}
use Rattle.queue_core.proofs.PoolNodes.{in_table, no_others, place_low}
use Rattle.queue_core.proofs.PoolPosts.{posts_after}
use Rattle.queue_core.proofs.PoolRuns.{step_shows_in}
use Rattle.queue_core.proofs.PoolTells.{give_back_tells}
use Rattle.queue_core.proofs.StepLemmas.{chosen}
use Rattle.node_table.specs.declared.seats.Holding.{Holding}
use Rattle.node_table.specs.declared.seats.Known.{Known}
use Rattle.node_table.specs.declared.seats.Known.TheVariants.{Receives}
use Rattle.node_table.specs.declared.seats.Posting.{Posting}
use Rattle.node_table.specs.declared.seats.ReceiverSeat.{ReceiverSeat}
use Rattle.node_table.specs.declared.seats.Shape.{Shape}
use Rattle.node_table.specs.Layout.{next_word, nodes_in, stub_of}
use Rattle.node_table.specs.Rule.{KeepsNodes, KeepsOn}
use Rattle.queue_core.specs.Items.{IsInRange}
use Rattle.node_table.specs.Seats.{AreTakenIn, Owned, Has, IsAlone, IsHolding, IsReceiverSeat}
use Rattle.node_table.specs.Seats.Owned.{Node, Part}
use Rattle.node_table.specs.Tells.{HasLoadedNext, HasTakenNode, IsAwaitedAt, LoadsNext, past_node, past_stub, with_reader_at, without_next, without_next_at}
use Rattle.node_table.proofs.Owned.{at_within}
use Rattle.node_table.proofs.AtHandSteps.{known_held, not_taken}
use Rattle.node_table.proofs.AfterEvent.{later_held, later_own}
use Rattle.node_table.proofs.ReceiverFrame.{but_reader, ButReader, fits_on, gone_on, holds, low, moved, nodes_are, own, reader_else, reader_set, readers_low, same_node, seat_after, still_holding, stub_is}
use Rattle.node_table.proofs.TakenIn.{begins_now, find_awaited, nothing_flies, tail_alone}
use Rattle.node_table.proofs.Words.{look_words}

-- ---- LoadNext is due

module _ (c : Pooled) (q : Pool) (b : ℕ) where
  -- where the tail has no next
  module _ (none : has_next b c ≡ false) where
    -- at rest, by whether the tail is the stub
    rest_none : (at : Bool) → (if at then Some (if has_next b c then goes_to b reads.Second (passes b c) else goes_to b reads.StubHead c) else Some (if has_next b c then takes b c else goes_to b reads.NodeHead c))
        ≡ Some (goes_to b (if at then reads.StubHead else reads.NodeHead) c)
    rest_none true = ap (λ t. Some (if t then goes_to b reads.Second (passes b c) else goes_to b reads.StubHead c)) none
    rest_none false = ap (λ t. Some (if t then takes b c else goes_to b reads.NodeHead c)) none

    -- the reader goes to another point
    none_due : (point : ReaderPoint) → LoadsNext point → IsTailAt (links_in c q b) (q.boxes b) point → next_at point b c ≡ Some (with_reader b (without_next_at point (stub_in c b) (reader_in c b)) c)
    none_due point =
        elim point as (λ p. LoadsNext p → IsTailAt (links_in c q b) (q.boxes b) p → next_at p b c ≡ Some (with_reader b (without_next_at p (stub_in c b) (reader_in c b)) c)) [
          | reads.Rest ↦ λ at tail. rest_none (is_at_stub b c)
          | reads.Second ↦ λ at tail. rw (ne_eqb (reader_in c b).tail (stub_in c b) tail, none) refl
          | reads.Last ↦ λ at tail. ap (λ t. Some (if t then takes b c else answers b took.Busy c)) none
          | _ ↦ λ at tail. absurd at
        ]

  -- where it has one
  module _ (has : has_next b c ≡ true) where
    -- the stub is passed
    stub_due : (reader_in c b).tail ≡ stub_in c b → (point : ReaderPoint) → LoadsNext point → IsTailAt (links_in c q b) (q.boxes b) point → next_at point b c ≡ Some (goes_to b reads.Second (passes b c))
    stub_due is point =
        elim point as (λ p. LoadsNext p → IsTailAt (links_in c q b) (q.boxes b) p → next_at p b c ≡ Some (goes_to b reads.Second (passes b c))) [
          | reads.Rest ↦ λ at tail. rw (eq-eqb (reader_in c b).tail (stub_in c b) is, has) refl
          | reads.Second ↦ λ at tail. absurd (tail is)
          | reads.Last ↦ λ at tail. absurd (tail is)
          | _ ↦ λ at tail. absurd at
        ]

    -- and a node is taken
    node_due : ¬ ((reader_in c b).tail ≡ stub_in c b) → (point : ReaderPoint) → LoadsNext point → next_at point b c ≡ Some (takes b c)
    node_due other point =
        elim point as (λ p. LoadsNext p → next_at p b c ≡ Some (takes b c)) [
          | reads.Rest ↦ λ at. rw (ne_eqb (reader_in c b).tail (stub_in c b) other, has) refl
          | reads.Second ↦ λ at. rw (ne_eqb (reader_in c b).tail (stub_in c b) other, has) refl
          | reads.Last ↦ λ at. ap (λ t. Some (if t then takes b c else answers b took.Busy c)) has
          | _ ↦ λ at. absurd at
        ]

-- ---- the entry that is passed

module _ (ring : ℕ) (m : Mailbox) (holds : Holds ring m) (k : Links) (links : ShowLinks k m) (e : Entry) (first : entry_at (left_entries m) 0 ≡ e) where
  -- it is passed after all others
  passed_then : passed_entries (after Pass m) ≡ passed_entries m ++ e ∷ []
  passed_then =
      let here : m.passed ≡ m.passed + 0 = omega arith in
      take_more m.order m.passed Stub holds.reader.some_left ∙ ap (λ e. passed_entries m ++ e ∷ []) (ap (entry_at m.order) here ∙ (sym (get_or-drop m.passed m.order 0 Stub) ∙ first))

  -- it is one of those that are left
  first_left : is_among e (left_entries m) ≡ true
  first_left = ap (λ e. is_among e (left_entries m)) (sym first) ∙ read_among (left_entries m) 0 Stub links.chain.some

  -- what it has is received
  got_then : got (after Pass m) ≡ got m ++ filter_map (received_at m) (e ∷ [])
  got_then = ap (filter_map (received_at m)) passed_then ∙ filter_map-append (received_at m) (passed_entries m) (e ∷ [])

  -- what was held is held still
  held_then : (p k : ℕ) → IsHeld m p k → IsHeld (after Pass m) p k
  held_then p k held = record { passed = ap (is_among (Of p k)) passed_then ∙ among_more (Of p k) (passed_entries m) (e ∷ []) held.passed; kept = held.kept }

-- a sender's entry that is passed is held from now on
held_first : (ring : ℕ) (m : Mailbox) (holds : Holds ring m) (k : Links) (links : ShowLinks k m) (p j : ℕ) → entry_at (left_entries m) 0 ≡ Of p j → IsHeld (after Pass m) p j
held_first ring m holds k links p j first =
    let unpassed = left_unpassed ring m holds p j (first_left ring m holds k links (Of p j) first) in record {
      passed = ap (is_among (Of p j)) (passed_then ring m holds k links (Of p j) first) ∙ among_last (Of p j) (passed_entries m);
      kept = false_from_ne_true (is_among (Of p j) m.given) (λ given. false≢true (sym unpassed ∙ holds.reader.given_passed p j given));
    }

-- ---- where the tail has no next

-- no stub is in flight where the next is to be loaded
owes_none : (k : Links) (m : Mailbox) (point : ReaderPoint) → LoadsNext point → IsOwedByReader k m point → is_in_flight m Stub ≡ false
owes_none k m point =
    elim point as (λ p. LoadsNext p → IsOwedByReader k m p → is_in_flight m Stub ≡ false) [
      | reads.Rest ↦ λ at landed. landed
      | reads.Second ↦ λ at landed. landed
      | reads.Last ↦ λ at landed. landed
      | _ ↦ λ at. absurd at
    ]

-- where the tail alone is left, it is so at the point that comes next
alone_next : (m : Mailbox) (stub : ℕ) (r : Reader) (point : ReaderPoint) → LoadsNext point → length (left_entries m) ≡ 1 → IsAlone m (without_next_at point stub r).point
alone_next m stub r point =
    elim point as (λ p. LoadsNext p → length (left_entries m) ≡ 1 → IsAlone m (without_next_at p stub r).point) [
      | reads.Rest ↦ λ at one. chosen (IsAlone m) (r.tail == stub) reads.StubHead reads.NodeHead (λ _. one) (λ _. one)
      | reads.Second ↦ λ at one. one
      | reads.Last ↦ λ at one. tt
      | _ ↦ λ at. absurd at
    ]

-- ---- the rule

module _ (shape : Shape) (id : ℕ) (v : ReceiverSeat) (s : State Posting Known) (kept : KeepsNodes shape s) (seen : get_elem? s.views id ≡ some (Receives v)) (at : LoadsNext v.reader.point) where
  abbrev c : Pooled
  c = kept.core

  abbrev q : Pool
  q = kept.pool

  abbrev b : ℕ
  b = v.mailbox

  abbrev m : Mailbox
  m = q.boxes b

  abbrev mine : IsReceiverSeat c q v
  mine = own shape s kept id v seen

  abbrev reader : Reader
  reader = reader_in c b

  abbrev next : ℕ
  next = (node_at c reader.tail).next

  abbrev found : ℕ
  found = get_or s.words (next_word v.reader.tail) 0

  -- its mailbox is there
  there : b < length c.heads
  there = low shape s kept id v seen

  -- the mailbox is one that events lead to
  its : Holds c.ring m
  its = holds shape s kept id v seen b

  -- and the core shows its links
  links : ShowLinks (links_in c q b) m
  links = (kept.mail.shows.boxes b there).links

  -- the tail and the stub are those that the receiver knows
  tail_is : reader.tail ≡ v.reader.tail
  tail_is = ap (λ (r : Reader). r.tail) mine.its_mailbox.reader

  -- what is found is the next of the tail
  found_is : found ≡ next
  found_is = ap (λ (t : ℕ). get_or s.words (next_word t) 0) (sym tail_is) ∙ kept.words.next reader.tail (reader_keeps c kept.mail.pooled b there).0

  stub_here : stub_in c b ≡ stub_of v.shape b
  stub_here = stub_is shape s kept id v seen

  -- it is null, or a link to a node
  small : found ≤ nodes_in v.shape
  small = omega (arith, found_is, next_within c kept.mail.pooled reader.tail, nodes_are shape s kept id v seen)

  -- the receiver is where the next is loaded
  loads : LoadsNext reader.point
  loads = subst LoadsNext (ap (λ (r : Reader). r.point) (sym mine.its_mailbox.reader)) at

  -- the rule where the seat knows more
  abbrev KeepsThen : ReceiverSeat → Type 0
  KeepsThen w = KeepsOn shape s kept b steps.LoadNext record { words = set s.words (next_word v.reader.tail) found; homes = s.homes; views = set s.views id (Receives w) }

  -- ---- null is found

  module _ (zero : found ≡ 0) where
    -- so the tail has no next
    none : has_next b c ≡ false
    none = ap not (eq-eqb next 0 (sym found_is ∙ zero))

    abbrev without : ReceiverSeat
    without = with_reader_at (without_next (stub_of v.shape b) v.reader) v

    -- once all senders were taken in, the tail alone is left
    one_left : AreTakenIn v → length (left_entries m) ≡ 1
    one_left all =
        let landed = owes_none (links_in c q b) m reader.point loads links.reader.in_flight in
        tail_alone m (links_in c q b) links (nothing_flies shape s kept id v seen all landed) (sym found_is ∙ zero)

    -- the rule is kept
    none_kept : KeepsThen without
    none_kept =
        let r : Reader = without_next (stub_in c b) reader in
        let n : Pooled = with_reader b r c in
        gone_on shape s kept id v seen steps.LoadNext None n _ _ _ record {
          due = none_due c q b none reader.point loads links.reader.at_tail;
          event_is = ap (λ t. if t then Some Pass else None) none;
          same = but_reader shape s kept id v seen None n.heads n.nodes n.holders n.readers refl (reader_else shape s kept id v seen r) refl refl;
          are_words = look_words shape c s.words kept.words n (next_word v.reader.tail) refl refl;
          reader_is = reader_set shape s kept id v seen r ∙ (λ i. without_next (stub_here i) (mine.its_mailbox.reader i));
          passed_is = mine.its_mailbox.passed;
          given_is = refl;
          got_is = refl;
          held = λ p k held. held;
          alone = λ all. alone_next m (stub_of v.shape b) v.reader v.reader.point at (one_left all);
        }

    -- the stub was put in behind the tail, so something was exchanged in between
    none_busy : v.reader.point ≡ reads.Last → IsAwaitedAt v
    none_busy last = elim (find_awaited v) [
      | inl all ↦ let two : length (left_entries m) ≡ 2 = ap (λ (xs : List Entry). length xs) (subst (IsAlone m) last (mine.alone all)).1 in absurd (omega (arith, two, one_left all))
      | inr awaited ↦ awaited
    ]

  -- ---- a link is found

  module _ (more : ¬ (found ≡ 0)) where
    -- so the tail has a next
    has : has_next b c ≡ true
    has = ap not (ne_eqb next 0 (λ zero. more (found_is ∙ zero)))

    -- and the first entry is passed
    pass_event : (if has_next b c then Some Pass else None) ≡ Some Pass
    pass_event = ap (λ t. if t then Some Pass else None) has

    abbrev q' : Pool
    q' = after_in b Pass q

    -- the reader is written twice: its tail is the next node, and then it is at another point
    abbrev on : Reader
    on = record reader { tail = next - 1 }

    -- it is there after the first write
    on_is : reader_in (passes b c) b ≡ on
    on_is = reader_set shape s kept id v seen on

    -- and at the point after the second
    twice : (r : Reader) → reader_in (with_reader b r (passes b c)) b ≡ r
    twice r = get_or-set_same (set c.readers b on) b r _ (omega (arith, readers_low shape s kept id v seen, length-set c.readers b on))

    -- the other readers are as they were
    twice_else : (r : Reader) (d : ℕ) → ¬ (d ≡ b) → reader_in (with_reader b r (passes b c)) d ≡ reader_in c d
    twice_else r d other = get_or-set_other (set c.readers b on) b d r _ other ∙ reader_else shape s kept id v seen on d other

    -- the tail is the stub
    module _ (is : reader.tail ≡ stub_in c b) where
      abbrev past : Reader
      past = record (reader_in (passes b c) b) { point = reads.Second }

      abbrev second : Pooled
      second = with_reader b past (passes b c)

      -- the first entry that is left is the stub
      stub_first : entry_at (left_entries m) 0 ≡ Stub
      stub_first = first_stub c.ring m its (box_in c q b) (kept.mail.shows.boxes b there) (apart_here c kept.mail.pooled kept.events q kept.mail.leads kept.mail.shows b there) is

      -- it is passed
      second_due : stepped_in c b steps.LoadNext ≡ Some second
      second_due = stub_due c q b has is reader.point loads links.reader.at_tail

      -- and the receiver looks for a next once more
      second_is : reader_in second b ≡ record v.reader { point = reads.Second; tail = found - 1 }
      second_is = twice past ∙ ((λ i. record (on_is i) { point = reads.Second }) ∙ (λ i. record (mine.its_mailbox.reader i) { point = reads.Second; tail = sym found_is i - 1 }))

      -- the rule is kept
      stub_kept : KeepsThen (past_stub (found - 1) v)
      stub_kept = gone_on shape s kept id v seen steps.LoadNext (Some Pass) second _ (record v.reader { point = reads.Second; tail = found - 1 }) (v.passed ++ Stub ∷ []) record {
        due = second_due;
        event_is = pass_event;
        same = but_reader shape s kept id v seen (Some Pass) second.heads second.nodes second.holders second.readers refl (twice_else past) refl refl;
        are_words = look_words shape c s.words kept.words second (next_word v.reader.tail) refl refl;
        reader_is = second_is;
        passed_is = passed_then c.ring m its (links_in c q b) links Stub stub_first ∙ ap (λ xs. xs ++ Stub ∷ []) mine.its_mailbox.passed;
        given_is = refl;
        got_is = got_then c.ring m its (links_in c q b) links Stub stub_first ∙ append-nil (got m);
        held = held_then c.ring m its (links_in c q b) links Stub stub_first;
        alone = λ all. tt;
      }

      -- the stub is not left any more
      stub_past : ¬ (found - 1 ≡ stub_of v.shape b)
      stub_past same =
          let law = step_shows_in b steps.LoadNext kept.events q c second there kept.mail.pooled kept.mail.leads kept.mail.shows second_due in
          let told : ShowsAfterIn (Some Pass) c.ring b q second = subst (λ e. ShowsAfterIn e c.ring b q second) pass_event law in
          let tail : IsTailAt (links_in second q' b) (q'.boxes b) reads.Second = subst (IsTailAt (links_in second q' b) (q'.boxes b)) (ap (λ (r : Reader). r.point) second_is) (told.1.boxes b there).links.reader.at_tail in
          tail (ap (λ (r : Reader). r.tail) second_is ∙ (same ∙ sym stub_here))

    -- the tail is a sender's node
    module _ (other : ¬ (reader.tail ≡ stub_in c b)) (p k : ℕ) (first : entry_at (left_entries m) 0 ≡ Of p k) where
      abbrev n : Pooled
      n = takes b c

      abbrev held_now : Reader
      held_now = record (reader_in (passes b c) b) { point = reads.Rest; last = Some (took.Held reader.tail) }

      -- what the receiver has at hand then
      abbrev h : Holding
      h = record { shape = v.shape; mailbox = b; node = v.reader.tail; sender = p; place = k; item = item_at m p k }

      -- the entry was left, so it stands in its node
      is_left : is_among (Of p k) (left_entries m) ≡ true
      is_left = first_left c.ring m its (links_in c q b) links (Of p k) first

      stands : IsStanding m (Of p k)
      stands = left_stands c.ring m its (Of p k) is_left

      -- which is the tail
      node_is : node_in c q b (Of p k) ≡ v.reader.tail
      node_is = ap (node_in c q b) (sym first) ∙ (sym links.chain.tail_is ∙ tail_is)

      -- it is held from now on
      held_is : IsHeld (after Pass m) p k
      held_is = held_first c.ring m its (links_in c q b) links p k first

      -- all but the receiver is as it was
      same : ButReader c n q q' b
      same = but_reader shape s kept id v seen (Some Pass) n.heads n.nodes n.holders n.readers refl (twice_else held_now) refl refl

      -- so the receiver has it at hand
      at_hand : IsHolding n q' h
      at_hand = record {
        shape = fits_on c n q q' b same v.shape mine.its_mailbox.shape;
        mailbox = there;
        held = subst (λ m. IsHeld m p k) (sym (later_own q b (Some Pass))) held_is;
        node = same_node c n q q' b same b p k ∙ node_is;
        item = λ i. slice_index_or (same.items b i p) k End;
      }

      -- and has passed it
      passed_is : passed_entries (after Pass m) ≡ v.passed ++ Of p k ∷ []
      passed_is = passed_then c.ring m its (links_in c q b) links (Of p k) first ∙ ap (λ xs. xs ++ Of p k ∷ []) mine.its_mailbox.passed

      -- the node is one of the sender's
      block_is : v.reader.tail / (v.shape.ring + v.shape.mailboxes) ≡ p
      block_is =
          let ok = kept.mail.pooled in
          let place = place_of c.ring (q.posts p) b (item_at m p k) k in
          let under = place_low c ok q (posts_after c.ring ok.some_nodes kept.events q kept.mail.leads) (holds shape s kept id v seen) b there (q.posts p) (item_at m p k) k in
          ap (λ (n : ℕ). n / (v.shape.ring + v.shape.mailboxes)) (sym node_is)
          ∙ ((λ i. node_in c q b (Of p k) / (sym mine.its_mailbox.shape.ring i + sym mine.its_mailbox.shape.mailboxes i)) ∙ div-mul-add p (c.ring + length c.heads) place under)

      -- an entry that was held, in whichever mailbox, stands in another node
      node_else : (g : Holding) → IsHolding c q g → ¬ (v.reader.tail ≡ g.node)
      node_else g was same =
          give_back_tells kept.events q c g.mailbox g.sender g.place kept.mail.pooled kept.mail.leads kept.mail.shows was.mailbox was.held b there (Of p k) is_left (node_is ∙ (same ∙ sym was.node))

      -- the receiver has one node more, which nobody had
      has_more : (thing : Owned) → Has (Receives (past_node (found - 1) h v)) thing → Has (Receives v) thing ⊎ ((a : ℕ) × (thing ≡ Node a) × ((g : Holding) → IsHolding c q g → ¬ (a ≡ g.node)))
      has_more (Part part) has = inl has
      has_more (Node a) has =
          let same : h ≡ has.0 = let both = has.1 in cc in
          inr (a, refl, λ g was e. node_else g was (ap (λ (g : Holding). g.node) same ∙ (has.2 ∙ e)))

      -- the rule is kept
      node_kept : KeepsThen (past_node (found - 1) h v)
      node_kept = moved shape s kept id v seen steps.LoadNext (Some Pass) n _ (past_node (found - 1) h v) record {
        due = node_due c q b has other reader.point loads;
        event_is = pass_event;
        same = same;
        are_words = look_words shape c s.words kept.words n (next_word v.reader.tail) refl refl;
        seat = seat_after shape s kept id v seen (Some Pass) n same (record { point = reads.Rest; tail = found - 1; last = Some (took.Held v.reader.tail) }) (v.passed ++ Of p k ∷ []) v.given (v.got ++ (p, item_at m p k) ∷ []) (Some h) record {
          reader_is = twice held_now ∙ ((λ i. record (on_is i) { point = reads.Rest; last = Some (took.Held reader.tail) }) ∙ (λ i. record { point = reads.Rest; tail = sym found_is i - 1; last = Some (took.Held (tail_is i)) }));
          passed_is = passed_is;
          given_is = mine.its_mailbox.given;
          got_is = got_then c.ring m its (links_in c q b) links (Of p k) first ∙ ap (λ xs. xs ++ (p, item_at m p k) ∷ []) mine.its_mailbox.got;
          holding = λ g hand. let same : h ≡ g = cc in subst (λ (g : Holding). IsHolding n q' g × (g.mailbox ≡ b)) same (at_hand, refl);
          alone = λ all. tt;
        };
        others = λ g free was. still_holding c n q q' b same g was (later_held q b (Some Pass) (held_then c.ring m its (links_in c q b) links (Of p k) first) g.mailbox g.sender g.place was.held);
        new = has_more;
      }

      -- and this is what the receiver knows then
      taken : HasTakenNode (found - 1) v (past_node (found - 1) h v)
      taken =
          let ok = kept.mail.pooled in record {
            held = h;
            seat = refl;
            shape = refl;
            mailbox = refl;
            node = refl;
            block = block_is;
            within = omega (arith, mine.its_mailbox.shape.senders, in_table c ok q (posts_after c.ring ok.some_nodes kept.events q kept.mail.leads) (holds shape s kept id v seen) (no_others c q kept.mail.shows) b p k stands);
            ranged = All-get_or IsInRange (m.items p) k End stands.0 (kept.mail.ranged b p);
            fresh = not_taken m v.passed mine.its_mailbox.passed p k (left_unpassed c.ring m its p k is_left);
            kept = known_held (after Pass m) (v.passed ++ Of p k ∷ []) passed_is p k v.given mine.its_mailbox.given held_is;
            begins = begins_now shape _ node_kept.2.rule id (past_node (found - 1) h v) (set_here s.views id (Receives (past_node (found - 1) h v)) (at_within s.views id (Receives v) seen));
          }

  -- ---- what it tells

  abbrev Result : Type 0
  Result = (w : ReceiverSeat) × KeepsThen w × HasLoadedNext found v w

  -- the three cases: null is found, a link at the stub, or one at a node
  at_none : found ≡ 0 → Result
  at_none zero = (
    without zero,
    none_kept zero,
    record {
      small = small;
      null = λ _. refl;
      busy = none_busy;
      stub = λ more is. absurd (more zero);
      node = λ more other. absurd (more zero);
    },
  )

  at_stub : ¬ (found ≡ 0) → reader.tail ≡ stub_in c b → Result
  at_stub more is = (
    past_stub (found - 1) v,
    stub_kept more is,
    record {
      small = small;
      null = λ zero. absurd (more zero);
      busy = λ zero. absurd (more zero);
      stub = λ _ same. (refl, stub_past more is);
      node = λ _ other. absurd (other (sym tail_is ∙ (is ∙ stub_here)));
    },
  )

  at_node : ¬ (found ≡ 0) → ¬ (reader.tail ≡ stub_in c b) → (e : Entry) → entry_at (left_entries m) 0 ≡ e → Result
  at_node more other (Of p k) start = (
    past_node (found - 1) (h more other p k start) v,
    node_kept more other p k start,
    record {
      small = small;
      null = λ zero. absurd (more zero);
      busy = λ zero. absurd (more zero);
      stub = λ _ same. absurd (other (tail_is ∙ (same ∙ sym stub_here)));
      node = λ _ apart. taken more other p k start;
    },
  )
  at_node more other Stub start = absurd (other (links.chain.tail_is ∙ ap (node_in c q b) start))

  pub next_kept : Result
  next_kept = elim (cases_eq found 0) [
    | inl zero ↦ at_none zero
    | inr more ↦ elim (cases_eq reader.tail (stub_in c b)) [
      | inl is ↦ at_stub more is
      | inr other ↦ at_node more other (entry_at (left_entries m) 0) refl
    ]
  ]
