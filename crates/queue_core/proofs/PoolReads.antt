-- The reader's steps in a pool.
use Rattle.std.proofs.Common.{◌≡◌, ◌∙◌, ◌<◌, ◌-◌, ℕ, Bool, true, false, List, Option, None, Some, length, ap, sym, refl, subst, inl, inr, arith, get_or-set_other, get_or-set_same}
use Rattle.std.specs.Prelude.{slice_index_or, if◌then◌else◌}
use Rattle.std.proofs.lemmas.Bool.{cases_eq, eq-eqb, eqb-true, false_from_ne_true, false≢true, ne_eqb}
use Rattle.std.proofs.lemmas.List.{length-set}
use Rattle.queue_core.specs.declared.entry.Entry.{Entry}
use Rattle.queue_core.specs.declared.entry.Entry.TheVariants.{Of, Stub}
use Rattle.queue_core.specs.declared.item.Took.{Took}
use Rattle.queue_core.specs.declared.item.Took.TheVariants as took
use Rattle.queue_core.specs.declared.words.Node.{Node}
use Rattle.queue_core.specs.declared.reader.Reader.{Reader}
use Rattle.queue_core.specs.declared.reader.ReaderPoint.{ReaderPoint}
use Rattle.queue_core.specs.declared.reader.ReaderPoint.TheVariants as reads
use Rattle.queue_core.specs.declared.step.Step.TheVariants as step
use Rattle.queue_core.specs.Mailbox.{Mailbox, is_among, left_entries}
use Rattle.queue_core.specs.Events.{Event, MayPass, after}
use Rattle.queue_core.specs.Events.Event.{Pass, StubIn, StubLink}
use Rattle.queue_core.specs.Chain.{entry_at}
use Rattle.queue_core.specs.StoredWords.{empty_node, link_to, null}
use Rattle.queue_core.specs.Links.{IsOwedByReader, IsTailAt, is_in_flight}
use Rattle.queue_core.specs.Box.{Box, IsStanding, ShowsBox}
use Rattle.queue_core.specs.Pool.{MayIn, Pool, PoolLeads, after_in}
use Rattle.queue_core.specs.Pooled.{IsPooled, IsReaderPoint, Pooled, head_in, is_held_in, is_mailbox, node_at, reader_in, stub_in, with_head, with_node, with_reader}
use Rattle.queue_core.specs.PoolSteps.{answers, goes_to, has_next, head_at, is_at_stub, is_last, next_at, passes, stub_link_at, stub_null_at, stub_swap_at, takes}
use Rattle.queue_core.specs.PoolShows.{ShowsPool, box_in, links_in, node_in}
use Rattle.queue_core.specs.PoolLaws.{PoolStepShows, ShowsAfterIn}
use Rattle.queue_core.proofs.BoxFrame.{left_stands}
use Rattle.queue_core.proofs.BoxReads.{before_entry, before_is, before_stands, in_box, link_stub_box, linked_in, linked_link, look_box, may_in, null_box, owed_stub, pass_stub_box, stub_gone, take_box}
use Rattle.queue_core.proofs.Entries.{among_first, read_among}
use Rattle.queue_core.proofs.MailboxHolds.{Holds, item_within}
use Rattle.queue_core.proofs.PassLemmas.{may_pass}
use Rattle.queue_core.proofs.PooledKept.{field_kept, reader_keeps, stub_within}
use Rattle.queue_core.proofs.PoolKept.{Stays, apart_here, event_same, here, holds_in, kept_shows, same_pool}
use Rattle.queue_core.proofs.PoolNodes.{apart_in}
use Rattle.queue_core.proofs.PoolPosts.{box_own}
use Rattle.queue_core.proofs.StepLemmas.{chosen, passed, some_is}

module _ (c : Pooled) (ok : IsPooled c) (events : List (ℕ × Event)) (q : Pool) (leads : PoolLeads c.ring events q) (shows : ShowsPool c q) (b : ℕ) (low : b < length c.heads) where
  abbrev m : Mailbox
  m = q.boxes b

  abbrev x : Box
  x = box_in c q b

  abbrev reader : Reader
  reader = reader_in c b

  holds : Holds c.ring m
  holds = holds_in c ok events q leads shows b low b

  apart : (e f : Entry) → IsStanding m e → IsStanding m f → node_in c q b e ≡ node_in c q b f → e ≡ f
  apart = apart_here c ok events q leads shows b low

  readers_low : b < length c.readers
  readers_low = omega (arith, low, ok.readers)

  owed : (pt : ReaderPoint) → reader.point ≡ pt → IsOwedByReader (links_in c q b) m pt
  owed pt at = subst (IsOwedByReader (links_in c q b) m) at (shows.boxes b low).links.reader.in_flight

  tail_at : (pt : ReaderPoint) → reader.point ≡ pt → IsTailAt (links_in c q b) m pt
  tail_at pt at = subst (IsTailAt (links_in c q b) m) at (shows.boxes b low).links.reader.at_tail

  -- ---- the reader alone is at another point

  module _ (pt : ReaderPoint) (last : Option (Took ℕ)) where
    abbrev moved : Reader
    moved = record { point = pt; tail = reader.tail; last = last }

    moved_own : reader_in (with_reader b moved c) b ≡ moved
    moved_own = get_or-set_same c.readers b moved _ readers_low

    moved_stays : Stays c (with_reader b moved c) b
    moved_stays = record {
      ring = refl;
      heads = refl;
      senders = refl;
      ended = refl;
      head = λ d other. refl;
      reader = λ d other. get_or-set_other c.readers b d moved _ other;
      points = λ d other s. refl;
      held = λ d in_range other a. refl;
      counts = λ s. refl;
      turns = λ a. refl;
    }

    look_shows : IsOwedByReader (links_in c q b) m pt → IsTailAt (links_in c q b) m pt → ShowsPool (with_reader b moved c) q
    look_shows owes stands_at =
        kept_shows c ok events q leads shows b low (with_reader b moved c) moved_stays Stub tt (λ a other. refl) q (same_pool q b)
        (subst (λ (r : Reader). ShowsBox (record x { links = record (links_in c q b) { tail = r.tail; point = r.point } }) m) (sym moved_own)
        (look_box c.ring m holds x (shows.boxes b low) apart pt owes stands_at))

  at_head : (point : ReaderPoint) → reader.point ≡ point → (n : Pooled) → head_at point b c ≡ Some n → ShowsPool n q
  at_head reads.StubHead at n e =
      some_is (λ n. ShowsPool n q) (answers b (if is_last b c then took.Empty else took.Busy) c) n e (look_shows reads.Rest (Some (if is_last b c then took.Empty else took.Busy)) (owed reads.StubHead at) tt)
  at_head reads.NodeHead at n e =
      let other : ¬ (reader.tail ≡ stub_in c b) = tail_at reads.NodeHead at in
      some_is (λ n. ShowsPool n q) (if is_last b c then goes_to b reads.Null c else answers b took.Busy c) n e
      (chosen (λ n. ShowsPool n q) (is_last b c) (goes_to b reads.Null c) (answers b took.Busy c)
      (λ last. look_shows reads.Null reader.last (owed reads.NodeHead at) (other, stub_gone c.ring m holds x (shows.boxes b low) apart (eqb-true (head_in c b) (link_to reader.tail) last) other))
      (λ more. look_shows reads.Rest (Some took.Busy) (owed reads.NodeHead at) tt))
  at_head _ at n e = cc

  -- ---- a node is written, and the reader is at another point

  module _ (place : ℕ) (node : Node) (pt : ReaderPoint) where
    abbrev stored_core : Pooled
    stored_core = goes_to b pt (with_node place node c)

    stored_own : reader_in stored_core b ≡ record reader { point = pt }
    stored_own = moved_own pt reader.last

    module _ (there : place < length c.nodes) where
      stored_word : node_at stored_core place ≡ node
      stored_word = get_or-set_same c.nodes place node empty_node there

      stored_words : (a : ℕ) → ¬ (a ≡ place) → node_at stored_core a ≡ node_at c a
      stored_words a other = get_or-set_other c.nodes place a node empty_node other

      stored_same : (f : Node → ℕ) → f node ≡ f (node_at c place) → (a : ℕ) → f (node_at stored_core a) ≡ f (node_at c a)
      stored_same = field_kept c place node there

      stored_stays : node.turn ≡ (node_at c place).turn → Stays c stored_core b
      stored_stays turn = record {
        ring = refl;
        heads = refl;
        senders = refl;
        ended = refl;
        head = λ d other. refl;
        reader = λ d other. get_or-set_other c.readers b d (moved pt reader.last) _ other;
        points = λ d other s. refl;
        held = λ d in_range other a. refl;
        counts = λ s. refl;
        turns = stored_same (λ (z : Node). z.turn) turn;
      }

  -- ---- the stub is emptied, exchanged in and linked

  module _ (at : reader.point ≡ reads.Null) where
    abbrev nulled_node : Node
    nulled_node = record (node_at c (stub_in c b)) { next = null }

    abbrev nulled_core : Pooled
    nulled_core = stored_core (stub_in c b) nulled_node reads.Swap

    stub_low : stub_in c b < length c.nodes
    stub_low = omega (arith, stub_within c ok b low)

    null_words : (a : ℕ) → ¬ (a ≡ stub_in c b) → node_at nulled_core a ≡ node_at c a
    null_words = stored_words (stub_in c b) nulled_node reads.Swap stub_low

    null_same : (f : Node → ℕ) → f nulled_node ≡ f (node_at c (stub_in c b)) → (a : ℕ) → f (node_at nulled_core a) ≡ f (node_at c a)
    null_same = stored_same (stub_in c b) nulled_node reads.Swap stub_low

    null_own : reader_in nulled_core b ≡ record reader { point = reads.Swap }
    null_own = stored_own (stub_in c b) nulled_node reads.Swap

    null_stays : Stays c nulled_core b
    null_stays = stored_stays (stub_in c b) nulled_node reads.Swap stub_low refl

    null_shows : ShowsPool nulled_core q
    null_shows =
        let next : ℕ → ℕ = λ a. (node_at nulled_core a).next in
        let there : next (stub_in c b) ≡ null = ap (λ (z : Node). z.next) (stored_word (stub_in c b) nulled_node reads.Swap stub_low) in
        let box = null_box c.ring m holds x (shows.boxes b low) apart at next there (λ a other. ap (λ (z : Node). z.next) (null_words a other)) in
        let is : record x { links = record (links_in c q b) { next = next; point = reads.Swap } } ≡ here c ok events q leads shows b low nulled_core null_stays Stub tt null_words q (same_pool q b) =
        λ t. record x {
          links = record (links_in c q b) { next = next; tail = (sym null_own t).tail; point = (sym null_own t).point };
          line = λ a. sym (null_same (λ (z : Node). z.line) refl a) t;
          amount = λ a. sym (null_same (λ (z : Node). z.amount) refl a) t;
        } in
        kept_shows c ok events q leads shows b low nulled_core null_stays Stub tt null_words q (same_pool q b) (subst (λ y. ShowsBox y m) is box)

  module _ (at : reader.point ≡ reads.Swap) where
    abbrev in_point : ReaderPoint
    in_point = reads.Link (head_in c b - 1)

    abbrev in_core : Pooled
    in_core = with_head b (link_to (stub_in c b)) (goes_to b in_point c)

    in_own : reader_in in_core b ≡ record reader { point = in_point }
    in_own = moved_own in_point reader.last

    in_head : head_in in_core b ≡ link_to (stub_in c b)
    in_head = get_or-set_same c.heads b (link_to (stub_in c b)) 0 low

    in_stays : Stays c in_core b
    in_stays = record {
      ring = refl;
      heads = length-set c.heads b (link_to (stub_in c b));
      senders = refl;
      ended = refl;
      head = λ d other. get_or-set_other c.heads b d (link_to (stub_in c b)) 0 other;
      reader = λ d other. get_or-set_other c.readers b d (moved in_point reader.last) _ other;
      points = λ d other s. refl;
      held = λ d in_range other a. refl;
      counts = λ s. refl;
      turns = λ a. refl;
    }

    in_may : is_among Stub (left_entries m) ≡ false
    in_may = may_in c.ring m holds x (shows.boxes b low) apart at

    in_shows : ShowsPool in_core (after_in b StubIn q)
    in_shows =
        let same = event_same q b StubIn refl refl (linked_in c.ring m holds x (shows.boxes b low) apart at) refl in
        let box = in_box c.ring m holds x (shows.boxes b low) apart at in
        let is : record x { links = record (links_in c q b) { head = link_to (stub_in c b); point = in_point } } ≡ here c ok events q leads shows b low in_core in_stays Stub tt (λ a other. refl) (after_in b StubIn q) same =
        λ t. record x { links = record (links_in c q b) { head = sym in_head t; tail = (sym in_own t).tail; point = (sym in_own t).point } } in
        kept_shows c ok events q leads shows b low in_core in_stays Stub tt (λ a other. refl) (after_in b StubIn q) same
        (subst (ShowsBox (here c ok events q leads shows b low in_core in_stays Stub tt (λ a other. refl) (after_in b StubIn q) same)) (sym (box_own q b StubIn)) (subst (λ y. ShowsBox y (after StubIn m)) is box))

  module _ (before : ℕ) (at : reader.point ≡ reads.Link before) where
    abbrev link_node : Node
    link_node = record (node_at c before) { next = link_to (stub_in c b) }

    abbrev link_core : Pooled
    link_core = stored_core before link_node reads.Last

    before_low : before < length c.nodes
    before_low = subst (λ (pt : ReaderPoint). IsReaderPoint (length c.nodes) pt) at (reader_keeps c ok b low).1

    link_words : (a : ℕ) → ¬ (a ≡ before) → node_at link_core a ≡ node_at c a
    link_words = stored_words before link_node reads.Last before_low

    link_same : (f : Node → ℕ) → f link_node ≡ f (node_at c before) → (a : ℕ) → f (node_at link_core a) ≡ f (node_at c a)
    link_same = stored_same before link_node reads.Last before_low

    link_own : reader_in link_core b ≡ record reader { point = reads.Last }
    link_own = stored_own before link_node reads.Last

    abbrev link_next : ℕ → ℕ
    link_next a = (node_at link_core a).next

    link_there : link_next before ≡ link_to (stub_in c b)
    link_there = ap (λ (z : Node). z.next) (stored_word before link_node reads.Last before_low)

    link_else : (a : ℕ) → ¬ (a ≡ before) → link_next a ≡ (node_at c a).next
    link_else a other = ap (λ (z : Node). z.next) (link_words a other)

    link_stays : Stays c link_core b
    link_stays = stored_stays before link_node reads.Last before_low refl

    link_may : is_in_flight m Stub ≡ true
    link_may = (owed_stub c.ring m holds x (shows.boxes b low) apart before at link_next link_there link_else).0

    abbrev gets_it : Entry
    gets_it = before_entry c.ring m holds x (shows.boxes b low) apart before at link_next link_there link_else

    link_shows : ShowsPool link_core (after_in b StubLink q)
    link_shows =
        let stands = before_stands c.ring m holds x (shows.boxes b low) apart before at link_next link_there link_else in
        let its = before_is c.ring m holds x (shows.boxes b low) apart before at link_next link_there link_else in
        let words : (a : ℕ) → ¬ (a ≡ node_in c q b gets_it) → node_at link_core a ≡ node_at c a = λ a other. link_words a (λ is. other (is ∙ sym its)) in
        let same = event_same q b StubLink refl refl (linked_link c.ring m holds x (shows.boxes b low) apart before at link_next link_there link_else) refl in
        let box = link_stub_box c.ring m holds x (shows.boxes b low) apart before at link_next link_there link_else in
        let is : record x { links = record (links_in c q b) { next = link_next; point = reads.Last } } ≡ here c ok events q leads shows b low link_core link_stays gets_it stands words (after_in b StubLink q) same =
        λ t. record x {
          links = record (links_in c q b) { next = link_next; tail = (sym link_own t).tail; point = (sym link_own t).point };
          line = λ a. sym (link_same (λ (z : Node). z.line) refl a) t;
          amount = λ a. sym (link_same (λ (z : Node). z.amount) refl a) t;
        } in
        kept_shows c ok events q leads shows b low link_core link_stays gets_it stands words (after_in b StubLink q) same
        (subst (ShowsBox (here c ok events q leads shows b low link_core link_stays gets_it stands words (after_in b StubLink q) same)) (sym (box_own q b StubLink)) (subst (λ y. ShowsBox y (after StubLink m)) is box))

  at_null : (point : ReaderPoint) → reader.point ≡ point → (n : Pooled) → stub_null_at point b c ≡ Some n → ShowsPool n q
  at_null reads.Null at n e = some_is (λ n. ShowsPool n q) (nulled_core at) n e (null_shows at)
  at_null _ at n e = cc

  at_swap : (point : ReaderPoint) → reader.point ≡ point → (n : Pooled) → stub_swap_at point b c ≡ Some n → MayIn c.ring q b StubIn × ShowsPool n (after_in b StubIn q)
  at_swap reads.Swap at n e = (in_may at, some_is (λ n. ShowsPool n (after_in b StubIn q)) (in_core at) n e (in_shows at))
  at_swap _ at n e = cc

  at_link : (point : ReaderPoint) → reader.point ≡ point → (n : Pooled) → stub_link_at point b c ≡ Some n → MayIn c.ring q b StubLink × ShowsPool n (after_in b StubLink q)
  at_link (reads.Link before) at n e = (link_may before at, some_is (λ n. ShowsPool n (after_in b StubLink q)) (link_core before at) n e (link_shows before at))
  at_link _ at n e = cc

  -- ---- the tail is passed

  abbrev next : ℕ
  next = (node_at c reader.tail).next

  abbrev Result : Pooled → Type 0
  Result n = ShowsAfterIn (if has_next b c then Some Pass else None) c.ring b q n

  next_some : has_next b c ≡ true → ¬ (next ≡ null)
  next_some has is = false≢true (rw (eq-eqb next 0 is) at has)

  passes_own : reader_in (passes b c) b ≡ record reader { tail = next - 1 }
  passes_own = get_or-set_same c.readers b (record reader { tail = next - 1 }) _ readers_low

  -- the reader is written once more
  module _ (pt : ReaderPoint) (last : Option (Took ℕ)) where
    abbrev passed_reader : Reader
    passed_reader = record { point = pt; tail = (reader_in (passes b c) b).tail; last = last }

    abbrev passed_core : Pooled
    passed_core = with_reader b passed_reader (passes b c)

    passed_tail : (reader_in passed_core b).tail ≡ next - 1
    passed_tail = ap (λ (r : Reader). r.tail) (get_or-set_same (passes b c).readers b passed_reader _ (omega (arith, readers_low, length-set c.readers b (record reader { tail = next - 1 })))) ∙ ap (λ (r : Reader). r.tail) passes_own

    passed_point : (reader_in passed_core b).point ≡ pt
    passed_point = ap (λ (r : Reader). r.point) (get_or-set_same (passes b c).readers b passed_reader _ (omega (arith, readers_low, length-set c.readers b (record reader { tail = next - 1 }))))

    passed_others : (d : ℕ) → ¬ (d ≡ b) → reader_in passed_core d ≡ reader_in c d
    passed_others d other = get_or-set_other (passes b c).readers b d passed_reader _ other ∙ get_or-set_other c.readers b d (record reader { tail = next - 1 }) _ other

  module _ (some : ¬ (next ≡ null)) (landed : is_in_flight m Stub ≡ false) where
    allowed : MayPass m
    allowed = may_pass m (links_in c q b) (shows.boxes b low).links some

    -- the stub is passed
    module _ (is_stub : reader.tail ≡ stub_in c b) where
      abbrev second : Pooled
      second = passed_core reads.Second (reader_in (passes b c) b).last

      second_stays : Stays c second b
      second_stays = record {
        ring = refl;
        heads = refl;
        senders = refl;
        ended = refl;
        head = λ d other. refl;
        reader = passed_others reads.Second (reader_in (passes b c) b).last;
        points = λ d other s. refl;
        held = λ d in_range other a. refl;
        counts = λ s. refl;
        turns = λ a. refl;
      }

      second_shows : ShowsPool second (after_in b Pass q)
      second_shows =
          let same = event_same q b Pass refl refl (λ s k. refl) refl in
          let last = (reader_in (passes b c) b).last in
          let box = pass_stub_box c.ring m holds x (shows.boxes b low) apart some landed is_stub in
          let is : record x { links = record (links_in c q b) { tail = next - 1; point = reads.Second } } ≡ here c ok events q leads shows b low second second_stays Stub tt (λ a other. refl) (after_in b Pass q) same =
          λ t. record x { links = record (links_in c q b) { tail = sym (passed_tail reads.Second last) t; point = sym (passed_point reads.Second last) t } } in
          kept_shows c ok events q leads shows b low second second_stays Stub tt (λ a other. refl) (after_in b Pass q) same
          (subst (ShowsBox (here c ok events q leads shows b low second second_stays Stub tt (λ a other. refl) (after_in b Pass q) same)) (sym (box_own q b Pass)) (subst (λ y. ShowsBox y (after Pass m)) is box))

    -- a sender's node is taken
    module _ (is_node : ¬ (reader.tail ≡ stub_in c b)) where
      abbrev taken : Pooled
      taken = takes b c

      abbrev answer : Option (Took ℕ)
      answer = Some (took.Held reader.tail)

      tail_low : reader.tail < length c.holders
      tail_low = omega (arith, (reader_keeps c ok b low).0, ok.holders)

      holder_there : slice_index_or taken.holders reader.tail None ≡ Some b
      holder_there = get_or-set_same c.holders reader.tail (Some b) None tail_low

      holder_else : (a : ℕ) → ¬ (a ≡ reader.tail) → slice_index_or taken.holders a None ≡ slice_index_or c.holders a None
      holder_else a other = get_or-set_other c.holders reader.tail a (Some b) None other

      held_there : is_held_in taken b reader.tail ≡ true
      held_there = ap (is_mailbox b) holder_there ∙ eq-eqb b b refl

      first_stands : IsStanding m (entry_at (left_entries m) 0)
      first_stands = left_stands c.ring m holds (entry_at (left_entries m) 0) (read_among (left_entries m) 0 Stub (shows.boxes b low).links.chain.some)

      -- no other reader held it
      not_held : (d : ℕ) → d < length c.heads → ¬ (d ≡ b) → is_held_in c d reader.tail ≡ false
      not_held d in_range other = false_from_ne_true (is_held_in c d reader.tail) (λ held.
          let found = ((shows.boxes d in_range).held reader.tail).0 held in
          let stands : IsStanding (q.boxes d) (Of found.0 found.1) = (item_within (q.boxes d) found.0 ((holds_in c ok events q leads shows b low d).turns found.0) found.1 (among_first (Of found.0 found.1) (q.boxes d).passed (q.boxes d).order found.2.passed), found.2.kept) in
          let tail_is : node_in c q b (entry_at (left_entries m) 0) ≡ reader.tail = sym (shows.boxes b low).links.chain.tail_is in
          other (sym (apart_in events q c ok leads shows b d low in_range (entry_at (left_entries m) 0) (Of found.0 found.1) first_stands stands (tail_is ∙ sym found.3)).0))

      held_others : (d : ℕ) → d < length c.heads → ¬ (d ≡ b) → (a : ℕ) → is_held_in taken d a ≡ is_held_in c d a
      held_others d in_range other a = elim (cases_eq a reader.tail) [
        | inl is ↦
            let now : is_held_in taken d reader.tail ≡ false = ap (is_mailbox d) holder_there ∙ ne_eqb b d (λ same. other (sym same)) in
            subst (λ a. is_held_in taken d a ≡ is_held_in c d a) (sym is) (now ∙ sym (not_held d in_range other))
        | inr apart ↦ ap (is_mailbox d) (holder_else a apart)
      ]

      taken_stays : Stays c taken b
      taken_stays = record {
        ring = refl;
        heads = refl;
        senders = refl;
        ended = refl;
        head = λ d other. refl;
        reader = passed_others reads.Rest answer;
        points = λ d other s. refl;
        held = held_others;
        counts = λ s. refl;
        turns = λ a. refl;
      }

      taken_shows : ShowsPool taken (after_in b Pass q)
      taken_shows =
          let same = event_same q b Pass refl refl (λ s k. refl) refl in
          let box = take_box c.ring m holds x (shows.boxes b low) apart some landed is_node (is_held_in taken b) held_there (λ a other. ap (is_mailbox b) (holder_else a other)) in
          let is : record x { links = record (links_in c q b) { tail = next - 1; point = reads.Rest }; held = is_held_in taken b } ≡ here c ok events q leads shows b low taken taken_stays Stub tt (λ a other. refl) (after_in b Pass q) same =
          λ t. record x { links = record (links_in c q b) { tail = sym (passed_tail reads.Rest answer) t; point = sym (passed_point reads.Rest answer) t }; held = is_held_in taken b } in
          kept_shows c ok events q leads shows b low taken taken_stays Stub tt (λ a other. refl) (after_in b Pass q) same
          (subst (ShowsBox (here c ok events q leads shows b low taken taken_stays Stub tt (λ a other. refl) (after_in b Pass q) same)) (sym (box_own q b Pass)) (subst (λ y. ShowsBox y (after Pass m)) is box))

  -- ---- what LoadNext finds

  module _ (landed : is_in_flight m Stub ≡ false) where
    leaves_stub : reader.tail ≡ stub_in c b → Result (if has_next b c then goes_to b reads.Second (passes b c) else goes_to b reads.StubHead c)
    leaves_stub is_stub = chosen Result (has_next b c) (goes_to b reads.Second (passes b c)) (goes_to b reads.StubHead c)
        (λ has. rw has (allowed (next_some has) landed, second_shows (next_some has) landed is_stub))
        (λ none. rw none (look_shows reads.StubHead reader.last landed is_stub))

    leaves_node : ¬ (reader.tail ≡ stub_in c b) → (other : Pooled) → ShowsPool other q → Result (if has_next b c then takes b c else other)
    leaves_node is_node other right = chosen Result (has_next b c) (takes b c) other
        (λ has. rw has (allowed (next_some has) landed, taken_shows (next_some has) landed is_node))
        (λ none. rw none right)

    at_node : ¬ (reader.tail ≡ stub_in c b) → Result (if has_next b c then takes b c else goes_to b reads.NodeHead c)
    at_node is_node = leaves_node is_node (goes_to b reads.NodeHead c) (look_shows reads.NodeHead reader.last landed is_node)

    at_rest : (n : Pooled) (found : Bool) → is_at_stub b c ≡ found
        → (if found then Some (if has_next b c then goes_to b reads.Second (passes b c) else goes_to b reads.StubHead c) else Some (if has_next b c then takes b c else goes_to b reads.NodeHead c)) ≡ Some n → Result n
    at_rest n true is e = some_is Result _ n e (leaves_stub (eqb-true reader.tail (stub_in c b) is))
    at_rest n false is e = some_is Result _ n e (at_node (λ stub. false≢true (sym is ∙ eq-eqb reader.tail (stub_in c b) stub)))

  at_next : (point : ReaderPoint) → reader.point ≡ point → (n : Pooled) → next_at point b c ≡ Some n → Result n
  at_next reads.Rest at n e = at_rest (owed reads.Rest at) n (is_at_stub b c) refl e
  at_next reads.Second at n e = subst Result (passed _ _ n e).1 (at_node (owed reads.Second at) (tail_at reads.Second at))
  at_next reads.Last at n e =
      some_is Result _ n e (leaves_node (owed reads.Last at) (tail_at reads.Last at) (answers b took.Busy c) (look_shows reads.Rest (Some took.Busy) (owed reads.Last at) tt))
  at_next _ at n e = cc

pub pool_load_head : (b : ℕ) → PoolStepShows b step.LoadHead
pool_load_head b events q c n low ok leads shows moved = at_head c ok events q leads shows b low (reader_in c b).point refl n moved

pub pool_stub_null : (b : ℕ) → PoolStepShows b step.StubNull
pool_stub_null b events q c n low ok leads shows moved = at_null c ok events q leads shows b low (reader_in c b).point refl n moved

pub pool_stub_swap : (b : ℕ) → PoolStepShows b step.StubSwap
pool_stub_swap b events q c n low ok leads shows moved = at_swap c ok events q leads shows b low (reader_in c b).point refl n moved

pub pool_stub_link : (b : ℕ) → PoolStepShows b step.StubLink
pool_stub_link b events q c n low ok leads shows moved = at_link c ok events q leads shows b low (reader_in c b).point refl n moved

pub pool_load_line : (b k : ℕ) → PoolStepShows b (step.LoadLine k)
pool_load_line b k events q c n low ok leads shows moved = subst (λ n. ShowsPool n q) (passed _ _ n moved).1 shows

pub pool_load_amount : (b k : ℕ) → PoolStepShows b (step.LoadAmount k)
pool_load_amount b k events q c n low ok leads shows moved = subst (λ n. ShowsPool n q) (passed _ _ n moved).1 shows

pub pool_load_next : (b : ℕ) → PoolStepShows b step.LoadNext
pool_load_next b events q c n low ok leads shows moved = at_next c ok events q leads shows b low (reader_in c b).point refl n moved
