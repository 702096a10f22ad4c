-- GiveBack in a pool: what the reader of a mailbox holds in a node is given back, and every other mailbox is as it was.
use Rattle.std.proofs.Common.{◌≡◌, ◌∙◌, ◌<◌, ◌+◌, ◌%◌, ◌*◌, ◌++◌, ◌∷◌, [], ℕ, Bool, true, false, List, Option, Some, None, length, not, ap, sym, refl, subst, inl, inr, arith, get_or-set_other, get_or-set_same}
use Rattle.std.specs.Prelude.{◌==◌, ◌&&◌, ◌^◌, slice_index_or, if◌then◌else◌}
use Rattle.std.proofs.lemmas.Bool.{and_from, and_parts, cases_eq, eq-eqb, eqb-true, false≢true, ne_eqb, not-true, not_from_false, or_left}
use Rattle.queue_core.specs.declared.entry.Entry.{Entry}
use Rattle.queue_core.specs.declared.entry.Entry.TheVariants.{Of, Stub}
use Rattle.queue_core.specs.declared.item.Item.TheVariants.{End}
use Rattle.queue_core.specs.declared.reader.ReaderPoint.{ReaderPoint}
use Rattle.queue_core.specs.declared.reader.ReaderPoint.TheVariants as reads
use Rattle.queue_core.specs.declared.step.Step.TheVariants as step
use Rattle.queue_core.specs.declared.words.Node.{Node}
use Rattle.queue_core.specs.StoredWords.{empty_node}
use Rattle.queue_core.specs.Mailbox.{IsHeld, Mailbox, is_among, is_same, passed_entries}
use Rattle.queue_core.specs.Events.{Event, Leads, after}
use Rattle.queue_core.specs.Events.Event.{GiveBack}
use Rattle.queue_core.specs.Events.Leads.{more as leads_more}
use Rattle.queue_core.specs.Box.{IsStanding, ShowsBox}
use Rattle.queue_core.specs.Pool.{Pool, PoolLeads, after_in, events_in}
use Rattle.queue_core.specs.Pooled.{IsPooled, Pooled, is_held_in, is_mailbox, node_at, reader_in, stub_in}
use Rattle.queue_core.specs.PoolSteps.{may_use}
use Rattle.queue_core.specs.PoolShows.{ShowsPool, box_in, node_in, place_of}
use Rattle.queue_core.specs.PoolLaws.{PoolStepShows, ShowsAfterIn, gives_back, held_in}
use Rattle.queue_core.proofs.BoxFrame.{ReadsSame, box_stays}
use Rattle.queue_core.proofs.BoxGive.{give_box, given}
use Rattle.queue_core.proofs.Entries.{among_first, among_kept, first_kept, kept_passes, same_self}
use Rattle.queue_core.proofs.EventsKeep.{holds_after}
use Rattle.queue_core.proofs.MailboxHolds.{Holds, item_within}
use Rattle.queue_core.proofs.PoolNodes.{before_stubs, no_others, nodes_apart}
use Rattle.queue_core.proofs.PoolPosts.{PostsHold, box_leads, box_other, box_own, posts_after, same_field}
use Rattle.queue_core.proofs.PoolTurns.{after_give, give_turns}
use Rattle.queue_core.proofs.PooledKept.{field_kept}
use Rattle.queue_core.proofs.StepLemmas.{passed}

used_held : (point : ReaderPoint) (b n : ℕ) (c : Pooled) → may_use point b n c ≡ true → is_held_in c b n ≡ true
used_held point b n c = elim point as (λ pt. may_use pt b n c ≡ true → is_held_in c b n ≡ true) [ reads.Rest ↦ λ used. used | _ ↦ λ used. absurd (false≢true used) ]

one_holder : (o : Option ℕ) (b d : ℕ) → is_mailbox b o ≡ true → ¬ (d ≡ b) → is_mailbox d o ≡ false
one_holder None b d is other = refl
one_holder (Some a) b d is other = ne_eqb a d (λ same. other (sym same ∙ eqb-true a b is))

module _ (c : Pooled) (ok : IsPooled c) (events : List (ℕ × Event)) (q : Pool) (leads : PoolLeads c.ring events q) (shows : ShowsPool c q) (b : ℕ) (low : b < length c.heads) where
  its_leads : (d : ℕ) → Leads c.ring (events_in d events) (q.boxes d)
  its_leads = box_leads c.ring ok.some_nodes events q leads

  holds : (d : ℕ) → Holds c.ring (q.boxes d)
  holds d = holds_after c.ring (events_in d events) (q.boxes d) (its_leads d)

  h : (p : ℕ) → PostsHold c.ring q p
  h = posts_after c.ring ok.some_nodes events q leads

  abbrev m : Mailbox
  m = q.boxes b

  stands : (p k : ℕ) → IsHeld m p k → IsStanding m (Of p k)
  stands p k held = (item_within m p ((holds b).turns p) k (among_first (Of p k) m.passed m.order held.passed), held.kept)

  before_stub : (p k : ℕ) → IsHeld m p k → ¬ (node_in c q b Stub ≡ node_in c q b (Of p k))
  before_stub p k held same = let under = before_stubs c ok q h holds (no_others c q shows) b p k low (stands p k held) in omega (arith, under, same)

  -- ---- the entry that is given back

  module _ (n : ℕ) where
    abbrev is_here : Entry → Bool
    is_here entry = (node_in c q b entry == n) && not (is_among entry m.given)

    abbrev IsGiven : Type 0
    IsGiven = (p : ℕ) × (k : ℕ) × IsHeld m p k × (node_in c q b (Of p k) ≡ n) × (gives_back (held_in c q b n) ≡ Some (GiveBack p k))

    first_given : (e : Entry) (rest : List Entry) (p k : ℕ) → IsHeld m p k → node_in c q b (Of p k) ≡ n → held_in c q b n ≡ e ∷ rest → IsGiven
    first_given e rest p k held here is =
        let among : is_among e (held_in c q b n) ≡ true = ap (is_among e) is ∙ or_left (is_same e e) (is_among e rest) (same_self e) in
        let passes = and_parts (node_in c q b e == n) (not (is_among e m.given)) (kept_passes is_here e (passed_entries m) among) in
        by e is (among_kept is_here e (passed_entries m) among) (eqb-true (node_in c q b e) n passes.0) (not-true (is_among e m.given) passes.1)
      where
        by : (e : Entry) → held_in c q b n ≡ e ∷ rest → is_among e (passed_entries m) ≡ true → node_in c q b e ≡ n → is_among e m.given ≡ false → IsGiven
        by (Of r j) is among at kept = (r, j, record { passed = among; kept = kept }, at, ap gives_back is)
        by Stub is among at kept = absurd (before_stub p k held (at ∙ sym here))

    pub is_given : is_held_in c b n ≡ true → IsGiven
    is_given used =
        let found = ((shows.boxes b low).held n).0 used in
        let entry = Of found.0 found.1 in
        let here : is_here entry ≡ true = and_from (node_in c q b entry == n) (not (is_among entry m.given)) (eq-eqb (node_in c q b entry) n found.3) (not_from_false (is_among entry m.given) found.2.kept) in
        let first = first_kept is_here entry (passed_entries m) found.2.passed here in
        first_given first.0 first.1 found.0 found.1 found.2 found.3 first.2

  -- ---- what comes of it

  module _ (p k : ℕ) (held : IsHeld m p k) (used : is_held_in c b (node_in c q b (Of p k)) ≡ true) where
    abbrev node : ℕ
    node = node_in c q b (Of p k)

    abbrev n : Pooled
    n = after_give c node

    abbrev q' : Pool
    q' = after_in b (GiveBack p k) q

    abbrev turned : Node
    turned = record (node_at c node) { turn = ((node_at c node).turn + 1) % 2 ^ 64 }

    node_low : node < length c.nodes
    node_low = let under = before_stubs c ok q h holds (no_others c q shows) b p k low (stands p k held) in omega (arith, under, ok.nodes)

    -- words but the turn are as they were
    word : (f : Node → ℕ) → f turned ≡ f (node_at c node) → (a : ℕ) → f (node_at n a) ≡ f (node_at c a)
    word = field_kept c node turned node_low

    free_now : (d : ℕ) → is_held_in n d node ≡ false
    free_now d = ap (is_mailbox d) (get_or-set_same c.holders node None None (omega (arith, node_low, ok.holders)))

    held_else : (d a : ℕ) → ¬ (a ≡ node) → is_held_in n d a ≡ is_held_in c d a
    held_else d a other = ap (is_mailbox d) (get_or-set_other c.holders node a None None other)

    own_held : (a : ℕ) → is_held_in n b a ≡ (if a == node then false else is_held_in c b a)
    own_held a = elim (cases_eq a node) [
      | inl here ↦ rw (eq-eqb a node here) (subst (λ (a : ℕ). is_held_in n b a ≡ false) (sym here) (free_now b))
      | inr there ↦ rw (ne_eqb a node there) (held_else b a there)
    ]

    other_held : (d : ℕ) → ¬ (d ≡ b) → (a : ℕ) → is_held_in n d a ≡ is_held_in c d a
    other_held d other a = elim (cases_eq a node) [
      | inl here ↦ subst (λ (a : ℕ). is_held_in n d a ≡ is_held_in c d a) (sym here) (free_now d ∙ sym (one_holder (slice_index_or c.holders node None) b d used other))
      | inr there ↦ held_else d a there
    ]

    items_same : (d : ℕ) → (q'.boxes d).items ≡ (q.boxes d).items
    items_same = same_field (λ m. m.items) q b (GiveBack p k) refl

    node_same : (d s j : ℕ) → node_in n q' d (Of s j) ≡ node_in c q d (Of s j)
    node_same d s j = λ i. s * (c.ring + length c.heads) + place_of c.ring (q.posts s) d (slice_index_or (items_same d i s) j End) j

    -- a mailbox reads what it read, but for what is held
    reads_same : (d : ℕ) (m' : Mailbox) (is_held : ℕ → Bool) → ((a : ℕ) → is_held_in n d a ≡ is_held a) → ReadsSame m' (record (box_in c q d) { held = is_held }) (box_in n q' d)
    reads_same d m' is_held held_now = record {
      node = λ s j within. node_same d s j;
      stub = refl;
      next = λ e is. word (λ (z : Node). z.next) refl (node_in c q d e);
      line = λ e is. word (λ (z : Node). z.line) refl (node_in c q d e);
      amount = λ e is. word (λ (z : Node). z.amount) refl (node_in c q d e);
      head = refl;
      tail = refl;
      points = λ s. refl;
      point = refl;
      senders = refl;
      ended = λ s. refl;
      held = held_now;
    }

    apart : (e f : Entry) → IsStanding m e → IsStanding m f → node_in c q b e ≡ node_in c q b f → e ≡ f
    apart e f se sf same = (nodes_apart c ok q h holds (no_others c q shows) b b low low e f se sf same).1

    own_box : ShowsBox (box_in n q' b) (q'.boxes b)
    own_box =
        let x = box_in c q b in
        subst (ShowsBox (box_in n q' b)) (sym (box_own q b (GiveBack p k)))
        (box_stays c.ring (events_in b events ++ GiveBack p k ∷ []) (after (GiveBack p k) m) (given c.ring m (holds b) x (shows.boxes b low) apart p k held) (box_in n q' b)
        (leads_more (events_in b events) m (GiveBack p k) (its_leads b) held)
        (reads_same b (after (GiveBack p k) m) (λ a. if a == node then false else is_held_in c b a) own_held) (give_box c.ring m (holds b) x (shows.boxes b low) apart p k held))

    other_box : (d : ℕ) → d < length c.heads → ¬ (d ≡ b) → ShowsBox (box_in n q' d) (q'.boxes d)
    other_box d in_range other =
        subst (ShowsBox (box_in n q' d)) (sym (box_other q b (GiveBack p k) d other))
        (box_stays c.ring (events_in d events) (q.boxes d) (box_in c q d) (box_in n q' d) (its_leads d) (reads_same d (q.boxes d) (is_held_in c d) (other_held d other)) (shows.boxes d in_range))

    pub give_shows : ShowsPool n q'
    give_shows = record {
      boxes = λ d in_range. elim (cases_eq d b) [
        | inl same ↦ subst (λ d. ShowsBox (box_in n q' d) (q'.boxes d)) (sym same) own_box
        | inr other ↦ other_box d in_range other
      ];
      senders = give_turns events q c b p k ok leads shows low held;
      stub_turns = λ d in_range.
          let under = before_stubs c ok q h holds (no_others c q shows) b p k low (stands p k held) in
          ap (λ (z : Node). z.turn) (get_or-set_other c.nodes node (stub_in c d) turned empty_node (λ is. omega (arith, is, under))) ∙ shows.stub_turns d in_range;
      no_boxes = λ d past. box_other q b (GiveBack p k) d (λ same. omega (arith, same, past, low)) ∙ shows.no_boxes d past;
    }

pub pool_give_back : (b n : ℕ) → PoolStepShows b (step.GiveBack n)
pool_give_back b a events q c n low ok leads shows moved =
    let due = passed _ _ n moved in
    let used = used_held (reader_in c b).point b a c due.0 in
    let found = is_given c ok events q leads shows b low a used in
    subst (λ event. ShowsAfterIn event c.ring b q n) (sym found.4) (
      found.2,
      subst (λ n. ShowsPool n (after_in b (GiveBack found.0 found.1) q)) (ap (after_give c) found.3 ∙ due.1)
          (give_shows c ok events q leads shows b low found.0 found.1 found.2 (subst (λ x. is_held_in c b x ≡ true) (sym found.3) used)),
    )
