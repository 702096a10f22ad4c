-- An item is filled in a mailbox of a pool. LoadTurn fills a post where it finds the node free, and nothing is different where it does not.
use Rattle.std.proofs.Common.{◌≡◌, ◌≤◌, ◌∙◌, ◌<◌, ◌+◌, ◌*◌, ◌%◌, ◌++◌, ◌∷◌, [], ℕ, ℤ, Bool, true, false, List, Some, None, length, not, ap, sym, refl, subst, inl, inr, arith, get_or-set_other, get_or-set_same}
use Rattle.std.specs.Prelude.{◌==◌, ◌&&◌, slice_index_or, if◌then◌else◌, suc}
use Rattle.std.proofs.lemmas.Bool.{and_left, and_parts, and_right, cases_Bool, cases_eq, cases_lt, eq-eqb, false_from_ne_true, false≢true, ne_eqb, not-true}
use Rattle.std.proofs.Math.Nat.{mul-le-mul_right}
use Rattle.std.proofs.lemmas.List.{get_or_past, length-set}
use Rattle.queue_core.specs.declared.entry.Entry.TheVariants.{Of, Stub}
use Rattle.queue_core.specs.declared.item.Item.{Item}
use Rattle.queue_core.specs.declared.item.Item.TheVariants.{Post, End}
use Rattle.queue_core.specs.declared.item.Posted.TheVariants.{Full}
use Rattle.queue_core.specs.declared.sender.SenderPoint.TheVariants as sends
use Rattle.queue_core.specs.declared.step.Step.TheVariants as step
use Rattle.queue_core.specs.declared.sender.Caller.{Caller}
use Rattle.queue_core.specs.Items.{is_end}
use Rattle.queue_core.specs.Mailbox.{Mailbox, is_among, is_linked, item_at}
use Rattle.queue_core.specs.Events.{Event, Leads, MayFill, after}
use Rattle.queue_core.specs.Events.Event.{Fill}
use Rattle.queue_core.specs.Events.Leads.{more as leads_more}
use Rattle.queue_core.specs.Box.{ShowsBox}
use Rattle.queue_core.specs.Pool.{MayFillIn, Pool, PoolLeads, after_in, events_in, post_at}
use Rattle.queue_core.specs.Pooled.{IsPooled, Pooled, end_place, first_node, has_ended_in, node_at, point_in, sender_at, with_point, with_sender}
use Rattle.queue_core.specs.PoolSteps.{is_at_rest, is_free}
use Rattle.queue_core.specs.PoolShows.{ShowsPool, ShowsSender, box_in, count_below, node_in, number_in, place_of, times_end_given}
use Rattle.queue_core.specs.PoolLaws.{PoolStepShows, ShowsAfterIn}
use Rattle.queue_core.proofs.BoxFill.{fill_box, filled}
use Rattle.queue_core.proofs.BoxFrame.{box_stays}
use Rattle.queue_core.proofs.CountLemmas.{count_same}
use Rattle.queue_core.proofs.Entries.{among_first}
use Rattle.queue_core.proofs.EventsKeep.{holds_after}
use Rattle.queue_core.proofs.MailboxHolds.{Holds, item_within}
use Rattle.queue_core.proofs.PoolFree.{free_tells}
use Rattle.queue_core.proofs.PoolNodes.{number_is, place_end, place_post}
use Rattle.queue_core.proofs.PoolPosts.{PostsHold, at_new, at_old, box_leads, box_other, box_own, fill_alone, fills_long, fills_old, fills_other, long, posts_after, posts_event, same_field}
use Rattle.queue_core.proofs.StepLemmas.{passed, rest_is}

-- ---- a sender's posts, with what it has filled

module _ (q : Pool) (b p : ℕ) where
  other_posts : (s : ℕ) (item : Item) → ¬ (s ≡ p) → (after_in b (Fill p item) q).posts s ≡ q.posts s
  other_posts s (Post line amount) other = rw (ne_eqb s p other) refl
  other_posts s End other = refl

  module _ (ring : ℕ) (some : 0 < ring) (h : PostsHold ring q p) where
    old_posts : (item : Item) → MayFillIn ring q b p item → (j : ℕ) → j < length (q.posts p) → (j < length ((after_in b (Fill p item) q).posts p)) × (post_at (after_in b (Fill p item) q) p j ≡ post_at q p j)
    old_posts (Post line amount) may j low = (omega (arith, low, long ring some q b p line amount may h), at_old ring some q b p line amount may h j low)
    old_posts End may j low = (low, refl)

    -- a test of the posts that a new one fails counts what it counted
    count_own : (item : Item) → MayFillIn ring q b p item → (t u : ℕ → ℕ × ℕ → Bool) → ((j : ℕ) (at : ℕ × ℕ) → t j at ≡ u j at) → t (length (q.posts p)) (b, length ((q.boxes b).items p)) ≡ false
        → count_below (λ j. t j (post_at (after_in b (Fill p item) q) p j)) (length ((after_in b (Fill p item) q).posts p)) ≡ count_below (λ j. u j (post_at q p j)) (length (q.posts p))
    count_own (Post line amount) may t u same out =
        let q' = after_in b (Fill p (Post line amount)) q in
        let more : length (q'.posts p) ≡ suc (length (q.posts p)) = omega (arith, long ring some q b p line amount may h) in
        let last : t (length (q.posts p)) (post_at q' p (length (q.posts p))) ≡ false = ap (t (length (q.posts p))) (at_new ring some q b p line amount may h (length (q.posts p)) refl) ∙ out in
        let old = count_same (λ j. t j (post_at q' p j)) (λ j. u j (post_at q p j)) (length (q.posts p)) (λ j within. ap (t j) (at_old ring some q b p line amount may h j within) ∙ same j (post_at q p j)) in
        ap (count_below (λ j. t j (post_at q' p j))) more ∙ rw last (omega (arith, old))
    count_own End may t u same out = count_same (λ j. t j (post_at q p j)) (λ j. u j (post_at q p j)) (length (q.posts p)) (λ j within. same j (post_at q p j))

module _ (c : Pooled) (ok : IsPooled c) (events : List (ℕ × Event)) (q : Pool) (leads : PoolLeads c.ring events q) (shows : ShowsPool c q) (b p : ℕ) (low : b < length c.heads)
    (sender_low : p < length c.senders) (rest : (sender_at c p).point ≡ sends.Rest) where
  h : (p : ℕ) → PostsHold c.ring q p
  h = posts_after c.ring ok.some_nodes events q leads

  its_leads : (d : ℕ) → Leads c.ring (events_in d events) (q.boxes d)
  its_leads = box_leads c.ring ok.some_nodes events q leads

  holds : (d : ℕ) → Holds c.ring (q.boxes d)
  holds d = holds_after c.ring (events_in d events) (q.boxes d) (its_leads d)

  rest_in : (d : ℕ) → point_in c d p ≡ sends.Rest
  rest_in d = elim (cases_Bool ((sender_at c p).mailbox == d)) [
    | inl here ↦ rw here rest
    | inr there ↦ rw there refl
  ]

  -- ---- the sender's record alone changes

  module _ (sender' : Caller) where
    abbrev n : Pooled
    n = with_sender p sender' c

    own_sender : sender_at n p ≡ sender'
    own_sender = get_or-set_same c.senders p sender' _ sender_low

    other_sender : (s : ℕ) → ¬ (s ≡ p) → sender_at n s ≡ sender_at c s
    other_sender s other = get_or-set_other c.senders p s sender' _ other

    each : {X : Type 0} (f : Caller → X) → f sender' ≡ f (sender_at c p) → (s : ℕ) → f (sender_at n s) ≡ f (sender_at c s)
    each f same s = elim (cases_eq s p) [
      | inl is ↦ subst (λ s. f (sender_at n s) ≡ f (sender_at c s)) (sym is) (ap f own_sender ∙ same)
      | inr apart ↦ ap f (other_sender s apart)
    ]

    many : length n.senders ≡ length c.senders
    many = length-set c.senders p sender'

  -- ---- it is full

  abbrev full : Caller
  full = record (sender_at c p) { last = Some Full }

  full_shows : ShowsPool (with_sender p full c) q
  full_shows = record {
    boxes = λ d in_range. box_stays c.ring (events_in d events) (q.boxes d) (box_in c q d) (box_in (with_sender p full c) q d) (its_leads d) record {
      node = λ s k within. refl;
      stub = λ i. many full i * (c.ring + length c.heads) + d;
      next = λ e stands. refl;
      line = λ e stands. refl;
      amount = λ e stands. refl;
      head = refl;
      tail = refl;
      points = each full (λ (s : Caller). if s.mailbox == d then s.point else sends.Rest) refl;
      point = refl;
      senders = many full;
      ended = λ s. refl;
      held = λ a. refl;
    } (shows.boxes d in_range);
    senders = λ s in_range. let was = shows.senders s (omega (arith, in_range, many full)) in record { count = each full (λ (s : Caller). s.count) refl s ∙ was.count; turns = was.turns; end_turns = was.end_turns };
    stub_turns = λ d in_range. (λ t. (node_at c (many full t * (c.ring + length c.heads) + d)).turn) ∙ shows.stub_turns d in_range;
    no_boxes = shows.no_boxes;
  }

  -- ---- it fills an item

  module _ (item : Item) (may : MayFillIn c.ring q b p item) where
    abbrev m : Mailbox
    m = q.boxes b

    abbrev q' : Pool
    q' = after_in b (Fill p item) q

    abbrev sender' : Caller
    sender' = record (sender_at c p) { point = sends.Line item; mailbox = b }

    abbrev n' : Pooled
    n' = with_sender p sender' c

    alone : MayFill c.ring m p item
    alone = fill_alone c.ring ok.some_nodes q b p item (h p) may

    -- nodes of items that were there
    posts_other : (s : ℕ) → ¬ (s ≡ p) → q'.posts s ≡ q.posts s
    posts_other s other = other_posts q b p s item other

    number_old : (d k : ℕ) → k < length ((q.boxes d).items p) → is_end (item_at (q.boxes d) p k) ≡ false → number_in d k (q'.posts p) ≡ number_in d k (q.posts p)
    number_old d k within post =
        let found = (h p).numbered d k within post in
        let kept = old_posts q b p c.ring ok.some_nodes (h p) item may found.0 found.1 in
        number_is c.ring q' p (posts_event c.ring ok.some_nodes q b p (Fill p item) may (h p)) d k found.0 kept.0 (kept.1 ∙ found.2)
        ∙ sym (number_is c.ring q p (h p) d k found.0 found.1 found.2)

    place_old : (d s k : ℕ) → k < length ((q.boxes d).items s) → place_of c.ring (q'.posts s) d (item_at (q.boxes d) s k) k ≡ place_of c.ring (q.posts s) d (item_at (q.boxes d) s k) k
    place_old d s k within = elim (cases_eq s p) [
      | inr other ↦ ap (λ posts. place_of c.ring posts d (item_at (q.boxes d) s k) k) (posts_other s other)
      | inl same ↦ subst (λ s. k < length ((q.boxes d).items s) → place_of c.ring (q'.posts s) d (item_at (q.boxes d) s k) k ≡ place_of c.ring (q.posts s) d (item_at (q.boxes d) s k) k) (sym same) (λ within.
          elim (cases_Bool (is_end (item_at (q.boxes d) p k))) [
            | inl ended ↦ place_end c.ring (q'.posts p) d (item_at (q.boxes d) p k) k ended ∙ sym (place_end c.ring (q.posts p) d (item_at (q.boxes d) p k) k ended)
            | inr post ↦ place_post c.ring (q'.posts p) d (item_at (q.boxes d) p k) k post ∙ (ap (λ (j : ℕ). j % c.ring) (number_old d k within post) ∙ sym (place_post c.ring (q.posts p) d (item_at (q.boxes d) p k) k post))
          ]) within
    ]

    -- in another mailbox the items are as they were; in this one there is one more
    item_old : (d s k : ℕ) → (d ≡ b → s ≡ p → k < length (m.items p)) → item_at (q'.boxes d) s k ≡ item_at (q.boxes d) s k
    item_old d s k old = elim (cases_eq d b) [
      | inr there ↦ ap (λ m. item_at m s k) (box_other q b (Fill p item) d there)
      | inl here ↦ subst (λ d. item_at (q'.boxes d) s k ≡ item_at (q.boxes d) s k) (sym here) (ap (λ m. item_at m s k) (box_own q b (Fill p item)) ∙ elim (cases_eq s p) [
        | inl same ↦ subst (λ s. item_at (after (Fill p item) m) s k ≡ item_at m s k) (sym same) (fills_old m p item k (old here same))
        | inr other ↦ ap (λ xs. slice_index_or xs k End) (fills_other m p item s other)
      ])
    ]

    node_old : (d s k : ℕ) → k < length ((q.boxes d).items s) → node_in n' q' d (Of s k) ≡ node_in c q d (Of s k)
    node_old d s k within =
        let is : item_at (q'.boxes d) s k ≡ item_at (q.boxes d) s k = item_old d s k (λ here same. subst (λ s. k < length (m.items s)) same (subst (λ d. k < length ((q.boxes d).items s)) here within)) in
        ap (λ i. first_node c s + place_of c.ring (q'.posts s) d i k) is ∙ ap (λ (x : ℕ). first_node c s + x) (place_old d s k within)

    -- and a sender's that is not there yet, of others
    node_else : (s k : ℕ) → ¬ (s ≡ p) → node_in n' q' b (Of s k) ≡ node_in c q b (Of s k)
    node_else s k other =
        ap (λ i. first_node c s + place_of c.ring (q'.posts s) b i k) (item_old b s k (λ here same. absurd (other same)))
        ∙ ap (λ posts. first_node c s + place_of c.ring posts b (item_at m s k) k) (posts_other s other)

    stub_same : (d : ℕ) → node_in n' q' d Stub ≡ node_in c q d Stub
    stub_same d = λ i. many sender' i * (c.ring + length c.heads) + d

    own_point : point_in n' b p ≡ sends.Line item
    own_point = rw (own_sender sender', eq-eqb b b refl) refl

    other_point : (d s : ℕ) → ¬ (s ≡ p) → point_in n' d s ≡ point_in c d s
    other_point d s other = ap (λ (s : Caller). if s.mailbox == d then s.point else sends.Rest) (other_sender sender' s other)

    else_point : (d : ℕ) → ¬ (d ≡ b) → (s : ℕ) → point_in n' d s ≡ point_in c d s
    else_point d other s = elim (cases_eq s p) [
      | inl same ↦ subst (λ s. point_in n' d s ≡ point_in c d s) (sym same) (rw (own_sender sender', ne_eqb b d (λ is. other (sym is))) refl ∙ sym (rest_in d))
      | inr apart ↦ other_point d s apart
    ]

    ended_same : (d s : ℕ) → has_ended_in n' d s ≡ has_ended_in c d s
    ended_same d s = refl

    node_same_in : (s j : ℕ) → (s ≡ p → j < length (m.items p)) → node_in n' q' b (Of s j) ≡ node_in c q b (Of s j)
    node_same_in s j old = elim (cases_eq s p) [
      | inl same ↦ subst (λ s. j < length (m.items p) → node_in n' q' b (Of s j) ≡ node_in c q b (Of s j)) (sym same) (λ within. node_old b p j within) (old same)
      | inr other ↦ node_else s j other
    ]

    own_box : ShowsBox (box_in n' q' b) (q'.boxes b)
    own_box =
        let x = box_in c q b in
        let fill = fill_box c.ring m (holds b) x (shows.boxes b low) p sender_low item alone (node_in n' q' b) (point_in n' b) (stub_same b) node_same_in (other_point b) own_point in
        let here = filled c.ring m (holds b) x (shows.boxes b low) p sender_low item alone (node_in n' q' b) (point_in n' b) (stub_same b) node_same_in (other_point b) own_point in
        subst (ShowsBox (box_in n' q' b)) (sym (box_own q b (Fill p item)))
        (box_stays c.ring (events_in b events ++ Fill p item ∷ []) (after (Fill p item) m) here (box_in n' q' b) (leads_more (events_in b events) m (Fill p item) (its_leads b) alone) record {
          node = λ s k within. refl;
          stub = refl;
          next = λ e stands. refl;
          line = λ e stands. refl;
          amount = λ e stands. refl;
          head = refl;
          tail = refl;
          points = λ s. refl;
          point = refl;
          senders = many sender';
          ended = ended_same b;
          held = λ a. refl;
        } fill)

    other_box : (d : ℕ) → d < length c.heads → ¬ (d ≡ b) → ShowsBox (box_in n' q' d) (q'.boxes d)
    other_box d in_range other =
        subst (ShowsBox (box_in n' q' d)) (sym (box_other q b (Fill p item) d other))
        (box_stays c.ring (events_in d events) (q.boxes d) (box_in c q d) (box_in n' q' d) (its_leads d) record {
          node = node_old d;
          stub = stub_same d;
          next = λ e stands. refl;
          line = λ e stands. refl;
          amount = λ e stands. refl;
          head = refl;
          tail = refl;
          points = else_point d other;
          point = refl;
          senders = many sender';
          ended = ended_same d;
          held = λ a. refl;
        } (shows.boxes d in_range))

    -- ---- what is counted: the new post is neither sent nor given back

    linked_same : (d s k : ℕ) → is_linked (q'.boxes d) (Of s k) ≡ is_linked (q.boxes d) (Of s k)
    linked_same d s k = same_field (λ m. is_linked m (Of s k)) q b (Fill p item) refl d

    given_same : (d : ℕ) → (q'.boxes d).given ≡ (q.boxes d).given
    given_same = same_field (λ m. m.given) q b (Fill p item) refl

    abbrev new : ℕ
    new = length (m.items p)

    new_out : is_among (Of p new) m.order ≡ false
    new_out = false_from_ne_true (is_among (Of p new) m.order) (λ among. let within = item_within m p ((holds b).turns p) new among in omega (arith, within))

    new_kept : is_among (Of p new) m.given ≡ false
    new_kept = false_from_ne_true (is_among (Of p new) m.given) (λ given. false≢true (sym new_out ∙ among_first (Of p new) m.passed m.order ((holds b).reader.given_passed p new given)))

    -- a test of the posts that the new one fails counts what it counted
    count_posts : (t : ℕ → ℕ × ℕ → Bool) (u : ℕ → ℕ × ℕ → Bool) → ((j : ℕ) (at : ℕ × ℕ) → t j at ≡ u j at) → (s : ℕ) → (s ≡ p → t (length (q.posts p)) (b, new) ≡ false)
        → count_below (λ j. t j (post_at q' s j)) (length (q'.posts s)) ≡ count_below (λ j. u j (post_at q s j)) (length (q.posts s))
    count_posts t u same s out = elim (cases_eq s p) [
      | inr other ↦ ap (λ (posts : List (ℕ × ℕ)). count_below (λ j. t j (slice_index_or posts j (0, 0))) (length posts)) (posts_other s other) ∙ count_same (λ j. t j (post_at q s j)) (λ j. u j (post_at q s j)) (length (q.posts s)) (λ j within. same j (post_at q s j))
      | inl is ↦ subst (λ s. count_below (λ j. t j (post_at q' s j)) (length (q'.posts s)) ≡ count_below (λ j. u j (post_at q s j)) (length (q.posts s))) (sym is) (count_own q b p c.ring ok.some_nodes (h p) item may t u same (out is))
    ]

    abbrev ends : Mailbox → ℕ → ℕ
    ends m s = count_below (λ k. is_end (item_at m s k) && is_among (Of s k) m.given) (length (m.items s))

    end_same : (d s : ℕ) → times_end_given q' d s ≡ times_end_given q d s
    end_same d s = elim (cases_eq d b) [
      | inr there ↦ ap (λ (m : Mailbox). count_below (λ k. is_end (item_at m s k) && is_among (Of s k) m.given) (length (m.items s))) (box_other q b (Fill p item) d there)
      | inl here ↦ subst (λ d. times_end_given q' d s ≡ times_end_given q d s) (sym here) (ap (λ (m : Mailbox). count_below (λ k. is_end (item_at m s k) && is_among (Of s k) m.given) (length (m.items s))) (box_own q b (Fill p item)) ∙ elim (cases_eq s p) [
        | inr other ↦ ap (λ (xs : List Item). count_below (λ k. is_end (slice_index_or xs k End) && is_among (Of s k) m.given) (length xs)) (fills_other m p item s other)
        | inl same ↦ subst (λ s. ends (after (Fill p item) m) s ≡ ends m s) (sym same) own
      ])
    ]
      where
        own : ends (after (Fill p item) m) p ≡ ends m p
        own =
            let more : length ((after (Fill p item) m).items p) ≡ suc (length (m.items p)) = omega (arith, fills_long m p item) in
            let last : (is_end (item_at (after (Fill p item) m) p new) && is_among (Of p new) m.given) ≡ false = and_right (is_end (item_at (after (Fill p item) m) p new)) (is_among (Of p new) m.given) new_kept in
            let old = count_same (λ k. is_end (item_at (after (Fill p item) m) p k) && is_among (Of p k) m.given) (λ k. is_end (item_at m p k) && is_among (Of p k) m.given) (length (m.items p)) (λ k within. ap (λ i. is_end i && is_among (Of p k) m.given) (fills_old m p item k within)) in
            ap (count_below (λ k. is_end (item_at (after (Fill p item) m) p k) && is_among (Of p k) m.given)) more ∙ rw last (omega (arith, old))

    sender_shows : (s : ℕ) → s < length c.senders → ShowsSender n' q' s
    sender_shows s in_range =
        let was = shows.senders s in_range in
        record {
          count = each sender' (λ (s : Caller). s.count) refl s ∙ (was.count ∙ sym (count_posts (λ j at. is_linked (q'.boxes at.0) (Of s at.1)) (λ j at. is_linked (q.boxes at.0) (Of s at.1)) (λ j at. linked_same at.0 s at.1) s
              (λ same. linked_same b s new ∙ (ap (λ s. is_linked m (Of s new)) same ∙ and_left (is_among (Of p new) m.order) (not (is_among (Of p new) m.in_flight)) new_out))));
          turns = λ i i_low. was.turns i i_low ∙ sym (count_posts (λ j at. (j % c.ring == i) && is_among (Of s at.1) (q'.boxes at.0).given) (λ j at. (j % c.ring == i) && is_among (Of s at.1) (q.boxes at.0).given)
              (λ j at. λ t. (j % c.ring == i) && is_among (Of s at.1) (given_same at.0 t)) s
              (λ same. and_right (length (q.posts p) % c.ring == i) (is_among (Of s new) (q'.boxes b).given) (ap (is_among (Of s new)) (given_same b) ∙ (ap (λ s. is_among (Of s new) m.given) same ∙ new_kept))));
          end_turns = λ d d_low. was.end_turns d d_low ∙ sym (end_same d s);
        }

    pub fill_shows : ShowsPool n' q'
    fill_shows = record {
      boxes = λ d in_range. elim (cases_eq d b) [
        | inl same ↦ subst (λ d. ShowsBox (box_in n' q' d) (q'.boxes d)) (sym same) own_box
        | inr other ↦ other_box d in_range other
      ];
      senders = λ s in_range. sender_shows s (omega (arith, in_range, many sender'));
      stub_turns = λ d in_range. (λ t. (node_at c (many sender' t * (c.ring + length c.heads) + d)).turn) ∙ shows.stub_turns d in_range;
      no_boxes = λ d past. box_other q b (Fill p item) d (λ same. omega (arith, same, past, low)) ∙ shows.no_boxes d past;
    }

  -- ---- the step, by what it finds

  pub found_shows : (line : ℕ) (amount : ℤ) (free : Bool) → is_free c b p (Post line amount) ≡ free → (is_free c b p (Post line amount) ≡ true → MayFillIn c.ring q b p (Post line amount))
      → ShowsAfterIn (if free then Some (Fill p (Post line amount)) else None) c.ring b q (if free then with_point b p (sends.Line (Post line amount)) c else with_sender p full c)
  found_shows line amount true is may = (may is, fill_shows (Post line amount) (may is))
  found_shows line amount false is may = full_shows

-- a sender that has not ended in a mailbox of the pool is one of it
pub going_low : (c : Pooled) → IsPooled c → (b p : ℕ) → has_ended_in c b p ≡ false → p < length c.senders
going_low c ok b p going = elim (cases_lt p (length c.senders)) [
  | inl low ↦ low
  | inr past ↦
      let rows : length c.senders * length c.heads ≤ p * length c.heads = mul-le-mul_right (length c.heads) past in
      absurd (false≢true (sym going ∙ get_or_past c.ended (end_place c b p) true (omega (arith, ok.ended, rows))))
]

pub pool_load_turn : (b p line : ℕ) (amount : ℤ) → PoolStepShows b (step.LoadTurn p line amount)
pool_load_turn b p line amount events q c n low ok leads shows moved =
    let due = passed _ _ n moved in
    let parts = and_parts (is_at_rest (sender_at c p).point) _ due.0 in
    let rest = rest_is (sender_at c p).point parts.0 in
    let going = not-true (has_ended_in c b p) (and_parts (not (has_ended_in c b p)) _ parts.1).0 in
    let sender_low = going_low c ok b p going in
    subst (ShowsAfterIn (if is_free c b p (Post line amount) then Some (Fill p (Post line amount)) else None) c.ring b q) due.1
    (found_shows c ok events q leads shows b p low sender_low rest line amount (is_free c b p (Post line amount)) refl ((free_tells events q c b p line amount ok leads shows low sender_low rest going).0.0))
