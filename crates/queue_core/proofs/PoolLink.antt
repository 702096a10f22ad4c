-- StoreLink in a pool: the link of its mailbox. The node that is written is in no other mailbox.
use Rattle.std.proofs.Common.{◌≡◌, ◌∙◌, ◌≢◌, ◌<◌, ◌+◌, ◌*◌, ◌%◌, ◌++◌, ◌∷◌, [], ℕ, true, false, List, length, not, ap, sym, refl, subst, inl, inr, arith, get_or-set_other, get_or-set_same}
use Rattle.std.specs.Prelude.{◌==◌, ◌&&◌, ◌||◌, slice_index_or}
use Rattle.std.proofs.lemmas.Bool.{and_from, and_right, cases_Bool, cases_eq, false≢true, not_from_false, not_from_true, or_right}
use Rattle.std.proofs.lemmas.Nat.{mul-add-lt}
use Rattle.queue_core.specs.declared.entry.Entry.{Entry}
use Rattle.queue_core.specs.declared.entry.Entry.TheVariants.{Of, Stub}
use Rattle.queue_core.specs.declared.item.Item.{Item}
use Rattle.queue_core.specs.declared.item.Item.TheVariants.{Post, End}
use Rattle.queue_core.specs.declared.sender.SenderPoint.TheVariants as sends
use Rattle.queue_core.specs.declared.step.Step.TheVariants as step
use Rattle.queue_core.specs.declared.words.Node.{Node}
use Rattle.queue_core.specs.declared.sender.Caller.{Caller}
use Rattle.queue_core.specs.Items.{is_end}
use Rattle.queue_core.specs.Mailbox.{Mailbox, is_among, is_linked, item_at, left_entries}
use Rattle.queue_core.specs.Events.{Event, Leads, MayLink, after}
use Rattle.queue_core.specs.Events.Event.{Link}
use Rattle.queue_core.specs.Events.Leads.{more as leads_more}
use Rattle.queue_core.specs.Chain.{entry_at}
use Rattle.queue_core.specs.StoredWords.{empty_node, link_to}
use Rattle.queue_core.specs.Links.{is_in_flight, last_of}
use Rattle.queue_core.specs.Box.{Box, IsStanding, ShowsBox}
use Rattle.queue_core.specs.Pool.{Pool, PoolLeads, after_in, events_in, post_at}
use Rattle.queue_core.specs.Pooled.{IsPooled, Pooled, first_node, end_place, has_ended_in, node_at, node_of, point_in, sender_at, stub_in, with_node, with_sender}
use Rattle.queue_core.specs.PoolSteps.{after_sent, ends}
use Rattle.queue_core.specs.PoolShows.{ShowsPool, ShowsSender, box_in, count_below, is_sent, node_in, place_of}
use Rattle.queue_core.specs.PoolLaws.{PoolStepShows}
use Rattle.queue_core.proofs.BoxFrame.{box_stays}
use Rattle.queue_core.proofs.BoxLink.{all_exchanged as box_all_exchanged, before_is as box_before_is, before_stands as box_before_stands, flies_else as box_flies_else, flies_own as box_flies_own, full as box_full, link_box as box_link_box, linked as box_linked, may as box_may, owed as box_owed}
use Rattle.queue_core.proofs.CountLemmas.{count_one_more, count_same}
use Rattle.queue_core.proofs.EventsKeep.{holds_after}
use Rattle.queue_core.proofs.Generations.{same_block}
use Rattle.queue_core.proofs.MailboxHolds.{Holds}
use Rattle.queue_core.proofs.PoolNodes.{before_stubs, no_others, nodes_apart, number_is}
use Rattle.queue_core.proofs.PooledKept.{field_kept, sender_within}
use Rattle.queue_core.proofs.PoolFresh.{fresh_node, point_else, point_other, point_own, senders_same}
use Rattle.queue_core.proofs.PoolStepsKeep.{call_in}
use Rattle.queue_core.proofs.PoolPosts.{PostsHold, box_leads, box_other, box_own, posts_after, same_field}
use Rattle.queue_core.proofs.StepLemmas.{link_is, mapped}

-- each sender and mailbox has a place of its own
pub end_places : (mailboxes d b s p : ℕ) → d < mailboxes → b < mailboxes → s * mailboxes + d ≡ p * mailboxes + b → (s ≡ p) × (d ≡ b)
end_places mailboxes d b s p d_low b_low same =
    let is : s ≡ p = same_block mailboxes s p d b d_low b_low same in
    let rows : s * mailboxes ≡ p * mailboxes = ap (λ (k : ℕ). k * mailboxes) is in
    (is, omega (arith, same, rows))

module _ (c : Pooled) (ok : IsPooled c) (events : List (ℕ × Event)) (q : Pool) (leads : PoolLeads c.ring events q) (shows : ShowsPool c q) (b p : ℕ) (low : b < length c.heads) (item : Item) (before : ℕ) (at : point_in c b p ≡ sends.Link item before) where
  abbrev m : Mailbox
  m = q.boxes b

  abbrev last : ℕ
  last = last_of m p

  abbrev q' : Pool
  q' = after_in b (Link p) q

  abbrev sender' : Caller
  sender' = after_sent item (sender_at c p)

  abbrev node' : Node
  node' = record (node_at c before) { next = link_to (node_of c b p item) }

  abbrev n : Pooled
  n = ends b p item (with_sender p sender' (with_node before node' c))

  h : (p : ℕ) → PostsHold c.ring q p
  h = posts_after c.ring ok.some_nodes events q leads

  its_leads : (d : ℕ) → Leads c.ring (events_in d events) (q.boxes d)
  its_leads = box_leads c.ring ok.some_nodes events q leads

  holds : (d : ℕ) → Holds c.ring (q.boxes d)
  holds d = holds_after c.ring (events_in d events) (q.boxes d) (its_leads d)

  apart : (e f : Entry) → IsStanding m e → IsStanding m f → node_in c q b e ≡ node_in c q b f → e ≡ f
  apart e f se sf same = (nodes_apart c ok q h holds (no_others c q shows) b b low low e f se sf same).1

  abbrev x : Box
  x = box_in c q b

  -- ---- the sender is in its call in this mailbox, and at rest in the others

  busy : sends.Link item before ≢ sends.Rest
  busy same = cc

  call : ((sender_at c p).mailbox ≡ b) × ((sender_at c p).point ≡ sends.Link item before)
  call = call_in c b p (sends.Link item before) busy at

  sender_low : p < length c.senders
  sender_low = sender_within c ok p (λ rest. busy (sym call.1 ∙ rest))

  own_sender : sender_at n p ≡ sender'
  own_sender = get_or-set_same c.senders p sender' _ sender_low

  other_sender : (s : ℕ) → ¬ (s ≡ p) → sender_at n s ≡ sender_at c s
  other_sender s other = get_or-set_other c.senders p s sender' _ other

  own_point : point_in n b p ≡ sends.Rest
  own_point = point_own c b p sender_low sender' call.0

  other_point : (s : ℕ) → ¬ (s ≡ p) → point_in n b s ≡ point_in c b s
  other_point = point_other c b p sender_low sender' call.0 b

  many : length n.senders ≡ length c.senders
  many = senders_same c b p sender_low sender'

  -- whether it has ended
  ended_own : has_ended_in n b p ≡ (has_ended_in c b p || is_end item)
  ended_own = by item
    where
      by : (i : Item) → slice_index_or (ends b p i c).ended (end_place c b p) true ≡ (has_ended_in c b p || is_end i)
      by (Post line amount) = elim (cases_Bool (has_ended_in c b p)) [
        | inl ended ↦ rw ended refl
        | inr going ↦ rw going refl
      ]
      by End = get_or-set_same c.ended (end_place c b p) true true (omega (arith, ok.ended, mul-add-lt p (length c.heads) b (length c.senders) sender_low low)) ∙ sym (or_right (has_ended_in c b p) true refl)

  ended_apart : (d s : ℕ) → ¬ (end_place c d s ≡ end_place c b p) → has_ended_in n d s ≡ has_ended_in c d s
  ended_apart d s other = by item
    where
      by : (i : Item) → slice_index_or (ends b p i c).ended (end_place c d s) true ≡ has_ended_in c d s
      by (Post line amount) = refl
      by End = get_or-set_other c.ended (end_place c b p) (end_place c d s) true true other

  ended_other : (d s : ℕ) → d < length c.heads → ¬ (s ≡ p) → has_ended_in n d s ≡ has_ended_in c d s
  ended_other d s d_low other = ended_apart d s (λ same. other (end_places (length c.heads) d b s p d_low low same).0)

  ended_else : (d : ℕ) → d < length c.heads → ¬ (d ≡ b) → (s : ℕ) → has_ended_in n d s ≡ has_ended_in c d s
  ended_else d d_low other s = ended_apart d s (λ same. other (end_places (length c.heads) d b s p d_low low same).1)

  -- ---- the node that is written

  written_stands : IsStanding m (entry_at (left_entries m) (box_owed c.ring m (holds b) x (shows.boxes b low) apart p item before at).3.0)
  written_stands = box_before_stands c.ring m (holds b) x (shows.boxes b low) apart p item before at

  written_is : node_in c q b (entry_at (left_entries m) (box_owed c.ring m (holds b) x (shows.boxes b low) apart p item before at).3.0) ≡ before
  written_is = box_before_is c.ring m (holds b) x (shows.boxes b low) apart p item before at

  node_low : (e : Entry) → IsStanding m e → node_in c q b e < length c.nodes
  node_low (Of s k) stands = let under = before_stubs c ok q h holds (no_others c q shows) b s k low stands in omega (arith, under, ok.nodes)
  node_low Stub stands = omega (arith, low, ok.nodes)

  before_low : before < length c.nodes
  before_low = subst (λ (a : ℕ). a < length c.nodes) written_is (node_low (entry_at (left_entries m) (box_owed c.ring m (holds b) x (shows.boxes b low) apart p item before at).3.0) written_stands)

  -- words but its next are as they were
  word : (f : Node → ℕ) → f node' ≡ f (node_at c before) → (a : ℕ) → f (node_at n a) ≡ f (node_at c a)
  word = field_kept c before node' before_low

  next_else : (a : ℕ) → ¬ (a ≡ before) → (node_at n a).next ≡ (node_at c a).next
  next_else a other = ap (λ (z : Node). z.next) (get_or-set_other c.nodes before a node' empty_node other)

  -- ---- what is sent

  linked_same : (d s k : ℕ) → ¬ ((d ≡ b) × (s ≡ p) × (k ≡ last)) → is_linked (q'.boxes d) (Of s k) ≡ is_linked (q.boxes d) (Of s k)
  linked_same d s k other = elim (cases_eq d b) [
    | inl here ↦ subst (λ (d : ℕ). is_linked (q'.boxes d) (Of s k) ≡ is_linked (q.boxes d) (Of s k)) (sym here) (ap (λ (m : Mailbox). is_linked m (Of s k)) (box_own q b (Link p))
        ∙ ap (λ f. is_among (Of s k) m.order && not f) (box_flies_else c.ring m (holds b) x (shows.boxes b low) apart p item before at (Of s k) (λ same. let y : s ≡ p = cc in let z : k ≡ last = cc in other (here, y, z))))
    | inr there ↦ ap (λ (m : Mailbox). is_linked m (Of s k)) (box_other q b (Link p) d there)
  ]

  filled : last < length (m.items p)
  filled = let full = box_full c.ring m (holds b) x (shows.boxes b low) apart p item before at in omega (arith, full)

  linked_now : is_linked (q'.boxes b) (Of p last) ≡ true
  linked_now = ap (λ (m : Mailbox). is_linked m (Of p last)) (box_own q b (Link p))
      ∙ and_from (is_among (Of p last) m.order) (not (is_in_flight (after (Link p) m) (Of p last))) (box_all_exchanged c.ring m (holds b) x (shows.boxes b low) apart p item before at last filled)
      (not_from_false (is_in_flight (after (Link p) m) (Of p last)) (box_flies_own c.ring m (holds b) x (shows.boxes b low) apart p item before at last))

  linked_was : is_linked m (Of p last) ≡ false
  linked_was = and_right (is_among (Of p last) m.order) (not (is_in_flight m (Of p last))) (not_from_true (is_in_flight m (Of p last)) (box_owed c.ring m (holds b) x (shows.boxes b low) apart p item before at).2)

  item_is : item_at m p last ≡ item
  item_is = (box_owed c.ring m (holds b) x (shows.boxes b low) apart p item before at).1

  -- where it is a post, it is the last, and all before it are sent
  module _ (post : is_end item ≡ false) where
    found : (j : ℕ) × (j < length (q.posts p)) × (post_at q p j ≡ (b, last))
    found = (h p).numbered b last filled (ap is_end item_is ∙ post)

    was : is_sent q p (post_at q p found.0) ≡ false
    was = rw found.2 linked_was

    sent_more : count_below (λ j. is_sent q' p (post_at q p j)) (length (q.posts p)) ≡ count_below (λ j. is_sent q p (post_at q p j)) (length (q.posts p)) + 1
    sent_more = count_one_more (λ j. is_sent q p (post_at q p j)) (λ j. is_sent q' p (post_at q p j)) found.0 (length (q.posts p)) found.1 was (rw found.2 linked_now) (λ j below other.
        linked_same (post_at q p j).0 p (post_at q p j).1 (λ hit. other (
        let e : post_at q p j ≡ (b, last) = (λ t. (hit.0 t, hit.2 t)) in
        sym (number_is c.ring q p (h p) b last j below e) ∙ number_is c.ring q p (h p) b last found.0 found.1 found.2)))

  -- where it is an end mark, as many posts are sent as before
  sent_same : is_end item ≡ true → count_below (λ j. is_sent q' p (post_at q p j)) (length (q.posts p)) ≡ count_below (λ j. is_sent q p (post_at q p j)) (length (q.posts p))
  sent_same ended = count_same (λ j. is_sent q' p (post_at q p j)) (λ j. is_sent q p (post_at q p j)) (length (q.posts p)) (λ j below. linked_same (post_at q p j).0 p (post_at q p j).1 (λ hit.
      let e : post_at q p j ≡ (b, last) = (λ t. (hit.0 t, hit.2 t)) in
      let post : is_end (item_at m p last) ≡ false = subst (λ (a : ℕ × ℕ). is_end (item_at (q.boxes a.0) p a.1) ≡ false) e ((h p).filled j below).1 in
      false≢true (sym post ∙ (ap is_end item_is ∙ ended))))

  count_own : sender'.count ≡ count_below (λ j. is_sent q' p (post_at q p j)) (length (q.posts p))
  count_own = elim (cases_Bool (is_end item)) [
    | inl ended ↦ rw ended ((shows.senders p sender_low).count ∙ sym (sent_same ended))
    | inr post ↦ rw post (ap (λ (k : ℕ). k + 1) (shows.senders p sender_low).count ∙ sym (sent_more post))
  ]

  count_other : (s : ℕ) → ¬ (s ≡ p) → count_below (λ j. is_sent q' s (post_at q s j)) (length (q.posts s)) ≡ count_below (λ j. is_sent q s (post_at q s j)) (length (q.posts s))
  count_other s other = count_same (λ j. is_sent q' s (post_at q s j)) (λ j. is_sent q s (post_at q s j)) (length (q.posts s)) (λ j below. linked_same (post_at q s j).0 s (post_at q s j).1 (λ hit. other hit.1))

  -- ---- its node

  node_is : node_of c b p item ≡ node_in c q b (Of p last)
  node_is =
      let full = box_full c.ring m (holds b) x (shows.boxes b low) apart p item before at in
      fresh_node c ok events q leads shows b p sender_low item (omega (arith, full)) item_is linked_was

  next_there : (node_at n before).next ≡ link_to (node_in c q b (Of p last))
  next_there = ap (λ (z : Node). z.next) (get_or-set_same c.nodes before node' empty_node before_low) ∙ ap link_to node_is

  items_same : (d : ℕ) → (q'.boxes d).items ≡ (q.boxes d).items
  items_same = same_field (λ m. m.items) q b (Link p) refl

  given_same : (d : ℕ) → (q'.boxes d).given ≡ (q.boxes d).given
  given_same = same_field (λ m. m.given) q b (Link p) refl

  node_same : (d : ℕ) (e : Entry) → node_in n q' d e ≡ node_in c q d e
  node_same d (Of s k) = λ i. s * (c.ring + length c.heads) + place_of c.ring (q.posts s) d (slice_index_or (items_same d i s) k End) k
  node_same d Stub = λ i. many i * (c.ring + length c.heads) + d

  -- ---- the mailboxes

  may : MayLink m p
  may = box_may c.ring m (holds b) x (shows.boxes b low) apart p item before at

  own_box : ShowsBox (box_in n q' b) (q'.boxes b)
  own_box =
      let link = box_link_box c.ring m (holds b) x (shows.boxes b low) apart p item before at (λ a. (node_at n a).next) next_there next_else (point_in n b) own_point other_point (has_ended_in n b) ended_own (λ s. ended_other b s low) sender_low in
      let here = box_linked c.ring m (holds b) x (shows.boxes b low) apart p item before at (λ a. (node_at n a).next) next_there next_else (point_in n b) own_point other_point (has_ended_in n b) ended_own (λ s. ended_other b s low) in
      subst (ShowsBox (box_in n q' b)) (sym (box_own q b (Link p)))
      (box_stays c.ring (events_in b events ++ Link p ∷ []) (after (Link p) m) here (box_in n q' b) (leads_more (events_in b events) m (Link p) (its_leads b) may) record {
        node = λ s k within. node_same b (Of s k);
        stub = node_same b Stub;
        next = λ e stands. refl;
        line = λ e stands. word (λ (z : Node). z.line) refl (node_in c q b e);
        amount = λ e stands. word (λ (z : Node). z.amount) refl (node_in c q b e);
        head = refl;
        tail = refl;
        points = λ s. refl;
        point = refl;
        senders = many;
        ended = λ s. refl;
        held = λ a. refl;
      } link)

  other_box : (d : ℕ) → d < length c.heads → ¬ (d ≡ b) → ShowsBox (box_in n q' d) (q'.boxes d)
  other_box d in_range other =
      subst (ShowsBox (box_in n q' d)) (sym (box_other q b (Link p) d other))
      (box_stays c.ring (events_in d events) (q.boxes d) (box_in c q d) (box_in n q' d) (its_leads d) record {
        node = λ s k within. node_same d (Of s k);
        stub = node_same d Stub;
        next = λ e stands. next_else (node_in c q d e) (λ same.
            other (sym (nodes_apart c ok q h holds (no_others c q shows) b d low in_range (entry_at (left_entries m) (box_owed c.ring m (holds b) x (shows.boxes b low) apart p item before at).3.0) e written_stands stands (written_is ∙ sym same)).0));
        line = λ e stands. word (λ (z : Node). z.line) refl (node_in c q d e);
        amount = λ e stands. word (λ (z : Node). z.amount) refl (node_in c q d e);
        head = refl;
        tail = refl;
        points = point_else c b p sender_low sender' call.0 call.0 d other;
        point = refl;
        senders = many;
        ended = ended_else d in_range other;
        held = λ a. refl;
      } (shows.boxes d in_range))

  sender_shows : (s : ℕ) → s < length c.senders → ShowsSender n q' s
  sender_shows s in_range =
      let was = shows.senders s in_range in
      record {
        count = elim (cases_eq s p) [
          | inl same ↦ subst (λ s. (sender_at n s).count ≡ count_below (λ j. is_sent q' s (post_at q s j)) (length (q.posts s))) (sym same) (ap (λ (s : Caller). s.count) own_sender ∙ count_own)
          | inr other ↦ ap (λ (s : Caller). s.count) (other_sender s other) ∙ (was.count ∙ sym (count_other s other))
        ];
        turns = λ i i_low. word (λ (z : Node). z.turn) refl (first_node c s + i) ∙ (was.turns i i_low
            ∙ (λ t. count_below (λ j. (j % c.ring == i) && is_among (Of s (post_at q s j).1) (sym (given_same (post_at q s j).0) t)) (length (q.posts s))));
        end_turns = λ d d_low. word (λ (z : Node). z.turn) refl (first_node c s + (c.ring + d)) ∙ (was.end_turns d d_low
            ∙ (λ t. count_below (λ k. is_end (slice_index_or (sym (items_same d) t s) k End) && is_among (Of s k) (sym (given_same d) t)) (length (sym (items_same d) t s))));
      }

  pub link_shows : ShowsPool n q'
  link_shows = record {
    boxes = λ d in_range. elim (cases_eq d b) [
      | inl same ↦ subst (λ d. ShowsBox (box_in n q' d) (q'.boxes d)) (sym same) own_box
      | inr other ↦ other_box d in_range other
    ];
    senders = λ s in_range. sender_shows s (omega (arith, in_range, many));
    stub_turns = λ d in_range. word (λ (z : Node). z.turn) refl (stub_in n d) ∙ ((λ t. (node_at c (many t * (c.ring + length c.heads) + d)).turn) ∙ shows.stub_turns d in_range);
    no_boxes = λ d past. box_other q b (Link p) d (λ same. omega (arith, same, past, low)) ∙ shows.no_boxes d past;
  }

  pub allowed : MayLink m p
  allowed = may

pub pool_link : (b p : ℕ) → PoolStepShows b (step.StoreLink p)
pool_link b p events q c n low ok leads shows moved =
    let found = mapped _ _ n moved in
    let at = link_is _ found.0 found.1 in
    (allowed c ok events q leads shows b p low found.0.0 found.0.1 at, subst (λ n. ShowsPool n (after_in b (Link p) q)) found.2 (link_shows c ok events q leads shows b p low found.0.0 found.0.1 at))
