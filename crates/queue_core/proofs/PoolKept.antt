-- A step in one mailbox that fills nothing and gives nothing back leaves every other mailbox as it was, and all counts and turns.
use Rattle.std.proofs.Common.{◌≡◌, ◌∙◌, ◌<◌, ◌+◌, ◌*◌, ◌%◌, ℕ, List, true, length, ap, sym, refl, subst, inl, inr, arith}
use Rattle.std.specs.Prelude.{◌==◌, ◌&&◌, slice_index_or}
use Rattle.std.proofs.lemmas.Bool.{cases_eq}
use Rattle.queue_core.specs.declared.entry.Entry.{Entry}
use Rattle.queue_core.specs.declared.entry.Entry.TheVariants.{Of, Stub}
use Rattle.queue_core.specs.declared.item.Item.TheVariants.{End}
use Rattle.queue_core.specs.declared.words.Node.{Node}
use Rattle.queue_core.specs.Items.{is_end}
use Rattle.queue_core.specs.Mailbox.{is_among, is_linked}
use Rattle.queue_core.specs.Events.{Event, Leads, after}
use Rattle.queue_core.specs.Box.{Box, IsStanding, ShowsBox}
use Rattle.queue_core.specs.Pool.{Pool, PoolLeads, after_in, events_in}
use Rattle.queue_core.specs.Pooled.{IsPooled, Pooled, first_node, has_ended_in, head_in, is_held_in, node_at, point_in, reader_in, sender_at, stub_in}
use Rattle.queue_core.specs.PoolShows.{ShowsPool, ShowsSender, box_in, count_below, is_sent, node_in, place_of, times_end_given, times_given}
use Rattle.queue_core.proofs.BoxFrame.{box_stays}
use Rattle.queue_core.proofs.EventsKeep.{holds_after}
use Rattle.queue_core.proofs.MailboxHolds.{Holds}
use Rattle.queue_core.proofs.PoolNodes.{no_others, nodes_apart}
use Rattle.queue_core.proofs.PoolPosts.{PostsHold, box_leads, box_other, posts_after, same_field}

-- what is as it was in the table, but for one mailbox: where everyone is, what they count, and the turns
pub record Stays (c n : Pooled) (b : ℕ) : Type 0 where
  pub ring : n.ring ≡ c.ring
  pub heads : length n.heads ≡ length c.heads
  pub senders : length n.senders ≡ length c.senders
  pub ended : n.ended ≡ c.ended
  pub head : (d : ℕ) → ¬ (d ≡ b) → head_in n d ≡ head_in c d
  pub reader : (d : ℕ) → ¬ (d ≡ b) → reader_in n d ≡ reader_in c d
  pub points : (d : ℕ) → ¬ (d ≡ b) → (s : ℕ) → point_in n d s ≡ point_in c d s
  pub held : (d : ℕ) → d < length c.heads → ¬ (d ≡ b) → (a : ℕ) → is_held_in n d a ≡ is_held_in c d a
  pub counts : (s : ℕ) → (sender_at n s).count ≡ (sender_at c s).count
  pub turns : (a : ℕ) → (node_at n a).turn ≡ (node_at c a).turn

-- what is as it was in the pool, but for the order of one mailbox
pub record SameItems (q q' : Pool) (b : ℕ) : Type 0 where
  pub others : (d : ℕ) → ¬ (d ≡ b) → q'.boxes d ≡ q.boxes d
  pub items : (d : ℕ) → (q'.boxes d).items ≡ (q.boxes d).items
  pub given : (d : ℕ) → (q'.boxes d).given ≡ (q.boxes d).given
  pub linked : (d s k : ℕ) → is_linked (q'.boxes d) (Of s k) ≡ is_linked (q.boxes d) (Of s k)
  pub posts : q'.posts ≡ q.posts

pub same_pool : (q : Pool) (b : ℕ) → SameItems q q b
same_pool q b = record { others = λ d other. refl; items = λ d. refl; given = λ d. refl; linked = λ d s k. refl; posts = refl }

-- an event that fills nothing and gives nothing back
pub event_same : (q : Pool) (b : ℕ) (event : Event) → (after event (q.boxes b)).items ≡ (q.boxes b).items → (after event (q.boxes b)).given ≡ (q.boxes b).given
    → ((s k : ℕ) → is_linked (after event (q.boxes b)) (Of s k) ≡ is_linked (q.boxes b) (Of s k)) → (after_in b event q).posts ≡ q.posts → SameItems q (after_in b event q) b
event_same q b event items given linked posts = record {
  others = box_other q b event;
  items = same_field (λ m. m.items) q b event items;
  given = same_field (λ m. m.given) q b event given;
  linked = λ d s k. same_field (λ m. is_linked m (Of s k)) q b event (linked s k) d;
  posts = posts;
}

module _ (c : Pooled) (ok : IsPooled c) (events : List (ℕ × Event)) (q : Pool) (leads : PoolLeads c.ring events q) (shows : ShowsPool c q) (b : ℕ) (low : b < length c.heads) where
  h : (p : ℕ) → PostsHold c.ring q p
  h = posts_after c.ring ok.some_nodes events q leads

  pub leads_in : (d : ℕ) → Leads c.ring (events_in d events) (q.boxes d)
  leads_in = box_leads c.ring ok.some_nodes events q leads

  pub holds_in : (d : ℕ) → Holds c.ring (q.boxes d)
  holds_in d = holds_after c.ring (events_in d events) (q.boxes d) (leads_in d)

  -- entries that stand in one node of a mailbox are one
  pub apart_here : (e f : Entry) → IsStanding (q.boxes b) e → IsStanding (q.boxes b) f → node_in c q b e ≡ node_in c q b f → e ≡ f
  apart_here e f se sf same = (nodes_apart c ok q h holds_in (no_others c q shows) b b low low e f se sf same).1

  -- all words that are written are those of one node, in which an entry of this mailbox stands
  module _ (n : Pooled) (stays : Stays c n b) (written : Entry) (stands : IsStanding (q.boxes b) written) (words : (a : ℕ) → ¬ (a ≡ node_in c q b written) → node_at n a ≡ node_at c a) (q' : Pool) (same : SameItems q q' b) where
    node_same : (d : ℕ) (e : Entry) → node_in n q' d e ≡ node_in c q d e
    node_same d (Of s k) = λ i. s * (stays.ring i + stays.heads i) + place_of (stays.ring i) (same.posts i s) d (slice_index_or (same.items d i s) k End) k
    node_same d Stub = λ i. stays.senders i * (stays.ring i + stays.heads i) + d

    ended_same : (d s : ℕ) → has_ended_in n d s ≡ has_ended_in c d s
    ended_same d s = λ i. slice_index_or (stays.ended i) (s * stays.heads i + d) true

    -- what the mailbox itself reads then
    abbrev pub here : Box
    here = record {
      links = record { node = node_in c q b; next = λ a. (node_at n a).next; head = head_in n b; tail = (reader_in n b).tail; points = point_in n b; point = (reader_in n b).point };
      line = λ a. (node_at n a).line;
      amount = λ a. (node_at n a).amount;
      senders = length c.senders;
      ended = has_ended_in c b;
      held = is_held_in n b;
    }

    here_is : here ≡ box_in n q' b
    here_is = λ i. record {
      links = record { node = λ e. sym (node_same b e) i; next = λ a. (node_at n a).next; head = head_in n b; tail = (reader_in n b).tail; points = point_in n b; point = (reader_in n b).point };
      line = λ a. (node_at n a).line;
      amount = λ a. (node_at n a).amount;
      senders = sym stays.senders i;
      ended = λ s. sym (ended_same b s) i;
      held = is_held_in n b;
    }

    other_word : (d : ℕ) → d < length c.heads → ¬ (d ≡ b) → (e : Entry) → IsStanding (q.boxes d) e → node_at n (node_in c q d e) ≡ node_at c (node_in c q d e)
    other_word d in_range other e st =
        words (node_in c q d e) (λ is. other (sym (nodes_apart c ok q h holds_in (no_others c q shows) b d low in_range written e stands st (sym is)).0))

    other_box : (d : ℕ) → d < length c.heads → ¬ (d ≡ b) → ShowsBox (box_in n q' d) (q'.boxes d)
    other_box d in_range other =
        subst (ShowsBox (box_in n q' d)) (sym (same.others d other))
        (box_stays c.ring (events_in d events) (q.boxes d) (box_in c q d) (box_in n q' d) (leads_in d) record {
          node = λ s k within. node_same d (Of s k);
          stub = node_same d Stub;
          next = λ e st. ap (λ (z : Node). z.next) (other_word d in_range other e st);
          line = λ e st. ap (λ (z : Node). z.line) (other_word d in_range other e st);
          amount = λ e st. ap (λ (z : Node). z.amount) (other_word d in_range other e st);
          head = stays.head d other;
          tail = λ i. (stays.reader d other i).tail;
          points = stays.points d other;
          point = λ i. (stays.reader d other i).point;
          senders = stays.senders;
          ended = ended_same d;
          held = stays.held d in_range other;
        } (shows.boxes d in_range))

    counted : (s : ℕ) → count_below (λ j. is_sent q s (slice_index_or (q.posts s) j (0, 0))) (length (q.posts s)) ≡ count_below (λ j. is_sent q' s (slice_index_or (q'.posts s) j (0, 0))) (length (q'.posts s))
    counted s = λ t. count_below (λ j. let at = slice_index_or (sym same.posts t s) j (0, 0) in sym (same.linked at.0 s at.1) t) (length (sym same.posts t s))

    turned : (s i : ℕ) → times_given c.ring q s i ≡ times_given n.ring q' s i
    turned s i = λ t. count_below (λ j. let at = slice_index_or (sym same.posts t s) j (0, 0) in (j % sym stays.ring t == i) && is_among (Of s at.1) (sym (same.given at.0) t)) (length (sym same.posts t s))

    end_turned : (d s : ℕ) → times_end_given q d s ≡ times_end_given q' d s
    end_turned d s = λ t. count_below (λ k. is_end (slice_index_or (sym (same.items d) t s) k End) && is_among (Of s k) (sym (same.given d) t)) (length (sym (same.items d) t s))

    sender_shows : (s : ℕ) → s < length c.senders → ShowsSender n q' s
    sender_shows s in_range =
        let was = shows.senders s in_range in
        record {
          count = stays.counts s ∙ (was.count ∙ counted s);
          turns = λ i i_low. stays.turns (first_node n s + i)
              ∙ ((λ t. (node_at c (s * (stays.ring t + stays.heads t) + i)).turn) ∙ (was.turns i (omega (arith, i_low, stays.ring)) ∙ turned s i));
          end_turns = λ d d_low. stays.turns (first_node n s + (n.ring + d))
              ∙ ((λ t. (node_at c (s * (stays.ring t + stays.heads t) + (stays.ring t + d))).turn) ∙ (was.end_turns d (omega (arith, d_low, stays.heads)) ∙ end_turned d s));
        }

    -- So the pool is shown where the mailbox is.
    pub kept_shows : ShowsBox here (q'.boxes b) → ShowsPool n q'
    kept_shows own = record {
      boxes = λ d in_range. elim (cases_eq d b) [
        | inl is ↦ subst (λ d. ShowsBox (box_in n q' d) (q'.boxes d)) (sym is) (subst (λ x. ShowsBox x (q'.boxes b)) here_is own)
        | inr other ↦ other_box d (omega (arith, in_range, stays.heads)) other
      ];
      senders = λ s in_range. sender_shows s (omega (arith, in_range, stays.senders));
      stub_turns = λ d in_range. stays.turns (stub_in n d) ∙ ((λ t. (node_at c (stays.senders t * (stays.ring t + stays.heads t) + d)).turn) ∙ shows.stub_turns d (omega (arith, in_range, stays.heads)));
      no_boxes = λ d past. same.others d (λ is. omega (arith, is, past, low, stays.heads)) ∙ shows.no_boxes d (omega (arith, past, stays.heads));
    }
