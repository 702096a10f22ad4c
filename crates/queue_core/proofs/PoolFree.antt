-- LoadTurn in a pool: a sender in no call finds its next ring node as often given back as it has gone round just where it may fill it.
use Rattle.std.proofs.Common.{◌≡◌, ◌∙◌, ◌<◌, ◌+◌, ◌/◌, ◌%◌, ℕ, ℤ, true, false, List, length, not, ap, sym, refl, subst, inl, inr, arith, mod-lt}
use Rattle.std.specs.Prelude.{◌==◌, slice_index_or}
use Rattle.std.proofs.lemmas.Bool.{and_from, cases_Bool, cases_lt, eq-eqb, eqb-true, false_from_ne_true, false≢true, not_from_false}
use Rattle.std.proofs.lemmas.List.{take_all}
use Rattle.queue_core.specs.declared.entry.Entry.TheVariants.{Of}
use Rattle.queue_core.specs.declared.item.Item.{Item}
use Rattle.queue_core.specs.declared.item.Item.TheVariants.{Post, End}
use Rattle.queue_core.specs.declared.sender.SenderPoint.TheVariants as sends
use Rattle.queue_core.specs.Items.{is_end}
use Rattle.queue_core.specs.Mailbox.{Mailbox, is_among, item_at, sent}
use Rattle.queue_core.specs.Links.{IsAtHand, IsOwedBySender, is_in_flight}
use Rattle.queue_core.specs.Pool.{MayFillIn, Pool, events_in, is_given, post_at}
use Rattle.queue_core.specs.Pooled.{IsPooled, Pooled, first_node, has_ended_in, node_at, node_of, point_in, sender_at}
use Rattle.queue_core.specs.PoolSteps.{is_free}
use Rattle.queue_core.specs.PoolShows.{ShowsPool, is_sent, links_in, node_in, number_in, times_given}
use Rattle.queue_core.specs.PoolLaws.{PoolLoadTurnTells}
use Rattle.queue_core.proofs.CountLemmas.{count_all, full_if, full_tells}
use Rattle.queue_core.proofs.Entries.{among_turn, count_own}
use Rattle.queue_core.proofs.EventsKeep.{holds_after}
use Rattle.queue_core.proofs.MailboxHolds.{Holds, sent_linked}
use Rattle.queue_core.proofs.PoolNodes.{number_is, place_end, place_post}
use Rattle.queue_core.proofs.PoolPosts.{PostsHold, box_leads, posts_after, round_back}

-- where all items of a sender are exchanged in and none is in flight, it has sent them all
pub sent_whole : (ring : ℕ) (m : Mailbox) → Holds ring m → (p : ℕ) → ((j : ℕ) → j < length (m.items p) → is_among (Of p j) m.order ≡ true) → ((j : ℕ) → is_in_flight m (Of p j) ≡ false) → sent m p ≡ m.items p
sent_whole ring m holds p exchanged flies =
    let turns = holds.turns p in
    let all : count_own p m.order ≡ length (m.items p) = elim (cases_lt (count_own p m.order) (length (m.items p))) [
      | inl fewer ↦ let under = among_turn p (count_own p m.order) m.order turns.one_by_one (exchanged (count_own p m.order) fewer) in absurd (omega (arith, under))
      | inr past ↦ omega (arith, past, turns.filled_first)
    ] in
    sent_linked m p turns flies ∙ take_all (count_own p m.order) (m.items p) (omega (arith, all))

module _ (c : Pooled) (ok : IsPooled c) (q : Pool) (h : (p : ℕ) → PostsHold c.ring q p) (holds : (b : ℕ) → Holds c.ring (q.boxes b)) (shows : ShowsPool c q) (p : ℕ) (in_table : p < length c.senders) (rest : (sender_at c p).point ≡ sends.Rest) where
  abbrev J : ℕ
  J = length (q.posts p)

  -- a sender in no call is at rest in every mailbox
  at_rest : (d : ℕ) → point_in c d p ≡ sends.Rest
  at_rest d = elim (cases_Bool ((sender_at c p).mailbox == d)) [
    | inl here ↦ rw here rest
    | inr there ↦ rw there refl
  ]

  exchanged : (d : ℕ) → (j : ℕ) → j < length ((q.boxes d).items p) → is_among (Of p j) (q.boxes d).order ≡ true
  exchanged d = elim (cases_lt d (length c.heads)) [
    | inl low ↦ subst (IsAtHand (links_in c q d) (q.boxes d) p) (at_rest d) ((shows.boxes d low).links.senders p).at_hand
    | inr out ↦ λ j low. absurd (let none' : length ((q.boxes d).items p) ≡ 0 = ap (λ (m : Mailbox). length (m.items p)) (shows.no_boxes d out) in omega (arith, none', low))
  ]

  lands : (d : ℕ) → (j : ℕ) → is_in_flight (q.boxes d) (Of p j) ≡ false
  lands d = elim (cases_lt d (length c.heads)) [
    | inl low ↦ subst (IsOwedBySender (links_in c q d) (q.boxes d) p) (at_rest d) ((shows.boxes d low).links.senders p).in_flight
    | inr out ↦ λ j. ap (λ (m : Mailbox). is_in_flight m (Of p j)) (shows.no_boxes d out)
  ]

  pub all_sent : (d : ℕ) → sent (q.boxes d) p ≡ (q.boxes d).items p
  all_sent d = sent_whole c.ring (q.boxes d) (holds d) p (exchanged d) (lands d)

  pub count_is : (sender_at c p).count ≡ J
  count_is = (shows.senders p in_table).count ∙ count_all (λ j. is_sent q p (post_at q p j)) J (λ j low.
      let at = post_at q p j in
      and_from (is_among (Of p at.1) (q.boxes at.0).order) (not (is_in_flight (q.boxes at.0) (Of p at.1))) (exchanged at.0 at.1 ((h p).filled j low).0) (not_from_false (is_in_flight (q.boxes at.0) (Of p at.1)) (lands at.0 at.1)))

  -- its next node is free where as many posts were given back as it has gone round
  free_is : (b line : ℕ) (amount : ℤ) → is_free c b p (Post line amount) ≡ (times_given c.ring q p (J % c.ring) == J / c.ring)
  free_is b line amount =
      (λ i. (node_at c (first_node c p + count_is i % c.ring)).turn == count_is i / c.ring)
      ∙ ap (λ (t : ℕ). t == J / c.ring) ((shows.senders p in_table).turns (J % c.ring) (mod-lt J ok.some_nodes))

  module _ (b : ℕ) (low : b < length c.heads) (going : has_ended_in c b p ≡ false) where
    pub not_ended : (k : ℕ) → k < length ((q.boxes b).items p) → is_end (item_at (q.boxes b) p k) ≡ false
    not_ended k within = false_from_ne_true (is_end (item_at (q.boxes b) p k)) (λ ended.
        let long : length (sent (q.boxes b) p) ≡ length ((q.boxes b).items p) = ap (λ (xs : List Item). length xs) (all_sent b) in
        false≢true (sym going ∙ ((shows.boxes b low).ended p in_table).1 (k, omega (arith, within, long), ap (λ xs. is_end (slice_index_or xs k End)) (all_sent b) ∙ ended)))

    pub tells : (line : ℕ) (amount : ℤ) → (is_free c b p (Post line amount) ≡ true → MayFillIn c.ring q b p (Post line amount)) × (MayFillIn c.ring q b p (Post line amount) → is_free c b p (Post line amount) ≡ true)
    tells line amount = (
      λ free. record {
        all_sent = all_sent;
        not_ended = not_ended;
        free = full_tells c.ring ok.some_nodes (λ j. is_given q p (post_at q p j)) J (h p).given_first (eqb-true (times_given c.ring q p (J % c.ring)) (J / c.ring) (sym (free_is b line amount) ∙ free));
      },
      λ may. free_is b line amount ∙ eq-eqb (times_given c.ring q p (J % c.ring)) (J / c.ring) (full_if c.ring ok.some_nodes (λ j. is_given q p (post_at q p j)) J (h p).given_first may.free),
    )

    -- then all that stood in the node is given back
    pub stood_given : (line : ℕ) (amount : ℤ) → MayFillIn c.ring q b p (Post line amount) → (d k : ℕ) → k < length ((q.boxes d).items p) → node_in c q d (Of p k) ≡ node_of c b p (Post line amount) → is_among (Of p k) (q.boxes d).given ≡ true
    stood_given line amount may d k within same = elim (cases_Bool (is_end (item_at (q.boxes d) p k))) [
      | inl ended ↦ absurd (omega (arith, same, place_end c.ring (q.posts p) d (item_at (q.boxes d) p k) k ended, mod-lt (sender_at c p).count ok.some_nodes))
      | inr post ↦
          let found = (h p).numbered d k within post in
          let number : number_in d k (q.posts p) % c.ring ≡ found.0 % c.ring = ap (λ (j : ℕ). j % c.ring) (number_is c.ring q p (h p) d k found.0 found.1 found.2) in
          let place = place_post c.ring (q.posts p) d (item_at (q.boxes d) p k) k post in
          let count : (sender_at c p).count % c.ring ≡ J % c.ring = ap (λ (j : ℕ). j % c.ring) count_is in
          let slot : found.0 % c.ring ≡ J % c.ring = omega (arith, same, number, place, count) in
          let back = round_back c.ring ok.some_nodes found.0 J found.1 slot in
          let given : is_given q p (post_at q p found.0) ≡ true = elim (cases_lt (found.0 + c.ring) J) [
            | inl less ↦ (h p).given_first found.0 less
            | inr past ↦ may.free found.0 (omega (arith, past, back))
          ] in
          subst (λ at. is_given q p at ≡ true) found.2 given
    ]

pub free_tells : PoolLoadTurnTells
free_tells events q c b p line amount ok leads shows low in_table rest going =
    let h = posts_after c.ring ok.some_nodes events q leads in
    let holds : (d : ℕ) → Holds c.ring (q.boxes d) = λ d. holds_after c.ring (events_in d events) (q.boxes d) (box_leads c.ring ok.some_nodes events q leads d) in
    let told = tells c ok q h holds shows p in_table rest b low going line amount in
    (told, λ free. stood_given c ok q h holds shows p in_table rest b low going line amount (told.0 free))
