-- GiveBack in a pool: the turn of a node counts what was given back of it, in whichever mailbox.
use Rattle.std.proofs.Common.{◌≡◌, ◌∙◌, ◌≤◌, ◌<◌, ◌+◌, ◌%◌, ℕ, Bool, true, false, List, length, not, ap, sym, refl, subst, inl, inr, arith, mod-lt, get_or-set_other, get_or-set_same, None}
use Rattle.std.proofs.Math.Nat.{mod-eq_of_lt}
use Rattle.std.specs.Prelude.{◌==◌, ◌&&◌, ◌^◌, slice_index_or, slice_set}
use Rattle.std.proofs.lemmas.Bool.{and_from, and_left, and_parts, and_right, cases_Bool, cases_eq, eq-eqb, eqb-true, not_from_false}
use Rattle.queue_core.specs.declared.entry.Entry.TheVariants.{Of}
use Rattle.queue_core.specs.declared.item.Item.{Item}
use Rattle.queue_core.specs.declared.item.Item.TheVariants.{End}
use Rattle.queue_core.specs.declared.words.Node.{Node}
use Rattle.queue_core.specs.Items.{is_end}
use Rattle.queue_core.specs.StoredWords.{empty_node}
use Rattle.queue_core.specs.Mailbox.{IsHeld, Mailbox, is_among, is_linked, item_at}
use Rattle.queue_core.specs.Events.{Event}
use Rattle.queue_core.specs.Events.Event.{GiveBack}
use Rattle.queue_core.specs.Pool.{Pool, PoolLeads, after_in, events_in, is_given, post_at}
use Rattle.queue_core.proofs.EventsKeep.{holds_after}
use Rattle.queue_core.specs.Pooled.{IsPooled, Pooled, first_node, node_at, sender_at, with_holder, with_node}
use Rattle.queue_core.specs.PoolShows.{ShowsPool, ShowsSender, count_below, is_sent, node_in, number_in, place_of, times_end_given, times_given}
use Rattle.queue_core.proofs.CountLemmas.{count_less, count_none, count_one_more, count_same}
use Rattle.queue_core.proofs.Entries.{among_first, among_last, among_other}
use Rattle.queue_core.proofs.Generations.{same_block}
use Rattle.queue_core.proofs.MailboxHolds.{Holds, item_within}
use Rattle.queue_core.proofs.PoolNodes.{before_stubs, no_others, number_is, place_end, place_low, place_post}
use Rattle.queue_core.proofs.PooledKept.{sender_keeps}
use Rattle.queue_core.proofs.PoolPosts.{PostsHold, box_leads, box_other, box_own, posts_after}

-- What was taken is given back: one more turn of its node, and the turns of all nodes and the counts of all senders are those of what is given back and sent then, over all mailboxes.
abbrev pub after_give : Pooled → (node : ℕ) → Pooled
after_give c n = with_holder n None (with_node n (record (node_at c n) { turn = ((node_at c n).turn + 1) % 2 ^ 64 }) c)

abbrev GiveTurns : Type 0
GiveTurns = (events : List (ℕ × Event)) (q : Pool) (c : Pooled) (b p k : ℕ) → IsPooled c → PoolLeads c.ring events q → ShowsPool c q → b < length c.heads → IsHeld (q.boxes b) p k
    → (s : ℕ) → s < length c.senders → ShowsSender (after_give c (node_in c q b (Of p k))) (after_in b (GiveBack p k) q) s

module _ (c : Pooled) (ok : IsPooled c) (q : Pool) (h : (p : ℕ) → PostsHold c.ring q p) (holds : (b : ℕ) → Holds c.ring (q.boxes b)) (shows : ShowsPool c q)
    (few : (p : ℕ) → p < length c.senders → (sender_at c p).count ≤ c.most) (b p k : ℕ) (low : b < length c.heads) (held : IsHeld (q.boxes b) p k) where
  abbrev m : Mailbox
  m = q.boxes b

  abbrev q' : Pool
  q' = after_in b (GiveBack p k) q

  abbrev node : ℕ
  node = node_in c q b (Of p k)

  abbrev turned : Node
  turned = record (node_at c node) { turn = ((node_at c node).turn + 1) % 2 ^ 64 }

  abbrev c' : Pooled
  c' = record (with_node node turned c) { holders = slice_set c.holders node None }

  filled : k < length (m.items p)
  filled = item_within m p ((holds b).turns p) k (among_first (Of p k) m.passed m.order held.passed)

  abbrev place : ℕ
  place = place_of c.ring (q.posts p) b (item_at m p k) k

  node_low : node < length c.nodes
  node_low = let under = before_stubs c ok q h holds (no_others c q shows) b p k low (filled, held.kept) in omega (arith, under, ok.nodes)

  -- ---- what is given back

  given_own : is_among (Of p k) (q'.boxes b).given ≡ true
  given_own = ap (λ (m : Mailbox). is_among (Of p k) m.given) (box_own q b (GiveBack p k)) ∙ among_last (Of p k) m.given

  given_other : (d s j : ℕ) → ¬ ((d ≡ b) × (s ≡ p) × (j ≡ k)) → is_among (Of s j) (q'.boxes d).given ≡ is_among (Of s j) (q.boxes d).given
  given_other d s j other = elim (cases_eq d b) [
    | inl here ↦
        subst (λ (d : ℕ). is_among (Of s j) (q'.boxes d).given ≡ is_among (Of s j) (q.boxes d).given) (sym here)
        (ap (λ (m : Mailbox). is_among (Of s j) m.given) (box_own q b (GiveBack p k)) ∙ among_other (Of s j) (Of p k) m.given (λ same. let x : s ≡ p = cc in let y : j ≡ k = cc in other (here, x, y)))
    | inr there ↦ ap (λ (m : Mailbox). is_among (Of s j) m.given) (box_other q b (GiveBack p k) d there)
  ]

  items_same : (d s : ℕ) → (q'.boxes d).items s ≡ (q.boxes d).items s
  items_same d s = elim (cases_eq d b) [
    | inl here ↦ subst (λ (d : ℕ). (q'.boxes d).items s ≡ (q.boxes d).items s) (sym here) (ap (λ (m : Mailbox). m.items s) (box_own q b (GiveBack p k)))
    | inr there ↦ ap (λ (m : Mailbox). m.items s) (box_other q b (GiveBack p k) d there)
  ]

  -- ---- turns of ring nodes

  -- what was given back is sent
  given_sent : (s j : ℕ) → is_given q s (post_at q s j) ≡ true → is_sent q s (post_at q s j) ≡ true
  given_sent s j given =
      let at = post_at q s j in
      let passed = (holds at.0).reader.given_passed s at.1 given in
      and_from (is_among (Of s at.1) (q.boxes at.0).order) (not (is_among (Of s at.1) (q.boxes at.0).in_flight)) (among_first (Of s at.1) (q.boxes at.0).passed (q.boxes at.0).order passed)
      (not_from_false (is_among (Of s at.1) (q.boxes at.0).in_flight) ((holds at.0).reader.landed s at.1 passed))

  -- so no turn wraps
  times_few : (s i : ℕ) → s < length c.senders → times_given c.ring q s i ≤ c.most
  times_few s i in_range =
      let less = count_less (λ j. (j % c.ring == i) && is_given q s (post_at q s j)) (λ j. is_sent q s (post_at q s j)) (length (q.posts s))
      (λ j within passes. given_sent s j (and_parts (j % c.ring == i) (is_given q s (post_at q s j)) passes).1) in
      omega (arith, less, (shows.senders s in_range).count, few s in_range)

  -- the test of a slot at a number: it changes at the number of the post that is given back alone
  module _ (s i : ℕ) (in_range : s < length c.senders) (i_low : i < c.ring) where
    abbrev was : ℕ → Bool
    was j = (j % c.ring == i) && is_given q s (post_at q s j)

    abbrev now : ℕ → Bool
    now j = (j % c.ring == i) && is_given q' s (post_at q' s j)

    same_at : (j : ℕ) → ¬ (((post_at q s j).0 ≡ b) × (s ≡ p) × ((post_at q s j).1 ≡ k)) → now j ≡ was j
    same_at j other = λ t. (j % c.ring == i) && given_other (post_at q s j).0 s (post_at q s j).1 other t

    at_node : first_node c s + i ≡ node → (s ≡ p) × (i ≡ place)
    at_node same =
        let block = same_block (c.ring + length c.heads) s p i place (omega (arith, i_low)) (place_low c ok q h holds b low (q.posts p) (item_at m p k) k) same in
        (block, let at : first_node c s ≡ first_node c p = ap (first_node c) block in omega (arith, same, at))

    -- another node counts what it counted
    slot_other : ¬ (first_node c s + i ≡ node) → times_given c.ring q' s i ≡ times_given c.ring q s i
    slot_other other = count_same now was (length (q.posts s)) (λ j within. elim (cases_Bool (j % c.ring == i)) [
      | inl here ↦ same_at j (λ hit.
          let at : post_at q p j ≡ (b, k) = let e : post_at q s j ≡ (b, k) = (λ t. (hit.0 t, hit.2 t)) in subst (λ s. post_at q s j ≡ (b, k)) hit.1 e in
          let within_p : j < length (q.posts p) = subst (λ s. j < length (q.posts s)) hit.1 within in
          let post : is_end (item_at m p k) ≡ false = subst (λ (a : ℕ × ℕ). is_end (item_at (q.boxes a.0) p a.1) ≡ false) at ((h p).filled j within_p).1 in
          let is : place ≡ j % c.ring = place_post c.ring (q.posts p) b (item_at m p k) k post ∙ ap (λ (n : ℕ). n % c.ring) (number_is c.ring q p (h p) b k j within_p at) in
          let first : first_node c s ≡ first_node c p = ap (first_node c) hit.1 in
          other (omega (arith, first, is, eqb-true (j % c.ring) i here)))
      | inr there ↦ rw there refl
    ])

    -- its own counts one more
    slot_own : first_node c s + i ≡ node → times_given c.ring q' s i ≡ times_given c.ring q s i + 1
    slot_own same =
        let parts = at_node same in
        elim (cases_Bool (is_end (item_at m p k))) [
          | inl ended ↦ absurd (let e = place_end c.ring (q.posts p) b (item_at m p k) k ended in omega (arith, e, parts.1, i_low))
          | inr post ↦
              let found = (h p).numbered b k filled post in
              let is : place ≡ found.0 % c.ring = place_post c.ring (q.posts p) b (item_at m p k) k post ∙ ap (λ (n : ℕ). n % c.ring) (number_is c.ring q p (h p) b k found.0 found.1 found.2) in
              let here : found.0 % c.ring == i ≡ true = eq-eqb (found.0 % c.ring) i (omega (arith, is, parts.1)) in
              let within : found.0 < length (q.posts s) = subst (λ s. found.0 < length (q.posts s)) (sym parts.0) found.1 in
              let at : post_at q s found.0 ≡ (b, k) = subst (λ s. post_at q s found.0 ≡ (b, k)) (sym parts.0) found.2 in
              let none' : is_given q s (post_at q s found.0) ≡ false = rw at (ap (λ s. is_among (Of s k) m.given) parts.0 ∙ held.kept) in
              let given : is_given q' s (post_at q s found.0) ≡ true = rw at (ap (λ s. is_among (Of s k) (q'.boxes b).given) parts.0 ∙ given_own) in
              count_one_more was now found.0 (length (q.posts s)) within (and_right (found.0 % c.ring == i) (is_given q s (post_at q s found.0)) none')
              (and_from (found.0 % c.ring == i) (is_given q' s (post_at q s found.0)) here given)
              (λ j below other. same_at j (λ hit. other (
              let e : post_at q s j ≡ (b, k) = (λ t. (hit.0 t, hit.2 t)) in
              let one = number_is c.ring q s (h s) b k j below e in
              let two = number_is c.ring q s (h s) b k found.0 within at in
              sym one ∙ two)))
        ]

    slot_turn : (node_at c' (first_node c s + i)).turn ≡ times_given c.ring q' s i
    slot_turn = elim (cases_eq (first_node c s + i) node) [
      | inl same ↦
          let told : (node_at c node).turn ≡ times_given c.ring q s i = ap (λ (n : ℕ). (node_at c n).turn) (sym same) ∙ (shows.senders s in_range).turns i i_low in
          let small : (node_at c node).turn + 1 < 2 ^ 64 = omega (arith, told, times_few s i in_range) in
          ap (λ (n : ℕ). (node_at c' n).turn) same ∙ (ap (λ (z : Node). z.turn) (get_or-set_same c.nodes node turned empty_node node_low)
          ∙ (mod-eq_of_lt small ∙ (ap (λ (n : ℕ). n + 1) told ∙ sym (slot_own same))))
      | inr other ↦
          ap (λ (z : Node). z.turn) (get_or-set_other c.nodes node (first_node c s + i) turned empty_node other)
          ∙ ((shows.senders s in_range).turns i i_low ∙ sym (slot_other other))
    ]

  -- ---- turns of the nodes of end marks

  module _ (s d : ℕ) (in_range : s < length c.senders) (d_low : d < length c.heads) where
    abbrev end_was : ℕ → Bool
    end_was j = is_end (item_at (q.boxes d) s j) && is_among (Of s j) (q.boxes d).given

    abbrev end_now : ℕ → Bool
    end_now j = is_end (item_at (q'.boxes d) s j) && is_among (Of s j) (q'.boxes d).given

    end_count : times_end_given q' d s ≡ count_below end_now (length ((q.boxes d).items s))
    end_count = ap (λ (xs : List Item). count_below end_now (length xs)) (items_same d s)

    end_same_at : (j : ℕ) → ¬ ((d ≡ b) × (s ≡ p) × (j ≡ k)) → end_now j ≡ end_was j
    end_same_at j other = λ t. is_end (slice_index_or (items_same d s t) j End) && given_other d s j other t

    end_at_node : first_node c s + (c.ring + d) ≡ node → (s ≡ p) × (c.ring + d ≡ place)
    end_at_node same =
        let block = same_block (c.ring + length c.heads) s p (c.ring + d) place (omega (arith, d_low)) (place_low c ok q h holds b low (q.posts p) (item_at m p k) k) same in
        (block, let at : first_node c s ≡ first_node c p = ap (first_node c) block in omega (arith, same, at))

    end_other : ¬ (first_node c s + (c.ring + d) ≡ node) → times_end_given q' d s ≡ times_end_given q d s
    end_other other = end_count ∙ count_same end_now end_was (length ((q.boxes d).items s)) (λ j within. elim (cases_Bool (is_end (item_at (q.boxes d) s j))) [
      | inl ended ↦ end_same_at j (λ hit. other (
          let its : is_end (item_at m p k) ≡ true = subst (λ d. is_end (item_at (q.boxes d) p k) ≡ true) hit.0 (subst (λ s. is_end (item_at (q.boxes d) s k) ≡ true) hit.1 (subst (λ j. is_end (item_at (q.boxes d) s j) ≡ true) hit.2 ended)) in
          let is = place_end c.ring (q.posts p) b (item_at m p k) k its in
          let first : first_node c s ≡ first_node c p = ap (first_node c) hit.1 in
          let box : d ≡ b = hit.0 in
          omega (arith, first, is, box)))
      | inr post ↦ rw (ap (λ xs. is_end (slice_index_or xs j End)) (items_same d s) ∙ post, post) refl
    ])

    end_turn : (node_at c' (first_node c s + (c.ring + d))).turn ≡ times_end_given q' d s
    end_turn = elim (cases_eq (first_node c s + (c.ring + d)) node) [
      | inr other ↦
          ap (λ (z : Node). z.turn) (get_or-set_other c.nodes node (first_node c s + (c.ring + d)) turned empty_node other)
          ∙ ((shows.senders s in_range).end_turns d d_low ∙ sym (end_other other))
      | inl same ↦ own same (end_at_node same)
    ]
      where
        own : first_node c s + (c.ring + d) ≡ node → (s ≡ p) × (c.ring + d ≡ place) → (node_at c' (first_node c s + (c.ring + d))).turn ≡ times_end_given q' d s
        own same parts = elim (cases_Bool (is_end (item_at m p k))) [
          | inr post ↦ absurd (
              let e = place_post c.ring (q.posts p) b (item_at m p k) k post in
              let under = mod-lt (number_in b k (q.posts p)) ok.some_nodes in omega (arith, e, under, parts.1))
          | inl ended ↦
              let e = place_end c.ring (q.posts p) b (item_at m p k) k ended in
              let box : d ≡ b = omega (arith, e, parts.1) in
              -- nothing of it was given back: the end mark is the one that is held
              let before : times_end_given q d s ≡ 0 = subst (λ d. times_end_given q d s ≡ 0) (sym box) (subst (λ s. times_end_given q b s ≡ 0) (sym parts.0)
              (count_none (λ j. is_end (item_at m p j) && is_among (Of p j) m.given) (length (m.items p)) (λ j within. elim (cases_Bool (is_end (item_at m p j))) [
                | inl also ↦
                    let one = ((holds b).slots p).end_last j within also in
                    let two = ((holds b).slots p).end_last k filled ended in
                    let is : j ≡ k = omega (arith, one, two) in
                    and_right (is_end (item_at m p j)) (is_among (Of p j) m.given) (ap (λ j. is_among (Of p j) m.given) is ∙ held.kept)
                | inr not_it ↦ and_left (is_end (item_at m p j)) (is_among (Of p j) m.given) not_it
              ]))) in
              let told : (node_at c node).turn ≡ 0 = ap (λ (n : ℕ). (node_at c n).turn) (sym same) ∙ ((shows.senders s in_range).end_turns d d_low ∙ before) in
              let few_now : (node_at c node).turn + 1 < 2 ^ 64 = omega (arith, told) in
              let many : k < length ((q.boxes d).items s) = subst (λ d. k < length ((q.boxes d).items s)) (sym box) (subst (λ s. k < length (m.items s)) (sym parts.0) filled) in
              let more : times_end_given q' d s ≡ times_end_given q d s + 1 = end_count ∙ count_one_more end_was end_now k (length ((q.boxes d).items s)) many
              (and_right (is_end (item_at (q.boxes d) s k)) (is_among (Of s k) (q.boxes d).given) (subst (λ d. is_among (Of s k) (q.boxes d).given ≡ false) (sym box) (subst (λ s. is_among (Of s k) m.given ≡ false) (sym parts.0) held.kept)))
              (and_from (is_end (item_at (q'.boxes d) s k)) (is_among (Of s k) (q'.boxes d).given)
              (ap (λ xs. is_end (slice_index_or xs k End)) (items_same d s) ∙ subst (λ d. is_end (item_at (q.boxes d) s k) ≡ true) (sym box) (subst (λ s. is_end (item_at m s k) ≡ true) (sym parts.0) ended))
              (subst (λ d. is_among (Of s k) (q'.boxes d).given ≡ true) (sym box) (subst (λ s. is_among (Of s k) (q'.boxes b).given ≡ true) (sym parts.0) given_own)))
              (λ j below other. end_same_at j (λ hit. other hit.2)) in
              ap (λ (n : ℕ). (node_at c' n).turn) same ∙ (ap (λ (z : Node). z.turn) (get_or-set_same c.nodes node turned empty_node node_low)
              ∙ (mod-eq_of_lt few_now ∙ omega (arith, told, before, more)))
        ]

  -- ---- counts

  sent_same : (s : ℕ) (at : ℕ × ℕ) → is_sent q' s at ≡ is_sent q s at
  sent_same s at = elim (cases_eq at.0 b) [
    | inl here ↦ subst (λ (d : ℕ). is_linked (q'.boxes d) (Of s at.1) ≡ is_linked (q.boxes d) (Of s at.1)) (sym here) (ap (λ (m : Mailbox). is_linked m (Of s at.1)) (box_own q b (GiveBack p k)))
    | inr there ↦ ap (λ (m : Mailbox). is_linked m (Of s at.1)) (box_other q b (GiveBack p k) at.0 there)
  ]

  pub sender_gives : (s : ℕ) → s < length c.senders → ShowsSender c' q' s
  sender_gives s in_range = record {
    count = (shows.senders s in_range).count ∙ count_same (λ j. is_sent q s (post_at q s j)) (λ j. is_sent q' s (post_at q s j)) (length (q.posts s)) (λ j within. sym (sent_same s (post_at q s j)));
    turns = λ i i_low. slot_turn s i in_range i_low;
    end_turns = λ d d_low. end_turn s d in_range d_low;
  }

pub give_turns : GiveTurns
give_turns events q c b p k ok leads shows low held =
    sender_gives c ok q (posts_after c.ring ok.some_nodes events q leads) (λ b. holds_after c.ring (events_in b events) (q.boxes b) (box_leads c.ring ok.some_nodes events q leads b)) shows
    (λ s in_range. (sender_keeps c ok s).1) b p k low held
