-- The node that a sender fills in a call is the one of its last item, which is not sent.
use Rattle.std.proofs.Common.{◌≡◌, ◌∙◌, ◌<◌, ◌+◌, ◌%◌, ℕ, Bool, true, false, List, length, suc, ap, sym, refl, subst, inl, inr, arith}
use Rattle.std.specs.Prelude.{◌==◌, if◌then◌else◌}
use Rattle.std.proofs.lemmas.Bool.{cases_eq, cases_lt, eq-eqb, false≢true, ne_eqb}
use Rattle.std.proofs.lemmas.List.{length-set}
use Rattle.std.proofs.Common.{get_or-set_other, get_or-set_same}
use Rattle.queue_core.specs.declared.entry.Entry.TheVariants.{Of}
use Rattle.queue_core.specs.declared.item.Item.{Item}
use Rattle.queue_core.specs.declared.item.Item.TheVariants.{Post, End}
use Rattle.queue_core.specs.declared.sender.Caller.{Caller}
use Rattle.queue_core.specs.declared.sender.SenderPoint.TheVariants as sends
use Rattle.queue_core.specs.Items.{is_end}
use Rattle.queue_core.specs.Mailbox.{Mailbox, is_linked, item_at}
use Rattle.queue_core.specs.Events.{Event}
use Rattle.queue_core.specs.Links.{last_of}
use Rattle.queue_core.specs.Pool.{Pool, PoolLeads, post_at}
use Rattle.queue_core.specs.Pooled.{IsPooled, Pooled, first_node, node_of, point_in, sender_at, with_sender}
use Rattle.queue_core.specs.PoolShows.{ShowsPool, count_below, is_sent, node_in, number_in}
use Rattle.queue_core.proofs.CountLemmas.{count_all}
use Rattle.queue_core.proofs.PoolNodes.{number_is, place_end, place_post}
use Rattle.queue_core.proofs.PoolPosts.{PostsHold, posts_after}
use Rattle.queue_core.proofs.PoolSent.{posts_sent}

module _ (c : Pooled) (ok : IsPooled c) (events : List (ℕ × Event)) (q : Pool) (leads : PoolLeads c.ring events q) (shows : ShowsPool c q) (b p : ℕ) (sender_low : p < length c.senders) (item : Item) where
  abbrev m : Mailbox
  m = q.boxes b

  abbrev last : ℕ
  last = last_of m p

  module _ (some : 0 < length (m.items p)) (item_is : item_at m p last ≡ item) (unlinked : is_linked m (Of p last) ≡ false) where
    h : (p : ℕ) → PostsHold c.ring q p
    h = posts_after c.ring ok.some_nodes events q leads

    -- all its posts but the one at hand are sent, so that one has the number of those
    count_is : is_end item ≡ false → (sender_at c p).count ≡ number_in b last (q.posts p)
    count_is post =
        let its : is_end (item_at m p last) ≡ false = ap is_end item_is ∙ post in
        let filled : last < length (m.items p) = omega (arith, some) in
        let found = (h p).numbered b last filled its in
        let unsent : is_sent q p (post_at q p found.0) ≡ false = rw found.2 unlinked in
        let is_last : found.0 + 1 ≡ length (q.posts p) = elim (cases_lt (found.0 + 1) (length (q.posts p))) [
          | inl before ↦ absurd (false≢true (sym unsent ∙ posts_sent c.ring ok.some_nodes events q leads p found.0 before))
          | inr past ↦ omega (arith, past, found.1)
        ] in
        let number = number_is c.ring q p (h p) b last found.0 found.1 found.2 in
        let sent : count_below (λ j. is_sent q p (post_at q p j)) (length (q.posts p)) ≡ found.0 =
        ap (count_below (λ j. is_sent q p (post_at q p j))) (sym is_last)
        ∙ counted_last (λ j. is_sent q p (post_at q p j)) found.0 (λ j below. posts_sent c.ring ok.some_nodes events q leads p j (omega (arith, below, is_last))) unsent in
        (shows.senders p sender_low).count ∙ (sent ∙ sym number)
      where
        counted_last : (t : ℕ → Bool) (n : ℕ) → ((j : ℕ) → j < n → t j ≡ true) → t n ≡ false → count_below t (n + 1) ≡ n
        counted_last t n all none' =
            let is : n + 1 ≡ suc n = omega arith in
            ap (count_below t) is ∙ rw none' (omega (arith, count_all t n all))

    pub fresh_node : node_of c b p item ≡ node_in c q b (Of p last)
    fresh_node = by item item_is count_is
      where
        by : (i : Item) → item_at m p last ≡ i → (is_end i ≡ false → (sender_at c p).count ≡ number_in b last (q.posts p)) → node_of c b p i ≡ node_in c q b (Of p last)
        by (Post line amount) is count =
            ap (λ (k : ℕ). first_node c p + k % c.ring) (count refl) ∙ ap (λ (k : ℕ). first_node c p + k) (sym (place_post c.ring (q.posts p) b (item_at m p last) last (ap is_end is)))
        by End is count = ap (λ (k : ℕ). first_node c p + k) (sym (place_end c.ring (q.posts p) b (item_at m p last) last (ap is_end is)))

-- ---- a sender that is in a call in one mailbox goes on there

module _ (c : Pooled) (b p : ℕ) (sender_low : p < length c.senders) (sender : Caller) where
  abbrev n : Pooled
  n = with_sender p sender c

  own_sender : sender_at n p ≡ sender
  own_sender = get_or-set_same c.senders p sender _ sender_low

  other_sender : (s : ℕ) → ¬ (s ≡ p) → sender_at n s ≡ sender_at c s
  other_sender s other = get_or-set_other c.senders p s sender _ other

  -- what is as it was in its record is so in all
  pub each_same : {X : Type 0} (f : Caller → X) → f sender ≡ f (sender_at c p) → (s : ℕ) → f (sender_at n s) ≡ f (sender_at c s)
  each_same f same s = elim (cases_eq s p) [
    | inl is ↦ subst (λ s. f (sender_at n s) ≡ f (sender_at c s)) (sym is) (ap f own_sender ∙ same)
    | inr apart ↦ ap f (other_sender s apart)
  ]

  pub senders_same : length n.senders ≡ length c.senders
  senders_same = length-set c.senders p sender

  module _ (its : sender.mailbox ≡ b) where
    pub point_own : point_in n b p ≡ sender.point
    point_own = rw (own_sender, eq-eqb sender.mailbox b its) refl

    pub point_other : (d s : ℕ) → ¬ (s ≡ p) → point_in n d s ≡ point_in c d s
    point_other d s other = ap (λ (s : Caller). if s.mailbox == d then s.point else sends.Rest) (other_sender s other)

    -- in another mailbox it was at rest, and is
    pub point_else : (sender_at c p).mailbox ≡ b → (d : ℕ) → ¬ (d ≡ b) → (s : ℕ) → point_in n d s ≡ point_in c d s
    point_else was d other s = elim (cases_eq s p) [
      | inl same ↦
          let rests : point_in n d p ≡ sends.Rest = rw (own_sender, ne_eqb sender.mailbox d (λ is. other (sym is ∙ its))) refl in
          let rested : point_in c d p ≡ sends.Rest = rw (ne_eqb (sender_at c p).mailbox d (λ is. other (sym is ∙ was))) refl in
          subst (λ s. point_in n d s ≡ point_in c d s) (sym same) (rests ∙ sym rested)
      | inr apart ↦ point_other d s apart
    ]
