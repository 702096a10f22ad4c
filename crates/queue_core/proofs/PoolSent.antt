-- All posts of a sender but its last are sent, over all mailboxes.
use Rattle.std.proofs.Common.{◌≡◌, ◌∙◌, ◌<◌, ◌+◌, ◌-◌, ◌++◌, ◌∷◌, [], ℕ, ℤ, Bool, true, false, List, length, filter, not, ap, sym, refl, subst, inl, inr, arith}
use Rattle.std.specs.Prelude.{slice_index_or}
use Rattle.std.proofs.lemmas.Bool.{and_from, and_parts, cases_eq, false_from_ne_true, false≢true, ne_eqb, not-true, not_from_false}
use Rattle.queue_core.specs.declared.entry.Entry.{Entry}
use Rattle.queue_core.specs.declared.entry.Entry.TheVariants.{Of, Stub}
use Rattle.queue_core.specs.declared.item.Item.TheVariants.{Post, End}
use Rattle.queue_core.specs.Mailbox.{Mailbox, is_among, is_linked, is_same, sent}
use Rattle.queue_core.specs.Events.{Event, May, after, is_of}
use Rattle.queue_core.specs.Events.Event.{Fill, Exchange, Link, Pass, GiveBack, StubIn, StubLink}
use Rattle.queue_core.specs.Pool.{MayFillIn, MayIn, Pool, PoolLeads, after_in, events_in, post_at}
use Rattle.queue_core.specs.Pool.PoolLeads.{none, more}
use Rattle.queue_core.specs.PoolShows.{is_sent}
use Rattle.queue_core.proofs.Entries.{among_kept, among_more, among_other, turn_among}
use Rattle.queue_core.proofs.EventsKeep.{holds_after}
use Rattle.queue_core.proofs.MailboxHolds.{Holds, all_sent}
use Rattle.queue_core.proofs.PoolPosts.{PostsHold, at_old, long, box_leads, each_box, fills_post, may_alone, posts_after, posts_other}

linked_if : (m : Mailbox) (e : Entry) → is_among e m.order ≡ true → is_among e m.in_flight ≡ false → is_linked m e ≡ true
linked_if m e among lands = and_from (is_among e m.order) (not (is_among e m.in_flight)) among (not_from_false (is_among e m.in_flight) lands)

linked_tells : (m : Mailbox) (e : Entry) → is_linked m e ≡ true → (is_among e m.order ≡ true) × (is_among e m.in_flight ≡ false)
linked_tells m e is = let parts = and_parts (is_among e m.order) (not (is_among e m.in_flight)) is in (parts.0, not-true (is_among e m.in_flight) parts.1)

-- one that is linked stays so where another is exchanged in, or where links land
more_linked : (m : Mailbox) (e f : Entry) → ¬ (e ≡ f) → is_linked m e ≡ true → is_linked (record m { order = m.order ++ f ∷ []; in_flight = m.in_flight ++ f ∷ [] }) e ≡ true
more_linked m e f other is =
    let was = linked_tells m e is in
    linked_if (record m { order = m.order ++ f ∷ []; in_flight = m.in_flight ++ f ∷ [] }) e (among_more e m.order (f ∷ []) was.0) (among_other e f m.in_flight other ∙ was.1)

fewer_fly : (m : Mailbox) (e : Entry) (keep : Entry → Bool) → is_linked m e ≡ true → is_linked (record m { in_flight = filter keep m.in_flight }) e ≡ true
fewer_fly m e keep is =
    let was = linked_tells m e is in
    linked_if (record m { in_flight = filter keep m.in_flight }) e was.0 (false_from_ne_true (is_among e (filter keep m.in_flight)) (λ flies. false≢true (sym was.1 ∙ among_kept keep e m.in_flight flies)))

linked_stays : (ring : ℕ) (m : Mailbox) (event : Event) → May ring m event → (p k : ℕ) → is_linked m (Of p k) ≡ true → is_linked (after event m) (Of p k) ≡ true
linked_stays ring m (Fill s item) may p k is = is
linked_stays ring m (Exchange s) may p k is =
    more_linked m (Of p k) (Of s (length (m.items s) - 1)) (λ same. false≢true (sym may.new ∙ (ap (λ e. is_among e m.order) (sym same) ∙ (linked_tells m (Of p k) is).0))) is
linked_stays ring m (Link s) may p k is = fewer_fly m (Of p k) (λ entry. not (is_of s entry)) is
linked_stays ring m Pass may p k is = is
linked_stays ring m (GiveBack s j) may p k is = is
linked_stays ring m StubIn may p k is = more_linked m (Of p k) Stub (λ same. cc) is
linked_stays ring m StubLink may p k is = fewer_fly m (Of p k) (λ entry. not (is_same Stub entry)) is

-- where all items of a sender are sent, each is linked
pub all_linked : (ring : ℕ) (m : Mailbox) → Holds ring m → (p : ℕ) → sent m p ≡ m.items p → (k : ℕ) → k < length (m.items p) → is_linked m (Of p k) ≡ true
all_linked ring m holds p all k low =
    let whole = all_sent m p (holds.turns p) all in
    linked_if m (Of p k) (turn_among p k m.order (holds.turns p).one_by_one (omega (arith, low, whole.0))) (whole.1 k)

module _ (ring : ℕ) (some : 0 < ring) where
  stay : (q : Pool) (b : ℕ) (event : Event) → May ring (q.boxes b) event → (d p k : ℕ) → is_linked (q.boxes d) (Of p k) ≡ true → is_linked ((after_in b event q).boxes d) (Of p k) ≡ true
  stay q b event may = each_box q b event (λ d n. (p k : ℕ) → is_linked (q.boxes d) (Of p k) ≡ true → is_linked n (Of p k) ≡ true) (linked_stays ring (q.boxes b) event may) (λ d p k is. is)

  pub posts_sent : (events : List (ℕ × Event)) (q : Pool) → PoolLeads ring events q → (p j : ℕ) → j + 1 < length (q.posts p) → is_sent q p (post_at q p j) ≡ true
  posts_sent _ _ none p j low = absurd (omega (arith, low))
  posts_sent _ _ (more events q b event leads may) p j low = by event may (λ i within. posts_sent events q leads p i within) j low
    where
      h : (p : ℕ) → PostsHold ring q p
      h = posts_after ring some events q leads

      other : (event : Event) → MayIn ring q b event → fills_post p event ≡ false → ((j : ℕ) → j + 1 < length (q.posts p) → is_sent q p (post_at q p j) ≡ true) → (j : ℕ) → j + 1 < length ((after_in b event q).posts p) → is_sent (after_in b event q) p (post_at (after_in b event q) p j) ≡ true
      other event may idle was j low =
          let same = posts_other q b p event idle in
          let at : post_at (after_in b event q) p j ≡ post_at q p j = ap (λ xs. slice_index_or xs j (0, 0)) same in
          rw at (stay q b event (may_alone ring some q b event h may) (post_at q p j).0 p (post_at q p j).1 (was j (subst (λ (xs : List (ℕ × ℕ)). j + 1 < length xs) same low)))

      own : (line : ℕ) (amount : ℤ) → MayFillIn ring q b p (Post line amount) → (j : ℕ) → j + 1 < length ((after_in b (Fill p (Post line amount)) q).posts p)
          → is_sent (after_in b (Fill p (Post line amount)) q) p (post_at (after_in b (Fill p (Post line amount)) q) p j) ≡ true
      own line amount may j low =
          let old : j < length (q.posts p) = omega (arith, low, long ring some q b p line amount may (h p)) in
          let at = post_at q p j in
          let holds : Holds ring (q.boxes at.0) = holds_after ring (events_in at.0 events) (q.boxes at.0) (box_leads ring some events q leads at.0) in
          rw (at_old ring some q b p line amount may (h p) j old) (stay q b (Fill p (Post line amount)) (may_alone ring some q b (Fill p (Post line amount)) h may) at.0 p at.1
          (all_linked ring (q.boxes at.0) holds p (may.all_sent at.0) at.1 ((h p).filled j old).0))

      by : (event : Event) → MayIn ring q b event → ((j : ℕ) → j + 1 < length (q.posts p) → is_sent q p (post_at q p j) ≡ true) → (j : ℕ) → j + 1 < length ((after_in b event q).posts p) → is_sent (after_in b event q) p (post_at (after_in b event q) p j) ≡ true
      by (Fill s (Post line amount)) may was = elim (cases_eq p s) [
        | inl same ↦ subst (λ s. MayFillIn ring q b s (Post line amount) → (j : ℕ) → j + 1 < length ((after_in b (Fill s (Post line amount)) q).posts p) → is_sent (after_in b (Fill s (Post line amount)) q) p (post_at (after_in b (Fill s (Post line amount)) q) p j) ≡ true) same (own line amount) may
        | inr apart ↦ other (Fill s (Post line amount)) may (ne_eqb p s apart) was
      ]
      by (Fill s End) may was = other (Fill s End) may refl was
      by (Exchange s) may was = other (Exchange s) may refl was
      by (Link s) may was = other (Link s) may refl was
      by Pass may was = other Pass may refl was
      by (GiveBack s k) may was = other (GiveBack s k) may refl was
      by StubIn may was = other StubIn may refl was
      by StubLink may was = other StubLink may refl was
