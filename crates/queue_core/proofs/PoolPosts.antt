-- The posts of a sender over all mailboxes of a pool, and that each mailbox of a pool keeps its own rule.
use Rattle.std.proofs.Common.{◌≡◌, ◌∙◌, ◌≤◌, ◌<◌, ◌+◌, ◌-◌, ◌*◌, ◌/◌, ◌%◌, ◌++◌, ◌∷◌, [], ℕ, ℤ, Bool, true, false, List, zero, suc, length, map, ap, sym, refl, subst, inl, inr, arith, mod-lt, mul-le-mul_right}
use Rattle.std.specs.Prelude.{◌==◌, slice_index_or}
use Rattle.std.specs.List.{filter}
use Rattle.std.proofs.lemmas.Bool.{cases_eq, cases_lt, eq-eqb, false≢true, ne_eqb}
use Rattle.std.proofs.lemmas.List.{append-nil, get_or_append_left, get_or_push, length_push, map-append}
use Rattle.std.proofs.lemmas.List.Elements.{filter-append}
use Rattle.std.proofs.lemmas.Nat.{div-add-mod'}
use Rattle.queue_core.specs.declared.entry.Entry.TheVariants.{Of}
use Rattle.queue_core.specs.declared.item.Item.{Item}
use Rattle.queue_core.specs.declared.item.Item.TheVariants.{Post, End}
use Rattle.queue_core.specs.Items.{is_end}
use Rattle.queue_core.specs.Mailbox.{Mailbox, is_among, item_at}
use Rattle.queue_core.specs.Events.{Event, Leads, May, MayFill, after, slot_at, slot_of}
use Rattle.queue_core.specs.Events.Event.{Fill, Exchange, Link, Pass, GiveBack, StubIn, StubLink}
use Rattle.queue_core.specs.Events.Leads.{none as leads_none, more as leads_more}
use Rattle.queue_core.specs.Pool.{EachMailboxLeads, IsFreeFor, MayFillIn, MayIn, Pool, PoolHeldAlone, PoolLeads, after_in, events_in, is_given, post_at}
use Rattle.queue_core.specs.Pool.PoolLeads.{none, more}
use Rattle.queue_core.proofs.Entries.{among_more}
use Rattle.queue_core.proofs.Generations.{earlier_round}
use Rattle.queue_core.proofs.ReceivedLemmas.{received_in_order}

-- What holds of a sender's posts: in one mailbox the later has the greater place, they are the posts that it filled, and one that is more than a round behind the last is given back.
pub record PostsHold (ring : ℕ) (q : Pool) (p : ℕ) : Type 0 where
  pub rising : (i j : ℕ) → i < j → j < length (q.posts p) → (post_at q p i).0 ≡ (post_at q p j).0 → (post_at q p i).1 < (post_at q p j).1
  pub filled : (j : ℕ) → j < length (q.posts p) → ((post_at q p j).1 < length ((q.boxes (post_at q p j).0).items p)) × (is_end (item_at (q.boxes (post_at q p j).0) p (post_at q p j).1) ≡ false)
  pub numbered : (b k : ℕ) → k < length ((q.boxes b).items p) → is_end (item_at (q.boxes b) p k) ≡ false → (j : ℕ) × (j < length (q.posts p)) × (post_at q p j ≡ (b, k))
  pub given_first : (j : ℕ) → j + ring < length (q.posts p) → is_given q p (post_at q p j) ≡ true

-- ---- the mailboxes after an event

module _ (q : Pool) (b : ℕ) (event : Event) where
  pub box_own : (after_in b event q).boxes b ≡ after event (q.boxes b)
  box_own = rw (eq-eqb b b refl) refl

  pub box_other : (c : ℕ) → ¬ (c ≡ b) → (after_in b event q).boxes c ≡ q.boxes c
  box_other c other = rw (ne_eqb c b other) refl

  -- what holds of the one in which it happens, and of the others as they were
  pub each_box : (P : ℕ → Mailbox → Type 0) → P b (after event (q.boxes b)) → ((c : ℕ) → P c (q.boxes c)) → (c : ℕ) → P c ((after_in b event q).boxes c)
  each_box P own others c = elim (cases_eq c b) [
    | inl same ↦ subst (λ c. P c ((after_in b event q).boxes c)) (sym same) (subst (P b) (sym box_own) own)
    | inr other ↦ subst (P c) (sym (box_other c other)) (others c)
  ]

-- what an event does not change in its mailbox, it changes in none
pub same_field : {X : Type 0} (f : Mailbox → X) (q : Pool) (b : ℕ) (event : Event) → f (after event (q.boxes b)) ≡ f (q.boxes b) → (d : ℕ) → f ((after_in b event q).boxes d) ≡ f (q.boxes d)
same_field f q b event same d = elim (cases_eq d b) [
  | inl here ↦ subst (λ (d : ℕ). f ((after_in b event q).boxes d) ≡ f (q.boxes d)) (sym here) (ap f (box_own q b event) ∙ same)
  | inr there ↦ ap f (box_other q b event d there)
]

-- ---- where a sender fills no post

-- Its items stay, at most an end mark comes, and what was given back stays so.
pub record Stays (m n : Mailbox) (p : ℕ) : Type 0 where
  pub old : (k : ℕ) → k < length (m.items p) → (k < length (n.items p)) × (item_at n p k ≡ item_at m p k)
  pub posts : (k : ℕ) → k < length (n.items p) → is_end (item_at n p k) ≡ false → k < length (m.items p)
  pub given : (k : ℕ) → is_among (Of p k) m.given ≡ true → is_among (Of p k) n.given ≡ true

pub stays_same : (m n : Mailbox) (p : ℕ) → n.items p ≡ m.items p → ((k : ℕ) → is_among (Of p k) m.given ≡ true → is_among (Of p k) n.given ≡ true) → Stays m n p
stays_same m n p same given = record {
  old = λ k low. (subst (λ (xs : List Item). k < length xs) (sym same) low, ap (λ xs. slice_index_or xs k End) same);
  posts = λ k low post. subst (λ (xs : List Item). k < length xs) same low;
  given = given;
}

-- the items of a sender that fills one
module _ (m : Mailbox) (p : ℕ) (item : Item) where
  pub fills : (after (Fill p item) m).items p ≡ m.items p ++ item ∷ []
  fills = rw (eq-eqb p p refl) refl

  pub fills_other : (s : ℕ) → ¬ (s ≡ p) → (after (Fill p item) m).items s ≡ m.items s
  fills_other s other = rw (ne_eqb s p other) refl

  pub fills_long : length ((after (Fill p item) m).items p) ≡ length (m.items p) + 1
  fills_long = ap (λ (xs : List Item). length xs) fills ∙ length_push (m.items p) item

  pub fills_old : (k : ℕ) → k < length (m.items p) → item_at (after (Fill p item) m) p k ≡ item_at m p k
  fills_old k low = ap (λ xs. slice_index_or xs k End) fills ∙ get_or_append_left (m.items p) (item ∷ []) End k low

  pub fills_new : (k : ℕ) → length (m.items p) ≡ k → item_at (after (Fill p item) m) p k ≡ item
  fills_new k is = ap (λ xs. slice_index_or xs k End) fills ∙ get_or_push (m.items p) item End k is

stays_end : (m : Mailbox) (p : ℕ) → Stays m (after (Fill p End) m) p
stays_end m p = record {
  old = λ k low. (omega (arith, low, fills_long m p End), fills_old m p End k low);
  posts = λ k low post. elim (cases_lt k (length (m.items p))) [
    | inl before ↦ before
    | inr past ↦ absurd (false≢true (sym post ∙ ap is_end (fills_new m p End k (omega (arith, past, low, fills_long m p End)))))
  ];
  given = λ k given. given;
}

-- whether an event fills a post of a sender
abbrev pub fills_post : ℕ → Event → Bool
fills_post s (Fill p (Post line amount)) = s == p
fills_post s (Fill p End) = false
fills_post s (Exchange p) = false
fills_post s (Link p) = false
fills_post s Pass = false
fills_post s (GiveBack p k) = false
fills_post s StubIn = false
fills_post s StubLink = false

stays_after : (m : Mailbox) (s : ℕ) (event : Event) → fills_post s event ≡ false → Stays m (after event m) s
stays_after m s (Fill p (Post line amount)) idle = stays_same m (after (Fill p (Post line amount)) m) s (rw idle refl) (λ k given. given)
stays_after m s (Fill p End) idle = elim (cases_eq s p) [
  | inl same ↦ subst (λ s. Stays m (after (Fill p End) m) s) (sym same) (stays_end m p)
  | inr other ↦ stays_same m (after (Fill p End) m) s (fills_other m p End s other) (λ k given. given)
]
stays_after m s (Exchange p) idle = stays_same m (after (Exchange p) m) s refl (λ k given. given)
stays_after m s (Link p) idle = stays_same m (after (Link p) m) s refl (λ k given. given)
stays_after m s Pass idle = stays_same m (after Pass m) s refl (λ k given. given)
stays_after m s (GiveBack p j) idle = stays_same m (after (GiveBack p j) m) s refl (λ k given. among_more (Of s k) m.given (Of p j ∷ []) given)
stays_after m s StubIn idle = stays_same m (after StubIn m) s refl (λ k given. given)
stays_after m s StubLink idle = stays_same m (after StubLink m) s refl (λ k given. given)

-- so its posts hold
posts_stay : (ring : ℕ) (q n : Pool) (s : ℕ) → n.posts s ≡ q.posts s → ((c : ℕ) → Stays (q.boxes c) (n.boxes c) s) → PostsHold ring q s → PostsHold ring n s
posts_stay ring q n s same stays h =
    let long : length (n.posts s) ≡ length (q.posts s) = ap (λ (xs : List (ℕ × ℕ)). length xs) same in
    let at : (j : ℕ) → post_at n s j ≡ post_at q s j = λ j. ap (λ xs. slice_index_or xs j (0, 0)) same in
    record {
      rising = λ i j before within box. rw (at i, at j) (h.rising i j before (omega (arith, within, long)) (rw (at i, at j) at box));
      filled = λ j within.
          let was = h.filled j (omega (arith, within, long)) in
          let now = (stays (post_at q s j).0).old (post_at q s j).1 was.0 in
          rw (at j) (now.0, ap is_end now.1 ∙ was.1);
      numbered = λ c k low post.
          let before = (stays c).posts k low post in
          let item = (stays c).old k before in
          let found = h.numbered c k before (ap is_end (sym item.1) ∙ post) in
          (found.0, omega (arith, found.1, long), at found.0 ∙ found.2);
      given_first = λ j within. rw (at j) ((stays (post_at q s j).0).given (post_at q s j).1 (h.given_first j (omega (arith, within, long))));
    }

-- ---- where it fills a post

module _ (ring : ℕ) (some : 0 < ring) (q : Pool) (b p line : ℕ) (amount : ℤ) (may : MayFillIn ring q b p (Post line amount)) (h : PostsHold ring q p) where
  abbrev item : Item
  item = Post line amount

  abbrev m : Mailbox
  m = q.boxes b

  abbrev q' : Pool
  q' = after_in b (Fill p item) q

  posts_are : q'.posts p ≡ q.posts p ++ (b, length (m.items p)) ∷ []
  posts_are = rw (eq-eqb p p refl) refl

  pub long : length (q'.posts p) ≡ length (q.posts p) + 1
  long = ap (λ (xs : List (ℕ × ℕ)). length xs) posts_are ∙ length_push (q.posts p) (b, length (m.items p))

  pub at_old : (j : ℕ) → j < length (q.posts p) → post_at q' p j ≡ post_at q p j
  at_old j low = ap (λ xs. slice_index_or xs j (0, 0)) posts_are ∙ get_or_append_left (q.posts p) ((b, length (m.items p)) ∷ []) (0, 0) j low

  pub at_new : (j : ℕ) → length (q.posts p) ≡ j → post_at q' p j ≡ (b, length (m.items p))
  at_new j is = ap (λ xs. slice_index_or xs j (0, 0)) posts_are ∙ get_or_push (q.posts p) (b, length (m.items p)) (0, 0) j is

  -- its items in each mailbox: those that were there, and the new one
  items_stay : (c k : ℕ) → k < length ((q.boxes c).items p) → (k < length ((q'.boxes c).items p)) × (item_at (q'.boxes c) p k ≡ item_at (q.boxes c) p k)
  items_stay = each_box q b (Fill p item) (λ c n. (k : ℕ) → k < length ((q.boxes c).items p) → (k < length (n.items p)) × (item_at n p k ≡ item_at (q.boxes c) p k))
      (λ k low. (omega (arith, low, fills_long m p item), fills_old m p item k low)) (λ c k low. (low, refl))

  items_new : (c k : ℕ) → k < length ((q'.boxes c).items p) → (¬ (k < length ((q.boxes c).items p))) → (c ≡ b) × (k ≡ length (m.items p))
  items_new = each_box q b (Fill p item) (λ c n. (k : ℕ) → k < length (n.items p) → (¬ (k < length ((q.boxes c).items p))) → (c ≡ b) × (k ≡ length (m.items p)))
      (λ k low new. (refl, elim (cases_lt k (length (m.items p))) [ inl old ↦ absurd (new old) | inr past ↦ omega (arith, low, past, fills_long m p item) ])) (λ c k low new. absurd (new low))

  given_stays : (c k : ℕ) → is_among (Of p k) (q.boxes c).given ≡ true → is_among (Of p k) (q'.boxes c).given ≡ true
  given_stays = each_box q b (Fill p item) (λ c n. (k : ℕ) → is_among (Of p k) (q.boxes c).given ≡ true → is_among (Of p k) n.given ≡ true) (λ k given. given) (λ c k given. given)

  pub posts_fill : PostsHold ring q' p
  posts_fill = record {
    rising = λ i j before within same. elim (cases_lt j (length (q.posts p))) [
      | inl old ↦
          let ei = at_old i (omega (arith, before, old)) in
          let ej = at_old j old in
          rw (ei, ej) (h.rising i j before old (rw (ei, ej) at same))
      | inr past ↦
          let last : length (q.posts p) ≡ j = omega (arith, past, within, long) in
          let ei = at_old i (omega (arith, before, last)) in
          let ej = at_new j last in
          let box : (post_at q p i).0 ≡ b = rw (ei, ej) at same in
          let was = (h.filled i (omega (arith, before, last))).0 in
          rw (ei, ej) (subst (λ c. (post_at q p i).1 < length ((q.boxes c).items p)) box was)
    ];
    filled = λ j within. elim (cases_lt j (length (q.posts p))) [
      | inl old ↦
          let was = h.filled j old in
          let now = items_stay (post_at q p j).0 (post_at q p j).1 was.0 in
          rw (at_old j old) (now.0, ap is_end now.1 ∙ was.1)
      | inr past ↦
          let last : length (q.posts p) ≡ j = omega (arith, past, within, long) in
          rw (at_new j last) (
          subst (λ n. (length (m.items p) < length (n.items p)) × (is_end (item_at n p (length (m.items p))) ≡ false)) (sym (box_own q b (Fill p item)))
          (omega (arith, fills_long m p item), ap is_end (fills_new m p item (length (m.items p)) refl)))
    ];
    numbered = λ c k low post. elim (cases_lt k (length ((q.boxes c).items p))) [
      | inl old ↦
          let found = h.numbered c k old (ap is_end (sym (items_stay c k old).1) ∙ post) in
          (found.0, omega (arith, found.1, long), at_old found.0 found.1 ∙ found.2)
      | inr past ↦
          let new = items_new c k low (λ old. omega (arith, old, past)) in
          (length (q.posts p), omega (arith, long), at_new (length (q.posts p)) refl ∙ (λ i. (sym new.0 i, sym new.1 i)))
    ];
    given_first = λ j within.
        let low : j < length (q.posts p) = elim (cases_lt j (length (q.posts p))) [ inl old ↦ old | inr past ↦ omega (arith, past, within, long, some) ] in
        let was : is_given q p (post_at q p j) ≡ true = elim (cases_lt (j + ring) (length (q.posts p))) [
          | inl old ↦ h.given_first j old
          | inr past ↦ may.free j (omega (arith, past, within, long))
        ] in
        rw (at_old j low) (given_stays (post_at q p j).0 (post_at q p j).1 was);
  }

-- ---- after every list of pairs

pub posts_other : (q : Pool) (b s : ℕ) (event : Event) → fills_post s event ≡ false → (after_in b event q).posts s ≡ q.posts s
posts_other q b s (Fill p (Post line amount)) idle = rw idle refl
posts_other q b s (Fill p End) idle = refl
posts_other q b s (Exchange p) idle = refl
posts_other q b s (Link p) idle = refl
posts_other q b s Pass idle = refl
posts_other q b s (GiveBack p k) idle = refl
posts_other q b s StubIn idle = refl
posts_other q b s StubLink idle = refl

stays_none : (m : Mailbox) (s : ℕ) → Stays m m s
stays_none m s = stays_same m m s refl (λ k given. given)

posts_else : (ring : ℕ) (q : Pool) (b s : ℕ) (event : Event) → fills_post s event ≡ false → PostsHold ring q s → PostsHold ring (after_in b event q) s
posts_else ring q b s event idle =
    posts_stay ring q (after_in b event q) s (posts_other q b s event idle)
    (each_box q b event (λ c n. Stays (q.boxes c) n s) (stays_after (q.boxes b) s event idle) (λ c. stays_none (q.boxes c) s))

pub posts_event : (ring : ℕ) → 0 < ring → (q : Pool) (b s : ℕ) (event : Event) → MayIn ring q b event → PostsHold ring q s → PostsHold ring (after_in b event q) s
posts_event ring some q b s (Fill p (Post line amount)) may h = elim (cases_eq s p) [
  | inl same ↦ subst (PostsHold ring (after_in b (Fill p (Post line amount)) q)) (sym same) (posts_fill ring some q b p line amount may (subst (PostsHold ring q) same h))
  | inr other ↦ posts_else ring q b s (Fill p (Post line amount)) (ne_eqb s p other) h
]
posts_event ring some q b s (Fill p End) may h = posts_else ring q b s (Fill p End) refl h
posts_event ring some q b s (Exchange p) may h = posts_else ring q b s (Exchange p) refl h
posts_event ring some q b s (Link p) may h = posts_else ring q b s (Link p) refl h
posts_event ring some q b s Pass may h = posts_else ring q b s Pass refl h
posts_event ring some q b s (GiveBack p k) may h = posts_else ring q b s (GiveBack p k) refl h
posts_event ring some q b s StubIn may h = posts_else ring q b s StubIn refl h
posts_event ring some q b s StubLink may h = posts_else ring q b s StubLink refl h

pub posts_after : (ring : ℕ) → 0 < ring → (events : List (ℕ × Event)) (q : Pool) → PoolLeads ring events q → (s : ℕ) → PostsHold ring q s
posts_after ring some _ _ none s = record {
  rising = λ i j before within. absurd (omega (arith, within));
  filled = λ j within. absurd (omega (arith, within));
  numbered = λ b k within. absurd (omega (arith, within));
  given_first = λ j within. absurd (omega (arith, within));
}
posts_after ring some _ _ (more events q b event leads may) s = posts_event ring some q b s event may (posts_after ring some events q leads s)

-- ---- each mailbox keeps its own rule

module _ (ring : ℕ) (q : Pool) (b p : ℕ) (h : PostsHold ring q p) where
  abbrev count : ℕ
  count = length ((q.boxes b).items p)

  -- a later item of the mailbox has a greater number
  pub in_order : (i j k l : ℕ) → i < length (q.posts p) → j < length (q.posts p) → post_at q p i ≡ (b, k) → post_at q p j ≡ (b, l) → k < l → i < j
  in_order i j k l wi wj ei ej lt = elim (cases_lt i j) [
    | inl before ↦ before
    | inr past ↦ elim (cases_eq i j) [
      | inl same ↦
          let places : k ≡ l = ap (λ at. at.1) (sym ei) ∙ (ap (λ n. (post_at q p n).1) same ∙ ap (λ at. at.1) ej) in
          absurd (omega (arith, places, lt))
      | inr other ↦
          let less : (post_at q p j).1 < (post_at q p i).1 = h.rising j i (omega (arith, past, other)) wi (ap (λ at. at.0) ej ∙ sym (ap (λ at. at.0) ei)) in
          let ek : (post_at q p i).1 ≡ k = ap (λ at. at.1) ei in
          let el : (post_at q p j).1 ≡ l = ap (λ at. at.1) ej in
          absurd (omega (arith, less, ek, el, lt))
    ]
  ]

  module _ (posts : (k : ℕ) → k < count → is_end (item_at (q.boxes b) p k) ≡ false) where
    -- so many items later the number is greater by as many at least
    later : (d i k : ℕ) → i < length (q.posts p) → post_at q p i ≡ (b, k) → k + d < count → (j : ℕ) × (j < length (q.posts p)) × (post_at q p j ≡ (b, k + d)) × (i + d ≤ j)
    later zero i k wi ei low = let here : k ≡ k + 0 = omega arith in (i, wi, ei ∙ (λ i. (b, here i)), omega arith)
    later (suc d) i k wi ei low =
        let before = later d i k wi ei (omega (arith, low)) in
        let next = h.numbered b (k + suc d) low (posts (k + suc d) low) in
        let less : before.0 < next.0 = in_order before.0 next.0 (k + d) (k + suc d) before.1 next.1 before.2 next.2 (omega arith) in
        (next.0, next.1, next.2, omega (arith, less, before.3))

    -- a place a round behind the next is given back, or the round is that of the sender's posts
    behind : (free : (j : ℕ) → j + ring ≡ length (q.posts p) → is_given q p (post_at q p j) ≡ true) → (k : ℕ) → k < count → k + ring ≤ count → is_among (Of p k) (q.boxes b).given ≡ true
    behind free k low far =
        let found = h.numbered b k low (posts k low) in
        let last = later (count - 1 - k) found.0 k found.1 found.2 (omega (arith, low)) in
        let round : found.0 + ring ≤ length (q.posts p) = omega (arith, last.1, last.3, far, low) in
        let given : is_given q p (post_at q p found.0) ≡ true = elim (cases_lt (found.0 + ring) (length (q.posts p))) [
          | inl before ↦ h.given_first found.0 before
          | inr here ↦ free found.0 (omega (arith, round, here))
        ] in
        subst (λ at. is_given q p at ≡ true) found.2 given

-- an earlier place of a slot is a whole round back
pub round_back : (R : ℕ) → 0 < R → (k c : ℕ) → k < c → k % R ≡ c % R → k + R ≤ c
round_back R some k c lt same =
    let less = earlier_round R some k c lt same in
    let m : (k / R + 1) * R ≤ c / R * R = mul-le-mul_right R (omega (arith, less)) in
    let a = div-add-mod' k R in
    let b = div-add-mod' c R in
    omega (arith, m, a, b, same)

-- what a sender may fill in a pool, it may fill in the mailbox by itself
pub fill_alone : (ring : ℕ) → 0 < ring → (q : Pool) (b p : ℕ) (item : Item) → PostsHold ring q p → MayFillIn ring q b p item → MayFill ring (q.boxes b) p item
fill_alone ring some q b p item h may = record { all_sent = may.all_sent b; not_ended = may.not_ended; slot_free = by item may.free }
  where
    posts : (k : ℕ) → k < length ((q.boxes b).items p) → is_end (item_at (q.boxes b) p k) ≡ false
    posts = may.not_ended

    post_slot : (item : Item) (k : ℕ) → is_end item ≡ false → slot_of ring item k ≡ k % ring
    post_slot (Post line amount) k post = refl
    post_slot End k post = absurd (false≢true (sym post))

    slot_is : (k : ℕ) → k < length ((q.boxes b).items p) → slot_at ring (q.boxes b) p k ≡ k % ring
    slot_is k low = post_slot (item_at (q.boxes b) p k) k (posts k low)

    by : (item : Item) → IsFreeFor ring q p item → (k : ℕ) → k < length ((q.boxes b).items p) → slot_at ring (q.boxes b) p k ≡ slot_of ring item (length ((q.boxes b).items p))
        → ((j : ℕ) → k < j → j < length ((q.boxes b).items p) → ¬ (slot_at ring (q.boxes b) p j ≡ slot_at ring (q.boxes b) p k)) → is_among (Of p k) (q.boxes b).given ≡ true
    by (Post line amount) free k low same last = behind ring q b p h posts free k low (round_back ring some k (length ((q.boxes b).items p)) low (sym (slot_is k low) ∙ same))
    by End free k low same last = let under = mod-lt k some in absurd (omega (arith, under, same, slot_is k low))

pub may_alone : (ring : ℕ) → 0 < ring → (q : Pool) (b : ℕ) (event : Event) → ((p : ℕ) → PostsHold ring q p) → MayIn ring q b event → May ring (q.boxes b) event
may_alone ring some q b (Fill p item) h may = fill_alone ring some q b p item (h p) may
may_alone ring some q b (Exchange p) h may = may
may_alone ring some q b (Link p) h may = may
may_alone ring some q b Pass h may = may
may_alone ring some q b (GiveBack p k) h may = may
may_alone ring some q b StubIn h may = may
may_alone ring some q b StubLink h may = may

abbrev second : ℕ × Event → Event
second at = at.1

-- the events of a mailbox, where one more happens
events_more : (b a : ℕ) (event : Event) (events : List (ℕ × Event)) → events_in b (events ++ (a, event) ∷ []) ≡ events_in b events ++ map (λ (at : ℕ × Event). at.1) (filter (λ at. at.0 == b) ((a, event) ∷ []))
events_more b a event events = ap (map second) (filter-append (λ at. at.0 == b) events ((a, event) ∷ [])) ∙ map-append second (filter (λ at. at.0 == b) events) (filter (λ at. at.0 == b) ((a, event) ∷ []))

events_own : (b : ℕ) (event : Event) (events : List (ℕ × Event)) → events_in b (events ++ (b, event) ∷ []) ≡ events_in b events ++ event ∷ []
events_own b event events = events_more b b event events ∙ rw (eq-eqb b b refl) refl

events_other : (b a : ℕ) (event : Event) (events : List (ℕ × Event)) → ¬ (a ≡ b) → events_in b (events ++ (a, event) ∷ []) ≡ events_in b events
events_other b a event events other = events_more b a event events ∙ rw (ne_eqb a b other) (append-nil (events_in b events))

pub box_leads : (ring : ℕ) → 0 < ring → (events : List (ℕ × Event)) (q : Pool) → PoolLeads ring events q → (b : ℕ) → Leads ring (events_in b events) (q.boxes b)
box_leads ring some _ _ none b = leads_none
box_leads ring some _ _ (more events q a event led may) b =
    let was = box_leads ring some events q led in
    elim (cases_eq b a) [
      | inl same ↦
          let own : Leads ring (events_in a events ++ event ∷ []) (after event (q.boxes a)) = leads_more (events_in a events) (q.boxes a) event (was a) (may_alone ring some q a event (posts_after ring some events q led) may) in
          subst (λ b. Leads ring (events_in b (events ++ (a, event) ∷ [])) ((after_in a event q).boxes b)) (sym same)
          (subst (λ es. Leads ring es ((after_in a event q).boxes a)) (sym (events_own a event events)) (subst (Leads ring (events_in a events ++ event ∷ [])) (sym (box_own q a event)) own))
      | inr other ↦
          subst (λ es. Leads ring es ((after_in a event q).boxes b)) (sym (events_other b a event events (λ is. other (sym is))))
          (subst (Leads ring (events_in b events)) (sym (box_other q a event b other)) (was b))
    ]

pub each_mailbox_leads : EachMailboxLeads
each_mailbox_leads ring some events q led b =
    let alone = box_leads ring some events q led b in
    (alone, received_in_order ring some (events_in b events) (q.boxes b) alone)

pub held_alone : PoolHeldAlone
held_alone ring some events q leads b p k held j i is before within same =
    let h = posts_after ring some events q leads p in
    let back = round_back ring some j i before (sym same) in
    let given : is_given q p (post_at q p j) ≡ true = h.given_first j (omega (arith, back, within)) in
    false≢true (sym held.kept ∙ subst (λ at. is_given q p at ≡ true) is given)
