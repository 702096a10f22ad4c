-- A pool of mailboxes is seen as the mailboxes of a run.
use Rattle.std.proofs.Common.{ℤ, arith, ◌≡◌, ◌∙◌, ◌<◌, ◌≤◌, ◌+◌, ◌++◌, ◌∷◌, [], ℕ, Bool, true, false, true≢false, List, None, Option, Some, append-nil, append_assoc, cond, get_or, length, map, set, ap, sym, refl, subst, ⊎_elim}
use Rattle.std.specs.Prelude.{◌==◌, option_map}
use Rattle.std.specs.List.{HoldsAt, range_with_len}
use Rattle.std.proofs.lemmas.Bool.{cases_lt}
use Rattle.std.proofs.lemmas.Bool.Decides.{eqb_tells}
use Rattle.std.proofs.lemmas.List.{get_or-map, get_or_at, get_or_past, length-append, length-map, map_push}
use mathlib.Core.List.{map-map}
use Rattle.std.proofs.lemmas.List.FromFn.{fill_by_all, get_or-map-range_with_len, length-map-range_with_len, map-range_with_len_more}
use Rattle.queue_core.specs.declared.item.Item.{Item}
use Rattle.queue_core.specs.declared.item.Item.TheVariants.{End, Post}
use Rattle.queue_core.specs.declared.item.Posted.{Posted}
use Rattle.queue_core.specs.declared.item.Posted.TheVariants.{Full, Sent}
use Rattle.queue_core.specs.Items.{IsFirstOf}
use Rattle.queue_core.specs.Matches.{MatchPosted}
use Rattle.mail_box.specs.Mails.{Begins as MailBegins, ReceiverView, SenderView, opened_receiver as opened_inbox, with_end as with_end_at, with_sender as with_sender_at}
use Rattle.pool_box.specs.Pools.{Begins, HasEndedEverywhere, ReceiverView as PoolReceiverView, SenderView as PoolSenderView, TallyView, opened_receiver, opened_sender, opened_tally, with_end, with_post, with_receiver, with_sender}
use Rattle.split_run.specs.PoolSeen.{belongs_to, gathered_in, inbox_by, inbox_of, known_at, sender_at, senders_at, senders_of}
use Rattle.split_run.specs.Reading.{inboxes_by}
use Rattle.split_run.specs.Opening.{AreMailboxes, BelongWhateverTheyGet}
use Rattle.split_run.specs.Running.{AllBelong, HaveTakenInEach, MayTakeIn}
use Rattle.split_run.proofs.OpeningLemmas.{some_of}
use Rattle.split_run.specs.Sending.{HasEndedAt, HasSpent, HaveEnded, HaveSent, IsAs, postings_to, with_posts}

-- what was mapped to this is there
there_is : {A B : Type 0} (f : A → B) (o : Option A) (y : B) → option_map f o ≡ Some y → (x : A) × (o ≡ Some x) × (f x ≡ y)
there_is f None y e = absurd (cc)
there_is f (Some x) y e = (x, refl, cc)

there_with : {A B : Type 0} (f : A → B) (P : B → Type 0) (o : Option A) (y : B) → option_map f o ≡ Some y → P y → (x : A) × (o ≡ Some x) × P (f x)
there_with f P None y e p = absurd (cc)
there_with f P (Some x) y e p = (x, refl, let same : y ≡ f x = cc in subst P same p)

cond_map : {A B : Type 0} (f : A → B) (b : Bool) (x : A) (o : Option A) → option_map f (cond b (Some x) o) ≡ cond b (Some (f x)) (option_map f o)
cond_map f true x o = refl
cond_map f false x o = refl

module _ {Name : Type 0} where
  pub at_account : (s : PoolSenderView Name) (account : ℕ) (t : SenderView (Name × ℕ)) → account < length (senders_at s) → get_or (senders_at s) account t ≡ sender_at s account
  at_account s account t lt = get_or-map-range_with_len (sender_at s) 0 s.mailboxes account account t (omega (arith, lt, length-map-range_with_len (sender_at s) 0 s.mailboxes)) (omega arith)

  same_many : (s t : PoolSenderView Name) → s.mailboxes ≡ t.mailboxes → length (senders_at s) ≡ length (senders_at t)
  same_many s t same = length-map-range_with_len (sender_at s) 0 s.mailboxes ∙ same ∙ sym (length-map-range_with_len (sender_at t) 0 t.mailboxes)

  -- a posting to one account
  module _ (s : PoolSenderView Name) (account line : ℕ) (amount : ℤ) where
    sent_there : (other : ℕ) → (with_post s account line amount).sent other ≡ (with_posts (sender_at s other) (postings_to account ((line, amount) ∷ []) other)).sent
    sent_there other =
        let posts : Bool → List Item = λ b. map (λ (posting : ℕ × ℤ). Post posting.0 posting.1) (cond b ((line, amount) ∷ []) []) in
        let more = s.sent account ++ Post line amount ∷ [] in
        ⊎_elim
        (λ e. ap (λ b. cond b more (s.sent other)) e.0 ∙ ap (λ n. s.sent n ++ Post line amount ∷ []) (sym e.1) ∙ ap (λ b. s.sent other ++ posts b) (sym e.0))
        (λ e. ap (λ b. cond b more (s.sent other)) e.0 ∙ sym (append-nil (s.sent other)) ∙ ap (λ b. s.sent other ++ posts b) (sym e.0))
        (eqb_tells other account)

    one_sent : HaveSent true (senders_at s) (senders_at (with_post s account line amount)) (postings_to account ((line, amount) ∷ []))
    one_sent =
        let now = with_post s account line amount in
        let postings = postings_to account ((line, amount) ∷ []) in
        record {
          count = same_many now s refl;
          each = λ other t lt.
              let is : IsAs true (sender_at now other) (with_posts (sender_at s other) (postings other)) =
              record { mailbox = refl; number = refl; nodes = refl; ended = refl; sent = sent_there other; left = λ e. absurd (true≢false e) } in
              let P : SenderView (Name × ℕ) × SenderView (Name × ℕ) → Type 0 = λ y. IsAs true y.0 (with_posts y.1 (postings other)) in
              subst P (λ i. (sym (at_account now other t (omega (arith, lt, same_many now s refl))) i, sym (at_account s other t lt) i)) is;
        }

  spent_one : (s now : PoolSenderView Name) → now.mailboxes ≡ s.mailboxes → s.left ≤ now.left + 1 → HasSpent true (senders_at s) (senders_at now) 1
  spent_one s now same fewer is account t lt =
      let before = ap (λ v. v.left) (at_account s account t lt) in
      let after = ap (λ v. v.left) (at_account now account t (omega (arith, lt, same_many now s same))) in
      omega (arith, before, after, fewer)

  -- an end mark to one account
  end_there : (s : PoolSenderView Name) (account other : ℕ) → sender_at (with_end s account) other ≡ cond (other == account) (with_end_at (sender_at s other)) (sender_at s other)
  end_there s account other =
      let Seen : Bool → List Item → SenderView (Name × ℕ) = λ ended sent. record { mailbox = (s.pool, other); number = s.number; nodes = s.nodes; left = s.left; is_ended = ended; sent = sent } in
      let more = s.sent account ++ End ∷ [] in
      let both = cond {A = SenderView (Name × ℕ)} in
      ⊎_elim
      (λ e.
      ap (λ b. Seen (cond b true (s.is_ended other)) (cond b more (s.sent other))) e.0 ∙ ap (λ n. Seen true (s.sent n ++ End ∷ [])) (sym e.1)
      ∙ ap (λ b. cond b (with_end_at (sender_at s other)) (sender_at s other)) (sym e.0))
      (λ e. ap (λ b. Seen (cond b true (s.is_ended other)) (cond b more (s.sent other))) e.0 ∙ ap (λ b. cond b (with_end_at (sender_at s other)) (sender_at s other)) (sym e.0))
      (eqb_tells other account)

  one_ended : (s : PoolSenderView Name) (account : ℕ) → HasEndedAt account (senders_at s) (senders_at (with_end s account))
  one_ended s account =
      let now = with_end s account in
      record {
        count = same_many now s refl;
        each = λ other t lt.
            at_account now other t (omega (arith, lt, same_many now s refl)) ∙ end_there s account other ∙ ap (λ v. cond (other == account) (with_end_at v) v) (sym (at_account s other t lt));
      }

module _ {Sender Name : Type 0} (view : Sender → PoolSenderView Name) where
  -- a worker that has a sender of an account has one sender for all
  module _ (all : List Sender) (account : ℕ) (x : Sender) (lt : account < length (senders_of view all)) where
    pub is_one : senders_of view all ≡ senders_at (view (get_or all 0 x))
    is_one = go all lt
      where
        go : (all : List Sender) → account < length (senders_of view all) → senders_of view all ≡ senders_at (view (get_or all 0 x))
        go [] lt = absurd (omega (arith, lt))
        go (s ∷ []) lt = refl
        go (s ∷ t ∷ more) lt = absurd (omega (arith, lt))

    pub other_one : (y : Sender) → senders_of view (set all 0 y) ≡ senders_at (view y)
    other_one y = go all lt
      where
        go : (all : List Sender) → account < length (senders_of view all) → senders_of view (set all 0 y) ≡ senders_at (view y)
        go [] lt = absurd (omega (arith, lt))
        go (s ∷ []) lt = refl
        go (s ∷ t ∷ more) lt = absurd (omega (arith, lt))

    pub is_there : (t : SenderView (Name × ℕ)) → get_or (senders_of view all) account t ≡ sender_at (view (get_or all 0 x)) account
    is_there t = ap (λ l. get_or l account t) is_one ∙ at_account (view (get_or all 0 x)) account t (subst (λ l. account < length l) is_one lt)

    pub is_mailbox : account < (view (get_or all 0 x)).mailboxes
    is_mailbox = omega (arith, lt, ap length is_one, length-map-range_with_len (sender_at (view (get_or all 0 x))) 0 (view (get_or all 0 x)).mailboxes)

    -- it has sent a posting, or not
    pub sent_or_not : (line : ℕ) (amount given : ℤ) (y : Sender) (posted : Posted) → given ≡ amount → MatchPosted posted (view y ≡ with_post (view (get_or all 0 x)) account line given) ((view y ≡ view (get_or all 0 x)) × ((view (get_or all 0 x)).nodes ≤ (view (get_or all 0 x)).posted))
        → MatchPosted posted (HaveSent true (senders_of view all) (senders_of view (set all 0 y)) (postings_to account ((line, amount) ∷ []))) (senders_of view (set all 0 y) ≡ senders_of view all) × HasSpent true (senders_of view all) (senders_of view (set all 0 y)) 1
    sent_or_not line amount given y posted same h = go posted h
      where
        Views : Type 0
        Views = List (SenderView (Name × ℕ))

        s : PoolSenderView Name
        s = view (get_or all 0 x)

        now : (v : PoolSenderView Name) → view y ≡ v → senders_of view (set all 0 y) ≡ senders_at v
        now v is = other_one y ∙ ap senders_at is

        go : (posted : Posted) → MatchPosted posted (view y ≡ with_post s account line given) ((view y ≡ s) × (s.nodes ≤ s.posted))
            → MatchPosted posted (HaveSent true (senders_of view all) (senders_of view (set all 0 y)) (postings_to account ((line, amount) ∷ []))) (senders_of view (set all 0 y) ≡ senders_of view all) × HasSpent true (senders_of view all) (senders_of view (set all 0 y)) 1
        go Sent is =
            let P : Views × Views → Type 0 = λ l. HaveSent true l.0 l.1 (postings_to account ((line, amount) ∷ [])) × HasSpent true l.0 l.1 1 in
            subst P (λ i. (sym is_one i, sym (now (with_post s account line amount) (is ∙ ap (with_post s account line) same)) i)) (one_sent s account line amount, spent_one s (with_post s account line amount) refl (omega arith))
        go Full is =
            let P : Views × Views → Type 0 = λ l. HasSpent true l.0 l.1 1 in
            (now s is.0 ∙ sym is_one, subst P (λ i. (sym is_one i, sym (now s is.0) i)) (spent_one s s refl (omega arith)))

    -- it has ended in one mailbox
    pub has_ended : (y : Sender) → view y ≡ with_end (view (get_or all 0 x)) account → HasEndedAt account (senders_of view all) (senders_of view (set all 0 y))
    has_ended y is =
        let P : List (SenderView (Name × ℕ)) × List (SenderView (Name × ℕ)) → Type 0 = λ l. HasEndedAt account l.0 l.1 in
        subst P (λ i. (sym is_one i, sym (other_one y ∙ ap senders_at is) i)) (one_ended (view (get_or all 0 x)) account)

  -- what a worker gives back is one sender
  pub popped_one : (own rest : List Sender) (x : Sender) → 0 < length (senders_of view own) → own ≡ rest ++ x ∷ [] → own ≡ x ∷ []
  popped_one own [] x some is = is
  popped_one own (y ∷ []) x some is = absurd (omega (arith, subst (λ l. 0 < length (senders_of view l)) is some))
  popped_one own (y ∷ z ∷ rest) x some is = absurd (omega (arith, subst (λ l. 0 < length (senders_of view l)) is some))

module _ {Name : Type 0} where
  -- the inbox of an account, where its receiver was gathered
  abbrev inbox_at : TallyView Name → (workers account : ℕ) → (ℕ → List Item) → ReceiverView (Name × ℕ)
  inbox_at t workers account got = record { mailbox = (t.pool, account); senders = workers; got = got; known = known_at t account }

  abbrev seen_at : TallyView Name → (workers account : ℕ) → Option (ReceiverView (Name × ℕ))
  seen_at t workers account = option_map (inbox_at t workers account) (t.got account)

  gathered_at : (t : TallyView Name) (accounts workers account : ℕ) → account < length (gathered_in t accounts workers) → get_or (gathered_in t accounts workers) account None ≡ option_map (inbox_at t workers account) (t.got account)
  gathered_at t accounts workers account lt =
      get_or-map-range_with_len (seen_at t workers) 0 accounts account account None (omega (arith, lt, length-map-range_with_len (seen_at t workers) 0 accounts)) (omega arith)

  module _ (t : TallyView Name) (accounts workers : ℕ) (s : PoolSenderView Name) where
    of_pool : 0 < length (gathered_in t accounts workers) → length (senders_at s) ≡ length (gathered_in t accounts workers) → MayTakeIn (gathered_in t accounts workers) (senders_at s) → s.pool ≡ t.pool
    of_pool some count ends =
        let v = sender_at s 0 in
        let has = ends 0 v some in
        let inbox = there_is (inbox_at t workers 0) (t.got 0) has.0 (sym (gathered_at t accounts workers 0 some) ∙ has.1) in
        ap (λ m. m.0) (sym (ap (λ w. w.mailbox) (at_account s 0 v (omega (arith, some, count)))) ∙ has.2 ∙ sym (ap (λ r. r.mailbox) inbox.2))

    ends_everywhere : length (senders_at s) ≡ length (gathered_in t accounts workers) → MayTakeIn (gathered_in t accounts workers) (senders_at s) → HasEndedEverywhere s
    ends_everywhere count ends account lt =
        let v = sender_at s account in
        let inside : account < length (senders_at s) = omega (arith, lt, length-map-range_with_len (sender_at s) 0 s.mailboxes) in
        sym (ap (λ w. w.is_ended) (at_account s account v inside)) ∙ (ends account v (omega (arith, inside, count))).3

    -- is taken in
    taken_at : (account : ℕ) (got : ℕ → List Item) → inbox_at (with_sender t s) workers account got ≡ with_sender_at (inbox_at t workers account got) (sender_at s account)
    taken_at account got i =
        record { mailbox = (t.pool, account); senders = workers; got = got; known = λ worker. cond_map (λ (sent : ℕ → List Item). sent account) (worker == s.number) s.sent (t.known worker) i }

    begins_at : (account : ℕ) (got : ℕ → List Item) → t.got account ≡ Some got → Begins (with_sender t s) → MailBegins (inbox_at (with_sender t s) workers account got)
    begins_at account got is begins number sent known =
        let all = there_is (λ (sent : ℕ → List Item). sent account) ((with_sender t s).known number) sent known in
        subst (λ l. IsFirstOf (got number) l) all.2 (begins account number got all.0 is all.1)

    taken_in : length (senders_at s) ≡ length (gathered_in t accounts workers) → Begins (with_sender t s)
        → HaveTakenInEach (gathered_in t accounts workers) (senders_at s) (gathered_in (with_sender t s) accounts workers)
    taken_in count begins account v inbox lt is =
        let now = with_sender t s in
        let had = there_is (inbox_at t workers account) (t.got account) inbox (sym (gathered_at t accounts workers account lt) ∙ is) in
        let lt' : account < length (gathered_in now accounts workers) =
        omega (arith, lt, length-map-range_with_len (seen_at t workers) 0 accounts, length-map-range_with_len (seen_at now workers) 0 accounts) in
        let same : inbox_at now workers account had.0 ≡ with_sender_at inbox (get_or (senders_at s) account v) =
        taken_at account had.0 ∙ (λ i. with_sender_at (had.2 i) (sym (at_account s account v (omega (arith, lt, count))) i)) in (
          gathered_at now accounts workers account lt' ∙ ap (option_map (inbox_at now workers account)) had.1 ∙ ap Some same,
          subst MailBegins same (begins_at account had.0 had.1 begins),
        )

-- what a worker gave back, which has ended everywhere, is taken in
module _ {Sender Name : Type 0} (view : Sender → PoolSenderView Name) (t : TallyView Name) (accounts workers : ℕ) (own rest : List Sender) (x : Sender) (some : 0 < length (gathered_in t accounts workers)) (count : length (senders_of view own) ≡ length (gathered_in t accounts workers)) (ends : MayTakeIn (gathered_in t accounts workers) (senders_of view own)) (is : own ≡ rest ++ x ∷ []) where
  one : own ≡ x ∷ []
  one = popped_one view own rest x (omega (arith, some, count)) is

  one_count : length (senders_at (view x)) ≡ length (gathered_in t accounts workers)
  one_count = subst (λ l. length (senders_of view l) ≡ length (gathered_in t accounts workers)) one count

  one_ends : MayTakeIn (gathered_in t accounts workers) (senders_at (view x))
  one_ends = subst (λ l. MayTakeIn (gathered_in t accounts workers) (senders_of view l)) one ends

  pub taken_of_pool : (view x).pool ≡ t.pool
  taken_of_pool = of_pool t accounts workers (view x) some one_count one_ends

  pub taken_has_ended : HasEndedEverywhere (view x)
  taken_has_ended = ends_everywhere t accounts workers (view x) one_count one_ends

  pub taken_each : (after : TallyView Name) → after ≡ with_sender t (view x) → Begins after
      → HaveTakenInEach (gathered_in t accounts workers) (senders_of view own) (gathered_in after accounts workers)
  taken_each after taken begins =
      let P : TallyView Name × List Sender → Type 0 = λ y. HaveTakenInEach (gathered_in t accounts workers) (senders_of view y.1) (gathered_in y.0 accounts workers) in
      subst P (λ i. (sym taken i, sym one i)) (taken_in t accounts workers (view x) one_count (subst Begins taken begins))

-- the receivers of all accounts are gathered, one after the other
module _ {Receiver Name : Type 0} (workers : ℕ) (receiver : Receiver → PoolReceiverView Name) where
  -- the receivers but for those that are left are gathered
  pub record AreGathered (before : TallyView Name) (all : List (Option Receiver)) (now : TallyView Name) (left : List (Option Receiver)) : Type 0 where
    pub done : List (Option Receiver)
    pub whole : done ++ left ≡ all
    pub gathered : gathered_in now (length done) workers ≡ inboxes_by (inbox_by receiver) done
    pub pool : now.pool ≡ before.pool
    pub known : now.known ≡ before.known

  module _ {before : TallyView Name} {all : List (Option Receiver)} {now : TallyView Name} {left : List (Option Receiver)} {item : Option Receiver} {rest : List (Option Receiver)} {items : List (Option Receiver)} (same : all ≡ items) (belong : AllBelong (belongs_to before workers) (length items) (inboxes_by (inbox_by receiver) items)) (h : AreGathered before all now left) (is : left ≡ item ∷ rest) where
    next_belongs : (r : Receiver) × (item ≡ Some r) × belongs_to before workers (length h.done) (inbox_by receiver r)
    next_belongs =
        let n = length h.done in
        let split : items ≡ h.done ++ item ∷ rest = sym same ∙ sym h.whole ∙ ap (λ l. h.done ++ l) is in
        let lt : n < length items = omega (arith, ap length split ∙ length-append h.done (item ∷ rest)) in
        let has = belong n lt in
        let at : item ≡ get_or items n None = sym (ap (λ l. get_or l n None) split ∙ get_or_at h.done item rest None n refl) in
        let seen : option_map (inbox_by receiver) (get_or items n None) ≡ Some has.0 = sym (get_or-map (option_map (inbox_by receiver)) items n None None lt) ∙ has.1 in
        let here : option_map (inbox_by receiver) item ≡ Some has.0 = ap (option_map (inbox_by receiver)) at ∙ seen in
        there_with (inbox_by receiver) (belongs_to before workers n) item has.0 here has.2

    -- the next is there
    pub next_there : item ≡ None → ⊥
    next_there none = let there = next_belongs.1 in absurd (cc (none, there))

    module _ (r : Receiver) (there : item ≡ Some r) where
      belongs : belongs_to before workers (length h.done) (inbox_by receiver r)
      belongs = let has = next_belongs in let same : has.0 ≡ r = let e = has.1 in cc in subst (λ x. belongs_to before workers (length h.done) (inbox_by receiver x)) same has.2

      pub next_pool : (receiver r).pool ≡ now.pool
      next_pool = ap (λ m. m.0) belongs.1 ∙ sym h.pool

      -- and is gathered
      pub one_gathered : (after : TallyView Name) → after ≡ with_receiver now (receiver r) → AreGathered before all after rest
      one_gathered after taken =
          let n = length h.done in
          let v = receiver r in
          let more = with_receiver now v in
          let own = belongs in
          let from : 0 + n ≡ n = omega arith in
          let mailbox : v.mailbox ≡ n = ap (λ m. m.1) own.1 in
          let here : (n == v.mailbox) ≡ true = grind (arith, mailbox) in
          let unknown : now.known ≡ (λ worker. None) = h.known ∙ ap (λ t. t.known) own.0 in
          let earlier : map (seen_at more workers) (range_with_len 0 n) ≡ inboxes_by (inbox_by receiver) h.done =
          fill_by_all (seen_at now workers) (map (seen_at more workers) (range_with_len 0 n)) n None (length-map-range_with_len (seen_at more workers) 0 n)
          (λ k lt.
          let other : (k == v.mailbox) ≡ false = grind (arith, mailbox, lt) in
          get_or-map-range_with_len (seen_at more workers) 0 n k k None lt (omega arith) ∙ ap (λ b. option_map (inbox_at now workers k) (cond b (Some v.got) (now.got k))) other)
          ∙ h.gathered in
          let name : ◌≡◌ {A = Name × ℕ} (now.pool, n) (v.pool, v.mailbox) = λ i. (sym next_pool i, sym mailbox i) in
          let last : seen_at more workers n ≡ Some (inbox_by receiver r) =
          ap (λ b. option_map (inbox_at now workers n) (cond b (Some v.got) (now.got n))) here
          ∙ (λ i. Some (record { mailbox = name i; senders = sym own.2 i; got = v.got; known = λ worker. option_map (λ (sent : ℕ → List Item). sent n) (unknown i worker) })) in
          subst (λ t. AreGathered before all t rest) (sym taken) (record {
            done = h.done ++ Some r ∷ [];
            whole = append_assoc h.done (Some r ∷ []) rest ∙ ap (λ o. h.done ++ o ∷ rest) (sym there) ∙ ap (λ l. h.done ++ l) (sym is) ∙ h.whole;
            gathered = ap (λ k. gathered_in more k workers) (length-append h.done (Some r ∷ [])) ∙ map-range_with_len_more (seen_at more workers) 0 n n from
                ∙ (λ i. earlier i ++ last i ∷ []) ∙ sym (map_push (option_map (inbox_by receiver)) h.done (Some r));
            pool = h.pool;
            known = h.known;
          })

-- a list of each sender alone, as a clause sees them
pub each_alone : {W S V : Type 0} (items : W → List S) (f : List S → V) (lists : List W) (senders : List S) → map items lists ≡ map (λ s. s ∷ []) senders → map (λ own. f (items own)) lists ≡ map (λ s. f (s ∷ [])) senders
each_alone items f lists senders is = sym (map-map f items lists) ∙ ap (map f) is ∙ map-map f (λ s. s ∷ []) senders

-- a pool that was just opened
module _ {Sender Receiver Name : Type 0} (sender : Sender → PoolSenderView Name) (receiver : Receiver → PoolReceiverView Name) (pool : Name) (workers accounts nodes most : ℕ) (senders : List Sender) (receivers : List Receiver) where
  module _ (places : length receivers ≡ accounts) (inboxes : (b : ℕ) → b < accounts → HoldsAt (λ s. receiver s ≡ opened_receiver pool b workers) receivers b) where
    inbox_there : (account : ℕ) → account < accounts → get_or (inboxes_by (inbox_by receiver) (map Some receivers)) account None ≡ Some (opened_inbox (pool, account) workers)
    inbox_there account lt =
        let within : account < length receivers = omega (arith, lt, places) in
        let d = some_of receivers account within in
        get_or-map (option_map (inbox_by receiver)) (map Some receivers) account (Some d) None (omega (arith, within, length-map receivers (λ r. Some r)))
        ∙ ap (option_map (inbox_by receiver)) (get_or-map (λ r. Some r) receivers account d (Some d) within)
        ∙ ap (λ v. Some (inbox_of v)) (inboxes account lt d)

    pub opened_there : length senders ≡ workers → ((i : ℕ) → i < workers → HoldsAt (λ s. sender s ≡ opened_sender pool accounts i nodes most) senders i)
        → AreMailboxes workers accounts nodes most (map (λ s. senders_at (sender s)) senders) (inboxes_by (inbox_by receiver) (map Some receivers))
    opened_there count opened =
        let list : (worker : ℕ) → worker < workers → get_or (map (λ s. senders_at (sender s)) senders) worker [] ≡ senders_at (opened_sender pool accounts worker nodes most) =
        λ worker lt.
        let within : worker < length senders = omega (arith, lt, count) in
        let d = some_of senders worker within in
        get_or-map (λ s. senders_at (sender s)) senders worker d [] within ∙ ap senders_at (opened worker lt d) in
        let size = λ (worker : ℕ). length-map-range_with_len (sender_at (opened_sender pool accounts worker nodes most)) 0 accounts in
        record {
          count = length-map senders (λ s. senders_at (sender s)) ∙ count;
          places = length-map (map Some receivers) (option_map (inbox_by receiver)) ∙ length-map receivers (λ r. Some r) ∙ places;
          whole = λ worker lt. ap length (list worker lt) ∙ size worker;
          each = λ account lt.
              ((pool, account), inbox_there account lt, λ worker s low. ap (λ l. get_or l account s) (list worker low) ∙ at_account (opened_sender pool accounts worker nodes most) account s (omega (arith, lt, size worker)));
        }

    pub kept_for : (t : TallyView Name) → t ≡ opened_tally t.pool → t.pool ≡ pool → BelongWhateverTheyGet (belongs_to t workers) (inboxes_by (inbox_by receiver) (map Some receivers))
    kept_for t fresh same account inbox got is =
        ⊎_elim
        (λ (lt : account < accounts).
        let own : opened_inbox (pool, account) workers ≡ inbox = let e = inbox_there account lt in cc in
        (fresh, sym (ap (λ r. r.mailbox) own) ∙ (λ i. (sym same i, account)), sym (ap (λ r. r.senders) own), sym (ap (λ r. r.known) own)))
        (λ (from : accounts ≤ account).
        let none = get_or_past (inboxes_by (inbox_by receiver) (map Some receivers)) account None (omega (arith, from, places, length-map (map Some receivers) (option_map (inbox_by receiver)), length-map receivers (λ r. Some r))) in
        absurd (cc (none, is)))
        (cases_lt account accounts)

-- what is known of a worker's one sender once it has ended in all mailboxes
module _ {Sender Name : Type 0} (view : Sender → PoolSenderView Name) (x : Sender) (new : List Sender) (postings : ℕ → List (ℕ × ℤ)) (some : 0 < (view x).mailboxes) (ended : HaveEnded true (senders_at (view x)) (senders_of view new) postings) where
  size : length (senders_at (view x)) ≡ (view x).mailboxes
  size = length-map-range_with_len (sender_at (view x)) 0 (view x).mailboxes

  pub ended_at : (account : ℕ) → account < (view x).mailboxes → IsAs true (sender_at (view (get_or new 0 x)) account) (with_end_at (with_posts (sender_at (view x) account) (postings account)))
  ended_at account lt =
      let t = sender_at (view x) account in
      let lists : SenderView (Name × ℕ) × SenderView (Name × ℕ) → Type 0 = λ y. IsAs true y.0 (with_end_at (with_posts y.1 (postings account))) in
      subst lists (λ i. (is_there view new account x (omega (arith, ended.count, size, lt)) t i, at_account (view x) account t (omega (arith, size, lt)) i)) (ended.each account t (omega (arith, size, lt)))

  pub same_mailboxes : (view (get_or new 0 x)).mailboxes ≡ (view x).mailboxes
  same_mailboxes =
      let now = view (get_or new 0 x) in
      omega (arith, ended.count, size, ap length (is_one view new 0 x (omega (arith, ended.count, size, some))), length-map-range_with_len (sender_at now) 0 now.mailboxes)
