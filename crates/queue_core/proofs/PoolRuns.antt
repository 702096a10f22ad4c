-- Whatever steps are made in whichever mailboxes, the pool that their events lead to is shown.
use Rattle.std.proofs.Common.{◌≡◌, ◌∙◌, ◌++◌, ◌∷◌, ◌+◌, ◌*◌, ◌<◌, ◌≤◌, [], ℕ, true, false, List, Option, None, Some, length, get_or, ap, sym, refl, subst, inl, inr, ⊎_elim, arith, append_assoc}
use Rattle.std.specs.Prelude.{◌==◌, nat_lt, replicate, if◌then◌else◌}
use Rattle.std.proofs.lemmas.Bool.{cases_Bool, cases_lt, false≢true}
use Rattle.std.proofs.lemmas.Bool.Decides.{nat_tests}
use Rattle.std.proofs.lemmas.List.{append-nil, get_or-replicate, get_or_past, length-replicate}
use Rattle.std.proofs.lemmas.List.FromFn.{get_or-map-range_with_len}
use Rattle.std.proofs.lemmas.Nat.{mul-add-lt}
use Rattle.queue_core.specs.declared.TheConstants.{MOST_MAILBOXES, MOST_NODES, MOST_POOL_POSTS, MOST_SENDERS}
use Rattle.queue_core.specs.declared.words.Node.{Node}
use Rattle.queue_core.specs.declared.sender.Caller.{Caller}
use Rattle.queue_core.specs.declared.sender.SenderPoint.TheVariants as sends
use Rattle.queue_core.specs.declared.reader.Reader.{Reader}
use Rattle.queue_core.specs.declared.step.Step.{Step}
use Rattle.queue_core.specs.declared.step.Step.TheVariants as step
use Rattle.queue_core.specs.declared.step.PoolStep.{PoolStep}
use Rattle.queue_core.specs.Mailbox.{left_entries, opening}
use Rattle.queue_core.specs.Events.{Event}
use Rattle.queue_core.specs.Chain.{IsChain}
use Rattle.queue_core.specs.StoredWords.{empty_node, link_to}
use Rattle.queue_core.specs.Links.{IsAtHand, IsOwedByReader, IsOwedBySender, IsSending, IsTailAt, is_in_flight}
use Rattle.queue_core.specs.Box.{HasStored, ShowsBox}
use Rattle.queue_core.specs.Pool.{Pool, PoolLeads, after_in, opening_pool}
use Rattle.queue_core.specs.Pool.PoolLeads.{none as leads_none, more}
use Rattle.queue_core.specs.Pooled.{Pooled, first_node, has_ended_in, head_in, is_held_in, is_mailbox, new_caller, new_reader, node_at, opening_pooled, point_in, reader_in, stub_in}
use Rattle.queue_core.specs.PoolSteps.{Follows, stepped, stepped_in}
use Rattle.queue_core.specs.PoolSteps.Follows.{none as no_step, more as one_more}
use Rattle.queue_core.specs.PoolShows.{ShowsPool, box_in, links_in, node_in}
use Rattle.queue_core.specs.PoolLaws.{AllPoolRunsShow, IsRunOf, PoolOpeningShows, PoolStepShows, ShowsAfterIn, event_in, pool_events_along}
use Rattle.queue_core.proofs.PoolEnds.{pool_end_line}
use Rattle.queue_core.proofs.PoolFill.{pool_load_turn}
use Rattle.queue_core.proofs.PoolGive.{pool_give_back}
use Rattle.queue_core.proofs.PoolLink.{pool_link}
use Rattle.queue_core.proofs.PoolOpening.{many_heads, many_senders, opening_keeps}
use Rattle.queue_core.proofs.PoolPosts.{each_mailbox_leads}
use Rattle.queue_core.proofs.PoolReads.{pool_load_amount, pool_load_head, pool_load_line, pool_load_next, pool_stub_link, pool_stub_null, pool_stub_swap}
use Rattle.queue_core.proofs.PoolShape.{shape_kept}
use Rattle.queue_core.proofs.PoolStepsKeep.{keeps_step_in}
use Rattle.queue_core.proofs.PoolStores.{pool_store_amount, pool_store_line, pool_store_null}
use Rattle.queue_core.proofs.PoolSwap.{pool_swap}
use Rattle.queue_core.proofs.StepLemmas.{chosen}

-- ---- each step

pub step_shows_in : (b : ℕ) (s : Step) → PoolStepShows b s
step_shows_in b (step.LoadTurn p line amount) = pool_load_turn b p line amount
step_shows_in b (step.StoreLine p) = pool_store_line b p
step_shows_in b (step.EndLine p) = pool_end_line b p
step_shows_in b (step.StoreAmount p) = pool_store_amount b p
step_shows_in b (step.StoreNull p) = pool_store_null b p
step_shows_in b (step.SwapHead p) = pool_swap b p
step_shows_in b (step.StoreLink p) = pool_link b p
step_shows_in b step.LoadNext = pool_load_next b
step_shows_in b step.LoadHead = pool_load_head b
step_shows_in b step.StubNull = pool_stub_null b
step_shows_in b step.StubSwap = pool_stub_swap b
step_shows_in b step.StubLink = pool_stub_link b
step_shows_in b (step.LoadLine n) = pool_load_line b n
step_shows_in b (step.LoadAmount n) = pool_load_amount b n
step_shows_in b (step.GiveBack n) = pool_give_back b n

-- ---- the opening

same_at : {X : Type 0} (n i : ℕ) (x : X) → get_or (replicate n x) i x ≡ x
same_at n i x = ⊎_elim (λ lt. get_or-replicate n i x x lt) (λ le. get_or_past (replicate n x) i x (omega (arith, le, length-replicate n x))) (cases_lt i n)

module _ (senders mailboxes ring most : ℕ) (some_senders : 0 < senders) (few_senders : senders ≤ MOST_SENDERS) (some_mailboxes : 0 < mailboxes) (few_mailboxes : mailboxes ≤ MOST_MAILBOXES)
    (some_nodes : 0 < ring) (few_nodes : ring ≤ MOST_NODES) (few_posts : most ≤ MOST_POOL_POSTS) where
  abbrev core : Pooled
  core = opening_pooled senders mailboxes ring most

  abbrev first_stub : ℕ
  first_stub = senders * (ring + mailboxes)

  heads_are : length core.heads ≡ mailboxes
  heads_are = many_heads senders mailboxes ring most some_senders few_senders some_mailboxes few_mailboxes some_nodes few_nodes few_posts

  senders_are : length core.senders ≡ senders
  senders_are = many_senders senders mailboxes ring most some_senders few_senders some_mailboxes few_mailboxes some_nodes few_nodes few_posts

  node_is : (n : ℕ) → node_at core n ≡ empty_node
  node_is n = same_at (first_stub + mailboxes) n empty_node

  stub_is : (b : ℕ) → stub_in core b ≡ first_stub + b
  stub_is b = λ t. senders_are t * (ring + heads_are t) + b

  at_rest : (b p : ℕ) → point_in core b p ≡ sends.Rest
  at_rest b p = ap (λ (s : Caller). if s.mailbox == b then s.point else sends.Rest) (same_at senders p new_caller) ∙ chosen (λ pt. pt ≡ sends.Rest) (0 == b) sends.Rest sends.Rest (λ _. refl) (λ _. refl)

  none_held : (b n : ℕ) → is_held_in core b n ≡ false
  none_held b n = ap (is_mailbox b) (same_at {X = Option ℕ} (first_stub + mailboxes) n None)

  sending : (b p : ℕ) → IsSending (links_in core opening_pool b) opening p (point_in core b p)
  sending b p = record {
    in_flight = subst (IsOwedBySender (links_in core opening_pool b) opening p) (sym (at_rest b p)) (λ k. refl);
    at_hand = subst (IsAtHand (links_in core opening_pool b) opening p) (sym (at_rest b p)) (λ k none'. absurd (omega (arith, none')));
  }

  module _ (b : ℕ) (low : b < mailboxes) where
    reader_is : reader_in core b ≡ new_reader (first_stub + b)
    reader_is = get_or-map-range_with_len (λ b. new_reader (first_stub + b)) 0 mailboxes b b _ low (omega arith)

    head_is : head_in core b ≡ link_to (first_stub + b)
    head_is = get_or-map-range_with_len (λ b. link_to (first_stub + b)) 0 mailboxes b b 0 low (omega arith)

    chain : IsChain (node_in core opening_pool b) (λ n. (node_at core n).next) (is_in_flight opening) (head_in core b) (reader_in core b).tail (left_entries opening)
    chain = record {
      some = omega arith;
      apart = λ i j d before within. absurd (omega (arith, before, within));
      first_linked = refl;
      tail_is = ap (λ (r : Reader). r.tail) reader_is ∙ sym (stub_is b);
      head_is = head_is ∙ ap link_to (sym (stub_is b));
      links = λ i within. absurd (omega (arith, within));
      end = ap (λ (z : Node). z.next) (node_is (stub_in core b));
    }

    going : (p : ℕ) → p < senders → has_ended_in core b p ≡ false
    going p p_low =
        let place : p * length core.heads + b ≡ p * mailboxes + b = λ t. p * heads_are t + b in
        get_or-replicate (senders * mailboxes) (p * length core.heads + b) false true (omega (arith, mul-add-lt p mailboxes b senders p_low low, place))

    opening_box : ShowsBox (box_in core opening_pool b) opening
    opening_box = record {
      links = record {
        chain = chain;
        senders = sending b;
        reader = record {
          in_flight = subst (IsOwedByReader (links_in core opening_pool b) opening) (ap (λ (r : Reader). r.point) (sym reader_is)) refl;
          at_tail = subst (IsTailAt (links_in core opening_pool b) opening) (ap (λ (r : Reader). r.point) (sym reader_is)) tt;
        };
      };
      ended = λ p within. (
        λ ended. absurd (false≢true (sym (going p (omega (arith, within, senders_are))) ∙ ended)),
        λ found. absurd (omega (arith, found.1)),
      );
      no_others = λ p past. refl;
      held = λ n. (
        λ held. absurd (false≢true (sym (none_held b n) ∙ held)),
        λ found. absurd (false≢true found.2.passed),
      );
      stored = λ p within. subst (HasStored (box_in core opening_pool b) _) (sym (at_rest b p)) tt;
      kept = λ p k among given. absurd (false≢true among);
    }

  pub opening_shown : ShowsPool core opening_pool
  opening_shown = record {
    boxes = λ b in_range. opening_box b (omega (arith, in_range, heads_are));
    senders = λ p in_range. record {
      count = ap (λ (s : Caller). s.count) (same_at senders p new_caller);
      turns = λ i i_low. ap (λ (z : Node). z.turn) (node_is (first_node core p + i));
      end_turns = λ b b_low. ap (λ (z : Node). z.turn) (node_is (first_node core p + (ring + b)));
    };
    stub_turns = λ b in_range. ap (λ (z : Node). z.turn) (node_is (stub_in core b));
    no_boxes = λ b past. refl;
  }

pub pool_opening : PoolOpeningShows
pool_opening = opening_shown

-- ---- whole runs

-- a step that is due is one in a mailbox that is there
due_in : (c n : Pooled) (s : PoolStep) → stepped c s ≡ Some n → (s.mailbox < length c.heads) × (stepped_in c s.mailbox s.step ≡ Some n)
due_in c n s e = elim (cases_Bool (nat_lt s.mailbox (length c.heads))) [
  | inl there ↦ (grind (arith, nat_tests), rw there at e)
  | inr past ↦ absurd (let gone : None ≡ Some n = rw past at e in cc)
]

-- where the steps lead, one after another
abbrev run : List PoolStep → Pooled → Option Pooled
run [] c = Some c
run (s ∷ steps) c = elim (stepped c s) [
  | None ↦ None
  | Some n ↦ run steps n
]

-- what comes of a core that may not be there
abbrev then_run : List PoolStep → Option Pooled → Option Pooled
then_run steps None = None
then_run steps (Some n) = run steps n

run_more : (steps : List PoolStep) (s : PoolStep) (a c n : Pooled) → run steps a ≡ Some c → stepped c s ≡ Some n → run (steps ++ s ∷ []) a ≡ Some n
run_more [] s a c n start due = by (stepped a s) (subst (λ k. stepped k s ≡ Some n) (the_same a c start) due)
  where
    the_same : (a c : Pooled) → Some a ≡ Some c → c ≡ a
    the_same a c e = cc

    by : (o : Option Pooled) → o ≡ Some n → then_run [] o ≡ Some n
    by None e = cc
    by (Some k) e = e
run_more (t ∷ steps) s a c n start due = by (stepped a t) (λ k e. run_more steps s k c n e due) start
  where
    by : (o : Option Pooled) → ((k : Pooled) → run steps k ≡ Some c → run (steps ++ s ∷ []) k ≡ Some n) → then_run steps o ≡ Some c → then_run (steps ++ s ∷ []) o ≡ Some n
    by None longer e = cc
    by (Some k) longer e = longer k e

leads_along : (steps : List PoolStep) (a c : Pooled) → Follows steps a c → run steps a ≡ Some c
leads_along _ a _ (no_step _) = refl
leads_along _ a _ (one_more steps _ c n s before due) = run_more steps s a c n (leads_along steps a c before) due

-- some pool that these events lead to is shown, in a run of so many senders, mailboxes and ring nodes
abbrev IsShown : (senders mailboxes ring : ℕ) → List (ℕ × Event) → Pooled → Type 0
IsShown senders mailboxes ring events n = (q : Pool) × IsRunOf senders mailboxes ring events q n

-- The steps go on from a core that shows what events lead to.
goes_on : (senders mailboxes ring : ℕ) (steps : List PoolStep) (events : List (ℕ × Event)) (q : Pool) (c n : Pooled) → IsRunOf senders mailboxes ring events q c → run steps c ≡ Some n
    → IsShown senders mailboxes ring (events ++ pool_events_along steps c q) n
goes_on senders mailboxes ring [] events q c n is end =
    let same : c ≡ n = cc in
    (q, subst (λ xs. IsRunOf senders mailboxes ring xs q n) (sym (append-nil events)) (subst (IsRunOf senders mailboxes ring events q) same is))
goes_on senders mailboxes ring (s ∷ steps) events q c n is end =
    by (stepped c s)
    (λ k due. let at = due_in c k s due in step_shows_in s.mailbox s.step events q c k at.0 is.pooled is.leads is.shows at.1)
    (λ k due events' q' leads' shows' e.
    let at = due_in c k s due in
    let kept = shape_kept c s.mailbox k s.step at.1 in
    goes_on senders mailboxes ring steps events' q' k n record {
      senders_are = kept.2 ∙ is.senders_are;
      mailboxes_are = kept.1 ∙ is.mailboxes_are;
      ring_is = kept.0 ∙ is.ring_is;
      pooled = keeps_step_in c k s.mailbox s.step is.pooled at.0 at.1;
      leads = subst (λ (r : ℕ). PoolLeads r events' q') (sym kept.0) leads';
      shows = shows';
    } e)
    end
  where
    by : (o : Option Pooled) → ((k : Pooled) → o ≡ Some k → ShowsAfterIn (event_in c q s.mailbox s.step) c.ring s.mailbox q k)
        → ((k : Pooled) → o ≡ Some k → (events' : List (ℕ × Event)) (q' : Pool) → PoolLeads c.ring events' q' → ShowsPool k q' → run steps k ≡ Some n → IsShown senders mailboxes ring (events' ++ pool_events_along steps k q') n)
        → then_run steps o ≡ Some n
        → IsShown senders mailboxes ring (events ++ elim o [
          | None ↦ []
          | Some k ↦ elim (event_in c q s.mailbox s.step) [
            | None ↦ pool_events_along steps k q
            | Some event ↦ (s.mailbox, event) ∷ pool_events_along steps k (after_in s.mailbox event q)
          ]
        ]) n
    by None law rest e = cc
    by (Some k) law rest e = on (event_in c q s.mailbox s.step) (law k refl) (λ events' q' leads' shows'. rest k refl events' q' leads' shows' e)
      where
        on : (event : Option Event) → ShowsAfterIn event c.ring s.mailbox q k
            → ((events' : List (ℕ × Event)) (q' : Pool) → PoolLeads c.ring events' q' → ShowsPool k q' → IsShown senders mailboxes ring (events' ++ pool_events_along steps k q') n)
            → IsShown senders mailboxes ring (events ++ elim event [
              | None ↦ pool_events_along steps k q
              | Some event ↦ (s.mailbox, event) ∷ pool_events_along steps k (after_in s.mailbox event q)
            ]) n
        on None law rest = rest events q is.leads law
        on (Some event) law rest =
            subst (λ xs. IsShown senders mailboxes ring xs n) (append_assoc events ((s.mailbox, event) ∷ []) (pool_events_along steps k (after_in s.mailbox event q)))
            (rest (events ++ (s.mailbox, event) ∷ []) (after_in s.mailbox event q) (more events q s.mailbox event is.leads law.0) law.1)

pub all_pool_runs : AllPoolRunsShow
all_pool_runs senders mailboxes ring most some_senders few_senders some_mailboxes few_mailboxes some_nodes few_nodes few_posts steps c follows =
    let start = opening_pooled senders mailboxes ring most in
    let events = pool_events_along steps start opening_pool in
    let shown = goes_on senders mailboxes ring steps [] opening_pool start c record {
      senders_are = many_senders senders mailboxes ring most some_senders few_senders some_mailboxes few_mailboxes some_nodes few_nodes few_posts;
      mailboxes_are = many_heads senders mailboxes ring most some_senders few_senders some_mailboxes few_mailboxes some_nodes few_nodes few_posts;
      ring_is = refl;
      pooled = opening_keeps senders mailboxes ring most some_senders few_senders some_mailboxes few_mailboxes some_nodes few_nodes few_posts;
      leads = leads_none;
      shows = opening_shown senders mailboxes ring most some_senders few_senders some_mailboxes few_mailboxes some_nodes few_nodes few_posts;
    } (leads_along steps start c follows) in
    let q = shown.0 in
    let is = shown.1 in
    (q, is, λ b. (each_mailbox_leads ring some_nodes events q (subst (λ (r : ℕ). PoolLeads r events q) is.ring_is is.leads) b).1)
