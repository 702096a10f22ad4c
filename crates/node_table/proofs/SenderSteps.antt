-- The steps of a sender keep the rule of a table of nodes.
use Rattle.std.proofs.Common.{unsigned_abs, ℤ, ◌≡◌, ◌∙◌, ◌+◌, ◌-◌, ◌*◌, ◌/◌, ◌%◌, ◌<◌, ◌≤◌, ◌++◌, ◌∷◌, [], ℕ, List, Bool, Option, false, true, Some, None, length, get_or, map, set, not, ap, sym, refl, subst, inl, inr, arith, get_or-set_other, get_or-set_same}
use Rattle.std.specs.Prelude.{◌==◌, All, nat_le, nat_lt, option_map, slice_index_or, if◌then◌else◌}
use Rattle.std.specs.List.{filter}
use Rattle.std.proofs.lemmas.Bool.{cases_Bool, cases_eq, cases_lt, eq-eqb, false≢true, ne_eqb}
use Rattle.std.proofs.lemmas.Bool.Decides.{nat_tests}
use Rattle.std.proofs.lemmas.List.{append-nil, get_or-replicate, get_or_past, length-replicate, length-set, map-append}
use Rattle.std.proofs.lemmas.List.Elements.{All-push, filter-append}
use mathlib.Core.Option.{none, some}
use lib.ListN.{get_elem?}
use Rattle.atomic_table.specs.Table.{State, gives, keeps, step, takes, Allows}
use Rattle.atomic_table.proofs.Lists.{set_else, set_here}
use Rattle.queue_core.specs.declared.TheConstants.{MOST_AMOUNT, MOST_POOL_POSTS, MOST_POSTS}
use Rattle.queue_core.specs.declared.item.Item.{Item}
use Rattle.queue_core.specs.declared.item.Item.TheVariants.{Post, End}
use Rattle.queue_core.specs.declared.item.Posted.TheVariants.{Full}
use Rattle.queue_core.specs.declared.words.Node.{Node}
use Rattle.queue_core.specs.declared.sender.Caller.{Caller}
use Rattle.queue_core.specs.declared.sender.SenderPoint.{SenderPoint}
use Rattle.queue_core.specs.declared.sender.SenderPoint.TheVariants as sends
use Rattle.queue_core.specs.declared.step.Step.{Step}
use Rattle.queue_core.specs.declared.step.Step.TheVariants as steps
use Rattle.queue_core.specs.Items.{is_end}
use Rattle.queue_core.specs.Mailbox.{Mailbox}
use Rattle.queue_core.specs.Events.{Event}
use Rattle.queue_core.specs.Events.Event.{Exchange, Fill, Link}
use Rattle.queue_core.specs.StoredWords.{amount_word, line_word, link_to, null}
use Rattle.queue_core.specs.Pool.{MayFillIn, Pool, after_in}
use Rattle.queue_core.specs.Pooled.{IsPoint, IsPooled, Pooled, end_place, has_ended_in, head_in, node_at, node_of, point_in, sender_at, with_head, with_node, with_point, with_sender}
use Rattle.queue_core.specs.PoolSteps.{after_sent, amount_due, end_line, ends, is_at_rest, is_free, line_due, link_due, load_turn, null_due, stepped_in, store_link, swap_due, swap_head}
use Rattle.queue_core.specs.PoolLaws.{event_in}
use Rattle.queue_core.proofs.PooledKept.{head_keeps, node_within, sender_keeps}
use Rattle.queue_core.proofs.PoolFree.{all_sent, count_is, free_tells, not_ended}
use Rattle.queue_core.proofs.PoolLink.{end_places}
use Rattle.queue_core.proofs.PoolPosts.{box_other, box_own, each_box, fills as items_fill, posts_after, same_field}
use Rattle.node_table.specs.declared.seats.Known.{Known}
use Rattle.node_table.specs.declared.seats.Known.TheVariants.{Dealt, Sends}
use Rattle.node_table.specs.declared.seats.Posting.{Posting}
use Rattle.node_table.specs.declared.seats.SenderSeat.{SenderSeat}
use Rattle.node_table.specs.declared.seats.Shape.{Shape}
use Rattle.node_table.specs.Layout.{amount_word_of, head_word, line_word_of, next_word, nodes_in, slot_of, turn_word}
use Rattle.node_table.specs.Rule.{AreWords, KeepsAs, KeepsNodes, KeepsOn, later_in}
use Rattle.queue_core.specs.Items.{IsInRange}
use Rattle.node_table.specs.Seats.{IsDealtSeat, IsNewSender, IsSenderSeat, has_ended, items_in}
use Rattle.node_table.specs.Tells.{after_amount_at, after_link_at, after_sending, after_turn, after_null_at, after_swap_at, at_point, filling, found_full, is_free_at, new_sender, node_of as seat_node, posting, tells_give_slot, tells_load_turn, tells_store_amount, tells_store_line, tells_store_link, tells_store_null, tells_swap_head, tells_take_slot}
use Rattle.node_table.proofs.Owned.{at_within}
use Rattle.node_table.proofs.SenderFrame.{CoreButSender, IsHome, PoolButSender, box_exchanged, box_holds, box_linked, core_but, core_still, its_posts, its_within, moved, own, pool_but, pool_filled, pool_still, put_together, stood, told, went_on}
use Rattle.node_table.proofs.Words.{amount_words, head_words, line_words, look_words, next_words, stub_there}

-- ---- what a sender has filled, with one item more

module _ (d b : ℕ) (item : Item) (filled : List (ℕ × Item)) where
  abbrev its_item : ℕ × Item → Item
  its_item pair = pair.1

  -- what is added is its last item, where that is of this mailbox
  items_more : items_in d (filled ++ (b, item) ∷ []) ≡ items_in d filled ++ map its_item (filter (λ (pair : ℕ × Item). pair.0 == d) ((b, item) ∷ []))
  items_more = ap (map its_item) (filter-append (λ (pair : ℕ × Item). pair.0 == d) filled ((b, item) ∷ [])) ∙ map-append its_item (filter (λ (pair : ℕ × Item). pair.0 == d) filled) (filter (λ (pair : ℕ × Item). pair.0 == d) ((b, item) ∷ []))

  -- in the mailbox of the item there is one more
  pub items_own : d ≡ b → items_in d (filled ++ (b, item) ∷ []) ≡ items_in d filled ++ item ∷ []
  items_own here = items_more ∙ rw (eq-eqb b d (sym here)) refl

  -- in another there is none
  pub items_other : ¬ (d ≡ b) → items_in d (filled ++ (b, item) ∷ []) ≡ items_in d filled
  items_other there = items_more ∙ rw (ne_eqb b d (λ e. there (sym e))) (append-nil (items_in d filled))

-- ---- where a sender ends

-- its flags once an item is sent
abbrev flags_after : SenderSeat → Item → List Bool
flags_after v item = if is_end item then set v.ended v.caller.mailbox true else v.ended

flags_long : (v : SenderSeat) (item : Item) → length (flags_after v item) ≡ length v.ended
flags_long v (Post line amount) = refl
flags_long v End = length-set v.ended v.caller.mailbox true

module _ (c : Pooled) (b p : ℕ) (there : b < length c.heads) where
  abbrev ended_after : Item → List Bool
  ended_after item = if is_end item then set c.ended (end_place c b p) true else c.ended

  -- every other flag is as it was
  ended_else : (item : Item) (d r : ℕ) → d < length c.heads → ¬ ((r ≡ p) × (d ≡ b)) → slice_index_or (ended_after item) (r * length c.heads + d) true ≡ has_ended_in c d r
  ended_else (Post line amount) d r low other = refl
  ended_else End d r low other = get_or-set_other c.ended (end_place c b p) (r * length c.heads + d) true true (λ same. other (end_places (length c.heads) d b r p low there same))

  -- the flags that it knows are those of the core
  flags_are : (v : SenderSeat) (item : Item) → v.caller.mailbox ≡ b → (d : ℕ) → d < length c.heads → d < length v.ended → has_ended_in c d p ≡ has_ended v d
      → slice_index_or (ended_after item) (p * length c.heads + d) true ≡ slice_index_or (flags_after v item) d false
  flags_are v (Post line amount) mailbox d low flag was = was
  flags_are v End mailbox d low flag was = elim (cases_eq d b) [
    | inl here ↦ set_true c.ended (end_place c b p) (p * length c.heads + d) (ap (λ (k : ℕ). p * length c.heads + k) here) ∙ sym (ap (λ (k : ℕ). slice_index_or (set v.ended k true) d false) (mailbox ∙ sym here) ∙ get_or-set_same v.ended d true false flag)
    | inr other ↦ ended_else End d p low (λ both. other both.1) ∙ (was ∙ sym (get_or-set_other v.ended v.caller.mailbox d true false (λ same. other (same ∙ mailbox))))
  ]
    where
      set_true : (xs : List Bool) (i j : ℕ) → j ≡ i → slice_index_or (set xs i true) j true ≡ true
      set_true xs i j same = ap (λ (k : ℕ). slice_index_or (set xs i true) k true) same ∙ elim (cases_lt i (length xs)) [
        | inl low ↦ get_or-set_same xs i true true low
        | inr past ↦ get_or_past (set xs i true) i true (omega (arith, past, length-set xs i true))
      ]

-- ---- the cores after the steps of a sender

module _ (c : Pooled) (b p : ℕ) where
  -- it has found its node free, or stored a word of its item
  abbrev at_line : Item → Pooled
  at_line item = with_point b p (sends.Line item) c

  abbrev at_amount : Item → Pooled
  at_amount item = with_point b p (sends.Amount item) (with_node (node_of c b p item) (record (node_at c (node_of c b p item)) { line = line_word item }) c)

  abbrev at_null : Item → Pooled
  at_null item = with_point b p (sends.Null item) (with_node (node_of c b p item) (record (node_at c (node_of c b p item)) { amount = amount_word item }) c)

  abbrev at_swap : Item → Pooled
  at_swap item = with_point b p (sends.Swap item) (with_node (node_of c b p item) (record (node_at c (node_of c b p item)) { next = null }) c)

  -- it has exchanged its node in
  abbrev at_link : Item → Pooled
  at_link item = with_head b (link_to (node_of c b p item)) (with_point b p (sends.Link item (head_in c b - 1)) c)

  -- it has stored its link, after which its item is sent
  abbrev at_rest : Item × ℕ → Pooled
  at_rest linked = ends b p linked.0 (with_sender p (after_sent linked.0 (sender_at c p)) (with_node linked.1 (record (node_at c linked.1) { next = link_to (node_of c b p linked.0) }) c))

-- ---- a sender takes its slot

module _ (shape d : Shape) (p : ℕ) (low : p < d.senders) (s : State Posting Known) (kept : KeepsNodes shape s) (id : ℕ) (seen : get_elem? s.views id ≡ some (Dealt d p)) where
  dealt : IsDealtSeat kept.core kept.pool s.homes d p
  dealt = kept.seats id (Dealt d p) seen

  pub new : IsNewSender kept.core kept.pool s.homes p
  new = dealt.new.sender low

  -- it has done nothing, as it was dealt
  begins : IsSenderSeat kept.core kept.pool (new_sender d p)
  begins = record {
    shape = dealt.shape_is;
    within = low;
    caller = new.caller;
    flags = length-replicate d.mailboxes false;
    ended = λ b there. new.going b (omega (arith, there, dealt.shape_is.mailboxes)) ∙ sym (get_or-replicate d.mailboxes b false false there);
    items = new.items;
  }

  pub takes_kept : KeepsAs shape kept.events kept.pool kept.core record { words = set s.words 0 (get_or s.words 0 0); homes = set s.homes (slot_of p) none; views = set s.views id (Sends (new_sender d p)) }
  takes_kept =
      put_together shape s kept id p (Dealt d p) seen refl (omega (arith, low, dealt.shape_is.senders)) kept.events kept.pool kept.core kept.mail (core_still kept.core p) (pool_still kept.core.ring kept.pool p)
      (set s.words 0 (get_or s.words 0 0)) (look_words shape kept.core s.words kept.words kept.core 0 refl refl)
      (set s.homes (slot_of p) none) (λ r other at. (at.0, set_else s.homes (slot_of p) (slot_of r) none (λ e. other (omega (arith, e))) ∙ at.1)) (new_sender d p) refl begins

-- ---- a sender in its call

module _ (shape : Shape) (v : SenderSeat) (s : State Posting Known) (kept : KeepsNodes shape s) (id : ℕ) (seen : get_elem? s.views id ≡ some (Sends v)) where
  abbrev c : Pooled
  c = kept.core

  abbrev q : Pool
  q = kept.pool

  abbrev p : ℕ
  p = v.number

  -- by a step in a mailbox the rule holds of these words, where this is what the sender knows
  abbrev Keeps : (b : ℕ) → Step → List ℕ → SenderSeat → Type 0
  Keeps b x words w = KeepsOn shape s kept b x record { words = words; homes = s.homes; views = set s.views id (Sends w) }

  ok : IsPooled c
  ok = kept.mail.pooled

  mine : IsSenderSeat c q v
  mine = own shape s kept id v seen

  in_table : p < length c.senders
  in_table = its_within shape s kept id v seen

  -- as many nodes as its shape says
  nodes_are : length c.nodes ≡ nodes_in v.shape
  nodes_are = ok.nodes ∙ (λ i. mine.shape.senders i * (mine.shape.ring i + mine.shape.mailboxes i) + mine.shape.mailboxes i)

  module _ (b : ℕ) (exists : b < v.shape.mailboxes) where
    there : b < length c.heads
    there = omega (arith, exists, mine.shape.mailboxes)

    -- the node that it fills
    node_here : (item : Item) → node_of c b p item ≡ seat_node v b item
    node_here (Post line amount) = λ i. p * (mine.shape.ring i + mine.shape.mailboxes i) + (mine.caller i).count % mine.shape.ring i
    node_here End = λ i. p * (mine.shape.ring i + mine.shape.mailboxes i) + (mine.shape.ring i + b)

    node_there : (item : Item) → node_of c b p item < length c.nodes
    node_there item = omega (arith, node_within c ok b there p item in_table)

    -- ---- a step to another point of its call

    -- where it does not end by it, its flags are those of the core
    still_ended : (n : Pooled) → CoreButSender c n p → n.ended ≡ c.ended → (d : ℕ) → d < v.shape.mailboxes → has_ended_in n d p ≡ has_ended v d
    still_ended n core ended d low = (λ i. slice_index_or (ended i) (p * core.heads i + d) true) ∙ mine.ended d low

    module _ (x : Step) (event : Option Event) (n : Pooled) (due : stepped_in c b x ≡ Some n) (event_is : event_in c q b x ≡ event) (core : CoreButSender c n p) (pool : PoolButSender c.ring q (later_in event b q) p)
        (point : SenderPoint) (caller_is : sender_at n p ≡ record (sender_at c p) { point = point; mailbox = b }) (ended : n.ended ≡ c.ended) (words : List ℕ) (are : AreWords shape n words) where
      -- its items are as they were
      goes_on : v.caller.mailbox ≡ b → ((d : ℕ) → ((later_in event b q).boxes d).items p ≡ (q.boxes d).items p) → Keeps b x words (at_point point v)
      goes_on mailbox same =
          went_on shape s kept id v seen b there x event n due event_is core pool (record v.caller { point = point }) v.ended
          (caller_is ∙ (λ i. record (mine.caller i) { point = point; mailbox = sym mailbox i })) mine.flags (still_ended n core ended) words are same

    -- by the step an item is filled
    module _ (item : Item) (x : Step) (n : Pooled) (due : stepped_in c b x ≡ Some n) (event_is : event_in c q b x ≡ Some (Fill p item)) (core : CoreButSender c n p)
        (point : SenderPoint) (caller_is : sender_at n p ≡ record (sender_at c p) { point = point; mailbox = b }) (ended : n.ended ≡ c.ended) (words : List ℕ) (are : AreWords shape n words) where
      fills : IsInRange item → Keeps b x words (filling point (posting b item) v)
      fills within =
          let may = (told shape s kept id v seen b there x (Some (Fill p item)) n due event_is).0 in
          let pool = pool_filled c.ring ok.some_nodes q b p (its_posts shape s kept id v seen) item may (box_holds shape s kept id v seen) in
          moved shape s kept id v seen b there x (Some (Fill p item)) n due event_is core pool (record v.caller { point = point; mailbox = b }) v.ended
          (caller_is ∙ (λ i. record (mine.caller i) { point = point; mailbox = b })) mine.flags (still_ended n core ended) words are
          (v.filled ++ (b, item) ∷ [])
          (λ d. elim (cases_eq d b) [
            | inl here ↦
                subst (λ d. ((after_in b (Fill p item) q).boxes d).items p ≡ items_in d (v.filled ++ (b, item) ∷ [])) (sym here)
                (ap (λ (m : Mailbox). m.items p) (box_own q b (Fill p item)) ∙ (items_fill (q.boxes b) p item ∙ (ap (λ xs. xs ++ item ∷ []) (mine.items b) ∙ sym (items_own b b item v.filled refl))))
            | inr other ↦ ap (λ (m : Mailbox). m.items p) (box_other q b (Fill p item) d other) ∙ (mine.items d ∙ sym (items_other d b item v.filled other))
          ])
          (each_box q b (Fill p item) (λ d m. All IsInRange (m.items p)) (subst (λ xs. All IsInRange xs) (sym (items_fill (q.boxes b) p item)) (All-push IsInRange ((q.boxes b).items p) item (kept.mail.ranged b p) within)) (λ d. kept.mail.ranged d p))

    -- ---- in a call

    module _ (mailbox : v.caller.mailbox ≡ b) (item : Item) where
      -- where the mailbox sees it
      point_is : (point : SenderPoint) → v.caller.point ≡ point → point_in c b p ≡ point
      point_is point at = rw mine.caller (rw (eq-eqb v.caller.mailbox b mailbox) at)

      -- a store of a word of its node
      stores : (x : Step) (node : Node) (point : SenderPoint) → stepped_in c b x ≡ Some (with_point b p point (with_node (node_of c b p item) node c)) → event_in c q b x ≡ None → (words : List ℕ)
          → AreWords shape (with_point b p point (with_node (node_of c b p item) node c)) words → Keeps b x words (at_point point v)
      stores x node point due still words are =
          let n : Pooled = with_point b p point (with_node (node_of c b p item) node c) in
          goes_on x None n due still (core_but c n p (record (sender_at c p) { point = point; mailbox = b }) refl refl refl refl refl refl) (pool_still c.ring q p) point (get_or-set_same c.senders p _ _ in_table) refl words are mailbox (λ d. refl)

      -- a store of its line, of its amount, and of null as its next
      pub line_kept : v.caller.point ≡ sends.Line item → Keeps b (steps.StoreLine p) (set s.words (line_word_of (seat_node v b item)) (line_word item)) (at_point (sends.Amount item) v)
      line_kept at = stores (steps.StoreLine p) _ (sends.Amount item) (ap (λ point. option_map (at_amount c b p) (line_due point)) (point_is (sends.Line item) at)) refl _
          (subst (λ (k : ℕ). AreWords shape (at_amount c b p item) (set s.words (line_word_of k) (line_word item))) (node_here item)
          (line_words shape c s.words kept.words (at_amount c b p item) (node_of c b p item) (node_there item) _ refl refl (line_word item) refl refl refl refl))

      pub amount_kept : v.caller.point ≡ sends.Amount item → Keeps b (steps.StoreAmount p) (set s.words (amount_word_of (seat_node v b item)) (amount_word item)) (at_point (sends.Null item) v)
      amount_kept at = stores (steps.StoreAmount p) _ (sends.Null item) (ap (λ point. option_map (at_null c b p) (amount_due point)) (point_is (sends.Amount item) at)) refl _
          (subst (λ (k : ℕ). AreWords shape (at_null c b p item) (set s.words (amount_word_of k) (amount_word item))) (node_here item)
          (amount_words shape c s.words kept.words (at_null c b p item) (node_of c b p item) (node_there item) _ refl refl (amount_word item) refl refl refl refl))

      pub null_kept : v.caller.point ≡ sends.Null item → Keeps b (steps.StoreNull p) (set s.words (next_word (seat_node v b item)) null) (at_point (sends.Swap item) v)
      null_kept at = stores (steps.StoreNull p) _ (sends.Swap item) (ap (λ point. option_map (at_swap c b p) (null_due point)) (point_is (sends.Null item) at)) refl _
          (subst (λ (k : ℕ). AreWords shape (at_swap c b p item) (set s.words (next_word k) null)) (node_here item)
          (next_words shape c s.words kept.words (at_swap c b p item) (node_of c b p item) (node_there item) _ refl refl null refl refl refl refl))

      -- ---- the exchange of the head

      pub swap_kept : v.caller.point ≡ sends.Swap item
          → Keeps b (steps.SwapHead p) (set s.words (head_word shape b) (seat_node v b item + 1)) (at_point (sends.Link item (get_or s.words (head_word shape b) 0 - 1)) v)
      swap_kept at =
          let n : Pooled = at_link c b p item in
          let due : swap_head b p c ≡ Some n = ap (λ point. option_map (at_link c b p) (swap_due point)) (point_is (sends.Swap item) at) in
          let may = (told shape s kept id v seen b there (steps.SwapHead p) (Some (Exchange p)) n due refl).0 in
          let core : CoreButSender c n p = core_but c n p (record (sender_at c p) { point = sends.Link item (head_in c b - 1); mailbox = b }) refl refl (length-set c.heads b _) refl refl refl in
          let pool = pool_but c.ring q b p (Exchange p) (box_exchanged (q.boxes b) p c.ring (box_holds shape s kept id v seen b) may) refl in
          let found : get_or s.words (head_word shape b) 0 ≡ head_in c b = kept.words.head b there in
          goes_on (steps.SwapHead p) (Some (Exchange p)) n due refl core pool (sends.Link item (get_or s.words (head_word shape b) 0 - 1))
          (get_or-set_same c.senders p _ _ in_table ∙ (λ i. record (sender_at c p) { point = sends.Link item (sym found i - 1); mailbox = b })) refl _
          (subst (λ (k : ℕ). AreWords shape n (set s.words (head_word shape b) (k + 1))) (node_here item) (head_words shape c s.words kept.words n b (link_to (node_of c b p item)) there (stub_there shape c kept.mail.fits ok b there) refl refl))
          mailbox (λ d. ap (λ items. items p) (same_field (λ m. m.items) q b (Exchange p) refl d))

      -- ---- the store of a link

      module _ (before : ℕ) (at : v.caller.point ≡ sends.Link item before) where
        -- the node that gets the link is one of the table
        before_there : before < length c.nodes
        before_there = (subst (IsPoint c.most (length c.nodes) (sender_at c p).count) (ap (λ (z : Caller). z.point) mine.caller ∙ at) (sender_keeps c ok p).2).1

        abbrev linked : Pooled
        linked = at_rest c b p (item, before)

        -- the others are as they were
        link_core : CoreButSender c linked p
        link_core = record {
          ring = refl;
          most = refl;
          heads = refl;
          senders = length-set c.senders p _;
          callers = λ r other. get_or-set_other c.senders p r _ _ other;
          ended = λ d r low other. ended_else c b p there item d r low (λ both. other both.0);
          readers = λ d. refl;
        }

        pub link_kept : Keeps b (steps.StoreLink p) (set s.words (next_word before) (seat_node v b item + 1)) (after_sending item v)
        link_kept =
            let due : store_link b p c ≡ Some linked = ap (λ point. option_map (at_rest c b p) (link_due point)) (point_is (sends.Link item before) at) in
            went_on shape s kept id v seen b there (steps.StoreLink p) (Some (Link p)) linked due refl link_core (pool_but c.ring q b p (Link p) (box_linked (q.boxes b) p) refl)
            (after_sent item v.caller) (flags_after v item) (get_or-set_same c.senders p _ _ in_table ∙ ap (after_sent item) mine.caller) (flags_long v item ∙ mine.flags)
            (λ d low. flags_are c b p there v item mailbox d (omega (arith, low, mine.shape.mailboxes)) (omega (arith, low, mine.flags)) (mine.ended d low)) _
            (next_words shape c s.words kept.words linked before before_there _ refl refl (seat_node v b item + 1) (sym (ap (λ (k : ℕ). k + 1) (node_here item))) refl refl refl)
            (λ d. ap (λ items. items p) (same_field (λ m. m.items) q b (Link p) refl d))

    -- the head is the number of a node and 1
    head_small : (0 < get_or s.words (head_word shape b) 0) × (get_or s.words (head_word shape b) 0 ≤ nodes_in v.shape)
    head_small =
        let found : get_or s.words (head_word shape b) 0 ≡ head_in c b = kept.words.head b there in
        let head = head_keeps c ok b there in
        (omega (arith, found, head.0), omega (arith, found, head.1, nodes_are))

    -- ---- in no call, and before its end mark in the mailbox

    module _ (rest : v.caller.point ≡ sends.Rest) (going : has_ended v b ≡ false) where
      -- so it is in the core
      at_its_rest : (sender_at c p).point ≡ sends.Rest
      at_its_rest = ap (λ (z : Caller). z.point) mine.caller ∙ rest

      going_there : has_ended_in c b p ≡ false
      going_there = mine.ended b exists ∙ going

      pub end_kept : Keeps b (steps.EndLine p) (set s.words (line_word_of (seat_node v b End)) (line_word End)) (filling (sends.Amount End) (posting b End) v)
      end_kept =
          let n : Pooled = at_amount c b p End in
          let one : is_at_rest (sender_at c p).point ≡ true = ap is_at_rest at_its_rest in
          let two : not (has_ended_in c b p) ≡ true = ap not going_there in
          let due : end_line b p c ≡ Some n = rw (one, two) refl in
          fills End (steps.EndLine p) n due refl (core_but c n p (record (sender_at c p) { point = sends.Amount End; mailbox = b }) refl refl refl refl refl refl) (sends.Amount End) (get_or-set_same c.senders p _ _ in_table) refl _
          (subst (λ (k : ℕ). AreWords shape n (set s.words (line_word_of k) (line_word End))) (node_here End)
          (line_words shape c s.words kept.words n (node_of c b p End) (node_there End) _ refl refl (line_word End) refl refl refl refl)) tt

      -- ---- the load of a turn

      module _ (line : ℕ) (amount : ℤ) where
        abbrev post : Item
        post = Post line amount

        abbrev word : ℕ
        word = turn_word (seat_node v b post)

        abbrev found : ℕ
        found = get_or s.words word 0

        -- the sender finds what the core has
        free_is : is_free c b p post ≡ is_free_at found v
        free_is =
            let turn : found ≡ (node_at c (node_of c b p post)).turn = ap (λ (k : ℕ). get_or s.words (turn_word k) 0) (sym (node_here post)) ∙ kept.words.turn (node_of c b p post) (node_there post) in
            λ i. sym turn i == (mine.caller i).count / mine.shape.ring i

        -- so it has filled as many posts as it has ring nodes, where it is not free
        all_filled : is_free_at found v ≡ false → v.shape.ring ≤ v.caller.count
        all_filled busy = elim (cases_lt v.caller.count v.shape.ring) [
          | inl early ↦
              let posts = length (q.posts p) in
              let all_posts = posts_after c.ring ok.some_nodes kept.events q kept.mail.leads in
              let holds = box_holds shape s kept id v seen in
              let count : posts ≡ v.caller.count = sym (count_is c ok q all_posts holds kept.mail.shows p in_table at_its_rest) ∙ ap (λ (z : Caller). z.count) mine.caller in
              let may : MayFillIn c.ring q b p post = record {
                all_sent = all_sent c ok q all_posts holds kept.mail.shows p in_table at_its_rest;
                not_ended = not_ended c ok q all_posts holds kept.mail.shows p in_table at_its_rest b there going_there;
                free = λ j behind. absurd (omega (arith, behind, count, early, mine.shape.ring));
              } in
              let free : is_free c b p post ≡ true = (free_tells kept.events q c b p line amount ok kept.mail.leads kept.mail.shows there in_table at_its_rest going_there).0.1 may in
              absurd (false≢true (sym busy ∙ (sym free_is ∙ free)))
          | inr far ↦ far
        ]

        -- a load changes no word
        look_now : (n : Pooled) → n.heads ≡ c.heads → n.nodes ≡ c.nodes → AreWords shape n (set s.words word found)
        look_now n heads nodes = look_words shape c s.words kept.words n word heads nodes

        module _ (few : v.caller.count < MOST_POOL_POSTS) (low : line < MOST_POSTS) (above : 0 < unsigned_abs amount) (within : unsigned_abs amount ≤ MOST_AMOUNT) where
          abbrev full : Pooled
          full = with_sender p (record (sender_at c p) { last = Some Full }) c

          -- the step is due, and goes by whether the node is free
          turn_due : load_turn b p line amount c ≡ Some (if is_free c b p post then at_line c b p post else full)
          turn_due =
              let room : (sender_at c p).count < c.most = omega (arith, few, ap (λ (z : Caller). z.count) mine.caller, mine.shape.most) in
              let one : is_at_rest (sender_at c p).point ≡ true = ap is_at_rest at_its_rest in
              let two : not (has_ended_in c b p) ≡ true = ap not going_there in
              let count : nat_lt (sender_at c p).count c.most ≡ true = grind (arith, nat_tests, room) in
              let line_low : nat_lt line MOST_POSTS ≡ true = grind (arith, nat_tests) in
              let positive : nat_lt 0 (unsigned_abs amount) ≡ true = grind (arith, nat_tests) in
              let small : nat_le (unsigned_abs amount) MOST_AMOUNT ≡ true = grind (arith, nat_tests) in
              rw (one, two, count, line_low, positive, small) refl

          -- its node is free
          turn_fills : is_free_at found v ≡ true → Keeps b (steps.LoadTurn p line amount) (set s.words word found) (filling (sends.Line post) (posting b post) v)
          turn_fills free =
              let is : is_free c b p post ≡ true = free_is ∙ free in
              let n : Pooled = at_line c b p post in
              fills post (steps.LoadTurn p line amount) n (turn_due ∙ ap (λ t. Some (if t then n else full)) is) (ap (λ t. if t then Some (Fill p post) else None) is)
              (core_but c n p (record (sender_at c p) { point = sends.Line post; mailbox = b }) refl refl refl refl refl refl) (sends.Line post) (get_or-set_same c.senders p _ _ in_table) refl _
              (look_now n refl refl) (omega (arith, low), above, omega (arith, within))

          -- it is not free yet
          turn_full : is_free_at found v ≡ false → Keeps b (steps.LoadTurn p line amount) (set s.words word found) (found_full v)
          turn_full busy =
              let is : is_free c b p post ≡ false = free_is ∙ busy in
              went_on shape s kept id v seen b there (steps.LoadTurn p line amount) None full (turn_due ∙ ap (λ t. Some (if t then at_line c b p post else full)) is) (ap (λ t. if t then Some (Fill p post) else None) is)
              (core_but c full p (record (sender_at c p) { last = Some Full }) refl refl refl refl refl refl) (pool_still c.ring q p) (record v.caller { last = Some Full }) v.ended
              (get_or-set_same c.senders p _ _ in_table ∙ (λ i. record (mine.caller i) { last = Some Full })) mine.flags mine.ended _ (look_now full refl refl) (λ d. refl)

          -- and so it knows what it found
          pub turn_kept : Keeps b (steps.LoadTurn p line amount) (set s.words word found) (after_turn found (posting b post) v)
          turn_kept = elim (cases_Bool (is_free_at found v)) [
            | inl free ↦ rw free (turn_fills free)
            | inr busy ↦ rw busy (turn_full busy)
          ]

  -- ---- the sender gives its slot back

  -- each slot that was at home is so, and so is its own
  pub gives_kept : (slot : ℕ) (laid : Posting) → KeepsAs shape kept.events q c record { words = set s.words 0 (get_or s.words 0 0); homes = set s.homes slot (some laid); views = set s.views id (Sends v) }
  gives_kept slot laid = stood shape s kept id v seen _ (look_words shape c s.words kept.words c 0 refl refl) (set s.homes slot (some laid)) (λ r other at. home_there r at)
    where
      home_there : (r : ℕ) → IsHome s.homes r → IsHome (set s.homes slot (some laid)) r
      home_there r at = elim (cases_eq (slot_of r) slot) [
        | inl same ↦ (laid, ap (get_elem? (set s.homes slot (some laid))) same ∙ set_here s.homes slot (some laid) (at_within s.homes slot (some at.0) (ap (get_elem? s.homes) (sym same) ∙ at.1)))
        | inr apart ↦ (at.0, set_else s.homes slot (slot_of r) (some laid) apart ∙ at.1)
      ]

-- ---- the steps at the table

module _ (shape : Shape) (slots id : ℕ) where
  pub slot_takes : (d : Shape) (p : ℕ) → p < d.senders → Allows (KeepsNodes shape) slots id (Dealt d p, []) 0 (λ n. n) (tells_take_slot (step slots 0 0 0 none) (Dealt d p, []))
  slot_takes d p low s kept deep seen small =
      let slot = (new shape d p low s kept id seen).slot in
      (Sends (new_sender d p), takes (slot_of p) slot.0, slot.1, (takes_kept shape d p low s kept id seen).rule, (slot.0, refl))

  module _ (v : SenderSeat) (carried : List (ℕ × Posting)) (b : ℕ) (exists : b < v.shape.mailboxes) (mailbox : v.caller.mailbox ≡ b) (item : Item) where
    abbrev node : ℕ
    node = seat_node v b item

    pub line_stores : v.caller.point ≡ sends.Line item
        → Allows (KeepsNodes shape) slots id (Sends v, carried) (line_word_of node) (λ _. line_word item) (λ _. tells_store_line (step slots (line_word_of node) (line_word item) 0 none) (Sends v, carried) (line_word item))
    line_stores at s kept deep seen small =
        let w : SenderSeat = at_point (sends.Amount item) v in
        (Sends w, keeps, tt, (line_kept shape v s kept id seen b exists mailbox item at).2.rule, (w, refl, rw at refl))

    pub amount_stores : v.caller.point ≡ sends.Amount item
        → Allows (KeepsNodes shape) slots id (Sends v, carried) (amount_word_of node) (λ _. amount_word item) (λ _. tells_store_amount (step slots (amount_word_of node) (amount_word item) 0 none) (Sends v, carried) (amount_word item))
    amount_stores at s kept deep seen small =
        let w : SenderSeat = at_point (sends.Null item) v in
        (Sends w, keeps, tt, (amount_kept shape v s kept id seen b exists mailbox item at).2.rule, (w, refl, ap (λ point. after_amount_at point v) (sym at)))

    pub null_stores : v.caller.point ≡ sends.Null item
        → Allows (KeepsNodes shape) slots id (Sends v, carried) (next_word node) (λ _. null) (λ _. tells_store_null (step slots (next_word node) null 0 none) (Sends v, carried) null)
    null_stores at s kept deep seen small =
        let w : SenderSeat = at_point (sends.Swap item) v in
        (Sends w, keeps, tt, (null_kept shape v s kept id seen b exists mailbox item at).2.rule, (w, refl, ap (λ point. after_null_at point v) (sym at)))

    pub head_swaps : v.caller.point ≡ sends.Swap item → Allows (KeepsNodes shape) slots id (Sends v, carried) (head_word shape b) (λ _. node + 1) (tells_swap_head (step slots (head_word shape b) (node + 1) 0 none) (Sends v, carried))
    head_swaps at s kept deep seen small =
        let found : ℕ = get_or s.words (head_word shape b) 0 in
        let w : SenderSeat = at_point (sends.Link item (found - 1)) v in
        let head = head_small shape v s kept id seen b exists in
        (Sends w, keeps, tt, (swap_kept shape v s kept id seen b exists mailbox item at).2.rule, (w, refl, (ap (λ point. after_swap_at point found v) (sym at), head.0, head.1)))

    pub link_stores : (before : ℕ) → v.caller.point ≡ sends.Link item before
        → Allows (KeepsNodes shape) slots id (Sends v, carried) (next_word before) (λ _. node + 1) (λ _. tells_store_link (step slots (next_word before) (node + 1) 0 none) (Sends v, carried) (node + 1))
    link_stores before at s kept deep seen small =
        let w : SenderSeat = after_sending item v in
        (Sends w, keeps, tt, (link_kept shape v s kept id seen b exists mailbox item before at).2.rule, (w, refl, ap (λ point. after_link_at point v) (sym at)))

  module _ (v : SenderSeat) (slot : ℕ) where
    module _ (rest : v.caller.point ≡ sends.Rest) (b : ℕ) (exists : b < v.shape.mailboxes) (going : has_ended v b ≡ false) where
      pub end_stores : Allows (KeepsNodes shape) slots id (Sends v, (slot, posting b End) ∷ []) (line_word_of (seat_node v b End)) (λ _. line_word End)
          (λ _. tells_store_line (step slots (line_word_of (seat_node v b End)) (line_word End) 0 none) (Sends v, (slot, posting b End) ∷ []) (line_word End))
      end_stores s kept deep seen small =
          let w : SenderSeat = filling (sends.Amount End) (posting b End) v in
          (Sends w, keeps, tt, (end_kept shape v s kept id seen b exists rest going).2.rule, (w, refl, rw rest refl))

      pub turn_loads : (line : ℕ) (amount : ℤ) → v.caller.count < MOST_POOL_POSTS → line < MOST_POSTS → 0 < unsigned_abs amount → unsigned_abs amount ≤ MOST_AMOUNT
          → Allows (KeepsNodes shape) slots id (Sends v, (slot, posting b (Post line amount)) ∷ []) (turn_word (seat_node v b (Post line amount))) (λ n. n)
          (tells_load_turn (step slots (turn_word (seat_node v b (Post line amount))) 0 0 none) (Sends v, (slot, posting b (Post line amount)) ∷ []))
      turn_loads line amount few low above within s kept deep seen small =
          let item : Item = Post line amount in
          let turn : ℕ = get_or s.words (turn_word (seat_node v b item)) 0 in
          let w : SenderSeat = after_turn turn (posting b item) v in
          (Sends w, keeps, tt, (turn_kept shape v s kept id seen b exists rest going line amount few low above within).2.rule, (w, refl, (refl, all_filled shape v s kept id seen b exists rest going line amount)))

    pub slot_gives : (laid : Posting) → Allows (KeepsNodes shape) slots id (Sends v, (slot, laid) ∷ []) 0 (λ n. n) (tells_give_slot (step slots 0 0 0 none) (Sends v, (slot, laid) ∷ []))
    slot_gives laid s kept deep seen small = (Sends v, gives, tt, (gives_kept shape v s kept id seen slot laid).rule, refl)
