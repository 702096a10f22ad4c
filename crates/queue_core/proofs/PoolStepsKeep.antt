-- What a step in a pool leaves keeps to what every core of a pool keeps to.
use Rattle.std.proofs.Common.{◌≡◌, ◌∙◌, ◌+◌, ◌-◌, ◌<◌, ◌≤◌, ◌≢◌, ℕ, ℤ, unsigned_abs, Bool, true, length, None, Some, sym, refl, subst, inl, inr, arith}
use Rattle.std.specs.Prelude.{if◌then◌else◌, ◌==◌, ◌&&◌, nat_lt, nat_le}
use Rattle.std.proofs.lemmas.Bool.{cases_Bool, eqb-true}
use Rattle.std.proofs.lemmas.Bool.Decides.{nat_tests}
use Rattle.std.proofs.lemmas.List.{length-set}
use Rattle.queue_core.specs.declared.TheConstants.{MOST_AMOUNT, MOST_POSTS}
use Rattle.queue_core.specs.declared.item.Item.{Item}
use Rattle.queue_core.specs.declared.item.Item.TheVariants.{Post, End}
use Rattle.queue_core.specs.declared.item.Posted.TheVariants.{Full}
use Rattle.queue_core.specs.declared.item.Took.{Took}
use Rattle.queue_core.specs.declared.item.Took.TheVariants as took
use Rattle.queue_core.specs.declared.words.Node.{Node}
use Rattle.queue_core.specs.declared.sender.SenderPoint.{SenderPoint}
use Rattle.queue_core.specs.declared.sender.SenderPoint.TheVariants as sends
use Rattle.queue_core.specs.declared.reader.ReaderPoint.{ReaderPoint}
use Rattle.queue_core.specs.declared.reader.ReaderPoint.TheVariants as reads
use Rattle.queue_core.specs.declared.step.Step.{Step}
use Rattle.queue_core.specs.declared.step.Step.TheVariants as step
use Rattle.queue_core.specs.declared.step.Stepped.{Stepped}
use Rattle.queue_core.specs.declared.step.Stepped.TheVariants.{Moved, NotNow}
use Rattle.queue_core.specs.Items.{is_end}
use Rattle.queue_core.specs.StoredWords.{link_to, null}
use Rattle.queue_core.specs.Pooled.{IsInHand, IsPoint, IsPooled, IsReaderPoint, Pooled, head_in, node_at, node_of, point_in, reader_in, sender_at, stub_in, with_node, with_point, with_sender}
use Rattle.queue_core.specs.PoolSteps.{after_sent, answers, end_line, give_back, goes_to, has_next, head_at, is_at_stub, is_last, load_held, load_turn, next_at, passes, stepped_in, store_amount, store_line, store_link, store_null, stub_link_at, stub_null_at, stub_swap_at, swap_head, takes}
use Rattle.queue_core.proofs.PooledKept.{head_keeps, keeps_ends, keeps_head, keeps_holder, keeps_node, keeps_point, keeps_reader, keeps_sender, next_within, node_within, reader_keeps, sender_keeps, sender_within, stub_within}
use Rattle.queue_core.proofs.StepLemmas.{amount_is, chosen, chosen_some, line_is, link_is, mapped, null_is, passed, some_is, swap_is}

-- a sender that a mailbox sees in a call is in a call there
pub call_in : (c : Pooled) (b p : ℕ) (pt : SenderPoint) → pt ≢ sends.Rest → point_in c b p ≡ pt → ((sender_at c p).mailbox ≡ b) × ((sender_at c p).point ≡ pt)
call_in c b p pt busy seen = elim (cases_Bool ((sender_at c p).mailbox == b)) [
  | inl here ↦ (eqb-true (sender_at c p).mailbox b here, rw here at seen)
  | inr there ↦ absurd (busy (sym (rw there at seen)))
]

-- a post more, where there is room
sent_few : (item : Item) (most count : ℕ) → IsInHand most count item → count ≤ most → (if is_end item then count else count + 1) ≤ most
sent_few (Post line amount) most count hand few = omega (arith, hand)
sent_few End most count hand few = few

-- a post that is begun
begun : (a b : Bool) (most count line : ℕ) (amount : ℤ)
    → (a && (b && (nat_lt count most && (nat_lt line MOST_POSTS && (nat_lt 0 (unsigned_abs amount) && nat_le (unsigned_abs amount) MOST_AMOUNT))))) ≡ true
    → IsInHand most count (Post line amount)
begun a b most count line amount e = grind (arith, nat_tests)

-- ---- the steps of a sender

module _ (c : Pooled) (ok : IsPooled c) (m : Pooled) (b : ℕ) (low : b < length c.heads) (p : ℕ) where
  -- the point that it is at
  at : (pt : SenderPoint) → pt ≢ sends.Rest → point_in c b p ≡ pt → IsPoint c.most (length c.nodes) (sender_at c p).count pt
  at pt busy seen = subst (IsPoint c.most (length c.nodes) (sender_at c p).count) (call_in c b p pt busy seen).1 (sender_keeps c ok p).2

  there : (pt : SenderPoint) → pt ≢ sends.Rest → point_in c b p ≡ pt → p < length c.senders
  there pt busy seen = sender_within c ok p (λ rest. busy (sym (call_in c b p pt busy seen).1 ∙ rest))

  -- a word of a node changes that is no link, and the point
  keeps_word : (n : ℕ) (node : Node) (point : SenderPoint) → node.next ≤ length c.nodes → IsPoint c.most (length c.nodes) (sender_at c p).count point
      → IsPooled (with_point b p point (with_node n node c))
  keeps_word n node point small in_hand =
      let same = length-set c.nodes n node in
      keeps_point (with_node n node c) (keeps_node c ok n node small) b p low point (subst (λ k. IsPoint c.most k (sender_at c p).count point) (sym same) in_hand)

  keeps_load_turn : (line : ℕ) (amount : ℤ) → load_turn b p line amount c ≡ Some m → IsPooled m
  keeps_load_turn line amount e =
      let h = passed _ _ m e in
      subst IsPooled h.1 (chosen IsPooled _ _ _
      (λ _. keeps_point c ok b p low (sends.Line (Post line amount)) (begun _ _ c.most (sender_at c p).count line amount h.0))
      (λ _. keeps_sender c ok p (record (sender_at c p) { last = Some Full }) (sender_keeps c ok p)))

  keeps_store_line : store_line b p c ≡ Some m → IsPooled m
  keeps_store_line e =
      let h = mapped _ _ m e in
      subst IsPooled h.2 (keeps_word _ _ (sends.Amount h.0) (next_within c ok _) (at (sends.Line h.0) (λ is. cc) (line_is _ _ h.1)))

  keeps_end_line : end_line b p c ≡ Some m → IsPooled m
  keeps_end_line e =
      let h = passed _ _ m e in
      subst IsPooled h.1 (keeps_word _ _ (sends.Amount End) (next_within c ok _) tt)

  keeps_store_amount : store_amount b p c ≡ Some m → IsPooled m
  keeps_store_amount e =
      let h = mapped _ _ m e in
      subst IsPooled h.2 (keeps_word _ _ (sends.Null h.0) (next_within c ok _) (at (sends.Amount h.0) (λ is. cc) (amount_is _ _ h.1)))

  keeps_store_null : store_null b p c ≡ Some m → IsPooled m
  keeps_store_null e =
      let h = mapped _ _ m e in
      subst IsPooled h.2 (keeps_word _ _ (sends.Swap h.0) (omega arith) (at (sends.Null h.0) (λ is. cc) (null_is _ _ h.1)))

  keeps_swap_head : swap_head b p c ≡ Some m → IsPooled m
  keeps_swap_head e =
      let head = head_keeps c ok b low in
      let before : head_in c b - 1 < length c.nodes = omega (arith, head) in
      let h = mapped _ _ m e in
      let is = swap_is _ _ h.1 in
      let point = sends.Link h.0 (head_in c b - 1) in
      subst IsPooled h.2
      (keeps_head (with_point b p point c) (keeps_point c ok b p low point (at (sends.Swap h.0) (λ is. cc) is, before)) b (link_to (node_of c b p h.0)) (omega arith)
      (node_within c ok b low p h.0 (there (sends.Swap h.0) (λ is. cc) is)))

  keeps_store_link : store_link b p c ≡ Some m → IsPooled m
  keeps_store_link e =
      let h = mapped _ _ m e in
      let item = h.0.0 in
      let is = link_is _ _ h.1 in
      let node = record (node_at c h.0.1) { next = link_to (node_of c b p item) } in
      let in_hand = at (sends.Link item h.0.1) (λ is. cc) is in
      let linked = with_node h.0.1 node c in
      let stored = keeps_node c ok h.0.1 node (node_within c ok b low p item (there (sends.Link item h.0.1) (λ is. cc) is)) in
      let sent = keeps_sender linked stored p (after_sent item (sender_at c p)) ((sender_keeps c ok p).0, sent_few item c.most (sender_at c p).count in_hand.0 (sender_keeps c ok p).1, tt) in
      subst IsPooled h.2 (keeps_ends (with_sender p (after_sent item (sender_at c p)) linked) sent b p item)

-- ---- the steps of a reader

module _ (c : Pooled) (ok : IsPooled c) (b : ℕ) (low : b < length c.heads) where
  -- the reader at another point, at the end of a take, and with the next node as its tail
  keeps_goes : (point : ReaderPoint) → IsReaderPoint (length c.nodes) point → IsPooled (goes_to b point c)
  keeps_goes point at = keeps_reader c ok b (record (reader_in c b) { point = point }) ((reader_keeps c ok b low).0, at)

  keeps_answers : (what : Took ℕ) → IsPooled (answers b what c)
  keeps_answers what = keeps_reader c ok b (record (reader_in c b) { point = reads.Rest; last = Some what }) ((reader_keeps c ok b low).0, tt)

  keeps_passes : IsPooled (passes b c)
  keeps_passes =
      let reader = reader_keeps c ok b low in
      keeps_reader c ok b (record (reader_in c b) { tail = (node_at c (reader_in c b).tail).next - 1 }) (omega (arith, next_within c ok (reader_in c b).tail, reader.0), reader.1)

module _ (c : Pooled) (ok : IsPooled c) (b : ℕ) (low : b < length c.heads) where
  -- the tail is taken
  keeps_takes : IsPooled (takes b c)
  keeps_takes =
      keeps_holder (answers b (took.Held (reader_in c b).tail) (passes b c)) (keeps_answers (passes b c) (keeps_passes c ok b low) b low (took.Held (reader_in c b).tail)) (reader_in c b).tail (Some b) low

  -- a sender's node as the tail
  leaves_node : (other : Pooled) → IsPooled other → IsPooled (if has_next b c then takes b c else other)
  leaves_node other right = chosen IsPooled (has_next b c) (takes b c) other (λ _. keeps_takes) (λ _. right)

  -- the stub as the tail
  leaves_stub : IsPooled (if has_next b c then goes_to b reads.Second (passes b c) else goes_to b reads.StubHead c)
  leaves_stub =
      chosen IsPooled (has_next b c) (goes_to b reads.Second (passes b c)) (goes_to b reads.StubHead c)
      (λ _. keeps_goes (passes b c) (keeps_passes c ok b low) b low reads.Second tt) (λ _. keeps_goes c ok b low reads.StubHead tt)

module _ (c : Pooled) (ok : IsPooled c) (m : Pooled) (b : ℕ) (low : b < length c.heads) where
  keeps_next_at : (point : ReaderPoint) → next_at point b c ≡ Some m → IsPooled m
  keeps_next_at point =
      let gone = leaves_node c ok b low (goes_to b reads.NodeHead c) (keeps_goes c ok b low reads.NodeHead tt) in
      elim point as (λ q. next_at q b c ≡ Some m → IsPooled m) [
        | reads.Rest ↦ λ e. chosen_some IsPooled (is_at_stub b c) _ _ m e (leaves_stub c ok b low) gone
        | reads.Second ↦ λ e. subst IsPooled (passed _ _ m e).1 gone
        | reads.Last ↦ λ e. some_is IsPooled _ m e (leaves_node c ok b low (answers b took.Busy c) (keeps_answers c ok b low took.Busy))
        | _ ↦ λ e. cc
      ]

  keeps_head_at : (point : ReaderPoint) → head_at point b c ≡ Some m → IsPooled m
  keeps_head_at point =
      elim point as (λ q. head_at q b c ≡ Some m → IsPooled m) [
        | reads.StubHead ↦ λ e. some_is IsPooled _ m e (keeps_answers c ok b low _)
        | reads.NodeHead ↦ λ e. some_is IsPooled _ m e (chosen IsPooled (is_last b c) (goes_to b reads.Null c) (answers b took.Busy c)
            (λ _. keeps_goes c ok b low reads.Null tt) (λ _. keeps_answers c ok b low took.Busy))
        | _ ↦ λ e. cc
      ]

  keeps_stub_null : (point : ReaderPoint) → stub_null_at point b c ≡ Some m → IsPooled m
  keeps_stub_null point =
      let node = record (node_at c (stub_in c b)) { next = null } in
      elim point as (λ q. stub_null_at q b c ≡ Some m → IsPooled m) [
        | reads.Null ↦ λ e. some_is IsPooled _ m e (keeps_goes (with_node (stub_in c b) node c) (keeps_node c ok (stub_in c b) node (omega arith)) b low reads.Swap tt)
        | _ ↦ λ e. cc
      ]

  keeps_stub_swap : (point : ReaderPoint) → stub_swap_at point b c ≡ Some m → IsPooled m
  keeps_stub_swap point =
      let before : head_in c b - 1 < length c.nodes = omega (arith, head_keeps c ok b low) in
      let next = reads.Link (head_in c b - 1) in
      elim point as (λ q. stub_swap_at q b c ≡ Some m → IsPooled m) [
        | reads.Swap ↦ λ e. some_is IsPooled _ m e (keeps_head (goes_to b next c) (keeps_goes c ok b low next before) b (link_to (stub_in c b)) (omega arith) (stub_within c ok b low))
        | _ ↦ λ e. cc
      ]

  keeps_stub_link : (point : ReaderPoint) → stub_link_at point b c ≡ Some m → IsPooled m
  keeps_stub_link point =
      elim point as (λ q. stub_link_at q b c ≡ Some m → IsPooled m) [
        | reads.Link before ↦ λ e.
            let node = record (node_at c before) { next = link_to (stub_in c b) } in
            some_is IsPooled _ m e (keeps_goes (with_node before node c) (keeps_node c ok before node (stub_within c ok b low)) b low reads.Last tt)
        | _ ↦ λ e. cc
      ]

  keeps_give_back : (n : ℕ) → give_back b n c ≡ Some m → IsPooled m
  keeps_give_back n e =
      let h = passed _ _ m e in
      subst IsPooled h.1 (keeps_holder _ (keeps_node c ok n _ (next_within c ok n)) n None tt)

  keeps_load_held : (n : ℕ) → load_held b n c ≡ Some m → IsPooled m
  keeps_load_held n e = subst IsPooled (passed _ _ m e).1 ok

-- ---- every step

pub keeps_step_in : (c m : Pooled) (b : ℕ) (s : Step) → IsPooled c → b < length c.heads → stepped_in c b s ≡ Some m → IsPooled m
keeps_step_in c m b (step.LoadTurn p line amount) ok low e = keeps_load_turn c ok m b low p line amount e
keeps_step_in c m b (step.StoreLine p) ok low e = keeps_store_line c ok m b low p e
keeps_step_in c m b (step.EndLine p) ok low e = keeps_end_line c ok m b low p e
keeps_step_in c m b (step.StoreAmount p) ok low e = keeps_store_amount c ok m b low p e
keeps_step_in c m b (step.StoreNull p) ok low e = keeps_store_null c ok m b low p e
keeps_step_in c m b (step.SwapHead p) ok low e = keeps_swap_head c ok m b low p e
keeps_step_in c m b (step.StoreLink p) ok low e = keeps_store_link c ok m b low p e
keeps_step_in c m b step.LoadNext ok low e = keeps_next_at c ok m b low (reader_in c b).point e
keeps_step_in c m b step.LoadHead ok low e = keeps_head_at c ok m b low (reader_in c b).point e
keeps_step_in c m b step.StubNull ok low e = keeps_stub_null c ok m b low (reader_in c b).point e
keeps_step_in c m b step.StubSwap ok low e = keeps_stub_swap c ok m b low (reader_in c b).point e
keeps_step_in c m b step.StubLink ok low e = keeps_stub_link c ok m b low (reader_in c b).point e
keeps_step_in c m b (step.LoadLine n) ok low e = keeps_load_held c ok m b low n e
keeps_step_in c m b (step.LoadAmount n) ok low e = keeps_load_held c ok m b low n e
keeps_step_in c m b (step.GiveBack n) ok low e = keeps_give_back c ok m b low n e

-- what a step leaves, where it was due and where it was not
pub keeps_stepped : (result : Stepped) (c m : Pooled) (b : ℕ) (s : Step) → IsPooled c → b < length c.heads → (result ≡ Moved → stepped_in c b s ≡ Some m)
    → (result ≡ NotNow → (stepped_in c b s ≡ None) × (m ≡ c)) → IsPooled m
keeps_stepped Moved c m b s ok low moved not_now = keeps_step_in c m b s ok low (moved refl)
keeps_stepped NotNow c m b s ok low moved not_now = subst IsPooled (sym (not_now refl).1) ok
