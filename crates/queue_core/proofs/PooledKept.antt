-- What a core of a pool keeps to, whatever a step writes in it, and what is read of it.
use Rattle.std.proofs.Common.{◌≡◌, ◌∙◌, ◌+◌, ◌*◌, ◌<◌, ◌≤◌, ◌%◌, ◌≢◌, ℕ, Bool, List, Option, length, ⊎_elim, All, ap, refl, sym, subst, inl, inr, arith, get_or-set_other, get_or-set_same}
use Rattle.std.specs.Prelude.{slice_index_or}
use Rattle.std.proofs.lemmas.Bool.{cases_eq, cases_lt}
use Rattle.std.proofs.lemmas.List.{get_or_past, length-set}
use Rattle.std.proofs.lemmas.List.Elements.{All-get_or, All-set}
use Rattle.std.proofs.lemmas.Nat.{mul-add-lt}
use Rattle.queue_core.specs.declared.item.Item.{Item}
use Rattle.queue_core.specs.declared.item.Item.TheVariants.{Post, End}
use Rattle.queue_core.specs.declared.words.Node.{Node}
use Rattle.queue_core.specs.declared.sender.Caller.{Caller}
use Rattle.queue_core.specs.declared.sender.SenderPoint.{SenderPoint}
use Rattle.queue_core.specs.declared.sender.SenderPoint.TheVariants as sends
use Rattle.queue_core.specs.declared.reader.Reader.{Reader}
use Rattle.queue_core.specs.StoredWords.{empty_node, link_to}
use Rattle.queue_core.specs.Items.{is_end}
use Rattle.queue_core.specs.PoolSteps.{ends}
use Rattle.queue_core.proofs.StepLemmas.{chosen}
use Rattle.queue_core.specs.Pooled.{IsHolder, IsPoint, IsPooled, IsReaderPoint, Pooled, head_in, new_caller, node_at, node_of, reader_in, sender_at, stub_in, with_end, with_head, with_holder, with_node, with_point, with_reader, with_sender}

-- as many of each
pub record HasSizes (c n : Pooled) : Type 0 where
  pub ring : n.ring ≡ c.ring
  pub most : n.most ≡ c.most
  pub heads : length n.heads ≡ length c.heads
  pub nodes : length n.nodes ≡ length c.nodes
  pub holders : length n.holders ≡ length c.holders
  pub senders : length n.senders ≡ length c.senders
  pub ended : length n.ended ≡ length c.ended
  pub readers : length n.readers ≡ length c.readers

-- a head is a link, what is next is one or null, and points and tails are in the table
abbrev pub IsHead : Pooled → ℕ → Type 0
IsHead c head = (0 < head) × (head ≤ length c.nodes)

abbrev pub IsNext : Pooled → Node → Type 0
IsNext c node = node.next ≤ length c.nodes

abbrev pub IsCaller : Pooled → Caller → Type 0
IsCaller c sender = (sender.mailbox < length c.heads) × (sender.count ≤ c.most) × IsPoint c.most (length c.nodes) sender.count sender.point

abbrev pub IsReading : Pooled → Reader → Type 0
IsReading c reader = (reader.tail < length c.nodes) × IsReaderPoint (length c.nodes) reader.point

-- Where a node is written, each of its words that is the same again is as it was, and so is every word of all other nodes.
pub field_kept : (c : Pooled) (n : ℕ) (node : Node) → n < length c.nodes → (f : Node → ℕ) → f node ≡ f (node_at c n) → (a : ℕ) → f (node_at (with_node n node c) a) ≡ f (node_at c a)
field_kept c n node low f same a = elim (cases_eq a n) [
  | inl here ↦ subst (λ (a : ℕ). f (node_at (with_node n node c) a) ≡ f (node_at c a)) (sym here) (ap f (get_or-set_same c.nodes n node empty_node low) ∙ same)
  | inr other ↦ ap f (get_or-set_other c.nodes n a node empty_node other)
]

module _ (c : Pooled) (ok : IsPooled c) where
  keeps : (n : Pooled) → HasSizes c n → All (IsHead c) n.heads → All (IsNext c) n.nodes → All (IsHolder (length c.heads)) n.holders → All (IsCaller c) n.senders → All (IsReading c) n.readers → IsPooled n
  keeps n same heads links held points tails = record {
    some_senders = omega (arith, ok.some_senders, same.senders);
    few_senders = omega (arith, ok.few_senders, same.senders);
    some_mailboxes = omega (arith, ok.some_mailboxes, same.heads);
    few_mailboxes = omega (arith, ok.few_mailboxes, same.heads);
    some_nodes = omega (arith, ok.some_nodes, same.ring);
    few_nodes = omega (arith, ok.few_nodes, same.ring);
    few_posts = omega (arith, ok.few_posts, same.most);
    readers = same.readers ∙ (ok.readers ∙ sym same.heads);
    ended = same.ended ∙ (ok.ended ∙ (λ i. sym same.senders i * sym same.heads i));
    nodes = same.nodes ∙ (ok.nodes ∙ (λ i. sym same.senders i * (sym same.ring i + sym same.heads i) + sym same.heads i));
    holders = same.holders ∙ (ok.holders ∙ sym same.nodes);
    heads = subst (λ k. All (λ head. (0 < head) × (head ≤ k)) n.heads) (sym same.nodes) heads;
    links = subst (λ k. All (λ node. node.next ≤ k) n.nodes) (sym same.nodes) links;
    held = subst (λ k. All (IsHolder k) n.holders) (sym same.heads) held;
    points = λ i d within.
        let was = points i d within in
        let sender = slice_index_or n.senders i d in (
          omega (arith, was.0, same.heads),
          omega (arith, was.1, same.most),
          subst (λ k. IsPoint n.most k sender.count sender.point) (sym same.nodes) (subst (λ most. IsPoint most (length c.nodes) sender.count sender.point) (sym same.most) was.2),
        );
    tails = subst (λ k. All (λ reader. (reader.tail < k) × IsReaderPoint k reader.point) n.readers) (sym same.nodes) tails;
  }

  -- ---- what may be written

  -- a node whose next is in the table
  pub keeps_node : (n : ℕ) (node : Node) → node.next ≤ length c.nodes → IsPooled (with_node n node c)
  keeps_node n node small =
      keeps (with_node n node c) record { ring = refl; most = refl; heads = refl; nodes = length-set c.nodes n node; holders = refl; senders = refl; ended = refl; readers = refl }
      ok.heads (All-set (IsNext c) c.nodes n node small ok.links) ok.held ok.points ok.tails

  -- a sender that keeps to what each one keeps to
  pub keeps_sender : (p : ℕ) (sender : Caller) → IsCaller c sender → IsPooled (with_sender p sender c)
  keeps_sender p sender is =
      keeps (with_sender p sender c) record { ring = refl; most = refl; heads = refl; nodes = refl; holders = refl; senders = length-set c.senders p sender; ended = refl; readers = refl }
      ok.heads ok.links ok.held (All-set (IsCaller c) c.senders p sender is ok.points) ok.tails

  -- a reader whose tail and point are in the table
  pub keeps_reader : (b : ℕ) (reader : Reader) → IsReading c reader → IsPooled (with_reader b reader c)
  keeps_reader b reader is =
      keeps (with_reader b reader c) record { ring = refl; most = refl; heads = refl; nodes = refl; holders = refl; senders = refl; ended = refl; readers = length-set c.readers b reader }
      ok.heads ok.links ok.held ok.points (All-set (IsReading c) c.readers b reader is ok.tails)

  -- a head that is a link to a node
  pub keeps_head : (b head : ℕ) → 0 < head → head ≤ length c.nodes → IsPooled (with_head b head c)
  keeps_head b head some within =
      keeps (with_head b head c) record { ring = refl; most = refl; heads = length-set c.heads b head; nodes = refl; holders = refl; senders = refl; ended = refl; readers = refl }
      (All-set (IsHead c) c.heads b head (some, within) ok.heads) ok.links ok.held ok.points ok.tails

  -- whoever holds a node
  pub keeps_holder : (n : ℕ) (holder : Option ℕ) → IsHolder (length c.heads) holder → IsPooled (with_holder n holder c)
  keeps_holder n holder there =
      keeps (with_holder n holder c) record { ring = refl; most = refl; heads = refl; nodes = refl; holders = length-set c.holders n holder; senders = refl; ended = refl; readers = refl }
      ok.heads ok.links (All-set (IsHolder (length c.heads)) c.holders n holder there ok.held) ok.points ok.tails

  -- a sender whose item is sent, and that may end by it
  pub keeps_ends : (b p : ℕ) (item : Item) → IsPooled (ends b p item c)
  keeps_ends b p item =
      let same = chosen (λ (xs : List Bool). length xs ≡ length c.ended) (is_end item) (with_end b p c).ended c.ended (λ _. length-set c.ended _ _) (λ _. refl) in
      keeps (ends b p item c) record { ring = refl; most = refl; heads = refl; nodes = refl; holders = refl; senders = refl; ended = same; readers = refl }
      ok.heads ok.links ok.held ok.points ok.tails

  -- ---- what is read

  -- the next of a node is in the table
  pub next_within : (n : ℕ) → (node_at c n).next ≤ length c.nodes
  next_within n =
      ⊎_elim (λ lt. All-get_or (IsNext c) c.nodes n empty_node lt ok.links)
      (λ le. rw (get_or_past c.nodes n empty_node le) (omega arith))
      (cases_lt n (length c.nodes))

  -- what a sender keeps to
  pub sender_keeps : (p : ℕ) → IsCaller c (sender_at c p)
  sender_keeps p =
      ⊎_elim (λ lt. All-get_or (IsCaller c) c.senders p new_caller lt ok.points)
      (λ le. subst (IsCaller c) (sym (get_or_past c.senders p new_caller le)) (ok.some_mailboxes, omega arith, tt))
      (cases_lt p (length c.senders))

  -- what the reader and the head of a mailbox keep to
  module _ (b : ℕ) (low : b < length c.heads) where
    pub reader_keeps : IsReading c (reader_in c b)
    reader_keeps = All-get_or (IsReading c) c.readers b _ (omega (arith, low, ok.readers)) ok.tails

    pub head_keeps : IsHead c (head_in c b)
    head_keeps = All-get_or (IsHead c) c.heads b 0 low ok.heads

    -- the nodes of a sender come before the stubs
    pub node_within : (p : ℕ) (item : Item) → p < length c.senders → link_to (node_of c b p item) ≤ length c.nodes
    node_within p (Post line amount) lt =
        omega (arith, ok.nodes, mul-add-lt p (c.ring + length c.heads) ((sender_at c p).count % c.ring) (length c.senders) lt (omega (arith, ok.some_nodes)))
    node_within p End lt = omega (arith, ok.nodes, mul-add-lt p (c.ring + length c.heads) (c.ring + b) (length c.senders) lt (omega (arith, low)))

    pub stub_within : link_to (stub_in c b) ≤ length c.nodes
    stub_within = omega (arith, ok.nodes, low)

  -- a sender at another point
  pub keeps_point : (b p : ℕ) → b < length c.heads → (point : SenderPoint) → IsPoint c.most (length c.nodes) (sender_at c p).count point → IsPooled (with_point b p point c)
  keeps_point b p low point at = keeps_sender p (record (sender_at c p) { point = point; mailbox = b }) (low, (sender_keeps p).1, at)

  -- a sender that is in a call is there
  pub sender_within : (p : ℕ) → (sender_at c p).point ≢ sends.Rest → p < length c.senders
  sender_within p busy =
      ⊎_elim (λ lt. lt) (λ le. absurd (busy (ap (λ (x : Caller). x.point) (get_or_past c.senders p new_caller le))))
      (cases_lt p (length c.senders))
