-- The words of a table of nodes after a load and after a store.
use Rattle.std.proofs.Common.{◌≡◌, ◌∙◌, ◌+◌, ◌*◌, ◌<◌, ℕ, List, length, get_or, set, ap, sym, subst, inl, inr, arith, get_or-set_other, get_or-set_same}
use Rattle.std.specs.Prelude.{slice_index_or}
use Rattle.std.proofs.lemmas.Bool.{cases_eq}
use Rattle.std.proofs.lemmas.List.{length-set, set-get_or}
use Rattle.queue_core.specs.declared.words.Node.{Node}
use Rattle.queue_core.specs.StoredWords.{empty_node}
use Rattle.queue_core.specs.Pooled.{IsPooled, Pooled, head_in, node_at, stub_in, with_node}
use Rattle.queue_core.proofs.PooledKept.{field_kept, stub_within}
use Rattle.node_table.specs.declared.seats.Shape.{Shape}
use Rattle.node_table.specs.Layout.{amount_word_of, head_word, line_word_of, next_word, stub_of, turn_word}
use Rattle.node_table.specs.Rule.{AreWords}
use Rattle.node_table.specs.Seats.{HasShape}

-- the stub of a mailbox is a node of the table
pub stub_there : (shape : Shape) (c : Pooled) → HasShape shape c → IsPooled c → (b : ℕ) → b < length c.heads → stub_of shape b < length c.nodes
stub_there shape c fits ok b low =
    let is : stub_in c b ≡ stub_of shape b = λ i. fits.senders i * (fits.ring i + fits.mailboxes i) + b in
    omega (arith, stub_within c ok b low, is)

module _ (shape : Shape) (c : Pooled) (words : List ℕ) (are : AreWords shape c words) (n : Pooled) where
  -- where the heads are as they were
  module _ (heads : n.heads ≡ c.heads) where
    still_there : (b : ℕ) → b < length n.heads → b < length c.heads
    still_there b low = omega (arith, low, ap (λ (xs : List ℕ). length xs) heads)

    same_head : (b : ℕ) → head_in n b ≡ head_in c b
    same_head b = ap (λ (xs : List ℕ). slice_index_or xs b 0) heads

  -- where the nodes are as they were
  module _ (nodes : n.nodes ≡ c.nodes) where
    wide_same : length words ≡ next_word (length n.nodes)
    wide_same = are.wide ∙ ap (λ (xs : List Node). next_word (length xs)) (sym nodes)

    -- the words of one kind
    kind_same : (f : Node → ℕ) (place : ℕ → ℕ) → ((k : ℕ) → k < length c.nodes → get_or words (place k) 0 ≡ f (node_at c k)) → (k : ℕ) → k < length n.nodes → get_or words (place k) 0 ≡ f (node_at n k)
    kind_same f place was k below = was k (omega (arith, below, ap (λ (xs : List Node). length xs) nodes)) ∙ ap (λ xs. f (slice_index_or xs k empty_node)) (sym nodes)

  -- a load
  pub look_words : (i : ℕ) → n.heads ≡ c.heads → n.nodes ≡ c.nodes → AreWords shape n (set words i (get_or words i 0))
  look_words i heads nodes = subst (AreWords shape n) (sym (set-get_or words i 0)) record {
    wide = wide_same nodes;
    head = λ b low. are.head b (still_there heads b low) ∙ sym (same_head heads b);
    next = kind_same nodes (λ z. z.next) next_word are.next;
    turn = kind_same nodes (λ z. z.turn) turn_word are.turn;
    line = kind_same nodes (λ z. z.line) line_word_of are.line;
    amount = kind_same nodes (λ z. z.amount) amount_word_of are.amount;
  }

  -- a store of the head of a mailbox
  pub head_words : (b word : ℕ) → b < length c.heads → stub_of shape b < length c.nodes → n.heads ≡ set c.heads b word → n.nodes ≡ c.nodes → AreWords shape n (set words (head_word shape b) word)
  head_words b word there low_stub heads nodes = record {
    wide = length-set words (head_word shape b) word ∙ wide_same nodes;
    head = λ d low. elim (cases_eq d b) [
      | inl same ↦
          subst (λ (d : ℕ). get_or (set words (head_word shape b) word) (head_word shape d) 0 ≡ head_in n d) (sym same)
          (get_or-set_same words (head_word shape b) word 0 (omega (arith, are.wide, low_stub))
          ∙ sym (ap (λ (xs : List ℕ). slice_index_or xs b 0) heads ∙ get_or-set_same c.heads b word 0 there))
      | inr other ↦
          get_or-set_other words (head_word shape b) (head_word shape d) word 0 (λ e. other (omega (arith, e)))
          ∙ (are.head d (omega (arith, low, ap (λ (xs : List ℕ). length xs) heads, length-set c.heads b word))
          ∙ sym (ap (λ (xs : List ℕ). slice_index_or xs d 0) heads ∙ get_or-set_other c.heads b d word 0 other))
    ];
    next = λ k low. get_or-set_other words (head_word shape b) (next_word k) word 0 (λ e. omega (arith, e)) ∙ kind_same nodes (λ z. z.next) next_word are.next k low;
    turn = λ k low. get_or-set_other words (head_word shape b) (turn_word k) word 0 (λ e. omega (arith, e)) ∙ kind_same nodes (λ z. z.turn) turn_word are.turn k low;
    line = λ k low. get_or-set_other words (head_word shape b) (line_word_of k) word 0 (λ e. omega (arith, e)) ∙ kind_same nodes (λ z. z.line) line_word_of are.line k low;
    amount = λ k low. get_or-set_other words (head_word shape b) (amount_word_of k) word 0 (λ e. omega (arith, e)) ∙ kind_same nodes (λ z. z.amount) amount_word_of are.amount k low;
  }

  -- a store of one word of a node
  module _ (x : ℕ) (low : x < length c.nodes) (node : Node) (heads : n.heads ≡ c.heads) (nodes : n.nodes ≡ (with_node x node c).nodes) where
    long : length n.nodes ≡ length c.nodes
    long = ap (λ (xs : List Node). length xs) nodes ∙ length-set c.nodes x node

    node_now : (k : ℕ) → node_at n k ≡ node_at (with_node x node c) k
    node_now k = ap (λ xs. slice_index_or xs k empty_node) nodes

    -- the words of one kind, which are the store's
    its_kind : (f : Node → ℕ) (word : ℕ) (place : ℕ → ℕ) → word ≡ f node → place x < length words → ((k : ℕ) → ¬ (k ≡ x) → ¬ (place k ≡ place x)) → ((k : ℕ) → k < length c.nodes → get_or words (place k) 0 ≡ f (node_at c k))
        → (k : ℕ) → k < length n.nodes → get_or (set words (place x) word) (place k) 0 ≡ f (node_at n k)
    its_kind f word place is within apart was k below = elim (cases_eq k x) [
      | inl same ↦
          subst (λ (k : ℕ). get_or (set words (place x) word) (place k) 0 ≡ f (node_at n k)) (sym same)
          (get_or-set_same words (place x) word 0 within ∙ (is ∙ sym (ap f (node_now x ∙ get_or-set_same c.nodes x node empty_node low))))
      | inr other ↦
          get_or-set_other words (place x) (place k) word 0 (apart k other)
          ∙ (was k (omega (arith, below, long)) ∙ sym (ap f (node_now k ∙ get_or-set_other c.nodes x k node empty_node other)))
    ]

    -- the words of another kind
    other_kind : (f : Node → ℕ) (word i : ℕ) (place : ℕ → ℕ) → f node ≡ f (node_at c x) → ((k : ℕ) → ¬ (place k ≡ i)) → ((k : ℕ) → k < length c.nodes → get_or words (place k) 0 ≡ f (node_at c k))
        → (k : ℕ) → k < length n.nodes → get_or (set words i word) (place k) 0 ≡ f (node_at n k)
    other_kind f word i place same apart was k below =
        get_or-set_other words i (place k) word 0 (apart k)
        ∙ (was k (omega (arith, below, long)) ∙ (sym (field_kept c x node low f same k) ∙ sym (ap f (node_now k))))

    wide_now : (i word : ℕ) → length (set words i word) ≡ next_word (length n.nodes)
    wide_now i word = length-set words i word ∙ (are.wide ∙ ap next_word (sym long))

    pub next_words : (word : ℕ) → word ≡ node.next → node.turn ≡ (node_at c x).turn → node.line ≡ (node_at c x).line → node.amount ≡ (node_at c x).amount → AreWords shape n (set words (next_word x) word)
    next_words word is turn line amount = record {
      wide = wide_now (next_word x) word;
      head = λ b there. get_or-set_other words (next_word x) (head_word shape b) word 0 (λ e. omega (arith, e)) ∙ (are.head b (still_there heads b there) ∙ sym (same_head heads b));
      next = its_kind (λ z. z.next) word next_word is (omega (arith, are.wide, low)) (λ k other e. other (omega (arith, e))) are.next;
      turn = other_kind (λ z. z.turn) word (next_word x) turn_word turn (λ k e. omega (arith, e)) are.turn;
      line = other_kind (λ z. z.line) word (next_word x) line_word_of line (λ k e. omega (arith, e)) are.line;
      amount = other_kind (λ z. z.amount) word (next_word x) amount_word_of amount (λ k e. omega (arith, e)) are.amount;
    }

    pub turn_words : (word : ℕ) → word ≡ node.turn → node.next ≡ (node_at c x).next → node.line ≡ (node_at c x).line → node.amount ≡ (node_at c x).amount → AreWords shape n (set words (turn_word x) word)
    turn_words word is next line amount = record {
      wide = wide_now (turn_word x) word;
      head = λ b there. get_or-set_other words (turn_word x) (head_word shape b) word 0 (λ e. omega (arith, e)) ∙ (are.head b (still_there heads b there) ∙ sym (same_head heads b));
      next = other_kind (λ z. z.next) word (turn_word x) next_word next (λ k e. omega (arith, e)) are.next;
      turn = its_kind (λ z. z.turn) word turn_word is (omega (arith, are.wide, low)) (λ k other e. other (omega (arith, e))) are.turn;
      line = other_kind (λ z. z.line) word (turn_word x) line_word_of line (λ k e. omega (arith, e)) are.line;
      amount = other_kind (λ z. z.amount) word (turn_word x) amount_word_of amount (λ k e. omega (arith, e)) are.amount;
    }

    pub line_words : (word : ℕ) → word ≡ node.line → node.next ≡ (node_at c x).next → node.turn ≡ (node_at c x).turn → node.amount ≡ (node_at c x).amount → AreWords shape n (set words (line_word_of x) word)
    line_words word is next turn amount = record {
      wide = wide_now (line_word_of x) word;
      head = λ b there. get_or-set_other words (line_word_of x) (head_word shape b) word 0 (λ e. omega (arith, e)) ∙ (are.head b (still_there heads b there) ∙ sym (same_head heads b));
      next = other_kind (λ z. z.next) word (line_word_of x) next_word next (λ k e. omega (arith, e)) are.next;
      turn = other_kind (λ z. z.turn) word (line_word_of x) turn_word turn (λ k e. omega (arith, e)) are.turn;
      line = its_kind (λ z. z.line) word line_word_of is (omega (arith, are.wide, low)) (λ k other e. other (omega (arith, e))) are.line;
      amount = other_kind (λ z. z.amount) word (line_word_of x) amount_word_of amount (λ k e. omega (arith, e)) are.amount;
    }

    pub amount_words : (word : ℕ) → word ≡ node.amount → node.next ≡ (node_at c x).next → node.turn ≡ (node_at c x).turn → node.line ≡ (node_at c x).line → AreWords shape n (set words (amount_word_of x) word)
    amount_words word is next turn line = record {
      wide = wide_now (amount_word_of x) word;
      head = λ b there. get_or-set_other words (amount_word_of x) (head_word shape b) word 0 (λ e. omega (arith, e)) ∙ (are.head b (still_there heads b there) ∙ sym (same_head heads b));
      next = other_kind (λ z. z.next) word (amount_word_of x) next_word next (λ k e. omega (arith, e)) are.next;
      turn = other_kind (λ z. z.turn) word (amount_word_of x) turn_word turn (λ k e. omega (arith, e)) are.turn;
      line = other_kind (λ z. z.line) word (amount_word_of x) line_word_of line (λ k e. omega (arith, e)) are.line;
      amount = its_kind (λ z. z.amount) word amount_word_of is (omega (arith, are.wide, low)) (λ k other e. other (omega (arith, e))) are.amount;
    }
