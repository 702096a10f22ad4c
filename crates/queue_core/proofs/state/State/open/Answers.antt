-- Each mailbox has the next stub.
use Rattle.std.proofs.Common.{◌≡◌, ◌∙◌, ◌+◌, ◌++◌, ◌∷◌, ◌*◌, [], ℕ, Bool, List, None, Option, ap, arith, false, map, refl, replicate, rules, sym}
use Rattle.std.specs.List.{range_with_len}
use Rattle.std.proofs.lemmas.List.FromFn.{map-range_with_len_more}
use Rattle.queue_core.specs.declared.reader.Reader.{Reader}
use Rattle.queue_core.specs.declared.sender.Caller.{Caller}
use Rattle.queue_core.specs.declared.words.Node.{Node}
use Rattle.queue_core.specs.StoredWords.{empty_node, link_to}
use Rattle.queue_core.specs.Pooled.{new_caller, new_reader, opening_pooled}
use Rattle.queue_core.proofs.state.State.open.Goals as goal

-- one more is that of the next number
one_more : {X : Type 0} (f : ℕ → X) (n : ℕ) (xs grown : List X) (x : X) → xs ≡ map f (range_with_len 0 n) → x ≡ f n → grown ≡ xs ++ x ∷ [] → grown ≡ map f (range_with_len 0 (n + 1))
one_more {X} f n xs grown x so_far new is = is ∙ ((λ i. so_far i ++ new i ∷ []) ∙ sym (map-range_with_len_more f 0 n n (omega arith)))

pub loop-mailbox-preserved : goal.loop-mailbox-preserved
loop-mailbox-preserved c = (
  one_more _ _ _ _ _ c.loop-mailbox.invariant.0 c.link_to.ensures c.in_ok-push.ensures.items,
  one_more _ _ _ _ _ c.loop-mailbox.invariant.1 refl c.in_ok-push-2.ensures.items,
)

-- the parts of a core in which nothing has happened
opened : (senders mailboxes ring most end : ℕ) (heads : List ℕ) (nodes : List Node) (holders : List (Option ℕ)) (callers : List Caller) (ended : List Bool) (readers : List Reader) → end ≡ mailboxes
    → heads ≡ map (λ b. link_to (senders * (ring + mailboxes) + b)) (range_with_len 0 end) → nodes ≡ replicate (senders * (ring + mailboxes) + mailboxes) empty_node
    → holders ≡ replicate (senders * (ring + mailboxes) + mailboxes) None → callers ≡ replicate senders new_caller → ended ≡ replicate (senders * mailboxes) false
    → readers ≡ map (λ b. new_reader (senders * (ring + mailboxes) + b)) (range_with_len 0 end)
    → record { ring = ring; most = most; heads = heads; nodes = nodes; holders = holders; senders = callers; ended = ended; readers = readers } ≡ opening_pooled senders mailboxes ring most
opened senders mailboxes ring most end heads nodes holders callers ended readers all same_heads same_nodes same_holders same_callers same_ended same_readers = λ i. record {
  ring = ring;
  most = most;
  heads = (same_heads ∙ ap (λ (n : ℕ). map (λ b. link_to (senders * (ring + mailboxes) + b)) (range_with_len 0 n)) all) i;
  nodes = same_nodes i;
  holders = same_holders i;
  senders = same_callers i;
  ended = same_ended i;
  readers = (same_readers ∙ ap (λ (n : ℕ). map (λ b. new_reader (senders * (ring + mailboxes) + b)) (range_with_len 0 n)) all) i;
}

pub returns : goal.returns
returns c =
    opened c.args.senders c.args.mailboxes c.args.nodes c.args.most c.loop-mailbox.mailbox c.loop-mailbox.heads.items c.in_ok-vec.field-0.items c.in_ok-vec-2.field-0.items c.in_ok-vec-3.field-0.items
    c.in_ok-vec-4.field-0.items c.loop-mailbox.readers.items (omega (arith, c.loop-mailbox.auto.mailbox-end, c.loop-mailbox-test.false)) c.loop-mailbox.invariant.0 (c.in_ok-vec.ensures.items_if_clones_equal (λ y is. is)) (c.in_ok-vec-2.ensures.items_if_clones_equal (search rules)) (c.in_ok-vec-3.ensures.items_if_clones_equal (λ y is. is)) (c.in_ok-vec-4.ensures.items_if_clones_equal (λ y is. is)) c.loop-mailbox.invariant.1
