-- The core of a pool that was just opened keeps to what every core does.
use Rattle.std.proofs.Common.{◌≡◌, ◌+◌, ◌*◌, ◌<◌, ◌≤◌, ◌∙◌, ℕ, All, None, Option, false, length, map, refl, subst, sym, arith}
use Rattle.std.specs.List.{range_with_len}
use Rattle.std.proofs.lemmas.List.{length-replicate}
use Rattle.std.proofs.lemmas.List.Elements.{All-replicate}
use Rattle.std.proofs.lemmas.List.FromFn.{get_or-map-range_with_len, length-map-range_with_len}
use Rattle.queue_core.specs.declared.TheConstants.{MOST_MAILBOXES, MOST_NODES, MOST_POOL_POSTS, MOST_SENDERS}
use Rattle.queue_core.specs.StoredWords.{empty_node, link_to}
use Rattle.queue_core.specs.Pooled.{IsHolder, IsPooled, Pooled, new_caller, new_reader, opening_pooled}
use Rattle.queue_core.proofs.PooledKept.{IsCaller, IsHead, IsNext, IsReading}

-- what holds of each number below a bound holds of all
all_below : {X : Type 0} (P : X → Type 0) (f : ℕ → X) (n : ℕ) → ((k : ℕ) → k < n → P (f k)) → All P (map f (range_with_len 0 n))
all_below P f n each k d within =
    let low : k < n = omega (arith, within, length-map-range_with_len f 0 n) in
    subst P (sym (get_or-map-range_with_len f 0 n k k d low (omega arith))) (each k low)

module _ (senders mailboxes ring most : ℕ) (some_senders : 0 < senders) (few_senders : senders ≤ MOST_SENDERS) (some_mailboxes : 0 < mailboxes) (few_mailboxes : mailboxes ≤ MOST_MAILBOXES)
    (some_nodes : 0 < ring) (few_nodes : ring ≤ MOST_NODES) (few_posts : most ≤ MOST_POOL_POSTS) where
  abbrev first_stub : ℕ
  first_stub = senders * (ring + mailboxes)

  abbrev all : ℕ
  all = first_stub + mailboxes

  abbrev core : Pooled
  core = opening_pooled senders mailboxes ring most

  pub many_heads : length core.heads ≡ mailboxes
  many_heads = length-map-range_with_len (λ b. link_to (first_stub + b)) 0 mailboxes

  pub many_senders : length core.senders ≡ senders
  many_senders = length-replicate senders new_caller

  many_nodes : length core.nodes ≡ all
  many_nodes = length-replicate all empty_node

  many_holders : length core.holders ≡ all
  many_holders = length-replicate {A = Option ℕ} all None

  pub opening_keeps : IsPooled core
  opening_keeps = record {
    some_senders = omega (arith, many_senders, some_senders);
    few_senders = omega (arith, many_senders, few_senders);
    some_mailboxes = omega (arith, many_heads, some_mailboxes);
    few_mailboxes = omega (arith, many_heads, few_mailboxes);
    some_nodes = some_nodes;
    few_nodes = few_nodes;
    few_posts = few_posts;
    readers = rw (many_heads, length-map-range_with_len (λ b. new_reader (first_stub + b)) 0 mailboxes) refl;
    ended = rw (many_heads, many_senders, length-replicate (senders * mailboxes) false) refl;
    nodes = rw (many_heads, many_senders, many_nodes) refl;
    holders = many_holders ∙ sym many_nodes;
    heads = all_below (IsHead core) (λ b. link_to (first_stub + b)) mailboxes (λ k low. (omega arith, omega (arith, low, many_nodes)));
    links = All-replicate (IsNext core) all empty_node (omega arith);
    held = All-replicate (IsHolder (length core.heads)) all None tt;
    points = All-replicate (IsCaller core) senders new_caller (omega (arith, many_heads, some_mailboxes), omega arith, tt);
    tails = all_below (IsReading core) (λ b. new_reader (first_stub + b)) mailboxes (λ k low. (omega (arith, low, many_nodes), tt));
  }
