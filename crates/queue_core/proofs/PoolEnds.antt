-- EndLine in a pool: an end mark is filled in its mailbox, and its line is stored.
use Rattle.std.proofs.Common.{◌≡◌, ◌∙◌, ◌<◌, ◌++◌, ◌∷◌, [], ℕ, List, false, length, not, ap, set, refl, subst, get_or-set_same}
use Rattle.std.proofs.lemmas.Bool.{and_parts, not-true}
use Rattle.std.proofs.lemmas.List.{set-set}
use Rattle.queue_core.specs.declared.item.Item.TheVariants.{End}
use Rattle.queue_core.specs.declared.sender.Caller.{Caller}
use Rattle.queue_core.specs.declared.sender.SenderPoint.TheVariants as sends
use Rattle.queue_core.specs.declared.step.Step.TheVariants as step
use Rattle.queue_core.specs.Events.{Event}
use Rattle.queue_core.specs.Events.Event.{Fill}
use Rattle.queue_core.specs.PoolSteps.{is_at_rest}
use Rattle.queue_core.specs.StoredWords.{line_word}
use Rattle.queue_core.specs.Pool.{MayFillIn, Pool, PoolLeads, after_in}
use Rattle.queue_core.specs.Pool.PoolLeads.{more as pool_more}
use Rattle.queue_core.specs.Pooled.{IsPooled, Pooled, has_ended_in, node_at, node_of, sender_at, with_node, with_point}
use Rattle.queue_core.specs.PoolShows.{ShowsPool}
use Rattle.queue_core.specs.PoolLaws.{PoolStepShows}
use Rattle.queue_core.proofs.PooledKept.{keeps_point}
use Rattle.queue_core.proofs.PoolFill.{fill_shows, going_low}
use Rattle.queue_core.proofs.PoolFree.{all_sent, not_ended}
use Rattle.queue_core.proofs.PoolFresh.{point_own}
use Rattle.queue_core.proofs.PoolKept.{holds_in}
use Rattle.queue_core.proofs.PoolPosts.{posts_after}
use Rattle.queue_core.proofs.PoolStores.{line_stored}
use Rattle.queue_core.proofs.StepLemmas.{passed, rest_is}

module _ (c : Pooled) (ok : IsPooled c) (events : List (ℕ × Event)) (q : Pool) (leads : PoolLeads c.ring events q) (shows : ShowsPool c q) (b p : ℕ) (low : b < length c.heads)
    (sender_low : p < length c.senders) (rest : (sender_at c p).point ≡ sends.Rest) (going : has_ended_in c b p ≡ false) where
  abbrev q' : Pool
  q' = after_in b (Fill p End) q

  abbrev sender' : Caller
  sender' = record (sender_at c p) { point = sends.Line End; mailbox = b }

  abbrev n : Pooled
  n = with_point b p (sends.Line End) c

  may_end : MayFillIn c.ring q b p End
  may_end =
      let h = posts_after c.ring ok.some_nodes events q leads in
      let holds = holds_in c ok events q leads shows b low in
      record { all_sent = all_sent c ok q h holds shows p sender_low rest; not_ended = not_ended c ok q h holds shows p sender_low rest b low going; free = tt }

  end_filled : ShowsPool n q'
  end_filled = fill_shows c ok events q leads shows b p low sender_low rest End may_end

  -- ---- its line is stored

  abbrev node : ℕ
  node = node_of c b p End

  abbrev ended : Pooled
  ended = with_point b p (sends.Amount End) (with_node node (record (node_at c node) { line = line_word End }) c)

  end_stored : ShowsPool ended q'
  end_stored =
      let stored = line_stored b p (events ++ (b, Fill p End) ∷ []) q' n low (keeps_point c ok b p low (sends.Line End) tt) (pool_more events q b (Fill p End) leads may_end) end_filled End (point_own c b p sender_low sender' refl) in
      let own : sender_at n p ≡ sender' = get_or-set_same c.senders p sender' _ sender_low in
      let twice : set (set c.senders p sender') p (record (sender_at n p) { point = sends.Amount End; mailbox = b }) ≡ set c.senders p (record (sender_at c p) { point = sends.Amount End; mailbox = b }) =
      set-set c.senders p sender' (record (sender_at n p) { point = sends.Amount End; mailbox = b }) ∙ ap (λ (s : Caller). set c.senders p (record s { point = sends.Amount End; mailbox = b })) own in
      subst (λ xs. ShowsPool (record (with_node node (record (node_at c node) { line = line_word End }) c) { senders = xs }) q') twice stored

pub pool_end_line : (b p : ℕ) → PoolStepShows b (step.EndLine p)
pool_end_line b p events q c n low ok leads shows moved =
    let due = passed _ _ n moved in
    let parts = and_parts (is_at_rest (sender_at c p).point) (not (has_ended_in c b p)) due.0 in
    let rest = rest_is (sender_at c p).point parts.0 in
    let going = not-true (has_ended_in c b p) parts.1 in
    let sender_low = going_low c ok b p going in
    (may_end c ok events q leads shows b p low sender_low rest going, subst (λ n. ShowsPool n (after_in b (Fill p End) q)) due.1 (end_stored c ok events q leads shows b p low sender_low rest going))
