use Rattle.std.proofs.Common.{arith, rules, get_or, length, set, sym, vec_items, ◌+◌, ◌<◌, ◌≡◌, ◌∙◌}
use Rattle.std.specs.Prelude.{option_map}
use Rattle.std.specs.Vec.Iter.{into_iter_items}
use Rattle.std.proofs.lemmas.List.{length-map, length-set}
use Rattle.split_run.specs.Reading.{inboxes_by}
use Rattle.split_run.proofs.RunningLemmas.{put_at_place, put_more}
use Rattle.split_run.proofs.running.merge.Goals as goal

pub loop-inbox-preserved : goal.loop-inbox-preserved
loop-inbox-preserved g c =
    let was = c.loop-inbox.invariant in
    let all = into_iter_items c.into_iter-inbox-iterator.result in
    let account = c.loop-inbox.account in
    let items = vec_items c.loop-inbox.inboxes in
    let old = vec_items c.args.inboxes.now in
    let place = c.index_mut.result.now in
    let inbox = c.in-Some.inbox in
    let is : inbox ≡ get_or all account inbox = let h = was.2 0 inbox in grind (arith, rules) in
    let low : account < length all = grind (arith, rules) in
    let whole : length all ≡ length old = grind (arith, rules) in
    let within : account < length items = omega (arith, low, whole, was.0, length-map items (option_map g.B.Mailboxes.receiver), length-map old (option_map g.B.Mailboxes.receiver)) in
    let count : length (inboxes_by g.B.Mailboxes.receiver (set items account c.replace_if_some.new.place)) ≡ length (inboxes_by g.B.Mailboxes.receiver items) =
    length-map (set items account c.replace_if_some.new.place) (option_map g.B.Mailboxes.receiver) ∙ length-set items account c.replace_if_some.new.place ∙ sym (length-map items (option_map g.B.Mailboxes.receiver)) in
    let more =
    put_more (inboxes_by g.B.Mailboxes.receiver old) (inboxes_by g.B.Mailboxes.receiver all) (inboxes_by g.B.Mailboxes.receiver items) (inboxes_by g.B.Mailboxes.receiver (set items account c.replace_if_some.new.place)) account was.0
    (omega (arith, low, whole, length-map old (option_map g.B.Mailboxes.receiver)))
    (put_at_place g.B.Mailboxes.receiver items account inbox place c.replace_if_some.new.place all within low c.index_mut.ensures.value is c.replace_if_some.ensures)
    was.3 was.4 in (
      count ∙ was.0,
      search rules,
      (λ k d below. let h = was.2 (k + 1) d in grind rules),
      more.0,
      more.1,
    )
