use Rattle.std.proofs.Common.{arith, ap, length, vec_items, ◌+◌, ◌≡◌, ◌∙◌, sym}
use Rattle.std.specs.Prelude.{option_map}
use Rattle.std.specs.Vec.Iter.{into_iter_items, into_iter_len}
use Rattle.std.proofs.lemmas.List.{length-map}
use Rattle.split_run.specs.Reading.{inboxes_by}
use Rattle.split_run.specs.Running.{IsReadBy}
use Rattle.split_run.proofs.RunningLemmas.{are_apart, first_given, next_given, none_merged, one_merged, rest_given}
use Rattle.split_run.proofs.running.merge_all.Goals as goal

pub loop-reader-init : goal.loop-reader-init
loop-reader-init g c =
    let opened = inboxes_by g.B.Mailboxes.receiver c.args.opened.value.items in
    let gives = c.into_iter-reader-iterator.ensures.into_iter_gives.0 in
    let size : length (into_iter_items c.into_iter-reader-iterator.result) ≡ c.args.readers = ap length gives ∙ c.requires.count.1 in (
      0,
      omega (arith, size),
      first_given (IsReadBy g.B.Mailboxes.receiver c.args.workers c.args.readers c.args.opened.value.items) gives (omega (arith, size)) c.requires.read,
      none_merged c.args.workers c.args.readers opened c.args.accounts (inboxes_by g.B.Mailboxes.receiver c.in_ok-inboxes.inboxes.items) c.in_ok-book.book
          (length-map c.args.opened.value.items (option_map g.B.Mailboxes.receiver) ∙ c.requires.count.0) c.in_ok-inboxes.ensures c.in_ok-book.ensures,
    )

pub merge-requires-after_bounds : goal.merge-requires-after_bounds
merge-requires-after_bounds g c κs within =
    let was = c.loop-reader.invariant in
    let reader = c.in-Some-reader.reader in
    let back =
    next_given (IsReadBy g.B.Mailboxes.receiver c.args.workers c.args.readers c.args.opened.value.items) (into_iter_items c.loop-reader.reader-iterator) (into_iter_items c.next.new.self) c.in-Some.reader was.0
    (into_iter_len c.loop-reader.reader-iterator) (into_iter_len c.next.new.self) c.in-Some.ensures.steps.0 c.in-Some.ensures.steps.1 was.2 reader c.in-Some-reader.is in
    omega (arith, back.1.count, back.2.count, was.3.count, length-map reader.inboxes.items (option_map g.B.Mailboxes.receiver), length-map (vec_items c.loop-reader.inboxes) (option_map g.B.Mailboxes.receiver))

pub join-requires-clause-accounts : goal.join-requires-clause-accounts
join-requires-clause-accounts g c =
    let was = c.loop-reader.invariant in
    let reader = c.in-Some-reader.reader in
    let back =
    next_given (IsReadBy g.B.Mailboxes.receiver c.args.workers c.args.readers c.args.opened.value.items) (into_iter_items c.loop-reader.reader-iterator) (into_iter_items c.next.new.self) c.in-Some.reader was.0
    (into_iter_len c.loop-reader.reader-iterator) (into_iter_len c.next.new.self) c.in-Some.ensures.steps.0 c.in-Some.ensures.steps.1 was.2 reader c.in-Some-reader.is in
    back.2.accounts ∙ back.1.count ∙ sym was.3.accounts

pub join-requires-clause-apart : goal.join-requires-clause-apart
join-requires-clause-apart g c =
    let was = c.loop-reader.invariant in
    let reader = c.in-Some-reader.reader in
    let opened = inboxes_by g.B.Mailboxes.receiver c.args.opened.value.items in
    let back =
    next_given (IsReadBy g.B.Mailboxes.receiver c.args.workers c.args.readers c.args.opened.value.items) (into_iter_items c.loop-reader.reader-iterator) (into_iter_items c.next.new.self) c.in-Some.reader was.0
    (into_iter_len c.loop-reader.reader-iterator) (into_iter_len c.next.new.self) c.in-Some.ensures.steps.0 c.in-Some.ensures.steps.1 was.2 reader c.in-Some-reader.is in
    let now = inboxes_by g.B.Mailboxes.receiver (vec_items c.loop-reader.inboxes) in
    are_apart c.args.workers c.args.readers opened was.0 now (inboxes_by g.B.Mailboxes.receiver reader.inboxes.items) now c.loop-reader.book reader.book c.loop-reader.book was.3 back

pub loop-reader-preserved : goal.loop-reader-preserved
loop-reader-preserved g c =
    let was = c.loop-reader.invariant in
    let reader = c.in-Some-reader.reader in
    let opened = inboxes_by g.B.Mailboxes.receiver c.args.opened.value.items in
    let back =
    next_given (IsReadBy g.B.Mailboxes.receiver c.args.workers c.args.readers c.args.opened.value.items) (into_iter_items c.loop-reader.reader-iterator) (into_iter_items c.next.new.self) c.in-Some.reader was.0
    (into_iter_len c.loop-reader.reader-iterator) (into_iter_len c.next.new.self) c.in-Some.ensures.steps.0 c.in-Some.ensures.steps.1 was.2 reader c.in-Some-reader.is in
    let now = inboxes_by g.B.Mailboxes.receiver (vec_items c.loop-reader.inboxes) in
    let after = inboxes_by g.B.Mailboxes.receiver (vec_items c.merge.new.inboxes) in
    let size = length-map (vec_items c.loop-reader.inboxes) (option_map g.B.Mailboxes.receiver) in (
      was.0 + 1,
      omega (arith, was.1, c.in-Some.ensures.steps.1),
      rest_given (IsReadBy g.B.Mailboxes.receiver c.args.workers c.args.readers c.args.opened.value.items) (into_iter_items c.loop-reader.reader-iterator) (into_iter_items c.next.new.self) c.in-Some.reader was.0
          (into_iter_len c.loop-reader.reader-iterator) (into_iter_len c.next.new.self) c.in-Some.ensures.steps.0 c.in-Some.ensures.steps.1 was.2,
      one_merged c.args.workers c.args.readers opened was.0 now (inboxes_by g.B.Mailboxes.receiver reader.inboxes.items) after c.loop-reader.book reader.book c.join.new.self was.3 back
          (length-map (vec_items c.merge.new.inboxes) (option_map g.B.Mailboxes.receiver) ∙ c.merge.ensures.count ∙ sym size)
          c.merge.ensures.each
          c.join.ensures,
    )
