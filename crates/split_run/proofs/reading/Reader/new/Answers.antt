use Rattle.std.proofs.Common.{rules, length, ◌≡◌, ◌∙◌}
use Rattle.std.proofs.lemmas.List.{length-map}
use Rattle.std.specs.Prelude.{option_map}
use Rattle.split_run.specs.Reading.{inboxes_by}
use Rattle.split_run.proofs.ReadingLemmas.{nothing_taken}
use Rattle.split_run.proofs.reading.Reader.new.Goals as goal

pub returns-clause-taken : goal.returns-clause-taken
returns-clause-taken g c =
    let inboxes = inboxes_by g.B.Mailboxes.receiver c.args.inboxes.items in
    let count : length inboxes ≡ c.args.accounts = length-map c.args.inboxes.items (option_map g.B.Mailboxes.receiver) ∙ c.requires.count in
    rw c.of-opened.ensures (nothing_taken c.args.workers c.args.accounts inboxes c.in_ok-ends.ends.items c.in_ok-journal.journal count (grind rules) c.in_ok-journal.ensures c.requires.untouched)
