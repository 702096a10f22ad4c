use Rattle.split_run.specs.Reading.{inboxes_by}
use Rattle.split_run.proofs.ReadingLemmas.{served_in_order}
use Rattle.split_run.proofs.reading.Reader.into_result.Goals as goal

pub returns : goal.returns
returns g c =
    served_in_order c.args.self.workers (inboxes_by g.B.Mailboxes.receiver c.args.self.opened.value.items) (inboxes_by g.B.Mailboxes.receiver c.args.self.inboxes.items) c.args.self.journal c.into_book.result
    c.into_book.ensures.count c.into_book.ensures.each c.requires
