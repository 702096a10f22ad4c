use Rattle.std.proofs.Common.{None, sym, ◌∙◌}
use Rattle.std.proofs.lemmas.List.{get_or_default}
use Rattle.split_run.proofs.ReadingLemmas.{asked_at}
use Rattle.split_run.proofs.reading.receive_at.Goals as goal

pub returns-in-Some : goal.returns-in-Some
returns-in-Some g c =
    let items = c.args.inboxes.now.items in
    asked_at g.B.Mailboxes.receiver items c.args.account c.in-Some.receiver c.receive.new.inbox c.receive.result c.requires
    (get_or_default items c.args.account None c.index_mut.result.now c.requires ∙ (sym c.index_mut.ensures.value ∙ c.in-Some.is)) c.receive.ensures
