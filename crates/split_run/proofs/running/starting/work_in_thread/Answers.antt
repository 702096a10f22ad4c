use Rattle.std.proofs.Common.{◌≡◌, ◌∙◌, drop, length}
use Rattle.std.proofs.lemmas.List.{take_at}
use Rattle.split_run.proofs.running.starting.work_in_thread.Goals as goal

pub returns-then-done : goal.returns-then-done
returns-then-done g c =
    let new = c.work_on-done.new.senders in
    let whole : length new ≡ c.args.worker.senders.len = c.work_on-done.auto.senders ∙ c.as_mut_slice.ensures.len in
    let all = take_at new (drop (length new) c.args.worker.senders.items) c.args.worker.senders.len whole in
    record {
      sent = rw all (rw c.as_mut_slice.ensures.value at (c.work_on-done.ensures.ended c.if-done.true));
      same = (c.work_on-done.ensures.drawer.0, c.work_on-done.ensures.drawer.1);
      done = c.work_on-done.ensures.drawn c.if-done.true;
    }
