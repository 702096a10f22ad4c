use Rattle.std.specs.Prelude.{◌≡◌, ◌*◌, ◌-◌}
use Rattle.split_run.specs.Divisions.{division_by}
use Rattle.split_run.specs.Sending.{HasSpent, HaveSent}
use Rattle.split_run.proofs.WorkingLemmas.{postings_from}
use Rattle.split_run.proofs.working.work_block.Given as goal

-- the lines so far are sent
abbrev pub invariant-loop-place : goal.invariant-loop-place
invariant-loop-place g l =
    let was = g.B.Mailboxes.senders l.initial.senders in
    let now = g.B.Mailboxes.senders l.senders in record {
      sent : HaveSent g.B.Mailboxes.is_shared was now (λ account. postings_from (division_by l.inputs.tis.now l.inputs.registry.now) account l.inputs.usage.now (64 * l.block) (l.place - 64 * l.block));
      spent : HasSpent g.B.Mailboxes.is_shared was now (257 * (l.place - 64 * l.block));
      claims : l.claims.room ≡ l.initial.claims.room;
      portions : l.portions.room ≡ l.initial.portions.room;
    }
