use Rattle.std.specs.Prelude.{◌≡◌, ◌*◌, ◌-◌, length}
use Rattle.block_draw.specs.Views.{drawer_of}
use Rattle.split_run.specs.Blocks.{blocks_of, postings_of}
use Rattle.split_run.specs.Divisions.{division_by}
use Rattle.split_run.specs.Sending.{AreReadyFor, HaveSent}
use Rattle.split_run.proofs.WorkingLemmas.{above}
use Rattle.split_run.proofs.working.work_on.Given as goal

-- the blocks that were drawn so far are sent
abbrev pub invariant-loop : goal.invariant-loop
invariant-loop g l = record {
  sent : HaveSent g.B.Mailboxes.is_shared (g.B.Mailboxes.senders l.initial.senders) (g.B.Mailboxes.senders l.senders) (λ account. postings_of (division_by l.inputs.tis.now l.inputs.registry.now) l.inputs.usage.now account (drawer_of l.drawer).drawn);
  ready : AreReadyFor g.B.Mailboxes.is_shared (g.B.Mailboxes.senders l.senders) (length l.inputs.usage.now - 64 * above (drawer_of l.drawer).drawn);
  blocks : (drawer_of l.drawer).blocks ≡ blocks_of (length l.inputs.usage.now);
  drawer : ((drawer_of l.drawer).draw ≡ (drawer_of l.initial.drawer).draw) × ((drawer_of l.drawer).number ≡ (drawer_of l.initial.drawer).number);
  claims : l.claims.room ≡ l.initial.claims.room;
  portions : l.portions.room ≡ l.initial.portions.room;
}
