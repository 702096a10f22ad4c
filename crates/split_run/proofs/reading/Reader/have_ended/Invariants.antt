use Rattle.std.specs.Prelude.{◌≡◌, ◌⊎◌, ◌<◌, ◌≤◌, ℕ, None, slice_index_or}
use Rattle.split_run.specs.Reading.{inboxes_by}
use Rattle.split_run.proofs.reading.Reader.have_ended.Given as goal

-- the mailboxes so far have ended
abbrev pub invariant-loop-account : goal.invariant-loop-account
invariant-loop-account g l = (account : ℕ) → account < l.account → (slice_index_or (inboxes_by g.B.Mailboxes.receiver l.self.inboxes.items) account None ≡ None) ⊎ (l.self.workers ≤ slice_index_or l.self.ends.items account 0)
