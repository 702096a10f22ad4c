use Rattle.std.specs.Prelude.{ℕ, ◌≡◌, ◌<◌, All, length, slice_index_or}
use Rattle.split_run.specs.Reading.{HasKept, inboxes_by}
use Rattle.split_run.specs.Opening.{AreDealt, AreLeft}
use Rattle.split_run.proofs.running.opening.readers_of.Given as goal

-- the readers so far have their mailboxes, and the others are left
abbrev pub invariant-loop-reader : goal.invariant-loop-reader
invariant-loop-reader g l = record {
  left : AreLeft l.readers l.reader (inboxes_by g.B.Mailboxes.receiver l.initial.inboxes.items) (inboxes_by g.B.Mailboxes.receiver l.inboxes.items);
  count : length l.all.items ≡ l.reader;
  dealt : (reader : ℕ) (d : _) → reader < l.reader → AreDealt l.readers reader (inboxes_by g.B.Mailboxes.receiver l.initial.inboxes.items) (inboxes_by g.B.Mailboxes.receiver (slice_index_or l.all.items reader d).opened.value.items);
  taken : All (λ r. (r.workers ≡ l.workers) × HasKept g.B.Mailboxes.receiver r) l.all.items;
}
