use Rattle.std.specs.Prelude.{◌≡◌, length}
use Rattle.split_run.specs.Reading.{HasKept, IsSameReader}
use Rattle.split_run.proofs.reading.Reader.take_told.Given as goal

abbrev pub invariant-loop : goal.invariant-loop
invariant-loop g l = record {
  taken : HasKept g.B.Mailboxes.receiver l.self;
  same : IsSameReader l.initial.self l.self;
  accounts : length l.self.journal ≡ length l.initial.self.journal;
}
