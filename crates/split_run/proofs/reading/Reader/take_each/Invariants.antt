use Rattle.std.specs.Prelude.{◌≡◌, length}
use Rattle.split_run.specs.Reading.{HasKept, IsSameReader}
use Rattle.split_run.proofs.reading.Reader.take_each.Given as goal

abbrev pub invariant-loop-turn : goal.invariant-loop-turn
invariant-loop-turn g l = record {
  taken : HasKept g.B.Mailboxes.receiver l.self;
  same : IsSameReader l.initial.self l.self;
  accounts : length l.self.journal ≡ length l.initial.self.journal;
}
