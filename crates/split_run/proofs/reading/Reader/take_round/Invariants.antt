use Rattle.split_run.specs.Reading.{HasKept, IsSameReader}
use Rattle.split_run.proofs.reading.Reader.take_round.Given as goal

abbrev pub invariant-loop-worker : goal.invariant-loop-worker
invariant-loop-worker g l = record {
  taken : HasKept g.B.Mailboxes.receiver l.self;
  same : IsSameReader l.initial.self l.self;
}
