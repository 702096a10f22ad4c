use Rattle.std.specs.Io.KnownBytes.{Keeps}
use Rattle.export_rows.proofs.retrying.RetryingRead.read.Given as goal

-- interrupted reads took nothing
abbrev pub invariant-loop : goal.invariant-loop
invariant-loop g l = Keeps (g.R.Read.remaining l.fn.self.inner) (g.R.Read.remaining l.self.inner)
