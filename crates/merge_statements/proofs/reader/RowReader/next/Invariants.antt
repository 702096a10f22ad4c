use Rattle.std.proofs.Common.{◌≡◌, []}
use Rattle.std.specs.Io.KnownBytes.{Keeps, prepend_known}
use Rattle.merge_statements.specs.Buffered.{line_of, waiting_of}
use Rattle.merge_statements.proofs.reader.RowReader.next.Given as goal

-- no byte is lost, and no line is at hand
abbrev pub invariant-reads : goal.invariant-reads
invariant-reads g l = record {
  kept : Keeps l.fn.self.left (prepend_known (waiting_of l.self-inside.buffer) (g.R.Read.remaining l.self-inside.from));
  line : line_of l.self-inside.buffer ≡ [];
}
