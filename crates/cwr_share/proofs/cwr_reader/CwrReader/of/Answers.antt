use Rattle.std.proofs.Common.{[], arith, ap, length}
use Rattle.cwr_share.proofs.LineLemmas.{lines_count}
use Rattle.cwr_share.proofs.cwr_reader.CwrReader.of.Goals as goal

pub returns-clause-stands : goal.returns-clause-stands
returns-clause-stands c = record {
  countable = omega (arith, ap length c.of.ensures, lines_count c.args.bytes.now);
  lines = [];
  read = c.new.ensures;
  fewer = omega arith;
}
