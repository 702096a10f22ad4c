use Rattle.std.proofs.Common.{arith}
use Rattle.std.proofs.lemmas.List.Sums.{count_by-le-length}
use Rattle.cwr_share.specs.Lines.{lines_of}
use Rattle.cwr_share.specs.Records.{opens_registration}
use Rattle.cwr_share.proofs.LineLemmas.{lines_count}
use Rattle.cwr_share.proofs.filed.count_registrations.Goals as goal

pub overflow_add-count : goal.overflow_add-count
overflow_add-count c = omega (arith, c.loop-line.invariant, count_by-le-length opens_registration (lines_of c.args.bytes.now), lines_count c.args.bytes.now)
