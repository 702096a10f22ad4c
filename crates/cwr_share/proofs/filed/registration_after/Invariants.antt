use Rattle.std.proofs.Common.{◌≤◌, length}
use Rattle.cwr_share.specs.Lines.{lines_of}
use Rattle.cwr_share.specs.declared.TheConstants.{MOST_SHARES}
use Rattle.cwr_share.proofs.FiledLemmas.{IsFilingTo}
use Rattle.cwr_share.proofs.filed.registration_after.Given as goal

abbrev pub invariant-loop-line : goal.invariant-loop-line
invariant-loop-line l = record {
  reading : IsFilingTo (lines_of l.after) l.lines l.fn.line l.filing;
  few : length l.filing.filed.shares.items ≤ MOST_SHARES;
}

abbrev pub decreases-loop-line : goal.decreases-loop-line
decreases-loop-line l = length l.lines
