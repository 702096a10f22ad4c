use Rattle.std.proofs.Common.{◌≡◌, ◌++◌, map, take}
use Rattle.cwr_share.specs.Joined.{of_submitter}
use Rattle.cwr_share.proofs.in_force.add_behind.Given as goal

abbrev pub invariant-loop-share : goal.invariant-loop-share
invariant-loop-share l =
    l.lines.items ≡ l.fn.lines.items ++ map (of_submitter l.submitter l.first) (take l.share-index l.shares)
