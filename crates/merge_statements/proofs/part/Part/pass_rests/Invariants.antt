use Rattle.std.proofs.Common.{◌^◌, ◌≤◌}
use Rattle.merge_statements.specs.SoFar.{HasRests, output}
use Rattle.merge_statements.proofs.part.Part.pass_rests.Given as goal

-- so many portions were passed over, one in each turn, and all are counted
abbrev pub invariant-loop-passed : goal.invariant-loop-passed
invariant-loop-passed g l = HasRests l.fn.self l.self (output g.W.Write.contents l.fn.out l.fn.page) (output g.W.Write.contents l.out l.page) × (l._passed ≤ l.self.at.portions) × (l._passed ≤ 10 ^ 18)
