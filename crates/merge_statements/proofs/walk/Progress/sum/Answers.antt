use Rattle.std.proofs.Common.{rules}
use Rattle.merge_statements.proofs.WalkLemmas.{sum_fits}
use Rattle.merge_statements.proofs.walk.Progress.sum.Goals as goal

pub returns-clause-follows : goal.returns-clause-follows
returns-clause-follows c = sum_fits c.args.self.now c.args.row.now.kind.now _ _ _ c.requires.kind c.requires.fits (search rules) (search rules) (search rules)
