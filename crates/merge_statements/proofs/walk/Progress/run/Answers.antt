use Rattle.std.proofs.Common.{rules}
use Rattle.merge_statements.proofs.WalkLemmas.{run_leads}
use Rattle.merge_statements.proofs.walk.Progress.run.Goals as goal

pub returns-clause-leads : goal.returns-clause-leads
returns-clause-leads c = run_leads c.args.self.now _ c.args.row.now.kind.now _ _ _ c.in-Some.lines c.requires.kind c.in-Some.ensures.count.0 c.in-Some.ensures.count.1 (search rules)
