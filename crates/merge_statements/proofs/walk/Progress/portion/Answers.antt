use Rattle.std.proofs.Common.{rules}
use Rattle.merge_statements.proofs.WalkLemmas.{portion_leads}
use Rattle.merge_statements.proofs.walk.Progress.portion.Goals as goal

pub returns-clause-leads : goal.returns-clause-leads
returns-clause-leads c = portion_leads c.args.self.now _ c.args.row.now.kind.now _ _ _ c.in_ok-amount.amount c.requires.kind c.in_ok-amount.ensures.amount.2 c.in_ok-amount.ensures.amount.3 (search rules)
