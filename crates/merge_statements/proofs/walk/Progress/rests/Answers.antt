use Rattle.std.proofs.Common.{rules}
use Rattle.merge_statements.proofs.WalkLemmas.{empty_is, rests_fit}
use Rattle.merge_statements.proofs.walk.Progress.rests.Goals as goal

pub returns-clause-follows : goal.returns-clause-follows
returns-clause-follows c =
    rests_fit c.args.self.now c.args.row.now.kind.now _ _ _ c.requires.kind c.requires.fits
    (empty_is c.args.row.now.payee_or_reason.now c.is_empty.result c.is_empty.ensures c.if-not-is_empty.false) (search rules) (search rules)
