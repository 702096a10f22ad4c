use Rattle.std.proofs.Common.{◌≡◌, ◌≤◌, [], ap, arith, get_or, length}
use Rattle.distribution_documents.proofs.Accounts.{few_postings}
use Rattle.distribution_documents.proofs.overview.line_of.Goals as goal

pub total-requires-clause-few : goal.total-requires-clause-few
total-requires-clause-few c =
    let few = few_postings _ _ _ c.args.documents.now.divided.now.book c.requires.ready.divided.divided c.args.account c.requires.known in
    omega (arith, few, ap length c.lines-statement.ensures.postings)

pub returns-clause-few : goal.returns-clause-few
returns-clause-few c =
    let few = few_postings _ _ _ c.args.documents.now.divided.now.book c.requires.ready.divided.divided c.args.account c.requires.known in
    omega (arith, few, ap length c.lines-statement.ensures.postings)
