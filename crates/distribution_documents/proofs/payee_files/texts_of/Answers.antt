use Rattle.std.proofs.Common.{ap, arith, length}
use Rattle.distribution_documents.proofs.Accounts.{few_postings}
use Rattle.distribution_documents.proofs.payee_files.texts_of.Goals as goal

pub page_of-requires-clause-few : goal.page_of-requires-clause-few
page_of-requires-clause-few c =
    let few = few_postings _ _ _ c.args.documents.now.divided.now.book c.requires.ready.divided.divided c.args.account c.requires.account in
    omega (arith, few, c.len-lines.ensures.few, c.len-lines.ensures.lines, c.in_ok-list.ensures.count, ap length c.lines.ensures.postings, ap length c.as_slice-2.ensures.value)
