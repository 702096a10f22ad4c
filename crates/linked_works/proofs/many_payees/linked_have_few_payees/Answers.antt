use Rattle.std.proofs.Common.{Bool, IsTrue, zip}
use Rattle.std.proofs.lemmas.Result.{IfOk-weaker}
use Rattle.std.specs.Prelude.{All, IfSome}
use Rattle.cwr_share.specs.Payees.{payee_of}
use Rattle.cwr_share.specs.Registered.{HasFewPayees}
use Rattle.cwr_share.specs.Registrations.{find_work}
use Rattle.linked_works.specs.Linked.{finds_among}
use Rattle.linked_works.specs.ManyPayees.{HaveFewPayees}
use Rattle.linked_works.specs.Rows.{links_by, names_by}
use Rattle.linked_works.proofs.FirstLemmas.{few_in_links}
use Rattle.linked_works.proofs.many_payees.linked_have_few_payees.Goals as goal

pub returns-clause-few : goal.returns-clause-few
returns-clause-few c =
    let pay = payee_of c.args.payees.now in
    let names = names_by c.args.names.now in
    let finds = finds_among (zip names c.args.files.now) in
    let works = c.in_ok-works.works in
    IfOk-weaker c.have_few_payees.result (λ (few : Bool). IsTrue few → All (λ link. IfSome (find_work link.work works) (HasFewPayees pay)) c.args.links.now)
    (λ (few : Bool). IsTrue few → HaveFewPayees pay finds (links_by names c.args.links.now))
    (λ few so is. few_in_links pay finds names c.args.links.now works c.in_ok-works.ensures.works (so is)) c.have_few_payees.ensures.few
