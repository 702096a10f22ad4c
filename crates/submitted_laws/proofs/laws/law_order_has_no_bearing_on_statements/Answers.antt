use Rattle.submitted_laws.proofs.Order.{text_in_any_order}
use Rattle.submitted_laws.proofs.laws.law_order_has_no_bearing_on_statements.Goals as goal

pub returns : goal.returns
returns g c = λ names others inputs moved text other are.
    text_in_any_order names others (g.F.SubmitterFiles.holds c.args.files.now) (g.G.SubmitterFiles.holds c.args.later.now) inputs moved are text other
