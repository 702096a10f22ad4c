use Rattle.std.proofs.Common.{map, subst, sym}
use Rattle.merge_statements.specs.SoFar.{AreOpen, output}
use Rattle.merge_statements.proofs.Whole.{merge_passed}
use Rattle.merge_statements.proofs.merging.merge.Goals as goal

pub merge_parts-requires : goal.merge_parts-requires
merge_parts-requires g c = let starts = map g.R.Read.remaining c.args.from.items in (starts, subst (AreOpen starts) (sym c.as_mut_slice.ensures.value) c.in_ok-parts.ensures.opened)

pub returns-in-Ok-clause-merged : goal.returns-in-Ok-clause-merged
returns-in-Ok-clause-merged g c =
    let contents = g.W.Write.contents in
    let starts = map g.R.Read.remaining c.args.from.items in
    merge_passed starts (contents c.args.out.now) (output contents c.merge_parts.new.out c.merge_parts.new.page) (contents c.pass_on.new.out) c.new-page.result c.new-page.ensures
    (c.in_ok-merge_parts.ensures.merged starts (subst (AreOpen starts) (sym c.as_mut_slice.ensures.value) c.in_ok-parts.ensures.opened)) c.in-Ok.ensures.passed
