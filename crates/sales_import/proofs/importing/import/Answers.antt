use Rattle.std.proofs.Common.{ℕ, List, subst, sym}
use Rattle.sales_import.specs.Imported.{IsMade, output}
use Rattle.sales_import.specs.SoFar.{IsImported}
use Rattle.sales_import.proofs.Steps.{begins, ends, goes_on}
use Rattle.sales_import.proofs.importing.import.Goals as goal

pub loop-number-init : goal.loop-number-init
loop-number-init g c =
    let lines = g.W.Write.contents c.args.lines.now in
    let rejects = g.X.Write.contents c.args.rejects.now in
    rw (c.new.ensures, c.new-2.ensures) (begins c.args.settings.now c.args.rows.now lines rejects c.none.result c.none.ensures.all c.none.ensures.lines c.none.ensures.rejected c.none.ensures.reasons c.none.ensures.passed c.none.ensures.within)

pub loop-number-preserved : goal.loop-number-preserved
loop-number-preserved g c =
    let (own, is, added) = c.in_ok-add_row.ensures.added in
    let takes = c.in_ok-next.ensures.found c.if-not-branch.false in
    let here = subst (λ (row : List (List ℕ)). IsMade c.args.settings.now c.loop-number.number row own) c.row.ensures is in
    let lines_in = g.W.Write.contents in
    let rejects_in = g.X.Write.contents in
    let before = c.loop-number in
    let after = c.add_row.new in
    goes_on c.args.settings.now c.args.rows.now before.rows c.next.new.self
    (lines_in c.args.lines.now) (output lines_in before.lines before.going.lines) (output lines_in after.lines after.self.lines)
    (rejects_in c.args.rejects.now) (output rejects_in before.rejects before.going.rejects) (output rejects_in after.rejects after.self.rejects)
    before.number before.going.summary after.self.summary
    own before.invariant takes here added.lines added.rejects added.counted c.in_ok-add_row.ensures.within

pub returns-then-not-branch-clause-imported : goal.returns-then-not-branch-clause-imported
returns-then-not-branch-clause-imported g c =
    let lines_in = g.W.Write.contents in
    let rejects_in = g.X.Write.contents in
    let going = c.loop-number.going in
    let settings = c.args.settings.now in
    let start = c.args.rows.now in
    let lines = lines_in c.args.lines.now in
    let rejects = rejects_in c.args.rejects.now in
    let last_lines = lines_in c.finish.new.lines in
    let last_rejects = rejects_in c.finish.new.rejects in
    subst (IsImported settings start lines last_lines rejects last_rejects) (sym c.in_ok-summary.ensures.summary)
    (ends settings start c.loop-number.rows lines (output lines_in c.loop-number.lines going.lines) last_lines
    rejects (output rejects_in c.loop-number.rejects going.rejects) last_rejects
    c.loop-number.number going.summary
    c.loop-number.invariant (c.in_ok-next.ensures.end c.if-not-branch.true) c.in_ok-summary.ensures.lines c.in_ok-summary.ensures.rejects)
