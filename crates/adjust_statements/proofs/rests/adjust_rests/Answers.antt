use Rattle.std.proofs.Common.{◌∙◌, ◌+ℤ◌, arith}
use Rattle.merge_statements.specs.SoFar.{output}
use Rattle.adjust_statements.proofs.RestLemmas.{rests_adjusted, rests_within}
use Rattle.adjust_statements.proofs.rests.adjust_rests.Goals as goal

pub returns-clause-adjusted : goal.returns-clause-adjusted
returns-clause-adjusted g c = λ paid right rows.
    let contents = g.W.Write.contents in
    rests_adjusted paid right (output contents c.args.out.now c.args.page.now) (output contents c.adjust_reason.new.out c.adjust_reason.new.page) (output contents c.adjust_reason-2.new.out c.adjust_reason-2.new.page)
    (output contents c.adjust_reason-3.new.out c.adjust_reason-3.new.page) (output contents c.adjust_reason-4.new.out c.adjust_reason-4.new.page)
    c.in_ok-work.work.0 c.in_ok-land.land.0 c.in_ok-over.over.0 c.in_ok-open.open.0 c.both-3.result.0 c.in_ok-work.work.1 c.in_ok-land.land.1 c.in_ok-over.over.1 c.in_ok-open.open.1 c.both-3.result.1
    rows.paid_sound rows.right_sound
    (c.in_ok-work.ensures.adjusted paid right rows) (c.in_ok-land.ensures.adjusted paid right rows) (c.in_ok-over.ensures.adjusted paid right rows) (c.in_ok-open.ensures.adjusted paid right rows)
    (omega (arith, c.both.ensures.count, c.both-2.ensures.count, c.both-3.ensures.count))
    (c.both-3.ensures.sum ∙ (λ i. (c.both-2.ensures.sum ∙ (λ j. c.both.ensures.sum j +ℤ c.in_ok-over.over.1)) i +ℤ c.in_ok-open.open.1))

pub returns-clause-few : goal.returns-clause-few
returns-clause-few g c =
    let contents = g.W.Write.contents in
    (rests_within c.requires.0 c.requires.1 c.args.rows.now.paid.items c.args.rows.now.right.items (output contents c.args.out.now c.args.page.now) (output contents c.adjust_reason-4.new.out c.adjust_reason-4.new.page)
    c.both-3.result.0 c.both-3.result.1 c.requires.2 (returns-clause-adjusted g c c.requires.0 c.requires.1 c.requires.2)).0

pub returns-clause-small : goal.returns-clause-small
returns-clause-small g c =
    let contents = g.W.Write.contents in
    (rests_within c.requires.0 c.requires.1 c.args.rows.now.paid.items c.args.rows.now.right.items (output contents c.args.out.now c.args.page.now) (output contents c.adjust_reason-4.new.out c.adjust_reason-4.new.page)
    c.both-3.result.0 c.both-3.result.1 c.requires.2 (returns-clause-adjusted g c c.requires.0 c.requires.1 c.requires.2)).1
