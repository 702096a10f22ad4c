use Rattle.std.proofs.Common.{below_more, false, rules, subst, sym}
use Rattle.std.specs.Prelude.{Any, IsTrue}
use Rattle.export_rows.specs.Places.{IsLineBreak}
use Rattle.export_rows.proofs.row.Row.has_line_break.Goals as goal

pub loop-place-preserved : goal.loop-place-preserved
loop-place-preserved c =
    below_more _ _ c.loop-place.invariant
    (λ any.
    let is = c.has_line_break.ensures.1 (subst (Any IsLineBreak) (sym c.field.ensures) any) in
    let none : IsTrue false = subst IsTrue c.if-has_line_break.false is in
    search (rules, none))

pub returns : goal.returns
returns c = (
  λ is. search (rules, is),
  λ some. absurd (c.loop-place.invariant some.0 (search rules) some.2),
)
