use Rattle.std.proofs.Common.{subst, sym}
use Rattle.merge_statements.specs.SoFar.{RefusesRest}
use Rattle.merge_statements.proofs.Refusing.{kind_refused, with_row_refused}
use Rattle.merge_statements.proofs.part.Part.not_here.Goals as goal
use Rattle.merge_statements.proofs.part.Part.not_here.Goals.{in-Ok, in-Err}

pub returns : goal.returns
returns g c =
    let self = c.args.self.now in
    let inside = c.self.inside in
    elim c.match-row_of.branch [
      | in-Ok w ↦ subst (RefusesRest self) (sym w.result-is)
          (kind_refused self inside.progress inside.number inside.rows.line inside.rows.left _ inside.has_row w.in-Ok.field-0.kind.now w.in-Ok.field-0.payee_or_reason.now w.in-Ok.field-0.usage_or_count.now w.in-Ok.field-0.amount_or_total.now
          c.self.view_is c.if-not-self.false c.self.invariant.2 c.self.invariant.3 w.in-Ok.ensures.row c.requires.other)
      | in-Err w ↦ subst (RefusesRest self) (sym w.result-is)
          (with_row_refused self inside.progress inside.number inside.rows.line inside.rows.left _ inside.has_row w.in-Err.refusal c.self.view_is c.if-not-self.false (w.in-Err.ensures.refused inside.progress))
    ]
