use mir.Syntax.{w128}
use Rattle.std.proofs.Common.{to_z, of_z, ◌≡◌, ◌∙◌, ap, pos, rules}
use Rattle.std.specs.Option.{unwrap_or}
use Rattle.adjust_statements.specs.SoFar.{value_at}
use Rattle.adjust_statements.proofs.EntryLemmas.{items_of, looked_up}
use Rattle.adjust_statements.proofs.sums.Sums.sum_at.Goals as goal

pub returns-in-Some : goal.returns-in-Some
returns-in-Some c =
    let found = looked_up items_of c.args.usage.now c.self.inside.sums.entries in
    let kept : to_z w128 (of_z w128 c.in-Some.sum.now) ≡ c.in-Some.sum.now = search rules in
    kept ∙ ap (λ o. unwrap_or o (pos 0)) c.in-Some.ensures.value ∙ found ∙ ap (value_at c.args.usage.now) c.self.view_is

pub returns-in-None : goal.returns-in-None
returns-in-None c =
    let found = looked_up items_of c.args.usage.now c.self.inside.sums.entries in
    ap (λ o. unwrap_or o (pos 0)) c.in-None.ensures.value ∙ found ∙ ap (value_at c.args.usage.now) c.self.view_is
