use Rattle.std.proofs.Common.{◌∙◌, arith, ap, get_or, subst}
use Rattle.merge_statements.specs.Statements.{IsCount}
use Rattle.merge_statements.specs.Places.{count_at, sum_at}
use Rattle.merge_statements.specs.SoFar.{Unread}
use Rattle.merge_statements.proofs.Refusing.{among_needs, letter_needs, no_kind_here}
use Rattle.merge_statements.proofs.Steps.{rests_sum_passed}
use Rattle.merge_statements.proofs.part.Part.end_rests.Goals as goal

pub not_here-requires-clause-row : goal.not_here-requires-clause-row
not_here-requires-clause-row g c = among_needs c.args.self.now c.requires.among

pub not_here-requires-clause-other : goal.not_here-requires-clause-other
not_here-requires-clause-other g c = no_kind_here c.args.self.now c.requires.among c.requires.no_rest (c.begins_with.ensures.is_not c.if-not-begins_with.true (omega arith))

pub step-requires : goal.step-requires
step-requires g c = letter_needs c.args.self.now 84 (c.begins_with.ensures.is c.if-not-begins_with.false) (omega arith)

pub returns-clause-sum : goal.returns-clause-sum
returns-clause-sum g c =
    let steps = c.in_ok-step.ensures.steps in
    let first = c.begins_with.ensures.is c.if-not-begins_with.false in
    record {
      row = steps.row;
      sum = rests_sum_passed c.args.self.now.at c.step.new.self.at steps.row steps.follows (ap (λ text. get_or text 0 0) steps.line ∙ first);
      consumed = steps.consumed;
      counted = c.so_far-sum.ensures.count ∙ ap (λ (unread : Unread). count_at unread.at.place) c.self.view_is;
      few = subst IsCount (ap (λ (unread : Unread). unread.at.portions) c.self.view_is) c.so_far-sum.ensures.few;
      comes_to = c.so_far-sum.ensures.sum ∙ ap (λ (unread : Unread). sum_at unread.at.place) c.self.view_is;
    }
