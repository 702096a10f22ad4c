use Rattle.file_sums.proofs.Taking.{comment_taken, stuck_at_line, stuck_without_feed, sum_taken}
use Rattle.file_sums.proofs.seal_text.SealText.take_line.Goals as goal

pub returns-in_default-clause-stuck : goal.returns-in_default-clause-stuck
returns-in_default-clause-stuck c = stuck_without_feed _ _ c.in_default.ensures.none

pub returns-then-branch-clause-text : goal.returns-then-branch-clause-text
returns-then-branch-clause-text c =
    (comment_taken _ _ _ _ _ c.requires (c.in_ok-take_comment.ensures.taken c.if-branch.true) c.in-Some.ensures.cut).1

pub returns-then-branch-2-clause-sound : goal.returns-then-branch-2-clause-sound
returns-then-branch-2-clause-sound c =
    (sum_taken _ _ _ _ _ (rw (c.in_ok-take_comment.ensures.same c.if-branch.false) c.requires) (c.in_ok-take_sum.ensures.taken c.if-branch-2.true) c.in-Some.ensures.cut).0

pub returns-clause-stuck : goal.returns-clause-stuck
returns-clause-stuck c =
    stuck_at_line _ _ _ _ c.in-Some.ensures.one c.in-Some.ensures.cut (c.in_ok-take_comment.ensures.none c.if-branch.false)
    (c.in_ok-take_sum.ensures.none c.if-branch-2.false)
