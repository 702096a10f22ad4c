use Rattle.std.proofs.Common.{arith, inl, inr}
use Rattle.page_text.proofs.Figuring.{group_ends, group_goes_on, group_is_last}
use Rattle.page_text.proofs.figures.add_grouped.Goals as goal
use Rattle.page_text.proofs.figures.add_grouped.Goals.{then-left-eq0+then-left-gt0+in_ok-extend_from_slice, else-left-eq0}
use Rattle.page_text.proofs.figures.add_grouped.Goals.{else-left-eq0-via-then-left-eq0+else-left-gt0, else-left-eq0-via-else-left-eq0}

pub loop-place-preserved : goal.loop-place-preserved
loop-place-preserved c =
    let ds = c.args.digits.now in
    let i = c.loop-place.place in
    let front = c.loop-place.text.items in
    let before = c.loop-place.invariant in
    let pushed = c.in_ok-push.ensures.items in
    elim c.if-left-eq0.branch [
      | then-left-eq0+then-left-gt0+in_ok-extend_from_slice w ↦
          rw (w.text-is, w.in_ok-extend_from_slice.ensures.items, w.as_bytes.ensures.value, pushed)
          (group_ends ds i c.loop-place-test.true w.if-left-eq0.true w.if-left-gt0.true front _ before)
      | else-left-eq0 w ↦ rw (w.text-is, pushed) (elim w.else-left-eq0.branch [
        | else-left-eq0-via-then-left-eq0+else-left-gt0 v ↦ group_goes_on ds i c.loop-place-test.true (inr (omega arith)) front _ before
        | else-left-eq0-via-else-left-eq0 v ↦ group_goes_on ds i c.loop-place-test.true (inl v.if-left-eq0.false) front _ before
      ])
    ]

pub returns : goal.returns
returns c = group_is_last c.args.digits.now c.loop-place.place (omega arith) c.loop-place.text.items _ c.loop-place.invariant
