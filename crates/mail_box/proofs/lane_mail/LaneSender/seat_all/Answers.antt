use Rattle.std.proofs.Common.{ap, arith, rules, subst, sym, slice_index_or, vec_items, ◌+◌, ◌≡◌, ◌∙◌}
use Rattle.std.specs.Arc.{arc_value}
use Rattle.crossbeam_queue.specs.Passes.{IsPassOf, view}
use Rattle.mail_box.specs.declared.lane_mail.LaneSender.{LaneSender}
use Rattle.mail_box.specs.declared.lane_mail.Lanes.{Lanes}
use Rattle.mail_box.specs.LaneViews.{sender_of}
use Rattle.mail_box.specs.Mails.{opened_sender}
use Rattle.mail_box.proofs.LaneLists.{opens_sender}
use Rattle.node_table.proofs.SeatLists.{seats_more}
use Rattle.mail_box.proofs.lane_mail.LaneSender.seat_all.Goals as goal

pub invariant_of-push : goal.invariant_of-push
invariant_of-push c =
    let number = c.loop-pass.number in
    let pass = c.in-Some.pass in
    let was = c.loop-pass.invariant in
    let is : slice_index_or (vec_items c.args.passes) number pass ≡ pass = let h = was.2 0 pass in grind (arith, rules) in
    let same : arc_value c.in_ok-try_clone.field-0 ≡ arc_value c.args.lanes.now = search rules in
    record {
      within = grind (arith, rules);
      own = λ d. subst (λ (m : Lanes). IsPassOf (slice_index_or (vec_items m.lanes) number d) pass) (sym same) (subst (λ p. IsPassOf (slice_index_or (vec_items (arc_value c.args.lanes.now).lanes) number d) p) is (c.requires.own number d pass (grind (arith, rules))));
      role = ap (λ v. v.sends) (ap (λ p. view p) (sym is) ∙ c.requires.views number pass (grind (arith, rules)));
    }

pub loop-pass-preserved : goal.loop-pass-preserved
loop-pass-preserved c =
    let number = c.loop-pass.number in
    let pass = c.in-Some.pass in
    let was = c.loop-pass.invariant in
    let is : slice_index_or (vec_items c.args.passes) number pass ≡ pass = let h = was.2 0 pass in grind (arith, rules) in
    let same : arc_value c.in_ok-try_clone.field-0 ≡ arc_value c.args.lanes.now = search rules in
    let sent = ap (λ v. v.sent) (ap (λ p. view p) (sym is) ∙ c.requires.views number pass (grind (arith, rules))) in (
      search rules,
      search rules,
      (λ k d below. let h = was.2 (k + 1) d in grind rules),
      seats_more (λ k (s : LaneSender). sender_of s ≡ opened_sender (arc_value c.args.lanes.now) k (arc_value c.args.lanes.now).nodes c.args.most) number _ _ _ c.in_ok-push.ensures.items (grind rules) was.3 (opens_sender _ _ _ _ _ same sent),
    )
