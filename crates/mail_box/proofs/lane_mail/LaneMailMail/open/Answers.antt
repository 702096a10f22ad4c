use Rattle.std.proofs.Common.{ap, rules, subst, sym, vec_items, ◌∙◌}
use Rattle.std.specs.Arc.{arc_value}
use Rattle.mail_box.specs.declared.lane_mail.Lanes.{Lanes}
use Rattle.mail_box.specs.Mails.{opened_receiver}
use Rattle.mail_box.specs.Lanes.{AreSeated}
use Rattle.mail_box.proofs.LaneLists.{opens_receiver, opens_roles}
use Rattle.mail_box.proofs.lane_mail.LaneMailMail.open.Goals as goal

pub seat_all-requires-clause-own : goal.seat_all-requires-clause-own
seat_all-requires-clause-own c =
    subst (λ (m : Lanes). AreSeated (vec_items m.lanes) (vec_items c.in_ok-opened.opened.sending)) (sym c.in_ok-lanes.ensures.ok) c.in_ok-opened.ensures.senders_own

pub invariant_of-receiver : goal.invariant_of-receiver
invariant_of-receiver c =
    let roles = opens_roles _ c.in_ok-opened.ensures.receiver_views in
    record {
      beside = search rules;
      within = search rules;
      own = subst (λ (m : Lanes). AreSeated (vec_items m.lanes) (vec_items c.in_ok-opened.opened.taking)) (sym c.in_ok-lanes.ensures.ok) c.in_ok-opened.ensures.receiver_own;
      role = roles.0;
      begins = roles.1;
    }

pub returns-clause-receiver : goal.returns-clause-receiver
returns-clause-receiver c =
    opens_receiver (arc_value c.in_ok-lanes.lanes) _ c.in_ok-opened.ensures.receiver_views ∙ ap (opened_receiver (arc_value c.in_ok-lanes.lanes)) (search rules)
