use Rattle.std.proofs.Common.{ap, rules}
use Rattle.std.specs.Arc.{arc_value}
use Rattle.std.proofs.lemmas.List.Elements.{All-set}
use Rattle.crossbeam_queue.specs.Passes.{view}
use Rattle.mail_box.specs.Lanes.{BeginsLane, MayTake}
use Rattle.mail_box.proofs.LaneLists.{finds_none, seated_again, takes_one, whole_lane}
use Rattle.mail_box.proofs.lane_mail.LaneReceiver.take_from.Goals as goal

pub returns-in_err-item : goal.returns-in_err-item
returns-in_err-item g c =
    let h = c.in_err-item.ensures.popped in
    let is = c.index_mut.ensures.value in
    rw c.from_residual.ensures (finds_none _ _ _ _ _ is h.0, whole_lane (arc_value c.args.self.now.lanes) _ _ _ is h.1)

pub invariant_of-self-2 : goal.invariant_of-self-2
invariant_of-self-2 g c =
    let h = c.in_ok-item.ensures in
    record {
      beside = c.args.self.now.beside;
      within = search rules;
      own = seated_again _ _ _ _ _ (search rules) c.args.self.now.own c.index_mut.ensures.value h.same;
      role = All-set (λ p. MayTake (view p)) _ _ _ (ap (λ v. v.takes) h.popped.0) c.args.self.now.role;
      begins = All-set (λ p. BeginsLane (view p)) _ _ _ h.popped.2 c.args.self.now.begins;
    }

pub returns : goal.returns
returns g c =
    let h = c.in_ok-item.ensures.popped in
    ((search rules, c.requires, h.1), takes_one _ _ _ _ _ _ (search rules) c.index_mut.ensures.value h.0)
