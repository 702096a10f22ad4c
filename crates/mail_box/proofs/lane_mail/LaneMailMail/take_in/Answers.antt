use Rattle.std.proofs.Common.{ap, refl, rules}
use Rattle.std.specs.Arc.{arc_value}
use Rattle.std.proofs.lemmas.List.Elements.{All-set}
use Rattle.crossbeam_queue.specs.Passes.{view}
use Rattle.mail_box.specs.Lanes.{BeginsLane, MayTake}
use Rattle.mail_box.specs.LaneViews.{sender_of}
use Rattle.mail_box.proofs.LaneLists.{begins_all, seated_again, takes_sender}
use Rattle.mail_box.proofs.lane_mail.LaneMailMail.take_in.Goals as goal

pub invariant_of-r : goal.invariant_of-r
invariant_of-r g c =
    record {
      beside = c.args.r.now.beside;
      within = c.args.r.now.within;
      own = seated_again _ _ _ _ _ (search rules) c.args.r.now.own c.index_mut.ensures.value c.take_in.ensures.same;
      role = All-set (λ p. MayTake (view p)) _ _ _ (ap (λ v. v.takes) c.take_in.ensures.known) c.args.r.now.role;
      begins = All-set (λ p. BeginsLane (view p)) _ _ _ c.take_in.ensures.begins c.args.r.now.begins;
    }

pub returns-clause-known : goal.returns-clause-known
returns-clause-known g c = takes_sender (arc_value c.args.r.now.lanes) _ _ _ _ (sender_of c.args.s) (search rules) c.index_mut.ensures.value refl c.take_in.ensures.known

pub returns-clause-begins : goal.returns-clause-begins
returns-clause-begins g c =
    begins_all (arc_value c.args.r.now.lanes) _ (All-set (λ p. BeginsLane (view p)) _ _ _ c.take_in.ensures.begins c.args.r.now.begins)
