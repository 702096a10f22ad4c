use Rattle.std.proofs.Common.{rules, ◌≡◌, List, ℕ, ap, false, true}
use Rattle.cwr_share.specs.Filed.{body_of}
use Rattle.cwr_share.specs.Lines.{lines_of}
use Rattle.cwr_share.specs.Records.{opens_registration}
use Rattle.starting_tables.specs.InForce.{Registration, registrations_filed}
use Rattle.starting_tables.proofs.InForceLemmas.{filed_all, filed_more, filed_past}
use Rattle.starting_tables.proofs.in_force.all_registrations.Goals as goal

pub loop-line-preserved-in-Continue-1 : goal.loop-line-preserved-in-Continue-1
loop-line-preserved-in-Continue-1 c =
    let line = c.in-Some.line.now in
    let opens : opens_registration line ≡ true = search rules in
    let registration : Registration = record { opening = line; body = body_of (lines_of c.rest.result.now) } in
    rw c.in_ok-push.ensures.items
    (filed_more c.loop-line.filed.items registration line c.loop-line.lines c.next.new.self (registrations_filed (lines_of c.args.file.now)) c.loop-line.invariant c.in-Some.ensures.some opens
    (ap (λ (l : List (List ℕ)). record { opening = line; body = body_of l }) c.rest.ensures))

pub loop-line-preserved : goal.loop-line-preserved
loop-line-preserved c =
    let line = c.in-Some.line.now in
    let shut : opens_registration line ≡ false = search rules in
    filed_past c.loop-line.filed.items line c.loop-line.lines c.next.new.self (registrations_filed (lines_of c.args.file.now)) c.loop-line.invariant c.in-Some.ensures.some shut

pub returns : goal.returns
returns c = filed_all c.loop-line.filed.items c.loop-line.lines (registrations_filed (lines_of c.args.file.now)) c.loop-line.invariant c.in_default.ensures.none.0
