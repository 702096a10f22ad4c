use Rattle.std.proofs.Common.{◌≡◌, ◌∙◌, [], arith}
use Rattle.std.proofs.lemmas.List.{nil_from_length}
use Rattle.cwr_share.specs.Lines.{lines_of}
use Rattle.starting_tables.proofs.InForceLemmas.{kept_all, kept_next, kept_none}
use Rattle.starting_tables.proofs.in_force.registrations_in_force.Goals as goal

pub loop-registration-init : goal.loop-registration-init
loop-registration-init c = rw (c.new-kept.ensures.items, c.new-seen.ensures.empty) (kept_none c.in_ok-filed.filed.items)

pub loop-registration-preserved : goal.loop-registration-preserved
loop-registration-preserved c =
    rw c.in_ok-add_if_last.ensures
    (kept_next c.in_ok-filed.filed.items c.pop.new.self.items c.loop-registration.kept.items c.loop-registration.seen.keys c.insert.new.self.keys c.in-Some.registration
    c.in_ok-number.number c.in_ok-is_last.is_last (c.in_ok-number.ensures ∙ c.number.ensures.number) (rw c.in-Some.ensures.items at c.loop-registration.invariant)
    c.in_ok-is_last.ensures.updates.0 c.in_ok-is_last.ensures.added)

pub returns : goal.returns
returns c =
    let none : c.loop-registration.filed.items ≡ [] = nil_from_length c.loop-registration.filed.items (omega (arith, c.in_default.ensures.cases.0)) in
    c.reverse.ensures.items
    ∙ kept_all (lines_of c.args.file.now) c.in_ok-filed.filed.items c.loop-registration.filed.items c.loop-registration.kept.items c.loop-registration.seen.keys
    c.in_ok-filed.ensures none c.loop-registration.invariant
