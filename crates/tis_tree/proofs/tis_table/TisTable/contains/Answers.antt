use Rattle.std.proofs.Common.{arith}
use Rattle.std.proofs.lemmas.Bool.{false≢true}
use Rattle.std.proofs.lemmas.Grind.{common_steps}
use Rattle.tis_tree.proofs.Enclosing.{group_known, land_known}
use Rattle.tis_tree.proofs.WorkedOut.{worked_out, worked_out_apart}
use Rattle.tis_tree.specs.Territories.{Encloses}
use Rattle.tis_tree.proofs.tis_table.TisTable.contains.Goals as goal

pub returns-in-Some-Some-clause-worked_out : goal.returns-in-Some-Some-clause-worked_out
returns-in-Some-Some-clause-worked_out c =
    worked_out c.args.self.now c.args.group c.args.land c.has.result (rw c.self.view_is at c.self.invariant.sound) (grind (arith, common_steps))

pub returns-in_default : goal.returns-in_default
returns-in_default c =
    let apart : ¬ Encloses c.args.self.now c.args.group c.args.land =
    λ above. c.in_default.ensures'.none (rw c.number-2.ensures.number (land_known c.args.self.now c.args.group c.args.land above)) in
    record {
      contains = (λ no. absurd (false≢true no), λ above. absurd (apart above));
      worked_out = worked_out_apart c.args.self.now c.args.group c.args.land (rw c.self.view_is at c.self.invariant.sound) apart;
    }

pub returns-in_default-2 : goal.returns-in_default-2
returns-in_default-2 c =
    let none = rw c.in_default.is-0 at c.place.ensures.none in
    let apart : ¬ Encloses c.args.self.now c.args.group c.args.land =
    λ above. none (rw c.number.ensures.number (group_known c.args.self.now c.args.group c.args.land above)) in
    record {
      contains = (λ no. absurd (false≢true no), λ above. absurd (apart above));
      worked_out = worked_out_apart c.args.self.now c.args.group c.args.land (rw c.self.view_is at c.self.invariant.sound) apart;
    }
