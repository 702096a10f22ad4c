use Rattle.submitted_laws.proofs.NoFault.{no_fault_of_inputs}
use Rattle.submitted_laws.proofs.laws.law_submitted_inputs_that_are_read_have_no_fault.Goals as goal

pub returns : goal.returns
returns g c = λ names inputs tables fault one apart is.
    no_fault_of_inputs names (g.F.SubmitterFiles.holds c.args.files.now) (g.F.SubmitterFiles.refuses c.args.files.now) inputs one apart tables is fault
