use Rattle.std.proofs.Common.{inr}
use Rattle.royalty_program.proofs.FileLemmas.{after}
use Rattle.royalty_program.proofs.folders.DiskFolders.keep_folder.Goals as goal

pub returns-in_err-open-in-Ok-clause-left : goal.returns-in_err-open-in-Ok-clause-left
returns-in_err-open-in-Ok-clause-left g c = after c.from_residual.result _ (λ files written. inr tt)

pub returns-in-Ok-clause-left : goal.returns-in-Ok-clause-left
returns-in-Ok-clause-left g c = after c.sync_all.result _ (λ files written. inr tt)

pub returns-clause-left : goal.returns-clause-left
returns-clause-left g c files written = inr tt
