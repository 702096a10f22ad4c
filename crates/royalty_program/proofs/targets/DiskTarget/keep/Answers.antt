use Rattle.std.proofs.Common.{inl}
use Rattle.royalty_program.proofs.FileLemmas.{after}
use Rattle.royalty_program.proofs.targets.DiskTarget.keep.Goals as goal

pub returns-in-Ok-clause-left : goal.returns-in-Ok-clause-left
returns-in-Ok-clause-left g c = after c.sync_directory.result _ (λ text added. inl (λ file had. tt))

pub returns-clause-left : goal.returns-clause-left
returns-clause-left g c text added = inl (λ file had. tt)
