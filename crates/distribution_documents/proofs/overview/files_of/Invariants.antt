use Rattle.std.proofs.Common.{◌≡◌, map, take}
use Rattle.distribution_documents.specs.Runs.{file_of, run_shown}
use Rattle.distribution_documents.proofs.overview.files_of.Given as goal

-- the names so far
abbrev pub invariant-loop-place : goal.invariant-loop-place
invariant-loop-place l = map (λ file. file.items) l.files.items ≡ map (file_of (run_shown l.documents)) (take l.place l.payees)
