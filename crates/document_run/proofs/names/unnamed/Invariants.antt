use Rattle.std.proofs.Common.{◌≡◌, [], map, take}
use Rattle.document_run.specs.Names.{items_of}
use Rattle.document_run.proofs.names.unnamed.Given as goal

-- the names so far
abbrev pub invariant-loop-place : goal.invariant-loop-place
invariant-loop-place l = items_of l.names ≡ map (λ _. []) (take l._place l.accounts)
