use Rattle.std.proofs.Common.{◌≡◌, decimal, map, take}
use Rattle.payee_documents.proofs.breakdowns.texts_of.Given as goal

-- the codes so far have their digits
abbrev pub invariant-loop-place : goal.invariant-loop-place
invariant-loop-place l = map (λ text. text.items) l.texts.items ≡ map decimal (take l.place l.codes)
