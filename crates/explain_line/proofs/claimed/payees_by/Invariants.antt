use Rattle.std.proofs.Common.{◌≡◌, map, take}
use Rattle.cwr_share.specs.Payees.{payee_of}
use Rattle.explain_line.proofs.claimed.payees_by.Given as goal

-- the payees of the share lines so far
abbrev pub invariant-loop-share : goal.invariant-loop-share
invariant-loop-share l = map (λ payee. payee.now) l.payees.items ≡ map (λ share. payee_of l.registry.payees share.party) (take l.share-index l.shares)
