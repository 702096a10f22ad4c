use Rattle.std.proofs.Common.{◌≡◌, drop}
use Rattle.payee_portions.specs.Portions.{share_in}
use Rattle.payee_portions.proofs.portion.share_of.Given as goal

-- it is among the claims that are left
abbrev pub invariant-loop-place : goal.invariant-loop-place
invariant-loop-place l = share_in l.claims l.account ≡ share_in (drop l.place l.claims) l.account
