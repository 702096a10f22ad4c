use Rattle.std.proofs.Common.{◌≡◌, ◌≤◌, ◌+◌, ◌*◌, ℕ, List, drop, map}
use Rattle.cwr_share.specs.ClaimsOn.{claim_of}
use Rattle.explain_line.proofs.claimed.claim_of.Given as goal

-- what the share lines so far come to, and what is left
abbrev pub invariant-loop-place : goal.invariant-loop-place
invariant-loop-place l = record {
  sum : (pay : List ℕ → List ℕ) → map (λ payee. payee.now) l.payees ≡ map (λ share. pay share.party) l.shares
      → l.claim + claim_of l.tis l.land l.right pay (drop l.place l.shares) l.payee ≡ claim_of l.tis l.land l.right pay l.shares l.payee;
  small : l.claim ≤ 65535 * l.place;
}
