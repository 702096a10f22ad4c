use Rattle.std.proofs.Common.{◌≡◌, ◌≤◌, ◌-◌, ℕ, List, drop, length}
use Rattle.line_split.specs.declared.TheConstants.{MOST_CLAIMED}
use Rattle.cwr_share.specs.Compiled.{AreClaimLines, claims_of_claimants, lines_of_claimants}
use Rattle.cwr_share.specs.Registrations.{ShareLine}
use Rattle.cwr_share.proofs.ClaimLemmas.{Gathered}
use Rattle.cwr_share.proofs.claim_line.claims.Given as goal

-- the claims of so many claimants are worked out, and the lines of the others are left
abbrev pub invariant-loop-at : goal.invariant-loop-at
invariant-loop-at l = record {
  within : l.at ≤ length l.lines;
  small : l.total ≤ MOST_CLAIMED;
  room : l.out.room ≡ l.fn.out.room;
  gathered : (named : List ShareLine) (claimants : List (ℕ × List ℕ)) → AreClaimLines named claimants l.lines
      → (n : ℕ) × (drop l.at l.lines ≡ lines_of_claimants named (drop n claimants)) × Gathered (claims_of_claimants l.tis l.land l.right named claimants) l.out.list l.total n;
}

abbrev pub decreases-loop-at : goal.decreases-loop-at
decreases-loop-at l = length l.lines - l.at
