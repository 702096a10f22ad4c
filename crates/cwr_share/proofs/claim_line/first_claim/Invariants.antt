use Rattle.std.proofs.Common.{◌≡◌, ◌≤◌, ◌<◌, ◌++◌, ◌*◌, ◌-◌, ◌^◌, ℕ, List, drop, get_or, length}
use Rattle.cwr_share.specs.Compiled.{AreInRuns, claim_lines}
use Rattle.cwr_share.specs.Registrations.{ShareLine}
use Rattle.cwr_share.specs.declared.claim_line.ClaimLine.{ClaimLine}
use Rattle.cwr_share.proofs.ClaimLemmas.{Claimed}
use Rattle.cwr_share.proofs.claim_line.first_claim.Given as goal

abbrev pub invariant-loop-count : goal.invariant-loop-count
invariant-loop-count l = record {
  small : l.claim ≤ l.count * (2 ^ 16 - 1);
  same : (k : ℕ) (d : ClaimLine) → k < l.count → (get_or l.lines k d).account ≡ (get_or l.lines 0 d).account;
  claimed : (account : ℕ) (first : List ShareLine) (others : List ClaimLine) → l.lines ≡ claim_lines account first ++ others → AreInRuns first → l.count ≤ length first
      → Claimed l.tis l.land l.right (drop (length first - l.count) first) l.claim l.decided;
}
