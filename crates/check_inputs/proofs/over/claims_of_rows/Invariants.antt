use Rattle.std.proofs.Common.{◌≡◌, ◌≤◌, ◌*◌, All, length, take}
use Rattle.std.specs.List.{filter_map}
use Rattle.cwr_share.specs.declared.TheConstants.{MOST_SHARES}
use Rattle.check_inputs.specs.OverSoFar.{claim_by_row}
use Rattle.check_inputs.proofs.over.claims_of_rows.Given as goal

-- what the rows so far claim
abbrev pub invariant-loop-place : goal.invariant-loop-place
invariant-loop-place l = record {
  claims : l.claims.items ≡ filter_map (claim_by_row l.tis l.files l.land l.line.right) (take l.place l.rows);
  few : length l.claims.items ≤ l.place;
  small : All (λ claim. claim.1 ≤ 65535 * MOST_SHARES) l.claims.items;
}
