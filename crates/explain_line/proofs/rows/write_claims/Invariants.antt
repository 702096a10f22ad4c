use Rattle.std.proofs.Common.{◌≡◌, ◌++◌, ◌-◌, drop, map, take}
use Rattle.csv_table.specs.Written.{text_of}
use Rattle.cwr_share.specs.ClaimsOn.{claims_among}
use Rattle.cwr_share.specs.Payees.{payee_of}
use Rattle.explain_line.specs.Explanation.{claim_row}
use Rattle.explain_line.proofs.rows.write_claims.Given as goal

-- the claims of the accounts so far are written
abbrev pub invariant-loop-account : goal.invariant-loop-account
invariant-loop-account l =
    l.rows.text ≡ l.initial.rows.text
    ++ text_of (map (claim_row l.registry) (claims_among l.tis l.land l.right (payee_of l.registry.payees) l.shares (take (l.account - 1) (drop 1 l.registry.accounts))))
