use Rattle.std.proofs.Common.{◌∙◌, ◌≤◌, ◌*◌, ℕ, List, arith, sym}
use Rattle.std.proofs.lemmas.List.{length_push, take_all}
use Rattle.std.proofs.lemmas.List.Elements.{All-push}
use Rattle.cwr_share.specs.declared.TheConstants.{MOST_SHARES}
use Rattle.line_split.specs.UsageLine.{usage_line_of}
use Rattle.check_inputs.specs.OverSoFar.{claim_by_row}
use Rattle.check_inputs.proofs.Overclaims.{claims_by_rows, kept_more, left_more}
use Rattle.check_inputs.proofs.over.claims_of_rows.Goals as goal
use Rattle.check_inputs.proofs.over.claims_of_rows.Goals.{in-Some-claim_of_row+in_ok-push, in_default-claim_of_row}

pub loop-place-preserved : goal.loop-place-preserved
loop-place-preserved c =
    let rows = c.args.rows.now in
    let place = c.loop-place.place in
    let claims = c.loop-place.claims.items in
    let by = claim_by_row c.args.tis.now c.args.files.now c.in-Some.land c.args.line.now.right in
    let so_far = c.loop-place.invariant.claims in
    elim c.match-claim_of_row.branch [
      | in-Some-claim_of_row+in_ok-push w ↦
          let claim = w.in-Some-claim_of_row.claim in
          rw (w.claims-is, w.in_ok-push.ensures.items) record {
            claims =
                kept_more by rows place _ c.loop-place-test.true claims so_far claim (sym w.in-Some-claim_of_row.ensures.claim);
            few = omega (arith, length_push claims claim, c.loop-place.invariant.few);
            small = All-push (λ (claim : List ℕ × ℕ). claim.1 ≤ 65535 * MOST_SHARES) claims claim c.loop-place.invariant.small w.in-Some-claim_of_row.ensures.small;
          }
      | in_default-claim_of_row w ↦ rw w.claims-is record {
        claims = left_more by rows place _ c.loop-place-test.true claims so_far (sym w.in_default-claim_of_row.ensures.claim);
        few = omega (arith, c.loop-place.invariant.few);
        small = c.loop-place.invariant.small;
      }
    ]

pub returns-clause-claims : goal.returns-clause-claims
returns-clause-claims c names once paired known =
    rw (take_all c.loop-place.place c.args.rows.now c.loop-place-test.false, c.in-Some.ensures.some.0) at c.loop-place.invariant.claims
    ∙ claims_by_rows c.args.tis.now (usage_line_of c.args.line.now) names c.args.files.now once paired c.args.rows.now known
