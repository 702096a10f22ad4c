use Rattle.std.proofs.Common.{◌∙◌, ◌≤◌, ℕ, List, ap, arith, length, refl, sym}
use Rattle.line_split.specs.UsageLine.{usage_line_of}
use Rattle.cwr_share.specs.Compiled.{AreClaimLines, Kept, kept_lines}
use Rattle.cwr_share.specs.Found.{IsFound, LookedUp, names_in}
use Rattle.cwr_share.specs.declared.TheConstants.{MOST_SHARE_LINES}
use Rattle.cwr_share.specs.declared.claim_line.ClaimLine.{ClaimLine}
use Rattle.cwr_share.specs.Registered.{Registered}
use Rattle.cwr_share.proofs.ClaimLemmas.{against_land, against_work}
use Rattle.cwr_share.proofs.Answered.{answered, answered_over, are_claim_lines, few_kept, its_groups}
use Rattle.cwr_share.proofs.registry.Registry.claims_to.Goals as goal

pub returns-in_default : goal.returns-in_default
returns-in_default c =
    let (reason, claims) = against_work c.args.tis.now c.args.self.now (usage_line_of c.args.line.now) (rw c.in_default.is at c.requires.work) in
    record { reason = sym reason; claims = rw c.clear.ensures (sym claims); room = rw c.clear.ensures refl }

pub returns-in_default-land_of : goal.returns-in_default-land_of
returns-in_default-land_of c =
    let found : IsFound c.args.self.now c.args.line.now.work.now c.in-Some.work.lines.now = rw c.in-Some.is at c.requires.work in
    let (reason, claims) = against_land c.args.tis.now c.args.self.now (usage_line_of c.args.line.now) (kept_lines (names_in c.args.self.now) found.registration) found.up.works c.in_default-land_of.ensures.none in
    record { reason = sym reason; claims = rw c.clear.ensures (sym claims); room = rw c.clear.ensures refl }

-- the claims are worked out from the lines of a work that is found
record Claimable (registered : Registered) (work : List ℕ) (lines : List ClaimLine) : Type 0 where
  registration : Kept
  up : LookedUp registered work registration
  claim_lines : AreClaimLines (kept_lines (names_in registered) registration) (its_groups registered work registration up) lines
  few : length lines ≤ MOST_SHARE_LINES

claimable : (registered : Registered) (work : List ℕ) (lines : List ClaimLine) → IsFound registered work lines → Claimable registered work lines
claimable registered work lines found =
    let registration = found.registration in
    let up = found.up in
    record {
      registration = registration;
      up = up;
      claim_lines = rw found.exact (are_claim_lines registered work registration up);
      few = rw found.exact (omega (arith, few_kept registered work registration up, up.few));
    }

pub claims-requires : goal.claims-requires
claims-requires c =
    let here = claimable c.args.self.now c.args.line.now.work.now c.in-Some.work.lines.now (rw c.in-Some.is at c.requires.work) in
    record {
      lines = (kept_lines (names_in c.args.self.now) here.registration, its_groups c.args.self.now c.args.line.now.work.now here.registration here.up, here.claim_lines);
      few = here.few;
      room = omega (arith, c.requires.room, ap (λ r. r.room) c.clear.ensures);
    }

pub returns-then-claims : goal.returns-then-claims
returns-then-claims c =
    let here = claimable c.args.self.now c.args.line.now.work.now c.in-Some.work.lines.now (rw c.in-Some.is at c.requires.work) in
    let (same, known) = c.in-Some-land_of.ensures.some in
    let within = c.claims.ensures.within (kept_lines (names_in c.args.self.now) here.registration) (its_groups c.args.self.now c.args.line.now.work.now here.registration here.up) here.claim_lines in
    let (reason, claims) = answered c.args.tis.now c.args.self.now (usage_line_of c.args.line.now) here.registration c.in-Some-land_of.land here.up same known (sym within ∙ c.if-claims.true) in
    record {
      reason = sym reason;
      claims = (rw c.if-claims.true at (c.claims.ensures.claims (kept_lines (names_in c.args.self.now) here.registration) (its_groups c.args.self.now c.args.line.now.work.now here.registration here.up) here.claim_lines)) ∙ sym claims;
      room = c.claims.ensures.room ∙ ap (λ r. r.room) c.clear.ensures;
    }

pub returns-else-claims : goal.returns-else-claims
returns-else-claims c =
    let here = claimable c.args.self.now c.args.line.now.work.now c.in-Some.work.lines.now (rw c.in-Some.is at c.requires.work) in
    let (same, known) = c.in-Some-land_of.ensures.some in
    let within = c.claims.ensures.within (kept_lines (names_in c.args.self.now) here.registration) (its_groups c.args.self.now c.args.line.now.work.now here.registration here.up) here.claim_lines in
    let (reason, claims) = answered_over c.args.tis.now c.args.self.now (usage_line_of c.args.line.now) here.registration c.in-Some-land_of.land here.up same known (sym within ∙ c.if-claims.false) in
    record {
      reason = sym reason;
      claims = (rw c.if-claims.false at (c.claims.ensures.claims (kept_lines (names_in c.args.self.now) here.registration) (its_groups c.args.self.now c.args.line.now.work.now here.registration here.up) here.claim_lines)) ∙ sym claims;
      room = c.claims.ensures.room ∙ ap (λ r. r.room) c.clear.ensures;
    }
