use Rattle.std.proofs.Common.{◌≡◌, ◌≤◌, ◌<◌, ◌+◌, ◌++◌, ℕ, List, All, arith, drop, get_or, length, refl, sym}
use Rattle.std.specs.Prelude.{sum_by}
use Rattle.std.proofs.lemmas.List.{take_rest}
use Rattle.line_split.specs.declared.usage.Right.{Right}
use Rattle.cwr_share.specs.ClaimsOn.{deciding, share_for}
use Rattle.cwr_share.specs.Compiled.{AreClaimLines, AreInRuns, claim_lines, claims_of_claimants, lines_of_claimants}
use Rattle.cwr_share.specs.Registrations.{ShareLine}
use Rattle.cwr_share.specs.declared.claim_line.ClaimLine.{ClaimLine}
use Rattle.cwr_share.proofs.ClaimLemmas.{Gathered, claim_here, claimant_here, claimant_left, gathered_all, gathered_few, gathered_more, gathered_none, gathered_over, gathered_zero, is_here, its_account, length-claims, lower_accounts, none_left}
use Rattle.cwr_share.proofs.claim_line.claims.Goals as goal
use Rattle.cwr_share.proofs.claim_line.claims.Goals.{then-claim-gt0, else-claim-gt0}

pub loop-at-init : goal.loop-at-init
loop-at-init c = rw c.clear.ensures (record {
  within = omega arith;
  small = omega arith;
  room = refl;
  gathered = λ named claimants of. (0, of.exact, gathered_none (claims_of_claimants c.args.tis.now c.args.land c.args.right named claimants));
})

-- so many claimants' claims are worked out, and the lines at hand are those of the next
record Next (table : List (ℕ × List ℕ)) (land : ℕ) (right : Right) (named : List ShareLine) (claimants : List (ℕ × List ℕ)) (lines : List ClaimLine) (at total : ℕ) (out : List (ℕ × ℕ)) : Type 0 where
  n : ℕ
  inside : n < length claimants
  claimant : ℕ × List ℕ
  is : claimant ≡ get_or claimants n claimant
  account : (d : ClaimLine) → (get_or lines at d).account ≡ claimant.0
  gathered : Gathered (claims_of_claimants table land right named claimants) out total n
  left : n < length (claims_of_claimants table land right named claimants)
  lower : All (λ other. other.0 < claimant.0) out
  claim : (claim count : ℕ)
      → ((account : ℕ) (first : List ShareLine) (others : List ClaimLine) → drop at lines ≡ claim_lines account first ++ others → 0 < length first → AreInRuns first
      → All (λ other. ¬ (other.account ≡ account)) others → (claim ≡ sum_by (share_for right) (deciding table land first)) × (count ≡ length first))
      → (get_or (claims_of_claimants table land right named claimants) n (claimant.0, claim) ≡ (claimant.0, claim)) × (drop (at + count) lines ≡ lines_of_claimants named (drop (n + 1) claimants))

next_here : (table : List (ℕ × List ℕ)) (land : ℕ) (right : Right) (named : List ShareLine) (claimants : List (ℕ × List ℕ)) (lines : List ClaimLine) → AreClaimLines named claimants lines
    → (at total : ℕ) (out : List (ℕ × ℕ)) → (n : ℕ) × (drop at lines ≡ lines_of_claimants named (drop n claimants)) × Gathered (claims_of_claimants table land right named claimants) out total n
    → at < length lines → Next table land right named claimants lines at total out
next_here table land right named claimants lines of at total out (n, here, gathered) some =
    let inside = claimant_left named claimants lines of at n here some in
    let claimant = claimant_here named claimants lines of at n here inside in
    let is = is_here named claimants lines of at n here inside in
    record {
      n = n;
      inside = inside;
      claimant = claimant;
      is = is;
      account = its_account named claimants lines of at n here inside;
      gathered = gathered;
      left = omega (arith, inside, length-claims table land right named claimants);
      lower = rw gathered.kept (lower_accounts table land right named claimants n claimant inside is of.rising);
      claim = claim_here named claimants lines of at n here inside table land right;
    }

pub returns-then-total-from-clause-within : goal.returns-then-total-from-clause-within
returns-then-total-from-clause-within c = λ named claimants of.
    let all = claims_of_claimants c.args.tis.now c.args.land c.args.right named claimants in
    let next = next_here c.args.tis.now c.args.land c.args.right named claimants c.args.lines.now of c.loop-at.at c.loop-at.total c.loop-at.out.list (c.loop-at.invariant.gathered named claimants of) c.loop-at-test.true in
    let (at, later) = next.claim c.first_claim-claim.result.0 c.first_claim-claim.result.1 (rw (take_rest c.args.lines.now c.loop-at.at) at c.first_claim-claim.ensures.claim) in
    sym (gathered_over all c.loop-at.out.list c.loop-at.total next.n (next.claimant.0, c.first_claim-claim.result.0) next.gathered next.left at (rw c.from.ensures at c.if-total-from.true))

pub push-requires-clause-account : goal.push-requires-clause-account
push-requires-clause-account c =
    let (named, claimants, of) = c.requires.lines in
    let next = next_here c.args.tis.now c.args.land c.args.right named claimants c.args.lines.now of c.loop-at.at c.loop-at.total c.loop-at.out.list (c.loop-at.invariant.gathered named claimants of) c.loop-at-test.true in
    rw (next.account c.index-lines-at.result, next.is) (of.accounts next.n next.claimant next.inside)

pub push-requires-clause-rising : goal.push-requires-clause-rising
push-requires-clause-rising c =
    let (named, claimants, of) = c.requires.lines in
    let next = next_here c.args.tis.now c.args.land c.args.right named claimants c.args.lines.now of c.loop-at.at c.loop-at.total c.loop-at.out.list (c.loop-at.invariant.gathered named claimants of) c.loop-at-test.true in
    rw (next.account c.index-lines-at.result) next.lower

pub push-requires-clause-room : goal.push-requires-clause-room
push-requires-clause-room c =
    let (named, claimants, of) = c.requires.lines in
    let all = claims_of_claimants c.args.tis.now c.args.land c.args.right named claimants in
    let next = next_here c.args.tis.now c.args.land c.args.right named claimants c.args.lines.now of c.loop-at.at c.loop-at.total c.loop-at.out.list (c.loop-at.invariant.gathered named claimants of) c.loop-at-test.true in
    let few = gathered_few all c.loop-at.out.list c.loop-at.total next.n next.gathered (omega (arith, next.left)) in
    omega (arith, few, length-claims c.args.tis.now c.args.land c.args.right named claimants, of.few, c.requires.room, c.loop-at.invariant.room)

pub loop-at-preserved : goal.loop-at-preserved
loop-at-preserved c =
    let claim = c.first_claim-claim.result.0 in
    let small = rw c.from.ensures at c.if-total-from.false in
    let within : c.loop-at.at + c.first_claim-claim.result.1 ≤ length c.args.lines.now = omega arith in
    elim c.if-claim-gt0.branch [
      | then-claim-gt0 w ↦ rw (w.out-is, w.push.ensures) (record {
        within = within;
        small = omega (arith, small);
        room = c.loop-at.invariant.room;
        gathered = λ named claimants of.
            let all = claims_of_claimants c.args.tis.now c.args.land c.args.right named claimants in
            let next = next_here c.args.tis.now c.args.land c.args.right named claimants c.args.lines.now of c.loop-at.at c.loop-at.total c.loop-at.out.list (c.loop-at.invariant.gathered named claimants of) c.loop-at-test.true in
            let (at, later) = next.claim c.first_claim-claim.result.0 c.first_claim-claim.result.1 (rw (take_rest c.args.lines.now c.loop-at.at) at c.first_claim-claim.ensures.claim) in (
              next.n + 1,
              later,
              rw (next.account w.index-lines-at.result) (gathered_more all c.loop-at.out.list c.loop-at.total next.n (next.claimant.0, claim) next.gathered next.left at w.if-claim-gt0.true small),
            );
      })
      | else-claim-gt0 w ↦ rw w.out-is (record {
        within = within;
        small = omega (arith, small);
        room = c.loop-at.invariant.room;
        gathered = λ named claimants of.
            let all = claims_of_claimants c.args.tis.now c.args.land c.args.right named claimants in
            let next = next_here c.args.tis.now c.args.land c.args.right named claimants c.args.lines.now of c.loop-at.at c.loop-at.total c.loop-at.out.list (c.loop-at.invariant.gathered named claimants of) c.loop-at-test.true in
            let (at, later) = next.claim c.first_claim-claim.result.0 c.first_claim-claim.result.1 (rw (take_rest c.args.lines.now c.loop-at.at) at c.first_claim-claim.ensures.claim) in
            (next.n + 1, later, gathered_zero all c.loop-at.out.list c.loop-at.total next.n (next.claimant.0, claim) next.gathered next.left at (omega (arith, w.if-claim-gt0.false)) small);
      })
    ]

pub returns-clause-within : goal.returns-clause-within
returns-clause-within c = λ named claimants of.
    let all = claims_of_claimants c.args.tis.now c.args.land c.args.right named claimants in
    let (n, here, gathered) = c.loop-at.invariant.gathered named claimants of in
    let done = none_left named claimants c.args.lines.now of c.loop-at.at n here c.loop-at-test.false in
    sym (gathered_all all c.loop-at.out.list c.loop-at.total n gathered (omega (arith, done, length-claims c.args.tis.now c.args.land c.args.right named claimants))).0

pub returns-clause-claims : goal.returns-clause-claims
returns-clause-claims c = λ named claimants of.
    let all = claims_of_claimants c.args.tis.now c.args.land c.args.right named claimants in
    let (n, here, gathered) = c.loop-at.invariant.gathered named claimants of in
    let done = none_left named claimants c.args.lines.now of c.loop-at.at n here c.loop-at-test.false in
    (gathered_all all c.loop-at.out.list c.loop-at.total n gathered (omega (arith, done, length-claims c.args.tis.now c.args.land c.args.right named claimants))).1
