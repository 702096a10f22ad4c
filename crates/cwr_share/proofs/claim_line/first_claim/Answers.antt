use Rattle.std.proofs.Common.{◌≡◌, ◌∙◌, ◌≤◌, ◌<◌, ◌+◌, ◌-◌, ℕ, List, ap, inl, inr, arith, get_or, length, not, refl, sym}
use Rattle.std.specs.Prelude.{◌&&◌}
use Rattle.std.proofs.lemmas.Bool.{cases_lt}
use Rattle.std.proofs.lemmas.List.{drop_all, get_or_default, length-append}
use Rattle.cwr_share.specs.Compiled.{claim_lines}
use Rattle.cwr_share.specs.declared.claim_line.ClaimLine.{ClaimLine}
use Rattle.cwr_share.proofs.ClaimLemmas.{claimed_none, length-claim_lines, no_further, step_apart, step_before, step_more, within_first}
use Rattle.cwr_share.proofs.claim_line.first_claim.Goals as goal
use Rattle.cwr_share.proofs.claim_line.first_claim.Goals.{then-not-line, else-not-line, then-not-decided+then-contains, else-not-decided, else-not-decided-via-then-not-decided+else-contains, else-not-decided-via-else-not-decided}

pub loop-count-init : goal.loop-count-init
loop-count-init c = record {
  small = omega arith;
  same = λ k d none. absurd (omega (arith, none));
  claimed = λ account first others split alike within. rw (drop_all (length first - 0) first (omega arith)) (claimed_none c.args.tis.now c.args.land c.args.right);
}

pub loop-count-preserved : goal.loop-count-preserved
loop-count-preserved c =
    let lines = c.args.lines.now in
    let count = c.loop-count.count in
    let line = c.index-lines-count.result in
    let before = c.loop-count.invariant in
    let blocked : (not line.begins && c.loop-count.decided) ≡ c.if-not-line.decided = elim c.if-not-line.branch [
      | then-not-line w ↦ rw (w.decided-is, w.if-not-line.true) refl
      | else-not-line w ↦ rw (w.decided-is, w.if-not-line.false) refl
    ] in
    let same : (k : ℕ) (d : ClaimLine) → k < count + 1 → (get_or lines k d).account ≡ (get_or lines 0 d).account =
    λ k d within. elim (cases_lt k count) [
      | inl earlier ↦ before.same k d earlier
      | inr last ↦
          let at : k ≡ count = omega (arith, within, last) in
          let here = get_or_default lines count d line c.loop-count-test.true in
          let first = get_or_default lines 0 c.index-lines-0.result d c.requires.some in
          ap (λ n. (get_or lines n d).account) at
          ∙ (ap (λ (l : ClaimLine). l.account) (here ∙ sym c.index-lines-count.is) ∙ (c.if-line-lines.false ∙ ap (λ (l : ClaimLine). l.account) first))
    ] in
    elim c.if-not-decided.branch [
      | then-not-decided+then-contains w ↦
          rw (w.claim-is, w.decided-is) (record {
            small = omega (arith, before.small);
            same = same;
            claimed = λ account first others split alike within.
                rw (w.from-claim.ensures, w.share_for.ensures)
                (step_more c.args.tis.now c.args.land c.args.right lines count line c.index-lines-count.is c.loop-count.claim c.loop-count.decided account first others split alike (omega arith)
                (before.claimed account first others split alike (omega arith)) (blocked ∙ w.if-not-decided.true) (sym w.contains.ensures.worked_out ∙ w.if-contains.true));
          })
      | else-not-decided w ↦ rw (w.claim-is, w.decided-is) (record {
        small = omega (arith, before.small);
        same = same;
        claimed = λ account first others split alike within. elim w.else-not-decided.branch [
          | else-not-decided-via-then-not-decided+else-contains w' ↦
              rw w'.if-not-decided.true
              (step_apart c.args.tis.now c.args.land c.args.right lines count line c.index-lines-count.is c.loop-count.claim c.loop-count.decided account first others split alike (omega arith)
              (before.claimed account first others split alike (omega arith)) (blocked ∙ w'.if-not-decided.true) (sym w'.contains.ensures.worked_out ∙ w'.if-contains.false))
          | else-not-decided-via-else-not-decided w' ↦
              rw w'.if-not-decided.false
              (step_before c.args.tis.now c.args.land c.args.right lines count line c.index-lines-count.is c.loop-count.claim c.loop-count.decided account first others split alike (omega arith)
              (before.claimed account first others split alike (omega arith)) (blocked ∙ w'.if-not-decided.false))
        ];
      })
    ]

pub returns-then-line-lines-clause-claim : goal.returns-then-line-lines-clause-claim
returns-then-line-lines-clause-claim c = λ account first others split some alike apart.
    let lines = c.args.lines.now in
    let count = c.loop-count.count in
    let line = c.index-lines-count.result in
    let before = c.loop-count.invariant in
    let few = no_further lines count before.same account first others split some apart (omega arith) in
    let all : length first ≤ count = elim (cases_lt count (length first)) [
      | inr whole ↦ whole
      | inl inside ↦
          let here = within_first lines count before.same account first others split some apart count line inside in
          let front = within_first lines count before.same account first others split some apart 0 c.index-lines-0.result some in
          absurd (c.if-line-lines.true (ap (λ (l : ClaimLine). l.account) c.index-lines-count.is ∙ here ∙ sym front))
    ] in
    let count_is : count ≡ length first = omega (arith, few, all) in
    let none : length first - count ≡ 0 = omega (arith, all) in
    ((rw none at (before.claimed account first others split alike few)).sum, count_is)

pub returns-clause-claim : goal.returns-clause-claim
returns-clause-claim c = λ account first others split some alike apart.
    let lines = c.args.lines.now in
    let count = c.loop-count.count in
    let before = c.loop-count.invariant in
    let few = no_further lines count before.same account first others split some apart (omega arith) in
    let all : length first ≤ count =
    omega (arith, ap (λ (l : List ClaimLine). length l) split, length-append (claim_lines account first) others, length-claim_lines account first) in
    let count_is : length lines ≡ length first = omega (arith, few, all) in
    let none : length first - count ≡ 0 = omega (arith, all) in
    ((rw none at (before.claimed account first others split alike few)).sum, count_is)
