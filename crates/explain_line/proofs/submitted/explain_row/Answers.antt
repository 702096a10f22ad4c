use Rattle.std.proofs.Common.{◌≡◌, ◌+◌, ◌-◌, ◌<◌, ℕ, arith, length, subst}
use Rattle.line_split.specs.UsageLine.{usage_line_of}
use Rattle.explain_line.specs.Explanation.{IsRow}
use Rattle.explain_line.proofs.RowLemmas.{row_after}
use Rattle.explain_line.proofs.submitted.explain_row.Goals as goal

pub returns-clause-explained : goal.returns-clause-explained
returns-clause-explained c =
    let uses = c.in_ok-usage.usage in
    let line = usage_line_of c.line-line.result in
    let place : ℕ = c.args.row - 1 in
    let row : place + 1 ≡ c.args.row = omega (arith, c.if-row-eq0.false) in
    let within : place < length uses = omega (arith, row, c.if-row-len.false, c.len.ensures.lines) in
    record {
      uses = uses;
      of = c.in_ok-usage.was;
      line = line;
      at = subst (λ (n : ℕ). IsRow uses n line) row (row_after uses place line within c.line-line.ensures.line);
      here = (omega (arith, row), c.line-line.ensures.line);
      explains = c.in_ok-text.ensures;
    }
