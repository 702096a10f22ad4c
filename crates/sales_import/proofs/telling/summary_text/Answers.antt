use Rattle.std.proofs.Common.{◌≡◌, ◌∙◌, ◌++◌, List, ap, codes, ℕ}
use Rattle.sales_lines.specs.declared.reason.Reason.{Reason}
use Rattle.sales_import.specs.SummaryText.{reason_lines, tally_line}
use Rattle.sales_import.specs.Tallies.{all_reasons}
use Rattle.sales_import.proofs.telling.summary_text.Goals as goal

pub returns : goal.returns
returns c =
    let path = c.args.path.now in
    let told = c.args.summary.now in
    let all = tally_line path (codes "rows") told.all in
    let lines = tally_line path (codes "usage lines") told.lines in
    let rejected = tally_line path (codes "rejected rows") told.rejected in
    let passed = tally_line path (codes "rows passed over") told.passed in
    let reasons : c.as_slice.result.now ≡ all_reasons = c.as_slice.ensures ∙ c.all_reasons.ensures in
    let first : c.add_tally.new.text.items ≡ all = c.in_ok-add_tally.ensures ∙ ap (λ (t : List ℕ). t ++ all) c.new-text.ensures.items in
    let second : c.add_tally-2.new.text.items ≡ all ++ lines = c.in_ok-add_tally-2.ensures ∙ ap (λ (t : List ℕ). t ++ lines) first in
    let third : c.add_tally-3.new.text.items ≡ all ++ lines ++ rejected = c.in_ok-add_tally-3.ensures ∙ ap (λ (t : List ℕ). t ++ rejected) second in
    let fourth : c.add_reasons.new.text.items ≡ all ++ lines ++ rejected ++ reason_lines path told all_reasons =
    c.in_ok-add_reasons.ensures ∙ ap (λ (t : List ℕ). t ++ reason_lines path told c.as_slice.result.now) third
    ∙ ap (λ (r : List Reason). all ++ lines ++ rejected ++ reason_lines path told r) reasons in
    c.in_ok-add_tally-4.ensures ∙ ap (λ (t : List ℕ). t ++ passed) fourth
