use Rattle.std.proofs.Common.{◌≡◌, ◌∙◌, ap, arith, sym}
use Rattle.csv_table.specs.Written.{text_of}
use Rattle.cwr_share.specs.Lines.{lines_of}
use Rattle.line_split.specs.UsageLine.{UsageLine}
use Rattle.explain_line.specs.Explanation.{explanation_rows}
use Rattle.explain_line.proofs.OneExplanation.{AreAlike, alike_of, one_line, rows_alike}
use Rattle.explain_line.proofs.laws.law_a_row_has_one_explanation.Goals as goal

pub returns : goal.returns
returns c = λ files row text other is of.
    let file = lines_of files.registrations in
    let alike : AreAlike is.tables of.tables = alike_of files is.tables of.tables is.read of.read in
    let line : is.line ≡ of.line =
    one_line is.at.before of.at.before is.line of.line is.at.after of.at.after (sym is.at.split ∙ (alike.uses ∙ of.at.split)) (omega (arith, is.at.place, of.at.place)) in
    is.rows
    ∙ (ap (λ (l : UsageLine). text_of (explanation_rows is.tables file row l)) line
    ∙ (ap text_of (rows_alike is.tables of.tables alike file row of.line)
    ∙ sym of.rows))
