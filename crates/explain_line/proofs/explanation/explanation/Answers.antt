use mir.Val.{SFits}
use Rattle.std.proofs.Common.{rules, ◌≡◌, ◌++◌, ◌∙◌, ℕ, ℤ, List, Option, ap, append_assoc, of_z, sym, to_z, w64}
use Rattle.std.proofs.lemmas.Int.{to_z-of_z}
use Rattle.std.proofs.lemmas.Result.{IfOk-weaker}
use Rattle.csv_table.specs.Written.{text_of, text_of_row}
use Rattle.cwr_share.specs.ClaimsOn.{claims_on, reason_against}
use Rattle.cwr_share.specs.Lines.{lines_of}
use Rattle.line_split.specs.UsageLine.{usage_line_of}
use Rattle.line_split.specs.declared.reason.Reason.{Reason}
use Rattle.explain_line.specs.Explanation.{division_rows, explanation_rows, line_row, registration_rows}
use Rattle.explain_line.proofs.RowLemmas.{text_append}
use Rattle.explain_line.proofs.explanation.explanation.Goals as goal

pub returns : goal.returns
returns c =
    let table = c.args.tables.now.territories in
    let registered = c.args.tables.now.registry in
    let file = lines_of c.args.cwr.now in
    let line = usage_line_of c.args.line.now in
    let first : List ℕ = text_of_row (line_row c.args.row line) in
    let registration = text_of (registration_rows table registered file line (reason_against table registered line)) in
    let division = text_of (division_rows registered line.amount (claims_on table registered line)) in
    let handed : to_z w64 (of_z w64 line.amount) ≡ line.amount = let fits : SFits w64 line.amount = search rules in to_z-of_z w64 line.amount fits in
    let one : c.write_line.new.rows.text ≡ first = c.in_ok-write_line.ensures ∙ ap (λ (page : _). page.text ++ first) c.new-rows.ensures in
    let two : c.write_filed.new.rows.text ≡ first ++ registration =
    (rw c.in_ok-write_filed.was at (c.write_filed.ensures file c.in_ok-filed.ensures.filed))
    ∙ (ap (λ (l : List ℕ). l ++ text_of (registration_rows table registered file line c.claims-reason.result)) one
    ∙ ap (λ (reason : Option Reason). first ++ text_of (registration_rows table registered file line reason)) c.claims-reason.ensures.reason) in
    let three : c.write_division.new.rows.text ≡ (first ++ registration) ++ division =
    c.in_ok-write_division.ensures
    ∙ (ap (λ (z : ℤ). c.write_filed.new.rows.text ++ text_of (division_rows registered z c.claims-reason.new.out.list)) handed
    ∙ (ap (λ (l : List (ℕ × ℕ)). c.write_filed.new.rows.text ++ text_of (division_rows registered line.amount l)) c.claims-reason.ensures.claims
    ∙ ap (λ (l : List ℕ). l ++ division) two)) in
    let whole : c.write_division.new.rows.text ≡ text_of (explanation_rows c.args.tables.now file c.args.row line) =
    three ∙ (append_assoc first registration division
    ∙ ap (λ (l : List ℕ). first ++ l) (sym (text_append (registration_rows table registered file line (reason_against table registered line)) (division_rows registered line.amount (claims_on table registered line))))) in
    IfOk-weaker c.into_text.result _ _ (λ text is. is ∙ whole) c.into_text.ensures.text
