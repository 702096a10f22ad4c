use Rattle.std.proofs.Common.{◌≡◌, ◌∙◌, List, ap, map, subst, ℕ}
use Rattle.std.specs.Borrow.{Bor}
use Rattle.std.specs.Io.KnownBytes.{Appends}
use Rattle.csv_table.specs.Written.{text_of_row}
use Rattle.sales_import.specs.Imported.{reject_header}
use Rattle.sales_import.proofs.page.write_reject_header.Goals as goal

pub returns-in-Ok-clause-header : goal.returns-in-Ok-clause-header
returns-in-Ok-clause-header g c =
    let shown : map (λ (field : Bor (List ℕ)). field.now) c.as_slice.result.now ≡ reject_header c.args.header.now =
    ap (map (λ (field : Bor (List ℕ)). field.now)) c.as_slice.ensures.value ∙ c.in_ok-fields.ensures in
    let P : List (List ℕ) → Type 0 = λ fields. Appends (g.W.Write.contents c.args.out.now) (g.W.Write.contents c.write_row.new.out) (text_of_row fields) in
    subst P shown c.in-Ok.ensures
