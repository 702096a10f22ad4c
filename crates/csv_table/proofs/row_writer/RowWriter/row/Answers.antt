use Rattle.std.proofs.Common.{◌∙◌, ◌≢◌, ◌++◌, ap, map, Bor, List, ℕ}
use Rattle.csv.specs.Writing.{row_text, writer_setup}
use Rattle.csv.specs.declared.writer.WriterBuilder.{WriterBuilder}
use Rattle.csv_table.specs.Written.{Page, text_of_row, written}
use Rattle.csv.specs.declared.writer.QuoteStyle.TheVariants as style
use Rattle.csv_table.proofs.Widths.{same_row}
use Rattle.csv_table.proofs.row_writer.RowWriter.row.Goals as goal

pub returns-clause-row : goal.returns-clause-row
returns-clause-row c =
    let between = c.self.invariant c.if-self.false in
    let plain : (writer_setup c.self.inside.out).style ≢ style.NonNumeric = rw between.setup (λ e. cc e) in
    let wrote = c.in-Ok.ensures.bytes between.fields between.clean plain in
    let fields = map (λ (field : Bor (List ℕ)). field.now) c.args.fields.now in
    wrote
    ∙ (ap (λ (setup : WriterBuilder). written c.self.inside.out ++ row_text setup fields) between.setup
    ∙ (ap (λ (text : List ℕ). written c.self.inside.out ++ text) (same_row fields) ∙ ap (λ (page : Page). page.text ++ text_of_row fields) c.self.view_is))
