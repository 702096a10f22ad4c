use Rattle.std.proofs.Common.{◌∙◌, ap, []}
use Rattle.std.specs.Prelude.{slice_index_or}
use Rattle.csv.specs.Records.{fields_of}
use Rattle.csv_table.specs.Walk.{Walk}
use Rattle.csv_table.proofs.Fields.{field_found, field_missing}
use Rattle.csv_table.proofs.rows.Rows.field.Goals as goal

pub returns-in-Some : goal.returns-in-Some
returns-in-Some c =
    field_found (fields_of c.self.inside.row) c.args.place c.in-Some.field.now (rw c.in-Some.is at c.get.ensures.value)
    ∙ ap (λ (w : Walk). slice_index_or w.row c.args.place []) c.self.view_is

pub returns-in-None : goal.returns-in-None
returns-in-None c =
    field_missing (fields_of c.self.inside.row) c.args.place (rw c.in-None.is at c.get.ensures.value)
    ∙ ap (λ (w : Walk). slice_index_or w.row c.args.place []) c.self.view_is
