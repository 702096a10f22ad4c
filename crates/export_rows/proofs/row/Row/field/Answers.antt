use Rattle.std.proofs.Common.{◌∙◌, ap, []}
use Rattle.std.specs.Prelude.{ℕ, List, slice_index_or}
use Rattle.csv.specs.Records.{fields_of}
use Rattle.csv_table.proofs.Fields.{field_found, field_missing}
use Rattle.export_rows.proofs.row.Row.field.Goals as goal

pub returns-in-Some : goal.returns-in-Some
returns-in-Some c =
    field_found (fields_of c.self.inside.fields) c.args.place c.in-Some.field.now (rw c.in-Some.is at c.get.ensures.value)
    ∙ ap (λ (row : List (List ℕ)). slice_index_or row c.args.place []) c.self.view_is

pub returns-in-None : goal.returns-in-None
returns-in-None c =
    field_missing (fields_of c.self.inside.fields) c.args.place (rw c.in-None.is at c.get.ensures.value)
    ∙ ap (λ (row : List (List ℕ)). slice_index_or row c.args.place []) c.self.view_is
