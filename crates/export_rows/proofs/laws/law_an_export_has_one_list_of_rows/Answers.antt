use Rattle.csv.specs.Reading.{strip_bom}
use Rattle.csv.specs.declared.parser.State.TheVariants.{StartRecord}
use Rattle.export_rows.specs.Places.{config_of}
use Rattle.export_rows.proofs.Taken.{one_list}
use Rattle.export_rows.proofs.laws.law_an_export_has_one_list_of_rows.Goals as goal

pub returns : goal.returns
returns c delimiter text rows other (s, ys, a, a_ends) (t, zs, b, b_ends) =
    one_list (config_of delimiter) StartRecord s t (strip_bom text) ys zs rows other a a_ends b b_ends
