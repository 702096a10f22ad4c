use Rattle.csv.specs.Reading.{reader_config, reader_state, source_of}
use Rattle.export_rows.specs.Places.{config_of}
use Rattle.export_rows.specs.declared.retrying.Retrying.{Retrying}
use Rattle.std.proofs.Common.{◌≡◌, refl}
use Rattle.export_rows.proofs.Taken.{none_read}
use Rattle.export_rows.proofs.export_rows.ExportRows.of.Goals as goal

pub returns-clause-none : goal.returns-clause-none
returns-clause-none g c =
    let reader = c.from_reader.result in
    let configured : reader_config reader ≡ config_of c.args.delimiter =
    rw (c.from_reader.ensures.config, c.flexible.ensures, c.has_headers.ensures, c.delimiter.ensures, c.new.ensures.config, c.byte.ensures) refl in
    let remaining = λ (from : Retrying g.row.R.Denot). g.R.Read.remaining from.inner in
    none_read c.args.delimiter (g.R.Read.remaining c.args.from) (reader_config reader) (reader_state reader) (source_of remaining reader) configured c.from_reader.ensures.state (rw c.of.ensures at c.from_reader.ensures.source)
