use Rattle.std.proofs.Common.{ℕ, List, Vec, Global}
use Rattle.std.proofs.lemmas.Option.{IfSome_then}
use Rattle.distribution_documents.specs.Documents.{File}
use Rattle.distribution_documents.specs.Written.{AreWritten}
use Rattle.document_run.specs.Documented.{AreDocumentsFor}
use Rattle.document_run.specs.Names.{items_of}
use Rattle.document_run.specs.Submitters.{AreSubmittedDocuments}
use Rattle.document_run.specs.Wordings.{wording_shown}
use Rattle.submitted_inputs.specs.Submitted.{map_tables}
use Rattle.document_run.proofs.submitters.document_submitted.Goals as goal

pub returns-clause-documents : goal.returns-clause-documents
returns-clause-documents g c =
    let named = c.in_ok-named.named in
    let said = wording_shown c.args.wording.now in
    let read = c.in_ok-named.ensures.read in
    let has = g.F.Folder.has in
    IfSome_then c.in_ok-document_tables.field-0
    {P = λ (written : Vec g.row.F-Stored.Denot Global). (files : List File) × AreDocumentsFor said named.tables named.titles (items_of named.names) files × AreWritten has written.items files}
    {Q = λ (written : Vec g.row.F-Stored.Denot Global). (files : List File)
    × AreSubmittedDocuments c.args.inputs.submitters.now (g.S.SubmitterFiles.holds c.args.inputs.files.now) (map_tables g.I.Input.bytes c.args.inputs.tables.now) said files
    × AreWritten has written.items files}
    c.in_ok-document_tables.ensures
    (λ written made. (made.0, record { tables = named.tables; read = read.read; titles = named.titles; names = items_of named.names; named_by = read.named_by; documents = made.1 }, made.2))

pub returns-clause-read : goal.returns-clause-read
returns-clause-read g c = (c.in_ok-named.named.tables, c.in_ok-named.ensures.read.read)
