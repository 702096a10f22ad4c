use Rattle.std.proofs.Common.{◌≡◌, ◌∙◌, ◌++◌, ◌∷◌, [], List, codes, flat_map, refl, subst, sym}
use Rattle.distribution_documents.specs.Documents.{File}
use Rattle.distribution_documents.specs.Runs.{payees_in, run_shown, statements_of}
use Rattle.distribution_documents.specs.Slots.{AreAllWritten, files_in}
use Rattle.distribution_documents.specs.Written.{AreWritten}
use Rattle.page_parts.specs.Facts.{distribution_shown}
use Rattle.distribution_documents.proofs.Files.{gathered, written-append}
use Rattle.distribution_documents.proofs.writing.write_documents.Goals as goal

pub returns : goal.returns
returns g c =
    let has = g.F.Folder.has in
    let distribution = distribution_shown c.args.documents.now.distribution in
    let run = run_shown c.args.documents.now in
    let three = c.in_ok-written.ensures in
    let payees = c.in_ok-files.files.items in
    let all = gathered has distribution run (payees_in run) payees
    (subst (λ accounts. AreAllWritten has distribution run accounts payees) (c.as_slice-2.ensures.value ∙ c.in_ok-payees.ensures.payees) c.in_ok-files.ensures) in
    let first : List File = (codes "index.html", three.overview) ∷ (codes "residue.html", three.residue_page) ∷ (codes "statements.csv", statements_of run) ∷ [] in
    let later : List File = flat_map (λ (files : List File). files) all.files in (
      first ++ later,
      record {
        residue = three.pages.residue;
        is_residue = three.pages.is_residue;
        overview_page = three.overview;
        overview = three.pages.overview_is;
        residue_page = three.residue_page;
        held = three.pages.held;
        payee_files = all.files;
        payees = record { whole = all.whole; each = all.each };
        files_are = refl;
      },
      subst (λ l. AreWritten has l (first ++ later)) (sym c.in_ok-add_all.ensures)
          (written-append has c.in_ok-written.written.items (flat_map files_in payees) first later three.files all.as_written),
    )
