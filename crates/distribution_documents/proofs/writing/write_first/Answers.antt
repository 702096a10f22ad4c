use Rattle.std.proofs.Common.{◌∷◌, [], codes, subst, sym}
use Rattle.distribution_documents.specs.Runs.{run_shown, statements_of}
use Rattle.distribution_documents.specs.Written.{AreWritten}
use Rattle.distribution_documents.proofs.Files.{none_written, written_more}
use Rattle.distribution_documents.proofs.writing.write_first.Goals as goal

pub returns : goal.returns
returns g c =
    let has = g.F.Folder.has in
    let overview_text = c.in_ok-pages.pages.overview.items in
    let residue_text = c.in_ok-pages.pages.residue.items in
    let statements_text = statements_of (run_shown c.args.documents.now) in
    let overview = c.in_ok-overview.overview in
    let residue = c.in_ok-residue.residue in
    let statements = c.in_ok-statements.statements in
    let overview_has = subst (has overview (codes "index.html")) c.as_slice.ensures.value c.in_ok-overview.ensures in
    let residue_has = subst (has residue (codes "residue.html")) c.as_slice-2.ensures.value c.in_ok-residue.ensures in
    record {
      overview = overview_text;
      residue_page = residue_text;
      pages = c.in_ok-pages.ensures;
      files =
          subst (λ l. AreWritten has l ((codes "index.html", overview_text) ∷ (codes "residue.html", residue_text) ∷ (codes "statements.csv", statements_text) ∷ []))
          (sym c.in_ok-three.ensures)
          (written_more has overview (residue ∷ statements ∷ []) (codes "index.html", overview_text)
          ((codes "residue.html", residue_text) ∷ (codes "statements.csv", statements_text) ∷ []) overview_has
          (written_more has residue (statements ∷ []) (codes "residue.html", residue_text) ((codes "statements.csv", statements_text) ∷ []) residue_has
          (written_more has statements [] (codes "statements.csv", statements_text) [] c.in_ok-statements.ensures (none_written has))));
    }
