use Rattle.std.proofs.Common.{subst, sym}
use Rattle.distribution_documents.specs.Runs.{IsResidue, run_shown}
use Rattle.residue_documents.specs.Page.{residue_shown}
use Rattle.distribution_documents.proofs.writing.first_pages.Goals as goal

pub returns : goal.returns
returns c = record {
  residue = residue_shown c.as_residue-residue.result;
  is_residue = subst (IsResidue (run_shown c.args.documents.now)) (sym c.as_residue-residue.ensures.residue) c.in_ok-held.ensures.residue;
  overview_is = c.in_ok-overview.ensures;
  held = c.in_ok-residue.ensures;
}
