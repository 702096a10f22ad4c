use Rattle.std.proofs.Common.{◌∙◌}
use Rattle.std.proofs.lemmas.Result.{IfOk-weaker}
use Rattle.page_parts.proofs.Chains.{behind}
use Rattle.residue_documents.proofs.tables.add_line.Goals as goal

pub returns : goal.returns
returns c =
    let cells = rw c.name_of-land.ensures at c.in_ok-add_line_cells.ensures in
    IfOk-weaker c.add_figures.result _ _ (λ _ last. last ∙ behind c.args.page.now.items _ cells _) c.add_figures.ensures
