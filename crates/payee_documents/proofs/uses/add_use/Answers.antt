use Rattle.std.proofs.Common.{◌∙◌}
use Rattle.page_parts.proofs.Chains.{behind}
use Rattle.std.proofs.lemmas.Result.{on_ok_weaker}
use Rattle.payee_documents.proofs.uses.add_use.Goals as goal

pub returns : goal.returns
returns c =
    on_ok_weaker c.add_figures.result
    (λ last. last ∙ behind c.args.page.now.items _ (rw c.name_of-land.ensures at c.in_ok-add_line_cells.ensures) _) c.add_figures.ensures
