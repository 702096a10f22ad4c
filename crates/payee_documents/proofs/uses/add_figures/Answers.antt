use Rattle.std.proofs.Common.{append_assoc, rules}
use Rattle.std.proofs.lemmas.Int.{to_z-of_z}
use mir.Syntax.{w128, w64}
use Rattle.page_parts.proofs.Chains.{behind, chain}
use Rattle.payee_documents.proofs.uses.add_figures.Goals as goal

pub returns : goal.returns
returns c =
    chain c.add-2.result _ _ c.add-2.ensures
    (λ last. rw (
      simp append_assoc at (behind c.add_share.new.page.items _ last),
      behind c.add.new.page.items _ c.in_ok-add_share.ensures,
      simp append_assoc at (behind c.args.page.now.items _ c.in_ok-add.ensures),
      to_z-of_z w128 c.from.result (search rules),
      c.from.ensures,
      to_z-of_z w64 c.args.portion.now.line.amount (search rules),
      to_z-of_z w128 c.from-2.result (search rules),
      c.from-2.ensures,
      to_z-of_z w64 c.args.portion.now.amount (search rules),
    ))
