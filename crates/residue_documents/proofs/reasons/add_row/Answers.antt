use Rattle.std.proofs.Common.{append_assoc, rules, w64}
use Rattle.std.proofs.lemmas.Int.{to_z-of_z}
use mir.Syntax.{w128}
use Rattle.page_parts.proofs.Chains.{behind, chain}
use Rattle.residue_documents.proofs.reasons.add_row.Goals as goal

pub returns : goal.returns
returns c =
    chain c.add.result _ _ c.add.ensures
    (λ last. rw (
      simp append_assoc at (behind c.add_name.new.page.items _ last),
      behind c.args.page.now.items _ c.in_ok-add_name.ensures,
      to_z-of_z w128 c.from.result (search rules),
      c.from.ensures,
      to_z-of_z w64 c.args.sum.amount (search rules),
    ))
