use Rattle.std.proofs.Common.{append_assoc, rules}
use Rattle.std.proofs.lemmas.Int.{to_z-of_z}
use mir.Syntax.{w128}
use Rattle.page_parts.proofs.Chains.{behind, chain}
use Rattle.page_parts.proofs.cells.add_work_row.Goals as goal

pub returns : goal.returns
returns c =
    chain c.add-2.result _ _ c.add-2.ensures
    (λ last. rw (
      simp append_assoc at (behind c.add_work.new.page.items _ last),
      behind c.add.new.page.items _ c.in_ok-add_work.ensures,
      simp append_assoc at (behind c.args.page.now.items _ c.in_ok-add.ensures),
      c.body_tag.ensures,
      c.work_tag.ensures,
      to_z-of_z w128 c.args.row.now.amount (search rules),
    ))
