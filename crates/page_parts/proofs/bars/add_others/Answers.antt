use Rattle.std.proofs.Common.{append_assoc, rules}
use Rattle.std.proofs.lemmas.Int.{to_z-of_z}
use mir.Syntax.{w128}
use Rattle.page_parts.proofs.Chains.{behind, chain}
use Rattle.page_parts.proofs.bars.add_others.Goals as goal

pub returns : goal.returns
returns c =
    chain c.add_figures.result _ _ c.add_figures.ensures
    (λ last. rw (
      behind c.add_bar.new.page.items _ last,
      behind c.add.new.page.items _ c.in_ok-add_bar.ensures,
      simp append_assoc at (behind c.args.page.now.items _ c.in_ok-add.ensures),
      c.row_tag.ensures,
      to_z-of_z w128 c.args.others.amount (search rules),
    ))
