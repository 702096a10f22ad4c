use Rattle.std.proofs.Common.{append_assoc}
use Rattle.std.proofs.lemmas.Int.{to_z-of_z}
use mir.Syntax.{w128}
use Rattle.page_parts.proofs.Chains.{added, behind, chain}
use Rattle.page_parts.proofs.bars.add_bar.Goals as goal

pub returns : goal.returns
returns c =
    chain c.extend_from_slice.result _ _ (added _ _ _ c.extend_from_slice.ensures.items)
    (λ last. rw (
      behind c.add_axis.new.page.items _ last,
      behind c.add.new.page.items _ c.in_ok-add_axis.ensures,
      simp append_assoc at (behind c.args.page.now.items _ c.in_ok-add.ensures),
      c.start_of-start.ensures,
      c.bar_class.ensures,
      c.width_of-width.ensures,
      c.zero_at-zero.ensures,
      c.unsigned_abs.ensures.value,
      to_z-of_z w128 c.args.amount c.ranges.amount,
    ))
