use Rattle.std.proofs.Common.{append_assoc}
use Rattle.page_parts.proofs.Chains.{behind, chain}
use Rattle.page_parts.proofs.frame.begin_page.Goals as goal

pub returns : goal.returns
returns c =
    chain c.add-2.result _ _ c.add-2.ensures
    (λ last. rw (
      simp append_assoc at (behind c.add_style.new.page.items _ last),
      behind c.add.new.page.items _ c.in_ok-add_style.ensures,
      simp append_assoc at (behind c.args.page.now.items _ c.in_ok-add.ensures),
    ))
