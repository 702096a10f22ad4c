use Rattle.std.proofs.Common.{◌≡◌, ◌∙◌, ◌++◌, ◌==◌, append_assoc, rules, tests, true, false, w64}
use Rattle.std.proofs.lemmas.Int.{to_z-of_z}
use Rattle.std.specs.Prelude.{if◌then◌else◌}
use Rattle.page_parts.proofs.Chains.{behind, chain}
use Rattle.residue_documents.specs.Reasons.{link_text, reason_name}
use Rattle.residue_documents.proofs.reasons.add_name.Goals as goal
use Rattle.residue_documents.proofs.reasons.add_name.Goals.{then-sum-eq0+in_ok-extend_from_slice, else-sum-eq0+in_ok-add_link}

pub returns : goal.returns
returns c =
    let reason = c.args.reason in
    let page = c.add.new.page.items in
    let named : c.if-sum-eq0.page.items ≡ page ++ (if c.args.sum.lines == 0 then reason_name reason else link_text c.args.link.now reason) =
    elim c.if-sum-eq0.branch [
      | then-sum-eq0+in_ok-extend_from_slice w ↦
          let none : (c.args.sum.lines == 0) ≡ true = search (rules, tests) in
          rw (w.page-is, none) (w.in_ok-extend_from_slice.ensures.items ∙ (λ i. page ++ (w.as_bytes.ensures.value ∙ w.name_of.ensures) i))
      | else-sum-eq0+in_ok-add_link w ↦
          let some : (c.args.sum.lines == 0) ≡ false = search (rules, tests) in
          rw (w.page-is, some) w.in_ok-add_link.ensures
    ] in
    chain c.add-2.result _ _ c.add-2.ensures
    (λ last. rw (
      simp append_assoc at (behind c.if-sum-eq0.page.items _ last),
      behind page _ named,
      simp append_assoc at (behind c.args.page.now.items _ c.in_ok-add.ensures),
      c.word-word.ensures,
      c.row_tag.ensures,
      to_z-of_z w64 c.args.sum.amount (search rules),
    ))
