use Rattle.std.proofs.Common.{◌≡◌, ◌∙◌, ◌++◌, [], ℕ, ℤ, ap, codes, rules, w64}
use Rattle.std.proofs.lemmas.Int.{to_z-of_z}
use mir.Syntax.{w128}
use Rattle.page_parts.specs.Facts.{figure_text}
use Rattle.page_parts.proofs.Chains.{added, behind, chain}
use Rattle.residue_documents.specs.Reasons.{amount_in, lines_in, sums_shown}
use Rattle.overview_documents.specs.Heads.{note_text}
use Rattle.overview_documents.proofs.Wide.{handed}
use Rattle.overview_documents.proofs.heads.add_sum.Goals as goal

pub returns : goal.returns
returns c =
    let decimals = c.args.distribution.now.decimals in
    let lines = c.args.overview.now.lines in
    let residue = sums_shown c.args.overview.now.residue in
    let came_in : handed c.from.result ≡ lines.amount =
    to_z-of_z w128 c.from.result (search rules) ∙ (c.from.ensures ∙ to_z-of_z w64 lines.amount (search rules)) in
    let paid : handed c.args.all.amount ≡ c.args.all.amount = to_z-of_z w128 c.args.all.amount (search rules) in
    let held : handed c.amount_of.result ≡ amount_in residue = to_z-of_z w128 c.amount_of.result (search rules) ∙ c.amount_of.ensures in
    let before_in = c.extend_from_slice.new.self.items in
    let before_paid = c.extend_from_slice-2.new.self.items in
    let before_held = c.extend_from_slice-3.new.self.items in
    let before_lines = c.begin_figure-3.new.page.items in
    let in_figure : c.begin_figure.new.page.items ≡ before_in ++ figure_text decimals (codes "Usage money") lines.amount [] =
    c.in_ok-begin_figure.ensures ∙ ap (λ (a : ℤ). before_in ++ figure_text decimals (codes "Usage money") a []) came_in in
    let paid_figure : c.begin_figure-2.new.page.items ≡ before_paid ++ figure_text decimals (codes "To payees") c.args.all.amount [] =
    c.in_ok-begin_figure-2.ensures ∙ ap (λ (a : ℤ). before_paid ++ figure_text decimals (codes "To payees") a []) paid in
    let held_figure : c.begin_figure-3.new.page.items ≡ before_held ++ figure_text decimals (codes "Residue") (amount_in residue) [] =
    c.in_ok-begin_figure-3.ensures ∙ ap (λ (a : ℤ). before_held ++ figure_text decimals (codes "Residue") a []) held in
    let held_lines : c.add_note-3.new.page.items ≡ before_lines ++ note_text (codes "lines: ") (lines_in residue) =
    c.in_ok-add_note-3.ensures ∙ ap (λ (n : ℕ). before_lines ++ note_text (codes "lines: ") n) c.lines_of.ensures in
    chain c.extend_from_slice-4.result _ _ (added _ _ _ c.extend_from_slice-4.ensures.items)
    (λ last. behind c.add_note-3.new.page.items _ last _
    ∙ (behind before_lines _ held_lines _
    ∙ (behind before_held _ held_figure _
    ∙ (behind c.add_note-2.new.page.items _ c.in_ok-extend_from_slice-3.ensures.items _
    ∙ (behind c.begin_figure-2.new.page.items _ c.in_ok-add_note-2.ensures _
    ∙ (behind before_paid _ paid_figure _
    ∙ (behind c.add_note.new.page.items _ c.in_ok-extend_from_slice-2.ensures.items _
    ∙ (behind c.begin_figure.new.page.items _ c.in_ok-add_note.ensures _
    ∙ (behind before_in _ in_figure _ ∙ behind c.args.page.now.items _ c.in_ok-extend_from_slice.ensures.items _)))))))))
