use Rattle.std.proofs.Common.{◌≡◌, ◌∙◌, ◌++◌, [], ℕ, List, ap, append_assoc, codes, rules, to_z, of_z}
use Rattle.std.proofs.lemmas.Int.{to_z-of_z}
use mir.Syntax.{w128}
use Rattle.page_parts.specs.Facts.{figure_text}
use Rattle.page_text.specs.Figures.{count_text}
use Rattle.page_parts.proofs.Chains.{added, behind, chain}
use Rattle.residue_documents.specs.Page.{residue_shown, residue_sums}
use Rattle.residue_documents.specs.Reasons.{amount_in, lines_in, reasons_text}
use Rattle.residue_documents.specs.declared.page.TheConstants.{PAGE_HEAD}
use Rattle.residue_documents.proofs.page.add_page_head.Goals as goal

-- what stands behind two pieces
behind_two : (page : List ℕ) {next : List ℕ} (one two : List ℕ) → next ≡ page ++ (one ++ (two ++ [])) → (later : List ℕ) → next ++ later ≡ page ++ (one ++ (two ++ later))
behind_two page one two is later =
    behind page _ is later
    ∙ ap (λ (l : List ℕ). page ++ l) (append_assoc one (two ++ []) later ∙ ap (λ (l : List ℕ). one ++ l) (append_assoc two [] later))

pub returns : goal.returns
returns c =
    let decimals = c.args.distribution.now.decimals in
    let currency = c.args.distribution.now.currency.now in
    let sums = c.sums_of-sums.ensures.sums in
    let residue = residue_sums (residue_shown c.args.residue.now) in
    let amount : to_z w128 (of_z w128 c.amount_of.result) ≡ amount_in residue =
    to_z-of_z w128 c.amount_of.result (search rules) ∙ (c.amount_of.ensures ∙ ap amount_in sums) in
    let lines : c.lines_of.result ≡ lines_in residue = c.lines_of.ensures ∙ ap lines_in sums in
    let headed : c.extend_from_slice.new.self.items ≡ c.args.page.now.items ++ PAGE_HEAD.now =
    c.in_ok-extend_from_slice.ensures.items ∙ ap (λ (l : List ℕ). c.args.page.now.items ++ l) c.as_bytes.ensures.value in
    let figure : c.begin_figure.new.page.items ≡ c.extend_from_slice-2.new.self.items ++ figure_text decimals (codes "Held back") (amount_in residue) currency =
    c.in_ok-begin_figure.ensures ∙ (λ i. c.extend_from_slice-2.new.self.items ++ figure_text decimals (codes "Held back") (amount i) currency) in
    let counted : c.add.new.page.items ≡ c.begin_figure.new.page.items ++ (codes "lines: " ++ (count_text (lines_in residue) ++ [])) =
    c.in_ok-add.ensures ∙ (λ i. c.begin_figure.new.page.items ++ (codes "lines: " ++ (count_text (lines i) ++ []))) in
    let table : c.add_reasons.new.page.items ≡ c.extend_from_slice-3.new.self.items ++ reasons_text decimals [] residue =
    c.in_ok-add_reasons.ensures ∙ (λ i. c.extend_from_slice-3.new.self.items ++ reasons_text decimals [] (sums i)) in
    chain c.extend_from_slice-4.result _ _ (added _ _ _ c.extend_from_slice-4.ensures.items)
    (λ last. behind c.add_reasons.new.page.items _ last _
    ∙ (behind c.extend_from_slice-3.new.self.items _ table _
    ∙ (behind c.end_figure.new.page.items _ c.in_ok-extend_from_slice-3.ensures.items _
    ∙ (behind c.add.new.page.items _ c.in_ok-end_figure.ensures _
    ∙ (behind_two c.begin_figure.new.page.items (codes "lines: ") (count_text (lines_in residue)) counted _
    ∙ (behind c.extend_from_slice-2.new.self.items _ figure _
    ∙ (behind c.add_fact-2.new.page.items _ c.in_ok-extend_from_slice-2.ensures.items _
    ∙ (behind c.add_fact.new.page.items _ c.in_ok-add_fact-2.ensures _
    ∙ (behind c.extend_from_slice.new.self.items _ c.in_ok-add_fact.ensures _ ∙ behind c.args.page.now.items _ headed _)))))))))
