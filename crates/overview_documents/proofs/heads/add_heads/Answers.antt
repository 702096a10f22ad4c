use Rattle.std.proofs.Common.{◌≡◌, ◌∙◌, ◌++◌, [], ℕ, List, ap, append-nil, append_assoc, codes, sym}
use Rattle.page_parts.specs.Facts.{distribution_shown}
use Rattle.page_parts.specs.Pieces.{in_page}
use Rattle.page_parts.proofs.Chains.{behind}
use Rattle.overview_documents.specs.Heads.{all_payees, sum_text}
use Rattle.overview_documents.specs.Overviews.{overview_shown}
use Rattle.overview_documents.specs.declared.heads.TheConstants.{PAGE_HEAD}
use Rattle.overview_documents.proofs.heads.add_heads.Goals as goal

-- what stands behind two pieces
behind_two : (page : List ℕ) {next : List ℕ} (one two : List ℕ) → next ≡ page ++ (one ++ (two ++ [])) → (later : List ℕ) → next ++ later ≡ page ++ (one ++ (two ++ later))
behind_two page one two is later =
    behind page _ is later
    ∙ ap (λ (l : List ℕ). page ++ l) (append_assoc one (two ++ []) later ∙ ap (λ (l : List ℕ). one ++ l) (append_assoc two [] later))

pub returns-clause-text : goal.returns-clause-text
returns-clause-text c =
    let page = c.args.page.now.items in
    let start = c.extend_from_slice.new.self.items in
    let facts = c.add_facts.new.page.items in
    let distribution = distribution_shown c.args.distribution.now in
    let overview = overview_shown c.args.overview.now in
    let headed : start ≡ page ++ PAGE_HEAD.now = c.in_ok-extend_from_slice.ensures.items ∙ ap (λ (l : List ℕ). page ++ l) c.as_bytes.ensures.value in
    let summed : c.add_sum.new.page.items ≡ facts ++ sum_text distribution overview (all_payees overview) =
    c.in_ok-add_sum.ensures ∙ (λ i. facts ++ sum_text distribution overview (c.all_of_payees-all.ensures i)) in
    sym (append-nil c.extend_from_slice-2.new.self.items)
    ∙ (behind c.add_sum.new.page.items _ c.in_ok-extend_from_slice-2.ensures.items []
    ∙ (behind facts _ summed _
    ∙ (behind c.add.new.page.items _ c.in_ok-add_facts.ensures _
    ∙ (behind_two start (in_page distribution.title) (codes "</h1>\n") c.in_ok-add.ensures _ ∙ behind page _ headed _))))
