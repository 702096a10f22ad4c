use Rattle.std.proofs.Common.{◌≡◌, ◌∙◌, ◌++◌, ℕ, List, ap}
use Rattle.std.proofs.lemmas.Result.{IfOk-weaker}
use Rattle.page_parts.specs.Style.{style_text}
use Rattle.page_parts.proofs.Chains.{added, behind}
use Rattle.page_parts.proofs.style.add_style.Goals as goal

-- what stands behind a slice stands behind the text that the slice is
behind_text : (page : List ℕ) {next : List ℕ} (slice text : List ℕ) → next ≡ page ++ slice → slice ≡ text → (later : List ℕ) → next ++ later ≡ page ++ (text ++ later)
behind_text page slice text is same later = behind page slice is later ∙ ap (λ (l : List ℕ). page ++ (l ++ later)) same

pub returns : goal.returns
unfolding style_text
returns c =
    let colours = behind_text c.args.page.now.items _ _ c.in_ok-extend_from_slice.ensures.items c.as_bytes.ensures.value in
    let words = behind_text c.extend_from_slice.new.self.items _ _ c.in_ok-extend_from_slice-2.ensures.items c.as_bytes-2.ensures.value in
    let facts = behind_text c.extend_from_slice-2.new.self.items _ _ c.in_ok-extend_from_slice-3.ensures.items c.as_bytes-3.ensures.value in
    let tables = behind_text c.extend_from_slice-3.new.self.items _ _ c.in_ok-extend_from_slice-4.ensures.items c.as_bytes-4.ensures.value in
    let uses = behind_text c.extend_from_slice-4.new.self.items _ _ c.in_ok-extend_from_slice-5.ensures.items c.as_bytes-5.ensures.value in
    let notes = behind_text c.extend_from_slice-5.new.self.items _ _ c.in_ok-extend_from_slice-6.ensures.items c.as_bytes-6.ensures.value in
    let narrow = behind_text c.extend_from_slice-6.new.self.items _ _ c.in_ok-extend_from_slice-7.ensures.items c.as_bytes-7.ensures.value in
    IfOk-weaker c.extend_from_slice-8.result _ _
    (λ _ last. last ∙ (ap (λ (l : List ℕ). c.extend_from_slice-7.new.self.items ++ l) c.as_bytes-8.ensures.value
    ∙ (narrow _ ∙ (notes _ ∙ (uses _ ∙ (tables _ ∙ (facts _ ∙ (words _ ∙ colours _)))))))) (added _ _ _ c.extend_from_slice-8.ensures.items)
