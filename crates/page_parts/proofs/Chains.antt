-- A page that grows step by step. Where `add_start`, `add_more` and `add_end` are the steps of a function, its answer is
--     chain c.add_end.result _ _ c.add_end.ensures
--     (λ last. rw (behind c.add_more.new.page.items _ last, behind c.add_start.new.page.items _ c.in_ok-add_more.ensures,
--       behind c.args.page.now.items _ c.in_ok-add_start.ensures))
-- A step that adds several pieces goes in as `simp append_assoc at (behind PAGE _ FACT)`, and a slice that is added last by `added`.
use Rattle.std.proofs.Common.{◌≡◌, ◌∙◌, ◌++◌, [], ℕ, List, Result, ap, append-nil, append_assoc, cond, sym}
use Rattle.std.specs.Result.{OnOk, is_ok}
use Rattle.std.proofs.lemmas.Result.{on_ok_weaker}
use Rattle.std.specs.declared.result.Result.TheVariants.{Ok, Err}

-- what stands behind a step stands behind the text that the step added to `page`
pub behind : (page : List ℕ) {next : List ℕ} (text : List ℕ) → next ≡ page ++ text → (later : List ℕ) → next ++ later ≡ page ++ (text ++ later)
behind page {next} text is later = ap (λ (l : List ℕ). l ++ later) is ∙ append_assoc page text later

-- behind the last step stands nothing
pub chain : {T E P : Type 0} (result : Result T E) (last whole : List ℕ) → OnOk result P → (P → last ++ [] ≡ whole) → OnOk result (last ≡ whole)
chain result last whole did is = on_ok_weaker result (λ p. sym (append-nil last) ∙ is p) did

-- a slice that was added last: its call says what it leaves in either case
pub added : {T E : Type 0} (result : Result T E) {next : List ℕ} (whole page : List ℕ) → next ≡ cond (is_ok result) whole page → OnOk result (next ≡ whole)
added (Ok v) whole page is = is
added (Err v) whole page is = tt
