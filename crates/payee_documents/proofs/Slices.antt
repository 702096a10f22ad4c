-- Slices that are added to a page.
use Rattle.std.proofs.Common.{◌≡◌, ◌∙◌, ◌++◌, ℕ, List, ap}
use Rattle.page_parts.proofs.Chains.{behind}

-- what stands behind a slice stands behind the text that the slice is
pub behind_slice : (page : List ℕ) {next : List ℕ} (slice text : List ℕ) → next ≡ page ++ slice → slice ≡ text → (later : List ℕ) → next ++ later ≡ page ++ (text ++ later)
behind_slice page slice text is same later = behind page slice is later ∙ ap (λ (l : List ℕ). page ++ (l ++ later)) same
