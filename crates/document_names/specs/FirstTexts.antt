-- Texts by key, where the first one that says something counts.
use Rattle.std.specs.Prelude.{ℕ, ◌≡◌, ◌<◌, ◌&&◌, ◌∷◌, [], All, Bool, true, false, List, length, nat_eq}
use Rattle.std.specs.List.{find}
use Rattle.std.specs.Option.{option_map_or}
use Rattle.std.specs.Cmp.Lexicographic.{pointwise}

-- the text says something
abbrev pub is_said : List ℕ → Bool
is_said [] = false
is_said (byte ∷ text) = true

-- of texts that were noted, each with its key, the first of this key that says something; else nothing
abbrev pub first_text : (noted : List (List ℕ × List ℕ)) → (key : List ℕ) → List ℕ
first_text noted key = option_map_or (λ e. e.1) (find (λ e. pointwise nat_eq e.0 key && is_said e.1) noted) []

-- the text that is kept for a key
abbrev pub text_in : (kept : List (List ℕ × List ℕ)) → (key : List ℕ) → List ℕ
text_in kept key = option_map_or (λ e. e.1) (find (λ e. pointwise nat_eq e.0 key) kept) []

-- What is kept of the texts that were noted: no empty one, and for each key the first.
pub record AreFirstTexts (noted kept : List (List ℕ × List ℕ)) : Type 0 where
  pub said : All (λ e. 0 < length e.1) kept
  pub first : (key : List ℕ) → text_in kept key ≡ first_text noted key
