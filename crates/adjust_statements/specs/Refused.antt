-- Why two texts have no differences: one is no text of statements, or they are of other numbers of usage lines.
use Rattle.std.specs.Prelude.{ℕ, ◌≡◌, ◌∷◌, [], List, Option, IfSome, length}
use Rattle.merge_statements.specs.Refused.{HaveTooManyPortions, IsRefusalOf, IsStatementText}
use Rattle.merge_statements.specs.declared.refusal.Refusal.{Refusal}
use Rattle.merge_statements.specs.declared.refusal.Refusal.TheVariants as refusal
use Rattle.adjust_statements.specs.declared.refusal.AdjustRefusal.{AdjustRefusal}
use Rattle.adjust_statements.specs.declared.refusal.AdjustRefusal.TheVariants.{Lines, Text}

-- both are texts of statements, the second with so many rows, and they are not of as many usage lines
pub record HaveOtherLines (paid right : List ℕ) (row : ℕ) : Type 0 where
  pub paid_lines : ℕ
  pub right_lines : ℕ
  pub of_paid : IsStatementText paid paid_lines
  pub of_right : IsStatementText right right_lines
  pub last : row ≡ length of_right.rows
  pub apart : ¬ (paid_lines ≡ right_lines)

-- The one in a place is refused as where texts are merged; or both are, since together they have too many portions.
-- Their usage lines are not added.
abbrev pub IsRefusalOfBoth : List (Option (List ℕ)) → ℕ → Refusal → Type 0
IsRefusalOfBoth both place refusal.Many = HaveTooManyPortions both
IsRefusalOfBoth both place why = IsRefusalOf both place why

-- what was paid counts as the first text and what is right as the second, from 0
abbrev pub IsRefusalFor : (paid right : Option (List ℕ)) → AdjustRefusal → Type 0
IsRefusalFor paid right (Text refused) = IsRefusalOfBoth (paid ∷ right ∷ []) refused.place refused.refusal
IsRefusalFor paid right (Lines row) = IfSome paid (λ before. IfSome right (λ after. HaveOtherLines before after row))
