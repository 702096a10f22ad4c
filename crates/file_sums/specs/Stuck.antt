-- How reading goes on by a line, and where it stops.
use Rattle.std.specs.Prelude.{ℕ, ◌≡◌, ◌++◌, ◌∷◌, [], List}
use Rattle.file_sums.specs.Sums.{FitsInComment, IsSum, Seal, Sum, comment_line, line_of}

-- a line is a comment more, before the first sum
pub record TakesComment (before after : Seal) (line : List ℕ) : Type 0 where
  pub comment : List ℕ
  pub fits : FitsInComment comment
  pub is : comment_line comment ≡ line ++ 10 ∷ []
  pub first : before.sums ≡ []
  pub comments : after.comments ≡ before.comments ++ comment ∷ []
  pub sums : after.sums ≡ []

-- a line is of a sum more
pub record TakesSum (before after : Seal) (line : List ℕ) : Type 0 where
  pub sum : Sum
  pub fits : IsSum sum
  pub is : line_of sum ≡ line ++ 10 ∷ []
  pub comments : after.comments ≡ before.comments
  pub sums : after.sums ≡ before.sums ++ sum ∷ []

-- behind these sums, no line of a text goes on: neither one of a sum, nor a comment before the first sum
pub record IsStuck (sums : List Sum) (text : List ℕ) : Type 0 where
  pub no_sum : (sum : Sum) (behind : List ℕ) → IsSum sum → ¬ (text ≡ line_of sum ++ behind)
  pub no_comment : (comment behind : List ℕ) → FitsInComment comment → sums ≡ []
      → ¬ (text ≡ comment_line comment ++ behind)
