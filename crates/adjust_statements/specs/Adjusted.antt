-- What has to be added to statements that were paid, so that they come to those that are right.
use Rattle.std.specs.Prelude.{ℕ, ◌≡◌, ◌+ℤ◌, ◌∷◌, [], List, Option, IfSome, filter, flat_map, map}
use Rattle.std.specs.Io.KnownBytes.{Appends}
use Rattle.std.specs.Str.{bytes_eq}
use Rattle.line_split.specs.ReasonTexts.{reason_text}
use Rattle.line_split.specs.declared.reason.Reason.{Reason}
use Rattle.line_split.specs.declared.reason.Reason.TheVariants.{Land, Open, Over, Work}
use Rattle.merge_statements.specs.Merged.{portions_of}
use Rattle.merge_statements.specs.Statements.{AreStatements, IsCount, Portion, Rest, Statements, count_of_portions}
use Rattle.merge_statements.specs.Statements.{text_of_statements}
use Rattle.adjust_statements.specs.Differences.{AreRowsOfDifferences}

-- what nobody gets for a reason, as portions
abbrev pub rests_for : List ℕ → List Rest → List Portion
rests_for reason rests =
    map (λ rest. record { usage = rest.usage; amount = rest.amount })
    (filter (λ rest. bytes_eq rest.reason reason) rests)

-- portions that nobody gets for this reason
abbrev pub as_rests : List ℕ → List Portion → List Rest
as_rests reason portions =
    map (λ portion. record { reason = reason; usage = portion.usage; amount = portion.amount }) portions

-- the reasons, in the order in which they are listed
abbrev pub reasons : List Reason
reasons = Work ∷ Land ∷ Over ∷ Open ∷ []

-- Statements of the same usage lines, and the differences between them: each payee has one row for each use of which it
-- was paid something else than is right, and so has nobody, reason by reason. No usage line is counted again.
pub record AreAdjusted (paid right answer : Statements) : Type 0 where
  pub sound : AreStatements answer
  pub payees : (payee : List ℕ) → AreRowsOfDifferences (portions_of payee paid) (portions_of payee right)
      (portions_of payee answer)
  pub rests : (reason : Reason) → AreRowsOfDifferences (rests_for (reason_text reason) paid.rests)
      (rests_for (reason_text reason) right.rests) (rests_for (reason_text reason) answer.rests)
  pub by_reason : answer.rests
      ≡ flat_map (λ reason. as_rests (reason_text reason) (rests_for (reason_text reason) answer.rests)) reasons
  pub amount : paid.amount +ℤ answer.amount ≡ right.amount
  pub same_lines : paid.lines ≡ right.lines
  pub lines : answer.lines ≡ 0

-- the same of texts
pub record IsAdjustmentOf (paid_text right_text text : List ℕ) : Type 0 where
  pub paid : Statements
  pub right : Statements
  pub answer : Statements
  pub paid_sound : AreStatements paid
  pub right_sound : AreStatements right
  pub paid_says : paid_text ≡ text_of_statements paid
  pub right_says : right_text ≡ text_of_statements right
  pub adjusted : AreAdjusted paid right answer
  pub few : IsCount (count_of_portions answer)
  pub says : text ≡ text_of_statements answer

-- What two texts differ by was written. Where bytes are not known, it is what some texts differ by.
pub record WritesAdjustment (paid right : Option (List ℕ)) (before after : Option (List ℕ)) : Type 0 where
  pub paid_text : List ℕ
  pub right_text : List ℕ
  pub text : List ℕ
  pub paid_is : IfSome paid (λ bytes. bytes ≡ paid_text)
  pub right_is : IfSome right (λ bytes. bytes ≡ right_text)
  pub adjustment : IsAdjustmentOf paid_text right_text text
  pub written : Appends before after text
