-- What is kept while two texts are read and their differences written. Contracts of private functions alone cite it,
-- and no promise rests on it.
use Rattle.std.specs.Prelude.{ℕ, ℤ, ◌⊎◌, ◌≡◌, ◌≤◌, ◌*◌, ◌+◌, ◌+ℤ◌, ◌∷◌, [], List, All, Bool, true, false, Option}
use Rattle.std.specs.Prelude.{codes, flat_map, if◌then◌else◌, length, map, neg_ℤ, pos, sum_by, unsigned_abs}
use Rattle.std.specs.Fmt.{signed_decimal}
use Rattle.std.specs.Io.KnownBytes.{Appends, Keeps}
use Rattle.std.specs.List.Sorted.{IsStrictlySortedBy}
use Rattle.std.specs.Ordering.{is_eq, match_ordering}
use Rattle.std.specs.Str.{bytes_eq}
use Rattle.std.specs.declared.cmp.Ordering.TheVariants.{Less}
use Rattle.csv_table.specs.Written.{text_of}
use Rattle.line_split.specs.ReasonTexts.{reason_text}
use Rattle.line_split.specs.Signs.{int_sum_by}
use Rattle.line_split.specs.declared.reason.Reason.{Reason}
use Rattle.merge_statements.specs.Places.{at_first}
use Rattle.merge_statements.specs.Refused.{IsOfSystem}
use Rattle.merge_statements.specs.SoFar.{EndsAs, Ending, HasPassed, IsBehind, IsLooked, IsRead, TakesOne, Unread}
use Rattle.merge_statements.specs.SoFar.{order, payees_of, portions_in, total_of_portions}
use Rattle.merge_statements.specs.Statements.{IsAmount, IsCount, IsName, IsPortion, IsRest, IsStatement, Portion, Rest}
use Rattle.merge_statements.specs.Statements.{Statement}
use Rattle.merge_statements.specs.Statements.{portion_row, rest_row, statement_rows, total_of, total_of_rests}
use Rattle.adjust_statements.specs.Adjusted.{WritesAdjustment, as_rests, reasons, rests_for}
use Rattle.adjust_statements.specs.Differences.{AreRowsOfDifferences, rows_of, sum_of}
use Rattle.adjust_statements.specs.Refused.{IsRefusalFor}
use Rattle.adjust_statements.specs.declared.refusal.AdjustRefusal.{AdjustRefusal}
use Rattle.adjust_statements.specs.declared.refusal.AdjustRefusal.TheVariants.{Lines, Text}

-- ---- rows in memory

-- A row of a portion, which stands under a name: that of its payee, or the reason why nobody gets it.
abbrev pub named_row : List ℕ → Rest → List (List ℕ)
named_row kind row = kind ∷ row.reason ∷ row.usage ∷ signed_decimal row.amount ∷ []

abbrev pub IsNamed : Rest → Type 0
IsNamed row = IsName row.reason × IsName row.usage × IsAmount row.amount

-- the kinds of such rows
abbrev pub IsKindOfPortion : List ℕ → Type 0
IsKindOfPortion kind = (kind ≡ codes "L") ⊎ (kind ≡ codes "M")

-- a text is that of such rows
pub record IsTextOf (kind : List ℕ) (rows : List Rest) (text : List ℕ) : Type 0 where
  pub of_portions : IsKindOfPortion kind
  pub sound : All IsNamed rows
  pub is : text ≡ text_of (map (named_row kind) rows)

-- ---- what uses come to

-- an amount more for a use, in byte order
abbrev pub with_sum : List ℕ → ℤ → List Portion → List Portion
with_sum usage amount [] = record { usage = usage; amount = amount } ∷ []
with_sum usage amount (sum ∷ sums) = match_ordering (order usage sum.usage)
    (record { usage = usage; amount = amount } ∷ sum ∷ sums)
    (record { usage = sum.usage; amount = sum.amount +ℤ amount } ∷ sums)
    (sum ∷ with_sum usage amount sums)

-- what a use comes to, where it is among them
abbrev pub value_at : List ℕ → List Portion → ℤ
value_at usage [] = pos 0
value_at usage (sum ∷ sums) = if is_eq (order usage sum.usage) then sum.amount else value_at usage sums

-- what was paid is taken off
abbrev pub signed_by : (is_paid : Bool) → ℤ → ℤ
signed_by true amount = neg_ℤ amount
signed_by false amount = amount

-- the amounts of the rows under a name
abbrev pub with_row : (is_paid : Bool) → List ℕ → Rest → List Portion → List Portion
with_row is_paid name row sums =
    if bytes_eq row.reason name then with_sum row.usage (signed_by is_paid row.amount) sums else sums

abbrev pub with_rows : (is_paid : Bool) → List ℕ → List Rest → List Portion → List Portion
with_rows is_paid name [] sums = sums
with_rows is_paid name (row ∷ rows) sums = with_rows is_paid name rows (with_row is_paid name row sums)

-- no sum is larger than so many amounts can be
abbrev pub AreSmall : ℕ → List Portion → Type 0
AreSmall count sums = All (λ sum. unsigned_abs sum.amount ≤ 1000000000000 * count) sums

-- a row is counted, where it stands under the name
pub record CountsRow (is_paid : Bool) (name : List ℕ) (old new : List Portion) (row : Rest) : Type 0 where
  pub sums : new ≡ with_row is_paid name row old

-- What uses come to in the second list more than in the first, those with no difference too.
pub record AreSums (paid right sums : List Portion) : Type 0 where
  pub rising : IsStrictlySortedBy order (map (λ sum. sum.usage) sums)
  pub each : (usage : List ℕ) → sum_of usage paid +ℤ sum_of usage sums ≡ sum_of usage right
  pub named : All (λ sum. IsName sum.usage) sums
  pub total : total_of_portions paid +ℤ total_of_portions sums ≡ total_of_portions right
  pub few : length (flat_map rows_of sums) ≤ length paid + length right

-- ---- what was passed over

-- the portions of a payee were passed over where it came next, and their rows are in memory
pub record TakesText (payee : List ℕ) (old new : Unread) (text : List ℕ) : Type 0 where
  pub portions : List Portion
  pub taken : TakesOne payee old new portions
  pub sound : All IsPortion portions
  pub is : text ≡ text_of (map (portion_row payee) portions)

-- a text was passed over to its end, and the rows of what nobody gets are in memory
pub record TakesEnding (old new : Unread) (text : List ℕ) (lines : ℕ) : Type 0 where
  pub ending : Ending
  pub ends : EndsAs old new ending
  pub is : text ≡ text_of (map rest_row ending.rests)
  pub all_lines : lines ≡ ending.lines

-- ---- a payee

-- a statement of these portions, if there are any
abbrev pub statement_of : List ℕ → List Portion → List Statement
statement_of payee [] = []
statement_of payee (portion ∷ portions) = record { payee = payee; portions = portion ∷ portions } ∷ []

-- the differences between portions of a payee were written as its statement
pub record WritesDifferences (payee : List ℕ) (paid right : List Portion) (before after : Option (List ℕ))
    (count : ℕ) (total : ℤ) : Type 0 where
  pub rows : List Portion
  pub are : AreRowsOfDifferences paid right rows
  pub sound : All IsPortion rows
  pub few : length rows ≤ length paid + length right
  pub adds : total_of_portions paid +ℤ total_of_portions rows ≡ total_of_portions right
  pub counted : count ≡ length rows
  pub sum : total ≡ total_of_portions rows
  pub written : Appends before after (text_of (flat_map statement_rows (statement_of payee rows)))

-- the rows of a payee in both texts
pub record ArePayeesRows (payee : List ℕ) (paid right : List Portion) (paid_text right_text : List ℕ) : Type 0 where
  pub name : IsName payee
  pub paid_sound : All IsPortion paid
  pub right_sound : All IsPortion right
  pub paid_is : paid_text ≡ text_of (map (portion_row payee) paid)
  pub right_is : right_text ≡ text_of (map (portion_row payee) right)
  pub few : IsCount (length paid + length right)

-- the portions of a payee were passed over in both texts, and their differences written as its statement
pub record AdjustsPayee (payee : List ℕ) (paid_old right_old paid_new right_new : Unread)
    (before after : Option (List ℕ))
    (count : ℕ) (total : ℤ) : Type 0 where
  pub paid : List Portion
  pub right : List Portion
  pub paid_taken : TakesOne payee paid_old paid_new paid
  pub right_taken : TakesOne payee right_old right_new right
  pub read : IsCount (paid_new.at.portions + right_new.at.portions)
  pub wrote : WritesDifferences payee paid right before after count total

-- ---- payee by payee

-- a text before its first row
pub record IsOpen (start : Option (List ℕ)) (part : Unread) : Type 0 where
  pub at : part.at ≡ at_first
  pub left : Keeps start part.left
  pub read : IsRead start part
  pub looked : IsLooked part

-- payees up to the last that was passed over
abbrev pub AreUpTo : List ℕ → List Statement → Type 0
AreUpTo last statements = All (λ statement. ¬ (order last statement.payee ≡ Less)) statements

-- The statements of all payees up to one were passed over in both texts, and the differences written.
pub record AreAdjustedSoFar (paid_start right_start : Option (List ℕ)) (paid right : Unread)
    (before after : Option (List ℕ))
    (count : ℕ) (total : ℤ) : Type 0 where
  pub last : List ℕ
  pub paid_done : List Statement
  pub right_done : List Statement
  pub answer : List Statement
  pub paid_passed : HasPassed paid_start paid paid_done
  pub right_passed : HasPassed right_start right right_done
  pub paid_behind : IsBehind last paid
  pub right_behind : IsBehind last right
  pub paid_up_to : AreUpTo last paid_done
  pub right_up_to : AreUpTo last right_done
  pub up_to : AreUpTo last answer
  pub sound : All IsStatement answer
  pub rising : IsStrictlySortedBy order (payees_of answer)
  pub each : (payee : List ℕ) → AreRowsOfDifferences (portions_in payee paid_done) (portions_in payee right_done)
      (portions_in payee answer)
  pub adds : int_sum_by total_of paid_done +ℤ int_sum_by total_of answer ≡ int_sum_by total_of right_done
  pub counted : count ≡ sum_by (λ statement. length statement.portions) answer
  pub few : count ≤ paid.at.portions + right.at.portions
  pub read : IsCount (paid.at.portions + right.at.portions)
  pub sum : total ≡ int_sum_by total_of answer
  pub written : Appends before after (text_of (flat_map statement_rows answer))

-- the same of texts that stood before their first rows
abbrev pub AdjustsPayees : (paid_old right_old paid_new right_new : Unread) → (before after : Option (List ℕ))
    → (count : ℕ) → (total : ℤ) → Type 0
AdjustsPayees paid_old right_old paid_new right_new before after count total =
    (paid_start right_start : Option (List ℕ)) → IsOpen paid_start paid_old → IsOpen right_start right_old
    → AreAdjustedSoFar paid_start right_start paid_new right_new before after count total

-- ---- what nobody gets

-- the differences between what nobody gets for a reason were written
pub record AdjustsReason (reason : List ℕ) (paid right : List Rest) (before after : Option (List ℕ)) (count : ℕ)
    (total : ℤ) : Type 0 where
  pub rows : List Portion
  pub are : AreRowsOfDifferences (rests_for reason paid) (rests_for reason right) rows
  pub sound : All IsPortion rows
  pub few : length rows ≤ length (rests_for reason paid) + length (rests_for reason right)
  pub adds : total_of_portions (rests_for reason paid) +ℤ total_of_portions rows
      ≡ total_of_portions (rests_for reason right)
  pub counted : count ≡ length rows
  pub sum : total ≡ total_of_portions rows
  pub written : Appends before after (text_of (map rest_row (as_rests reason rows)))

-- the rows of what nobody gets in both texts
pub record AreRestsRows (paid right : List Rest) (paid_text right_text : List ℕ) : Type 0 where
  pub paid_sound : All IsRest paid
  pub right_sound : All IsRest right
  pub paid_is : paid_text ≡ text_of (map rest_row paid)
  pub right_is : right_text ≡ text_of (map rest_row right)
  pub few : IsCount (length paid + length right)

-- the same for all reasons
pub record AdjustsRests (paid right : List Rest) (before after : Option (List ℕ)) (count : ℕ) (total : ℤ) : Type 0 where
  pub rests : List Rest
  pub sound : All IsRest rests
  pub each : (reason : Reason) → AreRowsOfDifferences (rests_for (reason_text reason) paid)
      (rests_for (reason_text reason) right) (rests_for (reason_text reason) rests)
  pub by_reason : rests
      ≡ flat_map (λ reason. as_rests (reason_text reason) (rests_for (reason_text reason) rests)) reasons
  pub few : length rests ≤ length paid + length right
  pub adds : total_of_rests paid +ℤ total_of_rests rests ≡ total_of_rests right
  pub counted : count ≡ length rests
  pub sum : total ≡ total_of_rests rests
  pub written : Appends before after (text_of (map rest_row rests))

-- both texts were passed over to their ends, and are of as many usage lines
pub record EndBoth (paid_old right_old paid_new right_new : Unread) (paid_text right_text : List ℕ) : Type 0 where
  pub paid : Ending
  pub right : Ending
  pub paid_ends : EndsAs paid_old paid_new paid
  pub right_ends : EndsAs right_old right_new right
  pub paid_is : paid_text ≡ text_of (map rest_row paid.rests)
  pub right_is : right_text ≡ text_of (map rest_row right.rests)
  pub read : IsCount (paid_new.at.portions + right_new.at.portions)
  pub same : paid.lines ≡ right.lines

-- ---- both texts

-- memory, a read or a write was refused
abbrev pub IsSystemRefusal : AdjustRefusal → Type 0
IsSystemRefusal (Text refused) = IsOfSystem refused.refusal
IsSystemRefusal (Lines row) = ⊥

-- so much was read of both texts, and they have no differences
abbrev pub RefusesRead : (paid right : Unread) → AdjustRefusal → Type 0
RefusesRead paid right why = (paid_start right_start : Option (List ℕ)) → IsRead paid_start paid
    → IsRead right_start right → IsRefusalFor paid_start right_start why

-- the same of texts that stood before their first rows
abbrev pub RefusesOpen : (paid right : Unread) → AdjustRefusal → Type 0
RefusesOpen paid right why = (paid_start right_start : Option (List ℕ)) → IsOpen paid_start paid
    → IsOpen right_start right → IsRefusalFor paid_start right_start why

-- and their differences were written
abbrev pub AdjustsOpen : (paid right : Unread) → (before after : Option (List ℕ)) → Type 0
AdjustsOpen paid right before after =
    (paid_start right_start : Option (List ℕ)) → IsOpen paid_start paid → IsOpen right_start right
    → WritesAdjustment paid_start right_start before after
