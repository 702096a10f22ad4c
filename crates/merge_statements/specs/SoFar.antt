-- What is kept while texts are read and merged: where each stands, what was passed over of it, and
-- what was written. Contracts of private functions alone cite it, and no promise rests on it; it
-- stands here since a contract may cite nothing of proofs/.
use Rattle.std.specs.Prelude.{ℕ, ℤ, ◌≡◌, ◌≤◌, ◌<◌, ◌+◌, ◌+ℤ◌, ◌++◌, ◌∷◌, ◌⊎◌, [], List, All, Contains}
use Rattle.std.specs.Prelude.{Bool, true, false, None, Some, Option, IfSome, codes, filter, flat_map, length, map}
use Rattle.std.specs.Prelude.{slice_index_or, sum_by, take}
use Rattle.std.specs.Io.KnownBytes.{Appends, Consumes, IsAtEnd, Keeps, append_known}
use Rattle.csv_table.specs.Written.{text_of, text_of_row}
use Rattle.merge_statements.specs.Places.{At, Follows, IsPayeeAt, at_first, count_at, row_of, sum_at}
use Rattle.merge_statements.specs.Statements.{IsCount, IsName, IsPortion, IsRest, IsStatement, Portion, Rest, Statement}
use Rattle.merge_statements.specs.Statements.{portion_row, rest_row, rests_rows, statement_rows, total_of}
use Rattle.merge_statements.specs.Statements.{total_of_rests, total_row}
use Rattle.merge_statements.specs.Merged.{WritesMerge}
use Rattle.merge_statements.specs.Refused.{AreRows, IsRefusalOf, IsRefusedFor}
use Rattle.merge_statements.specs.declared.refusal.Refusal.{Refusal}
use Rattle.merge_statements.specs.declared.walk.Place.TheVariants.{Between, Ended, Resting, Summed, Within}
use Rattle.std.specs.Cmp.Lexicographic.{slice_cmp}
use Rattle.std.specs.Ordering.{nat_cmp}
use Rattle.std.specs.declared.cmp.Ordering.TheVariants.{Less}
use Rattle.line_split.specs.Signs.{int_sum_by}
use Rattle.std.specs.List.Sorted.{IsStrictlySortedBy}
use Rattle.std.specs.Str.{bytes_eq}
use Rattle.std.specs.declared.cmp.Ordering.{Ordering}

-- ---- what was written

-- what an output has, and behind it the page that has not gone on to it yet
abbrev pub output : {O : Type 0} → (contents : O → Option (List ℕ)) → O → (page : List ℕ) → Option (List ℕ)
output contents out page = append_known (contents out) page

-- ---- a text that is read row by row

-- How far it was read; the row at hand as it stands in the text, with its line feed, which is empty at the end; its
-- number, from 1; the bytes from it on, where they are known; and the payee that comes next, where one does.
pub record Unread : Type 0 where
  pub at : At
  pub line : List ℕ
  pub number : ℕ
  pub left : Option (List ℕ)
  pub payee : Option (List ℕ)

-- the row at hand can stand there, and was passed over
pub record Steps (old new : Unread) : Type 0 where
  pub row : List (List ℕ)
  pub follows : Follows old.at row new.at
  pub line : text_of_row row ≡ old.line
  pub consumed : Consumes old.left new.left (text_of_row row)

-- a row follows, and has this text
pub record FollowsAs (old : At) (text : List ℕ) (new : At) : Type 0 where
  pub row : List (List ℕ)
  pub follows : Follows old row new
  pub same : text_of_row row ≡ text

-- rows were read from the start of a text on, and the next has this number
pub record IsReadTo (start : Option (List ℕ)) (at : At) (left : Option (List ℕ)) (number : ℕ) : Type 0 where
  pub rows : List (List (List ℕ))
  pub are : AreRows at_first rows at
  pub consumed : Consumes start left (text_of rows)
  pub counted : number ≡ length rows + 1

abbrev pub IsRead : Option (List ℕ) → Unread → Type 0
IsRead start part = IsReadTo start part.at part.left part.number

-- what was read stays so
abbrev pub ReadsOn : Unread → Unread → Type 0
ReadsOn old new = (start : Option (List ℕ)) → IsRead start old → IsRead start new

-- a text of which so much was read is refused for its first fault
abbrev pub RefusesRest : Unread → Refusal → Type 0
RefusesRest part why = (start : Option (List ℕ)) → IsRead start part → IfSome start (λ text. IsRefusedFor text why)

-- the row at hand is one of this kind
abbrev pub IsOfKind : Unread → List ℕ → Type 0
IsOfKind part kind = (payee_or_reason : List ℕ) × (usage_or_count : List ℕ) × (amount_or_total : List ℕ)
    × (text_of_row (row_of kind payee_or_reason usage_or_count amount_or_total) ≡ part.line)

-- behind a statement, and before the first, the row at hand is no portion unless a payee comes next
abbrev pub IsLooked : Unread → Type 0
IsLooked part = part.payee ≡ None → part.at.place ≡ Between → ¬ IsOfKind part (codes "L")

-- more has to come where there is no row at hand
abbrev pub NeedsRow : Unread → Type 0
NeedsRow part = part.line ≡ [] → (lines : ℕ) → ¬ (part.at.place ≡ Ended lines)

-- ---- what was passed over of it

-- a row is a payee's portion, which can stand there
pub record IsPortionAt (at : At) (row : List (List ℕ)) (next : At) : Type 0 where
  pub payee : List ℕ
  pub portion : Portion
  pub form : row ≡ portion_row payee portion
  pub due : IsPayeeAt at.place at.payee payee
  pub sound : IsPortion portion
  pub count : IsCount (at.portions + 1)
  pub leads : next ≡ record {
    place = Within (count_at at.place + 1)
        (sum_at at.place +ℤ portion.amount);
    payee = payee;
    portions = at.portions + 1;
    total = at.total;
  }

-- a reader stands among a payee's portions
abbrev pub IsWithinOne : At → Type 0
IsWithinOne at = (count : ℕ) × (so_far : ℤ) × (at.place ≡ Within count so_far)

-- or a portion that nobody gets
pub record IsRestAt (at : At) (row : List (List ℕ)) (next : At) : Type 0 where
  pub what : Rest
  pub form : row ≡ rest_row what
  pub sound : IsRest what
  pub count : IsCount (at.portions + 1)
  pub leads : next ≡ record {
    place = Resting (count_at at.place + 1)
        (sum_at at.place +ℤ what.amount);
    payee = at.payee;
    portions = at.portions + 1;
    total = at.total;
  }

-- or what a payee's portions come to
pub record IsSumAt (at : At) (row : List (List ℕ)) (next : At) : Type 0 where
  pub form : row ≡ total_row (codes "S") at.payee (count_at at.place) (sum_at at.place)
  pub leads : next
      ≡ record { place = Between; payee = at.payee; portions = at.portions; total = at.total +ℤ sum_at at.place }

-- or what nobody gets in all
pub record IsRestsSumAt (at : At) (row : List (List ℕ)) (next : At) : Type 0 where
  pub form : row ≡ total_row (codes "T") [] (count_at at.place) (sum_at at.place)
  pub leads : next
      ≡ record { place = Summed; payee = at.payee; portions = at.portions; total = at.total +ℤ sum_at at.place }

-- or the usage lines
pub record IsRunAt (at : At) (row : List (List ℕ)) (next : At) : Type 0 where
  pub lines : ℕ
  pub few : IsCount lines
  pub form : row ≡ total_row (codes "R") [] lines at.total
  pub leads : next ≡ record { place = Ended lines; payee = at.payee; portions = at.portions; total = at.total }

-- The row at hand is a portion of a payee that can come next.
pub record IsNext (at : At) (line payee : List ℕ) : Type 0 where
  pub place : at.place ≡ Between
  pub name : IsName payee
  pub after : slice_cmp nat_cmp at.payee payee ≡ Less
  pub usage : List ℕ
  pub amount : List ℕ
  pub row : text_of_row (row_of (codes "L") payee usage amount) ≡ line

-- a payee comes next
pub record HasNext (part : Unread) : Type 0 where
  pub payee : List ℕ
  pub due : part.payee ≡ Some payee
  pub next : IsNext part.at part.line payee

-- behind the last payee, or before the first, comes no further one
pub record CanEnd (part : Unread) : Type 0 where
  pub between : part.at.place ≡ Between
  pub no_portion : ¬ IsOfKind part (codes "L")

-- what nobody gets is passed over, or comes next
abbrev pub IsAmongRests : Unread → Type 0
IsAmongRests part = CanEnd part ⊎ ((count : ℕ) × (so_far : ℤ) × (part.at.place ≡ Resting count so_far))

-- what portions come to
abbrev pub total_of_portions : List Portion → ℤ
total_of_portions portions = int_sum_by (λ portion. portion.amount) portions

-- So many portions of the payee that came next were passed over and written.
pub record IsWithin (old new : Unread) (before after : Option (List ℕ)) : Type 0 where
  pub payee : List ℕ
  pub portions : List Portion
  pub due : old.payee ≡ Some payee
  pub name : IsName payee
  pub behind : slice_cmp nat_cmp old.at.payee payee ≡ Less
  pub some : 0 < length portions
  pub sound : All IsPortion portions
  pub at : new.at ≡ record {
    place = Within (length portions)
        (total_of_portions portions);
    payee = payee;
    portions = old.at.portions + length portions;
    total = old.at.total;
  }
  pub consumed : Consumes old.left new.left (text_of (map (portion_row payee) portions))
  pub written : Appends before after (text_of (map (portion_row payee) portions))
  pub reads : ReadsOn old new

-- A payee's statement was passed over; the payee is the one that was next, and it comes behind the one before it.
pub record PassesStatement (old new : Unread) (statement : Statement) : Type 0 where
  pub due : old.payee ≡ Some statement.payee
  pub after : slice_cmp nat_cmp old.at.payee statement.payee ≡ Less
  pub sound : IsStatement statement
  pub consumed : Consumes old.left new.left (text_of (statement_rows statement))
  pub at : new.at
      ≡ record {
        place = Between;
        payee = statement.payee;
        portions = old.at.portions + length statement.portions;
        total = old.at.total +ℤ total_of statement;
      }
  pub few : IsCount new.at.portions
  pub reads : ReadsOn old new
  pub looked : IsLooked new

-- and its portions were written; there are so many, and they come to this
pub record WritesStatement (old new : Unread) (before after : Option (List ℕ)) (count : ℕ) (total : ℤ) : Type 0 where
  pub statement : Statement
  pub passed : PassesStatement old new statement
  pub counted : count ≡ length statement.portions
  pub sum : total ≡ total_of statement
  pub written : Appends before after (text_of (map (portion_row statement.payee) statement.portions))

-- The sum of a payee's portions, or of what nobody gets, was passed over: of so many, which come to this.
pub record PassesSum (IsSum : At → List (List ℕ) → At → Type 0) (old new : Unread) (count : ℕ)
    (total : ℤ) : Type 0 where
  pub row : List (List ℕ)
  pub sum : IsSum old.at row new.at
  pub consumed : Consumes old.left new.left (text_of_row row)
  pub counted : count ≡ count_at old.at.place
  pub comes_to : total ≡ sum_at old.at.place
  pub few : IsCount old.at.portions

-- so many of these were passed over and written
pub record HasRests (old new : Unread) (before after : Option (List ℕ)) : Type 0 where
  pub rests : List Rest
  pub sound : All IsRest rests
  pub count : count_at new.at.place ≡ length rests
  pub sum : sum_at new.at.place ≡ total_of_rests rests
  pub payee : new.at.payee ≡ old.at.payee
  pub portions : new.at.portions ≡ old.at.portions + length rests
  pub total : new.at.total ≡ old.at.total
  pub consumed : Consumes old.left new.left (text_of (map rest_row rests))
  pub written : Appends before after (text_of (map rest_row rests))
  pub among : IsAmongRests new
  pub reads : ReadsOn old new

-- All that nobody gets was passed over, and written without its sum; there are so many portions, and they come to this.
pub record WritesRests (old new : Unread) (before after : Option (List ℕ)) (count : ℕ) (total : ℤ) : Type 0 where
  pub rests : List Rest
  pub sound : All IsRest rests
  pub counted : count ≡ length rests
  pub sum : total ≡ total_of_rests rests
  pub consumed : Consumes old.left new.left (text_of (rests_rows rests))
  pub at : new.at
      ≡ record {
        place = Summed;
        payee = old.at.payee;
        portions = old.at.portions + length rests;
        total = old.at.total +ℤ total_of_rests rests;
      }
  pub few : IsCount new.at.portions
  pub written : Appends before after (text_of (map rest_row rests))

-- The usage lines were passed over, of which there are so many, and the text ends behind them.
pub record EndsText (old new : Unread) (lines : ℕ) : Type 0 where
  pub few : IsCount lines
  pub consumed : Consumes old.left new.left (text_of_row (total_row (codes "R") [] lines old.at.total))
  pub place : new.at.place ≡ Ended lines
  pub portions : new.at.portions ≡ old.at.portions
  pub ended : IsAtEnd new.left

-- ---- texts that are passed over together

-- byte order
abbrev pub order : List ℕ → List ℕ → Ordering
order = slice_cmp nat_cmp

-- a payee that can come next, where one does
abbrev pub IsNextSound : Unread → Type 0
IsNextSound part = IfSome part.payee (λ payee. IsNext part.at part.line payee)

-- the least of the payees that come next in texts, if one does in any
pub record HasLeast (parts : List Unread) (least : List ℕ) (found : Bool) : Type 0 where
  pub sound : All IsNextSound parts
  pub none : found ≡ false → All (λ part. part.payee ≡ None) parts
  pub least_of : found ≡ true → All (λ part. IfSome part.payee (λ payee. ¬ (order payee least ≡ Less))) parts
  pub some : found ≡ true → Contains (map (λ part. part.payee) parts) (Some least)

-- The statement of a payee was passed over where it came next; these are its portions.
pub data TakesOne (payee : List ℕ) (old new : Unread) : List Portion → Type 0 where
  taken : (statement : Statement) → PassesStatement old new statement → statement.payee ≡ payee
      → TakesOne payee old new statement.portions
  left : ¬ (old.payee ≡ Some payee) → new ≡ old → TakesOne payee old new []

-- the same of each of many texts: what is passed over of the first, and then of the others
pub data TakesEach {X : Type 0} (One : Unread → Unread → List X → Type 0) : List Unread → List Unread → List X
    → Type 0 where
  none : TakesEach One [] [] []
  more : (old new : Unread) (olds news : List Unread) (own others : List X) → One old new own
      → TakesEach One olds news others
      → TakesEach One (old ∷ olds) (new ∷ news) (own ++ others)

-- and they were written; there are so many, and they come to this
pub record WritesOne (payee : List ℕ) (old new : Unread) (before after : Option (List ℕ)) (count : ℕ)
    (total : ℤ) : Type 0 where
  pub portions : List Portion
  pub taken : TakesOne payee old new portions
  pub sound : All IsPortion portions
  pub counted : count ≡ length portions
  pub sum : total ≡ total_of_portions portions
  pub few : IsCount count
  pub written : Appends before after (text_of (map (portion_row payee) portions))

pub record WritesAll (payee : List ℕ) (olds news : List Unread) (before after : Option (List ℕ)) (count : ℕ)
    (total : ℤ) : Type 0 where
  pub portions : List Portion
  pub taken : TakesEach (TakesOne payee) olds news portions
  pub sound : All IsPortion portions
  pub counted : count ≡ length portions
  pub sum : total ≡ total_of_portions portions
  pub few : IsCount count
  pub written : Appends before after (text_of (map (portion_row payee) portions))

-- something holds of the first so many texts, and the others are as they were
pub record HoldsOfFirst (P : List Unread → List Unread → Type 0) (olds news : List Unread) (place : ℕ) : Type 0 where
  pub whole : length news ≡ length olds
  pub others : (k : ℕ) (d : Unread) → place ≤ k → slice_index_or news k d ≡ slice_index_or olds k d
  pub so_far : P (take place olds) (take place news)

-- What nobody gets and how many usage lines there were, which end a text.
pub record Ending : Type 0 where
  pub rests : List Rest
  pub lines : ℕ

-- a text was passed over from behind its last payee to its end
pub record EndsAs (old new : Unread) (ending : Ending) : Type 0 where
  pub sound : All IsRest ending.rests
  pub few : IsCount ending.lines
  pub few_rests : IsCount (old.at.portions + length ending.rests)
  pub consumed : Consumes old.left new.left (text_of (rests_rows ending.rests
      ++ total_row (codes "R") [] ending.lines (old.at.total +ℤ total_of_rests ending.rests) ∷ []))
  pub place : new.at.place ≡ Ended ending.lines
  pub portions : new.at.portions ≡ old.at.portions + length ending.rests
  pub reads : ReadsOn old new
  pub ended : IsAtEnd new.left

abbrev pub EndsOne : Unread → Unread → List Ending → Type 0
EndsOne old new endings = (ending : Ending) × (endings ≡ ending ∷ []) × EndsAs old new ending

-- what nobody gets in all of these texts, and all their usage lines
abbrev pub rests_of : List Ending → List Rest
rests_of endings = flat_map (λ ending. ending.rests) endings

abbrev pub lines_of : List Ending → ℕ
lines_of endings = sum_by (λ ending. ending.lines) endings

pub record EndsEach (olds news : List Unread) (before after : Option (List ℕ)) (count : ℕ) (total : ℤ)
    (lines : ℕ) : Type 0 where
  pub endings : List Ending
  pub taken : TakesEach EndsOne olds news endings
  pub sound : All IsRest (rests_of endings)
  pub counted : count ≡ length (rests_of endings)
  pub sum : total ≡ total_of_rests (rests_of endings)
  pub few : IsCount count
  pub all_lines : lines ≡ lines_of endings
  pub few_lines : IsCount lines
  pub written : Appends before after (text_of (map rest_row (rests_of endings)))

-- ---- payee by payee

-- a text before its first row, whose bytes these are, where they are known
pub data AreOpen : List (Option (List ℕ)) → List Unread → Type 0 where
  none : AreOpen [] []
  more : (start : Option (List ℕ)) (part : Unread) (starts : List (Option (List ℕ))) (parts : List Unread)
      → part.at ≡ at_first → Keeps start part.left → IsRead start part → IsLooked part → AreOpen starts parts
      → AreOpen (start ∷ starts) (part ∷ parts)

-- so much was read of each
pub data AreRead : List (Option (List ℕ)) → List Unread → Type 0 where
  none : AreRead [] []
  more : (start : Option (List ℕ)) (part : Unread) (starts : List (Option (List ℕ))) (parts : List Unread)
      → IsRead start part → AreRead starts parts
      → AreRead (start ∷ starts) (part ∷ parts)

-- so much was read of texts, and one is refused for its first fault
abbrev pub RefusesOne : List Unread → ℕ → Refusal → Type 0
RefusesOne parts place why = (starts : List (Option (List ℕ))) → AreRead starts parts → IsRefusalOf starts place why

-- the same of texts that stood before their first rows
abbrev pub RefusesOpen : List Unread → ℕ → Refusal → Type 0
RefusesOpen parts place why = (starts : List (Option (List ℕ))) → AreOpen starts parts → IsRefusalOf starts place why

-- and what they merge to was written
abbrev pub MergesOpen : List Unread → (before after : Option (List ℕ)) → Type 0
MergesOpen parts before after = (starts : List (Option (List ℕ))) → AreOpen starts parts
    → WritesMerge starts before after

abbrev pub last_payee : List Statement → List ℕ
last_payee [] = []
last_payee (statement ∷ []) = statement.payee
last_payee (statement ∷ next ∷ others) = last_payee (next ∷ others)

abbrev pub payees_of : List Statement → List (List ℕ)
payees_of statements = map (λ statement. statement.payee) statements

-- the statements of these payees were passed over from the start of a text
pub record HasPassed (start : Option (List ℕ)) (part : Unread) (done : List Statement) : Type 0 where
  pub sound : All IsStatement done
  pub rising : IsStrictlySortedBy order (payees_of done)
  pub at : part.at ≡ record {
    place = Between;
    payee = last_payee done;
    portions = sum_by
        (λ statement. length statement.portions) done;
    total = int_sum_by total_of done;
  }
  pub consumed : Consumes start part.left (text_of (flat_map statement_rows done))
  pub read : IsRead start part
  pub looked : IsLooked part

pub data HavePassed : List (Option (List ℕ)) → List Unread → List (List Statement) → Type 0 where
  none : HavePassed [] [] []
  more : (start : Option (List ℕ)) (part : Unread) (done : List Statement) (starts : List (Option (List ℕ)))
      (parts : List Unread) (dones : List (List Statement))
      → HasPassed start part done → HavePassed starts parts dones
      → HavePassed (start ∷ starts) (part ∷ parts) (done ∷ dones)

-- a payee's portions among statements
abbrev pub portions_in : List ℕ → List Statement → List Portion
portions_in payee statements = flat_map (λ statement. statement.portions)
    (filter (λ statement. bytes_eq statement.payee payee) statements)

-- the payee that comes next in a text, if one does, comes behind this one, or will, if it can stand there
abbrev pub IsBehind : List ℕ → Unread → Type 0
IsBehind last part = (part.at.payee ≡ last) ⊎ IfSome part.payee (λ payee. order last payee ≡ Less)

-- how many portions were read of all texts
abbrev pub portions_read : List Unread → ℕ
portions_read parts = sum_by (λ part. part.at.portions) parts

-- The statements up to a payee were passed over in all texts, and written as one; so many portions, which come to this.
pub record AreMergedSoFar (starts : List (Option (List ℕ))) (parts : List Unread) (before after : Option (List ℕ))
    (count : ℕ) (total : ℤ) : Type 0 where
  pub dones : List (List Statement)
  pub whole : List Statement
  pub passed : HavePassed starts parts dones
  pub sound : All IsStatement whole
  pub rising : IsStrictlySortedBy order (payees_of whole)
  pub behind : All (IsBehind (last_payee whole)) parts
  pub portions : (payee : List ℕ) → portions_in payee whole ≡ flat_map (portions_in payee) dones
  pub counted : count ≡ sum_by (λ statement. length statement.portions) whole
  pub sum : total ≡ int_sum_by total_of whole
  pub sums : int_sum_by total_of whole ≡ int_sum_by (λ done. int_sum_by total_of done) dones
  pub few : IsCount count
  pub read : count ≡ portions_read parts
  pub written : Appends before after (text_of (flat_map statement_rows whole))

-- the same of texts that stood before their first rows
abbrev pub MergesPayees : (olds news : List Unread) → (before after : Option (List ℕ)) → (count : ℕ) → (total : ℤ)
    → Type 0
MergesPayees olds news before after count total =
    (starts : List (Option (List ℕ))) → AreOpen starts olds → AreMergedSoFar starts news before after count total

-- ---- the ends of texts

-- a text was passed over to its end, and what nobody gets was written without its sum
pub record WritesEnding (old new : Unread) (before after : Option (List ℕ)) (count : ℕ) (total : ℤ)
    (lines : ℕ) : Type 0 where
  pub ending : Ending
  pub ends : EndsAs old new ending
  pub counted : count ≡ length ending.rests
  pub sum : total ≡ total_of_rests ending.rests
  pub all_lines : lines ≡ ending.lines
  pub written : Appends before after (text_of (map rest_row ending.rests))
