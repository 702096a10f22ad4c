-- The rows of a usage table: lines in their limits, and how those of two parts go together.
use Rattle.std.proofs.Common.{pos, neg_ℤ, unsigned_abs, Bool, true, false, ◌≡◌, ◌≤◌, ◌<◌, ◌+◌, ◌⊎◌, ℕ, zero, suc}
use Rattle.std.proofs.Common.{List, [], ◌∷◌, ◌++◌, length, All, ap, sym, refl, ◌∙◌, append_assoc, inl, inr, subst, arith}
use Rattle.std.proofs.lemmas.Bool.{cases_lt}
use Rattle.std.proofs.lemmas.List.{length-append, length-map, length-take-le, map-append}
use Rattle.std.proofs.lemmas.List.Elements.{All-append, All-take}
use Rattle.std.specs.Prelude.{Err, IfErr, IfOk, Ok, Result, if◌then◌else◌, take}
use Rattle.std.proofs.lemmas.Int.{ints}
use Rattle.csv_table.specs.FirstFault.{IsFirstFault}
use Rattle.csv_table.specs.Forms.{IsSignedNumber, has_minus, number_of, signed_number_of, without_minus}
use Rattle.csv_table.specs.RowTable as tables
use Rattle.csv_table.specs.Table.{HaveNoLineFeed}
use Rattle.csv_table.proofs.Codes.{code_small}
use Rattle.csv_table.proofs.InTurn.{all_sound, each_sound}
use Rattle.csv_table.proofs.ItemWalks.{headed_fault}
use Rattle.line_split.specs.declared.TheConstants.{MOST_AMOUNT}
use Rattle.line_split.specs.UsageLine.{UsageLine, amount_of, line_of}
use Rattle.line_split.specs.UsageLines.{IsUsageLine}
use Rattle.line_split.specs.UsageParts.{AreLinesOf, IsBehind, IsFaultIn, IsMoved}
use Rattle.line_split.specs.UsageTable.{IsFaultOf, IsFaultOfRow, IsLine, IsTableOf, header, usage_rules}
use Rattle.line_split.specs.declared.line_fault.LineFault.{LineFault}
use Rattle.line_split.specs.declared.line_fault.LineFault.TheVariants.{Csv, Fields, Territory, Right, Amount, Lines, Memory}
use Rattle.line_split.specs.declared.TheConstants.{MOST_LINES}
use Rattle.line_split.proofs.WithoutFeeds.{in_lines, in_table}

-- a signed number is no larger than its digits are
pub signed_small : (most : ℕ) (field : List ℕ) → IsSignedNumber most field → unsigned_abs (signed_number_of field) ≤ most
signed_small most field is = by_minus (has_minus field) (number_of (without_minus field)) is.small
  where
    by_minus : (minus : Bool) (size : ℕ) → size ≤ most → unsigned_abs (if minus then neg_ℤ (pos size) else pos size) ≤ most
    by_minus true size small = omega (arith, ints)
    by_minus false size small = small

pub line_in_limits : (row : List (List ℕ)) → IsLine row → IsUsageLine (line_of row)
line_in_limits row line = record {
  usage = line.texts.0;
  work = line.texts.1;
  land = (line.territory.some, (code_small _ line.territory).small);
  amount = signed_small MOST_AMOUNT (amount_of row) line.amount;
}

-- ---- below a header

pub headed_faults : {T : Type 0} (rows below : List (List (List ℕ))) (result : Result T LineFault) → rows ≡ header ∷ below → IfErr result (IsFaultIn below) → IfErr result (IsFaultOf rows)
headed_faults rows below (Ok lines) headed is = tt
headed_faults rows below (Err fault) headed is = headed_fault usage_rules rows below fault headed is

pub headed_tables : {E : Type 0} (rows below : List (List (List ℕ))) (result : Result (List UsageLine) E) → rows ≡ header ∷ below → IfOk result (AreLinesOf below) → IfOk result (IsTableOf rows)
headed_tables rows below (Ok lines) headed are = record { below = below; headed = headed; are = are }
headed_tables rows below (Err fault) headed are = tt

-- ---- two parts

-- where the rows of the first part are lines, the text was cut between rows
pub lines_of_parts : (all rows more : List (List (List ℕ))) (lines : List UsageLine) → (HaveNoLineFeed rows → all ≡ rows ++ more) → AreLinesOf rows lines → all ≡ rows ++ more
lines_of_parts all rows more lines cut are = cut (in_lines rows lines are)

-- also where they are a header and lines
pub table_of_parts : (all rows more : List (List (List ℕ))) (lines : List UsageLine) → (HaveNoLineFeed rows → all ≡ rows ++ more) → IsTableOf rows lines → (below : List (List (List ℕ))) × (all ≡ header ∷ (below ++ more)) × AreLinesOf below lines
table_of_parts all rows more lines cut table = (
  table.below,
  cut (in_table rows lines table) ∙ ap (λ (l : List (List (List ℕ))). l ++ more) table.headed,
  table.are,
)

-- as many lines as rows
lines_count : (rows : List (List (List ℕ))) (lines : List UsageLine) → AreLinesOf rows lines → length lines ≡ length rows
lines_count rows lines are = ap (λ (l : List UsageLine). length l) are.same ∙ length-map rows line_of

-- the row behind so many
row_at : (n : ℕ) (rows : List (List (List ℕ))) → n < length rows → (row : List (List ℕ)) × (after : List (List (List ℕ))) × (rows ≡ take n rows ++ row ∷ after)
row_at n [] some = absurd (omega (arith, some))
row_at zero (row ∷ after) some = (row, after, refl)
row_at (suc n) (first ∷ rows) some =
    let rest = row_at n rows (omega (arith, some)) in
    (rest.0, rest.1, ap (λ (l : List (List (List ℕ))). first ∷ l) rest.2)

-- the fault of a row, where so many more stand before it
module _ (row : List (List ℕ)) (more number : ℕ) (moved : LineFault) where
  -- it is one of the row yet, or there are too many rows
  abbrev Moves : Type 0
  Moves = ((more + number ≤ MOST_LINES) × IsFaultOfRow (more + number) row moved) ⊎ ((MOST_LINES < more + number) × (moved ≡ Lines))

  moves : (make : ℕ → LineFault) → IsFaultOfRow (more + number) row (make (more + number)) → IsMoved more number make moved → Moves
  moves make refused goes = elim (cases_lt MOST_LINES (more + number)) [
    | inl many ↦ inr (many, goes.1 many)
    | inr few ↦ inl (omega (arith, few), subst (λ (fault : LineFault). IsFaultOfRow (more + number) row fault) (sym (goes.0 (omega (arith, few)))) refused)
  ]

  fault_moves : (fault : LineFault) → IsBehind more fault moved → IsFaultOfRow number row fault → Moves
  fault_moves (Csv n) goes (same, q) = moves Csv (refl, q) (rw same at goes)
  fault_moves (Fields n) goes (same, q0, q1) = moves Fields (refl, q0, q1) (rw same at goes)
  fault_moves (Territory n) goes (same, q0, q1, q2) = moves Territory (refl, q0, q1, q2) (rw same at goes)
  fault_moves (Right n) goes (same, q0, q1, q2, q3) = moves Right (refl, q0, q1, q2, q3) (rw same at goes)
  fault_moves (Amount n) goes (same, q0, q1, q2, q3, q4) = moves Amount (refl, q0, q1, q2, q3, q4) (rw same at goes)
  fault_moves Lines goes refused = absurd refused
  fault_moves Memory goes refused = absurd refused

module _ (rows : List (List (List ℕ))) (lines : List UsageLine) (are : AreLinesOf rows lines) (more : List (List (List ℕ))) where
  as_many : length lines ≡ length rows
  as_many = lines_count rows lines are

  -- rows of both that are lines
  sound_in_both : (others : List (List (List ℕ))) → tables.AreSound usage_rules others → tables.AreSound usage_rules (rows ++ others)
  sound_in_both others sound = all_sound IsLine (rows ++ others) (All-append IsLine rows others (each_sound IsLine rows are.sound) (each_sound IsLine others sound))

  -- all lines of both
  pub both : (others : List UsageLine) → AreLinesOf more others → length lines + length others ≤ MOST_LINES → AreLinesOf (rows ++ more) (lines ++ others)
  both others these few = record {
    few = omega (arith, few, length-append rows more, as_many, lines_count more others these);
    sound = sound_in_both more these.sound;
    same = (λ i. are.same i ++ these.same i) ∙ sym (map-append line_of rows more);
  }

  -- too many of them
  pub too_many : (others : List UsageLine) → AreLinesOf more others → MOST_LINES < length lines + length others → IsFaultIn (rows ++ more) Lines
  too_many others these many =
      let all = rows ++ more in
      let sound : All IsLine all = each_sound IsLine all (sound_in_both more these.sound) in
      let long : length all ≡ length lines + length others = omega (arith, length-append rows more, as_many, lines_count more others these) in
      let rest = row_at MOST_LINES all (omega (arith, many, long)) in
      let before : length (take MOST_LINES all) ≡ MOST_LINES = length-take-le MOST_LINES all (omega (arith, many, long)) in
      inr record {
        before = take MOST_LINES all;
        row = rest.0;
        after = rest.1;
        split = rest.2;
        sound = all_sound IsLine (take MOST_LINES all) (All-take IsLine MOST_LINES all sound);
        refused = inl (omega (arith, before), refl);
      }

  -- a fault of the rows behind
  module _ (fault moved : LineFault) (goes : IsBehind (length lines) fault moved) where
    -- its row, among all
    among : (is : IsFirstFault (tables.AreSound usage_rules) (tables.IsRefused usage_rules) more fault)
        → tables.IsRefused usage_rules (rows ++ is.before) (length (rows ++ is.before) + 1) is.row moved → IsFaultIn (rows ++ more) moved
    among is refused = inr record {
      before = rows ++ is.before;
      row = is.row;
      after = is.after;
      split = ap (λ (l : List (List (List ℕ))). rows ++ l) is.split ∙ sym (append_assoc rows is.before (is.row ∷ is.after));
      sound = sound_in_both is.before is.sound;
      refused = refused;
    }

    pub fault_behind : IsFaultIn more fault → IsFaultIn (rows ++ more) moved
    fault_behind (inl memory) = inl (rw memory at goes)
    fault_behind (inr is) =
        let long : length (rows ++ is.before) ≡ length lines + length is.before = omega (arith, length-append rows is.before, as_many) in
        elim is.refused [
          | inl (many, same) ↦ among is (inl (omega (arith, many, long), rw same at goes))
          | inr (few, refused) ↦ elim (fault_moves is.row (length lines) (length is.before + 1) moved fault goes refused) [
            | inl (low, of_row) ↦
                among is (inr (omega (arith, low, long), subst (λ (k : ℕ). IsFaultOfRow k is.row moved) (omega (arith, long)) of_row))
            | inr (high, same) ↦ among is (inl (omega (arith, high, long), same))
          ]
        ]
