-- The usage lines of an import are a table.
use Rattle.std.proofs.Common.{◌≡◌, ◌∙◌, ◌≤◌, ◌+◌, ◌++◌, ◌∷◌, [], ℕ, ℤ, List, Option, All, ap, arith, drop, length, map, refl, subst, sym}
use Rattle.std.proofs.lemmas.List.{length-map, map-append}
use Rattle.std.proofs.lemmas.List.Elements.{All-append, All-cons, All-nil}
use Rattle.csv.specs.Reading.{default_config, records}
use Rattle.csv.specs.Writing.{read_back}
use Rattle.csv_table.specs.Table.{rows_of}
use Rattle.csv_table.specs.Written.{text_of}
use Rattle.csv_table.proofs.InTurn.{all_sound}
use Rattle.csv_table.proofs.ReadBack.{no_mark, rows_read_back}
use Rattle.line_split.specs.UsageLine.{line_of}
use Rattle.line_split.specs.UsageTable.{IsLine, IsTableOf}
use Rattle.sales_lines.specs.declared.outcome.Outcome.{Outcome}
use Rattle.sales_lines.specs.declared.outcome.Outcome.TheVariants.{Passed, Rejected, Line}
use Rattle.sales_lines.specs.declared.settings.Settings.{Settings}
use Rattle.sales_lines.specs.Sales.{IsOutcomeOf}
use Rattle.sales_import.specs.Imported.{AreMade, Made, Sold, line_header, line_row, made_by, sold_of}
use Rattle.sales_import.proofs.UsageRows.{is_line}

-- no row is empty
rows_stay : (lines : List Sold) → map read_back (map line_row lines) ≡ map line_row lines
rows_stay [] = refl
rows_stay (line ∷ lines) = ap (λ (rows : List (List (List ℕ))). line_row line ∷ rows) (rows_stay lines)

pub reads_back : (lines : List Sold) → rows_of (text_of (line_header ∷ map line_row lines)) ≡ line_header ∷ map line_row lines
reads_back lines =
    ap (records default_config) (no_mark 117 (drop 1 (text_of (line_header ∷ map line_row lines))) refl)
    ∙ (rows_read_back (line_header ∷ map line_row lines) ∙ ap (λ (rows : List (List (List ℕ))). line_header ∷ rows) (rows_stay lines))

-- what is made of a row is usage lines, if any
own_lines : (settings : Settings) (number : ℕ) (row : List (List ℕ)) (outcome : Outcome) (amount : Option ℤ) → IsOutcomeOf settings row outcome
    → All IsLine (map line_row (made_by number row outcome amount).lines)
own_lines settings number row Passed amount is = All-nil IsLine
own_lines settings number row (Rejected reason) amount is = All-nil IsLine
own_lines settings number row (Line line) amount is = All-cons IsLine (line_row (sold_of line)) [] (is_line settings row line is.1) (All-nil IsLine)

all_lines : (settings : Settings) (number : ℕ) (rows : List (List (List ℕ))) (made : Made) → AreMade settings number rows made → All IsLine (map line_row made.lines)
all_lines settings number [] made none = subst (λ (it : Made). All IsLine (map line_row it.lines)) (sym none) (All-nil IsLine)
all_lines settings number (row ∷ rows) made (own, others, (outcome, amount, is, counted, same), are, all) =
    let first : All IsLine (map line_row own.lines) = subst (λ (it : Made). All IsLine (map line_row it.lines)) (sym same) (own_lines settings number row outcome amount is) in
    let both_lines : All IsLine (map line_row (own.lines ++ others.lines)) =
    subst (All IsLine) (sym (map-append line_row own.lines others.lines))
    (All-append IsLine (map line_row own.lines) (map line_row others.lines) first (all_lines settings (number + 1) rows others are)) in
    subst (λ (it : Made). All IsLine (map line_row it.lines)) (sym all) both_lines

pub are_table : (settings : Settings) (number : ℕ) (rows : List (List (List ℕ))) (made : Made) → AreMade settings number rows made → length made.lines ≤ 1000000
    → IsTableOf (rows_of (text_of (line_header ∷ map line_row made.lines))) (map line_of (map line_row made.lines))
are_table settings number rows made are few = record {
  below = map line_row made.lines;
  headed = reads_back made.lines;
  are = record {
    few = omega (arith, few, length-map made.lines line_row);
    sound = all_sound IsLine (map line_row made.lines) (all_lines settings number rows made are);
    same = refl;
  };
}
