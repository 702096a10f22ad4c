-- The summary of an import as lines of text.
use Rattle.std.specs.Fmt.{signed_decimal}
use Rattle.std.specs.Prelude.{ℕ, ◌==◌, ◌++◌, [], List, codes, decimal, flat_map, if◌then◌else◌}
use Rattle.sales_lines.specs.declared.reason.Reason.{Reason}
use Rattle.sales_import.specs.Imported.{words_of}
use Rattle.sales_import.specs.SoFar.{tally_for}
use Rattle.sales_import.specs.Tallies.{all_reasons}
use Rattle.sales_import.specs.declared.summary.Summary.{Summary}
use Rattle.sales_import.specs.declared.tally.Tally.{Tally}

-- how many of the rows have no amount that can be read, if there are any
abbrev pub without_text : (without : ℕ) → List ℕ
without_text without = if without == 0 then [] else codes ", without the amounts of " ++ decimal without

-- how many rows there are, and what they come to
abbrev pub numbers_text : Tally → List ℕ
numbers_text tally = codes ": " ++ decimal tally.rows ++ codes ", amount " ++ signed_decimal tally.amount
    ++ without_text tally.without ++ codes "\n"

-- a line on the rows of a kind
abbrev pub tally_line : (path : List ℕ) → (what : List ℕ) → Tally → List ℕ
tally_line path what tally = path ++ codes ": " ++ what ++ numbers_text tally

-- and on those that were rejected for a reason, if there are any
abbrev pub reason_line : (path : List ℕ) → Reason → Tally → List ℕ
reason_line path reason tally =
    if tally.rows == 0 then [] else path ++ codes ": rejected since " ++ words_of reason ++ numbers_text tally

abbrev pub reason_lines : (path : List ℕ) → Summary → List Reason → List ℕ
reason_lines path summary = flat_map (λ reason. reason_line path reason (tally_for reason summary))

abbrev pub summary_text : (path : List ℕ) → Summary → List ℕ
summary_text path summary = tally_line path (codes "rows") summary.all
    ++ tally_line path (codes "usage lines") summary.lines
    ++ tally_line path (codes "rejected rows") summary.rejected
    ++ reason_lines path summary all_reasons
    ++ tally_line path (codes "rows passed over") summary.passed
