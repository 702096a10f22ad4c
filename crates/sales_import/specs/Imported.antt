-- What is made of the rows of a sales report.
use Rattle.std.specs.Fmt.{signed_decimal}
use Rattle.std.specs.Prelude.{ℕ, ℤ, ◌≡◌, ◌+◌, ◌++◌, ◌∷◌, [], List, codes, decimal, map, Option, Some}
use Rattle.std.specs.Io.KnownBytes.{append_known}
use Rattle.csv_table.specs.Written.{Page, text_of}
use Rattle.line_split.specs.UsageTable.{header}
use Rattle.decimal_amounts.specs.declared.amount.AmountFault.TheVariants as fault
use Rattle.value_maps.specs.declared.kind.Kind.TheVariants.{Works, Territories, Rights}
use Rattle.sales_lines.specs.Sales.{IsCountedWith, IsOutcomeOf}
use Rattle.sales_lines.specs.declared.outcome.Outcome.{Outcome}
use Rattle.sales_lines.specs.declared.outcome.Outcome.TheVariants.{Passed, Rejected, Line}
use Rattle.sales_lines.specs.declared.outcome.SalesLine.{SalesLine}
use Rattle.sales_lines.specs.declared.reason.Reason.{Reason}
use Rattle.sales_lines.specs.declared.reason.Reason.TheVariants.{Broken, Fields, Usage, Unknown, Unfit, Amount}
use Rattle.sales_lines.specs.declared.settings.Settings.{Settings}

-- ---- the reasons in words

abbrev pub words_of : Reason → List ℕ
words_of Broken = codes "a field of it has a line break"
words_of Fields = codes "it does not have the fields that it should have"
words_of Usage = codes "what its use is called is not 1 to 64 printable bytes"
words_of (Unknown Works) = codes "its work has no row in the table of works"
words_of (Unknown Territories) = codes "its territory has no row in the table of territories"
words_of (Unknown Rights) = codes "its right has no row in the table of rights"
words_of (Unfit Works) = codes "its work is not 1 to 64 printable bytes"
words_of (Unfit Territories) = codes "its territory is no TIS numeric code"
words_of (Unfit Rights) = codes "its right is not P or M or S"
words_of (Amount fault.Long) = codes "its amount has more than 38 bytes"
words_of (Amount fault.Form) = codes "its amount is no decimal number"
words_of (Amount fault.Fine) = codes "its amount has more decimal places than are kept"
words_of (Amount fault.Large) = codes "its amount is more than 1000000000000 units"

-- ---- what rows become

-- a usage line: four fields as they stand in the table of usage lines, and the amount
pub record Sold : Type 0 where
  pub usage : List ℕ
  pub work : List ℕ
  pub territory : List ℕ
  pub right : List ℕ
  pub amount : ℤ

-- a row that is rejected: its number, the reason, the row as it stands, and what it counts with
pub record Reject : Type 0 where
  pub number : ℕ
  pub reason : Reason
  pub row : List (List ℕ)
  pub amount : Option ℤ

-- what is made of some rows: usage lines, rows that are rejected, and what those count with that are passed over, and all
pub record Made : Type 0 where
  pub lines : List Sold
  pub rejects : List Reject
  pub passed : List (Option ℤ)
  pub all : List (Option ℤ)

abbrev pub nothing : Made
nothing = record { lines = []; rejects = []; passed = []; all = [] }

abbrev pub both : Made → Made → Made
both one other = record {
  lines = one.lines ++ other.lines;
  rejects = one.rejects ++ other.rejects;
  passed = one.passed ++ other.passed;
  all = one.all ++ other.all;
}

abbrev pub sold_of : SalesLine → Sold
sold_of line = record {
  usage = line.usage.now;
  work = line.work.now;
  territory = line.territory.now;
  right = line.right.now;
  amount = line.amount;
}

-- what is made of the row with a number, by what becomes of it and what it counts with
abbrev pub made_by : (number : ℕ) → (row : List (List ℕ)) → Outcome → Option ℤ → Made
made_by number row Passed amount =
    record { lines = []; rejects = []; passed = amount ∷ []; all = amount ∷ [] }
made_by number row (Rejected reason) amount = record {
  lines = [];
  rejects = record { number = number; reason = reason; row = row; amount = amount } ∷ [];
  passed = [];
  all = amount ∷ [];
}
made_by number row (Line line) amount =
    record { lines = sold_of line ∷ []; rejects = []; passed = []; all = Some line.amount ∷ [] }

abbrev pub IsMade : Settings → (number : ℕ) → List (List ℕ) → Made → Type 0
IsMade settings number row made = (outcome : Outcome) × (amount : Option ℤ) × IsOutcomeOf settings row outcome
    × IsCountedWith settings row amount × (made ≡ made_by number row outcome amount)

-- what is made of rows, of which the first has this number
abbrev pub AreMade : Settings → (number : ℕ) → List (List (List ℕ)) → Made → Type 0
AreMade settings number [] made = made ≡ nothing
AreMade settings number (row ∷ rows) made = (own : Made) × (others : Made)
    × IsMade settings number row own × AreMade settings (number + 1) rows others × (made ≡ both own others)

-- what usage lines count with, and rows that are rejected
abbrev pub line_amounts : List Sold → List (Option ℤ)
line_amounts = map (λ line. Some line.amount)

abbrev pub reject_amounts : List Reject → List (Option ℤ)
reject_amounts = map (λ reject. reject.amount)

-- ---- the two tables

-- the header of the usage lines, as of any table of them
abbrev pub line_header : List (List ℕ)
line_header = header

-- and that of the rejected rows, by that of the export
abbrev pub reject_header : (fields : List (List ℕ)) → List (List ℕ)
reject_header fields = codes "rejected_row" ∷ codes "rejected_since" ∷ fields

-- the row of a usage line
abbrev pub line_row : Sold → List (List ℕ)
line_row line = line.usage ∷ line.work ∷ line.territory ∷ line.right ∷ signed_decimal line.amount ∷ []

-- the row of one that is rejected: its number and the reason stand before its fields
abbrev pub reject_row : (number : ℕ) → Reason → (row : List (List ℕ)) → List (List ℕ)
reject_row number reason row = decimal number ∷ words_of reason ∷ row

abbrev pub lines_text : Made → List ℕ
lines_text made = text_of (map line_row made.lines)

abbrev pub rejects_text : Made → List ℕ
rejects_text made = text_of (map (λ reject. reject_row reject.number reject.reason reject.row) made.rejects)

-- what an output has, with a page that is on its way to it
abbrev pub output : {W : Type 0} → (W → Option (List ℕ)) → W → Page → Option (List ℕ)
output contents out page = append_known (contents out) page.text
