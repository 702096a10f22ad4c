-- What a run passes over without a word: share lines of territories that its table does not have, and payees of parties that nobody is.
use Rattle.std.specs.Prelude.{ℕ, ◌≡◌, ◌+◌, ◌&&◌, Bool, false, List, length, map, nat_eq, not, reverse, take, if◌then◌else◌, Some, None}
use Rattle.std.specs.List.{enumerate_from, filter_map, find, list_any}
use Rattle.std.specs.Option.{option_map_or}
use Rattle.std.specs.Cmp.Lexicographic.{pointwise}
use Rattle.csv_table.specs.Forms.{number_of}
use Rattle.cwr_share.specs.ClaimsOn.{is_known}
use Rattle.cwr_share.specs.Fields.{field_of}
use Rattle.cwr_share.specs.Records.{ends_registration, is_share_line, opens_registration, share_fields}
use Rattle.cwr_share.specs.Registered.{Registered}
use Rattle.cwr_share.specs.declared.passed_over.Scan.{Scan}
use Rattle.cwr_share.specs.declared.passed_over.Tally.{Tally}

-- the numbers, from 1, of those in a list that are of some kind, which may depend on what stands before them
abbrev pub numbers_of : {X : Type 0} → (List X → X → Bool) → List X → List ℕ
numbers_of is_one xs = filter_map (λ e. if is_one (take e.0 xs) e.1 then Some (e.0 + 1) else None) (enumerate_from 0 xs)

-- a registration is open after these lines: the last of them that ends one begins another
abbrev pub is_open_after : List (List ℕ) → Bool
is_open_after lines = option_map_or opens_registration (find ends_registration (reverse lines)) false

-- the line is a share line, and the table does not have its territory
abbrev pub is_unknown_share : List (ℕ × List ℕ) → List ℕ → Bool
is_unknown_share table line = is_share_line line && not (is_known table (number_of (field_of (share_fields line).territory line)))

-- the lines of a file that are such share lines of a registration, whether another takes its place later or not
abbrev pub unknown_lines : List (ℕ × List ℕ) → List (List ℕ) → List ℕ
unknown_lines table lines = numbers_of (λ before line. is_open_after before && is_unknown_share table line) lines

-- the party has a row
abbrev pub has_row : List (List ℕ × List ℕ) → (party : List ℕ) → Bool
has_row payees party = list_any (pointwise nat_eq party) (map (λ row. row.0) payees)

-- the rows of a table of payees whose party no registration in force has
abbrev pub unused_rows : Registered → List (List ℕ × List ℕ) → List ℕ
unused_rows registered rows = numbers_of (λ _ row. not (has_row registered.payees row.0)) rows

-- how many numbers there are, and the first ten of them
pub record IsTallyOf (numbers : List ℕ) (tally : Tally) : Type 0 where
  pub count : tally.count ≡ length numbers
  pub first : tally.first.items ≡ take 10 numbers

-- Lines that were gone over so far. Contracts of private functions alone cite it.
pub record IsScanOf (table : List (ℕ × List ℕ)) (lines : List (List ℕ)) (scan : Scan) : Type 0 where
  pub number : scan.number ≡ length lines
  pub stands : scan.is_open ≡ is_open_after lines
  pub tally : IsTallyOf (unknown_lines table lines) scan.tally
