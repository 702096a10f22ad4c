-- The records that enclose the transactions of a CWR 2.2 file: HDR and TRL the whole of them, GRH and GRT each group.
-- A trailer says how many there are.
use Rattle.std.specs.Prelude.{ℕ, ◌≡◌, ◌+◌, ◌&&◌, ◌==◌, ◌++◌, ◌∷◌, Bool, true, false, List, [], Option, None, Some}
use Rattle.std.specs.Prelude.{codes, count_by, flat_map, fold, if◌then◌else◌, length, nat_le, nat_lt, reverse, take}
use Rattle.std.specs.List.{enumerate_from, find, list_all}
use Rattle.std.specs.Option.{option_map_or}
use Rattle.csv_table.specs.Forms.{number_of}
use Rattle.cwr_share.specs.Fields.{field_of}
use Rattle.cwr_share.specs.Records.{is_one_of}
use Rattle.cwr_share.specs.declared.fields.Field.{Field}
use Rattle.file_form.specs.Types.{is_record}
use Rattle.file_form.specs.declared.controls.Controls.{Controls}
use Rattle.file_form.specs.declared.controls.Counted.{Counted}
use Rattle.file_form.specs.declared.controls.Counted.TheVariants.{Groups, Transactions, Records}
use Rattle.file_form.specs.declared.controls.Difference.{Difference}
use Rattle.file_form.specs.declared.controls.TheConstants.{GROUPS, TRANSACTIONS, RECORDS}

abbrev pub is_header : List ℕ → Bool
is_header = is_one_of (codes "HDR" ∷ [])

abbrev pub is_group_header : List ℕ → Bool
is_group_header = is_one_of (codes "GRH" ∷ [])

abbrev pub is_group_trailer : List ℕ → Bool
is_group_trailer = is_one_of (codes "GRT" ∷ [])

abbrev pub is_trailer : List ℕ → Bool
is_trailer = is_one_of (codes "TRL" ∷ [])

-- a transaction begins
abbrev pub opens_transaction : List ℕ → Bool
opens_transaction = is_one_of
    (codes "AGR" ∷ codes "NWR" ∷ codes "REV" ∷ codes "ISW" ∷ codes "EXC" ∷ codes "ACK" ∷ [])

-- the lines from the last of a kind on, or all where none is of it
abbrev pub since : (List ℕ → Bool) → List (List ℕ) → List (List ℕ)
since begins lines = fold (λ part line. if begins line then line ∷ [] else part ++ line ∷ []) [] lines

-- how many there are of what a trailer counts
abbrev pub found_in : Counted → List (List ℕ) → ℕ
found_in Groups lines = count_by is_group_header lines
found_in Transactions lines = count_by opens_transaction lines
found_in Records lines = count_by is_record lines

-- and where it says how many
abbrev pub place_of : Counted → Field
place_of Groups = GROUPS
place_of Transactions = TRANSACTIONS
place_of Records = RECORDS

abbrev pub is_digit : ℕ → Bool
is_digit byte = nat_le 48 byte && nat_le byte 57

-- the number that a field writes, if it writes one
abbrev pub number_in : List ℕ → Option ℕ
number_in field = if nat_lt 0 (length field) && list_all is_digit field then Some (number_of field) else None

abbrev pub is_number : Option ℕ → ℕ → Bool
is_number None found = false
is_number (Some says) found = says == found

-- the trailer in the line with this number says something else of a part than there is
abbrev pub difference : (is_whole : Bool) → (number : ℕ) → (line : List ℕ) → (part : List (List ℕ)) → Counted
    → List Difference
difference is_whole number line part counted =
    if is_number (number_in (field_of (place_of counted) line)) (found_in counted part) then []
    else record {
      line = number;
      is_whole = is_whole;
      counted = counted;
      says = number_in (field_of (place_of counted) line);
      found = found_in counted part;
    } ∷ []

-- what a line says that is not so: a group's trailer of its group, and a file's of the whole
abbrev pub differences_at : (before : List (List ℕ)) → (line : List ℕ) → List Difference
differences_at before line =
    if is_group_trailer line
    then flat_map (difference false (length before + 1) line (since is_group_header (before ++ line ∷ [])))
    (Transactions ∷ Records ∷ [])
    else if is_trailer line
    then flat_map (difference true (length before + 1) line (since is_header (before ++ line ∷ [])))
    (Groups ∷ Transactions ∷ Records ∷ [])
    else []

abbrev pub differences : List (List ℕ) → List Difference
differences lines = flat_map (λ e. differences_at (take e.0 lines) e.1) (enumerate_from 0 lines)

-- the last record is a file's trailer
abbrev pub is_closed : List (List ℕ) → Bool
is_closed lines = option_map_or is_trailer (find is_record (reverse lines)) false

-- how many differences there are, and the first ten of them; and whether the last record is a trailer
pub record AreControlsOf (lines : List (List ℕ)) (controls : Controls) : Type 0 where
  pub count : controls.count ≡ length (differences lines)
  pub first : controls.first.items ≡ take 10 (differences lines)
  pub closed : controls.is_closed ≡ is_closed lines
