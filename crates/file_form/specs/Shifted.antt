-- Records whose fields may stand in other columns than they seem to.
use Rattle.std.specs.Prelude.{ℕ, ◌-◌, ◌&&◌, ◌||◌, Bool, List, nat_lt, take}
use Rattle.std.specs.List.{list_any}
use Rattle.cwr_share.specs.PassedOver.{numbers_of}
use Rattle.cwr_share.specs.Records.{is_share_line, opens_registration, share_fields}
use Rattle.cwr_share.specs.declared.fields.Field.{Field}
use Rattle.cwr_share.specs.declared.fields.TheConstants.{WORK}

-- a byte beyond ASCII stands before a field: a character may have several bytes
abbrev pub is_shifted_before : Field → List ℕ → Bool
is_shifted_before field line = list_any (λ byte. nat_lt 127 byte) (take (field.first - 1) line)

-- one stands before the last field that is read of an NWR, REV, SPT or SWT
abbrev pub is_shifted : List ℕ → Bool
is_shifted line =
    (opens_registration line && is_shifted_before WORK line)
    || (is_share_line line && is_shifted_before (share_fields line).territory line)

-- the numbers of these lines
abbrev pub shifted_lines : List (List ℕ) → List ℕ
shifted_lines lines = numbers_of (λ _ line. is_shifted line) lines
