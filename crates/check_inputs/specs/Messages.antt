-- What is wrong with a row or a line, in words, with the field as it stands.
use Rattle.std.specs.Prelude.{ℕ, ◌&&◌, ◌==◌, ◌++◌, ◌∷◌, List, [], codes, decimal, flat_map, if◌then◌else◌, length}
use Rattle.std.specs.Prelude.{nat_le, nat_lt, slice_index_or, take, Option, Some, None}
use Rattle.std.specs.Fmt.{signed_decimal}
use Rattle.cwr_share.specs.Fields.{field_of}
use Rattle.cwr_share.specs.Records.{share_fields}
use Rattle.cwr_share.specs.declared.fields.TheConstants.{TYPE, WORK}
use Rattle.cwr_share.specs.declared.cwr_fault.CwrFault.{CwrFault}
use Rattle.cwr_share.specs.declared.cwr_fault.CwrFault.TheVariants as cwr
use Rattle.cwr_share.specs.declared.payee_fault.PayeeFault.{PayeeFault}
use Rattle.cwr_share.specs.declared.payee_fault.PayeeFault.TheVariants as payee
use Rattle.line_split.specs.declared.line_fault.LineFault.{LineFault}
use Rattle.line_split.specs.declared.line_fault.LineFault.TheVariants as line
use Rattle.page_text.specs.Shown.{byte_code}
use Rattle.tis_tree.specs.declared.tis_fault.TisFault.{TisFault}
use Rattle.tis_tree.specs.declared.tis_fault.TisFault.TheVariants as tis
use Rattle.usage_totals.specs.declared.total.Total.{Total}
use Rattle.check_inputs.specs.declared.words.TheConstants.{MOST_FIELD_BYTES}

-- a byte that is no printable ASCII is shown by its two digits
abbrev pub shown_byte : ℕ → List ℕ
shown_byte byte = if nat_le 32 byte && nat_le byte 126 then byte ∷ [] else byte_code byte

-- a field as it stands, but for what is long
abbrev pub shown : List ℕ → List ℕ
shown field = flat_map shown_byte (take MOST_FIELD_BYTES field)
    ++ (if nat_lt MOST_FIELD_BYTES (length field) then codes ".." else [])

-- a field, between words
abbrev pub around : (before : List ℕ) → (field : List ℕ) → (after : List ℕ) → List ℕ
around before field after = before ++ shown field ++ after

abbrev pub at : List (List ℕ) → ℕ → List ℕ
at row place = slice_index_or row place []

-- the row has another number of fields than it should
abbrev pub fields_message : (wanted : ℕ) → List (List ℕ) → List ℕ
fields_message wanted row =
    codes "the number of fields is " ++ decimal (length row) ++ codes ", not " ++ decimal wanted
    ++ around (codes "; the first is '") (at row 0) (codes "'")

abbrev pub tis_message : List (List ℕ) → TisFault → List ℕ
tis_message row (tis.Csv n) = if n == 0 then codes "the first row is not code,groups" else fields_message 2 row
tis_message row (tis.Code n) = around (codes "code '") (at row 0) (codes "' is not one to four digits, or is 0")
tis_message row (tis.Twice n) = around (codes "code '") (at row 0) (codes "' has an earlier row")
tis_message row (tis.Group n) = around (codes "groups '") (at row 1) (codes "' are not all codes of earlier rows")
tis_message row tis.Rows = codes "there are more than 2048 rows"
tis_message row tis.Memory = []

-- a party and a payee, of which one is no name
abbrev pub names_message : (party payee : List ℕ) → List ℕ
names_message party payee' =
    around (codes "party '") party (codes "' and payee '")
    ++ around [] payee' (codes "' are not both 1 to 64 printable ASCII characters that are not all spaces")

abbrev pub payee_message : List (List ℕ) → PayeeFault → List ℕ
payee_message row (payee.Csv n) = if n == 0 then codes "the first row is not party,payee" else fields_message 2 row
payee_message row (payee.Fields n) = names_message (at row 0) (at row 1)
payee_message row (payee.Twice n) = around (codes "party '") (at row 0) (codes "' has an earlier row")
payee_message row payee.Rows = codes "there are more than 65536 rows"
payee_message row (payee.Submitter n) = around (codes "submitter '") (at row 0) (codes "' is the name of no file")
payee_message row payee.Memory = []

abbrev pub usage_message : List (List ℕ) → LineFault → List ℕ
usage_message row (line.Csv n) =
    if n == 0 then codes "the first row is not usage,work,territory,right,amount"
    else fields_message 5 row
usage_message row (line.Fields n) =
    around (codes "usage '") (at row 0) (codes "' and work '")
    ++ around [] (at row 1) (codes "' are not both 1 to 64 printable ASCII characters")
usage_message row (line.Territory n) = around (codes "territory '") (at row 2)
    (codes "' is not one to four digits, or is 0")
usage_message row (line.Right n) = around (codes "right '") (at row 3) (codes "' is not P, M or S")
usage_message row (line.Amount n) = around (codes "amount '") (at row 4)
    (codes "' is not a whole number from -1000000000000 to 1000000000000")
usage_message row line.Lines = codes "there are more than 1000000 usage lines"
usage_message row line.Memory = []

-- the three shares of a share line, between words
abbrev pub shares_message : List ℕ → List ℕ
shares_message record' =
    around (codes "PR, MR and SR shares '") (field_of (share_fields record').performing record') (codes "', '")
    ++ around [] (field_of (share_fields record').mechanical record') (codes "' and '")
    ++ around [] (field_of (share_fields record').synchronisation record')
    (codes "' are not each five digits up to 10000, or five spaces")

abbrev pub cwr_message : List ℕ → CwrFault → List ℕ
cwr_message record' (cwr.Short n) = around (codes "record '") (field_of TYPE record')
    (codes "' ends before its last field: NWR and REV take 82 bytes, SPT 54, SWT 48")
cwr_message record' (cwr.Share n) = shares_message record'
cwr_message record' (cwr.Mark n) = around (codes "indicator '") (field_of (share_fields record').mark record')
    (codes "' is not I, E or a space")
cwr_message record' (cwr.Land n) = around (codes "territory '") (field_of (share_fields record').territory record')
    (codes "' is not four digits from 0001 on")
cwr_message record' (cwr.Party n) = around (codes "interested party number '")
    (field_of (share_fields record').party record') (codes "' is blank or not printable ASCII")
cwr_message record' (cwr.Work n) = around (codes "submitter work number '") (field_of WORK record')
    (codes "' is blank or not printable ASCII")
cwr_message record' (cwr.Many n) = codes "the registration has 256 share lines before this one"
cwr_message record' cwr.Accounts = codes "the parties in force have more than 16383 payees"
cwr_message record' cwr.Memory = []

-- where a fault stands, if it stands anywhere
abbrev pub place_text : (kind : List ℕ) → Option ℕ → List ℕ
place_text kind None = []
place_text kind (Some n) = kind ++ decimal n ++ codes ": "

-- a fault of the file of a path, as a line
abbrev pub fault_line : (path kind : List ℕ) → Option ℕ → (message : List ℕ) → (number : ℕ) → List ℕ
fault_line path kind place message number =
    path ++ codes ": " ++ place_text kind place ++ message ++ codes " (fault " ++ decimal number ++ codes ")\n"

-- a number of things in it
abbrev pub fact_line : (path what : List ℕ) → (number : ℕ) → List ℕ
fact_line path what number = path ++ codes ": " ++ what ++ codes ": " ++ decimal number ++ codes "\n"

-- what a run does not notice
abbrev pub remark_line : (path remark : List ℕ) → List ℕ
remark_line path remark = path ++ codes ": remark: " ++ remark ++ codes "\n"

-- how many usage lines there are, and what they come to
abbrev pub total_text : Total → List ℕ
total_text total = codes ": lines " ++ decimal total.lines ++ codes ", amount " ++ signed_decimal total.amount

-- the same of some usage lines of the list of a path
abbrev pub total_line : (path whose : List ℕ) → Total → (more : List ℕ) → List ℕ
total_line path whose total more = path ++ codes ": " ++ whose ++ total_text total ++ more ++ codes "\n"
