-- The types of records: CWR 2.2, the first three bytes of a line.
use Rattle.std.specs.Prelude.{ℕ, ◌∷◌, Bool, true, false, List, [], codes, if◌then◌else◌}
use Rattle.std.specs.List.{list_any}
use Rattle.std.specs.Cmp.Lexicographic.{pointwise}
use Rattle.std.specs.Prelude.{nat_eq}
use Rattle.cwr_share.specs.Fields.{field_of}
use Rattle.cwr_share.specs.declared.fields.TheConstants.{TYPE, SPT, SWT}
use Rattle.cwr_share.specs.declared.fields.ShareFields.{ShareFields}
use Rattle.cwr_share.specs.declared.record_type.RecordType.{RecordType}
use Rattle.cwr_share.specs.declared.record_type.RecordType.TheVariants.{Registration, Interest, PublisherShare, WriterShare, Closing, Other}

-- the line's type is one of these
abbrev pub is_one_of : List (List ℕ) → List ℕ → Bool
is_one_of names line = list_any (pointwise nat_eq (field_of TYPE line)) names

-- what a record is; a line too short to have a type is one of the others
abbrev pub type_of : List ℕ → RecordType
type_of line =
    if is_one_of (codes "NWR" ∷ codes "REV" ∷ []) line then Registration
    else if is_one_of (codes "SPU" ∷ codes "SWR" ∷ []) line then Interest
    else if is_one_of (codes "SPT" ∷ []) line then PublisherShare
    else if is_one_of (codes "SWT" ∷ []) line then WriterShare
    else if is_one_of (codes "HDR" ∷ codes "GRH" ∷ codes "GRT" ∷ codes "TRL" ∷ codes "AGR" ∷ codes "ACK" ∷ codes "ISW" ∷ codes "EXC" ∷ []) line
    then Closing
    else Other

-- a new or revised registration begins
abbrev pub opens_registration : List ℕ → Bool
opens_registration line = opens (type_of line)
  where
    opens : RecordType → Bool
    opens Registration = true
    opens _ = false

-- a registration ends before this line
abbrev pub ends_registration : List ℕ → Bool
ends_registration line = ends (type_of line)
  where
    ends : RecordType → Bool
    ends Registration = true
    ends Closing = true
    ends _ = false

-- an interest begins
abbrev pub opens_interest : List ℕ → Bool
opens_interest line = opens (type_of line)
  where
    opens : RecordType → Bool
    opens Interest = true
    opens _ = false

-- a share line, a publisher's or a writer's
abbrev pub is_share_line : List ℕ → Bool
is_share_line line = is_share (type_of line)
  where
    is_share : RecordType → Bool
    is_share PublisherShare = true
    is_share WriterShare = true
    is_share _ = false

-- where the fields of a share line stand
abbrev pub share_fields : List ℕ → ShareFields
share_fields line = fields (type_of line)
  where
    fields : RecordType → ShareFields
    fields WriterShare = SWT
    fields _ = SPT
