-- The types of the records of a CWR file.
use Rattle.std.specs.Prelude.{ℕ, ◌&&◌, ◌∷◌, ◌++◌, Bool, List, [], codes, count_by, filter, fold, length, map, nat_eq}
use Rattle.std.specs.Prelude.{if◌then◌else◌, nat_lt, not, take, ◌≡◌}
use Rattle.std.specs.List.{list_any}
use Rattle.std.specs.Cmp.Lexicographic.{pointwise}
use Rattle.cwr_share.specs.Fields.{field_of}
use Rattle.cwr_share.specs.Records.{is_one_of}
use Rattle.cwr_share.specs.declared.fields.TheConstants.{TYPE}
use Rattle.file_form.specs.declared.types.ForeignType.{ForeignType}
use Rattle.file_form.specs.declared.types.ForeignTypes.{ForeignTypes}

-- a line that is not empty has a record
abbrev pub is_record : List ℕ → Bool
is_record line = nat_lt 0 (length line)

-- CWR 2.2 has records of the line's type
abbrev pub is_of_cwr : List ℕ → Bool
is_of_cwr = is_one_of
    (codes "HDR" ∷ codes "GRH" ∷ codes "GRT" ∷ codes "TRL"
    ∷ codes "AGR" ∷ codes "TER" ∷ codes "IPA" ∷ codes "NPA"
    ∷ codes "NWR" ∷ codes "REV" ∷ codes "ISW" ∷ codes "EXC" ∷ codes "ACK"
    ∷ codes "SPU" ∷ codes "NPN" ∷ codes "SPT" ∷ codes "OPU" ∷ codes "OPT"
    ∷ codes "SWR" ∷ codes "NWN" ∷ codes "SWT" ∷ codes "PWR" ∷ codes "OWR" ∷ codes "NOW" ∷ codes "OWT"
    ∷ codes "ALT" ∷ codes "NAT" ∷ codes "EWT" ∷ codes "NET" ∷ codes "VER" ∷ codes "NVT" ∷ codes "COM" ∷ codes "NCT"
    ∷ codes "PER" ∷ codes "NPR" ∷ codes "REC" ∷ codes "ORN" ∷ codes "INS" ∷ codes "IND" ∷ codes "ARI" ∷ codes "XRF"
    ∷ codes "MSG" ∷ [])

-- the types of the records that it does not have, one for each record
abbrev pub foreign_names : List (List ℕ) → List (List ℕ)
foreign_names lines = map (field_of TYPE) (filter (λ line. is_record line && not (is_of_cwr line)) lines)

-- these names, each once, in the order in which they come first
abbrev pub each_once : List (List ℕ) → List (List ℕ)
each_once names = fold (λ kept name. if list_any (pointwise nat_eq name) kept then kept else kept ++ name ∷ []) [] names

-- each of these types once, and how many records have it
abbrev pub foreign_types : List (List ℕ) → List ForeignType
foreign_types lines =
    map (λ name. record { name = name; records = count_by (pointwise nat_eq name) (foreign_names lines) })
    (each_once (foreign_names lines))

-- how many there are, and the first ten of them
pub record AreForeignTypes (lines : List (List ℕ)) (types : ForeignTypes) : Type 0 where
  pub count : types.count ≡ length (foreign_types lines)
  pub first : types.first.items ≡ take 10 (foreign_types lines)
