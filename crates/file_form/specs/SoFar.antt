-- What was gone over so far. Contracts of private functions alone cite it, and no promise rests on it.
use Rattle.std.specs.Prelude.{ℕ, ◌≡◌, ◌<◌, ◌+◌, ◌^◌, ◌++◌, ◌∷◌, ◌&&◌, Bool, true, false, List, [], Option, None, Some}
use Rattle.std.specs.Prelude.{count_by, flat_map, if◌then◌else◌, length, map, nat_eq, not, take}
use Rattle.std.specs.Cmp.Lexicographic.{pointwise}
use Rattle.csv.specs.declared.parser.State.{State}
use Rattle.csv.specs.declared.parser.State.TheVariants as st
use Rattle.file_form.specs.Controls.{AreControlsOf, difference, found_in, is_group_header, is_group_trailer, is_header}
use Rattle.file_form.specs.Controls.{is_trailer, since}
use Rattle.file_form.specs.Types.{each_once, is_of_cwr, is_record}
use Rattle.file_form.specs.declared.controls.Controls.{Controls}
use Rattle.file_form.specs.declared.controls.Counted.TheVariants.{Groups, Transactions, Records}
use Rattle.file_form.specs.declared.controls.Difference.{Difference}
use Rattle.file_form.specs.declared.controls.Part.{Part}
use Rattle.file_form.specs.declared.controls.Scan.{Scan}
use Rattle.file_form.specs.declared.quotes.Stand.{Stand}
use Rattle.file_form.specs.declared.quotes.Stand.TheVariants as stand
use Rattle.file_form.specs.declared.types.ForeignType.{ForeignType}
use Rattle.file_form.specs.declared.types.ForeignTypes.{ForeignTypes}

-- ---- types

-- the line is a record of a type that CWR 2.2 does not have
abbrev pub is_foreign : List ℕ → Bool
is_foreign line = is_record line && not (is_of_cwr line)

-- each of these names once, and how often it is among them
abbrev pub counted : List (List ℕ) → List (List ℕ × ℕ)
counted names = map (λ name. (name, count_by (pointwise nat_eq name) names)) (each_once names)

-- a type, and how many records have it
abbrev pub type_with : List ℕ × ℕ → ForeignType
type_with e = record { name = e.0; records = e.1 }

-- how many types there are, and the first ten of them
pub record AreFirstOf (counts : List (List ℕ × ℕ)) (types : ForeignTypes) : Type 0 where
  pub count : types.count ≡ length counts
  pub first : types.first.items ≡ take 10 (map type_with counts)

-- ---- control records

-- what is counted of a part of a file
pub record IsPartOf (lines : List (List ℕ)) (part : Part) : Type 0 where
  pub groups : part.groups ≡ found_in Groups lines
  pub transactions : part.transactions ≡ found_in Transactions lines
  pub records : part.records ≡ found_in Records lines

-- one line more fits
pub record HasRoom (part : Part) : Type 0 where
  pub groups : part.groups + 1 < 2 ^ 64
  pub transactions : part.transactions + 1 < 2 ^ 64
  pub records : part.records + 1 < 2 ^ 64

-- the lines of a part behind one line more, which may begin another
abbrev pub lines_behind : List (List ℕ) → (line : List ℕ) → (begins : Bool) → List (List ℕ)
lines_behind lines line begins = if begins then line ∷ [] else lines ++ line ∷ []

-- these differences are counted, and the first of them kept
pub record AreNoted (found : List Difference) (controls : Controls) : Type 0 where
  pub count : controls.count ≡ length found
  pub first : controls.first.items ≡ take 10 found

-- what a line says, which has this number, that is not so of the group or of the whole
abbrev pub differences_of : ℕ → (line : List ℕ) → (group whole : List (List ℕ)) → List Difference
differences_of number line group whole =
    if is_group_trailer line then flat_map (difference false number line group) (Transactions ∷ Records ∷ [])
    else if is_trailer line then flat_map (difference true number line whole) (Groups ∷ Transactions ∷ Records ∷ [])
    else []

-- the part that a trailer counts
abbrev pub part_of : (is_whole : Bool) → Scan → Part
part_of true scan = scan.whole
part_of false scan = scan.group

-- the lines that were gone over
pub record IsScanOf (lines : List (List ℕ)) (scan : Scan) : Type 0 where
  pub number : scan.number ≡ length lines
  pub group : IsPartOf (since is_group_header lines) scan.group
  pub whole : IsPartOf (since is_header lines) scan.whole
  pub controls : AreControlsOf lines scan.controls

-- all but the differences stays as it was
pub record KeepsRest (old new : Scan) : Type 0 where
  pub number : new.number ≡ old.number
  pub group : new.group ≡ old.group
  pub whole : new.whole ≡ old.whole
  pub closed : new.controls.is_closed ≡ old.controls.is_closed

-- ---- quotes

-- where a reader stands by the state of the machine, which escapes nothing and has no comments
abbrev pub stand_of : State → Option Stand
stand_of st.StartRecord = Some stand.Before
stand_of st.StartField = Some stand.Before
stand_of st.AfterCr = Some stand.Before
stand_of st.InField = Some stand.Plain
stand_of st.InQuoted = Some stand.Quoted
stand_of st.AfterQuote = Some stand.Quote
stand_of st.InEscape = None
stand_of st.InComment = None
