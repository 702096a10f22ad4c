-- A CWR file: when its lines are registrations, and what it is refused for.
use Rattle.std.specs.Prelude.{ℕ, ◌≡◌, ◌≤◌, ◌<◌, ◌⊎◌, ◌∷◌, ◌++◌, true, false, List, All, count_by, length, Option, Some, None, ⊤}
use Rattle.csv_table.specs.FirstFault.{AreInTurn, IsFirstFault}
use Rattle.cwr_share.specs.Fields.{HasLand, HasMark, HasParty, HasShares, IsFilled, field_of}
use Rattle.cwr_share.specs.Records.{ends_registration, is_share_line, opens_registration, share_fields}
use Rattle.cwr_share.specs.Registrations.{shares_in_force}
use Rattle.cwr_share.specs.RegistryOf.{HasTooManyPayees, IsPartyAmong, IsRegistryOf}
use Rattle.cwr_share.specs.Registered.{Registered}
use Rattle.cwr_share.specs.declared.TheConstants.{MOST_SHARES}
use Rattle.cwr_share.specs.declared.fields.TheConstants.{WORK}
use Rattle.cwr_share.specs.declared.fields.ShareFields.{ShareFields}
use Rattle.cwr_share.specs.declared.cwr_fault.CwrFault.{CwrFault}
use Rattle.cwr_share.specs.declared.cwr_fault.CwrFault.TheVariants.{Short, Share, Mark, Land, Party, Work, Many, Accounts, Memory}

-- a registration is open after these lines, and has these lines so far
pub record StandsIn (before body : List (List ℕ)) : Type 0 where
  pub earlier : List (List ℕ)
  pub opening : List ℕ
  pub split : before ≡ earlier ++ opening ∷ body
  pub opens : opens_registration opening ≡ true
  pub stays : All (λ line. ends_registration line ≡ false) body

-- the first line of a registration is long enough, where its work number begins
abbrev pub HasWorkField : List ℕ → Type 0
HasWorkField line = WORK.first ≤ length line

-- a share line is long enough, where its territory ends
abbrev pub HasFields : ShareFields → List ℕ → Type 0
HasFields fields line = fields.territory.last ≤ length line

-- the first line of a registration
pub record IsOpening (line : List ℕ) : Type 0 where
  pub long : HasWorkField line
  pub work : IsFilled (field_of WORK line)

-- a share line with the forms of its fields, after so many others of its registration
pub record IsShareRecord (earlier : ℕ) (fields : ShareFields) (line : List ℕ) : Type 0 where
  pub long : HasFields fields line
  pub party : HasParty fields line
  pub shares : HasShares fields line
  pub mark : HasMark fields line
  pub land : HasLand fields line
  pub few : earlier < MOST_SHARES

-- a sound line, after these; a share line where no registration is open may be anything
pub record IsSound (before : List (List ℕ)) (line : List ℕ) : Type 0 where
  pub opening : opens_registration line ≡ true → IsOpening line
  pub share : (body : List (List ℕ)) → StandsIn before body → is_share_line line ≡ true → IsShareRecord (count_by is_share_line body) (share_fields line) line

abbrev pub AreSound : List (List ℕ) → Type 0
AreSound lines = AreInTurn IsSound lines

-- what the first line of a registration is refused for
abbrev pub IsFaultOfOpening : List ℕ → (number : ℕ) → CwrFault → Type 0
IsFaultOfOpening line number (Short n) = (n ≡ number) × ¬ HasWorkField line
IsFaultOfOpening line number (Work n) = (n ≡ number) × HasWorkField line × ¬ IsFilled (field_of WORK line)
IsFaultOfOpening line number _ = ⊥

-- what a share line is refused for, after so many others of its registration: the first of these, in this order
abbrev pub IsFaultOfShare : (earlier : ℕ) → ShareFields → List ℕ → (number : ℕ) → CwrFault → Type 0
IsFaultOfShare earlier fields line number (Short n) = (n ≡ number) × ¬ HasFields fields line
IsFaultOfShare earlier fields line number (Party n) = (n ≡ number) × HasFields fields line × ¬ HasParty fields line
IsFaultOfShare earlier fields line number (Share n) = (n ≡ number) × HasFields fields line × HasParty fields line × ¬ HasShares fields line
IsFaultOfShare earlier fields line number (Mark n) =
    (n ≡ number) × HasFields fields line × HasParty fields line × HasShares fields line × ¬ HasMark fields line
IsFaultOfShare earlier fields line number (Land n) =
    (n ≡ number) × HasFields fields line × HasParty fields line × HasShares fields line × HasMark fields line × ¬ HasLand fields line
IsFaultOfShare earlier fields line number (Many n) =
    (n ≡ number) × HasFields fields line × HasParty fields line × HasShares fields line × HasMark fields line × HasLand fields line
    × (MOST_SHARES ≤ earlier)
IsFaultOfShare earlier fields line number _ = ⊥

-- what a line after others is refused for
abbrev pub IsFaultOfLine : (before : List (List ℕ)) → (number : ℕ) → List ℕ → CwrFault → Type 0
IsFaultOfLine before number line fault =
    ((opens_registration line ≡ true) × IsFaultOfOpening line number fault)
    ⊎ ((is_share_line line ≡ true) × (body : List (List ℕ)) × StandsIn before body × IsFaultOfShare (count_by is_share_line body) (share_fields line) line number fault)

-- the party of a share line of a registration in force
abbrev pub IsPartyInForce : List (List ℕ) → List ℕ → Type 0
IsPartyInForce lines = IsPartyAmong (shares_in_force lines)

-- all lines are sound, but the parties in force have too many payees
pub record HasTooMany (rows : List (List ℕ × List ℕ)) (lines : List (List ℕ)) : Type 0 where
  pub sound : AreSound lines
  pub many : HasTooManyPayees rows (shares_in_force lines)

-- What a file is refused for, with a table of payees: the first line that is not sound, where lines count from 1, or else too many payees. Memory may run out at any time.
abbrev pub IsFaultOf : List (List ℕ × List ℕ) → List (List ℕ) → CwrFault → Type 0
IsFaultOf rows lines Accounts = HasTooMany rows lines
IsFaultOf rows lines Memory = ⊤
IsFaultOf rows lines fault = IsFirstFault AreSound IsFaultOfLine lines fault

-- a file of sound lines, what its registrations in force are, and who is paid what their parties claim by the rows of a table of payees
pub record IsFileOf (rows : List (List ℕ × List ℕ)) (lines : List (List ℕ)) (registered : Registered) : Type 0 where
  pub sound : AreSound lines
  pub registry : IsRegistryOf rows (shares_in_force lines) registered

-- the fault's number
abbrev pub number_of_fault : CwrFault → ℕ
number_of_fault (Short line) = 1
number_of_fault (Share line) = 2
number_of_fault (Mark line) = 3
number_of_fault (Land line) = 4
number_of_fault (Party line) = 5
number_of_fault (Work line) = 6
number_of_fault (Many line) = 7
number_of_fault Accounts = 8
number_of_fault Memory = 9

-- the line's number, where the fault is one line's
abbrev pub place_of_fault : CwrFault → Option ℕ
place_of_fault (Short line) = Some line
place_of_fault (Share line) = Some line
place_of_fault (Mark line) = Some line
place_of_fault (Land line) = Some line
place_of_fault (Party line) = Some line
place_of_fault (Work line) = Some line
place_of_fault (Many line) = Some line
place_of_fault Accounts = None
place_of_fault Memory = None
