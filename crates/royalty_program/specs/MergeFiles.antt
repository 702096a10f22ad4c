-- What a merge answers over files. `gives path text` says that the file of a path gives this text.
use Rattle.std.specs.Prelude.{ℕ, Contains, ◌≡◌, ◌<◌, ◌≤◌, ◌+◌, ◌^◌, ◌∷◌, ◌⊎◌, [], List, Option, IfSome, length}
use Rattle.std.specs.Prelude.{slice_index_or, take, ⊤}
use Rattle.merge_statements.specs.Merged.{IsMergeOf}
use Rattle.merge_statements.specs.Refused.{BeginsWithPortions, IsFaultIn, IsStatementText, IsTextOfRows}
use Rattle.merge_statements.specs.declared.refusal.StatementFault.{StatementFault}

-- What a file of the system gives no contract can say.
abbrev pub any_text : List ℕ → List ℕ → Type 0
any_text path text = ⊤

-- a reader has this left, as far as that is known
abbrev pub Gives : (gives : List ℕ → Type 0) → Option (List ℕ) → Type 0
Gives gives known = (text : List ℕ) → IfSome known (λ bytes. bytes ≡ text) → gives text

-- the same of the files of these paths, in their order
abbrev pub AreOpened : (gives : List ℕ → List ℕ → Type 0) → List (List ℕ) → List (Option (List ℕ)) → Type 0
AreOpened gives [] [] = ⊤
AreOpened gives (path ∷ paths) (known ∷ others) = Gives (gives path) known × AreOpened gives paths others
AreOpened gives _ _ = ⊥

-- their files give these texts
abbrev pub AreTextsAt : (gives : List ℕ → List ℕ → Type 0) → List (List ℕ) → List (List ℕ) → Type 0
AreTextsAt gives [] [] = ⊤
AreTextsAt gives (path ∷ paths) (text ∷ texts) = gives path text × AreTextsAt gives paths texts
AreTextsAt gives _ _ = ⊥

-- and this is what these texts merge to
pub record IsMergeOver (gives : List ℕ → List ℕ → Type 0) (paths : List (List ℕ)) (text : List ℕ) : Type 0 where
  pub texts : List (List ℕ)
  pub are : AreTextsAt gives paths texts
  pub merge : IsMergeOf texts text

-- something holds of the text that a path gives
pub record HoldsOf (gives : List ℕ → Type 0) (P : List ℕ → Type 0) : Type 0 where
  pub known : Option (List ℕ)
  pub given : Gives gives known
  pub holds_of : IfSome known P

-- it is that of statements, of so many usage lines
abbrev pub IsSoundText : (gives : List ℕ → List ℕ → Type 0) → List ℕ → (lines : ℕ) → Type 0
IsSoundText gives path lines = HoldsOf (gives path) (λ text. IsStatementText text lines)

-- the same, and it has so many rows
abbrev pub IsCountedText : (gives : List ℕ → List ℕ → Type 0) → List ℕ → (lines rows : ℕ) → Type 0
IsCountedText gives path lines rows = HoldsOf (gives path) (λ text. IsTextOfRows text lines rows)

-- so are those of all these paths, of so many together
abbrev pub AreSoundTexts : (gives : List ℕ → List ℕ → Type 0) → List (List ℕ) → (lines : ℕ) → Type 0
AreSoundTexts gives [] lines = lines ≡ 0
AreSoundTexts gives (path ∷ paths) lines = (own : ℕ) × (others : ℕ) × (IsSoundText gives path own × AreSoundTexts gives paths others × (lines ≡ own + others))

-- The texts of the paths before one of these are those of statements.
pub record IsFirstRefused (gives : List ℕ → List ℕ → Type 0) (paths : List (List ℕ)) (path : List ℕ) : Type 0 where
  pub place : ℕ
  pub inside : place < length paths
  pub there : slice_index_or paths place path ≡ path
  pub lines : ℕ
  pub before : AreSoundTexts gives (take place paths) lines

-- and its own text has this fault first
pub record IsFaultAt (gives : List ℕ → List ℕ → Type 0) (paths : List (List ℕ)) (path : List ℕ) (fault : StatementFault) : Type 0 where
  pub first : IsFirstRefused gives paths path
  pub fault_of : HoldsOf (gives path) (λ text. IsFaultIn text fault)

-- The texts of the first so many paths are those of statements, and of too many usage lines.
pub record AreOfTooManyLines (gives : List ℕ → List ℕ → Type 0) (paths : List (List ℕ)) : Type 0 where
  pub count : ℕ
  pub inside : count ≤ length paths
  pub lines : ℕ
  pub sound : AreSoundTexts gives (take count paths) lines
  pub many : 10 ^ 18 < lines

-- the texts of all these paths begin with this number of portions together
abbrev pub BeginWithPortions : (gives : List ℕ → List ℕ → Type 0) → List (List ℕ) → (portions : ℕ) → Type 0
BeginWithPortions gives [] portions = portions ≡ 0
BeginWithPortions gives (path ∷ paths) portions =
    (own : ℕ) × (others : ℕ)
    × HoldsOf (gives path) (λ text. BeginsWithPortions text own) × BeginWithPortions gives paths others
    × (portions ≡ own + others)

-- which are too many
abbrev pub BeginWithTooManyPortions : (gives : List ℕ → List ℕ → Type 0) → List (List ℕ) → Type 0
BeginWithTooManyPortions gives paths = (portions : ℕ) × BeginWithPortions gives paths portions × (10 ^ 18 < portions)

-- the texts of paths are of too many usage lines, or have too many portions
abbrev pub AreTooMany : (gives : List ℕ → List ℕ → Type 0) → List (List ℕ) → Type 0
AreTooMany gives paths = AreOfTooManyLines gives paths ⊎ BeginWithTooManyPortions gives paths

-- The texts of all these paths were those of statements, and not of too many usage lines. They are too many all the
-- same.
pub record AreFoundTooMany (gives : List ℕ → List ℕ → Type 0) (paths : List (List ℕ)) : Type 0 where
  pub lines : ℕ
  pub sound : AreSoundTexts gives paths lines
  pub few : lines ≤ 10 ^ 18
  pub many : AreTooMany gives paths

-- the text that a path gives has a fault
abbrev pub GivesFault : (gives : List ℕ → Type 0) → Type 0
GivesFault gives = (fault : StatementFault) × HoldsOf gives (λ text. IsFaultIn text fault)

-- The texts of all these paths were those of statements, and not of too many usage lines. The path is one of them, and its text
-- has a fault all the same.
pub record HasChanged (gives : List ℕ → List ℕ → Type 0) (paths : List (List ℕ)) (path : List ℕ) : Type 0 where
  pub one : Contains paths path
  pub lines : ℕ
  pub sound : AreSoundTexts gives paths lines
  pub few : lines ≤ 10 ^ 18
  pub fault : GivesFault (gives path)
