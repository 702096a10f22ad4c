-- What a text is refused for: the first of its rows, or lines, that is not as it has to be.
use Rattle.std.specs.Prelude.{ℕ, ◌≡◌, ◌<◌, ◌+◌, ◌⊎◌, ◌∷◌, ◌++◌, [], List, length, slice_index_or, take}

-- each row is as it has to be behind those before it
abbrev pub AreInTurn : {X : Type 0} → (IsSound : List (List X) → List X → Type 0) → List (List X) → Type 0
AreInTurn IsSound rows = (place : ℕ) → place < length rows → IsSound (take place rows) (slice_index_or rows place [])

-- A row that is refused stands behind rows that are sound. What refuses it looks at the rows before it, at its number, where the first counts as 1, and at the row.
pub record IsFirstFault {R F : Type 0} (AreSound : List R → Type 0) (Refuses : List R → ℕ → R → F → Type 0) (rows : List R) (fault : F) : Type 0 where
  pub before : List R
  pub row : R
  pub after : List R
  pub split : rows ≡ before ++ row ∷ after
  pub sound : AreSound before
  pub refused : Refuses before (length before + 1) row fault

-- the first row is not the header, or there is none
abbrev pub HasNoHeader : {R : Type 0} → (header : R) → List R → Type 0
HasNoHeader {R} header rows = (below : List R) → ¬ (rows ≡ header ∷ below)

-- What a table is refused for: its header, which has a fault of its own, or else the first of the rows below it.
abbrev pub IsFaultOfTable : {R F : Type 0} (header : R) → (headless : F) → (AreSound : List R → Type 0) → (Refuses : List R → ℕ → R → F → Type 0) → List R → F → Type 0
IsFaultOfTable {R} header headless AreSound Refuses rows fault =
    ((fault ≡ headless) × HasNoHeader header rows) ⊎ ((below : List R) × (rows ≡ header ∷ below) × IsFirstFault AreSound Refuses below fault)
