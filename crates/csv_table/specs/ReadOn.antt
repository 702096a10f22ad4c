-- Reading on: where a row, or a line, is refused it is left out, and reading goes on with the next one.
use Rattle.std.specs.Prelude.{ℕ, ◌≡◌, ◌+◌, ◌⊎◌, ◌∷◌, List, [], drop}
use Rattle.csv_table.specs.FirstFault.{HasNoHeader}

-- By the next rows, of which the first has a number, from one state to another: the rows that are left out, each with what it is refused for, and the rows to come.
-- Of a row it is said what state it leads to, what it is refused for, and whether it ends reading.
pub data ReadsOn {S R F : Type 0} (Reads : S → R → S → Type 0) (Refuses : S → ℕ → R → F → Type 0) (Stops : S → R → F → Type 0)
    : S → ℕ → List R → List (R × F) → S → ℕ → List R → Type 0 where
  here : (state : S) (number : ℕ) (rows : List R) → ReadsOn Reads Refuses Stops state number rows [] state number rows
  read : (state next last : S) (number end : ℕ) (row : R) (rows left : List R) (out : List (R × F))
      → Reads state row next → ReadsOn Reads Refuses Stops next (number + 1) rows out last end left
      → ReadsOn Reads Refuses Stops state number (row ∷ rows) out last end left
  left_out : (state last : S) (number end : ℕ) (row : R) (fault : F) (rows left : List R) (out : List (R × F))
      → Refuses state number row fault → ReadsOn Reads Refuses Stops state (number + 1) rows out last end left
      → ReadsOn Reads Refuses Stops state number (row ∷ rows) ((row, fault) ∷ out) last end left
  stopped : (state : S) (number : ℕ) (row : R) (fault : F) (rows : List R)
      → Stops state row fault → ReadsOn Reads Refuses Stops state number (row ∷ rows) ((row, fault) ∷ []) state number []

-- A table is read whole: its rows below the header, from a state to another.
-- Where its first row is not the header, or there is none, that is a fault of its own, without fields, and the rows below it are read.
pub record ReadsTable {S F : Type 0} (Reads : S → List (List ℕ) → S → Type 0) (Refuses : S → ℕ → List (List ℕ) → F → Type 0) (Stops : S → List (List ℕ) → F → Type 0)
    (header : List (List ℕ)) (headless : F) (first : S) (rows : List (List (List ℕ))) (out : List (List (List ℕ) × F)) (last : S) : Type 0 where
  pub below : List (List (List ℕ) × F)
  pub headed : ((rest : List (List (List ℕ))) × (rows ≡ header ∷ rest) × (out ≡ below))
      ⊎ (HasNoHeader header rows × (out ≡ ([], headless) ∷ below))
  pub end : ℕ
  pub read : ReadsOn Reads Refuses Stops first 1 (drop 1 rows) below last end []
