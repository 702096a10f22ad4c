-- Texts that are kept in files: whole, or not at all. `keeps path file` says that a path has a file of these bytes, or
-- none.
use Rattle.std.specs.Prelude.{ℕ, ◌⊎◌, List, None, Option, Some, ⊤}
use Rattle.std.specs.Io.KnownBytes.{Appends, Keeps}

-- What the system keeps under a path no contract can say.
abbrev pub in_any_file : List ℕ → Option (List ℕ) → Type 0
in_any_file path file = ⊤

-- Nor which paths of the system have one file.
abbrev pub of_any_file : (path other : List ℕ) → Type 0
of_any_file path other = ⊤

-- what a path had it has still
abbrev pub IsLeft : (old new : Option (List ℕ) → Type 0) → Type 0
IsLeft old new = (file : Option (List ℕ)) → old file → new file

-- or it has a whole text for which this holds
abbrev pub IsLeftOrHas : (old new : Option (List ℕ) → Type 0) → (List ℕ → Type 0) → Type 0
IsLeftOrHas old new Answers = IsLeft old new ⊎ ((text : List ℕ) × new (Some text) × Answers text)

-- or it has the whole of a draft with these contents, whose text stands behind what a new draft has
abbrev pub IsLeftOrWhole : (blank contents : Option (List ℕ)) → (old new : Option (List ℕ) → Type 0) → Type 0
IsLeftOrWhole blank contents old new = (text : List ℕ) → Appends blank contents text → IsLeft old new ⊎ new (Some text)

-- The text went to where it was to go: to the output, or under this path, where one is named, and then not to the
-- output.
abbrev pub IsPut : (path : Option (List ℕ)) → (keeps : List ℕ → Option (List ℕ) → Type 0)
    → (before after : Option (List ℕ)) → List ℕ → Type 0
IsPut None keeps before after text = Appends before after text
IsPut (Some path) keeps before after text = keeps path (Some text) × Keeps before after
