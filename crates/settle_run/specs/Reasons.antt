-- Reasons of usage lines that are looked for, posting by posting of the residue.
use Rattle.std.specs.Prelude.{ℕ, ℤ, pos, ◌≡◌, ◌+◌, All, IfSome, List, None, Option, get_or}
use Rattle.line_split.specs.declared.reason.Reason.{Reason}
use Rattle.line_split.specs.declared.reason.Reason.TheVariants.{Open}

-- nothing is known yet
abbrev pub AreUnknown : List (Option Reason) → Type 0
AreUnknown found = All (λ reason. reason ≡ None) found

-- Of postings from a place on, what was found is the reason of the line. `reasons` has those of all lines.
abbrev pub AreFound : (reasons : List Reason) → (residue : List (ℕ × ℤ)) → (from : ℕ) → (found : List (Option Reason)) → Type 0
AreFound reasons residue from found = (k : ℕ) → IfSome (get_or found k None) (λ reason. reason ≡ get_or reasons (get_or residue (from + k) (0, pos 0)).0 Open)

-- The reasons of the lines that leave these postings are found. `reasons` has those of all lines.
abbrev pub AreReasonsFor : (reasons : List Reason) → (residue : List (ℕ × ℤ)) → (found : List Reason) → Type 0
AreReasonsFor reasons residue found = All (λ posting. get_or found posting.0 Open ≡ get_or reasons posting.0 Open) residue
