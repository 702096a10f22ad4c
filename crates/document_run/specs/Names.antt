-- The names of accounts in a run over the files of several submitters. `holds place bytes` says that the file of a
-- place among the submitters holds these bytes, and `refuses place` that it cannot be read.
use Rattle.std.specs.Prelude.{ℕ, ◌≡◌, ◌<◌, ◌∷◌, [], List, None, Option, Some, Vec}
use Rattle.std.specs.Prelude.{drop, length, map, slice_index_or, zip}
use Rattle.std.specs.List.{find}
use Rattle.std.specs.Option.{option_map_or}
use Rattle.std.specs.declared.alloc.Global.{Global}
use Rattle.csv_table.specs.Table.{rows_of}
use Rattle.cwr_share.specs.Lines.{lines_of}
use Rattle.document_names.specs.FirstTexts.{first_text, is_said}
use Rattle.document_names.specs.Payees.{name_in, names_in_rows, party_behind}
use Rattle.submitted_inputs.specs.declared.fault.SubmittedFault.{SubmittedFault}
use Rattle.submitted_inputs.specs.declared.fault.SubmittedFault.TheVariants.{Unreadable}

-- texts, as they are kept
abbrev pub items_of : Vec (Vec ℕ Global) Global → List (List ℕ)
items_of texts = map (λ text. text.items) texts.items

-- the first of some texts that says something; else nothing
abbrev pub first_said : List (List ℕ) → List ℕ
first_said texts = option_map_or (λ text. text) (find is_said texts) []

-- the names that a table of payees has for accounts, where there is one
abbrev pub names_by_table : Option (List ℕ) → (accounts : List (List ℕ)) → List (List ℕ)
names_by_table None accounts = map (λ _. []) accounts
names_by_table (Some table) accounts = map (first_text (names_in_rows (drop 1 (rows_of table)))) accounts

-- what a submitter's file has for the party that an account is, where it is one of this submitter
abbrev pub party_name : (account submitter file : List ℕ) → List ℕ
party_name account submitter file = option_map_or (name_in (lines_of file)) (party_behind submitter account) []

-- an account's name, which it may have already; else the first that the files of submitters have
abbrev pub name_among : (submitters files : List (List ℕ)) → (account name : List ℕ) → List ℕ
name_among submitters files account name =
    first_said (name ∷ map (λ e. party_name account e.0 e.1) (zip submitters files))

-- the files of the submitters hold these bytes, in their order
pub record AreHeld (holds : ℕ → List ℕ → Type 0) (count : ℕ) (files : List (List ℕ)) : Type 0 where
  pub all : length files ≡ count
  pub each : (place : ℕ) → place < count → holds place (slice_index_or files place [])

-- Accounts have these names, of which some were known before: the others are those that the files of submitters have.
pub record AreNamesOf (submitters : List (List ℕ)) (holds : ℕ → List ℕ → Type 0) (accounts known names : List (List ℕ))
    : Type 0 where
  pub files : List (List ℕ)
  pub held : AreHeld holds (length submitters) files
  pub names_are : names ≡ map (λ e. name_among submitters files e.0 e.1) (zip accounts known)

-- a file of these submitters cannot be read
abbrev pub IsUnreadable : (refuses : ℕ → Type 0) → (count : ℕ) → SubmittedFault → Type 0
IsUnreadable refuses count (Unreadable place) = (place < count) × refuses place
IsUnreadable refuses count _ = ⊥
