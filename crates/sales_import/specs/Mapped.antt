-- What the words of a mapping say, by the header of an export, if it has one.
use Rattle.std.specs.Prelude.{ℕ, ◌≡◌, ◌++◌, ◌∷◌, [], List, Option, length, map}
use Rattle.std.specs.Prelude.{option_map, string_bytes, ⊤}
use Rattle.sales_lines.specs.Columns.{IsSourceOf, IsWordFault}
use Rattle.sales_lines.specs.declared.column_fault.ColumnFault.{ColumnFault}
use Rattle.sales_lines.specs.declared.settings.Condition.{Condition}
use Rattle.sales_lines.specs.declared.settings.Settings.{Settings}
use Rattle.sales_lines.specs.declared.source.Source.{Source}
use Rattle.sales_import.specs.declared.import_fault.ImportFault.{ImportFault}
use Rattle.sales_import.specs.declared.import_fault.ImportFault.TheVariants.{Column, Memory}
use Rattle.sales_import.specs.declared.mapping.Mapping.{Mapping}
use Rattle.sales_import.specs.declared.mapping.Maps.{Maps}
use Rattle.sales_import.specs.declared.mapping.Wanted.{Wanted}

-- the header of an export, as far as it has one
abbrev pub Header : Type 0
Header = Option (List (List ℕ))

-- these words say that values stand there
abbrev pub AreSources : Header → (words : List (List ℕ)) → List Source → Type 0
AreSources header [] [] = ⊤
AreSources header (word ∷ words) (source ∷ sources) = IsSourceOf header word source × AreSources header words sources
AreSources header _ _ = ⊥

-- what has to hold of a row to be kept
abbrev pub IsConditionOf : Header → Wanted → Condition → Type 0
IsConditionOf header wanted condition =
    IsSourceOf header (string_bytes wanted.column) condition.source × (condition.text.items ≡ string_bytes wanted.text)

abbrev pub AreConditions : Header → List Wanted → List Condition → Type 0
AreConditions header [] [] = ⊤
AreConditions header (wanted ∷ others) (condition ∷ conditions) =
    IsConditionOf header wanted condition × AreConditions header others conditions
AreConditions header _ _ = ⊥

-- The settings are those of the words, of the header and of the tables.
pub record AreSettings (mapping : Mapping) (maps : Maps) (header : Header) (settings : Settings) : Type 0 where
  pub width : settings.width ≡ option_map (λ fields. length fields) header
  pub conditions : AreConditions header mapping.wanted.items settings.conditions.items
  pub usage : AreSources header (map string_bytes mapping.usage.items) settings.usage.items
  pub work : IsSourceOf header (string_bytes mapping.work) settings.work
  pub territory : IsSourceOf header (string_bytes mapping.territory) settings.territory
  pub right : IsSourceOf header (string_bytes mapping.right) settings.right
  pub amount : IsSourceOf header (string_bytes mapping.amount) settings.amount
  pub works : settings.works ≡ maps.works
  pub territories : settings.territories ≡ maps.territories
  pub rights : settings.rights ≡ maps.rights
  pub mark : settings.mark ≡ mapping.mark
  pub places : settings.places ≡ mapping.places

-- ---- words that say nothing

-- memory ran out, or this is what is wrong with a word
abbrev pub IsFaultOfWord : Header → (word : List ℕ) → ImportFault → Type 0
IsFaultOfWord header word (Column fault named) = (string_bytes named ≡ word) × IsWordFault header word fault
IsFaultOfWord header word Memory = ⊤
IsFaultOfWord header word _ = ⊥

-- This word says nothing, and each before it says where a value stands.
pub record IsFirstFault (header : Header) (words : List (List ℕ)) (fault : ColumnFault) (word : List ℕ) : Type 0 where
  pub before : List (List ℕ)
  pub after : List (List ℕ)
  pub sources : List Source
  pub is : words ≡ before ++ word ∷ after
  pub read : AreSources header before sources
  pub at_fault : IsWordFault header word fault

-- memory ran out, or this is what is wrong with the first of these words that says nothing
abbrev pub IsFaultAmong : Header → (words : List (List ℕ)) → ImportFault → Type 0
IsFaultAmong header words (Column fault named) = IsFirstFault header words fault (string_bytes named)
IsFaultAmong header words Memory = ⊤
IsFaultAmong header words _ = ⊥

abbrev pub columns_wanted : List Wanted → List (List ℕ)
columns_wanted = map (λ wanted. string_bytes wanted.column)

-- all words of a mapping that say where a value stands, in the order in which they are looked up
abbrev pub words_of_mapping : Mapping → List (List ℕ)
words_of_mapping mapping = map string_bytes mapping.usage.items
    ++ (string_bytes mapping.work ∷ string_bytes mapping.territory ∷ string_bytes mapping.right
    ∷ string_bytes mapping.amount ∷ columns_wanted mapping.wanted.items)

abbrev pub IsMappingFault : Mapping → Header → ImportFault → Type 0
IsMappingFault mapping header = IsFaultAmong header (words_of_mapping mapping)
