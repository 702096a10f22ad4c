-- What becomes of a row of a sales report.
use Rattle.std.specs.Prelude.{ℕ, ℤ, ◌≡◌, ◌⊎◌, ◌++◌, ◌∷◌, [], All, List, None, Option, Some, IfSome, flat_map, length, ⊤}
use Rattle.csv_table.specs.Forms.{IsPrintable}
use Rattle.line_split.specs.declared.TheConstants.{MOST_TEXT_BYTES}
use Rattle.decimal_amounts.specs.Decimals.{IsAmount, IsFaultOf}
use Rattle.decimal_amounts.specs.declared.amount.AmountFault.{AmountFault}
use Rattle.export_rows.specs.Places.{HasLineBreak, IsBlank}
use Rattle.value_maps.specs.Maps.{IsValue, Values, value_of}
use Rattle.value_maps.specs.declared.kind.Kind.{Kind}
use Rattle.value_maps.specs.declared.kind.Kind.TheVariants.{Works, Territories, Rights}
use Rattle.sales_lines.specs.declared.outcome.Outcome.{Outcome}
use Rattle.sales_lines.specs.declared.outcome.Outcome.TheVariants.{Passed, Rejected, Line}
use Rattle.sales_lines.specs.declared.outcome.SalesLine.{SalesLine}
use Rattle.sales_lines.specs.declared.reason.Reason.{Reason}
use Rattle.sales_lines.specs.declared.reason.Reason.TheVariants.{Broken, Fields, Usage, Unknown, Unfit, Amount}
use Rattle.sales_lines.specs.declared.settings.Condition.{Condition}
use Rattle.sales_lines.specs.declared.settings.Settings.{Settings}
use Rattle.sales_lines.specs.declared.source.Source.{Source}
use Rattle.sales_lines.specs.Sources.{IsThere, text_from}

-- ---- which rows count

-- a row has as many fields as a header says
abbrev pub IsWide : Settings → List (List ℕ) → Type 0
IsWide settings row = IfSome settings.width (λ width. length row ≡ width)

-- a condition holds of it
abbrev pub Holds : (row : List (List ℕ)) → Condition → Type 0
Holds row condition = IsThere row condition.source × (text_from condition.source row ≡ condition.text.items)

-- It is blank, or it is whole and not one of those that are kept. In a row with a field too many or too few the fields of
-- conditions may be others, and so may they be in one that a quote made of several.
abbrev pub IsPassedOver : Settings → List (List ℕ) → Type 0
IsPassedOver settings row = IsBlank row
    ⊎ ((¬ HasLineBreak row) × IsWide settings row × (¬ All (Holds row) settings.conditions.items))

-- ---- its values

-- it has as many fields as a header says, and those that are asked for
pub record HasFields (settings : Settings) (row : List (List ℕ)) : Type 0 where
  pub wide : IsWide settings row
  pub usage : All (IsThere row) settings.usage.items
  pub work : IsThere row settings.work
  pub territory : IsThere row settings.territory
  pub right : IsThere row settings.right
  pub amount : IsThere row settings.amount

-- what its use is called: the values that are asked for, with `-` between them
abbrev pub usage_of : List Source → (row : List (List ℕ)) → List ℕ
usage_of [] row = []
usage_of (first ∷ others) row = text_from first row ++ flat_map (λ other. 45 ∷ text_from other row) others

abbrev pub usage_in : Settings → List (List ℕ) → List ℕ
usage_in settings row = usage_of settings.usage.items row

abbrev pub IsNamed : Settings → List (List ℕ) → Type 0
IsNamed settings row = IsPrintable MOST_TEXT_BYTES (usage_in settings row)

-- where a work, a territory or a right stands, and the table of what it becomes, if there is one
abbrev pub source_of : Settings → Kind → Source
source_of settings Works = settings.work
source_of settings Territories = settings.territory
source_of settings Rights = settings.right

abbrev pub map_of : Settings → Kind → Option Values
map_of settings Works = settings.works
map_of settings Territories = settings.territories
map_of settings Rights = settings.rights

-- what a text becomes, where it has a row in the table; without a table it stays as it is
abbrev pub mapped : Option Values → (text : List ℕ) → Option (List ℕ)
mapped None text = Some text
mapped (Some values) text = value_of values.rows text

abbrev pub value_in : Settings → Kind → (row : List (List ℕ)) → Option (List ℕ)
value_in settings kind row = mapped (map_of settings kind) (text_from (source_of settings kind) row)

-- a row has a work, a territory or a right
abbrev pub HasValue : Settings → (row : List (List ℕ)) → Kind → Type 0
HasValue settings row kind = (value : List ℕ) × (value_in settings kind row ≡ Some value) × IsValue kind value

-- and those that come before it in a usage line
abbrev pub HasBefore : Settings → (row : List (List ℕ)) → Kind → Type 0
HasBefore settings row Works = ⊤
HasBefore settings row Territories = HasValue settings row Works
HasBefore settings row Rights = HasValue settings row Works × HasValue settings row Territories

-- ---- what becomes of it

-- why a row has no work, territory or right
abbrev pub Lacks : Settings → Kind → (row : List (List ℕ)) → Reason → Type 0
Lacks settings kind row Broken = ⊥
Lacks settings kind row Fields = ⊥
Lacks settings kind row Usage = ⊥
Lacks settings kind row (Unknown of) = (of ≡ kind) × (value_in settings kind row ≡ None)
Lacks settings kind row (Unfit of) =
    (of ≡ kind) × (value : List ℕ) × (value_in settings kind row ≡ Some value) × (¬ IsValue kind value)
Lacks settings kind row (Amount fault) = ⊥

-- no field has a line break, and those that are asked for are there
abbrev pub IsWhole : Settings → List (List ℕ) → Type 0
IsWhole settings row = (¬ HasLineBreak row) × HasFields settings row

-- Why a row becomes no usage line: the first thing, in this order, that is wrong with it.
abbrev pub IsRejectedFor : Settings → List (List ℕ) → Reason → Type 0
IsRejectedFor settings row Broken = HasLineBreak row
IsRejectedFor settings row Fields = (¬ HasLineBreak row) × (¬ HasFields settings row)
IsRejectedFor settings row Usage = IsWhole settings row × (¬ IsNamed settings row)
IsRejectedFor settings row (Unknown kind) =
    IsWhole settings row × IsNamed settings row × HasBefore settings row kind × (value_in settings kind row ≡ None)
IsRejectedFor settings row (Unfit kind) = IsWhole settings row × IsNamed settings row × HasBefore settings row kind
    × (value : List ℕ) × (value_in settings kind row ≡ Some value) × (¬ IsValue kind value)
IsRejectedFor settings row (Amount fault) = IsWhole settings row × IsNamed settings row
    × HasBefore settings row Rights × HasValue settings row Rights
    × IsFaultOf settings.mark (text_from settings.amount row) settings.places fault

-- the line that a row becomes
pub record IsLineOf (settings : Settings) (row : List (List ℕ)) (line : SalesLine) : Type 0 where
  pub whole : IsWhole settings row
  pub usage : line.usage.now ≡ usage_in settings row
  pub named : IsNamed settings row
  pub work : (value_in settings Works row ≡ Some line.work.now) × IsValue Works line.work.now
  pub territory : (value_in settings Territories row ≡ Some line.territory.now) × IsValue Territories line.territory.now
  pub right : (value_in settings Rights row ≡ Some line.right.now) × IsValue Rights line.right.now
  pub amount : IsAmount settings.mark (text_from settings.amount row) settings.places line.amount

abbrev pub IsOutcomeOf : Settings → List (List ℕ) → Outcome → Type 0
IsOutcomeOf settings row Passed = IsPassedOver settings row
IsOutcomeOf settings row (Rejected reason) = (¬ IsPassedOver settings row) × IsRejectedFor settings row reason
IsOutcomeOf settings row (Line line) = (¬ IsPassedOver settings row) × IsLineOf settings row line

-- ---- what it counts with, whatever becomes of it

-- its amount, where it can be read: the row is whole, and the text of its amount is one
abbrev pub IsCountedWith : Settings → List (List ℕ) → Option ℤ → Type 0
IsCountedWith settings row (Some amount) = (¬ HasLineBreak row) × IsWide settings row
    × IsAmount settings.mark (text_from settings.amount row) settings.places amount
IsCountedWith settings row None = HasLineBreak row ⊎ (¬ IsWide settings row)
    ⊎ ((fault : AmountFault) × IsFaultOf settings.mark (text_from settings.amount row) settings.places fault)
