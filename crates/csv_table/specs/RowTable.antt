-- A table whose rows are read one by one: a header, and below it rows, each of which is an item.
-- Rows count from 0, the header's.
use Rattle.std.specs.Prelude.{ℕ, ◌≡◌, ◌≤◌, ◌<◌, ◌⊎◌, ◌++◌, ◌∷◌, [], Bool, List, length, map}
use Rattle.csv_table.specs.FirstFault.{AreInTurn, IsFaultOfTable, IsFirstFault}
use Rattle.csv_table.specs.ReadOn.{ReadsOn, ReadsTable}

-- What a table asks of its rows. Its items are of type X, its faults of type F.
pub record TableRules (X F : Type 0) : Type 1 where
  -- the first row
  pub header : List (List ℕ)
  -- the most rows that may stand below it
  pub most : ℕ
  -- the row is an item, below the items of the earlier rows
  pub IsRow : (earlier : List X) → List (List ℕ) → Type 0
  -- the item that it is
  pub item_of : List (List ℕ) → X
  -- the row is refused for this fault, which may have the row's number
  pub Refuses : (earlier : List X) → (number : ℕ) → List (List ℕ) → F → Type 0
  -- the fault of a text whose first row is not the header
  pub headless : F
  -- that of a text with more rows than the most
  pub too_many : F
  -- and lack of memory
  pub memory : F

-- ---- a table that is read whole, or refused

-- rows below a header are items, each below those before it
abbrev pub AreSound : {X F : Type 0} → TableRules X F → List (List (List ℕ)) → Type 0
AreSound rules rows = AreInTurn (λ before. rules.IsRow (map rules.item_of before)) rows

-- they are these items, and no more than a table may have
pub record AreItems {X F : Type 0} (rules : TableRules X F) (rows : List (List (List ℕ))) (items : List X)
    : Type 0 where
  pub few : length rows ≤ rules.most
  pub sound : AreSound rules rows
  pub same : items ≡ map rules.item_of rows

-- the rows are the table of these items
pub record IsTable {X F : Type 0} (rules : TableRules X F) (rows : List (List (List ℕ))) (items : List X) : Type 0 where
  pub below : List (List (List ℕ))
  pub headed : rows ≡ rules.header ∷ below
  pub are : AreItems rules below items

-- what a row is refused for, by the rows before it: as many as a table may have are there, or else what is in the row
abbrev pub IsRefused : {X F : Type 0} → TableRules X F → (before : List (List (List ℕ))) → (number : ℕ)
    → List (List ℕ) → F → Type 0
IsRefused rules before number row fault =
    ((rules.most ≤ length before) × (fault ≡ rules.too_many))
    ⊎ ((length before < rules.most) × rules.Refuses (map rules.item_of before) number row fault)

-- What rows below a header are refused for: memory, or else the first that is no item. Memory may run out at any row.
abbrev pub IsFaultIn : {X F : Type 0} → TableRules X F → List (List (List ℕ)) → F → Type 0
IsFaultIn rules rows fault = (fault ≡ rules.memory) ⊎ IsFirstFault (AreSound rules) (IsRefused rules) rows fault

-- What a table is refused for: its header, or else the first row that is no item. Memory may run out at any row, the
-- header's too.
abbrev pub IsFaultOf : {X F : Type 0} → TableRules X F → List (List (List ℕ)) → F → Type 0
IsFaultOf rules rows fault =
    (fault ≡ rules.memory) ⊎ IsFaultOfTable rules.header rules.headless (AreSound rules) (IsRefused rules) rows fault

-- ---- a table that is read on past the rows that are refused

-- a row is one item more
abbrev pub Reads : {X F : Type 0} → TableRules X F → List X → List (List ℕ) → List X → Type 0
Reads rules items row next =
    (length items < rules.most) × rules.IsRow items row × (next ≡ items ++ rules.item_of row ∷ [])

-- a row is left out
abbrev pub LeavesOut : {X F : Type 0} → TableRules X F → List X → ℕ → List (List ℕ) → F → Type 0
LeavesOut rules items number row fault = (length items < rules.most) × rules.Refuses items number row fault

-- there are as many items as a table may have, and one row more
abbrev pub Stops : {X F : Type 0} → TableRules X F → List X → List (List ℕ) → F → Type 0
Stops rules items row fault = (fault ≡ rules.too_many) × (rules.most ≤ length items)

-- where a reader stands
pub record Reading (T : Type 0) : Type 0 where
  -- the row at hand
  pub row : List (List ℕ)
  -- the number of the next row, and the rows to come
  pub number : ℕ
  pub left : List (List (List ℕ))
  -- the first row is the header
  pub is_headed : Bool
  -- what was read
  pub table : T

-- from one place to another these rows are left out, by the items that a table has
abbrev pub HasReadOn : {T X F : Type 0} → TableRules X F → (T → List X) → Reading T → List (List (List ℕ) × F)
    → Reading T → Type 0
HasReadOn rules items_of from out to =
    ReadsOn (Reads rules) (LeavesOut rules) (Stops rules)
    (items_of from.table) from.number from.left out (items_of to.table) to.number to.left

-- The rows that are left out of a text, each with what it is refused for, and the items of those that are read.
abbrev pub IsReadWithout : {X F : Type 0} → TableRules X F → List (List (List ℕ)) → List (List (List ℕ) × F) → List X
    → Type 0
IsReadWithout rules rows out items =
    ReadsTable (Reads rules) (LeavesOut rules) (Stops rules) rules.header rules.headless [] rows out items
