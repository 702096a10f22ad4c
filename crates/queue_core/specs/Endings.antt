-- Lists that an end mark closes.
use Rattle.std.specs.Prelude.{◌≡◌, ◌++◌, ◌∷◌, [], List, false, true}
use Rattle.std.specs.List.{list_any}
use Rattle.queue_core.specs.declared.item.Item.{Item}
use Rattle.queue_core.specs.declared.item.Item.TheVariants.{End}
use Rattle.queue_core.specs.Items.{is_end}

-- an end mark is among them
abbrev pub HasEnd : List Item → Type 0
HasEnd items = list_any is_end items ≡ true

-- items without an end mark, and then one
abbrev pub IsClosed : List Item → Type 0
IsClosed items = (posts : List Item) × (list_any is_end posts ≡ false) × (items ≡ posts ++ End ∷ [])
