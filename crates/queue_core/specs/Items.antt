-- What is sent: posts, and an end mark; and lists of them.
use Rattle.std.specs.Prelude.{unsigned_abs, ◌≡◌, ◌<◌, ◌≤◌, Bool, List, false, length, take, true}
use Rattle.queue_core.specs.declared.item.Item.{Item}
use Rattle.queue_core.specs.declared.item.Item.TheVariants.{Post, End}

abbrev pub is_end : Item → Bool
is_end (Post line amount) = false
is_end End = true

-- the line and the amount of a post are within their limits
abbrev pub IsInRange : Item → Type 0
IsInRange (Post line amount) = (line ≤ 999999) × (0 < unsigned_abs amount) × (unsigned_abs amount ≤ 1000000000000)
IsInRange End = Unit {0}

-- the list is the first part of the other
abbrev pub IsFirstOf : List Item → List Item → Type 0
IsFirstOf part whole = take (length part) whole ≡ part
