-- How many senders of a receiver were not taken in.
use Rattle.std.specs.Prelude.{ℕ, ◌+◌, List, None, Option, Some, suc, zero}
use Rattle.queue_core.specs.declared.item.Item.{Item}
use Rattle.mail_box.specs.Mails.{ReceiverView}

-- one for a sender of which no list is known
abbrev pub one_if_unknown : Option (List Item) → ℕ
one_if_unknown None = 1
one_if_unknown (Some sent) = 0

-- how many of the first so many senders have no list
abbrev pub unknown_below : ℕ → (ℕ → Option (List Item)) → ℕ
unknown_below zero known = 0
unknown_below (suc n) known = unknown_below n known + one_if_unknown (known n)

-- how many senders were not taken in
abbrev pub awaited_in : {Name : Type 0} → ReceiverView Name → ℕ
awaited_in r = unknown_below r.senders r.known
