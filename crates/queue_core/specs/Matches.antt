-- A fact for each answer of a call.
use Rattle.queue_core.specs.declared.item.Posted.{Posted}
use Rattle.queue_core.specs.declared.item.Posted.TheVariants.{Sent, Full}
use Rattle.queue_core.specs.declared.item.Took.{Took}
use Rattle.queue_core.specs.declared.item.Took.TheVariants.{Held, Empty, Busy}

abbrev pub MatchPosted : Posted → Type 0 → Type 0 → Type 0
MatchPosted Sent sent full = sent
MatchPosted Full sent full = full

abbrev pub MatchTook : {H : Type 0} → Took H → (H → Type 0) → Type 0 → Type 0 → Type 0
MatchTook (Held h) held empty busy = held h
MatchTook Empty held empty busy = empty
MatchTook Busy held empty busy = busy
