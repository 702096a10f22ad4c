-- What a look-up in a table of values finds.
use Rattle.std.proofs.Common.{◌≡◌, ◌∙◌, ℕ, List, Option, nat_eq, sym}
use Rattle.std.specs.Map.{lookup}
use Rattle.std.specs.Cmp.Lexicographic.{pointwise}
use Rattle.cwr_share.proofs.PayeeLemmas.{looked_up}
use Rattle.value_maps.specs.Maps.{value_of}

-- it is what the value becomes
pub value_found : (rows others : List (List ℕ × List ℕ)) (from : List ℕ) (found : Option (List ℕ)) → rows ≡ others
    → found ≡ lookup (λ other. pointwise nat_eq from other) rows → value_of others from ≡ found
value_found rows others from found same is = rw (← same) (sym (is ∙ looked_up rows from))
