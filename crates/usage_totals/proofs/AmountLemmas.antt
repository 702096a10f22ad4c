-- The lines that have an amount, one after another.
use Rattle.std.proofs.Common.{◌≡◌, ◌∙◌, ◌+◌, ◌<◌, ◌++◌, ◌∷◌, [], ℕ, ℤ, Bool, true, false, List, None, Option, Some, ap, cond, filter, get_or, length, map, refl, sym, take}
use Rattle.std.proofs.lemmas.List.{get_or-map, map_push}
use Rattle.std.proofs.lemmas.Option.{cond_some}
use Rattle.line_split.specs.UsageLine.{UsageLine}
use Rattle.usage_totals.specs.SoFar.{picked, with_amount}
use Rattle.usage_totals.proofs.TotalLemmas.{kept_more, left_more}

module _ (counts : UsageLine → Bool) (amount : UsageLine → ℤ) (amounts : List (Option ℤ)) (lines : List UsageLine) (place : ℕ) (line : UsageLine)
    (is : amounts ≡ map (picked counts amount) lines) (below : place < length lines) (at : get_or lines place line ≡ line) (d : Option ℤ) where
  read : get_or amounts place d ≡ picked counts amount line
  read = ap (λ (l : List (Option ℤ)). get_or l place d) is ∙ get_or-map (picked counts amount) lines place line d below ∙ ap (picked counts amount) at

  -- a line that has one
  pub one_more : (a : ℤ) (listed : List (UsageLine × ℤ)) → get_or amounts place d ≡ Some a → listed ≡ map (with_amount amount) (filter counts (take place lines))
      → listed ++ (line, a) ∷ [] ≡ map (with_amount amount) (filter counts (take (place + 1) lines))
  one_more a listed told so_far =
      let (passes, same) = cond_some (counts line) (amount line) a (sym read ∙ told) in
      (λ i. so_far i ++ (line, sym same i) ∷ [])
      ∙ sym (map_push (with_amount amount) (filter counts (take place lines)) line)
      ∙ ap (map (with_amount amount)) (sym (kept_more counts lines place line below at passes))

  -- and one that has none
  pub none_more : (listed : List (UsageLine × ℤ)) → ((a : ℤ) → get_or amounts place d ≡ Some a → ⊥) → listed ≡ map (with_amount amount) (filter counts (take place lines))
      → listed ≡ map (with_amount amount) (filter counts (take (place + 1) lines))
  none_more listed told so_far = so_far ∙ ap (map (with_amount amount)) (sym (left_more counts lines place line below at (fails (counts line) refl)))
    where
      fails : (b : Bool) → counts line ≡ b → counts line ≡ false
      fails true passes = absurd (told (amount line) (read ∙ ap (λ (c : Bool). cond c (Some (amount line)) None) passes))
      fails false passes = passes
