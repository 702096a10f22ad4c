-- Names of submitters that all differ, and one more.
use Rattle.std.proofs.Common.{◌≡◌, ◌∙◌, ◌<◌, ◌∷◌, ◌++◌, [], ℕ, List, Contains, get_or, length}
use Rattle.std.proofs.lemmas.List.{get_or_default}
use Rattle.std.proofs.lemmas.List.Elements.{All-push}
use Rattle.std.proofs.lemmas.List.Quantifiers.{all_pairs_push}
use Rattle.linked_works.specs.Submitters.{AreSubmitters, IsSubmitter}

module _ (names : List (List ℕ)) (name : List ℕ) (new : (place : ℕ) → place < length names → ¬ (get_or names place [] ≡ name)) where
  pub not_among : ¬ Contains names name
  not_among (k, within, at) = new k within (get_or_default names k [] name within ∙ at)

  pub one_more : AreSubmitters names → IsSubmitter name → AreSubmitters (names ++ name ∷ [])
  one_more are is = record {
    each = All-push IsSubmitter names name are.each is;
    once = all_pairs_push (λ name later. ¬ (name ≡ later)) names name are.once (λ k d within same. new k within (get_or_default names k [] d within ∙ same));
  }
