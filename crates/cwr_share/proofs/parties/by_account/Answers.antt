use Rattle.std.proofs.Common.{◌≡◌, ◌∙◌, ◌∷◌, ◌++◌, [], ℕ, List, Vec, Global, map, ap, sym, subst, refl}
use Rattle.std.specs.List.Sorted.{IsStrictlySortedBy}
use Rattle.std.specs.Cmp.Lexicographic.{slice_cmp}
use Rattle.std.specs.Ordering.{nat_cmp}
use Rattle.std.proofs.lemmas.List.{map-append, map-id}
use Rattle.std.proofs.lemmas.Iterator.Adapters.{fact_from_extend}
use Rattle.std.proofs.lemmas.Iterator.Consumers.{YieldsList-from_rest}
use Rattle.cwr_share.specs.Parties.{texts_of}
use Rattle.cwr_share.proofs.PartyLemmas.{rising_from_empty, rising_texts}
use Rattle.cwr_share.proofs.parties.by_account.Goals as goal

module _ (c : goal.In_ok-extend) where
  abbrev texts : List (Vec ℕ Global) → List (List ℕ)
  texts payees = map (λ payee. payee.items) payees

  extended : c.extend.new.self.items ≡ c.push.new.self.items ++ c.args.found.keys
  extended = rw c.in_ok-extend.was at (fact_from_extend (λ x. x) c.extend.result c.extend.ensures.ran (λ it b. YieldsList-from_rest c.args.found.keys b.0)
      (λ xs same gives. gives.0 ∙ ap (λ (xs : List (Vec ℕ Global)). c.push.new.self.items ++ xs) (sym (map-id xs) ∙ same)))

  first : texts c.push.new.self.items ≡ [] ∷ []
  first = rw (c.in_ok-push.ensures.items, c.new-payees.ensures.items, c.new.ensures.items) refl

pub returns-clause-payees : goal.returns-clause-payees
returns-clause-payees c =
    ap (texts c) (extended c) ∙ map-append (λ (payee : Vec ℕ Global). payee.items) c.push.new.self.items c.args.found.keys ∙ ap (λ (texts : List (List ℕ)). texts ++ texts_of c.args.found) (first c)

pub returns-clause-rising : goal.returns-clause-rising
returns-clause-rising c =
    subst (IsStrictlySortedBy (slice_cmp nat_cmp)) (sym (returns-clause-payees c))
    (rising_from_empty (texts_of c.args.found) (rising_texts (λ (payee : Vec ℕ Global). payee.items) c.args.found.keys c.extend.ensures.ran.2.4) c.requires)
