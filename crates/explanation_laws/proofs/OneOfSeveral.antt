-- Inputs that are read in order are refused for one fault, where each is.
use Rattle.std.proofs.Common.{◌≡◌, ◌∙◌, ℕ, List, ap, inl, inr, subst, sym}
use Rattle.csv_table.specs.RowTable.{IsFaultOf, IsTable, TableRules}
use Rattle.csv_table.proofs.ItemWalks.{no_fault, one_table}
use Rattle.run_inputs.specs.Inputs.{ThisOrLater}
use Rattle.explanation_laws.proofs.TableFaults.{HaveOneFault, IsItsFault, one_fault}

-- the one at hand has one fault, and none where it was read; and so has a later one
pub one_of_these : {A V : Type 0} (IsOfThis : V → Type 0) (IsReadAs : A → Type 0) (IsOfLater : A → V → Type 0) (a b : V)
    → (IsOfThis a → IsOfThis b → a ≡ b) → ((read : A) → IsReadAs read → ¬ IsOfThis a) → ((read : A) → IsReadAs read → ¬ IsOfThis b)
    → ((read other : A) → IsReadAs read → IsReadAs other → IsOfLater read a → IsOfLater other b → a ≡ b)
    → ThisOrLater IsOfThis IsReadAs IsOfLater a → ThisOrLater IsOfThis IsReadAs IsOfLater b → a ≡ b
one_of_these IsOfThis IsReadAs IsOfLater a b this first other later (inl is) (inl also) = this is also
one_of_these IsOfThis IsReadAs IsOfLater a b this first other later (inl is) (inr (read, are, _)) = absurd (first read are is)
one_of_these IsOfThis IsReadAs IsOfLater a b this first other later (inr (read, are, _)) (inl also) = absurd (other read are also)
one_of_these IsOfThis IsReadAs IsOfLater a b this first other later (inr (read, are, is)) (inr (again, were, also)) = later read again are were is also

-- a fault of an input as it is to a run, but for lack of memory
module _ {F V : Type 0} (as_fault : F → V) (memory : F) (IsOwn : F → Type 0) where
  abbrev IsAs : V → Type 0
  IsAs fault = (own : F) × IsOwn own × (fault ≡ as_fault own)

  -- is one, where it is to the input
  pub one_as : ((a b : F) → IsOwn a → IsOwn b → ¬ (a ≡ memory) → ¬ (b ≡ memory) → a ≡ b) → (a b : V) → ¬ (a ≡ as_fault memory) → ¬ (b ≡ as_fault memory) → IsAs a → IsAs b → a ≡ b
  one_as once a b some other (own, of, is) (its, also, are) =
      is ∙ (ap as_fault (once own its of also (λ memory. some (is ∙ ap as_fault memory)) (λ memory. other (are ∙ ap as_fault memory))) ∙ sym are)

  -- and none, where the input has none
  pub none_as : ((own : F) → IsOwn own → own ≡ memory) → (fault : V) → ¬ (fault ≡ as_fault memory) → ¬ IsAs fault
  none_as none fault some (own, of, is) = some (is ∙ ap as_fault (none own of))

-- a table has one fault, and so has what is read behind it
pub one_of_table_or_later : {X F V : Type 0} (rules : TableRules X F) (have : HaveOneFault rules) (as_fault : F → V) (rows : List (List (List ℕ))) (IsOfLater : List X → V → Type 0) (a b : V)
    → ¬ (a ≡ as_fault rules.memory) → ¬ (b ≡ as_fault rules.memory) → ((items : List X) → IsOfLater items a → IsOfLater items b → a ≡ b)
    → ThisOrLater (IsItsFault rules as_fault rows) (IsTable rules rows) IsOfLater a → ThisOrLater (IsItsFault rules as_fault rows) (IsTable rules rows) IsOfLater b → a ≡ b
one_of_table_or_later {X} {F} {V} rules have as_fault rows IsOfLater a b some other later =
    one_of_these (IsItsFault rules as_fault rows) (IsTable rules rows) IsOfLater a b
    (one_as as_fault rules.memory (IsFaultOf rules rows) (one_fault rules have rows) a b some other)
    (none a some) (none b other)
    (λ items again are were is. later again (subst (λ (l : List X). IsOfLater l a) (one_table rules rows items again are were) is))
  where
    none : (fault : V) → ¬ (fault ≡ as_fault rules.memory) → (items : List X) → IsTable rules rows items → ¬ IsItsFault rules as_fault rows fault
    none fault is items are = none_as as_fault rules.memory (IsFaultOf rules rows) (λ own. no_fault rules have.apart rows items own are) fault is
