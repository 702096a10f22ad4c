-- What a table is refused for, and the rows that are left out of it where it is read on.
use Rattle.std.proofs.Common.{◌≡◌, ◌∙◌, ◌∷◌, ◌++◌, [], ℕ, List, None, Option, Some, ap, arith, inl, inr, length, length-append, map, refl, sym}
use Rattle.csv_table.specs.RowTable.{IsFaultOf, IsReadWithout, IsRefused, IsTable, TableRules}
use Rattle.csv_table.proofs.ItemWalks.{no_fault, read_up_to_a_fault, read_without_faults}
use Rattle.run_inputs.specs.Inputs.{ThisOrLater}
use Rattle.explanation_laws.specs.FirstFound.{first_of, or_later}
use Rattle.explanation_laws.proofs.FirstFaults.{one_first_fault}

-- what is asked of the rules of a table so that it has one fault
pub record HaveOneFault {X F : Type 0} (rules : TableRules X F) : Type 0 where
  -- no row that is an item is refused, and a row that is refused has one fault
  pub apart : (earlier : List X) (number : ℕ) (row : List (List ℕ)) (fault : F) → rules.IsRow earlier row → ¬ rules.Refuses earlier number row fault
  pub once : (earlier : List X) (number : ℕ) (row : List (List ℕ)) (a b : F) → rules.Refuses earlier number row a → rules.Refuses earlier number row b → a ≡ b
  -- which is not lack of memory
  pub of_row : (earlier : List X) (number : ℕ) (row : List (List ℕ)) → ¬ rules.Refuses earlier number row rules.memory
  pub headless : ¬ (rules.headless ≡ rules.memory)
  pub too_many : ¬ (rules.too_many ≡ rules.memory)

module _ {X F : Type 0} (rules : TableRules X F) (have : HaveOneFault rules) (rows : List (List (List ℕ))) where
  -- No row is left out for lack of memory: under rules by which that is the same fault as too many rows, the first row that is left out is still what the table is refused for.
  pub not_for_memory : (row : List (List ℕ)) (fault : F) (more : List (List (List ℕ) × F)) (items : List X) → IsReadWithout rules rows ((row, fault) ∷ more) items → ¬ (fault ≡ rules.memory)
  not_for_memory row fault more items is memory = by (read_up_to_a_fault (record rules { memory = rules.too_many }) rows row fault more items is)
    where
      by : IsFaultOf (record rules { memory = rules.too_many }) rows fault → ⊥
      by (inl many) = have.too_many (sym many ∙ memory)
      by (inr (inl (first, _))) = have.headless (sym first ∙ memory)
      by (inr (inr (below, headed, first))) = elim first.refused [
        | inl (_, many) ↦ have.too_many (sym many ∙ memory)
        | inr (_, refused) ↦ have.of_row _ _ _ (rw memory at refused)
      ]

  -- where the rows are a table, none is left out
  pub none_out : (out : List (List (List ℕ) × F)) (items whole : List X) → IsReadWithout rules rows out items → IsTable rules rows whole → out ≡ []
  none_out [] items whole is table = refl
  none_out ((row, fault) ∷ more) items whole is table =
      absurd (not_for_memory row fault more items is (no_fault rules have.apart rows whole fault table (read_up_to_a_fault rules rows row fault more items is)))

  -- a row has one fault, as many rows as there may be before it or not
  once_refused : (before : List (List (List ℕ))) (number : ℕ) (row : List (List ℕ)) (a b : F) → IsRefused rules before number row a → IsRefused rules before number row b → a ≡ b
  once_refused before number row a b (inl (_, is)) (inl (_, also)) = is ∙ sym also
  once_refused before number row a b (inl (many, _)) (inr (few, _)) = absurd (omega (arith, many, few))
  once_refused before number row a b (inr (few, _)) (inl (many, _)) = absurd (omega (arith, many, few))
  once_refused before number row a b (inr (_, is)) (inr (_, also)) = have.once (map rules.item_of before) number row a b is also

  -- and behind too many rows there are too many
  refused_behind : (before more : List (List (List ℕ))) (number next : ℕ) (row other : List (List ℕ)) (a b : F) → rules.IsRow (map rules.item_of before) row
      → IsRefused rules before number row a → IsRefused rules (before ++ row ∷ more) next other b → a ≡ b
  refused_behind before more number next row other a b good (inl (_, is)) (inl (_, also)) = is ∙ sym also
  refused_behind before more number next row other a b good (inl (many, _)) (inr (few, _)) = absurd (omega (arith, many, few, length-append before (row ∷ more)))
  refused_behind before more number next row other a b good (inr (_, refused)) also = absurd (have.apart (map rules.item_of before) number row a good refused)

  -- so a table has one fault, but for lack of memory
  pub one_fault : (a b : F) → IsFaultOf rules rows a → IsFaultOf rules rows b → ¬ (a ≡ rules.memory) → ¬ (b ≡ rules.memory) → a ≡ b
  one_fault a b (inl memory) also some other = absurd (some memory)
  one_fault a b (inr is) (inl memory) some other = absurd (other memory)
  one_fault a b (inr (inl (is, _))) (inr (inl (also, _))) some other = is ∙ sym also
  one_fault a b (inr (inl (_, none))) (inr (inr (below, headed, _))) some other = absurd (none below headed)
  one_fault a b (inr (inr (below, headed, _))) (inr (inl (_, none))) some other = absurd (none below headed)
  one_fault a b (inr (inr (below, headed, first))) (inr (inr (under, heads, later))) some other =
      let same : below ≡ under = cc in
      one_first_fault (λ before. rules.IsRow (map rules.item_of before)) (IsRefused rules) under once_refused refused_behind a b (rw same at first) later

-- the first fault of a table, or of what is read behind it, as it is to a run
module _ {X F V : Type 0} (rules : TableRules X F) (as_fault : F → V) (rows : List (List (List ℕ))) where
  abbrev pub IsItsFault : V → Type 0
  IsItsFault fault = (own : F) × IsFaultOf rules rows own × (fault ≡ as_fault own)

  pub of_table : (out : List (List (List ℕ) × F)) (items : List X) (fault : V) → IsReadWithout rules rows out items → first_of as_fault out ≡ Some fault → IsItsFault fault
  of_table [] items fault is says = cc says
  of_table ((row, own) ∷ more) items fault is says =
      let same : as_fault own ≡ fault = cc says in
      (own, read_up_to_a_fault rules rows row own more items is, sym same)

  pub of_table_or_later : (IsOfLater : List X → V → Type 0) (out : List (List (List ℕ) × F)) (items : List X) (later : Option V) (fault : V) → IsReadWithout rules rows out items
      → (out ≡ [] → later ≡ Some fault → IsOfLater items fault) → or_later (first_of as_fault out) later ≡ Some fault → ThisOrLater IsItsFault (IsTable rules rows) IsOfLater fault
  of_table_or_later IsOfLater [] items later fault is on says = inr (items, read_without_faults rules rows items is, on refl says)
  of_table_or_later IsOfLater ((row, own) ∷ more) items later fault is on says = inl (of_table ((row, own) ∷ more) items fault is says)

  -- which is no lack of memory, where that of the table alone is one to a run
  pub of_table_not_room : HaveOneFault rules → (room : V) → ((own : F) → as_fault own ≡ room → own ≡ rules.memory) → (out : List (List (List ℕ) × F)) (items : List X) (fault : V)
      → IsReadWithout rules rows out items → first_of as_fault out ≡ Some fault → ¬ (fault ≡ room)
  of_table_not_room have room alone [] items fault is says lacks = cc says
  of_table_not_room have room alone ((row, own) ∷ more) items fault is says lacks =
      let same : as_fault own ≡ fault = cc says in
      not_for_memory rules have rows row own more items is (alone own (same ∙ lacks))

-- the first fault of several inputs is one of the first, or of the later ones
pub of_either : {V : Type 0} (Holds : Type 0) (first later : Option V) (fault : V) → (first ≡ Some fault → Holds) → (later ≡ Some fault → Holds) → or_later first later ≡ Some fault → Holds
of_either Holds (Some own) later fault here there says = here says
of_either Holds None later fault here there says = there says
