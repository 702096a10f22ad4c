-- Accounts whose payees are few are few.
use Rattle.std.proofs.Common.{◌≡◌, ◌∙◌, ◌<◌, ◌≤◌, ◌∷◌, [], ℕ, List, All, AllPairs, Contains, get_or, inl, inr, length, map, nat_cmp, nat_eq, one-add, arith, sym, ap}
use Rattle.std.specs.Cmp.Lexicographic.{nat_list_cmp_total, pointwise, slice_cmp}
use Rattle.std.specs.List.{position_or_len}
use Rattle.std.specs.List.Sorted.{IsStrictlySortedBy}
use Rattle.std.proofs.lemmas.Bool.{cases_Bool, false≢true}
use Rattle.std.proofs.lemmas.List.{get_or-map, length-map}
use Rattle.std.proofs.lemmas.List.Elements.{All-map}
use Rattle.std.proofs.lemmas.Map.Keys.{Less-from_sorted}
use Rattle.std.proofs.lemmas.Slice.Eq.{bytes_eq-Decides}
use Rattle.indexmap.proofs.IndexTableLemmas.Probe.{pigeonhole}
use Rattle.cwr_share.proofs.CompiledLemmas.{Rising}
use Rattle.cwr_share.proofs.OneRegistry.{not_before_itself}
use Rattle.cwr_share.proofs.PartyLemmas.{contains_cases}

-- where a text stands first in a list that has it
placed : (payees : List (List ℕ)) (text : List ℕ) → Contains payees text
    → (position_or_len (pointwise nat_eq text) payees < length payees) × (get_or payees (position_or_len (pointwise nat_eq text) payees) [] ≡ text)
placed [] text has = absurd (omega (arith, has.1))
placed (payee ∷ payees) text has = elim (cases_Bool (pointwise nat_eq text payee)) [
  | inl its ↦ rw its (omega arith, sym ((bytes_eq-Decides text payee).0 its))
  | inr other ↦ elim (contains_cases payee payees text has) [
    | inl same ↦ absurd (false≢true (sym other ∙ (bytes_eq-Decides text payee).1 (sym same)))
    | inr later ↦
        let (within, at) = placed payees text later in
        rw (other, one-add (position_or_len (pointwise nat_eq text) payees)) (omega (arith, within), at)
  ]
]

-- different texts that a list has are no more than it has
module _ (texts payees : List (List ℕ)) (apart : AllPairs (λ text later. ¬ (text ≡ later)) texts) (has : All (Contains payees) texts) where
  abbrev place : ℕ → ℕ
  place k = position_or_len (pointwise nat_eq (get_or texts k [])) payees

  into : (i : ℕ) → i < length texts → place i < length payees
  into i within = (placed payees (get_or texts i []) (has i [] within)).0

  once : (i j : ℕ) → i < length texts → j < length texts → place i ≡ place j → i ≡ j
  once i j first second same =
      let at : get_or texts i [] ≡ get_or texts j [] =
      sym (placed payees (get_or texts i []) (has i [] first)).1 ∙ (ap (λ n. get_or payees n []) same ∙ (placed payees (get_or texts j []) (has j [] second)).1) in
      let not_before : ¬ (i < j) = λ before. apart i j [] before second at in
      let not_after : ¬ (j < i) = λ after. apart j i [] after first (sym at) in
      omega (arith, not_before, not_after)

  pub few_texts : length texts ≤ length payees
  few_texts = pigeonhole (length texts) (length payees) place into once

-- the payees of accounts that rise are different, so the accounts are no more than these
module _ (accounts payees : List (List ℕ)) (sorted : IsStrictlySortedBy (slice_cmp nat_cmp) accounts) (groups : List (ℕ × List ℕ)) (rising : Rising groups)
    (each : All (λ group. (group.0 < length accounts) × Contains payees (get_or accounts group.0 [])) groups) where
  abbrev text : ℕ × List ℕ → List ℕ
  text group = get_or accounts group.0 []

  apart_texts : AllPairs (λ text later. ¬ (text ≡ later)) (map text groups)
  apart_texts i j d before within same =
      let inside : j < length groups = omega (arith, within, length-map groups text) in
      let earlier : i < length groups = omega (arith, before, inside) in
      let less = Less-from_sorted (slice_cmp nat_cmp) accounts (get_or groups i (0, [])).0 (get_or groups j (0, [])).0 [] sorted (rising i j (0, []) before inside) (each j (0, []) inside).0 in
      not_before_itself nat_list_cmp_total (text (get_or groups i (0, []))) (text (get_or groups j (0, []))) less
      (sym (get_or-map text groups i (0, []) d earlier) ∙ (same ∙ get_or-map text groups j (0, []) d inside))

  pub few_paid : length groups ≤ length payees
  few_paid =
      omega (arith, few_texts (map text groups) payees apart_texts (All-map (Contains payees) text groups (λ k d within. (each k d within).1)), length-map groups text)
