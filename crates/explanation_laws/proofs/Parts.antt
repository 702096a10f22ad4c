-- What has a name among different ones, by its name: added up name by name, it comes to what it comes to together.
use Rattle.std.proofs.Common.{◌≡◌, ◌∙◌, ◌+◌, ◌∷◌, [], ℕ, List, All, AllPairs, Contains, filter, nat_eq, sum_by, arith, sym, refl, inl, inr}
use Rattle.std.specs.Prelude.{if◌then◌else◌}
use Rattle.std.specs.Cmp.Lexicographic.{pointwise}
use Rattle.std.proofs.lemmas.Bool.{cases_Bool, false_from_ne_true}
use Rattle.std.proofs.lemmas.List.Elements.{All-contains, All-head, All-tail}
use Rattle.std.proofs.lemmas.List.Sums.{sum_by-cons}
use Rattle.std.proofs.lemmas.Slice.Eq.{bytes_eq-Decides}
use Rattle.cwr_share.proofs.CompiledLemmas.{AllPairs-head, AllPairs-tail, contains_cases}

module _ {X : Type 0} (name : X → List ℕ) (size : X → ℕ) where
  -- what has a name
  abbrev pub part : List X → List ℕ → ℕ
  part xs own = sum_by size (filter (λ x. pointwise nat_eq (name x) own) xs)

  -- what one item adds to a name
  abbrev hit : X → List ℕ → ℕ
  hit x own = if pointwise nat_eq (name x) own then size x else 0

  part_more : (x : X) (xs : List X) (own : List ℕ) → part (x ∷ xs) own ≡ hit x own + part xs own
  part_more x xs own = elim (cases_Bool (pointwise nat_eq (name x) own)) [
    | inl its ↦ rw its (sum_by-cons size x (filter (λ x. pointwise nat_eq (name x) own) xs))
    | inr other ↦ rw other (omega arith)
  ]

  parts_more : (x : X) (xs : List X) (names : List (List ℕ)) → sum_by (part (x ∷ xs)) names ≡ sum_by (hit x) names + sum_by (part xs) names
  parts_more x xs [] = omega arith
  parts_more x xs (own ∷ later) =
      omega (
        arith,
        sum_by-cons (part (x ∷ xs)) own later,
        sum_by-cons (part xs) own later,
        sum_by-cons (hit x) own later,
        part_more x xs own,
        parts_more x xs later,
      )

  parts_none : (names : List (List ℕ)) → sum_by (part []) names ≡ 0
  parts_none [] = refl
  parts_none (own ∷ later) = omega (arith, sum_by-cons (part []) own later, parts_none later)

  hit_none : (x : X) (own : List ℕ) → ¬ (name x ≡ own) → hit x own ≡ 0
  hit_none x own other = rw (false_from_ne_true (pointwise nat_eq (name x) own) (λ is. other ((bytes_eq-Decides (name x) own).0 is))) refl

  hits_none : (x : X) (names : List (List ℕ)) → All (λ own. ¬ (name x ≡ own)) names → sum_by (hit x) names ≡ 0
  hits_none x [] none = refl
  hits_none x (own ∷ later) none =
      omega (
        arith,
        sum_by-cons (hit x) own later,
        hit_none x own (All-head (λ own. ¬ (name x ≡ own)) own later none),
        hits_none x later (All-tail (λ own. ¬ (name x ≡ own)) own later none),
      )

  abbrev AreTwo : List ℕ → List ℕ → Type 0
  AreTwo own later = ¬ (own ≡ later)

  -- an item adds itself to its own name
  hit_own : (x : X) (own : List ℕ) → name x ≡ own → hit x own ≡ size x
  hit_own x own is = rw ((bytes_eq-Decides (name x) own).1 is) refl

  -- and once to all of them
  hit_once : (x : X) (names : List (List ℕ)) → AllPairs AreTwo names → Contains names (name x) → sum_by (hit x) names ≡ size x
  hit_once x [] distinct there = absurd (omega (arith, there.1))
  hit_once x (own ∷ later) distinct there = elim (contains_cases own (name x) later there) [
    | inl same ↦
        let none : All (λ other. ¬ (name x ≡ other)) later = λ k d within equal. AllPairs-head AreTwo own later distinct k d within (same ∙ equal) in
        omega (arith, sum_by-cons (hit x) own later, hit_own x own (sym same), hits_none x later none)
    | inr inside ↦
        let other : ¬ (name x ≡ own) = λ equal. All-contains (AreTwo own) later (name x) (AllPairs-head AreTwo own later distinct) inside (sym equal) in
        omega (arith, sum_by-cons (hit x) own later, hit_none x own other, hit_once x later (AllPairs-tail AreTwo own later distinct) inside)
  ]

  pub parts_add_up : (names : List (List ℕ)) (xs : List X) → AllPairs AreTwo names → All (λ x. Contains names (name x)) xs → sum_by (part xs) names ≡ sum_by size xs
  parts_add_up names [] distinct named = parts_none names
  parts_add_up names (x ∷ xs) distinct named =
      omega (
        arith,
        parts_more x xs names,
        hit_once x names distinct (All-head (λ x. Contains names (name x)) x xs named),
        parts_add_up names xs distinct (All-tail (λ x. Contains names (name x)) x xs named),
        sum_by-cons size x xs,
      )
