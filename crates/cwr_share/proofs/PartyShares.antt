-- What parties come to is what their lines come to: each line is of one party, and adds its share once.
use Rattle.std.proofs.Common.{◌≡◌, ◌∙◌, ◌+◌, ◌∷◌, [], ℕ, Bool, true, List, All, AllPairs, Contains, filter, nat_eq, sum_by, ap, sym, refl, inl, inr, arith}
use Rattle.std.specs.Prelude.{if◌then◌else◌}
use Rattle.std.specs.Cmp.Lexicographic.{pointwise}
use Rattle.std.proofs.lemmas.Bool.{cases_Bool, false_from_ne_true}
use Rattle.std.proofs.lemmas.List.Elements.{All-contains, All-head, All-tail}
use Rattle.std.proofs.lemmas.List.Sums.{sum_by-cons}
use Rattle.std.proofs.lemmas.Slice.Eq.{bytes_eq-Decides}
use Rattle.cwr_share.specs.Registrations.{ShareLine}
use Rattle.cwr_share.proofs.CompiledLemmas.{AllPairs-head, AllPairs-tail, contains_cases}

-- Claimants that are parties with these names; some of them are paid to the account at hand.
module _ {C : Type 0} (name : C → List ℕ) (is_here : C → Bool) (share : ShareLine → ℕ) where
  -- a party's lines
  abbrev is_own : List ℕ → ShareLine → Bool
  is_own party line = pointwise nat_eq line.party party

  -- what a party's lines add to the account
  abbrev pub part : List ShareLine → C → ℕ
  part lines claimant = if is_here claimant then sum_by share (filter (is_own (name claimant)) lines) else 0

  -- what one line adds by a party
  abbrev hit : ShareLine → C → ℕ
  hit line claimant = if is_here claimant then (if is_own (name claimant) line then share line else 0) else 0

  abbrev pub parts : List ShareLine → List C → ℕ
  parts lines claimants = sum_by (part lines) claimants

  part_more : (line : ShareLine) (lines : List ShareLine) (claimant : C) → part (line ∷ lines) claimant ≡ hit line claimant + part lines claimant
  part_more line lines claimant = elim (cases_Bool (is_here claimant)) [
    | inr other ↦ rw other (omega arith)
    | inl its ↦ rw its (elim (cases_Bool (is_own (name claimant) line)) [
      | inl own ↦ rw own (sum_by-cons share line (filter (is_own (name claimant)) lines))
      | inr not_own ↦ rw not_own (omega arith)
    ])
  ]

  parts_more : (line : ShareLine) (lines : List ShareLine) (claimants : List C) → parts (line ∷ lines) claimants ≡ sum_by (hit line) claimants + parts lines claimants
  parts_more line lines [] = omega arith
  parts_more line lines (claimant ∷ later) =
      omega (
        arith,
        sum_by-cons (part (line ∷ lines)) claimant later,
        sum_by-cons (part lines) claimant later,
        sum_by-cons (hit line) claimant later,
        part_more line lines claimant,
        parts_more line lines later,
      )

  parts_none : (claimants : List C) → parts [] claimants ≡ 0
  parts_none [] = refl
  parts_none (claimant ∷ later) =
      let first : part [] claimant ≡ 0 = elim (cases_Bool (is_here claimant)) [ inl its ↦ rw its refl | inr other ↦ rw other refl ] in
      omega (arith, sum_by-cons (part []) claimant later, first, parts_none later)

  -- a line of another party adds nothing
  hit_none : (line : ShareLine) (claimant : C) → ¬ (name claimant ≡ line.party) → hit line claimant ≡ 0
  hit_none line claimant other =
      let not_own = false_from_ne_true (is_own (name claimant) line) (λ own. other (sym ((bytes_eq-Decides line.party (name claimant)).0 own))) in
      elim (cases_Bool (is_here claimant)) [ inl its ↦ rw (its, not_own) refl | inr apart ↦ rw apart refl ]

  hits_none : (line : ShareLine) (claimants : List C) → All (λ claimant. ¬ (name claimant ≡ line.party)) claimants → sum_by (hit line) claimants ≡ 0
  hits_none line [] none = refl
  hits_none line (claimant ∷ later) none =
      omega (
        arith,
        sum_by-cons (hit line) claimant later,
        hit_none line claimant (All-head (λ (claimant : C). ¬ (name claimant ≡ line.party)) claimant later none),
        hits_none line later (All-tail (λ (claimant : C). ¬ (name claimant ≡ line.party)) claimant later none),
      )

  abbrev AreTwo : C → C → Type 0
  AreTwo claimant later = ¬ (name claimant ≡ name later)

  -- a line adds its share where its party is the account's
  hit_once : (line : ShareLine) (claimants : List C) (own : C) → AllPairs AreTwo claimants → Contains claimants own → name own ≡ line.party
      → sum_by (hit line) claimants ≡ (if is_here own then share line else 0)
  hit_once line [] own distinct there is = absurd (omega (arith, there.1))
  hit_once line (claimant ∷ later) own distinct there is = elim (contains_cases claimant own later there) [
    | inl same ↦
        let its : is_own (name claimant) line ≡ true = (bytes_eq-Decides line.party (name claimant)).1 (sym is ∙ ap name (sym same)) in
        let none : All (λ (other : C). ¬ (name other ≡ line.party)) later =
        λ k d within equal. AllPairs-head AreTwo claimant later distinct k d within (ap name same ∙ (is ∙ sym equal)) in
        let first : hit line claimant ≡ (if is_here own then share line else 0) =
        ap (λ (b : Bool). if is_here claimant then (if b then share line else 0) else 0) its
        ∙ ap (λ (c : C). if is_here c then share line else 0) same in
        sum_by-cons (hit line) claimant later ∙ (ap (λ (n : ℕ). hit line claimant + n) (hits_none line later none) ∙ (plus_nothing (hit line claimant) ∙ first))
    | inr inside ↦
        let other : ¬ (name claimant ≡ line.party) =
        λ equal. All-contains (AreTwo claimant) later own (AllPairs-head AreTwo claimant later distinct) inside (equal ∙ sym is) in
        sum_by-cons (hit line) claimant later
        ∙ (ap (λ (n : ℕ). n + sum_by (hit line) later) (hit_none line claimant other)
        ∙ (nothing_plus (sum_by (hit line) later) ∙ hit_once line later own (AllPairs-tail AreTwo claimant later distinct) inside is))
  ]
    where
      plus_nothing : (n : ℕ) → n + 0 ≡ n
      plus_nothing n = omega arith

      nothing_plus : (n : ℕ) → 0 + n ≡ n
      nothing_plus n = omega arith

  -- a line has its party among the claimants, of which it depends whether the line is paid to the account
  abbrev pub IsOfOne : (is_paid : ShareLine → Bool) → List C → ShareLine → Type 0
  IsOfOne is_paid claimants line = (own : C) × Contains claimants own × (name own ≡ line.party) × (is_here own ≡ is_paid line)

  -- what the parties add is what the lines come to that are paid to the account
  pub parts_add_up : (is_paid : ShareLine → Bool) (claimants : List C) → AllPairs AreTwo claimants → (lines : List ShareLine) → All (IsOfOne is_paid claimants) lines
      → parts lines claimants ≡ sum_by share (filter is_paid lines)
  parts_add_up is_paid claimants distinct [] each = parts_none claimants
  parts_add_up is_paid claimants distinct (line ∷ lines) each =
      let (own, inside, is, paid) = All-head (IsOfOne is_paid claimants) line lines each in
      let rest = parts_add_up is_paid claimants distinct lines (All-tail (IsOfOne is_paid claimants) line lines each) in
      let once = hit_once line claimants own distinct inside is ∙ ap (λ (b : Bool). if b then share line else 0) paid in
      parts_more line lines claimants ∙ (ap (λ (n : ℕ). n + parts lines claimants) once ∙ added is_paid line lines (parts lines claimants) rest)
    where
      added : (is_paid : ShareLine → Bool) (line : ShareLine) (lines : List ShareLine) (n : ℕ) → n ≡ sum_by share (filter is_paid lines)
          → (if is_paid line then share line else 0) + n ≡ sum_by share (filter is_paid (line ∷ lines))
      added is_paid line lines n rest = elim (cases_Bool (is_paid line)) [
        | inl paid ↦ rw (paid, rest) (sym (sum_by-cons share line (filter is_paid lines)))
        | inr unpaid ↦ rw (unpaid, rest) (omega arith)
      ]
