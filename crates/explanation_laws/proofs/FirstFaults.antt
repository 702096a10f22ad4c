-- Rows, or lines, have one first fault.
use Rattle.std.proofs.Common.{◌≡◌, ◌∙◌, ◌+◌, ◌⊎◌, ◌++◌, ◌∷◌, [], ℕ, List, ap, inl, inr, length, refl, subst, sym}
use Rattle.csv_table.specs.FirstFault.{AreInTurn, IsFirstFault}
use Rattle.csv_table.proofs.InTurn.{sound_at}

-- two places of a list are one, or one of them comes first
pub seams : {A : Type 0} (first other : List A) (x y : A) (after rest : List A) → first ++ x ∷ after ≡ other ++ y ∷ rest
    → ((first ≡ other) × (x ≡ y)) ⊎ ((more : List A) × (other ≡ first ++ x ∷ more)) ⊎ ((more : List A) × (first ≡ other ++ y ∷ more))
seams [] [] x y after rest is = inl (refl, cc is)
seams {A} [] (z ∷ other) x y after rest is = let head : x ≡ z = cc is in inr (inl (other, ap (λ (w : A). w ∷ other) (sym head)))
seams {A} (z ∷ first) [] x y after rest is = let head : z ≡ y = cc is in inr (inr (first, ap (λ (w : A). w ∷ first) head))
seams (z ∷ first) (w ∷ other) x y after rest is =
    let head : z ≡ w = cc is in
    let tail : first ++ x ∷ after ≡ other ++ y ∷ rest = cc is in
    elim (seams first other x y after rest tail) [
      | inl (same, row) ↦ inl (cc (head, same), row)
      | inr (inl (more, later)) ↦ inr (inl (more, cc (head, later)))
      | inr (inr (more, later)) ↦ inr (inr (more, cc (head, later)))
    ]

module _ {X F : Type 0} (IsSound : List (List X) → List X → Type 0) (Refuses : List (List X) → ℕ → List X → F → Type 0) (rows : List (List X)) where
  abbrev IsFirst : F → Type 0
  IsFirst = IsFirstFault (AreInTurn IsSound) Refuses rows

  -- sound rows have none, where no sound row is refused
  pub no_first_fault : ((before : List (List X)) (number : ℕ) (row : List X) (fault : F) → IsSound before row → ¬ Refuses before number row fault)
      → AreInTurn IsSound rows → (fault : F) → ¬ IsFirst fault
  no_first_fault apart sound fault first =
      apart first.before (length first.before + 1) first.row fault (sound_at IsSound rows first.before first.row first.after first.split sound) first.refused

  -- a row has one fault, and one that is sound where the other is refused later makes no difference
  module _ (once : (before : List (List X)) (number : ℕ) (row : List X) (a b : F) → Refuses before number row a → Refuses before number row b → a ≡ b)
      (behind : (before more : List (List X)) (number next : ℕ) (row other : List X) (a b : F) → IsSound before row
      → Refuses before number row a → Refuses (before ++ row ∷ more) next other b → a ≡ b) where
    later_is_same : (a b : F) (first : IsFirst a) (other : IsFirst b) (more : List (List X)) → other.before ≡ first.before ++ first.row ∷ more → a ≡ b
    later_is_same a b first other more is =
        behind first.before more (length first.before + 1) (length other.before + 1) first.row other.row a b
        (sound_at IsSound other.before first.before first.row more is other.sound) first.refused
        (subst (λ (before : List (List X)). Refuses before (length other.before + 1) other.row b) is other.refused)

    pub one_first_fault : (a b : F) → IsFirst a → IsFirst b → a ≡ b
    one_first_fault a b first other =
        elim (seams first.before other.before first.row other.row first.after other.after (sym first.split ∙ other.split)) [
          | inl (same, row) ↦
              once first.before (length first.before + 1) first.row a b first.refused
              (subst (λ (before : List (List X)). Refuses before (length before + 1) first.row b) (sym same)
              (subst (λ (last : List X). Refuses other.before (length other.before + 1) last b) (sym row) other.refused))
          | inr (inl (more, is)) ↦ later_is_same a b first other more is
          | inr (inr (more, is)) ↦ sym (later_is_same b a other first more is)
        ]
