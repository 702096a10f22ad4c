-- Several conditions, looked at one after another: the first that is not met decides.
use Rattle.std.proofs.Common.{◌≡◌, ◌∙◌, ◌⊎◌, inl, inr, sym}

-- conditions, each with what comes of it where it is the first that is not met
pub data Chain (F : Type 0) : Type 1 where
  fine : Chain F
  unless : (Good : Type 0) → (its : F) → Chain F → Chain F

-- what comes of them
abbrev pub IsFirstOf : {F : Type 0} → Chain F → F → Type 0
IsFirstOf fine fault = ⊥
IsFirstOf (unless Good its later) fault = ((¬ Good) × (fault ≡ its)) ⊎ (Good × IsFirstOf later fault)

-- is one
pub first_once : {F : Type 0} (chain : Chain F) (a b : F) → IsFirstOf chain a → IsFirstOf chain b → a ≡ b
first_once fine a b never also = absurd never
first_once (unless Good its later) a b (inl (_, is)) (inl (_, also)) = is ∙ sym also
first_once (unless Good its later) a b (inl (bad, _)) (inr (good, _)) = absurd (bad good)
first_once (unless Good its later) a b (inr (good, _)) (inl (bad, _)) = absurd (bad good)
first_once (unless Good its later) a b (inr (_, is)) (inr (_, also)) = first_once later a b is also

-- all of them are met
abbrev pub AreMet : {F : Type 0} → Chain F → Type 0
AreMet fine = Unit {0}
AreMet (unless Good its later) = Good × AreMet later

-- so nothing comes of them
pub none_of_met : {F : Type 0} (chain : Chain F) (fault : F) → AreMet chain → ¬ IsFirstOf chain fault
none_of_met fine fault met never = never
none_of_met (unless Good its later) fault (good, met) (inl (bad, _)) = bad good
none_of_met (unless Good its later) fault (good, met) (inr (_, first)) = none_of_met later fault met first
