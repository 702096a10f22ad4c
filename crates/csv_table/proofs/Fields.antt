-- The field at a place, and the number that digits write.
use Rattle.std.proofs.Common.{◌≡◌, ◌<◌, ◌+◌, ◌⊎◌, ℕ, zero, suc, List, [], ◌∷◌, Some, None, refl, arith}
use Rattle.std.specs.Prelude.{Bool, true, false, not, slice_index_or}
use Rattle.std.proofs.Common.{inl, inr}
use Rattle.std.proofs.lemmas.Slice.Eq.{bytes_eq-Decides}
use Rattle.std.specs.Str.{bytes_eq}
use Rattle.std.proofs.lemmas.Bool.{cases_lt}
use Rattle.csv.specs.Records.{field_at}

pub field_found : (fields : List (List ℕ)) (place : ℕ) (field : List ℕ) → Some field ≡ field_at fields place → field ≡ slice_index_or fields place []
unfolding field_at
field_found [] place field is = cc is
field_found (f ∷ fields) zero field is = cc is
field_found (f ∷ fields) (suc place) field is = field_found fields place field is

pub field_missing : (fields : List (List ℕ)) (place : ℕ) → None ≡ field_at fields place → ◌≡◌ {A = List ℕ} [] (slice_index_or fields place [])
unfolding field_at
field_missing [] place is = refl
field_missing (f ∷ fields) zero is = cc is
field_missing (f ∷ fields) (suc place) is = field_missing fields place is

pub place_before_or_last : (k place : ℕ) → k < place + 1 → (k < place) ⊎ (k ≡ place)
place_before_or_last k place lt = elim (cases_lt k place) [ inl before ↦ inl before | inr after ↦ inr (omega (arith, lt, after)) ]

-- a test whether bytes differ
pub differ : (a b : List ℕ) → true ≡ not (bytes_eq a b) → ¬ (a ≡ b)
differ a b differs same = by (bytes_eq a b) differs ((bytes_eq-Decides a b).1 same)
  where
    by : (t : Bool) → true ≡ not t → t ≡ true → ⊥
    by true d e = cc d
    by false d e = cc e

pub agree : (a b : List ℕ) → false ≡ not (bytes_eq a b) → a ≡ b
agree a b agrees = (bytes_eq-Decides a b).0 (by (bytes_eq a b) agrees)
  where
    by : (t : Bool) → false ≡ not t → t ≡ true
    by true d = refl
    by false d = cc d
