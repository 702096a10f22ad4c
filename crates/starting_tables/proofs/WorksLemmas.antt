-- The rows of a table of works, one after another.
use Rattle.std.proofs.Common.{◌≡◌, ◌∙◌, ◌+◌, ◌<◌, ◌∷◌, ◌++◌, ◌||◌, [], ℕ, Bool, true, false, not, cond, List, ap, get_or, length, map, nat_eq, refl, sym, take}
use Rattle.std.specs.Cmp.Lexicographic.{pointwise}
use Rattle.std.specs.List.{enumerate_from, list_any}
use Rattle.std.proofs.lemmas.Grind.{flat_map-append}
use Rattle.std.proofs.lemmas.List.{append-nil}
use Rattle.std.proofs.lemmas.List.Folds.{list_any_more}
use Rattle.csv_table.specs.Written.{text_of, text_of_row}
use Rattle.line_split.proofs.Enumerated.{enumerated_more}
use Rattle.starting_tables.specs.InForce.{Registration}
use Rattle.starting_tables.specs.Works.{has_iswc, iswc_of, row_by, works_row}

-- a row goes last
pub text_push : (rows : List (List (List ℕ))) (row : List (List ℕ)) → text_of (rows ++ row ∷ []) ≡ text_of rows ++ text_of_row row
text_push rows row = flat_map-append text_of_row rows (row ∷ []) ∙ ap (λ (l : List ℕ). text_of rows ++ l) (append-nil (text_of_row row))

-- the row of a registration that stands beside its place
abbrev pub row_at : (submitter : List ℕ) → List Registration → ℕ × Registration → List (List ℕ)
row_at submitter registrations e = works_row submitter (take e.0 registrations) e.1

-- the rows of the first registrations
abbrev pub first_rows : (submitter : List ℕ) → List Registration → (count : ℕ) → List (List (List ℕ))
first_rows submitter registrations count = map (row_at submitter registrations) (enumerate_from 0 (take count registrations))

-- one row more
pub text_more : (submitter : List ℕ) (registrations : List Registration) (i : ℕ) (registration : Registration) (is_first : Bool) (text next : List ℕ) → i < length registrations
    → registration ≡ get_or registrations i registration → text ≡ text_of (first_rows submitter registrations i)
    → is_first ≡ not (has_iswc (take i registrations) (iswc_of registration)) → next ≡ text ++ text_of_row (row_by submitter is_first registration)
    → next ≡ text_of (first_rows submitter registrations (i + 1))
text_more submitter registrations i registration is_first text next within here before first is =
    is
    ∙ (ap (λ (t : List ℕ). t ++ text_of_row (row_by submitter is_first registration)) before
    ∙ (ap (λ (b : Bool). text_of (first_rows submitter registrations i) ++ text_of_row (row_by submitter b registration)) first
    ∙ (ap (λ (r : Registration). text_of (first_rows submitter registrations i) ++ text_of_row (works_row submitter (take i registrations) r)) here
    ∙ (sym (text_push (first_rows submitter registrations i) (row_at submitter registrations (i, get_or registrations i registration)))
    ∙ ap text_of (sym (enumerated_more (row_at submitter registrations) registrations i registration within))))))

cond_or : (b c : Bool) → cond b true c ≡ (c || b)
cond_or true true = refl
cond_or true false = refl
cond_or false true = refl
cond_or false false = refl

-- one ISWC more that was seen
pub seen_more : (registrations : List Registration) (i : ℕ) (registration : Registration) (seen next : List (List ℕ)) → i < length registrations
    → registration ≡ get_or registrations i registration
    → ((iswc : List ℕ) → list_any (pointwise nat_eq iswc) seen ≡ has_iswc (take i registrations) iswc)
    → ((iswc : List ℕ) → list_any (pointwise nat_eq iswc) next ≡ cond (pointwise nat_eq (iswc_of registration) iswc) true (list_any (pointwise nat_eq iswc) seen))
    → (iswc : List ℕ) → list_any (pointwise nat_eq iswc) next ≡ has_iswc (take (i + 1) registrations) iswc
seen_more registrations i registration seen next within here before more iswc =
    more iswc
    ∙ (cond_or (pointwise nat_eq (iswc_of registration) iswc) (list_any (pointwise nat_eq iswc) seen)
    ∙ (ap (λ (b : Bool). b || pointwise nat_eq (iswc_of registration) iswc) (before iswc)
    ∙ (ap (λ (r : Registration). has_iswc (take i registrations) iswc || pointwise nat_eq (iswc_of r) iswc) here
    ∙ sym (list_any_more (λ (r : Registration). pointwise nat_eq (iswc_of r) iswc) registrations i registration within))))
