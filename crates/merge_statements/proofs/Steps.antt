-- Which row was passed over, by its first byte and by where a reader stood.
use Rattle.std.proofs.Common.{◌≡◌, ◌∙◌, ◌∷◌, ◌⊎◌, [], inl, inr, ℕ, ℤ, List, get_or, ap, sym, refl, subst, codes}
use Rattle.csv_table.specs.Written.{text_of_row}
use Rattle.merge_statements.specs.Places.{At, Follows, KindFits, row_of}
use Rattle.merge_statements.specs.SoFar.{IsPortionAt, IsRestAt, IsRestsSumAt, IsRunAt, IsSumAt}
use Rattle.merge_statements.specs.declared.walk.Place.{Place}
use Rattle.merge_statements.specs.declared.walk.Place.TheVariants.{Between, Ended, Resting, Summed, Within}

-- a kind of row is one of five
abbrev pub IsKind : List ℕ → Type 0
IsKind kind = (kind ≡ codes "L") ⊎ (kind ≡ codes "S") ⊎ (kind ≡ codes "M") ⊎ (kind ≡ codes "T") ⊎ (kind ≡ codes "R")

pub kind_of : (place : Place) (kind : List ℕ) → KindFits place kind → IsKind kind
kind_of Between kind fits = elim fits [ inl l ↦ inl l | inr other ↦ elim other [ inl m ↦ inr (inr (inl m)) | inr t ↦ inr (inr (inr (inl t))) ] ]
kind_of (Within count sum) kind fits = elim fits [ inl l ↦ inl l | inr s ↦ inr (inl s) ]
kind_of (Resting count sum) kind fits = elim fits [ inl m ↦ inr (inr (inl m)) | inr t ↦ inr (inr (inr (inl t))) ]
kind_of Summed kind fits = inr (inr (inr (inr fits)))
kind_of (Ended lines) kind fits = absurd fits

-- the first byte of a row is the letter of its kind
abbrev Begins : List ℕ → Type 0
Begins kind = (payee_or_reason usage_or_count amount_or_total : List ℕ) → get_or (text_of_row (row_of kind payee_or_reason usage_or_count amount_or_total)) 0 0 ≡ get_or kind 0 0

-- what holds of each kind
each_kind : (P : List ℕ → Type 0) (kind : List ℕ) → IsKind kind → P (codes "L") → P (codes "S") → P (codes "M") → P (codes "T") → P (codes "R") → P kind
each_kind P kind is of_l of_s of_m of_t of_r = elim is [
  | inl l ↦ subst P (sym l) of_l
  | inr others ↦ elim others [
    | inl s ↦ subst P (sym s) of_s
    | inr more ↦ elim more [
      | inl m ↦ subst P (sym m) of_m
      | inr last ↦ elim last [
        | inl t ↦ subst P (sym t) of_t
        | inr r ↦ subst P (sym r) of_r
      ]
    ]
  ]
]

begins : (kind : List ℕ) → IsKind kind → Begins kind
begins kind is = each_kind Begins kind is (λ a b c. refl) (λ a b c. refl) (λ a b c. refl) (λ a b c. refl) (λ a b c. refl)

-- and it has no other
one_letter : (kind : List ℕ) → IsKind kind → kind ≡ get_or kind 0 0 ∷ []
one_letter kind is = each_kind (λ k. k ≡ get_or k 0 0 ∷ []) kind is refl refl refl refl refl

module _ (at next : At) (row : List (List ℕ)) (follows : Follows at row next) where
  -- the letter that a row begins with is that of its kind
  lettered : get_or (text_of_row row) 0 0 ≡ get_or follows.kind 0 0
  lettered =
      ap (λ (r : List (List ℕ)). get_or (text_of_row r) 0 0) follows.form
      ∙ begins follows.kind (kind_of at.place follows.kind follows.fits.kind_fits) follows.payee_or_reason follows.usage_or_count follows.amount_or_total

  -- so by its first byte its kind is known
  kind_is : (letter : ℕ) → get_or (text_of_row row) 0 0 ≡ letter → follows.kind ≡ letter ∷ []
  kind_is letter first = one_letter follows.kind (kind_of at.place follows.kind follows.fits.kind_fits) ∙ ap (λ (n : ℕ). n ∷ []) (sym lettered ∙ first)

  pub portion_passed : get_or (text_of_row row) 0 0 ≡ 76 → IsPortionAt at row next
  portion_passed first =
      let l : follows.kind ≡ codes "L" = kind_is 76 first in
      let (amount, sound, written, leads) = follows.leads.portion l in
      record {
        payee = follows.payee_or_reason;
        portion = record { usage = follows.usage_or_count; amount = amount };
        form = follows.form ∙ (λ i. row_of (l i) follows.payee_or_reason follows.usage_or_count (written i));
        due = follows.fits.payee_or_reason_fits.payee l;
        sound = (follows.fits.usage_or_count_fits.usage (inl l), sound);
        count = (follows.fits.amount_or_total_fits.amount (inl l)).0;
        leads = leads;
      }

  pub rest_passed : get_or (text_of_row row) 0 0 ≡ 77 → IsRestAt at row next
  rest_passed first =
      let m : follows.kind ≡ codes "M" = kind_is 77 first in
      let (amount, sound, written, leads) = follows.leads.rest m in
      record {
        what = record { reason = follows.payee_or_reason; usage = follows.usage_or_count; amount = amount };
        form = follows.form ∙ (λ i. row_of (m i) follows.payee_or_reason follows.usage_or_count (written i));
        sound = (follows.fits.payee_or_reason_fits.reason m, follows.fits.usage_or_count_fits.usage (inr m), sound);
        count = (follows.fits.amount_or_total_fits.amount (inr m)).0;
        leads = leads;
      }

  -- within a payee's portions, what is no portion is their sum
  pub sum_passed : (count : ℕ) (so_far : ℤ) → at.place ≡ Within count so_far → ¬ (get_or (text_of_row row) 0 0 ≡ 76) → IsSumAt at row next
  sum_passed count so_far within differs =
      let fits = subst (λ (place : Place). KindFits place follows.kind) within follows.fits.kind_fits in
      let s : follows.kind ≡ codes "S" = elim fits [ inl l ↦ absurd (differs (lettered ∙ ap (λ (k : List ℕ). get_or k 0 0) l)) | inr s ↦ s ] in
      record {
        form = follows.form ∙ (λ i. row_of (s i) (follows.fits.payee_or_reason_fits.same s i) (follows.fits.usage_or_count_fits.count (inl s) i) (follows.fits.amount_or_total_fits.sum (inl s) i));
        leads = follows.leads.sum s;
      }

  pub rests_sum_passed : get_or (text_of_row row) 0 0 ≡ 84 → IsRestsSumAt at row next
  rests_sum_passed first =
      let t : follows.kind ≡ codes "T" = kind_is 84 first in
      record {
        form = follows.form ∙ (λ i. row_of (t i) (follows.fits.payee_or_reason_fits.none (inl t) i) (follows.fits.usage_or_count_fits.count (inr t) i) (follows.fits.amount_or_total_fits.sum (inr t) i));
        leads = follows.leads.rests t;
      }

  -- behind what nobody gets come the usage lines
  pub run_passed : at.place ≡ Summed → IsRunAt at row next
  run_passed summed =
      let r : follows.kind ≡ codes "R" = subst (λ (place : Place). KindFits place follows.kind) summed follows.fits.kind_fits in
      let (lines, few, written, leads) = follows.leads.run r in
      record {
        lines = lines;
        few = few;
        form = follows.form ∙ (λ i. row_of (r i) (follows.fits.payee_or_reason_fits.none (inr r) i) (written i) (follows.fits.amount_or_total_fits.all r i));
        leads = leads;
      }
