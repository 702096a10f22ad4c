-- The reasons of the residue of a run.
use Rattle.std.proofs.Common.{◌≡◌, ◌∙◌, ◌<◌, ◌++◌, ◌∷◌, [], ℕ, ℤ, List, length, map, set, take, drop, get_or, All, ap, sym, refl, inl, inr, arith, codes}
use Rattle.std.specs.Prelude.{flat_map, zip}
use Rattle.std.proofs.lemmas.Bool.{cases_eq}
use Rattle.std.proofs.lemmas.List.{get_or_append_left, get_or-map, get_or_read_under, get_or-set_other, get_or-set_same, get_or-take, length-set}
use Rattle.std.proofs.lemmas.List.Elements.{All-push, All-tail}
use Rattle.line_split.specs.UsageLine.{UsageLine}
use Rattle.line_split.specs.declared.reason.Reason.{Reason}
use Rattle.line_split.specs.declared.reason.Reason.TheVariants.{Open}
use Rattle.line_split.specs.ReasonTexts.{reason_text}
use Rattle.payee_book.specs.Text.{payee_rows, posting_row, reason_at, residue_rows, rows_of_book, run_row, total_row}

-- the reasons of the lines of those postings that are done
pub record AreReasons (owns : List Reason) (done : List (ℕ × ℤ)) (reasons : List Reason) : Type 0 where
  pub whole : length reasons ≡ length owns
  pub stand : All (λ posting. get_or reasons posting.0 Open ≡ get_or owns posting.0 Open) done

module _ (owns : List Reason) (done : List (ℕ × ℤ)) (reasons : List Reason) (p : ℕ × ℤ) (are : AreReasons owns done reasons) where
  abbrev Stands : List Reason → ℕ × ℤ → Type 0
  Stands list posting = get_or list posting.0 Open ≡ get_or owns posting.0 Open

  -- the reason of one more is set
  pub reason_set : (reason : Reason) → p.0 < length reasons → reason ≡ get_or owns p.0 Open → AreReasons owns (done ++ p ∷ []) (set reasons p.0 reason)
  reason_set reason within is = record {
    whole = length-set reasons p.0 reason ∙ are.whole;
    stand = All-push (Stands (set reasons p.0 reason)) done p (λ k d lt. elim (cases_eq (get_or done k d).0 p.0) [
      | inl same ↦ rw same here
      | inr other ↦ there (get_or done k d).0 other ∙ are.stand k d lt
    ]) here;
  }
    where
      here : get_or (set reasons p.0 reason) p.0 Open ≡ get_or owns p.0 Open
      here = get_or-set_same reasons p.0 reason Open within ∙ is

      there : (k : ℕ) → ¬ (k ≡ p.0) → get_or (set reasons p.0 reason) k Open ≡ get_or reasons k Open
      there k other = get_or-set_other reasons p.0 k reason Open other

-- the rows of the residue depend on the reasons of its postings alone
pub rows_same : (usage : List UsageLine) (owns reasons : List Reason) (statement : List (ℕ × ℤ)) → All (λ posting. posting.0 < length owns) statement
    → AreReasons owns statement reasons → residue_rows usage reasons statement ≡ residue_rows usage owns statement
rows_same usage owns reasons postings below are =
    ap (λ l. l ++ total_row (codes "T") [] postings ∷ []) (same postings (λ k d lt. texts (get_or postings k d) (below k d lt) (are.stand k d lt)))
  where
    texts : (p : ℕ × ℤ) → p.0 < length owns → get_or reasons p.0 Open ≡ get_or owns p.0 Open → reason_at reasons p.0 ≡ reason_at owns p.0
    texts p lt is =
        get_or-map reason_text reasons p.0 Open [] (omega (arith, lt, are.whole)) ∙ (ap reason_text is ∙ sym (get_or-map reason_text owns p.0 Open [] lt))

    same : (done : List (ℕ × ℤ)) → All (λ posting. reason_at reasons posting.0 ≡ reason_at owns posting.0) done
        → map (λ posting. posting_row usage (codes "M") (reason_at reasons posting.0) posting) done
        ≡ map (λ posting. posting_row usage (codes "M") (reason_at owns posting.0) posting) done
    same [] each = refl
    same (p ∷ done) each =
        let first : reason_at reasons p.0 ≡ reason_at owns p.0 = each 0 p (omega arith) in
        let rest = same done (All-tail (λ posting. reason_at reasons posting.0 ≡ reason_at owns posting.0) p done each) in
        ap (λ row. row ∷ map (λ posting. posting_row usage (codes "M") (reason_at reasons posting.0) posting) done) (ap (λ r. posting_row usage (codes "M") r p) first)
        ∙ ap (λ l. posting_row usage (codes "M") (reason_at owns p.0) p ∷ l) rest

-- and with them the rows of the book
pub book_rows_same : (book : List (List (ℕ × ℤ))) (usage : List UsageLine) (parties : List (List ℕ)) (reasons owns : List Reason)
    → residue_rows usage reasons (get_or book 0 []) ≡ residue_rows usage owns (get_or book 0 []) → rows_of_book book usage parties reasons ≡ rows_of_book book usage parties owns
book_rows_same book usage parties reasons owns is =
    ap (λ (l : List (List (List ℕ))). flat_map (λ e. payee_rows usage e.0 e.1) (zip (drop 1 parties) (drop 1 book)) ++ (l ++ run_row usage ∷ [])) is

-- what is read of a list whose places were all written is what was written there
pub read_of_written : {X : Type 0} (written old : List X) (n k : ℕ) (x d : X) → x ≡ get_or (take n (written ++ drop (length written) old)) k x → k < length written → n ≡ length written
    → get_or written k d ≡ x
read_of_written written old n k x d read low long =
    let own : x ≡ get_or written k x =
    read ∙ (get_or-take n (written ++ drop (length written) old) k x (omega (arith, low, long)) ∙ get_or_append_left written (drop (length written) old) x k low) in
    sym (get_or_read_under written k (length written) x d own low refl)
