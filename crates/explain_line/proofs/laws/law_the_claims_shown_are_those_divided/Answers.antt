use Rattle.std.proofs.Common.{◌≡◌, ◌∙◌, ◌+◌, ◌++◌, ◌⊎◌, ◌∷◌, [], ℕ, Bool, List, Option, Some, None, true, false, ap, cond, count_by, drop, inl, inr, length, map, refl, sym}
use Rattle.std.specs.Option.{option_map}
use Rattle.std.proofs.lemmas.Bool.{cases_Bool}
use Rattle.std.proofs.lemmas.List.{append-nil, length_push}
use Rattle.cwr_share.proofs.ClaimLemmas.{against_work}
use Rattle.cwr_share.proofs.FileLemmas.{by_pushes, count_by_no, count_by_yes, length_share_lines}
use Rattle.cwr_share.proofs.FiledLemmas.{in_force_is, share_numbers_push}
use Rattle.cwr_share.specs.ClaimsOn.{claims_by, claims_on, reason_against}
use Rattle.cwr_share.specs.Filed.{body_of, last_opening, share_numbers, shares_from}
use Rattle.cwr_share.specs.Lines.{lines_of}
use Rattle.cwr_share.specs.Records.{is_share_line}
use Rattle.cwr_share.specs.Registered.{Registered}
use Rattle.cwr_share.specs.Registrations.{find_work}
use Rattle.line_split.specs.UsageLine.{UsageLine}
use Rattle.explain_line.proofs.ClaimedLemmas.{divided}
use Rattle.explain_line.proofs.laws.law_the_claims_shown_are_those_divided.Goals as goal

-- a registration in force begins in a line of its file
opened : (table : List (ℕ × List ℕ)) (registered : Registered) (line : UsageLine) (file : List (List ℕ)) → find_work line.work registered.works ≡ option_map (shares_from file) (last_opening file line.work)
    → reason_against table registered line ≡ None → (opening : Option ℕ) → last_opening file line.work ≡ opening
    → (number : ℕ) × (opening ≡ Some number) × (claims_by table registered line (shares_from file number) ≡ claims_on table registered line)
opened table registered line file found free None is =
    let none : find_work line.work registered.works ≡ None = found ∙ ap (option_map (shares_from file)) is in
    let reason = (against_work table registered line none).0 in
    cc
opened table registered line file found free (Some number) is =
    (number, refl, divided table registered line (shares_from file number) (found ∙ ap (option_map (shares_from file)) is) free)

pub returns-clause-claims : goal.returns-clause-claims
returns-clause-claims c = λ files tables line read free.
    let file = lines_of files.registrations in
    opened tables.territories tables.registry line file (read.registrations.registry.in_force line.work ∙ in_force_is file line.work) free (last_opening file line.work) refl

-- there are as many numbers as share lines
numbered : (first : ℕ) (body : List (List ℕ)) → length (share_numbers first body) ≡ count_by is_share_line body
numbered first = by_pushes (λ body. length (share_numbers first body) ≡ count_by is_share_line body) refl more
  where
    more : (body : List (List ℕ)) (line : List ℕ) → length (share_numbers first body) ≡ count_by is_share_line body → length (share_numbers first (body ++ line ∷ [])) ≡ count_by is_share_line (body ++ line ∷ [])
    more body line sofar =
        ap length (share_numbers_push first body line) ∙ by (cases_Bool (is_share_line line))
      where
        by : (is_share_line line ≡ true) ⊎ (is_share_line line ≡ false)
            → length (share_numbers first body ++ map (λ (e : ℕ × List ℕ). e.0) (cond (is_share_line line) ((first + length body, line) ∷ []) [])) ≡ count_by is_share_line (body ++ line ∷ [])
        by (inl is) =
            ap (λ (b : Bool). length (share_numbers first body ++ map (λ (e : ℕ × List ℕ). e.0) (cond b ((first + length body, line) ∷ []) []))) is
            ∙ (length_push (share_numbers first body) (first + length body) ∙ (ap (λ (n : ℕ). n + 1) sofar ∙ sym (count_by_yes is_share_line body line is)))
        by (inr is) =
            ap (λ (b : Bool). length (share_numbers first body ++ map (λ (e : ℕ × List ℕ). e.0) (cond b ((first + length body, line) ∷ []) []))) is
            ∙ (ap length (append-nil (share_numbers first body)) ∙ (sofar ∙ sym (count_by_no is_share_line body line is)))

pub returns-clause-numbers : goal.returns-clause-numbers
returns-clause-numbers c = λ file number. let body = body_of (drop number file) in numbered (number + 1) body ∙ sym (length_share_lines body)
