-- The postings of one line in the statement of an account.
use Rattle.std.proofs.Common.{◌≡◌, ◌+◌, ◌<◌, ◌==◌, ◌++◌, ◌∷◌, ◌∙◌, [], ℕ, ℤ, Bool, true, false, List, ap, append_assoc, arith, cond, drop, eq-eqb, filter, length, map, refl, subst, sym}
use Rattle.std.specs.List.{enumerate_from}
use Rattle.std.proofs.Math.Seq.{drop-append_seam}
use Rattle.std.proofs.lemmas.Bool.{cond-false, cond-true, ne_eqb}
use Rattle.std.proofs.lemmas.List.{length_push}
use Rattle.line_split.specs.Signs.{is_not_zero}
use Rattle.line_split.specs.UsageLine.{UsageLine}
use Rattle.cwr_share.specs.ClaimsOn.{decides, deciding}
use Rattle.cwr_share.specs.Registrations.{ShareLine}

-- Of numbered lines, those that stand at a place

abbrev at_place : ℕ → ℕ × ℤ → Bool
at_place place posting = posting.0 == place

abbrev numbered : (UsageLine → ℤ) → ℕ × UsageLine → ℕ × ℤ
numbered amount e = (e.0, amount e.1)

abbrev some_of : (UsageLine → ℤ) → ℕ → List UsageLine → List (ℕ × ℤ)
some_of amount n lines = filter (λ (posting : ℕ × ℤ). is_not_zero posting.1) (map (numbered amount) (enumerate_from n lines))

-- another line in front is none of them
passed : (place n : ℕ) (amount : ℤ) (postings : List (ℕ × ℤ)) → ¬ (n ≡ place) → (b : Bool) → filter (at_place place) (cond b ((n, amount) ∷ postings) postings) ≡ filter (at_place place) postings
passed place n amount postings other true = cond-false (n == place) ((n, amount) ∷ filter (at_place place) postings) (filter (at_place place) postings) (ne_eqb n place other)
passed place n amount postings other false = refl

none_after : (amount : UsageLine → ℤ) (place n : ℕ) (lines : List UsageLine) → place < n → filter (at_place place) (some_of amount n lines) ≡ []
none_after amount place n [] before = refl
none_after amount place n (line ∷ lines) before =
    passed place n (amount line) (some_of amount (n + 1) lines) (λ same. absurd (omega (arith, before, same))) (is_not_zero (amount line))
    ∙ none_after amount place (n + 1) lines (omega (arith, before))

pub one_at : (amount : UsageLine → ℤ) (n : ℕ) (before : List UsageLine) (line : UsageLine) (after : List UsageLine)
    → filter (at_place (n + length before)) (some_of amount n (before ++ line ∷ after)) ≡ filter (λ (posting : ℕ × ℤ). is_not_zero posting.1) ((n + length before, amount line) ∷ [])
one_at amount n [] line after =
    let here : n + 0 ≡ n = omega arith in
    ap (λ (k : ℕ). filter (at_place k) (some_of amount n (line ∷ after))) here
    ∙ (first (is_not_zero (amount line))
    ∙ ap (λ (k : ℕ). filter (λ (posting : ℕ × ℤ). is_not_zero posting.1) ((k, amount line) ∷ [])) (sym here))
  where
    first : (b : Bool) → filter (at_place n) (cond b ((n, amount line) ∷ some_of amount (n + 1) after) (some_of amount (n + 1) after)) ≡ cond b ((n, amount line) ∷ []) []
    first true =
        cond-true (n == n) ((n, amount line) ∷ filter (at_place n) (some_of amount (n + 1) after)) (filter (at_place n) (some_of amount (n + 1) after)) (eq-eqb n n refl)
        ∙ ap (λ (l : List (ℕ × ℤ)). (n, amount line) ∷ l) (none_after amount n (n + 1) after (omega arith))
    first false = none_after amount n (n + 1) after (omega arith)
one_at amount n (other ∷ before) line after =
    let next : (n + 1) + length before ≡ n + length (other ∷ before) = omega arith in
    passed (n + length (other ∷ before)) n (amount other) (some_of amount (n + 1) (before ++ line ∷ after)) (λ same. absurd (omega (arith, same))) (is_not_zero (amount other))
    ∙ subst (λ (k : ℕ). filter (at_place k) (some_of amount (n + 1) (before ++ line ∷ after)) ≡ filter (λ (posting : ℕ × ℤ). is_not_zero posting.1) ((k, amount line) ∷ [])) next
    (one_at amount (n + 1) before line after)

-- The lines that decide

abbrev share_in : ℕ × ShareLine → ShareLine
share_in e = e.1

abbrev is_last : List (ℕ × List ℕ) → ℕ → List ShareLine → ℕ × ShareLine → Bool
is_last table land whole e = decides table land e.1 (drop (e.0 + 1) whole)

pub deciding_from : (table : List (ℕ × List ℕ)) (land : ℕ) (whole earlier shares : List ShareLine) (n : ℕ) → whole ≡ earlier ++ shares → n ≡ length earlier
    → map share_in (filter (is_last table land whole) (enumerate_from n shares)) ≡ deciding table land shares
unfolding deciding
deciding_from table land whole earlier [] n is at = refl
deciding_from table land whole earlier (share ∷ later) n is at =
    let split = is ∙ sym (append_assoc earlier (share ∷ []) later) in
    let count : n + 1 ≡ length (earlier ++ share ∷ []) = omega (arith, at, length_push earlier share) in
    let left : drop (n + 1) whole ≡ later = ap (drop (n + 1)) split ∙ (ap (λ (k : ℕ). drop k ((earlier ++ share ∷ []) ++ later)) count ∙ drop-append_seam (earlier ++ share ∷ []) later) in
    let rest = deciding_from table land whole (earlier ++ share ∷ []) later (n + 1) split count in
    ap (λ (l : List ShareLine). map share_in (cond (decides table land share l) ((n, share) ∷ filter (is_last table land whole) (enumerate_from (n + 1) later)) (filter (is_last table land whole) (enumerate_from (n + 1) later)))) left
    ∙ by (decides table land share later) rest
  where
    by : (b : Bool) → map share_in (filter (is_last table land whole) (enumerate_from (n + 1) later)) ≡ deciding table land later
        → map share_in (cond b ((n, share) ∷ filter (is_last table land whole) (enumerate_from (n + 1) later)) (filter (is_last table land whole) (enumerate_from (n + 1) later)))
        ≡ cond b (share ∷ deciding table land later) (deciding table land later)
    by true rest = ap (λ (l : List ShareLine). share ∷ l) rest
    by false rest = rest
