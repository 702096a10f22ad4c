-- The text of rows that are written one after another.
use Rattle.std.proofs.Common.{◌≡◌, ◌+◌, ◌<◌, ◌++◌, ◌∷◌, ◌∙◌, [], ℕ, ℤ, suc, List, Some, ap, arith, codes, append_assoc, drop, flat_map, get_or, length, map, sym, take, unsigned_abs}
use Rattle.std.specs.Fmt.{signed_decimal}
use Rattle.std.specs.List.{enumerate_from}
use Rattle.std.specs.Prelude.{decimal, slice_get}
use Rattle.std.proofs.Math.Seq.{drop-cons}
use Rattle.std.proofs.lemmas.Grind.{flat_map-append}
use Rattle.std.proofs.lemmas.List.{append-nil, length-take-le, map_push, take-append-drop, take_more}
use Rattle.std.proofs.lemmas.Option.{get_or_from_slice_get}
use Rattle.csv_table.specs.Written.{text_of, text_of_row}
use Rattle.cwr_share.specs.Registered.{Registered}
use Rattle.explain_line.specs.Explanation.{IsRow, participant_row, payee_at}
use Rattle.line_split.proofs.Enumerated.{enumerated_more}
use Rattle.line_split.specs.Claims.{base_of, participants_of}
use Rattle.line_split.specs.LargestRemainder.{contenders_of, portion_of, quota_of, rank_of, remainder_of}
use Rattle.line_split.specs.Signs.{with_sign_of}
use Rattle.line_split.specs.UsageLine.{UsageLine}
use Rattle.line_split.specs.declared.by_rank.Working.{Working}

-- one row more
pub text_push : (rows : List (List (List ℕ))) (row : List (List ℕ)) → text_of (rows ++ row ∷ []) ≡ text_of rows ++ text_of_row row
text_push rows row = flat_map-append text_of_row rows (row ∷ []) ∙ ap (λ (l : List ℕ). text_of rows ++ l) (append-nil (text_of_row row))

-- rows and more of them
pub text_append : (rows others : List (List (List ℕ))) → text_of (rows ++ others) ≡ text_of rows ++ text_of others
text_append rows others = flat_map-append text_of_row rows others

-- behind a text
pub text_more : (start old new : List ℕ) (rows : List (List (List ℕ))) (row : List (List ℕ)) → old ≡ start ++ text_of rows → new ≡ old ++ text_of_row row → new ≡ start ++ text_of (rows ++ row ∷ [])
text_more start old new rows row was wrote =
    wrote ∙ (ap (λ (l : List ℕ). l ++ text_of_row row) was
    ∙ (append_assoc start (text_of rows) (text_of_row row) ∙ ap (λ (l : List ℕ). start ++ l) (sym (text_push rows row))))

-- the row of one element more, by its place
pub rows_more : {X : Type 0} (f : ℕ × X → List (List ℕ)) (xs : List X) (i : ℕ) (d : X) (start old new : List ℕ) → i < length xs
    → old ≡ start ++ text_of (map f (enumerate_from 0 (take i xs))) → new ≡ old ++ text_of_row (f (i, get_or xs i d)) → new ≡ start ++ text_of (map f (enumerate_from 0 (take (i + 1) xs)))
rows_more f xs i d start old new within was wrote =
    text_more start old new (map f (enumerate_from 0 (take i xs))) (f (i, get_or xs i d)) was wrote
    ∙ ap (λ (l : List (List (List ℕ))). start ++ text_of l) (sym (enumerated_more f xs i d within))

-- the rows of one element more
pub groups_more : {X Y : Type 0} (f : Y → List (List (List ℕ))) (g : X → Y) (xs : List X) (i : ℕ) (d : X) (start old new : List ℕ) → i < length xs
    → old ≡ start ++ text_of (flat_map f (map g (take i xs))) → new ≡ old ++ text_of (f (g (get_or xs i d))) → new ≡ start ++ text_of (flat_map f (map g (take (i + 1) xs)))
groups_more {X} {Y} f g xs i d start old new within was wrote =
    let before = flat_map f (map g (take i xs)) in
    let here = f (g (get_or xs i d)) in
    let all : flat_map f (map g (take (i + 1) xs)) ≡ before ++ here =
    ap (λ (l : List X). flat_map f (map g l)) (take_more xs i d within)
    ∙ (ap (flat_map f) (map_push g (take i xs) (get_or xs i d))
    ∙ (flat_map-append f (map g (take i xs)) (g (get_or xs i d) ∷ []) ∙ ap (λ (l : List (List (List ℕ))). before ++ l) (append-nil here))) in
    wrote ∙ (ap (λ (l : List ℕ). l ++ text_of here) was
    ∙ (append_assoc start (text_of before) (text_of here)
    ∙ (ap (λ (l : List ℕ). start ++ l) (sym (text_append before here)) ∙ ap (λ (l : List (List (List ℕ))). start ++ text_of l) (sym all))))

-- the text of five parts that are written one behind the other
pub five_parts : (a b c d e : List ℕ) → (((a ++ b) ++ c) ++ d) ++ e ≡ a ++ (b ++ (c ++ (d ++ e)))
five_parts a b c d e = append_assoc ((a ++ b) ++ c) d e ∙ (append_assoc (a ++ b) c (d ++ e) ∙ append_assoc a b (c ++ (d ++ e)))

-- the line at a place stands in the row after it
pub row_after : (lines : List UsageLine) (place : ℕ) (line : UsageLine) → place < length lines → slice_get lines place ≡ Some line → IsRow lines (place + 1) line
row_after lines place line within is =
    let here : get_or lines place line ≡ line = get_or_from_slice_get lines place line line is in
    record {
      before = take place lines;
      after = drop (suc place) lines;
      split = sym (take-append-drop place lines) ∙ ap (λ (l : List UsageLine). take place lines ++ l) (drop-cons lines place line within ∙ ap (λ (l : UsageLine). l ∷ drop (suc place) lines) here);
      place = ap (λ (n : ℕ). n + 1) (sym (length-take-le place lines (omega (arith, within))));
    }

-- The row of a participant, from its working

pub participant_is : (registered : Registered) (amount : ℤ) (claims : List (ℕ × ℕ)) (place : ℕ) (participant : ℕ × ℕ) (account : ℕ) (payee : List ℕ) (working : Working) (portion : ℤ) (size : ℕ)
    → size ≡ unsigned_abs amount → account ≡ participant.0 → payee ≡ payee_at registered account → working.share ≡ participant.1
    → working.quota ≡ quota_of size (base_of claims) working.share → working.remainder ≡ remainder_of size (base_of claims) working.share
    → working.rank ≡ rank_of (contenders_of size (base_of claims) (participants_of claims)) (place, working.remainder)
    → working.portion ≡ portion_of size (base_of claims) (participants_of claims) place working.share → portion ≡ with_sign_of amount working.portion
    → codes "P" ∷ decimal account ∷ payee ∷ decimal working.share ∷ decimal working.quota ∷ decimal working.remainder ∷ decimal (working.rank + 1) ∷ signed_decimal portion ∷ []
    ≡ participant_row registered amount claims (place, participant)
participant_is registered amount claims place participant account payee working portion size sized numbered named shared quota remainder rank portioned signed =
    let base = base_of claims in
    let quota' : working.quota ≡ quota_of (unsigned_abs amount) base participant.1 = quota ∙ (ap (λ (n : ℕ). quota_of n base working.share) sized ∙ ap (quota_of (unsigned_abs amount) base) shared) in
    let remainder' : working.remainder ≡ remainder_of (unsigned_abs amount) base participant.1 =
    remainder ∙ (ap (λ (n : ℕ). remainder_of n base working.share) sized ∙ ap (remainder_of (unsigned_abs amount) base) shared) in
    let rank' : working.rank ≡ rank_of (contenders_of (unsigned_abs amount) base (participants_of claims)) (place, remainder_of (unsigned_abs amount) base participant.1) =
    rank ∙ (ap (λ (n : ℕ). rank_of (contenders_of n base (participants_of claims)) (place, working.remainder)) sized
    ∙ ap (λ (n : ℕ). rank_of (contenders_of (unsigned_abs amount) base (participants_of claims)) (place, n)) remainder') in
    let portion' : portion ≡ with_sign_of amount (portion_of (unsigned_abs amount) base (participants_of claims) place participant.1) =
    signed ∙ ap (with_sign_of amount) (portioned ∙ (ap (λ (n : ℕ). portion_of n base (participants_of claims) place working.share) sized
    ∙ ap (portion_of (unsigned_abs amount) base (participants_of claims) place) shared)) in
    ap (λ (n : ℕ). codes "P" ∷ decimal n ∷ payee ∷ decimal working.share ∷ decimal working.quota ∷ decimal working.remainder ∷ decimal (working.rank + 1) ∷ signed_decimal portion ∷ []) numbered
    ∙ (ap (λ (l : List ℕ). codes "P" ∷ decimal participant.0 ∷ l ∷ decimal working.share ∷ decimal working.quota ∷ decimal working.remainder ∷ decimal (working.rank + 1) ∷ signed_decimal portion ∷ [])
    (named ∙ ap (payee_at registered) numbered)
    ∙ (ap (λ (n : ℕ). codes "P" ∷ decimal participant.0 ∷ payee_at registered participant.0 ∷ decimal n ∷ decimal working.quota ∷ decimal working.remainder ∷ decimal (working.rank + 1) ∷ signed_decimal portion ∷ []) shared
    ∙ (ap (λ (n : ℕ). codes "P" ∷ decimal participant.0 ∷ payee_at registered participant.0 ∷ decimal participant.1 ∷ decimal n ∷ decimal working.remainder ∷ decimal (working.rank + 1) ∷ signed_decimal portion ∷ []) quota'
    ∙ (ap (λ (n : ℕ). codes "P" ∷ decimal participant.0 ∷ payee_at registered participant.0 ∷ decimal participant.1 ∷ decimal (quota_of (unsigned_abs amount) base participant.1) ∷ decimal n ∷ decimal (working.rank + 1) ∷ signed_decimal portion ∷ []) remainder'
    ∙ (ap (λ (n : ℕ). codes "P" ∷ decimal participant.0 ∷ payee_at registered participant.0 ∷ decimal participant.1 ∷ decimal (quota_of (unsigned_abs amount) base participant.1)
    ∷ decimal (remainder_of (unsigned_abs amount) base participant.1) ∷ decimal (n + 1) ∷ signed_decimal portion ∷ []) rank'
    ∙ ap (λ (z : ℤ). codes "P" ∷ decimal participant.0 ∷ payee_at registered participant.0 ∷ decimal participant.1 ∷ decimal (quota_of (unsigned_abs amount) base participant.1)
    ∷ decimal (remainder_of (unsigned_abs amount) base participant.1)
    ∷ decimal (rank_of (contenders_of (unsigned_abs amount) base (participants_of claims)) (place, remainder_of (unsigned_abs amount) base participant.1) + 1) ∷ signed_decimal z ∷ []) portion')))))
