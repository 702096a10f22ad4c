-- What is on sheets, one after another.
use Rattle.std.proofs.Common.{◌≡◌, ◌∙◌, ◌++◌, ◌+◌, ◌<◌, ◌≤◌, ◌∷◌, [], ℕ, suc, List, true, ap, ap₂, get_or, length, take, arith, refl, subst, sym}
use Rattle.std.proofs.lemmas.List.{flat_map_more, take_more}
use Rattle.std.proofs.KnownBytes.{Appends-trans}
use Rattle.std.specs.Io.KnownBytes.{Appends}
use Rattle.std.specs.Prelude.{Option}
use Rattle.csv_table.specs.Written.{Page, text_of}
use Rattle.payee_book.specs.Waves.{AreBlank, AreWhole, all_rows, between, share_of, start_of, text_on}
use Rattle.payee_book.specs.declared.sheets.Sheet.{Sheet}
use Rattle.payee_book.specs.declared.sheets.Wave.{Wave}
use Rattle.payee_book.proofs.PartLemmas.{between_none, text_joined}

-- there is nothing on blank ones
pub text_on_blank : (sheets : List Sheet) → AreBlank sheets → text_on sheets ≡ []
text_on_blank [] blank = refl
text_on_blank (sheet ∷ sheets) blank =
    ap₂ ◌++◌ (ap (λ (page : Page). page.text) (blank 0 sheet (omega arith))) (text_on_blank sheets (λ k d below. blank (suc k) d (omega (arith, below))))

-- where each has the rows of its thread, they have those of all threads
pub shares_joined : (wave : Wave) (place : ℕ) (sheets : List Sheet)
    → ((k : ℕ) (d : Sheet) → k < length sheets → (get_or sheets k d).is_whole ≡ true → (get_or sheets k d).rows.text ≡ text_of (share_of wave (place + k)))
    → AreWhole sheets
    → text_on sheets ≡ text_of (between (start_of wave place) (start_of wave (place + length sheets)) (all_rows wave))
shares_joined wave place [] each whole = sym (ap text_of (between_none (all_rows wave) (start_of wave place) (start_of wave (place + 0)) (omega arith)))
shares_joined wave place (sheet ∷ sheets) each whole =
    let here : place + 0 ≡ place = omega arith in
    let end : place + 1 + length sheets ≡ place + length (sheet ∷ sheets) = omega arith in
    let first : sheet.rows.text ≡ text_of (share_of wave place) =
    subst (λ (n : ℕ). sheet.rows.text ≡ text_of (share_of wave n)) here (each 0 sheet (omega arith) (whole 0 sheet (omega arith))) in
    let rest : text_on sheets ≡ text_of (between (start_of wave (place + 1)) (start_of wave (place + 1 + length sheets)) (all_rows wave)) =
    shares_joined wave (place + 1) sheets
    (λ k d below is.
    let next : place + suc k ≡ place + 1 + k = omega arith in
    subst (λ (n : ℕ). (get_or sheets k d).rows.text ≡ text_of (share_of wave n)) next (each (suc k) d (omega (arith, below)) is))
    (λ k d below. whole (suc k) d (omega (arith, below))) in
    ap₂ ◌++◌ first rest
    ∙ (text_joined (all_rows wave) (start_of wave place) (start_of wave (place + 1)) (start_of wave (place + 1 + length sheets)) (omega arith) (omega arith)
    ∙ ap (λ (n : ℕ). text_of (between (start_of wave place) (start_of wave n) (all_rows wave))) end)

-- The first rows are passed on, and then what is on sheets: the rows after these.
pub passed_after : (start mid end : Option (List ℕ)) (rows : List (List (List ℕ))) (passed from : ℕ) (sheets : List Sheet)
    → passed ≤ from → Appends start mid (text_of (between 0 passed rows))
    → (AreWhole sheets → text_on sheets ≡ text_of (between passed from rows)) → AreWhole sheets → Appends mid end (text_on sheets)
    → Appends start end (text_of (between 0 from rows))
passed_after start mid end rows passed from sheets reached before waiting whole more =
    subst (Appends start end) (text_joined rows 0 passed from (omega arith) reached)
    (Appends-trans start mid end (text_of (between 0 passed rows)) (text_of (between passed from rows)) before (subst (Appends mid end) (waiting whole) more))

-- the first of sheets, and one more
pub text_on_more : (sheets : List Sheet) (k : ℕ) (d : Sheet) → k < length sheets → text_on (take k sheets) ++ (get_or sheets k d).rows.text ≡ text_on (take (k + 1) sheets)
text_on_more sheets k d below = flat_map_more (λ (sheet : Sheet). sheet.rows.text) [] (take k sheets) (get_or sheets k d) ∙ ap text_on (sym (take_more sheets k d below))
