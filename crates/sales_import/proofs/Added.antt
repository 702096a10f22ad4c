-- What one row adds.
use Rattle.std.proofs.Common.{◌≡◌, ◌∙◌, ◌+◌, ◌++◌, ◌∷◌, [], ℕ, List, append_assoc, append-nil, arith, ap, length, map, refl, subst, sym}
use Rattle.std.proofs.lemmas.Grind.{flat_map-append}
use Rattle.std.proofs.lemmas.List.{map-append}
use Rattle.csv_table.specs.Written.{text_of, text_of_row}
use Rattle.sales_lines.specs.declared.settings.Settings.{Settings}
use Rattle.sales_import.specs.Imported.{AreMade, IsMade, Made, Reject, both, line_row, lines_text, nothing, reject_row, rejects_text}

-- the text of one row
pub text_of_one : (row : List (List ℕ)) → text_of (row ∷ []) ≡ text_of_row row
text_of_one row = append-nil (text_of_row row)

-- ---- one row more

both_nothing : (made : Made) → both made nothing ≡ made
both_nothing made = rw (append-nil made.lines, append-nil made.rejects, append-nil made.passed, append-nil made.all) refl

nothing_both : (made : Made) → both nothing made ≡ made
nothing_both made = refl

both_assoc : (one other last : Made) → both (both one other) last ≡ both one (both other last)
both_assoc one other last =
    rw (append_assoc one.lines other.lines last.lines, append_assoc one.rejects other.rejects last.rejects, append_assoc one.passed other.passed last.passed, append_assoc one.all other.all last.all)
    refl

pub made_more : (settings : Settings) (number : ℕ) (rows : List (List (List ℕ))) (row : List (List ℕ)) (made own : Made)
    → AreMade settings number rows made → IsMade settings (number + length rows) row own
    → AreMade settings number (rows ++ row ∷ []) (both made own)
made_more settings number [] row made own none is =
    let same : number + 0 ≡ number = omega arith in
    (own, nothing, subst (λ (n : ℕ). IsMade settings n row own) same is, refl, ap (λ (it : Made). both it own) none ∙ (nothing_both own ∙ sym (both_nothing own)))
made_more settings number (first ∷ rows) row made own (before, others, is_first, are, all) is =
    let later : number + length (first ∷ rows) ≡ number + 1 + length rows = omega arith in
    let rest = made_more settings (number + 1) rows row others own are (subst (λ (n : ℕ). IsMade settings n row own) later is) in
    (before, both others own, is_first, rest, ap (λ (it : Made). both it own) all ∙ both_assoc before others own)

pub lines_of_both : (one other : Made) → lines_text (both one other) ≡ lines_text one ++ lines_text other
lines_of_both one other =
    ap text_of (map-append line_row one.lines other.lines) ∙ flat_map-append text_of_row (map line_row one.lines) (map line_row other.lines)

abbrev the_row : Reject → List (List ℕ)
the_row reject = reject_row reject.number reject.reason reject.row

pub rejects_of_both : (one other : Made) → rejects_text (both one other) ≡ rejects_text one ++ rejects_text other
rejects_of_both one other =
    ap text_of (map-append the_row one.rejects other.rejects)
    ∙ flat_map-append text_of_row (map the_row one.rejects) (map the_row other.rejects)
