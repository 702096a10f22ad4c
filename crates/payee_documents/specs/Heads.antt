-- The head of a statement.
use Rattle.std.specs.Prelude.{ℕ, pos, ◌==◌, ◌∷◌, [], Bool, List, codes, if◌then◌else◌, int_lt, length}
use Rattle.page_parts.specs.Facts.{Distribution, fact_text, figure_text}
use Rattle.page_parts.specs.Pieces.{all_of, in_page}
use Rattle.page_text.specs.Figures.{amount_text, count_text}
use Rattle.payee_documents.specs.Payees.{Payee, name_shown}
use Rattle.payee_documents.specs.declared.heads.TheConstants.{DEBT}
use Rattle.payee_portions.specs.Portions.{Portion}
use Rattle.payee_portions.specs.Reversals.{reversals_of}
use Rattle.payee_portions.specs.Sections.{sections_of}
use Rattle.payee_portions.specs.Sums.{sum_of}

-- what the page is, and whose
abbrev pub title_text : Payee → List ℕ
title_text payee = all_of (
    codes "<main>\n<header><p class=\"kind\">Royalty statement</p><h1>" ∷ in_page (name_shown payee)
    ∷ codes "</h1>\n" ∷ [])

abbrev pub facts_text : Distribution → Payee → List ℕ
facts_text distribution payee = all_of (
    codes "<dl class=\"facts\">" ∷ fact_text (codes "Account") payee.account
    ∷ fact_text (codes "Distribution") distribution.title ∷ fact_text (codes "Registrations") distribution.sources
    ∷ codes "</dl>\n" ∷ [])

-- a total is payable, or below 0 owed
abbrev pub due_label_text : (is_negative : Bool) → List ℕ
due_label_text is_negative = if is_negative then codes "Balance owed by you" else codes "Total payable"

-- a debt is explained
abbrev pub debt_text : (is_negative : Bool) → List ℕ
debt_text is_negative = if is_negative then DEBT.now else codes "</div>\n"

-- what is due, with the number of portions and of works
abbrev pub due_text : Distribution → List Portion → List ℕ
due_text distribution portions = all_of (
    codes "<div class=\"due\">"
    ∷ figure_text distribution.decimals (due_label_text (int_lt (sum_of portions) (pos 0))) (sum_of portions)
    distribution.currency
    ∷ codes "portions: " ∷ count_text (length portions) ∷ codes ", works: " ∷ count_text (length (sections_of portions))
    ∷ codes "</i></p>" ∷ debt_text (int_lt (sum_of portions) (pos 0)) ∷ [])

-- what reversals come to, where there are some
abbrev pub lead_text : (decimals : ℕ) → List Portion → List ℕ
lead_text decimals portions =
    if length (reversals_of portions) == 0 then []
    else all_of (
    codes "<p class=\"lead\">This includes <b class=\"neg\">" ∷ amount_text decimals (sum_of (reversals_of portions))
    ∷ codes "</b> for reversals (" ∷ count_text (length (reversals_of portions))
    ∷ codes "), marked <span class=\"back neg\">Reversal</span> below.</p>\n" ∷ [])

abbrev pub head_text : Distribution → Payee → List ℕ
head_text distribution payee = all_of (
    title_text payee ∷ facts_text distribution payee ∷ due_text distribution payee.portions
    ∷ lead_text distribution.decimals payee.portions ∷ codes "</header>\n" ∷ [])
