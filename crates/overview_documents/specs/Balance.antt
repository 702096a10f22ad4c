-- The balance: what came in, and what became of it.
use Rattle.std.specs.Prelude.{ℕ, ℤ, pos, true, false, ◌+◌, ◌+ℤ◌, ◌∷◌, [], List, codes, int_lt}
use Rattle.overview_documents.specs.Lines.{LineSum}
use Rattle.overview_documents.specs.Overviews.{Overview}
use Rattle.overview_documents.specs.Payees.{Group, group_of}
use Rattle.overview_documents.specs.declared.balance.TheConstants.{IN_HEAD, OUT_HEAD}
use Rattle.page_parts.specs.Pieces.{all_of}
use Rattle.page_parts.specs.Tags.{row_tag_text}
use Rattle.page_text.specs.Figures.{amount_text, count_text}
use Rattle.residue_documents.specs.Reasons.{amount_in, lines_in}

-- the row of a right
abbrev pub in_row_text : (decimals : ℕ) → (right : List ℕ) → LineSum → List ℕ
in_row_text decimals right sum = all_of (
    row_tag_text (int_lt sum.amount (pos 0)) ∷ codes "<th scope=\"row\">" ∷ right
    ∷ codes "</th><td class=\"n\">" ∷ count_text sum.lines
    ∷ codes "</td><td class=\"n\">" ∷ amount_text decimals sum.amount ∷ codes "</td></tr>\n" ∷ [])

-- the row of a total, and the end of the table
abbrev pub total_row_text : (decimals : ℕ) → (words : List ℕ) → (count : ℕ) → (amount : ℤ) → List ℕ
total_row_text decimals words count amount = all_of (
    codes "</tbody><tfoot>" ∷ row_tag_text (int_lt amount (pos 0)) ∷ codes "<th scope=\"row\">" ∷ words
    ∷ codes "</th><td class=\"n\">" ∷ count_text count ∷ codes "</td><td class=\"n\">" ∷ amount_text decimals amount ∷ codes "</td></tr></tfoot></table>\n" ∷ [])

-- what came in, by right
abbrev pub in_text : (decimals : ℕ) → Overview → List ℕ
in_text decimals overview = all_of (
    IN_HEAD.now ∷ in_row_text decimals (codes "Performing") overview.performing
    ∷ in_row_text decimals (codes "Mechanical") overview.mechanical
    ∷ in_row_text decimals (codes "Synchronisation") overview.synchronisation
    ∷ total_row_text decimals (codes "Usage money") overview.lines.lines overview.lines.amount ∷ [])

-- the row of a group of payees
abbrev pub out_row_text : (decimals : ℕ) → (words : List ℕ) → Group → List ℕ
out_row_text decimals words group = all_of (
    row_tag_text (int_lt group.amount (pos 0)) ∷ codes "<th scope=\"row\">" ∷ words ∷ count_text group.payees
    ∷ codes "</th><td class=\"n\">" ∷ count_text group.portions ∷ codes "</td><td class=\"n\">"
    ∷ amount_text decimals group.amount ∷ codes "</td></tr>\n" ∷ [])

-- what is held back
abbrev pub held : Overview → Group
held overview = record { payees = 0; portions = lines_in overview.residue; amount = amount_in overview.residue }

abbrev pub residue_row_text : (decimals : ℕ) → Group → List ℕ
residue_row_text decimals held = all_of (
    row_tag_text (int_lt held.amount (pos 0)) ∷ codes "<th scope=\"row\">Residue</th><td class=\"n\">"
    ∷ count_text held.portions ∷ codes "</td><td class=\"n\">" ∷ amount_text decimals held.amount
    ∷ codes "</td></tr>\n" ∷ [])

-- what became of it: what is payable, what is owed, and what is held back
abbrev pub out_text : (decimals : ℕ) → Overview → List ℕ
out_text decimals overview = all_of (
    OUT_HEAD.now ∷ out_row_text decimals (codes "Payable to payees: ") (group_of false overview.payees)
    ∷ out_row_text decimals (codes "Owed by payees: ") (group_of true overview.payees)
    ∷ residue_row_text decimals (held overview)
    ∷ total_row_text decimals (codes "Payees and residue")
    ((group_of false overview.payees).portions + (group_of true overview.payees).portions + lines_in overview.residue)
    ((group_of false overview.payees).amount +ℤ (group_of true overview.payees).amount +ℤ amount_in overview.residue)
    ∷ [])

abbrev pub balance_text : (decimals : ℕ) → Overview → List ℕ
balance_text decimals overview = all_of (
    codes "<section class=\"keep\"><h2>The balance</h2><div class=\"stack\">" ∷ in_text decimals overview
    ∷ out_text decimals overview ∷ codes "</div></section>\n" ∷ [])
