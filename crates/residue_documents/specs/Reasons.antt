-- Reasons why money is held back, in words, and the table of them.
use Rattle.std.specs.Prelude.{ℕ, ℤ, pos, ◌+◌, ◌≤◌, ◌+ℤ◌, ◌==◌, ◌^◌, ◌∷◌, [], List}
use Rattle.std.specs.Prelude.{codes, if◌then◌else◌, int_lt, unsigned_abs}
use Rattle.line_split.specs.ReasonTexts.{reason_text}
use Rattle.line_split.specs.declared.reason.Reason.{Reason}
use Rattle.line_split.specs.declared.reason.Reason.TheVariants.{Work, Land, Over, Open}
use Rattle.page_parts.specs.Pieces.{all_of}
use Rattle.page_parts.specs.Tags.{row_tag_text}
use Rattle.page_text.specs.Figures.{amount_text, count_text}
use Rattle.residue_documents.specs.Sums.{HeldSum, sum_shown}
use Rattle.residue_documents.specs.declared.reasons.ReasonSums as kept
use Rattle.residue_documents.specs.declared.reasons.TheConstants.{WORK_MEANS, LAND_MEANS, OVER_MEANS, OPEN_MEANS}
use Rattle.residue_documents.specs.declared.reasons.TheConstants.{WORK_TODO, LAND_TODO, OVER_TODO, OPEN_TODO}

abbrev pub reason_name : Reason → List ℕ
reason_name Work = codes "Unregistered"
reason_name Land = codes "Territory unknown"
reason_name Over = codes "Overclaimed"
reason_name Open = codes "Unclaimed"

abbrev pub meaning_of : Reason → List ℕ
meaning_of Work = WORK_MEANS.now
meaning_of Land = LAND_MEANS.now
meaning_of Over = OVER_MEANS.now
meaning_of Open = OPEN_MEANS.now

abbrev pub todo_of : Reason → List ℕ
todo_of Work = WORK_TODO.now
todo_of Land = LAND_TODO.now
todo_of Over = OVER_TODO.now
todo_of Open = OPEN_TODO.now

-- what is held back for each reason
pub record ReasonSums : Type 0 where
  pub work : HeldSum
  pub land : HeldSum
  pub over : HeldSum
  pub open_share : HeldSum

-- as it is kept
abbrev pub sums_shown : kept.ReasonSums → ReasonSums
sums_shown sums = record {
  work = sum_shown sums.work;
  land = sum_shown sums.land;
  over = sum_shown sums.over;
  open_share = sum_shown sums.open;
}

-- sums that can be added
abbrev pub IsSmall : HeldSum → Type 0
IsSmall sum = (sum.lines ≤ 2 ^ 32) × (unsigned_abs sum.amount ≤ 2 ^ 63)

pub record CanBeAdded (sums : kept.ReasonSums) : Type 0 where
  pub work : IsSmall (sums_shown sums).work
  pub land : IsSmall (sums_shown sums).land
  pub over : IsSmall (sums_shown sums).over
  pub open_share : IsSmall (sums_shown sums).open_share

-- what they come to
abbrev pub lines_in : ReasonSums → ℕ
lines_in sums = sums.work.lines + sums.land.lines + sums.over.lines + sums.open_share.lines

abbrev pub amount_in : ReasonSums → ℤ
amount_in sums = sums.work.amount +ℤ sums.land.amount +ℤ sums.over.amount +ℤ sums.open_share.amount

abbrev pub reasons_head : List ℕ
reasons_head = all_of (
    codes "<table><caption>The residue by reason</caption><thead><tr><th scope=\"col\">Reason</th>"
    ∷ codes "<th scope=\"col\" class=\"n\">Lines</th><th scope=\"col\" class=\"n opt\">Works</th>"
    ∷ codes "<th scope=\"col\" class=\"n\">Amount</th></tr></thead><tbody>\n" ∷ [])

-- the name of a reason, which leads to its section of the page that `link` names
abbrev pub link_text : (link : List ℕ) → Reason → List ℕ
link_text link reason = all_of (
    codes "<a href=\"" ∷ link ∷ codes "#" ∷ reason_text reason ∷ codes "\">" ∷ reason_name reason ∷ codes "</a>" ∷ [])

-- there is such a section where lines have the reason
abbrev pub linked_name_text : (link : List ℕ) → Reason → HeldSum → List ℕ
linked_name_text link reason sum = all_of (
    row_tag_text (int_lt sum.amount (pos 0)) ∷ codes "<th scope=\"row\"><svg class=\"key " ∷ reason_text reason
    ∷ codes "\" viewBox=\"0 0 1 1\" aria-hidden=\"true\"><rect width=\"1\" height=\"1\"/></svg>"
    ∷ (if sum.lines == 0 then reason_name reason else link_text link reason)
    ∷ codes " <span class=\"code\">" ∷ reason_text reason ∷ codes "</span>" ∷ [])

-- the row of a reason
abbrev pub reason_row_text : (decimals : ℕ) → (link : List ℕ) → Reason → HeldSum → List ℕ
reason_row_text decimals link reason sum = all_of (
    linked_name_text link reason sum ∷ codes "</th><td class=\"n\">" ∷ count_text sum.lines
    ∷ codes "</td><td class=\"n opt\">" ∷ count_text sum.works ∷ codes "</td><td class=\"n\">"
    ∷ amount_text decimals sum.amount ∷ codes "</td></tr>\n" ∷ [])

abbrev pub reasons_total_text : (decimals : ℕ) → ReasonSums → List ℕ
reasons_total_text decimals sums = all_of (
    codes "</tbody><tfoot>" ∷ row_tag_text (int_lt (amount_in sums) (pos 0))
    ∷ codes "<th scope=\"row\">Residue</th><td class=\"n\">" ∷ count_text (lines_in sums)
    ∷ codes "</td><td class=\"n opt\"></td><td class=\"n\">" ∷ amount_text decimals (amount_in sums)
    ∷ codes "</td></tr></tfoot></table>\n" ∷ [])

-- the table of the residue by reason
abbrev pub reasons_text : (decimals : ℕ) → (link : List ℕ) → ReasonSums → List ℕ
reasons_text decimals link sums = all_of (
    reasons_head ∷ reason_row_text decimals link Work sums.work ∷ reason_row_text decimals link Land sums.land
    ∷ reason_row_text decimals link Over sums.over ∷ reason_row_text decimals link Open sums.open_share
    ∷ reasons_total_text decimals sums ∷ [])
