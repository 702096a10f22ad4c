-- What stands at the foot of a statement.
use Rattle.std.specs.Prelude.{ℕ, pos, ◌==◌, ◌∷◌, [], Bool, List, if◌then◌else◌, length, not, nat_lt}
use Rattle.std.specs.List.{list_any}
use Rattle.line_split.specs.declared.TheConstants.{FULL_SHARE}
use Rattle.page_parts.specs.Pieces.{all_of}
use Rattle.page_text.specs.Figures.{amount_text}
use Rattle.payee_documents.specs.declared.notes.TheConstants.{ALL_ADD_UP, EACH_USE, LARGEST_FIRST, OVER}
use Rattle.payee_documents.specs.declared.notes.TheConstants.{REVERSALS, TO_ASK, WHAT_IS_LEFT}
use Rattle.payee_portions.specs.Portions.{Portion}
use Rattle.payee_portions.specs.Reversals.{reversals_of}

-- how a portion is worked out, in steps of the smallest amount that a page can show
abbrev pub worked_out_text : (decimals : ℕ) → List ℕ
worked_out_text decimals = all_of (
    EACH_USE.now ∷ amount_text decimals (pos 1) ∷ WHAT_IS_LEFT.now ∷ amount_text decimals (pos 1) ∷ LARGEST_FIRST.now
    ∷ amount_text decimals (pos 1) ∷ ALL_ADD_UP.now ∷ [])

-- a portion is of a use with shares of more than 100 per cent
abbrev pub is_over : List Portion → Bool
is_over portions = list_any (λ portion. not (portion.base == FULL_SHARE)) portions

abbrev pub over_text : (is_over : Bool) → List ℕ
over_text is_over = if is_over then OVER.now else []

abbrev pub reversal_text : (count : ℕ) → List ℕ
reversal_text count = if nat_lt 0 count then REVERSALS.now else []

-- the notes that serve a payee's portions
abbrev pub notes_text : (decimals : ℕ) → List Portion → List ℕ
notes_text decimals portions = all_of (
    worked_out_text decimals ∷ over_text (is_over portions) ∷ reversal_text (length (reversals_of portions))
    ∷ TO_ASK.now ∷ [])
