-- A text has one first fault, and none where it is that of statements.
use Rattle.std.proofs.Common.{◌≡◌, ◌∙◌, ◌<◌, ◌+◌, ◌++◌, ◌∷◌, [], ◌⊎◌, inl, inr, ℕ, List, Bool, true, false, true≢false, length, get_or, ap, sym, refl, subst, append_assoc, arith}
use Rattle.std.proofs.lemmas.List.{append-nil, length-append}
use Rattle.csv.specs.Writing.{default_writer, is_blank, row_body}
use Rattle.csv_table.specs.Written.{text_of, text_of_row}
use Rattle.merge_statements.specs.Places.{At, Follows, KindFits, at_first, row_of}
use Rattle.merge_statements.specs.Refused.{AreRows, BeginsWithNoRow, BeginsWithWrong, IsFaultFrom, IsFaultIn, IsStatementText}
use Rattle.merge_statements.specs.Refused.AreRows.{none as no_rows, more as more_rows}
use Rattle.merge_statements.specs.Wrong.{IsWrongAt}
use Rattle.merge_statements.specs.declared.refusal.StatementFault.{StatementFault}
use Rattle.merge_statements.specs.declared.refusal.StatementFault.TheVariants.{AmountOrTotal, End, Kind, PayeeOrReason, Row, UsageOrCount}
use Rattle.merge_statements.specs.declared.walk.Place.{Place}
use Rattle.merge_statements.specs.declared.walk.Place.TheVariants.{Ended}
use Rattle.merge_statements.specs.declared.walk.Wrong.{Wrong}
use Rattle.merge_statements.specs.declared.walk.Wrong.TheVariants as wrong
use Rattle.merge_statements.proofs.Chains.{IsSound, first_sound, same_row, same_step, sound_on, stands_as_line}

-- whether it is a field
abbrev is_field : Wrong → Bool
is_field wrong.Memory = false
is_field _ = true

-- a row has a byte
some_byte : (line : List ℕ) (rest : List ℕ) → ¬ ((line ++ 10 ∷ []) ++ rest ≡ [])
some_byte line rest none = omega (arith, ap length none, length-append (line ++ 10 ∷ []) rest, length-append line (10 ∷ []))

-- the row that a text begins with
begins_as : (at : At) (text : List ℕ) (field : Wrong) (begins : BeginsWithWrong at text field) → text ≡ text_of_row (row_of begins.kind begins.payee_or_reason begins.usage_or_count begins.amount_or_total) ++ begins.rest
begins_as at text field begins =
    begins.begins.bytes ∙ (sym (append_assoc begins.line (10 ∷ []) begins.rest) ∙ ap (λ (l : List ℕ). l ++ begins.rest) (sym begins.row))

-- a row that fits has no field that does not
pub none_wrong : (at next : At) (row : List (List ℕ)) (rest behind : List ℕ) (text : List ℕ) → Follows at row next → text ≡ text_of_row row ++ rest
    → (field : Wrong) (kind payee_or_reason usage_or_count amount_or_total : List ℕ) → text ≡ text_of_row (row_of kind payee_or_reason usage_or_count amount_or_total) ++ behind → ¬ (field ≡ wrong.Memory) → ¬ IsWrongAt at kind payee_or_reason usage_or_count amount_or_total field
none_wrong at next row rest behind text follows is field kind payee_or_reason usage_or_count amount_or_total begins known wrong_at =
    let same = same_row (row_of kind payee_or_reason usage_or_count amount_or_total) (row_of follows.kind follows.payee_or_reason follows.usage_or_count follows.amount_or_total) behind rest
    (sym begins ∙ (is ∙ ap (λ (r : List (List ℕ)). text_of_row r ++ rest) follows.form)) in
    by field known (subst (λ (r : List (List ℕ)). IsWrongAt at (get_or r 0 []) (get_or r 1 []) (get_or r 2 []) (get_or r 3 []) field) same.0 wrong_at)
  where
    by : (field : Wrong) → ¬ (field ≡ wrong.Memory) → ¬ IsWrongAt at follows.kind follows.payee_or_reason follows.usage_or_count follows.amount_or_total field
    by wrong.Kind known not = not follows.fits.kind_fits
    by wrong.PayeeOrReason known not = not.1 follows.fits.payee_or_reason_fits
    by wrong.UsageOrCount known not = not.2 follows.fits.usage_or_count_fits
    by wrong.AmountOrTotal known not = not.3 follows.fits.amount_or_total_fits
    by wrong.Memory known not = known refl

row_some : (kind payee_or_reason usage_or_count amount_or_total rest : List ℕ) → ¬ (text_of_row (row_of kind payee_or_reason usage_or_count amount_or_total) ++ rest ≡ [])
unfolding is_blank
row_some kind payee_or_reason usage_or_count amount_or_total rest = some_byte (row_body default_writer (row_of kind payee_or_reason usage_or_count amount_or_total)) rest

-- where a row can stand, nothing is wrong
no_fault_here : (at next : At) (row : List (List ℕ)) (rest text : List ℕ) (number : ℕ) (fault : StatementFault) → IsSound at → Follows at row next → text ≡ text_of_row row ++ rest
    → ¬ IsFaultFrom at number text fault
no_fault_here at next row rest text number fault sound follows is = by fault
  where
    wrong_field : (field : Wrong) → ¬ (field ≡ wrong.Memory) → ¬ BeginsWithWrong at text field
    wrong_field field known begins =
        none_wrong at next row rest begins.rest text follows is field begins.kind begins.payee_or_reason begins.usage_or_count begins.amount_or_total (begins_as at text field begins) known begins.wrong_at

    by : (fault : StatementFault) → ¬ IsFaultFrom at number text fault
    by (Row r) none =
        let (line, of) = stands_as_line at next row sound follows in
        none.2 line rest row
        (record { bytes = is ∙ (ap (λ (l : List ℕ). l ++ rest) of.bytes ∙ append_assoc line (10 ∷ []) rest); one = of.none; short = of.short })
        (ap length follows.form) of.bytes
    by (Kind r) begins = wrong_field wrong.Kind (λ e. true≢false (ap is_field e)) begins.1
    by (PayeeOrReason r) begins = wrong_field wrong.PayeeOrReason (λ e. true≢false (ap is_field e)) begins.1
    by (UsageOrCount r) begins = wrong_field wrong.UsageOrCount (λ e. true≢false (ap is_field e)) begins.1
    by (AmountOrTotal r) begins = wrong_field wrong.AmountOrTotal (λ e. true≢false (ap is_field e)) begins.1
    by (End r) ends =
        let (line, of) = stands_as_line at next row sound follows in
        some_byte line rest (ap (λ (l : List ℕ). l ++ rest) (sym of.bytes) ∙ (sym is ∙ ends.1))

none_begins : (at : At) (field : Wrong) → ¬ BeginsWithWrong at [] field
none_begins at field begins = row_some begins.kind begins.payee_or_reason begins.usage_or_count begins.amount_or_total begins.rest (sym (begins_as at [] field begins))

-- nor where a text of statements ends
no_fault_at_end : (at : At) (number lines : ℕ) (fault : StatementFault) → at.place ≡ Ended lines → ¬ IsFaultFrom at number [] fault
no_fault_at_end at number lines (Row r) ended none = omega (arith, none.1)
no_fault_at_end at number lines (Kind r) ended begins = none_begins at wrong.Kind begins.1
no_fault_at_end at number lines (PayeeOrReason r) ended begins = none_begins at wrong.PayeeOrReason begins.1
no_fault_at_end at number lines (UsageOrCount r) ended begins = none_begins at wrong.UsageOrCount begins.1
no_fault_at_end at number lines (AmountOrTotal r) ended begins = none_begins at wrong.AmountOrTotal begins.1
no_fault_at_end at number lines (End r) ended ends = ends.2 lines ended

-- behind the last row stands none
nothing_behind : (at next : At) (row : List (List ℕ)) (lines : ℕ) → at.place ≡ Ended lines → ¬ Follows at row next
nothing_behind at next row lines ended follows = subst (λ (place : Place). KindFits place follows.kind) ended follows.fits.kind_fits

-- a text of rows and more
one_more : (row : List (List ℕ)) (rows : List (List (List ℕ))) (rest : List ℕ) → text_of (row ∷ rows) ++ rest ≡ text_of_row row ++ (text_of rows ++ rest)
one_more row rows rest = append_assoc (text_of_row row) (text_of rows) rest

no_fault_from : (at faulted last : At) (rows others : List (List (List ℕ))) (rest : List ℕ) (number lines : ℕ) (fault : StatementFault) → IsSound at → AreRows at rows faulted → AreRows at others last
    → last.place ≡ Ended lines → text_of rows ++ rest ≡ text_of others ++ [] → ¬ IsFaultFrom faulted number rest fault
no_fault_from _ _ _ _ _ rest number lines fault sound (no_rows at) (no_rows here) ended same is =
    no_fault_at_end at number lines fault ended (subst (λ (t : List ℕ). IsFaultFrom at number t fault) same is)
no_fault_from _ _ _ _ _ rest number lines fault sound (no_rows at) (more_rows here next last row rows follows are) ended same is =
    no_fault_here at next row (text_of rows ++ []) rest number fault sound follows (same ∙ one_more row rows []) is
no_fault_from _ _ _ _ _ rest number lines fault sound (more_rows at next faulted row rows follows are) (no_rows here) ended same is =
    nothing_behind at next row lines ended follows
no_fault_from _ _ _ _ _ rest number lines fault sound (more_rows at next faulted row rows follows are) (more_rows here to last other others goes so) ended same is =
    let step = same_step at next to row other (text_of rows ++ rest) (text_of others ++ []) follows goes (sym (one_more row rows rest) ∙ (same ∙ one_more other others [])) in
    no_fault_from next faulted last rows others rest number lines fault (sound_on at next row sound follows) are
    (subst (λ (place : At). AreRows place others last) (sym step.place) so) ended step.left is

pub no_fault : (text : List ℕ) (fault : StatementFault) (lines : ℕ) → IsFaultIn text fault → ¬ IsStatementText text lines
no_fault text fault lines is sound =
    no_fault_from at_first is.at sound.last is.rows sound.rows is.rest (length is.rows + 1) lines fault first_sound is.are sound.are sound.ended
    (sym is.bytes ∙ (sound.bytes ∙ sym (append-nil (text_of sound.rows)))) is.fault_from

-- ---- one fault

-- of a row's fields one is the first that does not fit
one_field : (at : At) (kind payee_or_reason usage_or_count amount_or_total : List ℕ) (field other : Wrong) → is_field field ≡ true → is_field other ≡ true → IsWrongAt at kind payee_or_reason usage_or_count amount_or_total field
    → IsWrongAt at kind payee_or_reason usage_or_count amount_or_total other → field ≡ other
one_field at kind payee_or_reason usage_or_count amount_or_total wrong.Kind wrong.Kind known is not is_not = refl
one_field at kind payee_or_reason usage_or_count amount_or_total wrong.Kind wrong.PayeeOrReason known is not is_not = absurd (not is_not.0)
one_field at kind payee_or_reason usage_or_count amount_or_total wrong.Kind wrong.UsageOrCount known is not is_not = absurd (not is_not.0)
one_field at kind payee_or_reason usage_or_count amount_or_total wrong.Kind wrong.AmountOrTotal known is not is_not = absurd (not is_not.0)
one_field at kind payee_or_reason usage_or_count amount_or_total wrong.PayeeOrReason wrong.Kind known is not is_not = absurd (is_not not.0)
one_field at kind payee_or_reason usage_or_count amount_or_total wrong.PayeeOrReason wrong.PayeeOrReason known is not is_not = refl
one_field at kind payee_or_reason usage_or_count amount_or_total wrong.PayeeOrReason wrong.UsageOrCount known is not is_not = absurd (not.1 is_not.1)
one_field at kind payee_or_reason usage_or_count amount_or_total wrong.PayeeOrReason wrong.AmountOrTotal known is not is_not = absurd (not.1 is_not.1)
one_field at kind payee_or_reason usage_or_count amount_or_total wrong.UsageOrCount wrong.Kind known is not is_not = absurd (is_not not.0)
one_field at kind payee_or_reason usage_or_count amount_or_total wrong.UsageOrCount wrong.PayeeOrReason known is not is_not = absurd (is_not.1 not.1)
one_field at kind payee_or_reason usage_or_count amount_or_total wrong.UsageOrCount wrong.UsageOrCount known is not is_not = refl
one_field at kind payee_or_reason usage_or_count amount_or_total wrong.UsageOrCount wrong.AmountOrTotal known is not is_not = absurd (not.2 is_not.2)
one_field at kind payee_or_reason usage_or_count amount_or_total wrong.AmountOrTotal wrong.Kind known is not is_not = absurd (is_not not.0)
one_field at kind payee_or_reason usage_or_count amount_or_total wrong.AmountOrTotal wrong.PayeeOrReason known is not is_not = absurd (is_not.1 not.1)
one_field at kind payee_or_reason usage_or_count amount_or_total wrong.AmountOrTotal wrong.UsageOrCount known is not is_not = absurd (is_not.2 not.2)
one_field at kind payee_or_reason usage_or_count amount_or_total wrong.AmountOrTotal wrong.AmountOrTotal known is not is_not = refl
one_field at kind payee_or_reason usage_or_count amount_or_total wrong.Memory other known is not is_not = absurd (true≢false (sym known))
one_field at kind payee_or_reason usage_or_count amount_or_total field wrong.Memory known is not is_not = absurd (true≢false (sym is))

one_field_of : (at : At) (text : List ℕ) (field other : Wrong) → is_field field ≡ true → is_field other ≡ true → BeginsWithWrong at text field → BeginsWithWrong at text other → field ≡ other
one_field_of at text field other known is begins goes =
    let same = same_row (row_of goes.kind goes.payee_or_reason goes.usage_or_count goes.amount_or_total) (row_of begins.kind begins.payee_or_reason begins.usage_or_count begins.amount_or_total) goes.rest begins.rest
    (sym (begins_as at text other goes) ∙ begins_as at text field begins) in
    one_field at begins.kind begins.payee_or_reason begins.usage_or_count begins.amount_or_total field other known is begins.wrong_at
    (subst (λ (r : List (List ℕ)). IsWrongAt at (get_or r 0 []) (get_or r 1 []) (get_or r 2 []) (get_or r 3 []) other) same.0 goes.wrong_at)

-- the fault that a wrong field is
abbrev fault_of : Wrong → ℕ → StatementFault
fault_of wrong.Kind number = Kind number
fault_of wrong.PayeeOrReason number = PayeeOrReason number
fault_of wrong.UsageOrCount number = UsageOrCount number
fault_of wrong.AmountOrTotal number = AmountOrTotal number
fault_of wrong.Memory number = End number

-- a fault is no row, a wrong field or the end
record IsWrongField (at : At) (number : ℕ) (text : List ℕ) (fault : StatementFault) : Type 0 where
  pub field : Wrong
  pub known : is_field field ≡ true
  pub is : fault ≡ fault_of field number
  pub begins : BeginsWithWrong at text field

abbrev IsOne : At → ℕ → List ℕ → StatementFault → Type 0
IsOne at number text fault =
    ((fault ≡ Row number) × (0 < length text) × BeginsWithNoRow text) ⊎ (IsWrongField at number text fault) ⊎ ((fault ≡ End number) × (text ≡ []))

is_one : (at : At) (number : ℕ) (text : List ℕ) (fault : StatementFault) → IsFaultFrom at number text fault → IsOne at number text fault
is_one at number text (Row r) is = inl (ap Row is.0, is.1, is.2)
is_one at number text (Kind r) is = inr (inl (record { field = wrong.Kind; known = refl; is = ap Kind is.0; begins = is.1 }))
is_one at number text (PayeeOrReason r) is = inr (inl (record { field = wrong.PayeeOrReason; known = refl; is = ap PayeeOrReason is.0; begins = is.1 }))
is_one at number text (UsageOrCount r) is = inr (inl (record { field = wrong.UsageOrCount; known = refl; is = ap UsageOrCount is.0; begins = is.1 }))
is_one at number text (AmountOrTotal r) is = inr (inl (record { field = wrong.AmountOrTotal; known = refl; is = ap AmountOrTotal is.0; begins = is.1 }))
is_one at number text (End r) is = inr (inr (ap End is.0, is.1))

no_row_and_wrong : (at : At) (text : List ℕ) (field : Wrong) → BeginsWithNoRow text → ¬ BeginsWithWrong at text field
no_row_and_wrong at text field none begins = none begins.line begins.rest (row_of begins.kind begins.payee_or_reason begins.usage_or_count begins.amount_or_total) begins.begins refl begins.row

wrong_and_end : (at : At) (text : List ℕ) (field : Wrong) → text ≡ [] → ¬ BeginsWithWrong at text field
wrong_and_end at text field ends begins = none_begins at field (subst (λ (t : List ℕ). BeginsWithWrong at t field) ends begins)

one_fault_here : (at : At) (number : ℕ) (text : List ℕ) (fault other : StatementFault) → IsFaultFrom at number text fault → IsFaultFrom at number text other → fault ≡ other
one_fault_here at number text fault other is is_too = elim (is_one at number text fault is) [
  | inl none ↦ elim (is_one at number text other is_too) [
    | inl none' ↦ none.0 ∙ sym none'.0
    | inr rest ↦ elim rest [
      | inl wrong' ↦ absurd (no_row_and_wrong at text wrong'.field none.2 wrong'.begins)
      | inr ends' ↦ absurd (omega (arith, none.1, ap length ends'.1))
    ]
  ]
  | inr more ↦ elim more [
    | inl wrong ↦ elim (is_one at number text other is_too) [
      | inl none' ↦ absurd (no_row_and_wrong at text wrong.field none'.2 wrong.begins)
      | inr rest ↦ elim rest [
        | inl wrong' ↦ wrong.is ∙ (ap (λ (field : Wrong). fault_of field number) (one_field_of at text wrong.field wrong'.field wrong.known wrong'.known wrong.begins wrong'.begins) ∙ sym wrong'.is)
        | inr ends' ↦ absurd (wrong_and_end at text wrong.field ends'.1 wrong.begins)
      ]
    ]
    | inr ends ↦ elim (is_one at number text other is_too) [
      | inl none' ↦ absurd (omega (arith, none'.1, ap length ends.1))
      | inr rest ↦ elim rest [
        | inl wrong' ↦ absurd (wrong_and_end at text wrong'.field ends.1 wrong'.begins)
        | inr ends' ↦ ends.0 ∙ sym ends'.0
      ]
    ]
  ]
]

one_fault_from : (at faulted blamed : At) (rows others : List (List (List ℕ))) (rest behind : List ℕ) (start number count : ℕ) (fault other : StatementFault) → IsSound at → AreRows at rows faulted
    → AreRows at others blamed → text_of rows ++ rest ≡ text_of others ++ behind → number ≡ length rows + start → count ≡ length others + start
    → IsFaultFrom faulted number rest fault → IsFaultFrom blamed count behind other → fault ≡ other
one_fault_from _ _ _ _ _ rest behind start number count fault other sound (no_rows at) (no_rows here) same first second is is_too =
    one_fault_here at number rest fault other is
    (subst (λ (t : List ℕ). IsFaultFrom at number t other) (sym same) (subst (λ (n : ℕ). IsFaultFrom at n behind other) (second ∙ sym first) is_too))
one_fault_from _ _ _ _ _ rest behind start number count fault other sound (no_rows at) (more_rows here next last row rows follows are) same first second is is_too =
    absurd (no_fault_here at next row (text_of rows ++ behind) rest number fault sound follows (same ∙ one_more row rows behind) is)
one_fault_from _ _ _ _ _ rest behind start number count fault other sound (more_rows at next last row rows follows are) (no_rows here) same first second is is_too =
    absurd (no_fault_here at next row (text_of rows ++ rest) behind count other sound follows (sym same ∙ one_more row rows rest) is_too)
one_fault_from _ _ _ _ _ rest behind start number count fault other sound (more_rows at next faulted row rows follows are) (more_rows here to blamed line others goes so) same first second is is_too =
    let step = same_step at next to row line (text_of rows ++ rest) (text_of others ++ behind) follows goes (sym (one_more row rows rest) ∙ (same ∙ one_more line others behind)) in
    one_fault_from next faulted blamed rows others rest behind (start + 1) number count fault other (sound_on at next row sound follows) are
    (subst (λ (place : At). AreRows place others blamed) (sym step.place) so) step.left (omega (arith, first)) (omega (arith, second)) is is_too

pub one_fault : (text : List ℕ) (fault other : StatementFault) → IsFaultIn text fault → IsFaultIn text other → fault ≡ other
one_fault text fault other is is_too =
    one_fault_from at_first is.at is_too.at is.rows is_too.rows is.rest is_too.rest 1 (length is.rows + 1) (length is_too.rows + 1) fault other first_sound is.are is_too.are
    (sym is.bytes ∙ is_too.bytes) refl refl is.fault_from is_too.fault_from
