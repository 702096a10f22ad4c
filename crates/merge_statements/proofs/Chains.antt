-- Rows that can stand one after another are known from their text, and each is one short line.
use Rattle.std.proofs.Common.{◌≡◌, ◌∙◌, inl, inr, ◌≤◌, ◌<◌, ◌+◌, ◌*◌, ◌^◌, ◌+ℤ◌, ◌++◌, ◌∷◌, [], ℕ, zero, suc, ℤ, pos, negsuc, unsigned_abs, List, Option, Some, None, All, false, length, get_or, ap, sym, refl, subst, arith, codes, decimal}
use Rattle.std.specs.Prelude.{◌==◌}
use Rattle.std.specs.Fmt.{signed_decimal}
use Rattle.std.specs.List.{list_any}
use Rattle.std.specs.Str.Parse.{AllDigits}
use Rattle.std.proofs.lemmas.Bool.{cases_Bool, ne_eqb}
use Rattle.std.proofs.lemmas.Fmt.{decimal_is_IsNumeral_wide, length-decimal-le_wide}
use Rattle.std.proofs.lemmas.List.{length-append}
use Rattle.std.proofs.lemmas.List.Elements.{All-head, All-tail}
use Rattle.std.proofs.lemmas.List.Folds.{list_any-append}
use Rattle.std.proofs.lemmas.Str.Parse.{digit_from_value}
use Rattle.csv.specs.Machine.{Read, next_record}
use Rattle.csv.specs.Reading.{default_config}
use Rattle.csv.specs.Writing.{default_writer, escaped, field_text, fields_text, is_blank, needs_quotes, read_back, row_body}
use Rattle.csv.specs.declared.parser.State.TheVariants as st
use Rattle.csv.proofs.RoundTrip.{read-write}
use Rattle.csv_table.specs.Forms.{IsPrintableByte, signed_number_of, number_of}
use Rattle.csv_table.specs.Written.{text_of_row}
use Rattle.line_split.specs.ReasonTexts.{reason_text}
use Rattle.line_split.specs.declared.reason.Reason.{Reason}
use Rattle.line_split.specs.declared.reason.Reason.TheVariants.{Work, Land, Over, Open}
use Rattle.line_split.proofs.IntSums.{size_plus}
use Rattle.merge_statements.specs.Buffered.{is_feed}
use Rattle.merge_statements.specs.Places.{At, Follows, IsPayeeAt, Leads, at_first, count_at, row_of, sum_at}
use Rattle.merge_statements.specs.Statements.{IsAmount, IsCount, IsName, IsReason}
use Rattle.merge_statements.specs.declared.walk.Place.{Place}
use Rattle.merge_statements.specs.declared.walk.Place.TheVariants.{Between, Ended, Resting, Summed, Within}
use Rattle.merge_statements.proofs.FieldLemmas.{or-left, or-right}
use Rattle.merge_statements.proofs.Numbers.{decimal_back, signed_back}
use Rattle.merge_statements.proofs.Steps.{IsKind, kind_of}

-- ---- a text begins with one row

abbrev row_in : Option Read → List (List ℕ)
row_in None = []
row_in (Some read) = read.0

abbrev left_in : Option Read → List ℕ
left_in None = []
left_in (Some read) = read.2

pub same_row : (one other : List (List ℕ)) (rest behind : List ℕ) → text_of_row one ++ rest ≡ text_of_row other ++ behind → (read_back one ≡ read_back other) × (rest ≡ behind)
same_row one other rest behind same =
    let both = sym (read-write one rest) ∙ ap (λ (t : List ℕ). next_record default_config st.StartRecord [] [] t) same ∙ read-write other behind in
    (ap row_in both, ap left_in both)

-- ---- where a row leads

pub same_amount : (one other : ℤ) → IsAmount one → IsAmount other → signed_decimal one ≡ signed_decimal other → one ≡ other
same_amount one other small low same =
    sym (signed_back one (omega (arith, small.1))) ∙ (ap signed_number_of same ∙ signed_back other (omega (arith, low.1)))

same_count : (one other : ℕ) → IsCount one → IsCount other → decimal one ≡ decimal other → one ≡ other
same_count one other small low same =
    sym (decimal_back one (omega (arith, small))) ∙ (ap number_of same ∙ decimal_back other (omega (arith, low)))

one_lead : (at next other : At) (kind payee_or_reason usage_or_count amount_or_total : List ℕ) → IsKind kind → Leads at kind payee_or_reason usage_or_count amount_or_total next → Leads at kind payee_or_reason usage_or_count amount_or_total other → next ≡ other
one_lead at next other kind payee_or_reason usage_or_count amount_or_total is leads goes = elim is [
  | inl l ↦
      let (amount, sound, written, to) = leads.portion l in
      let (size, fair, wrote, on) = goes.portion l in
      let same = same_amount amount size sound fair (sym written ∙ wrote) in
      to ∙ ((λ i. record { place = Within (count_at at.place + 1) (sum_at at.place +ℤ same i); payee = payee_or_reason; portions = at.portions + 1; total = at.total }) ∙ sym on)
  | inr others ↦ elim others [
    | inl s ↦ leads.sum s ∙ sym (goes.sum s)
    | inr more ↦ elim more [
      | inl m ↦
          let (amount, sound, written, to) = leads.rest m in
          let (size, fair, wrote, on) = goes.rest m in
          let same = same_amount amount size sound fair (sym written ∙ wrote) in
          to ∙ ((λ i. record { place = Resting (count_at at.place + 1) (sum_at at.place +ℤ same i); payee = at.payee; portions = at.portions + 1; total = at.total }) ∙ sym on)
      | inr last ↦ elim last [
        | inl t ↦ leads.rests t ∙ sym (goes.rests t)
        | inr r ↦
            let (lines, few, written, to) = leads.run r in
            let (count, small, wrote, on) = goes.run r in
            let same = same_count lines count few small (sym written ∙ wrote) in
            to ∙ ((λ i. record { place = Ended (same i); payee = at.payee; portions = at.portions; total = at.total }) ∙ sym on)
      ]
    ]
  ]
]

-- two rows that can stand there over the same bytes are one, and lead to one place
pub record IsSameStep (row other : List (List ℕ)) (rest behind : List ℕ) (next to : At) : Type 0 where
  pub rows : row ≡ other
  pub left : rest ≡ behind
  pub place : next ≡ to

pub same_step : (at next to : At) (row other : List (List ℕ)) (rest behind : List ℕ) → Follows at row next → Follows at other to → text_of_row row ++ rest ≡ text_of_row other ++ behind
    → IsSameStep row other rest behind next to
same_step at next to row other rest behind one goes same =
    let is = same_row (row_of one.kind one.payee_or_reason one.usage_or_count one.amount_or_total) (row_of goes.kind goes.payee_or_reason goes.usage_or_count goes.amount_or_total) rest behind
    ((λ i. text_of_row (sym one.form i) ++ rest) ∙ (same ∙ (λ i. text_of_row (goes.form i) ++ behind))) in
    let leads : Leads at one.kind one.payee_or_reason one.usage_or_count one.amount_or_total to =
    subst (λ (r : List (List ℕ)). Leads at (get_or r 0 []) (get_or r 1 []) (get_or r 2 []) (get_or r 3 []) to) (sym is.0) goes.leads in
    record {
      rows = one.form ∙ (is.0 ∙ sym goes.form);
      left = is.1;
      place = one_lead at next to one.kind one.payee_or_reason one.usage_or_count one.amount_or_total (kind_of at.place one.kind one.fits.kind_fits) one.leads leads;
    }

-- ---- fields without line feeds

-- a text of so many bytes at most, none of which is a line feed
pub record IsPiece (most : ℕ) (text : List ℕ) : Type 0 where
  pub none : list_any is_feed text ≡ false
  pub short : length text ≤ most

no_feed_before : (byte : ℕ) (text : List ℕ) → ¬ (byte ≡ 10) → list_any is_feed text ≡ false → list_any is_feed (byte ∷ text) ≡ false
no_feed_before byte text other none = rw (ne_eqb byte 10 other) none

printable : (text : List ℕ) → All IsPrintableByte text → list_any is_feed text ≡ false
printable [] are = refl
printable (byte ∷ text) are =
    let first = All-head IsPrintableByte byte text are in
    no_feed_before byte text (λ e. omega (arith, e, first.0)) (printable text (All-tail IsPrintableByte byte text are))

digits : (text : List ℕ) → AllDigits 10 text → list_any is_feed text ≡ false
digits [] are = refl
digits (byte ∷ text) are =
    let first = digit_from_value byte are.0 in
    no_feed_before byte text (λ e. omega (arith, e, first)) (digits text are.1)

pub name_piece : (name : List ℕ) → IsName name → IsPiece 100 name
name_piece name is = record { none = printable name is.printable; short = omega (arith, is.short) }

word_piece : (reason : Reason) (text : List ℕ) → text ≡ reason_text reason → IsPiece 100 text
word_piece Work text is = subst (IsPiece 100) (sym is) (record { none = refl; short = omega arith })
word_piece Land text is = subst (IsPiece 100) (sym is) (record { none = refl; short = omega arith })
word_piece Over text is = subst (IsPiece 100) (sym is) (record { none = refl; short = omega arith })
word_piece Open text is = subst (IsPiece 100) (sym is) (record { none = refl; short = omega arith })

pub reason_piece : (text : List ℕ) → IsReason text → IsPiece 100 text
reason_piece text (reason, is) = word_piece reason text is

nothing_piece : (text : List ℕ) → text ≡ [] → IsPiece 100 text
nothing_piece text is = subst (IsPiece 100) (sym is) (record { none = refl; short = omega arith })

decimal_piece : (n : ℕ) → n < 10 ^ 64 → IsPiece 64 (decimal n)
decimal_piece n small = record {
  none = digits (decimal n) (decimal_is_IsNumeral_wide n small).0.1;
  short = length-decimal-le_wide 64 n (omega arith) small small;
}

wider : (text : List ℕ) → IsPiece 64 text → IsPiece 100 text
wider text is = record { none = is.none; short = omega (arith, is.short) }

signed_piece : (z : ℤ) → unsigned_abs z < 10 ^ 64 → IsPiece 100 (signed_decimal z)
signed_piece (pos n) small = wider (decimal n) (decimal_piece n small)
signed_piece (negsuc n) small =
    let size = decimal_piece (suc n) small in
    record { none = no_feed_before 45 (decimal (suc n)) (λ e. omega (arith, e)) size.none; short = omega (arith, size.short) }

count_field : (n : ℕ) (text : List ℕ) → IsCount n → text ≡ decimal n → IsPiece 100 text
count_field n text few is = subst (IsPiece 100) (sym is) (wider (decimal n) (decimal_piece n (omega (arith, few))))

pub amount_field : (z : ℤ) (text : List ℕ) → unsigned_abs z ≤ 10 ^ 30 → text ≡ signed_decimal z → IsPiece 100 text
amount_field z text small is = subst (IsPiece 100) (sym is) (signed_piece z (omega (arith, small)))

-- ---- a row of such fields is one line

joined : (m n : ℕ) (one other : List ℕ) → IsPiece m one → IsPiece n other → IsPiece (m + n) (one ++ other)
joined m n one other is are = record {
  none = list_any-append is_feed one other ∙ rw (is.none, are.none) refl;
  short = omega (arith, length-append one other, is.short, are.short);
}

escaped_piece : (m : ℕ) (text : List ℕ) → length text ≤ m → list_any is_feed text ≡ false → IsPiece (2 * m) (escaped default_writer text)
unfolding escaped
escaped_piece m [] short none = record { none = refl; short = omega arith }
escaped_piece zero (byte ∷ text) short none = absurd (omega (arith, short))
escaped_piece (suc m) (byte ∷ text) short none =
    let more = escaped_piece m text (omega (arith, short)) (or-right (is_feed byte) _ none) in
    let here : is_feed byte ≡ false = or-left (is_feed byte) _ none in
    elim (cases_Bool (byte == 34)) [
      | inl quote ↦ rw quote (record { none = rw here more.none; short = omega (arith, more.short) })
      | inr other ↦ rw other (record { none = rw here more.none; short = omega (arith, more.short) })
    ]

field_piece : (field : List ℕ) → IsPiece 100 field → IsPiece 202 (field_text default_writer field)
field_piece field is = elim (cases_Bool (needs_quotes default_writer field)) [
  | inl needs ↦ rw needs (quoted (joined 200 1 (escaped default_writer field) (34 ∷ []) (escaped_piece 100 field is.short is.none) (record { none = refl; short = omega arith })))
  | inr free ↦ rw free (record { none = is.none; short = omega (arith, is.short) })
]
  where
    quoted : IsPiece 201 (escaped default_writer field ++ 34 ∷ []) → IsPiece 202 (34 ∷ (escaped default_writer field ++ 34 ∷ []))
    quoted inner = record { none = inner.none; short = omega (arith, inner.short) }

fields_piece : (n : ℕ) (field : List ℕ) (fields : List (List ℕ)) → IsPiece 100 field → IsPiece n (fields_text default_writer fields) → IsPiece (203 + n) (fields_text default_writer (field ∷ fields))
unfolding fields_text
fields_piece n field fields is are =
    let both = joined 202 n (field_text default_writer field) (fields_text default_writer fields) (field_piece field is) are in
    record { none = both.none; short = omega (arith, both.short) }

no_fields : IsPiece 0 (fields_text default_writer [])
unfolding fields_text
no_fields = record { none = refl; short = omega arith }

-- the line of a row, without its line feed
pub record IsLineOf (row : List (List ℕ)) (line : List ℕ) : Type 0 where
  pub bytes : text_of_row row ≡ line ++ 10 ∷ []
  pub none : list_any is_feed line ≡ false
  pub short : length line < 32768

pub row_line : (kind payee_or_reason usage_or_count amount_or_total : List ℕ) → IsPiece 100 kind → IsPiece 100 payee_or_reason → IsPiece 100 usage_or_count → IsPiece 100 amount_or_total
    → IsLineOf (row_of kind payee_or_reason usage_or_count amount_or_total) (row_body default_writer (row_of kind payee_or_reason usage_or_count amount_or_total))
unfolding is_blank
row_line kind payee_or_reason usage_or_count amount_or_total is_kind is_whose is_third is_fourth =
    let last = fields_piece 0 amount_or_total [] is_fourth no_fields in
    let more = fields_piece 203 usage_or_count (amount_or_total ∷ []) is_third last in
    let others = fields_piece 406 payee_or_reason (usage_or_count ∷ amount_or_total ∷ []) is_whose more in
    let all = joined 202 609 (field_text default_writer kind) (fields_text default_writer (payee_or_reason ∷ usage_or_count ∷ amount_or_total ∷ [])) (field_piece kind is_kind) others in
    record { bytes = refl; none = all.none; short = omega (arith, all.short) }

-- ---- what holds at every place

pub record IsSound (at : At) : Type 0 where
  pub few : IsCount at.portions
  pub sum : unsigned_abs (sum_at at.place) ≤ 10 ^ 12 * count_at at.place
  pub total : unsigned_abs at.total + 10 ^ 12 * count_at at.place ≤ 10 ^ 12 * at.portions
  pub payee : IsPiece 100 at.payee

pub first_sound : IsSound at_first
first_sound = record { few = omega arith; sum = omega arith; total = omega arith; payee = nothing_piece [] refl }

payee_piece : (place : Place) (last payee_or_reason : List ℕ) → IsPiece 100 last → IsPayeeAt place last payee_or_reason → IsPiece 100 payee_or_reason
payee_piece Between last payee_or_reason is due = name_piece payee_or_reason due.0
payee_piece (Within count sum) last payee_or_reason is due = subst (IsPiece 100) (sym due) is
payee_piece (Resting count sum) last payee_or_reason is due = name_piece payee_or_reason due.0
payee_piece Summed last payee_or_reason is due = name_piece payee_or_reason due.0
payee_piece (Ended lines) last payee_or_reason is due = name_piece payee_or_reason due.0

module _ (at next : At) (row : List (List ℕ)) (sound : IsSound at) (follows : Follows at row next) where
  counted : IsCount (count_at at.place)
  counted = omega (arith, sound.total, sound.few)

  summed : unsigned_abs (sum_at at.place) ≤ 10 ^ 30
  summed = omega (arith, sound.sum, sound.total, sound.few)

  all_summed : unsigned_abs at.total ≤ 10 ^ 30
  all_summed = omega (arith, sound.total, sound.few)

  of_kind : (kind : List ℕ) → follows.kind ≡ kind → IsPiece 100 kind → IsPiece 100 follows.kind
  of_kind kind is piece = subst (IsPiece 100) (sym is) piece

  size_fits : (amount : ℤ) (text : List ℕ) → IsAmount amount → text ≡ signed_decimal amount → IsPiece 100 text
  size_fits amount text sound written = amount_field amount text (omega (arith, sound.1)) written

  row_is_line : IsLineOf (row_of follows.kind follows.payee_or_reason follows.usage_or_count follows.amount_or_total) (row_body default_writer (row_of follows.kind follows.payee_or_reason follows.usage_or_count follows.amount_or_total))
  row_is_line =
      let fits = follows.fits in
      elim (kind_of at.place follows.kind fits.kind_fits) [
        | inl l ↦
            let (amount, size, written) = (fits.amount_or_total_fits.amount (inl l)).1 in
            row_line follows.kind follows.payee_or_reason follows.usage_or_count follows.amount_or_total (of_kind (codes "L") l (record { none = refl; short = omega arith }))
            (payee_piece at.place at.payee follows.payee_or_reason sound.payee (fits.payee_or_reason_fits.payee l)) (name_piece follows.usage_or_count (fits.usage_or_count_fits.usage (inl l))) (size_fits amount follows.amount_or_total size written)
        | inr others ↦ elim others [
          | inl s ↦
              row_line follows.kind follows.payee_or_reason follows.usage_or_count follows.amount_or_total (of_kind (codes "S") s (record { none = refl; short = omega arith }))
              (subst (IsPiece 100) (sym (fits.payee_or_reason_fits.same s)) sound.payee) (count_field (count_at at.place) follows.usage_or_count counted (fits.usage_or_count_fits.count (inl s)))
              (amount_field (sum_at at.place) follows.amount_or_total summed (fits.amount_or_total_fits.sum (inl s)))
          | inr more ↦ elim more [
            | inl m ↦
                let (amount, size, written) = (fits.amount_or_total_fits.amount (inr m)).1 in
                row_line follows.kind follows.payee_or_reason follows.usage_or_count follows.amount_or_total (of_kind (codes "M") m (record { none = refl; short = omega arith }))
                (reason_piece follows.payee_or_reason (fits.payee_or_reason_fits.reason m)) (name_piece follows.usage_or_count (fits.usage_or_count_fits.usage (inr m))) (size_fits amount follows.amount_or_total size written)
            | inr last ↦ elim last [
              | inl t ↦
                  row_line follows.kind follows.payee_or_reason follows.usage_or_count follows.amount_or_total (of_kind (codes "T") t (record { none = refl; short = omega arith }))
                  (nothing_piece follows.payee_or_reason (fits.payee_or_reason_fits.none (inl t))) (count_field (count_at at.place) follows.usage_or_count counted (fits.usage_or_count_fits.count (inr t)))
                  (amount_field (sum_at at.place) follows.amount_or_total summed (fits.amount_or_total_fits.sum (inr t)))
              | inr r ↦
                  let (lines, few, written) = fits.usage_or_count_fits.lines r in
                  row_line follows.kind follows.payee_or_reason follows.usage_or_count follows.amount_or_total (of_kind (codes "R") r (record { none = refl; short = omega arith }))
                  (nothing_piece follows.payee_or_reason (fits.payee_or_reason_fits.none (inr r))) (count_field lines follows.usage_or_count few written)
                  (amount_field at.total follows.amount_or_total all_summed (fits.amount_or_total_fits.all r))
            ]
          ]
        ]
      ]

  -- the row that stands there is one short line
  pub stands_as_line : (line : List ℕ) × IsLineOf row line
  stands_as_line = (
    row_body default_writer (row_of follows.kind follows.payee_or_reason follows.usage_or_count follows.amount_or_total),
    subst (λ (r : List (List ℕ)). IsLineOf r (row_body default_writer (row_of follows.kind follows.payee_or_reason follows.usage_or_count follows.amount_or_total))) (sym follows.form) row_is_line,
  )

  portion_sound : (place : Place) (payee : List ℕ) (amount : ℤ) → IsAmount amount → IsCount (at.portions + 1) → count_at place ≡ count_at at.place + 1
      → sum_at place ≡ sum_at at.place +ℤ amount → IsPiece 100 payee
      → IsSound (record { place = place; payee = payee; portions = at.portions + 1; total = at.total })
  portion_sound place payee amount size few count sum piece =
      let both = size_plus (sum_at at.place) amount (10 ^ 12 * count_at at.place) 1000000000000 sound.sum size.1 in
      record {
        few = few;
        sum = omega (arith, ap unsigned_abs sum, both, count);
        total = omega (arith, sound.total, count);
        payee = piece;
      }

  sum_sound : (place : Place) → count_at place ≡ 0 → sum_at place ≡ pos 0
      → IsSound (record { place = place; payee = at.payee; portions = at.portions; total = at.total +ℤ sum_at at.place })
  sum_sound place count sum =
      let both = size_plus at.total (sum_at at.place) (unsigned_abs at.total) (10 ^ 12 * count_at at.place) (omega arith) sound.sum in
      record {
        few = sound.few;
        sum = omega (arith, ap unsigned_abs sum, count);
        total = omega (arith, sound.total, both, count);
        payee = sound.payee;
      }

  -- where it leads that holds too
  pub sound_on : IsSound next
  sound_on =
      let fits = follows.fits in
      elim (kind_of at.place follows.kind fits.kind_fits) [
        | inl l ↦
            let (amount, size, written, to) = follows.leads.portion l in
            subst IsSound (sym to)
            (portion_sound (Within (count_at at.place + 1) (sum_at at.place +ℤ amount)) follows.payee_or_reason amount size (fits.amount_or_total_fits.amount (inl l)).0 refl refl
            (payee_piece at.place at.payee follows.payee_or_reason sound.payee (fits.payee_or_reason_fits.payee l)))
        | inr others ↦ elim others [
          | inl s ↦ subst IsSound (sym (follows.leads.sum s)) (sum_sound Between refl refl)
          | inr more ↦ elim more [
            | inl m ↦
                let (amount, size, written, to) = follows.leads.rest m in
                subst IsSound (sym to)
                (portion_sound (Resting (count_at at.place + 1) (sum_at at.place +ℤ amount)) at.payee amount size (fits.amount_or_total_fits.amount (inr m)).0 refl refl sound.payee)
            | inr last ↦ elim last [
              | inl t ↦ subst IsSound (sym (follows.leads.rests t)) (sum_sound Summed refl refl)
              | inr r ↦
                  let (lines, few, written, to) = follows.leads.run r in
                  subst IsSound (sym to) (record {
                    few = sound.few;
                    sum = omega arith;
                    total = omega (arith, sound.total);
                    payee = sound.payee;
                  })
            ]
          ]
        ]
      ]
