-- A text is read through: its rows so far, and what is wrong with the rest.
use Rattle.std.proofs.Common.{inl, inr, ◌≡◌, ◌∙◌, ◌≤◌, ◌<◌, ◌+◌, ◌*◌, ◌^◌, ◌++◌, ◌∷◌, ◌||◌, [], ℕ, zero, suc, List, Option, Some, None, Bool, true, false}
use Rattle.std.proofs.Common.{true≢false, length, get_or, take, ap, sym, refl, subst, append_assoc, arith}
use Rattle.std.specs.Prelude.{IfSome, drop, ⊤}
use Rattle.std.specs.Io.KnownBytes.{Consumes, IsAtEnd}
use Rattle.std.specs.List.{list_any}
use Rattle.std.proofs.KnownBytes.{Consumes-nil, Consumes-trans}
use Rattle.std.proofs.lemmas.List.{append-nil, length-append}
use Rattle.std.proofs.lemmas.List.Folds.{list_any-append}
use Rattle.csv_table.specs.Written.{text_of, text_of_row}
use Rattle.merge_statements.specs.Buffered.{is_feed}
use Rattle.merge_statements.specs.Places.{At, Follows, KindFits, at_first, row_of}
use Rattle.merge_statements.specs.Reading.{IsFaultOf}
use Rattle.merge_statements.specs.Refused.{AreRows, BeginsWithPortions, BeginsWithWrong, IsFaultFrom, IsRefusedFor, IsRefusedFrom, IsStatementText, IsTextOfRows, refusal_of_field, refusal_of_line}
use Rattle.merge_statements.specs.Refused.AreRows.{none as no_rows, more as more_rows}
use Rattle.merge_statements.specs.SoFar.{FollowsAs, IsReadTo}
use Rattle.merge_statements.specs.Statements.{IsCount}
use Rattle.merge_statements.specs.Wrong.{IsWrongAt}
use Rattle.merge_statements.specs.declared.read_fault.ReadFault.{ReadFault}
use Rattle.merge_statements.specs.declared.read_fault.ReadFault.TheVariants.{Refused, TooLong, Unended}
use Rattle.merge_statements.specs.declared.refusal.Refusal.{Refusal}
use Rattle.merge_statements.specs.declared.refusal.Refusal.TheVariants as refusal
use Rattle.merge_statements.specs.declared.refusal.StatementFault.TheVariants.{End, Row}
use Rattle.merge_statements.specs.declared.walk.Place.{Place}
use Rattle.merge_statements.specs.declared.walk.Place.TheVariants.{Between, Ended, Resting, Summed, Within}
use Rattle.merge_statements.specs.declared.walk.Wrong.{Wrong}
use Rattle.merge_statements.specs.declared.walk.Wrong.TheVariants as wrong
use Rattle.merge_statements.proofs.FieldLemmas.{or-right}
use Rattle.merge_statements.proofs.Passing.{text_more}

-- ---- line feeds

or_true : (b : Bool) → (b || true) ≡ true
or_true true = refl
or_true false = refl

-- the line feed of a line stands in the first bytes of its text, where the line has fewer
feed_in : (n : ℕ) (line rest : List ℕ) → length line < n → list_any is_feed (take n (line ++ 10 ∷ rest)) ≡ true
feed_in zero line rest short = absurd (omega (arith, short))
feed_in (suc n) [] rest short = refl
feed_in (suc n) (byte ∷ line) rest short = ap (λ b. is_feed byte || b) (feed_in n line rest (omega (arith, short))) ∙ or_true (is_feed byte)

-- the first line feed ends the first line
pub one_line : (line other rest behind : List ℕ) → list_any is_feed line ≡ false → list_any is_feed other ≡ false → line ++ 10 ∷ rest ≡ other ++ 10 ∷ behind → line ≡ other
one_line [] [] rest behind none still same = refl
one_line [] (byte ∷ other) rest behind none still same =
    absurd (true≢false (subst (λ (b : ℕ). list_any is_feed (b ∷ other) ≡ false) (sym (ap (λ (l : List ℕ). get_or l 0 0) same)) still))
one_line (byte ∷ line) [] rest behind none still same =
    absurd (true≢false (subst (λ (b : ℕ). list_any is_feed (b ∷ line) ≡ false) (ap (λ (l : List ℕ). get_or l 0 0) same) none))
one_line (byte ∷ line) (b ∷ other) rest behind none still same =
    let heads : byte ≡ b = ap (λ (l : List ℕ). get_or l 0 0) same in
    let tails = one_line line other rest behind (or-right (is_feed byte) _ none) (or-right (is_feed b) _ still) (ap (λ (l : List ℕ). drop 1 l) same) in
    (λ i. heads i ∷ tails i)

-- ---- what is refused

pub line_refused : (at : At) (number : ℕ) (left : Option (List ℕ)) (fault : ReadFault) → IsFaultOf left fault → IsRefusedFrom at number left (refusal_of_line fault number)
line_refused at number left (Refused error) is = tt
line_refused at number None Unended is = tt
line_refused at number (Some text) Unended is =
    (refl, is.0, λ line rest row on four same. true≢false (sym (list_any-append is_feed line (10 ∷ rest) ∙ or_true (list_any is_feed line)) ∙ (ap (list_any is_feed) (sym on.bytes) ∙ is.1)))
line_refused at number None TooLong is = tt
line_refused at number (Some text) TooLong is = (
  refl,
  omega (arith, is.0),
  λ line rest row on four same.
      true≢false (sym (feed_in 32768 line rest on.short) ∙ (ap (λ (t : List ℕ). list_any is_feed (take 32768 t)) (sym on.bytes) ∙ is.1)),
)

pub no_row_refused : (at : At) (number : ℕ) (left new : Option (List ℕ)) (line : List ℕ) → Consumes left new (line ++ 10 ∷ []) → list_any is_feed line ≡ false
    → ((fields : List (List ℕ)) → length fields ≡ 4 → ¬ (text_of_row fields ≡ line ++ 10 ∷ [])) → IsRefusedFrom at number left (refusal.Fault (Row number))
no_row_refused at number None new line takes one none = tt
no_row_refused at number (Some text) None line takes one none = absurd takes
no_row_refused at number (Some text) (Some behind) line takes one none = (
  refl,
  omega (arith, ap length takes, length-append (line ++ 10 ∷ []) behind, length-append line (10 ∷ [])),
  λ begun rest row on four same.
      none row four (same ∙ ap (λ (l : List ℕ). l ++ 10 ∷ []) (one_line begun line rest behind on.one one (sym on.bytes ∙ (takes ∙ append_assoc line (10 ∷ []) behind)))),
)

begun_wrong : (at : At) (number : ℕ) (left new : Option (List ℕ)) (line kind payee_or_reason usage_or_count amount_or_total : List ℕ) (field : Wrong) → Consumes left new (line ++ 10 ∷ [])
    → list_any is_feed line ≡ false → length line < 32768 → text_of_row (row_of kind payee_or_reason usage_or_count amount_or_total) ≡ line ++ 10 ∷ [] → IsWrongAt at kind payee_or_reason usage_or_count amount_or_total field
    → IfSome left (λ text. (number ≡ number) × BeginsWithWrong at text field)
begun_wrong at number None new line kind payee_or_reason usage_or_count amount_or_total field takes one short is wrong_at = tt
begun_wrong at number (Some text) None line kind payee_or_reason usage_or_count amount_or_total field takes one short is wrong_at = absurd takes
begun_wrong at number (Some text) (Some behind) line kind payee_or_reason usage_or_count amount_or_total field takes one short is wrong_at = (
  refl,
  record {
    kind = kind;
    payee_or_reason = payee_or_reason;
    usage_or_count = usage_or_count;
    amount_or_total = amount_or_total;
    line = line;
    rest = behind;
    begins = record { bytes = takes ∙ append_assoc line (10 ∷ []) behind; one = one; short = short };
    row = is;
    wrong_at = wrong_at;
  },
)

pub field_refused : (at : At) (number : ℕ) (left new : Option (List ℕ)) (line kind payee_or_reason usage_or_count amount_or_total : List ℕ) (field : Wrong) → Consumes left new (line ++ 10 ∷ [])
    → list_any is_feed line ≡ false → length line < 32768 → text_of_row (row_of kind payee_or_reason usage_or_count amount_or_total) ≡ line ++ 10 ∷ [] → IsWrongAt at kind payee_or_reason usage_or_count amount_or_total field
    → IsRefusedFrom at number left (refusal_of_field field number)
field_refused at number left new line kind payee_or_reason usage_or_count amount_or_total wrong.Kind takes one short is wrong_at = begun_wrong at number left new line kind payee_or_reason usage_or_count amount_or_total wrong.Kind takes one short is wrong_at
field_refused at number left new line kind payee_or_reason usage_or_count amount_or_total wrong.PayeeOrReason takes one short is wrong_at = begun_wrong at number left new line kind payee_or_reason usage_or_count amount_or_total wrong.PayeeOrReason takes one short is wrong_at
field_refused at number left new line kind payee_or_reason usage_or_count amount_or_total wrong.UsageOrCount takes one short is wrong_at = begun_wrong at number left new line kind payee_or_reason usage_or_count amount_or_total wrong.UsageOrCount takes one short is wrong_at
field_refused at number left new line kind payee_or_reason usage_or_count amount_or_total wrong.AmountOrTotal takes one short is wrong_at = begun_wrong at number left new line kind payee_or_reason usage_or_count amount_or_total wrong.AmountOrTotal takes one short is wrong_at
field_refused at number left new line kind payee_or_reason usage_or_count amount_or_total wrong.Memory takes one short is wrong_at = tt

-- ---- row by row

pub none_read : (start : Option (List ℕ)) → IsReadTo start at_first start 1
none_read start = record { rows = []; are = no_rows at_first; consumed = Consumes-nil start; counted = refl }

pub rows_push : (at middle last : At) (rows : List (List (List ℕ))) (row : List (List ℕ)) → AreRows at rows middle → Follows middle row last → AreRows at (rows ++ row ∷ []) last
rows_push _ _ last _ row (no_rows at) follows = more_rows at last last row [] follows (no_rows last)
rows_push _ _ last _ row (more_rows at next middle first rows goes are) follows =
    more_rows at next last first (rows ++ row ∷ []) goes (rows_push next middle last rows row are follows)

pub more_read : (start : Option (List ℕ)) (at next : At) (left new : Option (List ℕ)) (number : ℕ) (text : List ℕ) → IsReadTo start at left number → FollowsAs at text next
    → Consumes left new text → IsReadTo start next new (number + 1)
more_read start at next left new number text was goes takes = record {
  rows = was.rows ++ goes.row ∷ [];
  are = rows_push at_first at next was.rows goes.row was.are goes.follows;
  consumed = subst (λ (t : List ℕ). Consumes start new t) joined (Consumes-trans start left new (text_of was.rows) text was.consumed takes);
  counted = omega (arith, was.counted, length-append was.rows (goes.row ∷ []));
}
  where
    joined : text_of was.rows ++ text ≡ text_of (was.rows ++ goes.row ∷ [])
    joined = ap (λ (l : List ℕ). text_of was.rows ++ l) (sym goes.same) ∙ text_more was.rows goes.row

pub all_rows_read : (start left : Option (List ℕ)) (at : At) (number lines rows : ℕ) → IsReadTo start at left number → IsAtEnd left → at.place ≡ Ended lines → number ≡ rows + 1
    → IfSome start (λ text. IsTextOfRows text lines rows)
all_rows_read None left at number lines rows was ends ended counted = tt
all_rows_read (Some text) None at number lines rows was ends ended counted = absurd was.consumed
all_rows_read (Some text) (Some rest) at number lines rows was ends ended counted = record {
  is = record {
    rows = was.rows;
    last = at;
    are = was.are;
    ended = ended;
    bytes = was.consumed ∙ (ap (λ (l : List ℕ). text_of was.rows ++ l) ends ∙ append-nil (text_of was.rows));
  };
  counted = omega (arith, was.counted, counted);
}

text_of_rows : (start : Option (List ℕ)) (lines rows : ℕ) → IfSome start (λ text. IsTextOfRows text lines rows) → IfSome start (λ text. IsStatementText text lines)
text_of_rows None lines rows is = tt
text_of_rows (Some text) lines rows is = is.is

pub all_read : (start left : Option (List ℕ)) (at : At) (number lines : ℕ) → IsReadTo start at left number → IsAtEnd left → at.place ≡ Ended lines
    → IfSome start (λ text. IsStatementText text lines)
all_read start left at number lines was ends ended =
    text_of_rows start lines (length was.rows) (all_rows_read start left at number lines (length was.rows) was ends ended was.counted)

pub end_refused : (start left : Option (List ℕ)) (at : At) (number : ℕ) → IsReadTo start at left number → IsAtEnd left → ((lines : ℕ) → ¬ (at.place ≡ Ended lines))
    → IfSome start (λ text. IsRefusedFor text (refusal.Fault (End number)))
end_refused None left at number was ends none = tt
end_refused (Some text) None at number was ends none = absurd was.consumed
end_refused (Some text) (Some rest) at number was ends none = record {
  rows = was.rows;
  at = at;
  rest = rest;
  are = was.are;
  bytes = was.consumed;
  fault_from = (was.counted, ends, none);
}

pub nothing_claimed : (start : Option (List ℕ)) → IfSome start (λ text. ⊤)
nothing_claimed None = tt
nothing_claimed (Some text) = tt

-- ---- how many portions and rows there are

pub begun : (start left : Option (List ℕ)) (at : At) (number : ℕ) → IsReadTo start at left number → IfSome start (λ text. BeginsWithPortions text at.portions)
begun None left at number was = tt
begun (Some text) None at number was = absurd was.consumed
begun (Some text) (Some rest) at number was = record { rows = was.rows; at = at; rest = rest; are = was.are; bytes = was.consumed; counted = refl }

-- how many rows there may be more than two for each portion
abbrev more_at : Place → ℕ
more_at (Within count so_far) = 0
more_at Summed = 2
more_at (Ended lines) = 3
more_at _ = 1

few_more : (place : Place) → more_at place ≤ 3
few_more Between = omega arith
few_more (Within count so_far) = omega arith
few_more (Resting count so_far) = omega arith
few_more Summed = omega arith
few_more (Ended lines) = omega arith

-- as many rows as two for each portion, and those
abbrev most_rows : At → ℕ
most_rows at = 2 * at.portions + more_at at.place

module _ (at next : At) (row : List (List ℕ)) (follows : Follows at row next) where
  leads_on : (to : At) → next ≡ to → most_rows at + 1 ≤ most_rows to → IsCount to.portions → (most_rows at + 1 ≤ most_rows next) × IsCount next.portions
  leads_on to is more few = (omega (arith, more, ap most_rows is), omega (arith, few, ap (λ (a : At). a.portions) is))

  -- a row is a portion, or a sum of some; the portions of all are counted
  one_row : (place : Place) → at.place ≡ place → KindFits place follows.kind → IsCount at.portions → (most_rows at + 1 ≤ most_rows next) × IsCount next.portions
  one_row Between is fits few = elim fits [
    | inl l ↦ let (amount, sound, written, leads) = follows.leads.portion l in leads_on _ leads (omega (arith, ap more_at is)) (follows.fits.amount_or_total_fits.amount (inl l)).0
    | inr others ↦ elim others [
      | inl m ↦ let (amount, sound, written, leads) = follows.leads.rest m in leads_on _ leads (omega (arith, ap more_at is)) (follows.fits.amount_or_total_fits.amount (inr m)).0
      | inr t ↦ leads_on _ (follows.leads.rests t) (omega (arith, ap more_at is)) few
    ]
  ]
  one_row (Within count so_far) is fits few = elim fits [
    | inl l ↦ let (amount, sound, written, leads) = follows.leads.portion l in leads_on _ leads (omega (arith, ap more_at is)) (follows.fits.amount_or_total_fits.amount (inl l)).0
    | inr s ↦ leads_on _ (follows.leads.sum s) (omega (arith, ap more_at is)) few
  ]
  one_row (Resting count so_far) is fits few = elim fits [
    | inl m ↦ let (amount, sound, written, leads) = follows.leads.rest m in leads_on _ leads (omega (arith, ap more_at is)) (follows.fits.amount_or_total_fits.amount (inr m)).0
    | inr t ↦ leads_on _ (follows.leads.rests t) (omega (arith, ap more_at is)) few
  ]
  one_row Summed is r few = let (lines, some, written, leads) = follows.leads.run r in leads_on _ leads (omega (arith, ap more_at is)) few
  one_row (Ended lines) is fits few = absurd fits

few_rows : (at last : At) (rows : List (List (List ℕ))) → AreRows at rows last → IsCount at.portions → (most_rows at + length rows ≤ most_rows last) × IsCount last.portions
few_rows _ _ _ (no_rows at) few = (omega arith, few)
few_rows _ _ _ (more_rows at next last row rows follows are) few =
    let one = one_row at next row follows at.place refl follows.fits.kind_fits few in
    let rest = few_rows next last rows are one.1 in
    (omega (arith, one.0, rest.0), rest.1)

-- so no text has more rows than can be numbered
pub few_read : (start left : Option (List ℕ)) (at : At) (number : ℕ) → IsReadTo start at left number → number ≤ 2 * 10 ^ 18 + 3
few_read start left at number was =
    let few = few_rows at_first at was.rows was.are (omega arith) in
    omega (arith, was.counted, few.0, few.1, few_more at.place)

-- ---- what is refused further on

pub rest_refused : (start left : Option (List ℕ)) (at : At) (number : ℕ) (why : Refusal) → IsReadTo start at left number → IsRefusedFrom at number left why
    → IfSome start (λ text. IsRefusedFor text why)
rest_refused None left at number (refusal.Fault fault) was from = tt
rest_refused (Some text) None at number (refusal.Fault fault) was from = absurd was.consumed
rest_refused (Some text) (Some rest) at number (refusal.Fault fault) was from = record {
  rows = was.rows;
  at = at;
  rest = rest;
  are = was.are;
  bytes = was.consumed;
  fault_from = subst (λ (k : ℕ). IsFaultFrom at k rest fault) was.counted from;
}
rest_refused start left at number refusal.Memory was from = nothing_claimed start
rest_refused start left at number refusal.Many was from = absurd from
rest_refused start left at number (refusal.Read error) was from = nothing_claimed start
rest_refused start left at number (refusal.Write error) was from = nothing_claimed start
