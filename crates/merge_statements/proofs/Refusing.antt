-- What is read of texts, and what is refused.
use Rattle.std.proofs.Common.{◌≡◌, ◌∙◌, ◌<◌, ◌+◌, ◌-◌, ◌^◌, ◌++◌, ◌∷◌, ◌⊎◌, inl, inr, ℕ, zero, suc, List, [], Option, Some, None, Bool, true, false, true≢false, not}
use Rattle.std.proofs.Common.{All, length, codes, get_or, map, ap, sym, refl, subst, arith}
use Rattle.std.specs.Prelude.{IfSome, if◌then◌else◌, min}
use Rattle.std.specs.Io.KnownBytes.{Consumes, IsAtEnd, Keeps, prepend_known}
use Rattle.std.specs.List.{list_any}
use Rattle.std.specs.Str.{bytes_eq}
use Rattle.std.proofs.KnownBytes.{Consumes-kept, Consumes-nil}
use Rattle.std.proofs.lemmas.Slice.Eq.{bytes_eq-Decides}
use Rattle.std.proofs.lemmas.List.{get_or-map, length-map}
use Rattle.std.proofs.lemmas.List.Elements.{All-cons, All-head, All-nil, All-tail}
use Rattle.csv_table.specs.Written.{text_of, text_of_row}
use Rattle.merge_statements.specs.Buffered.{is_feed}
use Rattle.merge_statements.specs.SoFar.{AreOpen, AreRead, CanEnd, FollowsAs, HavePassed, IsAmongRests, IsOfKind, IsRead, IsReadTo, IsWithinOne, NeedsRow, ReadsOn, RefusesRest, Unread}
use Rattle.merge_statements.specs.Places.{At, IsPayeeAt, KindFits, at_first, row_of}
use Rattle.merge_statements.specs.Refused.{HaveTooManyLines, HaveTooManyPortions, IsFaultFrom, IsOfSystem, IsRefusalOf, IsRefusedFor, IsRefusedFrom}
use Rattle.merge_statements.specs.Refused.AreRows.{none as no_rows}
use Rattle.merge_statements.specs.Statements.{Statement}
use Rattle.merge_statements.specs.SoFar.AreOpen.{none as no_open, more as more_open}
use Rattle.merge_statements.specs.SoFar.AreRead.{none as none_were, more as more_were}
use Rattle.merge_statements.specs.SoFar.HavePassed.{none as no_passed, more as more_passed}
use Rattle.merge_statements.specs.declared.refusal.Refusal.{Refusal}
use Rattle.merge_statements.specs.declared.refusal.Refusal.TheVariants as refusal
use Rattle.merge_statements.specs.declared.refusal.StatementFault.TheVariants.{End, Kind, PayeeOrReason}
use Rattle.merge_statements.specs.declared.walk.Place.{Place}
use Rattle.merge_statements.specs.declared.walk.Place.TheVariants.{Between, Ended, Summed}
use Rattle.merge_statements.specs.declared.walk.Wrong.TheVariants as wrong
use Rattle.merge_statements.proofs.Passing.{opened}
use Rattle.merge_statements.proofs.Chains.{same_row}
use Rattle.merge_statements.proofs.ReadThrough.{few_read, field_refused, more_read, none_read, nothing_claimed, rest_refused}
use Rattle.merge_statements.proofs.TooMany.{unknown_one}

-- ---- one text

-- bytes that come first are consumed
pub takes_first : (bytes : List ℕ) (known : Option (List ℕ)) → Consumes (prepend_known bytes known) known bytes
takes_first bytes None = tt
takes_first bytes (Some xs) = refl

-- what is refused behind a line was refused before it
pub refused_before : (at : At) (number : ℕ) (old new : Option (List ℕ)) (bytes : List ℕ) (why : Refusal) → Consumes old new bytes → IsRefusedFrom at number (prepend_known bytes new) why
    → IsRefusedFrom at number old why
refused_before at number None new bytes (refusal.Fault fault) takes from = tt
refused_before at number (Some xs) None bytes (refusal.Fault fault) takes from = absurd takes
refused_before at number (Some xs) (Some ys) bytes (refusal.Fault fault) takes from = subst (λ (text : List ℕ). IsFaultFrom at number text fault) (sym takes) from
refused_before at number old new bytes refusal.Memory takes from = tt
refused_before at number old new bytes refusal.Many takes from = from
refused_before at number old new bytes (refusal.Read error) takes from = tt
refused_before at number old new bytes (refusal.Write error) takes from = tt

pub here_refused : (part : Unread) (why : Refusal) → IsRefusedFrom part.at part.number part.left why → RefusesRest part why
here_refused part why from = λ start read. rest_refused start part.left part.at part.number why read from

-- a text before a row at hand, or at its end
abbrev unread : At → ℕ → List ℕ → Option (List ℕ) → Option (List ℕ) → Bool → Unread
unread at number line left payee has_row = record {
  at = at;
  line = if has_row then line ++ 10 ∷ [] else [];
  number = number;
  left = prepend_known (if has_row then line ++ 10 ∷ [] else []) left;
  payee = payee;
}

pub with_row_refused : (part : Unread) (at : At) (number : ℕ) (line : List ℕ) (left payee : Option (List ℕ)) (has_row : Bool) (why : Refusal) → unread at number line left payee has_row ≡ part
    → has_row ≡ true → IsRefusedFrom at number (prepend_known (line ++ 10 ∷ []) left) why → RefusesRest part why
with_row_refused part at number line left payee false why is row from = cc row
with_row_refused part at number line left payee true why is row from = subst (λ (p : Unread). RefusesRest p why) is (here_refused (unread at number line left payee true) why from)

pub without_row_refused : (part : Unread) (at : At) (number : ℕ) (line : List ℕ) (left payee : Option (List ℕ)) (has_row : Bool) → unread at number line left payee has_row ≡ part
    → has_row ≡ false → IsAtEnd left → NeedsRow part → RefusesRest part (refusal.Fault (End number))
without_row_refused part at number line left payee true is row ends needs = cc row
without_row_refused part at number line left payee false is row ends needs =
    subst (λ (p : Unread). RefusesRest p (refusal.Fault (End number))) is (here_refused (unread at number line left payee false) (refusal.Fault (End number)) (by left ends))
  where
    still : (lines : ℕ) → ¬ (at.place ≡ Ended lines)
    still = subst NeedsRow (sym is) needs refl

    by : (known : Option (List ℕ)) → IsAtEnd known → IsRefusedFrom at number (prepend_known [] known) (refusal.Fault (End number))
    by None ends = tt
    by (Some xs) ends = (refl, ends, still)

-- a row at hand of a kind that cannot stand there
pub kind_refused : (part : Unread) (at : At) (number : ℕ) (line : List ℕ) (left payee : Option (List ℕ)) (has_row : Bool) (kind payee_or_reason usage_or_count amount_or_total : List ℕ)
    → unread at number line left payee has_row ≡ part → has_row ≡ true → list_any is_feed line ≡ false → length line < 32768 → text_of_row (row_of kind payee_or_reason usage_or_count amount_or_total) ≡ line ++ 10 ∷ []
    → ((kind : List ℕ) → KindFits part.at.place kind → ¬ IsOfKind part kind) → RefusesRest part (refusal.Fault (Kind number))
kind_refused part at number line left payee has_row kind payee_or_reason usage_or_count amount_or_total is row one short same other =
    with_row_refused part at number line left payee has_row (refusal.Fault (Kind number)) is row
    (field_refused at number (prepend_known (line ++ 10 ∷ []) left) left line kind payee_or_reason usage_or_count amount_or_total wrong.Kind (takes_first (line ++ 10 ∷ []) left) one short same unfit)
  where
    unfit : ¬ KindFits at.place kind
    unfit fits = other kind (subst (λ (p : Unread). KindFits p.at.place kind) is fits)
        (payee_or_reason, usage_or_count, amount_or_total, same ∙ (λ i. if (sym row i) then line ++ 10 ∷ [] else []) ∙ ap (λ (p : Unread). p.line) is)

-- a field is not another
pub is_not : (kind name letter : List ℕ) (differs : Bool) → differs ≡ not (bytes_eq kind name) → name ≡ letter → differs ≡ true → ¬ (kind ≡ letter)
is_not kind name letter differs told same so is =
    let one : bytes_eq kind name ≡ true = (bytes_eq-Decides kind name).1 (is ∙ sym same) in
    true≢false (sym so ∙ (told ∙ ap not one))

-- or is it
pub is_that : (kind name letter : List ℕ) (differs : Bool) → differs ≡ not (bytes_eq kind name) → name ≡ letter → differs ≡ false → kind ≡ letter
is_that kind name letter differs told same so = (bytes_eq-Decides kind name).0 (by (bytes_eq kind name) (sym so ∙ told)) ∙ same
  where
    by : (b : Bool) → false ≡ not b → b ≡ true
    by true is = refl
    by false is = absurd (true≢false (sym is))

-- a row is of one kind
pub one_kind : (line : List ℕ) (has_row : Bool) (kind payee_or_reason usage_or_count amount_or_total k w t f : List ℕ) → has_row ≡ true → text_of_row (row_of kind payee_or_reason usage_or_count amount_or_total) ≡ line ++ 10 ∷ []
    → text_of_row (row_of k w t f) ≡ (if has_row then line ++ 10 ∷ [] else []) → kind ≡ k
one_kind line has_row kind payee_or_reason usage_or_count amount_or_total k w t f row same other =
    let joined : text_of_row (row_of kind payee_or_reason usage_or_count amount_or_total) ≡ text_of_row (row_of k w t f) = same ∙ (λ i. if (sym row i) then line ++ 10 ∷ [] else []) ∙ sym other in
    ap (λ (r : List (List ℕ)). get_or r 0 []) (same_row (row_of kind payee_or_reason usage_or_count amount_or_total) (row_of k w t f) [] [] (ap (λ (text : List ℕ). text ++ []) joined)).0

-- or of a payee that cannot come next
pub payee_refused : (part : Unread) (at : At) (number : ℕ) (line : List ℕ) (left payee : Option (List ℕ)) (has_row : Bool) (kind payee_or_reason usage_or_count amount_or_total : List ℕ)
    → unread at number line left payee has_row ≡ part → has_row ≡ true → list_any is_feed line ≡ false → length line < 32768 → text_of_row (row_of kind payee_or_reason usage_or_count amount_or_total) ≡ line ++ 10 ∷ []
    → part.at.place ≡ Between → kind ≡ codes "L" → ¬ IsPayeeAt at.place at.payee payee_or_reason → RefusesRest part (refusal.Fault (PayeeOrReason number))
payee_refused part at number line left payee has_row kind payee_or_reason usage_or_count amount_or_total is row one short same between portion none =
    with_row_refused part at number line left payee has_row (refusal.Fault (PayeeOrReason number)) is row
    (field_refused at number (prepend_known (line ++ 10 ∷ []) left) left line kind payee_or_reason usage_or_count amount_or_total wrong.PayeeOrReason (takes_first (line ++ 10 ∷ []) left) one short same
    (subst (λ (place : Place). KindFits place kind) (sym (ap (λ (p : Unread). p.at.place) is ∙ between)) (inl portion), λ fits. none (fits.payee portion)))

-- where a row is at hand, or one has to come
pub letter_needs : (part : Unread) (letter : ℕ) → get_or part.line 0 0 ≡ letter → 0 < letter → NeedsRow part
letter_needs part letter first some = λ empty lines ended. omega (arith, ap (λ (line : List ℕ). get_or line 0 0) empty, first, some)

pub within_needs : (part : Unread) → IsWithinOne part.at → NeedsRow part
within_needs part (count, so_far, within) = λ empty lines ended. cc (within, ended)

pub summed_needs : (part : Unread) → part.at.place ≡ Summed → NeedsRow part
summed_needs part summed = λ empty lines ended. cc (summed, ended)

pub among_needs : (part : Unread) → IsAmongRests part → NeedsRow part
among_needs part among = λ empty lines ended. elim among [
  | inl can ↦ cc (can.between, ended)
  | inr resting ↦ cc (resting.2, ended)
]

-- no kind of row that can stand among what nobody gets
pub no_kind_here : (part : Unread) → IsAmongRests part → ¬ (get_or part.line 0 0 ≡ 77) → ¬ (get_or part.line 0 0 ≡ 84)
    → (kind : List ℕ) → KindFits part.at.place kind → ¬ IsOfKind part kind
no_kind_here part among no_rest no_sum kind fits (payee_or_reason, usage_or_count, amount_or_total, same) = elim among [
  | inl can ↦ elim (subst (λ (place : Place). KindFits place kind) can.between fits) [
    | inl l ↦ can.no_portion (payee_or_reason, usage_or_count, amount_or_total, (λ i. text_of_row (row_of (sym l i) payee_or_reason usage_or_count amount_or_total)) ∙ same)
    | inr other ↦ by other
  ]
  | inr resting ↦ by (subst (λ (place : Place). KindFits place kind) resting.2 fits)
]
  where
    first : (k : List ℕ) → kind ≡ k → get_or part.line 0 0 ≡ get_or (text_of_row (row_of k payee_or_reason usage_or_count amount_or_total)) 0 0
    first k is = ap (λ (text : List ℕ). get_or text 0 0) (sym same ∙ (λ i. text_of_row (row_of (is i) payee_or_reason usage_or_count amount_or_total)))

    by : (kind ≡ codes "M") ⊎ (kind ≡ codes "T") → ⊥
    by (inl m) = no_rest (first (codes "M") m)
    by (inr t) = no_sum (first (codes "T") t)

-- behind a row that can stand there
stepped : (start : Option (List ℕ)) (at next : At) (number : ℕ) (line : List ℕ) (left : Option (List ℕ)) → FollowsAs at (line ++ 10 ∷ []) next
    → IsReadTo start at (prepend_known (line ++ 10 ∷ []) left) number → IsReadTo start next left (number + 1)
stepped start at next number line left follows read =
    more_read start at next (prepend_known (line ++ 10 ∷ []) left) left number (line ++ 10 ∷ []) read follows (takes_first (line ++ 10 ∷ []) left)

-- and its number is not too large
goes_up : (start : Option (List ℕ)) (at : At) (number behind : ℕ) (left : Option (List ℕ)) → behind ≡ min (number + 1) (2 ^ 64 - 1) → IsReadTo start at left number → behind ≡ number + 1
goes_up start at number behind left counted read = omega (arith, counted, few_read start left at number read)

pub step_refused : (part : Unread) (at next : At) (number behind : ℕ) (line : List ℕ) (left payee : Option (List ℕ)) (has_row : Bool) (why : Refusal)
    → unread at number line left payee has_row ≡ part → has_row ≡ true → FollowsAs at (line ++ 10 ∷ []) next → behind ≡ min (number + 1) (2 ^ 64 - 1) → IsRefusedFrom next behind left why
    → RefusesRest part why
step_refused part at next number behind line left payee false why is row follows counted from = cc row
step_refused part at next number behind line left payee true why is row follows counted from = subst (λ (p : Unread). RefusesRest p why) is by
  where
    by : RefusesRest (unread at number line left payee true) why
    by = λ start read.
        let one_more = goes_up start at number behind (prepend_known (line ++ 10 ∷ []) left) counted read in
        rest_refused start left next (number + 1) why (stepped start at next number line left follows read) (subst (λ (k : ℕ). IsRefusedFrom next k left why) one_more from)

pub step_reads : (part : Unread) (at next : At) (number behind : ℕ) (line new_line : List ℕ) (left new_left payee new_payee : Option (List ℕ)) (has_row found : Bool)
    → unread at number line left payee has_row ≡ part → has_row ≡ true → FollowsAs at (line ++ 10 ∷ []) next → behind ≡ min (number + 1) (2 ^ 64 - 1)
    → (found ≡ true → Consumes left new_left (new_line ++ 10 ∷ [])) → (found ≡ false → Keeps left new_left) → ReadsOn part (unread next behind new_line new_left new_payee found)
step_reads part at next number behind line new_line left new_left payee new_payee false found is row follows counted more ends = cc row
step_reads part at next number behind line new_line left new_left payee new_payee true found is row follows counted more ends =
    subst (λ (p : Unread). ReadsOn p (unread next behind new_line new_left new_payee found)) is by
  where
    by : ReadsOn (unread at number line left payee true) (unread next behind new_line new_left new_payee found)
    by = λ start read.
        let was = stepped start at next number line left follows read in
        record {
          rows = was.rows;
          are = was.are;
          consumed = Consumes-kept start left (prepend_known (if found then new_line ++ 10 ∷ [] else []) new_left) (text_of was.rows) was.consumed (opened left left new_left new_line found refl more ends);
          counted = goes_up start at number behind (prepend_known (line ++ 10 ∷ []) left) counted read ∙ was.counted;
        }

-- ---- the first row

pub opened_is_read : (from : Option (List ℕ)) (part : Unread) → part.at ≡ at_first → part.number ≡ 1 → Keeps from part.left → IsRead from part
opened_is_read from part at number left = subst (λ (a : At). IsReadTo from a part.left part.number) (sym at) (subst (λ (k : ℕ). IsReadTo from at_first part.left k) (sym number) by)
  where
    by : IsReadTo from at_first part.left 1
    by = record { rows = []; are = no_rows at_first; consumed = Consumes-kept from from part.left [] (Consumes-nil from) left; counted = refl }

pub first_refused : (from left : Option (List ℕ)) (why : Refusal) → left ≡ from → IsRefusedFrom at_first 1 left why → IfSome from (λ text. IsRefusedFor text why)
first_refused from left why same refused = rest_refused from from at_first 1 why (none_read from) (subst (λ (l : Option (List ℕ)). IsRefusedFrom at_first 1 l why) same refused)

pub system_refused : (start : Option (List ℕ)) (why : Refusal) → IsOfSystem why → IfSome start (λ text. IsRefusedFor text why)
system_refused start (refusal.Fault fault) of = absurd of
system_refused start refusal.Memory of = nothing_claimed start
system_refused start refusal.Many of = absurd of
system_refused start (refusal.Read error) of = nothing_claimed start
system_refused start (refusal.Write error) of = nothing_claimed start

pub system_rest : (part : Unread) (why : Refusal) → IsOfSystem why → RefusesRest part why
system_rest part why of = λ start read. system_refused start why of

-- ---- many

-- what is said of a text and its refusal
pub placed : (P : ℕ → Refusal → Type 0) (place was : ℕ) (why whom : Refusal) → place ≡ was → why ≡ whom → P was whom → P place why
placed P place was why whom same is holds = subst (λ (p : ℕ). P p why) (sym same) (subst (P was) (sym is) holds)

pub system_of : (starts : List (Option (List ℕ))) (place : ℕ) (why : Refusal) → IsOfSystem why → IsRefusalOf starts place why
system_of starts place (refusal.Fault fault) of = absurd of
system_of starts place refusal.Memory of = tt
system_of starts place refusal.Many of = absurd of
system_of starts place (refusal.Read error) of = tt
system_of starts place (refusal.Write error) of = tt

pub refusal_of : (starts : List (Option (List ℕ))) (place : ℕ) (why : Refusal) → place < length starts → IfSome (get_or starts place None) (λ text. IsRefusedFor text why) → IsRefusalOf starts place why
refusal_of starts place (refusal.Fault fault) low is = (low, is)
refusal_of starts place refusal.Memory low is = tt
refusal_of starts place refusal.Many low is = inl (unknown_one starts place low is)
refusal_of starts place (refusal.Read error) low is = tt
refusal_of starts place (refusal.Write error) low is = tt

pub many_refused : (starts : List (Option (List ℕ))) (place : ℕ) (why : Refusal) → why ≡ refusal.Many → HaveTooManyPortions starts ⊎ HaveTooManyLines starts → IsRefusalOf starts place why
many_refused starts place why is many = subst (IsRefusalOf starts place) (sym is) many

record IsReadAt (starts : List (Option (List ℕ))) (parts : List Unread) (place : ℕ) (default : Unread) : Type 0 where
  pub low : place < length starts
  pub read : IsRead (get_or starts place None) (get_or parts place default)

read_at : (starts : List (Option (List ℕ))) (parts : List Unread) (place : ℕ) (default : Unread) → place < length parts → AreRead starts parts → IsReadAt starts parts place default
read_at _ _ place default low none_were = absurd (omega (arith, low))
read_at _ _ zero default low (more_were start part starts parts read others) = record { low = omega arith; read = read }
read_at _ _ (suc place) default low (more_were start part starts parts read others) =
    let rest = read_at starts parts place default (omega (arith, low)) others in
    record { low = omega (arith, rest.low); read = rest.read }

-- one of many is refused
pub one_refused : (starts : List (Option (List ℕ))) (parts : List Unread) (place : ℕ) (default : Unread) (why : Refusal) → place < length parts
    → RefusesRest (get_or parts place default) why → AreRead starts parts → IsRefusalOf starts place why
one_refused starts parts place default why low refuses are =
    let at = read_at starts parts place default low are in
    refusal_of starts place why at.low (refuses (get_or starts place None) at.read)

pub opened_length : (starts : List (Option (List ℕ))) (parts : List Unread) → AreOpen starts parts → length starts ≡ length parts
opened_length _ _ no_open = refl
opened_length _ _ (more_open start part starts parts at left read looked others) = omega (arith, opened_length starts parts others)

-- a reader in a place is refused
pub reader_refused : {R : Type 0} (remaining : R → Option (List ℕ)) (readers : List R) (place : ℕ) (reader : R) (why : Refusal) → place < length readers → reader ≡ get_or readers place reader
    → IfSome (remaining reader) (λ text. IsRefusedFor text why) → IsRefusalOf (map remaining readers) place why
reader_refused remaining readers place reader why low is refused =
    refusal_of (map remaining readers) place why (omega (arith, low, length-map readers remaining))
    (subst (λ (known : Option (List ℕ)). IfSome known (λ text. IsRefusedFor text why)) (ap remaining is ∙ sym (get_or-map remaining readers place reader None low)) refused)

pub opened_read : (starts : List (Option (List ℕ))) (parts : List Unread) → AreOpen starts parts → AreRead starts parts
opened_read _ _ no_open = none_were
opened_read _ _ (more_open start part starts parts at left read looked others) = more_were start part starts parts read (opened_read starts parts others)

pub passed_read : (starts : List (Option (List ℕ))) (parts : List Unread) (dones : List (List Statement)) → HavePassed starts parts dones → AreRead starts parts
passed_read _ _ _ no_passed = none_were
passed_read _ _ _ (more_passed start part done starts parts dones has have) = more_were start part starts parts has.read (passed_read starts parts dones have)

-- behind their last payees all can end
pub all_can_end : (starts : List (Option (List ℕ))) (parts : List Unread) (dones : List (List Statement)) → HavePassed starts parts dones → All (λ part. part.payee ≡ None) parts → All CanEnd parts
all_can_end _ _ _ no_passed none = All-nil CanEnd
all_can_end _ _ _ (more_passed start part done starts parts dones has have) none =
    let between = ap (λ (at : At). at.place) has.at in
    All-cons CanEnd part parts
    record { between = between; no_portion = has.looked (All-head (λ (p : Unread). p.payee ≡ None) part parts none) between }
    (all_can_end starts parts dones have (All-tail (λ (p : Unread). p.payee ≡ None) part parts none))
