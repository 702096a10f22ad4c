-- How what the lines of a file are goes on by one more line.
use Rattle.std.proofs.Common.{◌≡◌, ◌≤◌, ◌<◌, ◌+◌, ◌⊎◌, ℕ, Bool, true, false, cond, not, List, [], ◌∷◌, ◌++◌, length, take, reverse, slice_index, get_or, eqb, count_by, All, IfSome, Option, Some, None, nat_eq, ap, sym, refl, subst, ◌∙◌, append_assoc, zero-add, inl, inr, arith}
use Rattle.std.specs.Cmp.Lexicographic.{pointwise}
use Rattle.std.specs.List.{cons_option, enumerate_from, filter_map, find, list_all, take_while}
use Rattle.std.specs.Option.{option_map}
use Rattle.std.proofs.Math.Seq.{take-append_seam}
use Rattle.std.proofs.lemmas.Bool.{cases_Bool, cond-false, cond-true, false≢true, false_from_ne_true, not_from_false, not_from_true, true≢false}
use Rattle.std.proofs.lemmas.List.Elements.{All-cons, All-head, All-nil, All-push, All-tail, All-weaker, filter_map-append}
use Rattle.std.proofs.lemmas.List.FromFn.{get_or-enumerate_from, length-enumerate_from}
use Rattle.std.proofs.lemmas.List.Quantifiers.{all_pairs_push}
use Rattle.std.proofs.lemmas.List.Sums.{AllPass-from_list_all, count_by-le-length, sum_by_push, sum_by-take-le, take_while-cons}
use Rattle.std.proofs.lemmas.List.{append-nil, get_or_append_left, get_or_push, length-append, length_push, reverse-append, same_from_push, take-append-le}
use Rattle.std.proofs.lemmas.Option.{none-some}
use Rattle.std.proofs.lemmas.Slice.Eq.{bytes_eq-Decides}
use Rattle.csv_table.proofs.Codes.{code_small}
use Rattle.csv_table.specs.Forms.{number_of}
use Rattle.line_split.proofs.Enumerated.{enumerate_from_push}
use Rattle.line_split.specs.declared.TheConstants.{FULL_SHARE}
use Rattle.cwr_share.specs.Compiled.{InterestsRise}
use Rattle.csv_table.proofs.InTurn.{sound_none, sound_push}
use Rattle.cwr_share.specs.CwrFile.{AreSound, HasTooMany, IsFaultOf, IsFaultOfLine, IsFaultOfShare, IsOpening, IsShareRecord, IsSound, StandsIn}
use Rattle.cwr_share.specs.Fields.{IsShare, field_of, share_of}
use Rattle.cwr_share.specs.InForce.{AreShareLines, HasInForce, IsOneRegistration}
use Rattle.cwr_share.specs.Reading.{IsOpenWith, IsReadTo}
use Rattle.cwr_share.specs.Records.{ends_registration, is_share_line, opens_interest, opens_registration, share_fields, type_of}
use Rattle.cwr_share.specs.Registered.{IsShareLine}
use Rattle.cwr_share.specs.declared.fields.TheConstants.{WORK}
use Rattle.cwr_share.specs.declared.numbers.TheConstants.{MOST_PARTY_BYTES, MOST_WORK_BYTES}
use Rattle.cwr_share.proofs.FieldLemmas.{field_fits, party_short}
use Rattle.cwr_share.specs.Registrations.{ShareLine, find_work, registrations_of, share_line_of, share_lines_of, shares_in_force, work_of}
use Rattle.cwr_share.specs.declared.TheConstants.{MOST_SHARES}
use Rattle.cwr_share.specs.declared.cwr_fault.CwrFault.TheVariants.{Accounts, Memory}
use Rattle.cwr_share.specs.declared.cwr_fault.CwrFault.{CwrFault}
use Rattle.cwr_share.specs.declared.fields.ShareFields.{ShareFields}
use Rattle.cwr_share.specs.declared.reading.Open.{Open}
use Rattle.cwr_share.specs.declared.reading.Reading.{Reading}
use Rattle.cwr_share.specs.declared.record_type.RecordType.TheVariants.{Registration, Interest, PublisherShare, WriterShare, Closing, Other}
use Rattle.cwr_share.specs.declared.record_type.RecordType.{RecordType}

-- Lists

-- the front that passes ends at an element that doesn't
pub take_while_stop : {X : Type 0} (p : X → Bool) (xs : List X) (stop : X) (ys : List X) → p stop ≡ false → take_while p (xs ++ stop ∷ ys) ≡ take_while p xs
take_while_stop {X} p [] stop ys fails = take_while-cons p stop ys ∙ cond-false (p stop) (stop ∷ take_while p ys) [] fails
take_while_stop {X} p (x ∷ xs) stop ys fails =
    take_while-cons p x (xs ++ stop ∷ ys)
    ∙ (ap (λ (l : List X). cond (p x) (x ∷ l) []) (take_while_stop p xs stop ys fails) ∙ sym (take_while-cons p x xs))

-- a list of which all passes is its own front
pub take_while_all : {X : Type 0} (p : X → Bool) (xs : List X) → All (λ x. p x ≡ true) xs → take_while p xs ≡ xs
take_while_all p [] passes = refl
take_while_all {X} p (x ∷ xs) passes =
    take_while-cons p x xs
    ∙ (cond-true (p x) (x ∷ take_while p xs) [] (All-head (λ y. p y ≡ true) x xs passes)
    ∙ ap (λ (l : List X). x ∷ l) (take_while_all p xs (All-tail (λ y. p y ≡ true) x xs passes)))

-- where not all of a list passes, more behind it leaves its front
pub take_while_left : {X : Type 0} (p : X → Bool) (xs ys : List X) → list_all p xs ≡ false → take_while p (xs ++ ys) ≡ take_while p xs
take_while_left p [] ys fails = absurd (true≢false fails)
take_while_left {X} p (x ∷ xs) ys fails = by (p x) refl (take_while_left p xs ys)
  where
    by : (b : Bool) → p x ≡ b → (list_all p xs ≡ false → take_while p (xs ++ ys) ≡ take_while p xs) → take_while p (x ∷ (xs ++ ys)) ≡ take_while p (x ∷ xs)
    by true e more =
        take_while-cons p x (xs ++ ys)
        ∙ (ap (λ (l : List X). cond (p x) (x ∷ l) []) (more (rw e at fails)) ∙ sym (take_while-cons p x xs))
    by false e _ =
        take_while-cons p x (xs ++ ys) ∙ (cond-false (p x) (x ∷ take_while p (xs ++ ys)) [] e
        ∙ sym (take_while-cons p x xs ∙ cond-false (p x) (x ∷ take_while p xs) [] e))

-- a list is empty or has a last element
pub last_view : {X : Type 0} (xs : List X) → (xs ≡ []) ⊎ ((front : List X) × (last : X) × (xs ≡ front ++ last ∷ []))
last_view [] = inl refl
last_view {X} (x ∷ xs) = inr (by (last_view xs))
  where
    by : (xs ≡ []) ⊎ ((front : List X) × (last : X) × (xs ≡ front ++ last ∷ [])) → (front : List X) × (last : X) × (x ∷ xs ≡ front ++ last ∷ [])
    by (inl none) = ([], x, ap (λ (l : List X). x ∷ l) none)
    by (inr (front, last, is)) = (x ∷ front, last, ap (λ (l : List X). x ∷ l) is)

-- what holds of the empty list and goes on by one more element holds of every list
pub by_pushes : {X : Type 0} (P : List X → Type 0) → P [] → ((xs : List X) (x : X) → P xs → P (xs ++ x ∷ [])) → (xs : List X) → P xs
by_pushes {X} P none more xs = onwards [] xs none
  where
    onwards : (done left : List X) → P done → P (done ++ left)
    onwards done [] sofar = subst P (sym (append-nil done)) sofar
    onwards done (x ∷ left) sofar = subst P (append_assoc done (x ∷ []) left) (onwards (done ++ x ∷ []) left (more done x sofar))

-- what holds of a list with one element more holds of the list and of the element
All_front : {X : Type 0} (P : X → Type 0) (xs : List X) (x : X) → All P (xs ++ x ∷ []) → All P xs
All_front P xs x each = λ k d lt. subst P (get_or_append_left xs (x ∷ []) d k lt) (each k d (rw length_push (omega arith)))

All_last : {X : Type 0} (P : X → Type 0) (xs : List X) (x : X) → All P (xs ++ x ∷ []) → P x
All_last P xs x each = subst P (get_or_push xs x x (length xs) refl) (each (length xs) x (rw length_push (omega arith)))

-- A list cut into parts: each begins at an element that opens one, and goes on as long as the elements stay in it.
module _ {X W : Type 0} (opens stays : X → Bool) (name : X → W) where
  abbrev parts : List X → List (W × List X)
  parts [] = []
  parts (x ∷ later) = cond (opens x) ((name x, take_while stays later) ∷ parts later) (parts later)

  -- no part is open at the end
  abbrev AllClosed : List X → Type 0
  AllClosed xs = (earlier : List X) (x : X) (body : List X) → xs ≡ earlier ++ x ∷ body → opens x ≡ true → All (λ y. stays y ≡ true) body → ⊥

  module _ (apart : (x : X) → opens x ≡ true → stays x ≡ false) where
    none_open : (xs : List X) → All (λ y. stays y ≡ true) xs → parts xs ≡ []
    none_open [] inside = refl
    none_open (x ∷ xs) inside = by (opens x) refl (none_open xs (All-tail (λ y. stays y ≡ true) x xs inside))
      where
        by : (b : Bool) → opens x ≡ b → parts xs ≡ [] → parts (x ∷ xs) ≡ []
        by true e _ = absurd (true≢false (sym (All-head (λ y. stays y ≡ true) x xs inside) ∙ apart x e))
        by false e none = cond-false (opens x) ((name x, take_while stays xs) ∷ parts xs) (parts xs) e ∙ none

    parts_open : (xs : List X) (opening : X) (body : List X) → opens opening ≡ true → All (λ y. stays y ≡ true) body
        → parts (xs ++ opening ∷ body) ≡ parts xs ++ (name opening, body) ∷ []
    parts_open [] opening body open' inside =
        cond-true (opens opening) ((name opening, take_while stays body) ∷ parts body) (parts body) open'
        ∙ (ap (λ (l : List X). (name opening, l) ∷ parts body) (take_while_all stays body inside)
        ∙ ap (λ (l : List (W × List X)). (name opening, body) ∷ l) (none_open body inside))
    parts_open (x ∷ xs) opening body open' inside =
        ap (λ (l : List X). cond (opens x) ((name x, l) ∷ parts (xs ++ opening ∷ body)) (parts (xs ++ opening ∷ body))) (take_while_stop stays xs opening body (apart opening open'))
        ∙ (ap (λ (l : List (W × List X)). cond (opens x) ((name x, take_while stays xs) ∷ l) l) (parts_open xs opening body open' inside)
        ∙ by (opens x))
      where
        by : (b : Bool) → cond b ((name x, take_while stays xs) ∷ (parts xs ++ (name opening, body) ∷ [])) (parts xs ++ (name opening, body) ∷ [])
            ≡ cond b ((name x, take_while stays xs) ∷ parts xs) (parts xs) ++ (name opening, body) ∷ []
        by true = refl
        by false = refl

  parts_end : (xs : List X) (x : X) → opens x ≡ false → stays x ≡ false → parts (xs ++ x ∷ []) ≡ parts xs
  parts_end [] x shut ends = cond-false (opens x) ((name x, []) ∷ []) [] shut
  parts_end (y ∷ xs) x shut ends =
      ap (λ (l : List X). cond (opens y) ((name y, l) ∷ parts (xs ++ x ∷ [])) (parts (xs ++ x ∷ []))) (take_while_stop stays xs x [] ends)
      ∙ ap (λ (l : List (W × List X)). cond (opens y) ((name y, take_while stays xs) ∷ l) l) (parts_end xs x shut ends)

  parts_closed : (xs : List X) (x : X) → opens x ≡ false → AllClosed xs → parts (xs ++ x ∷ []) ≡ parts xs
  parts_closed [] x shut closed = cond-false (opens x) ((name x, []) ∷ []) [] shut
  parts_closed (y ∷ xs) x shut closed =
      by (opens y) refl (cases_Bool (list_all stays xs)) (parts_closed xs x shut (λ earlier z body is. closed (y ∷ earlier) z body (ap (λ (l : List X). y ∷ l) is)))
    where
      by : (b : Bool) → opens y ≡ b → (list_all stays xs ≡ true) ⊎ (list_all stays xs ≡ false) → parts (xs ++ x ∷ []) ≡ parts xs → parts (y ∷ (xs ++ x ∷ [])) ≡ parts (y ∷ xs)
      by true e (inl inside) rest = absurd (closed [] y xs refl e (AllPass-from_list_all stays xs inside))
      by true e (inr left) rest =
          ap (λ (l : List X). cond (opens y) ((name y, l) ∷ parts (xs ++ x ∷ [])) (parts (xs ++ x ∷ []))) (take_while_left stays xs (x ∷ []) left)
          ∙ ap (λ (l : List (W × List X)). cond (opens y) ((name y, take_while stays xs) ∷ l) l) rest
      by false e _ rest =
          cond-false (opens y) ((name y, take_while stays (xs ++ x ∷ [])) ∷ parts (xs ++ x ∷ [])) (parts (xs ++ x ∷ [])) e
          ∙ (rest ∙ sym (cond-false (opens y) ((name y, take_while stays xs) ∷ parts xs) (parts xs) e))

-- The types of lines

abbrev type_opens : RecordType → Bool
type_opens Registration = true
type_opens _ = false

abbrev pub type_ends : RecordType → Bool
type_ends Registration = true
type_ends Closing = true
type_ends _ = false

abbrev pub type_opens_interest : RecordType → Bool
type_opens_interest Interest = true
type_opens_interest _ = false

abbrev pub type_is_share : RecordType → Bool
type_is_share PublisherShare = true
type_is_share WriterShare = true
type_is_share _ = false

-- what a line is by its type
pub record IsOfType (type : RecordType) (line : List ℕ) : Type 0 where
  pub opens : opens_registration line ≡ type_opens type
  pub ends : ends_registration line ≡ type_ends type
  pub interest : opens_interest line ≡ type_opens_interest type
  pub share : is_share_line line ≡ type_is_share type

pub of_type : (type : RecordType) (line : List ℕ) → type_of line ≡ type → IsOfType type line
of_type type line is = record {
  opens = ap type_opens is;
  ends = ap type_ends is;
  interest = ap type_opens_interest is;
  share = ap type_is_share is;
}

-- the first line of a registration ends the one before
pub opens_ends : (line : List ℕ) → opens_registration line ≡ true → ends_registration line ≡ true
opens_ends line = by (type_of line)
  where
    by : (type : RecordType) → type_opens type ≡ true → type_ends type ≡ true
    by Registration _ = refl
    by Interest e = absurd (false≢true e)
    by PublisherShare e = absurd (false≢true e)
    by WriterShare e = absurd (false≢true e)
    by Closing _ = refl
    by Other e = absurd (false≢true e)

-- a line that goes on with a registration begins none
pub stays_shut : (line : List ℕ) → ends_registration line ≡ false → opens_registration line ≡ false
stays_shut line stays = false_from_ne_true (opens_registration line) (λ opens. true≢false (sym (opens_ends line opens) ∙ stays))

-- a share line begins neither a registration nor an interest, and ends no registration
pub share_stays : (line : List ℕ) → is_share_line line ≡ true → (opens_registration line ≡ false) × (ends_registration line ≡ false) × (opens_interest line ≡ false)
share_stays line = by (type_of line)
  where
    by : (type : RecordType) → type_is_share type ≡ true → (type_opens type ≡ false) × (type_ends type ≡ false) × (type_opens_interest type ≡ false)
    by Registration e = absurd (false≢true e)
    by Interest e = absurd (false≢true e)
    by PublisherShare _ = (refl, refl, refl)
    by WriterShare _ = (refl, refl, refl)
    by Closing e = absurd (false≢true e)
    by Other e = absurd (false≢true e)

-- Registrations

abbrev goes_on : List ℕ → Bool
goes_on line = not (ends_registration line)

as_parts : (lines : List (List ℕ)) → registrations_of lines ≡ parts opens_registration goes_on work_of lines
unfolding registrations_of
as_parts [] = refl
as_parts (line ∷ later) =
    ap (λ (rest : List (List ℕ × List (List ℕ))). cond (opens_registration line) ((work_of line, take_while goes_on later) ∷ rest) rest) (as_parts later)

go_on : (body : List (List ℕ)) → All (λ line. ends_registration line ≡ false) body → All (λ line. goes_on line ≡ true) body
go_on body stays = All-weaker (λ line. ends_registration line ≡ false) (λ line. goes_on line ≡ true) (λ line e. not_from_false (ends_registration line) e) body stays

-- a registration with its lines goes last
pub registrations_open : (before : List (List ℕ)) (opening : List ℕ) (body : List (List ℕ)) → opens_registration opening ≡ true → All (λ line. ends_registration line ≡ false) body
    → registrations_of (before ++ opening ∷ body) ≡ registrations_of before ++ (work_of opening, body) ∷ []
registrations_open before opening body opens stays =
    as_parts (before ++ opening ∷ body)
    ∙ (parts_open opens_registration goes_on work_of (λ line e. not_from_true (ends_registration line) (opens_ends line e)) before opening body opens (go_on body stays)
    ∙ ap (λ (l : List (List ℕ × List (List ℕ))). l ++ (work_of opening, body) ∷ []) (sym (as_parts before)))

-- a line that ends a registration and begins none adds none
pub registrations_end : (before : List (List ℕ)) (line : List ℕ) → opens_registration line ≡ false → ends_registration line ≡ true
    → registrations_of (before ++ line ∷ []) ≡ registrations_of before
registrations_end before line shut ends =
    as_parts (before ++ line ∷ [])
    ∙ (parts_end opens_registration goes_on work_of before line shut (not_from_true (ends_registration line) ends) ∙ sym (as_parts before))

-- a line outside a registration that begins none adds none
pub registrations_outside : (before : List (List ℕ)) (line : List ℕ) → opens_registration line ≡ false → ((body : List (List ℕ)) → ¬ StandsIn before body)
    → registrations_of (before ++ line ∷ []) ≡ registrations_of before
registrations_outside before line shut outside =
    as_parts (before ++ line ∷ []) ∙ (parts_closed opens_registration goes_on work_of before line shut closed ∙ sym (as_parts before))
  where
    closed : AllClosed opens_registration goes_on work_of before
    closed earlier opening body split opens inside = outside body record {
      earlier = earlier;
      opening = opening;
      split = split;
      opens = opens;
      stays = All-weaker (λ line. goes_on line ≡ true) (λ line. ends_registration line ≡ false) (λ line e. not_true_false (ends_registration line) e) body inside;
    }
      where
        not_true_false : (b : Bool) → not b ≡ true → b ≡ false
        not_true_false true e = absurd (false≢true e)
        not_true_false false e = refl

-- The registration that is open

abbrev pub Outside : List (List ℕ) → Type 0
Outside before = (body : List (List ℕ)) → ¬ StandsIn before body

pub stands_by : (earlier : List (List ℕ)) (opening : List ℕ) (body : List (List ℕ)) → opens_registration opening ≡ true → All (λ line. ends_registration line ≡ false) body
    → StandsIn (earlier ++ opening ∷ body) body
stands_by earlier opening body opens stays = record { earlier = earlier; opening = opening; split = refl; opens = opens; stays = stays }

registrations_of_open : (before body : List (List ℕ)) (open' : StandsIn before body) → registrations_of before ≡ registrations_of open'.earlier ++ (work_of open'.opening, body) ∷ []
registrations_of_open before body open' = ap registrations_of open'.split ∙ registrations_open open'.earlier open'.opening body open'.opens open'.stays

-- it has one list of lines so far
pub stands_same : (before body body' : List (List ℕ)) → StandsIn before body → StandsIn before body' → body ≡ body'
stands_same before body body' one other =
    ap (λ (entry : List ℕ × List (List ℕ)). entry.1)
    (same_from_push (registrations_of one.earlier) (registrations_of other.earlier) (work_of one.opening, body) (work_of other.opening, body')
    (sym (registrations_of_open before body one) ∙ registrations_of_open before body' other)).1

-- it begins with no lines
pub stands_open : (before : List (List ℕ)) (line : List ℕ) → opens_registration line ≡ true → StandsIn (before ++ line ∷ []) []
stands_open before line opens = stands_by before line [] opens (All-nil (λ other. ends_registration other ≡ false))

-- a line that doesn't end it is one of its lines
pub stands_on : (before body : List (List ℕ)) (line : List ℕ) → StandsIn before body → ends_registration line ≡ false → StandsIn (before ++ line ∷ []) (body ++ line ∷ [])
stands_on before body line open' stays = record {
  earlier = open'.earlier;
  opening = open'.opening;
  split = ap (λ (l : List (List ℕ)). l ++ line ∷ []) open'.split ∙ append_assoc open'.earlier (open'.opening ∷ body) (line ∷ []);
  opens = open'.opens;
  stays = All-push (λ other. ends_registration other ≡ false) body line open'.stays stays;
}

-- where one is open after a line, the line begins it, or it was open before
pub stands_back : (before body : List (List ℕ)) (line : List ℕ) → StandsIn (before ++ line ∷ []) body
    → ((opens_registration line ≡ true) × (body ≡ [])) ⊎ ((ends_registration line ≡ false) × (front : List (List ℕ)) × (body ≡ front ++ line ∷ []) × StandsIn before front)
stands_back before body line open' = by (last_view body)
  where
    by : (body ≡ []) ⊎ ((front : List (List ℕ)) × (last : List ℕ) × (body ≡ front ++ last ∷ []))
        → ((opens_registration line ≡ true) × (body ≡ [])) ⊎ ((ends_registration line ≡ false) × (front : List (List ℕ)) × (body ≡ front ++ line ∷ []) × StandsIn before front)
    by (inl none) =
        let same = same_from_push before open'.earlier line open'.opening (open'.split ∙ ap (λ (l : List (List ℕ)). open'.earlier ++ open'.opening ∷ l) none) in
        inl (ap opens_registration same.1 ∙ open'.opens, none)
    by (inr (front, last, is)) =
        let same = same_from_push before (open'.earlier ++ open'.opening ∷ front) line last
        (open'.split ∙ (ap (λ (l : List (List ℕ)). open'.earlier ++ open'.opening ∷ l) is ∙ sym (append_assoc open'.earlier (open'.opening ∷ front) (last ∷ [])))) in
        let stays = subst (λ (l : List (List ℕ)). All (λ other. ends_registration other ≡ false) l) is open'.stays in
        inr (
          ap ends_registration same.1 ∙ All_last (λ other. ends_registration other ≡ false) front last stays,
          front,
          is ∙ ap (λ (l : List ℕ). front ++ l ∷ []) (sym same.1),
          record {
            earlier = open'.earlier;
            opening = open'.opening;
            split = same.0;
            opens = open'.opens;
            stays = All_front (λ other. ends_registration other ≡ false) front last stays;
          },
        )

-- a line outside a registration that begins none leaves none open
pub outside_on : (before : List (List ℕ)) (line : List ℕ) → opens_registration line ≡ false → Outside before → Outside (before ++ line ∷ [])
outside_on before line shut outside body open' = by (stands_back before body line open')
  where
    by : ((opens_registration line ≡ true) × (body ≡ [])) ⊎ ((ends_registration line ≡ false) × (front : List (List ℕ)) × (body ≡ front ++ line ∷ []) × StandsIn before front) → ⊥
    by (inl begins) = true≢false (sym begins.0 ∙ shut)
    by (inr went_on) = outside went_on.1 went_on.3

-- nor does a line that ends it
pub outside_end : (before : List (List ℕ)) (line : List ℕ) → opens_registration line ≡ false → ends_registration line ≡ true → Outside (before ++ line ∷ [])
outside_end before line shut ends body open' = by (stands_back before body line open')
  where
    by : ((opens_registration line ≡ true) × (body ≡ [])) ⊎ ((ends_registration line ≡ false) × (front : List (List ℕ)) × (body ≡ front ++ line ∷ []) × StandsIn before front) → ⊥
    by (inl begins) = true≢false (sym begins.0 ∙ shut)
    by (inr went_on) = true≢false (sym ends ∙ went_on.0)

-- before the first line none is open
pub outside_none : Outside []
outside_none body open' = by open'.earlier open'.split
  where
    by : (earlier : List (List ℕ)) → [] ≡ earlier ++ open'.opening ∷ body → ⊥
    by [] e = cc
    by (line ∷ later) e = cc

-- Registrations in force

-- what stands beside a work, in a list with one entry more at its end, of which the last counts
pub find_work_last : {X : Type 0} (work name : List ℕ) (entries : List (List ℕ × X)) (x : X)
    → find_work work (reverse (entries ++ (name, x) ∷ [])) ≡ cond (pointwise nat_eq name work) (Some x) (find_work work (reverse entries))
find_work_last {X} work name entries x =
    ap (λ (l : List (List ℕ × X)). find_work work l) (reverse-append entries ((name, x) ∷ [])) ∙ by (pointwise nat_eq name work)
  where
    by : (b : Bool) → option_map (λ (entry : List ℕ × X). entry.1) (cond b (Some (name, x)) (find (λ (entry : List ℕ × X). pointwise nat_eq entry.0 work) (reverse entries)))
        ≡ cond b (Some x) (find_work work (reverse entries))
    by true = refl
    by false = refl

-- the last registration is in force for its work, and leaves the others
pub in_force_open : (before : List (List ℕ)) (opening : List ℕ) (body : List (List ℕ)) (work : List ℕ) → opens_registration opening ≡ true → All (λ line. ends_registration line ≡ false) body
    → shares_in_force (before ++ opening ∷ body) work ≡ cond (pointwise nat_eq (work_of opening) work) (Some (share_lines_of body)) (shares_in_force before work)
in_force_open before opening body work opens stays =
    ap (λ (l : List (List ℕ × List (List ℕ))). option_map share_lines_of (find_work work (reverse l))) (registrations_open before opening body opens stays)
    ∙ (ap (λ (found : Option (List (List ℕ))). option_map share_lines_of found) (find_work_last work (work_of opening) (registrations_of before) body)
    ∙ by (pointwise nat_eq (work_of opening) work))
  where
    by : (b : Bool) → option_map share_lines_of (cond b (Some body) (find_work work (reverse (registrations_of before)))) ≡ cond b (Some (share_lines_of body)) (shares_in_force before work)
    by true = refl
    by false = refl

pub in_force_whole : (before : List (List ℕ)) (opening : List ℕ) (body : List (List ℕ)) → opens_registration opening ≡ true → All (λ line. ends_registration line ≡ false) body
    → shares_in_force (before ++ opening ∷ body) (work_of opening) ≡ Some (share_lines_of body)
in_force_whole before opening body opens stays =
    in_force_open before opening body (work_of opening) opens stays
    ∙ cond-true (pointwise nat_eq (work_of opening) (work_of opening)) (Some (share_lines_of body)) (shares_in_force before (work_of opening)) ((bytes_eq-Decides (work_of opening) (work_of opening)).1 refl)

pub in_force_alone : (before : List (List ℕ)) (opening : List ℕ) (body : List (List ℕ)) (work : List ℕ) → opens_registration opening ≡ true → All (λ line. ends_registration line ≡ false) body
    → ¬ (work ≡ work_of opening) → shares_in_force (before ++ opening ∷ body) work ≡ shares_in_force before work
in_force_alone before opening body work opens stays other =
    in_force_open before opening body work opens stays
    ∙ cond-false (pointwise nat_eq (work_of opening) work) (Some (share_lines_of body)) (shares_in_force before work)
    (false_from_ne_true (pointwise nat_eq (work_of opening) work) (λ same. other (sym ((bytes_eq-Decides (work_of opening) work).0 same))))

-- lines with the same registrations have the same in force
pub in_force_same : (before after : List (List ℕ)) (work : List ℕ) → registrations_of after ≡ registrations_of before → shares_in_force after work ≡ shares_in_force before work
in_force_same before after work same = ap (λ (l : List (List ℕ × List (List ℕ))). option_map share_lines_of (find_work work (reverse l))) same

-- Lines as they have to be

-- a line that begins no registration and is no share line may be anything
pub sound_other : (before : List (List ℕ)) (line : List ℕ) → opens_registration line ≡ false → is_share_line line ≡ false → IsSound before line
sound_other before line shut other = record {
  opening = λ opens. absurd (true≢false (sym opens ∙ shut));
  share = λ body open' share. absurd (true≢false (sym share ∙ other));
}

-- the first line of a registration
pub sound_opening : (before : List (List ℕ)) (line : List ℕ) → opens_registration line ≡ true → IsOpening line → IsSound before line
sound_opening before line opens good = record {
  opening = λ _. good;
  share = λ body open' share. absurd (true≢false (sym opens ∙ (share_stays line share).0));
}

-- a line outside a registration that begins none may be anything
pub sound_outside : (before : List (List ℕ)) (line : List ℕ) → opens_registration line ≡ false → Outside before → IsSound before line
sound_outside before line shut outside = record {
  opening = λ opens. absurd (true≢false (sym opens ∙ shut));
  share = λ body open' share. absurd (outside body open');
}

-- Share lines

-- the share line that the line at a place is, where it is one
abbrev share_at : List (List ℕ) → ℕ × List ℕ → Option ShareLine
share_at lines e = cond (is_share_line e.1) (Some (share_line_of (count_by opens_interest (take e.0 lines)) (share_fields e.1) e.1)) None

pub filter_map_agree : {X Y : Type 0} (h g : X → Option Y) (xs : List X) → All (λ x. h x ≡ g x) xs → filter_map h xs ≡ filter_map g xs
filter_map_agree h g [] same = refl
filter_map_agree {X} {Y} h g (x ∷ xs) same =
    ap (λ (o : Option Y). cons_option o (filter_map h xs)) (All-head (λ y. h y ≡ g y) x xs same)
    ∙ ap (λ (l : List Y). cons_option (g x) l) (filter_map_agree h g xs (All-tail (λ y. h y ≡ g y) x xs same))

All-filter_map : {X Y : Type 0} (P : Y → Type 0) (h : X → Option Y) (xs : List X) → ((x : X) → IfSome (h x) P) → All P (filter_map h xs)
All-filter_map P h [] each = All-nil P
All-filter_map {X} {Y} P h (x ∷ xs) each = by (h x) (each x) (All-filter_map P h xs each)
  where
    by : (o : Option Y) → IfSome o P → All P (filter_map h xs) → All P (cons_option o (filter_map h xs))
    by None _ rest = rest
    by (Some y) here rest = All-cons P y (filter_map h xs) here rest

-- the lines before the last are the share lines that they were
share_lines_front : (body : List (List ℕ)) (line : List ℕ) → filter_map (share_at (body ++ line ∷ [])) (enumerate_from 0 body) ≡ share_lines_of body
share_lines_front body line = filter_map_agree (share_at (body ++ line ∷ [])) (share_at body) (enumerate_from 0 body) same
  where
    same : All (λ e. share_at (body ++ line ∷ []) e ≡ share_at body e) (enumerate_from 0 body)
    same k d lt =
        let within : k < length body = rw length-enumerate_from at lt in
        let other = get_or body k d.1 in
        let here : get_or (enumerate_from 0 body) k d ≡ (0 + k, other) = get_or-enumerate_from 0 body k d within in
        let front : take (0 + k) (body ++ line ∷ []) ≡ take (0 + k) body = take-append-le (0 + k) body (line ∷ []) (omega arith) in
        ap (share_at (body ++ line ∷ [])) here
        ∙ (ap (λ (front : List (List ℕ)). cond (is_share_line other) (Some (share_line_of (count_by opens_interest front) (share_fields other) other)) None) front
        ∙ sym (ap (share_at body) here))

share_lines_push : (body : List (List ℕ)) (line : List ℕ) → share_lines_of (body ++ line ∷ [])
    ≡ share_lines_of body ++ cons_option (cond (is_share_line line) (Some (share_line_of (count_by opens_interest body) (share_fields line) line)) None) []
share_lines_push body line =
    ap (λ (l : List (ℕ × List ℕ)). filter_map (share_at (body ++ line ∷ [])) l) (enumerate_from_push 0 body line)
    ∙ (filter_map-append (share_at (body ++ line ∷ [])) (enumerate_from 0 body) ((0 + length body, line) ∷ [])
    ∙ (ap (λ (l : List ShareLine). l ++ cons_option (share_at (body ++ line ∷ []) (0 + length body, line)) []) (share_lines_front body line)
    ∙ ap (λ (front : List (List ℕ)). share_lines_of body ++ cons_option (cond (is_share_line line) (Some (share_line_of (count_by opens_interest front) (share_fields line) line)) None) []) whole))
  where
    whole : take (0 + length body) (body ++ line ∷ []) ≡ body
    whole = ap (λ (n : ℕ). take n (body ++ line ∷ [])) (zero-add (length body)) ∙ take-append_seam body (line ∷ [])

-- a share line goes last, in the interest that was opened last before it
pub share_lines_yes : (body : List (List ℕ)) (line : List ℕ) → is_share_line line ≡ true
    → share_lines_of (body ++ line ∷ []) ≡ share_lines_of body ++ share_line_of (count_by opens_interest body) (share_fields line) line ∷ []
share_lines_yes body line is =
    share_lines_push body line
    ∙ ap (λ (b : Bool). share_lines_of body ++ cons_option (cond b (Some (share_line_of (count_by opens_interest body) (share_fields line) line)) None) []) is

-- another line is none
pub share_lines_no : (body : List (List ℕ)) (line : List ℕ) → is_share_line line ≡ false → share_lines_of (body ++ line ∷ []) ≡ share_lines_of body
share_lines_no body line is =
    share_lines_push body line
    ∙ (ap (λ (b : Bool). share_lines_of body ++ cons_option (cond b (Some (share_line_of (count_by opens_interest body) (share_fields line) line)) None) []) is
    ∙ append-nil (share_lines_of body))

pub count_by_yes : {X : Type 0} (p : X → Bool) (xs : List X) (x : X) → p x ≡ true → count_by p (xs ++ x ∷ []) ≡ count_by p xs + 1
count_by_yes p xs x is = sum_by_push (λ y. cond (p y) 1 0) xs x ∙ ap (λ (b : Bool). count_by p xs + cond b 1 0) is

pub count_by_no : {X : Type 0} (p : X → Bool) (xs : List X) (x : X) → p x ≡ false → count_by p (xs ++ x ∷ []) ≡ count_by p xs
count_by_no p xs x is = sum_by_push (λ y. cond (p y) 1 0) xs x ∙ (ap (λ (b : Bool). count_by p xs + cond b 1 0) is ∙ omega arith)

-- there are as many as lines of that type
pub length_share_lines : (body : List (List ℕ)) → length (share_lines_of body) ≡ count_by is_share_line body
length_share_lines = by_pushes (λ body. length (share_lines_of body) ≡ count_by is_share_line body) refl more
  where
    more : (body : List (List ℕ)) (line : List ℕ) → length (share_lines_of body) ≡ count_by is_share_line body
        → length (share_lines_of (body ++ line ∷ [])) ≡ count_by is_share_line (body ++ line ∷ [])
    more body line sofar = by (cases_Bool (is_share_line line))
      where
        by : (is_share_line line ≡ true) ⊎ (is_share_line line ≡ false) → length (share_lines_of (body ++ line ∷ [])) ≡ count_by is_share_line (body ++ line ∷ [])
        by (inl is) =
            ap length (share_lines_yes body line is)
            ∙ (length_push (share_lines_of body) (share_line_of (count_by opens_interest body) (share_fields line) line)
            ∙ (ap (λ (n : ℕ). n + 1) sofar ∙ sym (count_by_yes is_share_line body line is)))
        by (inr is) = ap length (share_lines_no body line is) ∙ (sofar ∙ sym (count_by_no is_share_line body line is))

-- their interests are those that were opened
pub interests_upto : (body : List (List ℕ)) → All (λ share. share.interest ≤ count_by opens_interest body) (share_lines_of body)
interests_upto body = All-filter_map (λ share. share.interest ≤ count_by opens_interest body) (share_at body) (enumerate_from 0 body) each
  where
    each : (e : ℕ × List ℕ) → IfSome (share_at body e) (λ share. share.interest ≤ count_by opens_interest body)
    each e = by (is_share_line e.1)
      where
        by : (b : Bool) → IfSome (cond b (Some (share_line_of (count_by opens_interest (take e.0 body)) (share_fields e.1) e.1)) None) (λ share. share.interest ≤ count_by opens_interest body)
        by true = sum_by-take-le (λ line. cond (opens_interest line) 1 0) body e.0
        by false = tt

-- one more share line, in the interest that was opened last
pub rise_push : (body : List (List ℕ)) (share : ShareLine) → share.interest ≡ count_by opens_interest body → InterestsRise (share_lines_of body) → InterestsRise (share_lines_of body ++ share ∷ [])
rise_push body share is rise =
    all_pairs_push (λ (line later : ShareLine). line.interest ≤ later.interest) (share_lines_of body) share rise
    (λ k d lt. let upto = interests_upto body k d lt in omega (arith, upto, is))

-- and do not fall
pub interests_rise : (body : List (List ℕ)) → InterestsRise (share_lines_of body)
interests_rise = by_pushes (λ body. InterestsRise (share_lines_of body)) none more
  where
    none : InterestsRise (share_lines_of [])
    none i j d before within = absurd (omega arith)

    more : (body : List (List ℕ)) (line : List ℕ) → InterestsRise (share_lines_of body) → InterestsRise (share_lines_of (body ++ line ∷ []))
    more body line rise = by (cases_Bool (is_share_line line))
      where
        by : (is_share_line line ≡ true) ⊎ (is_share_line line ≡ false) → InterestsRise (share_lines_of (body ++ line ∷ []))
        by (inl is) =
            subst (λ (shares : List ShareLine). InterestsRise shares) (sym (share_lines_yes body line is))
            (rise_push body (share_line_of (count_by opens_interest body) (share_fields line) line) refl rise)
        by (inr is) = subst (λ (shares : List ShareLine). InterestsRise shares) (sym (share_lines_no body line is)) rise

share_of_small : (field : List ℕ) → IsShare field → share_of field ≤ FULL_SHARE
share_of_small field (inl blank) = subst (λ (f : List ℕ). share_of f ≤ FULL_SHARE) (sym blank) (omega arith)
share_of_small field (inr digits) = by (eqb (slice_index field 0) 32)
  where
    by : (b : Bool) → cond b 0 (number_of field) ≤ FULL_SHARE
    by true = omega arith
    by false = digits.small

-- what a share line with the forms of its fields says is in its limits
pub share_line_sound : (earlier : ℕ) (fields : ShareFields) (line : List ℕ) (interest : ℕ) → IsShareRecord earlier fields line → IsShareLine (share_line_of interest fields line)
share_line_sound earlier fields line interest good = record {
  party = good.party.some;
  performing = share_of_small (field_of fields.performing line) good.shares.0;
  mechanical = share_of_small (field_of fields.mechanical line) good.shares.1;
  synchronisation = share_of_small (field_of fields.synchronisation line) good.shares.2;
  territory = (good.land.some, (code_small (field_of fields.territory line) good.land).small);
}

pub share_lines_none : AreShareLines []
share_lines_none = record { sound = All-nil IsShareLine; rise = λ i j d before within. absurd (omega arith) }

one_none : IsOneRegistration []
one_none = record { few = omega arith; parties = All-nil (λ line. length line.party ≤ MOST_PARTY_BYTES) }

-- one more, of the last interest
pub share_lines_more : (shares : List ShareLine) (share : ShareLine) → AreShareLines shares → IsShareLine share
    → All (λ other. other.interest ≤ share.interest) shares → AreShareLines (shares ++ share ∷ [])
share_lines_more shares share sound good upto = record {
  sound = All-push IsShareLine shares share sound.sound good;
  rise = all_pairs_push (λ (line later : ShareLine). line.interest ≤ later.interest) shares share sound.rise upto;
}

one_more : (shares : List ShareLine) (share : ShareLine) → IsOneRegistration shares → length shares < MOST_SHARES → length share.party ≤ MOST_PARTY_BYTES → IsOneRegistration (shares ++ share ∷ [])
one_more shares share one few short = record {
  few = rw length_push (omega arith);
  parties = All-push (λ line. length line.party ≤ MOST_PARTY_BYTES) shares share one.parties short;
}

-- What was read

-- what IsReadTo says by the registration that is open
abbrev pub Stands : List (List ℕ) → Reading → Option Open → Type 0
Stands lines reading None = HasInForce lines reading.in_force × Outside lines
Stands lines reading (Some registration) = (earlier : List (List ℕ)) × (opening : List ℕ) × (body : List (List ℕ))
    × (lines ≡ earlier ++ opening ∷ body) × HasInForce earlier reading.in_force × IsOpenWith body opening registration

pub read_at : (lines : List (List ℕ)) (reading : Reading) (open' : Option Open) → reading.open ≡ open' → IsReadTo lines reading → Stands lines reading open'
read_at lines reading open' is read = subst (λ (o : Option Open). Stands lines reading o) is read.1

pub read_as : (lines : List (List ℕ)) (reading : Reading) (open' : Option Open) → reading.open ≡ open' → AreSound lines → Stands lines reading open' → IsReadTo lines reading
read_as lines reading open' is sound stands = (sound, subst (λ (o : Option Open). Stands lines reading o) (sym is) stands)

-- a reading has the same in force as another
pub in_force_alike : (lines : List (List ℕ)) (old new : Reading) → new.in_force ≡ old.in_force → HasInForce lines old.in_force → HasInForce lines new.in_force
in_force_alike lines old new same forced = subst (HasInForce lines) (sym same) forced

-- what is in force after some lines is in force after others, where these leave the same
forced_same : (lines others : List (List ℕ)) (works : List (List ℕ × List ShareLine)) → ((work : List ℕ) → shares_in_force lines work ≡ shares_in_force others work) → HasInForce lines works → HasInForce others works
forced_same lines others works same forced = record { in_force = λ work. forced.in_force work ∙ same work; each = forced.each }

-- before the first line nothing is in force
pub read_start : (reading : Reading) → reading.open ≡ None → reading.in_force ≡ [] → IsReadTo [] reading
unfolding registrations_of
read_start reading none works = read_as [] reading None none (sound_none IsSound) (subst (HasInForce []) (sym works) nothing, outside_none)
  where
    nothing : HasInForce [] []
    nothing = record { in_force = λ work. refl; each = λ work shares found. absurd (none-some shares found) }

-- a line outside a registration that begins none
pub read_outside : (before : List (List ℕ)) (line : List ℕ) (old new : Reading) → old.open ≡ None → new.open ≡ None → new.in_force ≡ old.in_force → opens_registration line ≡ false
    → IsReadTo before old → IsReadTo (before ++ line ∷ []) new
read_outside before line old new was is same shut read =
    let (forced, outside) = read_at before old None was read in
    read_as (before ++ line ∷ []) new None is (sound_push IsSound before line read.0 (sound_outside before line shut outside)) (
      forced_same before (before ++ line ∷ []) new.in_force (λ work. sym (in_force_same before (before ++ line ∷ []) work (registrations_outside before line shut outside)))
          (in_force_alike before old new same forced),
      outside_on before line shut outside,
    )

-- a line of the open registration
pub read_inside : (before : List (List ℕ)) (line : List ℕ) (old new : Reading) (registration next : Open) → old.open ≡ Some registration → new.open ≡ Some next → new.in_force ≡ old.in_force
    → ((opening : List ℕ) (body : List (List ℕ)) → StandsIn before body → IsOpenWith body opening registration → IsSound before line × IsOpenWith (body ++ line ∷ []) opening next)
    → IsReadTo before old → IsReadTo (before ++ line ∷ []) new
read_inside before line old new registration next was is same goes read =
    let (earlier, opening, body, split, forced, with) = read_at before old (Some registration) was read in
    let open' = subst (λ (l : List (List ℕ)). StandsIn l body) (sym split) (stands_by earlier opening body with.opens with.stays) in
    let (good, on) = goes opening body open' with in
    read_as (before ++ line ∷ []) new (Some next) is (sound_push IsSound before line read.0 good) (
      earlier,
      opening,
      body ++ line ∷ [],
      ap (λ (l : List (List ℕ)). l ++ line ∷ []) split ∙ append_assoc earlier (opening ∷ body) (line ∷ []),
      in_force_alike earlier old new same forced,
      on,
    )

-- the first line of a registration, below lines whose registrations have ended
pub read_opening : (before : List (List ℕ)) (line : List ℕ) (ended new : Reading) (registration : Open) → new.open ≡ Some registration → new.in_force ≡ ended.in_force
    → opens_registration line ≡ true → IsSound before line → registration.work.items ≡ work_of line → registration.shares.items ≡ [] → registration.interest ≡ 0
    → AreSound before → HasInForce before ended.in_force → IsReadTo (before ++ line ∷ []) new
read_opening before line ended new registration is same opens good work shares interest sound forced =
    read_as (before ++ line ∷ []) new (Some registration) is (sound_push IsSound before line sound good)
    (before, line, [], refl, in_force_alike before ended new same forced, with)
  where
    with : IsOpenWith [] line registration
    with = record {
      opens = opens;
      work = work;
      stays = All-nil (λ other. ends_registration other ≡ false);
      shares = shares;
      sound = subst (λ (l : List ShareLine). AreShareLines l) (sym shares) share_lines_none;
      one = subst IsOneRegistration (sym shares) one_none;
      interest = interest;
    }

-- a line that ends it, below lines whose registrations have ended
pub read_end : (before : List (List ℕ)) (line : List ℕ) (new : Reading) → new.open ≡ None → opens_registration line ≡ false → ends_registration line ≡ true → is_share_line line ≡ false
    → AreSound before → HasInForce before new.in_force → IsReadTo (before ++ line ∷ []) new
read_end before line new is shut ends other sound forced =
    read_as (before ++ line ∷ []) new None is (sound_push IsSound before line sound (sound_other before line shut other)) (
      forced_same before (before ++ line ∷ []) new.in_force (λ work. sym (in_force_same before (before ++ line ∷ []) work (registrations_end before line shut ends))) forced,
      outside_end before line shut ends,
    )

-- it has as many share lines as lines of that type
pub count_of : (body : List (List ℕ)) (opening : List ℕ) (registration : Open) → IsOpenWith body opening registration → length registration.shares.items ≡ count_by is_share_line body
count_of body opening registration with = ap length with.shares ∙ length_share_lines body

-- the open registration goes on by a line that is neither a share line nor an interest
pub open_other : (opening : List ℕ) (body : List (List ℕ)) (line : List ℕ) (registration : Open) → ends_registration line ≡ false → is_share_line line ≡ false → opens_interest line ≡ false
    → IsOpenWith body opening registration → IsOpenWith (body ++ line ∷ []) opening registration
open_other opening body line registration stays other none with = record {
  opens = with.opens;
  work = with.work;
  stays = All-push (λ other. ends_registration other ≡ false) body line with.stays stays;
  shares = with.shares ∙ sym (share_lines_no body line other);
  sound = with.sound;
  one = with.one;
  interest = with.interest ∙ sym (count_by_no opens_interest body line none);
}

-- by an interest
pub open_interest : (opening : List ℕ) (body : List (List ℕ)) (line : List ℕ) (registration next : Open) → ends_registration line ≡ false → is_share_line line ≡ false → opens_interest line ≡ true
    → next.work.items ≡ registration.work.items → next.shares.items ≡ registration.shares.items → next.interest ≡ registration.interest + 1
    → IsOpenWith body opening registration → IsOpenWith (body ++ line ∷ []) opening next
open_interest opening body line registration next stays other opens work shares interest with = record {
  opens = with.opens;
  work = work ∙ with.work;
  stays = All-push (λ other. ends_registration other ≡ false) body line with.stays stays;
  shares = shares ∙ (with.shares ∙ sym (share_lines_no body line other));
  sound = subst (λ (l : List ShareLine). AreShareLines l) (sym shares) with.sound;
  one = subst IsOneRegistration (sym shares) with.one;
  interest = interest ∙ (ap (λ (n : ℕ). n + 1) with.interest ∙ sym (count_by_yes opens_interest body line opens));
}

-- by a share line
pub open_share : (opening : List ℕ) (body : List (List ℕ)) (line : List ℕ) (registration next : Open) → is_share_line line ≡ true
    → next.work.items ≡ registration.work.items → next.shares.items ≡ registration.shares.items ++ share_line_of registration.interest (share_fields line) line ∷ [] → next.interest ≡ registration.interest
    → IsShareRecord (length registration.shares.items) (share_fields line) line
    → IsOpenWith body opening registration → IsOpenWith (body ++ line ∷ []) opening next
open_share opening body line registration next is work shares interest good with =
    let (shut, stays, none) = share_stays line is in
    let share = share_line_of registration.interest (share_fields line) line in
    record {
      opens = with.opens;
      work = work ∙ with.work;
      stays = All-push (λ other. ends_registration other ≡ false) body line with.stays stays;
      shares = shares
          ∙ (ap (λ (l : List ShareLine). l ++ share ∷ []) with.shares
          ∙ (ap (λ (n : ℕ). share_lines_of body ++ share_line_of n (share_fields line) line ∷ []) with.interest ∙ sym (share_lines_yes body line is)));
      sound = subst (λ (l : List ShareLine). AreShareLines l) (sym shares) (share_lines_more registration.shares.items share with.sound
          (share_line_sound (length registration.shares.items) (share_fields line) line registration.interest good)
          (rw (with.shares, with.interest) (interests_upto body)));
      one = subst IsOneRegistration (sym shares) (one_more registration.shares.items share with.one good.few (party_short line));
      interest = interest ∙ (with.interest ∙ sym (count_by_no opens_interest body line none));
    }

-- a share line of the open registration is as it has to be
pub sound_share : (before : List (List ℕ)) (line : List ℕ) (opening : List ℕ) (body : List (List ℕ)) (registration : Open) → is_share_line line ≡ true
    → IsShareRecord (length registration.shares.items) (share_fields line) line → StandsIn before body → IsOpenWith body opening registration → IsSound before line
sound_share before line opening body registration is good open' with = record {
  opening = λ opens. absurd (true≢false (sym opens ∙ (share_stays line is).0));
  share = λ other there _. subst (λ (n : ℕ). IsShareRecord n (share_fields line) line)
      (count_of body opening registration with ∙ ap (λ (l : List (List ℕ)). count_by is_share_line l) (stands_same before body other open' there)) good;
}

-- a line that is skipped
pub read_skipped : (before : List (List ℕ)) (line : List ℕ) (reading : Reading) → IsOfType Other line → IsReadTo before reading → IsReadTo (before ++ line ∷ []) reading
read_skipped before line reading type = by reading.open refl
  where
    by : (o : Option Open) → reading.open ≡ o → IsReadTo before reading → IsReadTo (before ++ line ∷ []) reading
    by None is = read_outside before line reading reading is is refl type.opens
    by (Some registration) is =
        read_inside before line reading reading registration registration is is refl
        (λ opening body open' with. (sound_other before line type.opens type.share, open_other opening body line registration type.ends type.share type.interest with))

-- a registration that ends is in force in place of an earlier one of its work
pub ended_by : (lines : List (List ℕ)) (old : Reading) (works : List (List ℕ × List ShareLine)) (registration : Open) → Stands lines old (Some registration)
    → ((work : List ℕ) → find_work work works ≡ cond (pointwise nat_eq registration.work.items work) (Some registration.shares.items) (find_work work old.in_force))
    → HasInForce lines works
ended_by lines old works registration (earlier, opening, body, split, forced, with) found = record { in_force = in_force; each = each }
  where
    in_force : (work : List ℕ) → find_work work works ≡ shares_in_force lines work
    in_force work =
        found work
        ∙ (ap (λ (name : List ℕ). cond (pointwise nat_eq name work) (Some registration.shares.items) (find_work work old.in_force)) with.work
        ∙ (ap (λ (shares : List ShareLine). cond (pointwise nat_eq (work_of opening) work) (Some shares) (find_work work old.in_force)) with.shares
        ∙ (ap (λ (before : Option (List ShareLine)). cond (pointwise nat_eq (work_of opening) work) (Some (share_lines_of body)) before) (forced.in_force work)
        ∙ (sym (in_force_open earlier opening body work with.opens with.stays) ∙ ap (λ (l : List (List ℕ)). shares_in_force l work) (sym split)))))

    each : (work : List ℕ) (shares : List ShareLine) → find_work work works ≡ Some shares → IsOneRegistration shares
    each work shares is = by (pointwise nat_eq registration.work.items work) (sym (found work) ∙ is)
      where
        by : (its : Bool) → cond its (Some registration.shares.items) (find_work work old.in_force) ≡ Some shares → IsOneRegistration shares
        by true this = let same : registration.shares.items ≡ shares = cc this in subst IsOneRegistration same with.one
        by false before = forced.each work shares before

-- the registration that ends is one of sound share lines, and its work has no long number
pub open_kept : (lines : List (List ℕ)) (reading : Reading) (registration : Open) → reading.open ≡ Some registration → IsReadTo lines reading
    → (length registration.work.items ≤ MOST_WORK_BYTES) × AreShareLines registration.shares.items
open_kept lines reading registration was read =
    let (earlier, opening, body, split, forced, with) = read_at lines reading (Some registration) was read in
    (rw with.work (omega (arith, field_fits WORK opening)), with.sound)

-- fewer interests were opened than lines were read
pub interest_small : (lines : List (List ℕ)) (reading : Reading) → IsReadTo lines reading → IfSome reading.open (λ registration. registration.interest < length lines)
interest_small lines reading read = by reading.open read.1
  where
    by : (o : Option Open) → Stands lines reading o → IfSome o (λ registration. registration.interest < length lines)
    by None stands = tt
    by (Some registration) (earlier, opening, body, split, forced, with) =
        let opened : registration.interest ≤ length body = rw with.interest (count_by-le-length opens_interest body) in
        rw (split, length-append earlier (opening ∷ body)) (omega arith)

-- what a share line of the open registration is refused for
pub fault_of_share : (before : List (List ℕ)) (line : List ℕ) (number : ℕ) (reading : Reading) (registration : Open) (fault : CwrFault) → reading.open ≡ Some registration → is_share_line line ≡ true
    → IsFaultOfShare (length registration.shares.items) (share_fields line) line number fault → IsReadTo before reading → IsFaultOfLine before number line fault
fault_of_share before line number reading registration fault was is refused read =
    let (earlier, opening, body, split, forced, with) = read_at before reading (Some registration) was read in
    inr (
      is,
      body,
      subst (λ (l : List (List ℕ)). StandsIn l body) (sym split) (stands_by earlier opening body with.opens with.stays),
      subst (λ (n : ℕ). IsFaultOfShare n (share_fields line) line number fault) (count_of body opening registration with) refused,
    )

-- The lines of a file

-- the lines are refused for their payees
pub payees_fault : (rows : List (List ℕ × List ℕ)) (lines : List (List ℕ)) (reading : Reading) (fault : CwrFault) → IsReadTo lines reading
    → (fault ≡ Memory) ⊎ ((fault ≡ Accounts) × ((lines : List (List ℕ)) → IsReadTo lines reading → HasTooMany rows lines)) → IsFaultOf rows lines fault
payees_fault rows lines reading fault read (inl memory) = subst (λ (f : CwrFault). IsFaultOf rows lines f) (sym memory) tt
payees_fault rows lines reading fault read (inr (many, payees)) = subst (λ (f : CwrFault). IsFaultOf rows lines f) (sym many) (payees lines read)
