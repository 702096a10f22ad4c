-- What a run passes over, one line or row after another.
use Rattle.std.proofs.Common.{◌≡◌, ◌≤◌, ◌<◌, ◌+◌, ◌&&◌, ◌∙◌, ℕ, Bool, true, false, cond, List, [], ◌∷◌, ◌++◌, length, take, reverse, get_or, All, Option, Some, None, ap, sym, refl, arith, zero-add, map, not}
use Rattle.std.specs.List.{cons_option, enumerate_from, filter_map, find}
use Rattle.std.specs.Option.{option_map_or}
use Rattle.std.proofs.Math.Seq.{take-append_seam}
use Rattle.std.proofs.lemmas.Bool.{cond-false, cond-true, false_from_ne_true, false≢true}
use Rattle.std.proofs.lemmas.Cmp.{nat_list_eq_equiv}
use Rattle.std.proofs.lemmas.Map.Views.{Contains-from_any, list_any-from_Contains}
use Rattle.std.proofs.lemmas.Slice.Eq.{bytes_eq-Decides}
use Rattle.std.proofs.lemmas.List.Elements.{filter_map-append}
use Rattle.std.proofs.lemmas.List.FromFn.{get_or-enumerate_from, length-enumerate_from}
use Rattle.std.proofs.lemmas.List.{append-nil, length-append, length-take, length_push, reverse-append, take_all, take-append-le}
use Rattle.line_split.proofs.Enumerated.{enumerate_from_push}
use Rattle.cwr_share.specs.CwrFile.{StandsIn}
use Rattle.csv_table.specs.Forms.{number_of}
use Rattle.cwr_share.specs.ClaimsOn.{is_known}
use Rattle.cwr_share.specs.Fields.{field_of}
use Rattle.cwr_share.specs.PassedOver.{IsScanOf, IsTallyOf, has_row, is_open_after, is_unknown_share, numbers_of}
use Rattle.cwr_share.specs.Payees.{HasRow}
use Rattle.cwr_share.specs.Records.{ends_registration, is_share_line, opens_registration, share_fields, type_of}
use Rattle.cwr_share.specs.declared.fields.ShareFields.{ShareFields}
use Rattle.cwr_share.specs.declared.fields.TheConstants.{SPT, SWT}
use Rattle.cwr_share.specs.declared.passed_over.Scan.{Scan}
use Rattle.cwr_share.specs.declared.record_type.RecordType.TheVariants.{PublisherShare, WriterShare}
use Rattle.cwr_share.specs.declared.passed_over.Tally.{Tally}
use Rattle.cwr_share.proofs.FileLemmas.{by_pushes, filter_map_agree, stands_on, stands_open}

-- Numbers

-- the number of the element at a place, where it is of the kind
abbrev number_at : {X : Type 0} → (List X → X → Bool) → List X → ℕ × X → Option ℕ
number_at is_one xs e = cond (is_one (take e.0 xs) e.1) (Some (e.0 + 1)) None

numbers_front : {X : Type 0} (is_one : List X → X → Bool) (xs : List X) (x : X) → filter_map (number_at is_one (xs ++ x ∷ [])) (enumerate_from 0 xs) ≡ numbers_of is_one xs
numbers_front {X} is_one xs x = filter_map_agree (number_at is_one (xs ++ x ∷ [])) (number_at is_one xs) (enumerate_from 0 xs) same
  where
    same : All (λ e. number_at is_one (xs ++ x ∷ []) e ≡ number_at is_one xs e) (enumerate_from 0 xs)
    same k d lt =
        let within : k < length xs = rw length-enumerate_from at lt in
        let other = get_or xs k d.1 in
        let here : get_or (enumerate_from 0 xs) k d ≡ (0 + k, other) = get_or-enumerate_from 0 xs k d within in
        let front : take (0 + k) (xs ++ x ∷ []) ≡ take (0 + k) xs = take-append-le (0 + k) xs (x ∷ []) (omega arith) in
        ap (number_at is_one (xs ++ x ∷ [])) here
        ∙ (ap (λ (front : List X). cond (is_one front other) (Some (0 + k + 1)) None) front
        ∙ sym (ap (number_at is_one xs) here))

-- those of a list with one element more
pub numbers_push : {X : Type 0} (is_one : List X → X → Bool) (xs : List X) (x : X)
    → numbers_of is_one (xs ++ x ∷ []) ≡ numbers_of is_one xs ++ cons_option (cond (is_one xs x) (Some (length xs + 1)) None) []
numbers_push {X} is_one xs x =
    ap (λ (l : List (ℕ × X)). filter_map (number_at is_one (xs ++ x ∷ [])) l) (enumerate_from_push 0 xs x)
    ∙ (filter_map-append (number_at is_one (xs ++ x ∷ [])) (enumerate_from 0 xs) ((0 + length xs, x) ∷ [])
    ∙ (ap (λ (l : List ℕ). l ++ cons_option (number_at is_one (xs ++ x ∷ []) (0 + length xs, x)) []) (numbers_front is_one xs x)
    ∙ (ap (λ (n : ℕ). numbers_of is_one xs ++ cons_option (cond (is_one (take n (xs ++ x ∷ [])) x) (Some (n + 1)) None) []) (zero-add (length xs))
    ∙ ap (λ (front : List X). numbers_of is_one xs ++ cons_option (cond (is_one front x) (Some (length xs + 1)) None) []) (take-append_seam xs (x ∷ [])))))

pub numbers_yes : {X : Type 0} (is_one : List X → X → Bool) (xs : List X) (x : X) → is_one xs x ≡ true → numbers_of is_one (xs ++ x ∷ []) ≡ numbers_of is_one xs ++ (length xs + 1) ∷ []
numbers_yes is_one xs x is = numbers_push is_one xs x ∙ ap (λ (b : Bool). numbers_of is_one xs ++ cons_option (cond b (Some (length xs + 1)) None) []) is

pub numbers_no : {X : Type 0} (is_one : List X → X → Bool) (xs : List X) (x : X) → is_one xs x ≡ false → numbers_of is_one (xs ++ x ∷ []) ≡ numbers_of is_one xs
numbers_no is_one xs x is =
    numbers_push is_one xs x
    ∙ (ap (λ (b : Bool). numbers_of is_one xs ++ cons_option (cond b (Some (length xs + 1)) None) []) is ∙ append-nil (numbers_of is_one xs))

-- there are no more of them than elements
pub numbers_few : {X : Type 0} (is_one : List X → X → Bool) (xs : List X) → length (numbers_of is_one xs) ≤ length xs
numbers_few {X} is_one = by_pushes (λ (xs : List X). length (numbers_of is_one xs) ≤ length xs) (omega arith) more
  where
    at_most_one : (o : Option ℕ) → length (cons_option o []) ≤ 1
    at_most_one None = omega arith
    at_most_one (Some n) = omega arith

    more : (xs : List X) (x : X) → length (numbers_of is_one xs) ≤ length xs → length (numbers_of is_one (xs ++ x ∷ [])) ≤ length (xs ++ x ∷ [])
    more xs x sofar =
        let last : Option ℕ = cond (is_one xs x) (Some (length xs + 1)) None in
        omega (arith, sofar, ap length (numbers_push is_one xs x), length-append (numbers_of is_one xs) (cons_option last []), at_most_one last, length_push xs x)

-- The registration that is open

pub open_push : (lines : List (List ℕ)) (line : List ℕ) → is_open_after (lines ++ line ∷ []) ≡ cond (ends_registration line) (opens_registration line) (is_open_after lines)
open_push lines line =
    ap (λ (l : List (List ℕ)). option_map_or opens_registration (find ends_registration l) false) (reverse-append lines (line ∷ [])) ∙ by (ends_registration line)
  where
    by : (b : Bool) → option_map_or opens_registration (cond b (Some line) (find ends_registration (reverse lines))) false ≡ cond b (opens_registration line) (is_open_after lines)
    by true = refl
    by false = refl

pub stands_where_open : (lines : List (List ℕ)) → is_open_after lines ≡ true → (body : List (List ℕ)) × StandsIn lines body
stands_where_open = by_pushes (λ (lines : List (List ℕ)). is_open_after lines ≡ true → (body : List (List ℕ)) × StandsIn lines body) (λ is. absurd (false≢true is)) more
  where
    more : (lines : List (List ℕ)) (line : List ℕ) → (is_open_after lines ≡ true → (body : List (List ℕ)) × StandsIn lines body)
        → is_open_after (lines ++ line ∷ []) ≡ true → (body : List (List ℕ)) × StandsIn (lines ++ line ∷ []) body
    more lines line sofar is = by (ends_registration line) refl
      where
        by : (b : Bool) → ends_registration line ≡ b → (body : List (List ℕ)) × StandsIn (lines ++ line ∷ []) body
        by true e =
            ([], stands_open lines line (sym (open_push lines line ∙ cond-true (ends_registration line) (opens_registration line) (is_open_after lines) e) ∙ is))
        by false e =
            let (body, stands) = sofar (sym (open_push lines line ∙ cond-false (ends_registration line) (opens_registration line) (is_open_after lines) e) ∙ is) in
            (body ++ line ∷ [], stands_on lines body line stands e)

-- Share lines and parties

publisher : (line : List ℕ) → type_of line ≡ PublisherShare → (is_share_line line ≡ true) × (SPT ≡ share_fields line)
publisher line is = rw is (refl, refl)

writer : (line : List ℕ) → type_of line ≡ WriterShare → (is_share_line line ≡ true) × (SWT ≡ share_fields line)
writer line is = rw is (refl, refl)

-- what a share line is told by, where its fields stand there
told_unknown : (table : List (ℕ × List ℕ)) (line : List ℕ) (fields : ShareFields) (told : Bool) → (is_share_line line ≡ true) × (fields ≡ share_fields line)
    → told ≡ is_known table (number_of (field_of fields.territory line)) → not told ≡ is_unknown_share table line
told_unknown table line fields told (share, same) is =
    ap not (is ∙ ap (λ (f : ShareFields). is_known table (number_of (field_of f.territory line))) same)
    ∙ ap (λ (b : Bool). b && not (is_known table (number_of (field_of (share_fields line).territory line)))) (sym share)

pub unknown_publisher : (table : List (ℕ × List ℕ)) (line : List ℕ) (fields : ShareFields) (told : Bool) → type_of line ≡ PublisherShare → fields ≡ SPT
    → told ≡ is_known table (number_of (field_of fields.territory line)) → not told ≡ is_unknown_share table line
unknown_publisher table line fields told is at known = let (share, same) = publisher line is in told_unknown table line fields told (share, at ∙ same) known

pub unknown_writer : (table : List (ℕ × List ℕ)) (line : List ℕ) (fields : ShareFields) (told : Bool) → type_of line ≡ WriterShare → fields ≡ SWT
    → told ≡ is_known table (number_of (field_of fields.territory line)) → not told ≡ is_unknown_share table line
unknown_writer table line fields told is at known = let (share, same) = writer line is in told_unknown table line fields told (share, at ∙ same) known

pub row_found : (payees : List (List ℕ × List ℕ)) (party : List ℕ) → HasRow payees party → not (has_row payees party) ≡ false
row_found payees party has = ap not (list_any-from_Contains nat_list_eq_equiv party (map (λ (row : List ℕ × List ℕ). row.0) payees) has)

pub no_row_found : (payees : List (List ℕ × List ℕ)) (party : List ℕ) → ¬ HasRow payees party → not (has_row payees party) ≡ true
no_row_found payees party none =
    ap not (false_from_ne_true (has_row payees party) (λ told. none (Contains-from_any (λ x y e. (bytes_eq-Decides x y).0 e) party (map (λ (row : List ℕ × List ℕ). row.0) payees) told)))

-- Tallies

-- of the first so many numbers, one more where there is room for it
pub first_more : {X : Type 0} (most : ℕ) (numbers first : List X) (number : X) → first ≡ take most numbers → length first < most → first ++ number ∷ [] ≡ take most (numbers ++ number ∷ [])
first_more most numbers first number is room =
    let few : length numbers < most = omega (arith, ap length is, length-take most numbers, room) in
    let all : take most numbers ≡ numbers = take_all most numbers (omega (arith, few)) in
    let more : take most (numbers ++ number ∷ []) ≡ numbers ++ number ∷ [] = take_all most (numbers ++ number ∷ []) (omega (arith, few, length_push numbers number)) in
    ap (λ l. l ++ number ∷ []) (is ∙ all) ∙ sym more

-- and the same as before where there is none
pub first_full : {X : Type 0} (most : ℕ) (numbers first : List X) (number : X) → first ≡ take most numbers → most ≤ length first → first ≡ take most (numbers ++ number ∷ [])
first_full most numbers first number is full =
    is ∙ sym (take-append-le most numbers (number ∷ []) (omega (arith, ap length is, length-take most numbers, full)))

-- a tally that has no more numbers than there are elements
pub tally_few : {X : Type 0} (is_one : List X → X → Bool) (xs : List X) (tally : Tally) → IsTallyOf (numbers_of is_one xs) tally → tally.count ≤ length xs
tally_few is_one xs tally is = omega (arith, is.count, numbers_few is_one xs)

-- Lines gone over

pub record IsScanTo (table : List (ℕ × List ℕ)) (all left : List (List ℕ)) (scan : Scan) : Type 0 where
  pub before : List (List ℕ)
  pub split : all ≡ before ++ left
  pub scan_of : IsScanOf table before scan
