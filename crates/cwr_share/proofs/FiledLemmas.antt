-- Registrations as they stand in their file.
use Rattle.std.proofs.Common.{◌≡◌, ◌≤◌, ◌<◌, ◌+◌, ◌∷◌, ◌++◌, ◌&&◌, ℕ, suc, nat_eq, Bool, true, false, cond, not, List, [], All, Bor, IfSome, None, Option, Some, count_by, drop, length, map, reverse, slice_index_or, take, ap, sym, refl, subst, ◌∙◌, append_assoc, arith}
use Rattle.std.specs.List.{enumerate_from, filter, find}
use Rattle.std.specs.Cmp.Lexicographic.{pointwise}
use Rattle.std.specs.Option.{option_map, option_or}
use Rattle.std.proofs.Math.Seq.{drop-append_seam, drop-cons}
use Rattle.std.proofs.lemmas.Bool.{cond-false, cond-true, not_from_false, not_from_true, false≢true}
use Rattle.std.proofs.lemmas.List.Folds.{find-append}
use Rattle.std.proofs.lemmas.List.Elements.{All-weaker, filter-append}
use Rattle.std.proofs.lemmas.List.{append-nil, length-drop, length-take-le, length_push, map-append, reverse-append, take_more}
use Rattle.std.proofs.lemmas.Option.{none-some}
use Rattle.line_split.proofs.Enumerated.{enumerate_from_push}
use Rattle.csv_table.proofs.InTurn.{sound_at}
use Rattle.cwr_share.specs.CwrFile.{AreSound, IsShareRecord, IsSound}
use Rattle.cwr_share.specs.Filed.{AreShareRecords, IsFiledTo, body_of, last_opening, opens_work, share_numbers, shares_from}
use Rattle.cwr_share.specs.Lines.{lines_of}
use Rattle.cwr_share.specs.Records.{ends_registration, is_share_line, opens_interest, opens_registration, share_fields}
use Rattle.cwr_share.specs.Registrations.{ShareLine, find_work, registrations_of, share_line_of, share_lines_of, shares_in_force, work_of}
use Rattle.cwr_share.specs.declared.filed.Filing.{Filing}
use Rattle.cwr_share.proofs.FileLemmas.{by_pushes, count_by_no, count_by_yes, length_share_lines, share_lines_no, share_lines_yes, stands_by, take_while_all, take_while_stop}

-- The last line that begins a registration of a work

-- in lines with one more
pub last_opening_push : (lines : List (List ℕ)) (line work : List ℕ)
    → last_opening (lines ++ line ∷ []) work ≡ cond (opens_work work line) (Some (1 + length lines)) (last_opening lines work)
last_opening_push lines line work =
    ap (λ (l : List (ℕ × List ℕ)). option_map (λ (e : ℕ × List ℕ). e.0) (find (λ (e : ℕ × List ℕ). opens_work work e.1) (reverse l))) (enumerate_from_push 1 lines line)
    ∙ (ap (λ (l : List (ℕ × List ℕ)). option_map (λ (e : ℕ × List ℕ). e.0) (find (λ (e : ℕ × List ℕ). opens_work work e.1) l))
    (reverse-append (enumerate_from 1 lines) ((1 + length lines, line) ∷ []))
    ∙ by (opens_work work line))
  where
    by : (b : Bool) → option_map (λ (e : ℕ × List ℕ). e.0) (cond b (Some (1 + length lines, line)) (find (λ (e : ℕ × List ℕ). opens_work work e.1) (reverse (enumerate_from 1 lines))))
        ≡ cond b (Some (1 + length lines)) (last_opening lines work)
    by true = refl
    by false = refl

-- it stands among the lines
pub record StandsAt (lines : List (List ℕ)) (number : ℕ) : Type 0 where
  pub earlier : List (List ℕ)
  pub opening : List ℕ
  pub after : List (List ℕ)
  pub split : lines ≡ earlier ++ opening ∷ after
  pub place : number ≡ length earlier + 1
  pub opens : opens_registration opening ≡ true

both_open : (line work : List ℕ) → opens_work work line ≡ true → opens_registration line ≡ true
both_open line work = by (opens_registration line)
  where
    by : (b : Bool) → (b && pointwise nat_eq (work_of line) work) ≡ true → b ≡ true
    by true e = refl
    by false e = absurd (false≢true e)

opening_stands_push : (lines : List (List ℕ)) (line work : List ℕ) → ((number : ℕ) → last_opening lines work ≡ Some number → StandsAt lines number)
    → (number : ℕ) → last_opening (lines ++ line ∷ []) work ≡ Some number → StandsAt (lines ++ line ∷ []) number
opening_stands_push lines line work sofar number is = by (opens_work work line) refl
  where
    by : (b : Bool) → opens_work work line ≡ b → StandsAt (lines ++ line ∷ []) number
    by true e =
        let here : Some number ≡ Some (1 + length lines) = sym is ∙ (last_opening_push lines line work ∙ cond-true (opens_work work line) (Some (1 + length lines)) (last_opening lines work) e) in
        let same : number ≡ 1 + length lines = cc in
        record { earlier = lines; opening = line; after = []; split = refl; place = omega (arith, same); opens = both_open line work e }
    by false e =
        let stands = sofar number (sym (last_opening_push lines line work ∙ cond-false (opens_work work line) (Some (1 + length lines)) (last_opening lines work) e) ∙ is) in
        record {
          earlier = stands.earlier;
          opening = stands.opening;
          after = stands.after ++ line ∷ [];
          split = ap (λ (l : List (List ℕ)). l ++ line ∷ []) stands.split ∙ append_assoc stands.earlier (stands.opening ∷ stands.after) (line ∷ []);
          place = stands.place;
          opens = stands.opens;
        }

pub opening_stands : (work : List ℕ) (lines : List (List ℕ)) (number : ℕ) → last_opening lines work ≡ Some number → StandsAt lines number
opening_stands work = by_pushes (λ (lines : List (List ℕ)). (number : ℕ) → last_opening lines work ≡ Some number → StandsAt lines number)
    (λ number is. absurd (none-some number is)) (λ lines line sofar. opening_stands_push lines line work sofar)

-- the share lines of a registration of sound lines are sound
pub records_after : (lines : List (List ℕ)) (work : List ℕ) (number : ℕ) → AreSound lines → last_opening lines work ≡ Some number → AreShareRecords (drop number lines)
records_after lines work number sound is = λ before line after split stays share.
    let stands = opening_stands work lines number is in
    let rest : drop number lines ≡ stands.after =
    ap (λ (l : List (List ℕ)). drop number l) (stands.split ∙ sym (append_assoc stands.earlier (stands.opening ∷ []) stands.after))
    ∙ (ap (λ (n : ℕ). drop n ((stands.earlier ++ stands.opening ∷ []) ++ stands.after)) (stands.place ∙ sym (length_push stands.earlier stands.opening))
    ∙ drop-append_seam (stands.earlier ++ stands.opening ∷ []) stands.after) in
    let whole : lines ≡ (stands.earlier ++ stands.opening ∷ before) ++ line ∷ after =
    stands.split
    ∙ (ap (λ (l : List (List ℕ)). stands.earlier ++ stands.opening ∷ l) (sym rest ∙ split)
    ∙ sym (append_assoc stands.earlier (stands.opening ∷ before) (line ∷ after))) in
    (sound_at IsSound lines (stands.earlier ++ stands.opening ∷ before) line after whole sound).share before (stands_by stands.earlier stands.opening before stands.opens stays) share

-- Looking for it

-- what was found among the first lines
abbrev pub IsFoundIn : List (List ℕ) → (work : List ℕ) → (number : ℕ) → Option (ℕ × Bor (List ℕ)) → Type 0
IsFoundIn all work number None = last_opening (take number all) work ≡ None
IsFoundIn all work number (Some found) = (last_opening (take number all) work ≡ Some found.0) × (lines_of found.1.now ≡ drop found.0 all) × (found.0 ≤ number)

-- the search has come to a line
pub record IsSoughtTo (all : List (List ℕ)) (work : List ℕ) (lines : List (List ℕ)) (number : ℕ) (found : Option (ℕ × Bor (List ℕ))) : Type 0 where
  pub rest : lines ≡ drop number all
  pub count : number + length lines ≡ length all
  pub sofar : IsFoundIn all work number found

-- the next line
pub record IsNext (all : List (List ℕ)) (number : ℕ) (line : List ℕ) (later : List (List ℕ)) : Type 0 where
  pub within : number < length all
  pub more : take (number + 1) all ≡ take number all ++ line ∷ []
  pub left : later ≡ drop (number + 1) all

pub next_line : (all : List (List ℕ)) (number : ℕ) (line : List ℕ) (later : List (List ℕ)) → line ∷ later ≡ drop number all → number + length (line ∷ later) ≡ length all → IsNext all number line later
next_line all number line later is count =
    let within : number < length all = omega (arith, count) in
    let cons = is ∙ drop-cons all number line within in
    let here : line ≡ slice_index_or all number line = cc in
    let rest : later ≡ drop (suc number) all = cc in record {
      within = within;
      more = take_more all number line within ∙ ap (λ (l : List ℕ). take number all ++ l ∷ []) (sym here);
      left = let next : suc number ≡ number + 1 = omega arith in rest ∙ ap (λ (n : ℕ). drop n all) next;
    }

pub sought_more : (all : List (List ℕ)) (work : List ℕ) (number : ℕ) (line : List ℕ) (later : List (List ℕ)) → IsNext all number line later
    → last_opening (take (number + 1) all) work ≡ cond (opens_work work line) (Some (number + 1)) (last_opening (take number all) work)
sought_more all work number line later next =
    ap (λ (l : List (List ℕ)). last_opening l work) next.more
    ∙ (last_opening_push (take number all) line work
    ∙ ap (λ (n : ℕ). cond (opens_work work line) (Some n) (last_opening (take number all) work)) (omega (arith, length-take-le number all (omega (arith, next.within)))))

-- a line that begins one
pub sought_yes : (all : List (List ℕ)) (work : List ℕ) (number : ℕ) (line : List ℕ) (later : List (List ℕ)) (text : Bor (List ℕ)) → IsNext all number line later → opens_work work line ≡ true
    → lines_of text.now ≡ later → IsFoundIn all work (number + 1) (Some (number + 1, text))
sought_yes all work number line later text next opens is = (
  sought_more all work number line later next ∙ cond-true (opens_work work line) (Some (number + 1)) (last_opening (take number all) work) opens,
  is ∙ next.left,
  omega arith,
)

-- and one that doesn't
pub sought_no : (all : List (List ℕ)) (work : List ℕ) (number : ℕ) (line : List ℕ) (later : List (List ℕ)) (found : Option (ℕ × Bor (List ℕ))) → IsNext all number line later
    → opens_work work line ≡ false → IsFoundIn all work number found → IsFoundIn all work (number + 1) found
sought_no all work number line later None next shut is =
    sought_more all work number line later next ∙ (cond-false (opens_work work line) (Some (number + 1)) (last_opening (take number all) work) shut ∙ is)
sought_no all work number line later (Some found) next shut is = (
  sought_more all work number line later next ∙ (cond-false (opens_work work line) (Some (number + 1)) (last_opening (take number all) work) shut ∙ is.0),
  is.1,
  omega (arith, is.2),
)

-- Reading it

pub share_numbers_push : (first : ℕ) (body : List (List ℕ)) (line : List ℕ)
    → share_numbers first (body ++ line ∷ []) ≡ share_numbers first body ++ map (λ (e : ℕ × List ℕ). e.0) (filter (λ (e : ℕ × List ℕ). is_share_line e.1) ((first + length body, line) ∷ []))
share_numbers_push first body line =
    ap (λ (l : List (ℕ × List ℕ)). map (λ (e : ℕ × List ℕ). e.0) (filter (λ (e : ℕ × List ℕ). is_share_line e.1) l)) (enumerate_from_push first body line)
    ∙ (ap (map (λ (e : ℕ × List ℕ). e.0)) (filter-append (λ (e : ℕ × List ℕ). is_share_line e.1) (enumerate_from first body) ((first + length body, line) ∷ []))
    ∙ map-append (λ (e : ℕ × List ℕ). e.0) (filter (λ (e : ℕ × List ℕ). is_share_line e.1) (enumerate_from first body)) (filter (λ (e : ℕ × List ℕ). is_share_line e.1) ((first + length body, line) ∷ [])))

share_numbers_yes : (first : ℕ) (body : List (List ℕ)) (line : List ℕ) → is_share_line line ≡ true → share_numbers first (body ++ line ∷ []) ≡ share_numbers first body ++ (first + length body) ∷ []
share_numbers_yes first body line is =
    share_numbers_push first body line
    ∙ ap (λ (b : Bool). share_numbers first body ++ map (λ (e : ℕ × List ℕ). e.0) (cond b ((first + length body, line) ∷ []) [])) is

share_numbers_no : (first : ℕ) (body : List (List ℕ)) (line : List ℕ) → is_share_line line ≡ false → share_numbers first (body ++ line ∷ []) ≡ share_numbers first body
share_numbers_no first body line is =
    share_numbers_push first body line
    ∙ (ap (λ (b : Bool). share_numbers first body ++ map (λ (e : ℕ × List ℕ). e.0) (cond b ((first + length body, line) ∷ []) [])) is
    ∙ append-nil (share_numbers first body))

-- what has to hold of the next share line
pub record_due : (body : List (List ℕ)) (line : List ℕ) (filing : Filing) → IsFiledTo body filing → (is_share_line line ≡ true → IsShareRecord (count_by is_share_line body) (share_fields line) line)
    → is_share_line line ≡ true → IsShareRecord (length filing.filed.shares.items) (share_fields line) line
record_due body line filing filed good is =
    subst (λ (n : ℕ). IsShareRecord n (share_fields line) line) (sym (ap length filed.shares ∙ length_share_lines body)) (good is)

-- a share line more
pub filed_share : (body : List (List ℕ)) (line : List ℕ) (filing next : Filing) → IsFiledTo body filing → is_share_line line ≡ true → opens_interest line ≡ false
    → next.filed.line ≡ filing.filed.line → next.interest ≡ filing.interest → next.number ≡ filing.number + 1
    → next.filed.shares.items ≡ filing.filed.shares.items ++ share_line_of filing.interest (share_fields line) line ∷ []
    → next.filed.numbers.items ≡ filing.filed.numbers.items ++ (filing.number + 1) ∷ []
    → IsFiledTo (body ++ line ∷ []) next
filed_share body line filing next filed is none same interest number shares numbers = record {
  shares =
      shares ∙ (ap (λ (l : List ShareLine). l ++ share_line_of filing.interest (share_fields line) line ∷ []) filed.shares
      ∙ (ap (λ (n : ℕ). share_lines_of body ++ share_line_of n (share_fields line) line ∷ []) filed.interest ∙ sym (share_lines_yes body line is)));
  numbers =
      let at : filing.number + 1 ≡ (filing.filed.line + 1) + length body = omega (arith, filed.number) in
      numbers ∙ (ap (λ (l : List ℕ). l ++ (filing.number + 1) ∷ []) filed.numbers
      ∙ (ap (λ (n : ℕ). share_numbers (filing.filed.line + 1) body ++ n ∷ []) at
      ∙ (sym (share_numbers_yes (filing.filed.line + 1) body line is)
      ∙ ap (λ (n : ℕ). share_numbers (n + 1) (body ++ line ∷ [])) (sym same))));
  interest = interest ∙ (filed.interest ∙ sym (count_by_no opens_interest body line none));
  number = omega (arith, number, filed.number, same, length_push body line);
}

-- a line more that is none
filed_no : (body : List (List ℕ)) (line : List ℕ) (filing next : Filing) → IsFiledTo body filing → is_share_line line ≡ false → next.filed ≡ filing.filed → next.number ≡ filing.number + 1
    → next.interest ≡ count_by opens_interest (body ++ line ∷ []) → IsFiledTo (body ++ line ∷ []) next
filed_no body line filing next filed none same number interest =
    let line_same : next.filed.line ≡ filing.filed.line = ap (λ f. f.line) same in record {
      shares = ap (λ f. f.shares.items) same ∙ (filed.shares ∙ sym (share_lines_no body line none));
      numbers = ap (λ f. f.numbers.items) same ∙ (filed.numbers ∙ (sym (share_numbers_no (filing.filed.line + 1) body line none) ∙ ap (λ (n : ℕ). share_numbers (n + 1) (body ++ line ∷ [])) (sym line_same)));
      interest = interest;
      number = omega (arith, number, filed.number, line_same, length_push body line);
    }

pub filed_interest : (body : List (List ℕ)) (line : List ℕ) (filing next : Filing) → IsFiledTo body filing → is_share_line line ≡ false → opens_interest line ≡ true → next.filed ≡ filing.filed
    → next.number ≡ filing.number + 1 → next.interest ≡ filing.interest + 1 → IsFiledTo (body ++ line ∷ []) next
filed_interest body line filing next filed none opens same number interest =
    filed_no body line filing next filed none same number (interest ∙ (ap (λ (n : ℕ). n + 1) filed.interest ∙ sym (count_by_yes opens_interest body line opens)))

pub filed_other : (body : List (List ℕ)) (line : List ℕ) (filing next : Filing) → IsFiledTo body filing → is_share_line line ≡ false → opens_interest line ≡ false → next.filed ≡ filing.filed
    → next.number ≡ filing.number + 1 → next.interest ≡ filing.interest → IsFiledTo (body ++ line ∷ []) next
filed_other body line filing next filed none shut same number interest =
    filed_no body line filing next filed none same number (interest ∙ (filed.interest ∙ sym (count_by_no opens_interest body line shut)))

-- the reading has come to a line
pub record IsFilingTo (all lines : List (List ℕ)) (line : ℕ) (filing : Filing) : Type 0 where
  pub body : List (List ℕ)
  pub split : all ≡ body ++ lines
  pub stays : All (λ other. ends_registration other ≡ false) body
  pub filed : IsFiledTo body filing
  pub same : filing.filed.line ≡ line

passes : (body : List (List ℕ)) → All (λ other. ends_registration other ≡ false) body → All (λ other. not (ends_registration other) ≡ true) body
passes body stays = All-weaker (λ other. ends_registration other ≡ false) (λ other. not (ends_registration other) ≡ true) (λ other e. not_from_false (ends_registration other) e) body stays

-- the registration ends before a line
pub body_ends : (all body : List (List ℕ)) (line : List ℕ) (later : List (List ℕ)) → all ≡ body ++ line ∷ later → All (λ other. ends_registration other ≡ false) body → ends_registration line ≡ true → body_of all ≡ body
body_ends all body line later split stays ends =
    ap body_of split
    ∙ (take_while_stop (λ (other : List ℕ). not (ends_registration other)) body line later (not_from_true (ends_registration line) ends)
    ∙ take_while_all (λ (other : List ℕ). not (ends_registration other)) body (passes body stays))

-- or with the file
pub body_all : (all body : List (List ℕ)) → all ≡ body ++ [] → All (λ other. ends_registration other ≡ false) body → body_of all ≡ body
body_all all body split stays =
    ap body_of (split ∙ append-nil body) ∙ take_while_all (λ (other : List ℕ). not (ends_registration other)) body (passes body stays)

-- where the text after the registration's first line has been found, no more lines are left than the file has
pub found_few : (all : List (List ℕ)) (work : List ℕ) (number : ℕ) (found : Option (ℕ × Bor (List ℕ))) (most : ℕ) → IsFoundIn all work number found → number ≤ length all → length all ≤ most
    → IfSome found (λ f. f.0 + length (lines_of f.1.now) ≤ most)
found_few all work number None most is within few = tt
found_few all work number (Some found) most is within few = omega (arith, is.2, within, few, ap length is.1, length-drop found.0 all)

-- a body that was read whole is the registration
pub record IsWhole (all : List (List ℕ)) (line : ℕ) (filing : Filing) : Type 0 where
  pub shares : filing.filed.shares.items ≡ share_lines_of (body_of all)
  pub numbers : filing.filed.numbers.items ≡ share_numbers (line + 1) (body_of all)

pub filed_whole : (all lines : List (List ℕ)) (line : ℕ) (filing : Filing) (filing' : IsFilingTo all lines line filing) → body_of all ≡ filing'.body → IsWhole all line filing
filed_whole all lines line filing filing' is = record {
  shares = filing'.filed.shares ∙ ap share_lines_of (sym is);
  numbers = filing'.filed.numbers ∙ (ap (λ (n : ℕ). share_numbers (n + 1) filing'.body) filing'.same ∙ ap (share_numbers (line + 1)) (sym is));
}

-- The registration in force

or_none : {X : Type 0} (found : Option X) → option_or found None ≡ found
or_none None = refl
or_none (Some x) = refl

map_or : {X Y : Type 0} (f : X → Y) (found other : Option X) → option_map f (option_or found other) ≡ option_or (option_map f found) (option_map f other)
map_or f None other = refl
map_or f (Some x) other = refl

abbrev body_at : List (List ℕ) → ℕ × List ℕ → List (List ℕ)
body_at whole e = body_of (drop e.0 whole)

abbrev begins_one : List ℕ → ℕ × List ℕ → Bool
begins_one work e = opens_work work e.1

abbrev is_named : List ℕ → List ℕ × List (List ℕ) → Bool
is_named work entry = pointwise nat_eq entry.0 work

abbrev body_in : List ℕ × List (List ℕ) → List (List ℕ)
body_in entry = entry.1

-- a line in front begins a registration of the work, of another, or none
in_front : (work : List ℕ) (whole : List (List ℕ)) (n : ℕ) (line : List ℕ) (later : List (List ℕ)) (registrations : List (List ℕ × List (List ℕ))) → drop n whole ≡ later → (b c : Bool)
    → pointwise nat_eq (work_of line) work ≡ c
    → option_or (find_work work (reverse registrations)) (option_map (body_at whole) (cond (b && c) (Some (n, line)) None))
    ≡ find_work work (reverse (cond b ((work_of line, body_of later) ∷ registrations) registrations))
in_front work whole n line later registrations here false c e = or_none (find_work work (reverse registrations))
in_front work whole n line later registrations here true c e =
    sym (ap (find_work work) (reverse-append ((work_of line, body_of later) ∷ []) registrations)
    ∙ (ap (option_map body_in) (find-append (is_named work) (reverse registrations) ((work_of line, body_of later) ∷ []))
    ∙ (map_or body_in (find (is_named work) (reverse registrations)) (find (is_named work) ((work_of line, body_of later) ∷ []))
    ∙ ap (option_or (find_work work (reverse registrations))) (last c e))))
  where
    last : (c : Bool) → pointwise nat_eq (work_of line) work ≡ c
        → option_map body_in (cond (pointwise nat_eq (work_of line) work) (Some (work_of line, body_of later)) None)
        ≡ option_map (body_at whole) (cond c (Some (n, line)) None)
    last true e = rw e (ap (λ (l : List (List ℕ)). Some (body_of l)) (sym here))
    last false e = rw e refl

-- by the lines from one on
in_force_from : (work : List ℕ) (whole : List (List ℕ)) (n : ℕ) (earlier lines : List (List ℕ)) → whole ≡ earlier ++ lines → n ≡ length earlier + 1
    → option_map (body_at whole) (find (begins_one work) (reverse (enumerate_from n lines))) ≡ find_work work (reverse (registrations_of lines))
unfolding registrations_of
in_force_from work whole n earlier [] is at = refl
in_force_from work whole n earlier (line ∷ later) is at =
    let split = is ∙ sym (append_assoc earlier (line ∷ []) later) in
    let at_end = at ∙ sym (length_push earlier line) in
    let here : drop n whole ≡ later =
    ap (drop n) split ∙ (ap (λ (k : ℕ). drop k ((earlier ++ line ∷ []) ++ later)) at_end ∙ drop-append_seam (earlier ++ line ∷ []) later) in
    let rest = in_force_from work whole (n + 1) (earlier ++ line ∷ []) later split (ap (λ (k : ℕ). k + 1) at_end) in
    ap (λ (l : List (ℕ × List ℕ)). option_map (body_at whole) (find (begins_one work) l)) (reverse-append ((n, line) ∷ []) (enumerate_from (n + 1) later))
    ∙ (ap (option_map (body_at whole)) (find-append (begins_one work) (reverse (enumerate_from (n + 1) later)) ((n, line) ∷ []))
    ∙ (map_or (body_at whole) (find (begins_one work) (reverse (enumerate_from (n + 1) later))) (find (begins_one work) ((n, line) ∷ []))
    ∙ (ap (λ (o : Option (List (List ℕ))). option_or o (option_map (body_at whole) (find (begins_one work) ((n, line) ∷ [])))) rest
    ∙ in_front work whole n line later (registrations_of later) here (opens_registration line) (pointwise nat_eq (work_of line) work) refl)))

-- the registration in force begins in the last line that begins one of the work
pub in_force_is : (lines : List (List ℕ)) (work : List ℕ) → shares_in_force lines work ≡ option_map (shares_from lines) (last_opening lines work)
in_force_is lines work =
    ap (option_map share_lines_of) (sym (in_force_from work lines 1 [] lines refl refl))
    ∙ by (find (λ (e : ℕ × List ℕ). opens_work work e.1) (reverse (enumerate_from 1 lines)))
  where
    by : (found : Option (ℕ × List ℕ)) → option_map share_lines_of (option_map (λ (e : ℕ × List ℕ). body_of (drop e.0 lines)) found)
        ≡ option_map (shares_from lines) (option_map (λ (e : ℕ × List ℕ). e.0) found)
    by None = refl
    by (Some e) = refl
