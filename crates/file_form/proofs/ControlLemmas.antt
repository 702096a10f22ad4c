-- The control records of a file, one line after another.
use Rattle.std.proofs.Common.{◌≡◌, ◌⊎◌, ◌∙◌, ◌≤◌, ◌<◌, ◌+◌, ◌^◌, ◌++◌, ◌∷◌, ◌||◌, [], ℕ, Bool, true, false, cond, List, All, Some, ap}
use Rattle.std.proofs.Common.{sym, refl, subst, arith, inl, inr, get_or, length, take, reverse, count_by, zero-add, append_assoc}
use Rattle.std.specs.Prelude.{flat_map}
use Rattle.std.specs.List.{enumerate_from, find}
use Rattle.std.specs.Option.{option_map_or}
use Rattle.std.specs.Prelude.{codes, nat_eq}
use Rattle.std.specs.Cmp.Lexicographic.{pointwise}
use Rattle.std.proofs.Math.Seq.{take-append_seam}
use Rattle.std.proofs.lemmas.Bool.{cases_Bool, false≢true}
use Rattle.std.proofs.lemmas.Grind.{flat_map-append}
use Rattle.std.proofs.lemmas.List.{append-nil, length-append, length-take, length_push, reverse-append, take-append-le}
use Rattle.std.proofs.lemmas.List.Elements.{All-head, All-tail}
use Rattle.std.proofs.lemmas.List.FromFn.{get_or-enumerate_from, length-enumerate_from}
use Rattle.std.proofs.lemmas.List.Sums.{count_by-le-length, fold_push, sum_by-append, sum_by_push}
use Rattle.std.proofs.lemmas.Slice.Eq.{bytes_eq-Decides}
use Rattle.line_split.proofs.Enumerated.{enumerate_from_push}
use Rattle.cwr_share.specs.Fields.{field_of}
use Rattle.cwr_share.specs.Lines.{lines_of}
use Rattle.cwr_share.specs.Records.{is_one_of}
use Rattle.cwr_share.specs.declared.fields.TheConstants.{TYPE}
use Rattle.cwr_share.proofs.FileLemmas.{by_pushes}
use Rattle.file_form.specs.Controls.{AreControlsOf, difference, differences, differences_at, found_in, is_closed, is_group_header, is_group_trailer}
use Rattle.file_form.specs.Controls.{is_header, is_number, is_trailer, number_in, opens_transaction, place_of, since}
use Rattle.file_form.specs.SoFar.{AreNoted, HasRoom, IsPartOf, IsScanOf, KeepsRest, differences_of, lines_behind, part_of}
use Rattle.file_form.specs.Types.{is_record}
use Rattle.file_form.specs.declared.controls.Counted.{Counted}
use Rattle.file_form.specs.declared.controls.Counted.TheVariants.{Groups, Transactions, Records}
use Rattle.file_form.specs.declared.controls.Difference.{Difference}
use Rattle.file_form.specs.declared.controls.Part.{Part}
use Rattle.file_form.specs.declared.controls.Scan.{Scan}
use Rattle.file_form.proofs.LineBytes.{bytes_in, lines_bytes}

-- ---- parts

pub since_push : (begins : List ℕ → Bool) (lines : List (List ℕ)) (line : List ℕ) → since begins (lines ++ line ∷ []) ≡ lines_behind (since begins lines) line (begins line)
since_push begins lines line = fold_push (λ (part : List (List ℕ)) (line : List ℕ). cond (begins line) (line ∷ []) (part ++ line ∷ [])) [] lines line

since_few : (begins : List ℕ → Bool) (lines : List (List ℕ)) → length (since begins lines) ≤ length lines
since_few begins = by_pushes (λ (lines : List (List ℕ)). length (since begins lines) ≤ length lines) (omega arith) more
  where
    behind : (part : List (List ℕ)) (line : List ℕ) (b : Bool) (n : ℕ) → length part ≤ n → length (lines_behind part line b) ≤ n + 1
    behind part line true n few = omega (arith, few)
    behind part line false n few = omega (arith, few, length_push part line)

    more : (lines : List (List ℕ)) (line : List ℕ) → length (since begins lines) ≤ length lines → length (since begins (lines ++ line ∷ [])) ≤ length (lines ++ line ∷ [])
    more lines line sofar = omega (arith, ap length (since_push begins lines line), behind (since begins lines) line (begins line) (length lines) sofar, length_push lines line)

-- a part with no more lines than a file has room
part_room : (begins : List ℕ → Bool) (lines : List (List ℕ)) (part : Part) → length lines + 1 < 2 ^ 64 → IsPartOf (since begins lines) part → HasRoom part
part_room begins lines part few is =
    let here = since begins lines in
    let short = since_few begins lines in
    record {
      groups = omega (arith, is.groups, count_by-le-length is_group_header here, short, few);
      transactions = omega (arith, is.transactions, count_by-le-length opens_transaction here, short, few);
      records = omega (arith, is.records, count_by-le-length is_record here, short, few);
    }

pub group_room : (lines : List (List ℕ)) (scan : Scan) → scan.number + 1 < 2 ^ 64 → IsScanOf lines scan → HasRoom scan.group
group_room lines scan few is = part_room is_group_header lines scan.group (omega (arith, few, is.number)) is.group

pub whole_room : (lines : List (List ℕ)) (scan : Scan) → scan.number + 1 < 2 ^ 64 → IsScanOf lines scan → HasRoom scan.whole
whole_room lines scan few is = part_room is_header lines scan.whole (omega (arith, few, is.number)) is.whole

pub count_one_more : (test : List ℕ → Bool) (lines : List (List ℕ)) (line : List ℕ) → count_by test (lines ++ line ∷ []) ≡ count_by test lines + cond (test line) 1 0
count_one_more test lines line = sum_by_push (λ (line : List ℕ). cond (test line) 1 0) lines line

-- ---- the last record

pub closed_push : (lines : List (List ℕ)) (line : List ℕ) → is_closed (lines ++ line ∷ []) ≡ cond (is_record line) (is_trailer line) (is_closed lines)
closed_push lines line =
    ap (λ (l : List (List ℕ)). option_map_or is_trailer (find is_record l) false) (reverse-append lines (line ∷ [])) ∙ by (is_record line)
  where
    by : (b : Bool) → option_map_or is_trailer (cond b (Some line) (find is_record (reverse lines))) false ≡ cond b (is_trailer line) (is_closed lines)
    by true = refl
    by false = refl

-- ---- differences

flat_agree : {X Y : Type 0} (f g : X → List Y) (xs : List X) → All (λ x. f x ≡ g x) xs → flat_map f xs ≡ flat_map g xs
flat_agree f g [] agree = refl
flat_agree f g (x ∷ xs) agree = rw (All-head (λ x. f x ≡ g x) x xs agree, flat_agree f g xs (All-tail (λ x. f x ≡ g x) x xs agree)) refl

-- of each element, with what stands before it, and of one element more
flat_push : {X Y : Type 0} (f : List X → X → List Y) (xs : List X) (x : X)
    → flat_map (λ (e : ℕ × X). f (take e.0 (xs ++ x ∷ [])) e.1) (enumerate_from 0 (xs ++ x ∷ [])) ≡ flat_map (λ (e : ℕ × X). f (take e.0 xs) e.1) (enumerate_from 0 xs) ++ f xs x
flat_push {X} {Y} f xs x =
    ap (flat_map later) (enumerate_from_push 0 xs x)
    ∙ (flat_map-append later (enumerate_from 0 xs) ((0 + length xs, x) ∷ [])
    ∙ (ap (λ (l : List Y). l ++ (later (0 + length xs, x) ++ [])) (flat_agree later sooner (enumerate_from 0 xs) front)
    ∙ (ap (λ (l : List Y). flat_map sooner (enumerate_from 0 xs) ++ l) (append-nil (later (0 + length xs, x)))
    ∙ (ap (λ (n : ℕ). flat_map sooner (enumerate_from 0 xs) ++ f (take n (xs ++ x ∷ [])) x) (zero-add (length xs))
    ∙ ap (λ (l : List X). flat_map sooner (enumerate_from 0 xs) ++ f l x) (take-append_seam xs (x ∷ []))))))
  where
    later : ℕ × X → List Y
    later e = f (take e.0 (xs ++ x ∷ [])) e.1

    sooner : ℕ × X → List Y
    sooner e = f (take e.0 xs) e.1

    front : All (λ (e : ℕ × X). later e ≡ sooner e) (enumerate_from 0 xs)
    front k d lt =
        let within : k < length xs = rw length-enumerate_from at lt in
        let other = get_or xs k d.1 in
        let here : get_or (enumerate_from 0 xs) k d ≡ (0 + k, other) = get_or-enumerate_from 0 xs k d within in
        let same : take (0 + k) (xs ++ x ∷ []) ≡ take (0 + k) xs = take-append-le (0 + k) xs (x ∷ []) (omega arith) in
        ap later here ∙ (ap (λ (l : List X). f l other) same ∙ sym (ap sooner here))

pub differences_push : (lines : List (List ℕ)) (line : List ℕ) → differences (lines ++ line ∷ []) ≡ differences lines ++ differences_at lines line
differences_push lines line = flat_push differences_at lines line

-- ---- a line that says no more than it has bytes

named_long : (name line : List ℕ) → is_one_of (name ∷ []) line ≡ true → length name ≤ length line
named_long name line is = elim (cases_Bool (pointwise nat_eq (field_of TYPE line) name)) [
  | inl its ↦
      let same : field_of TYPE line ≡ name = (bytes_eq-Decides (field_of TYPE line) name).0 its in
      omega (arith, ap length same, length-take 3 line)
  | inr other ↦ absurd (false≢true (sym (ap (λ (b : Bool). b || false) other) ∙ is))
]

one_at_most : (is_whole : Bool) (number : ℕ) (line : List ℕ) (part : List (List ℕ)) (counted : Counted) → length (difference is_whole number line part counted) ≤ 1
one_at_most is_whole number line part counted = by (is_number (number_in (field_of (place_of counted) line)) (found_in counted part)) _
  where
    by : (b : Bool) (d : Difference) → length (cond b [] (d ∷ [])) ≤ 1
    by true d = omega arith
    by false d = omega arith

flat_few : {X Y : Type 0} (f : X → List Y) (xs : List X) → ((x : X) → length (f x) ≤ 1) → length (flat_map f xs) ≤ length xs
flat_few f [] few = omega arith
flat_few f (x ∷ xs) few = omega (arith, length-append (f x) (flat_map f xs), few x, flat_few f xs few)

few_at : (number : ℕ) (line : List ℕ) (group whole : List (List ℕ)) → length (differences_of number line group whole) ≤ length line
few_at number line group whole = by (cases_Bool (is_group_trailer line)) (cases_Bool (is_trailer line))
  where
    by : (is_group_trailer line ≡ true) ⊎ (is_group_trailer line ≡ false) → (is_trailer line ≡ true) ⊎ (is_trailer line ≡ false)
        → length (differences_of number line group whole) ≤ length line
    by (inl ends) _ =
        let few = flat_few (difference false number line group) (Transactions ∷ Records ∷ []) (one_at_most false number line group) in
        rw ends (omega (arith, few, named_long (codes "GRT") line ends))
    by (inr other) (inl ends) =
        let few = flat_few (difference true number line whole) (Groups ∷ Transactions ∷ Records ∷ []) (one_at_most true number line whole) in
        rw (other, ends) (omega (arith, few, named_long (codes "TRL") line ends))
    by (inr one) (inr other) = rw (one, other) (omega arith)

differences_few : (lines : List (List ℕ)) → length (differences lines) ≤ bytes_in lines
differences_few = by_pushes (λ (lines : List (List ℕ)). length (differences lines) ≤ bytes_in lines) (omega arith) more
  where
    more : (lines : List (List ℕ)) (line : List ℕ) → length (differences lines) ≤ bytes_in lines → length (differences (lines ++ line ∷ [])) ≤ bytes_in (lines ++ line ∷ [])
    more lines line sofar =
        let behind = lines ++ line ∷ [] in
        let here : length (differences_at lines line) ≤ length line = few_at (length lines + 1) line (since is_group_header behind) (since is_header behind) in
        omega (arith, sofar, here, ap length (differences_push lines line), length-append (differences lines) (differences_at lines line), sum_by_push (λ (text : List ℕ). length text) lines line)

-- ---- a trailer compared

-- what comparing one number does
abbrev Compares : (is_whole : Bool) → (line : List ℕ) → Counted → (old new : Scan) → Type 0
Compares is_whole line counted old new =
    (part : List (List ℕ)) (found : List Difference) → IsPartOf part (part_of is_whole old) → AreNoted found old.controls
    → AreNoted (found ++ difference is_whole old.number line part counted) new.controls

pub group_compared : (line : List ℕ) (old mid new : Scan) → is_group_trailer line ≡ true → Compares false line Transactions old mid → KeepsRest old mid → Compares false line Records mid new
    → (group whole : List (List ℕ)) (found : List Difference) → IsPartOf group old.group → AreNoted found old.controls → AreNoted (found ++ differences_of old.number line group whole) new.controls
group_compared line old mid new is first rest second group whole found part noted =
    let one = difference false old.number line group Transactions in
    let other = difference false old.number line group Records in
    let both = second group (found ++ one) (subst (IsPartOf group) (sym rest.group) part) (first group found part noted) in
    let same : (found ++ one) ++ difference false mid.number line group Records ≡ found ++ differences_of old.number line group whole =
    ap (λ (n : ℕ). (found ++ one) ++ difference false n line group Records) rest.number
    ∙ (append_assoc found one other
    ∙ (ap (λ (l : List Difference). found ++ (one ++ l)) (sym (append-nil other))
    ∙ ap (λ (b : Bool). found ++ cond b (one ++ (other ++ [])) (cond (is_trailer line) (flat_map (difference true old.number line whole) (Groups ∷ Transactions ∷ Records ∷ [])) [])) (sym is))) in
    subst (λ (l : List Difference). AreNoted l new.controls) same both

pub whole_compared : (line : List ℕ) (old mid later new : Scan) → is_group_trailer line ≡ false → is_trailer line ≡ true
    → Compares true line Groups old mid → KeepsRest old mid → Compares true line Transactions mid later → KeepsRest mid later → Compares true line Records later new
    → (group whole : List (List ℕ)) (found : List Difference) → IsPartOf whole old.whole → AreNoted found old.controls → AreNoted (found ++ differences_of old.number line group whole) new.controls
whole_compared line old mid later new isnt is first rest second more third group whole found part noted =
    let one = difference true old.number line whole Groups in
    let two = difference true old.number line whole Transactions in
    let three = difference true old.number line whole Records in
    let middle : IsPartOf whole mid.whole = subst (IsPartOf whole) (sym rest.whole) part in
    let last : IsPartOf whole later.whole = subst (IsPartOf whole) (sym more.whole) middle in
    let all = third whole ((found ++ one) ++ difference true mid.number line whole Transactions) last (second whole (found ++ one) middle (first whole found part noted)) in
    let same : ((found ++ one) ++ difference true mid.number line whole Transactions) ++ difference true later.number line whole Records ≡ found ++ differences_of old.number line group whole =
    ap (λ (n : ℕ). ((found ++ one) ++ difference true mid.number line whole Transactions) ++ difference true n line whole Records) (more.number ∙ rest.number)
    ∙ (ap (λ (n : ℕ). ((found ++ one) ++ difference true n line whole Transactions) ++ three) rest.number
    ∙ (append_assoc (found ++ one) two three
    ∙ (append_assoc found one (two ++ three)
    ∙ (ap (λ (l : List Difference). found ++ (one ++ (two ++ l))) (sym (append-nil three))
    ∙ (ap (λ (b : Bool). found ++ cond b (one ++ (two ++ (three ++ []))) []) (sym is)
    ∙ ap (λ (b : Bool). found ++ cond b (flat_map (difference false old.number line group) (Transactions ∷ Records ∷ []))
    (cond (is_trailer line) (one ++ (two ++ (three ++ []))) [])) (sym isnt)))))) in
    subst (λ (l : List Difference). AreNoted l new.controls) same all

-- ---- lines gone over

pub record IsScanTo (all left : List (List ℕ)) (scan : Scan) : Type 0 where
  pub before : List (List ℕ)
  pub split : all ≡ before ++ left
  pub scan_of : IsScanOf before scan

-- one line further
pub scan_next : (all left : List (List ℕ)) (line : List ℕ) (scan next : Scan) → ((lines : List (List ℕ)) → IsScanOf lines scan → IsScanOf (lines ++ line ∷ []) next)
    → IsScanTo all (line ∷ left) scan → IsScanTo all left next
scan_next all left line scan next more sofar = record {
  before = sofar.before ++ line ∷ [];
  split = sofar.split ∙ sym (append_assoc sofar.before (line ∷ []) left);
  scan_of = more sofar.before sofar.scan_of;
}

pub scan_all : (all left : List (List ℕ)) (scan : Scan) → IsScanTo all left scan → left ≡ [] → AreControlsOf all scan.controls
scan_all all left scan sofar none =
    subst (λ (lines : List (List ℕ)). AreControlsOf lines scan.controls) (sym (sofar.split ∙ (ap (λ (l : List (List ℕ)). sofar.before ++ l) none ∙ append-nil sofar.before))) sofar.scan_of.controls

-- no more differences than bytes
pub scan_room : (bytes : List ℕ) (left : List (List ℕ)) (scan : Scan) → IsScanTo (lines_of bytes) left scan → scan.controls.count ≤ length bytes
scan_room bytes left scan is =
    omega (arith, is.scan_of.controls.count, differences_few is.before, sum_by-append (λ (text : List ℕ). length text) is.before left, ap bytes_in is.split, lines_bytes bytes)

pub scan_on : (lines : List (List ℕ)) (line : List ℕ) (old new : Scan) → IsScanOf lines old → new.number ≡ old.number + 1
    → IsPartOf (since is_group_header (lines ++ line ∷ [])) new.group → IsPartOf (since is_header (lines ++ line ∷ [])) new.whole
    → new.controls.is_closed ≡ cond (is_record line) (is_trailer line) old.controls.is_closed
    → AreNoted (differences lines ++ differences_of (old.number + 1) line (since is_group_header (lines ++ line ∷ [])) (since is_header (lines ++ line ∷ []))) new.controls
    → IsScanOf (lines ++ line ∷ []) new
scan_on lines line old new before number group whole closed noted =
    let behind = lines ++ line ∷ [] in
    let found : differences lines ++ differences_of (old.number + 1) line (since is_group_header behind) (since is_header behind) ≡ differences behind =
    ap (λ (n : ℕ). differences lines ++ differences_of (n + 1) line (since is_group_header behind) (since is_header behind)) before.number ∙ sym (differences_push lines line) in
    record {
      number = omega (arith, number, before.number, length_push lines line);
      group = group;
      whole = whole;
      controls = record {
        count = noted.count ∙ ap length found;
        first = noted.first ∙ ap (take 10) found;
        closed = closed ∙ (ap (λ (b : Bool). cond (is_record line) (is_trailer line) b) before.controls.closed ∙ sym (closed_push lines line));
      };
    }
