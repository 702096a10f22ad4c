-- What nobody gets, reason by reason.
use Rattle.std.proofs.Common.{◌≡◌, ◌∙◌, ◌^◌, ◌+◌, ◌≤◌, ◌+ℤ◌, ◌++◌, ◌∷◌, [], ℕ, ℤ, Bool, true, false, List, Option, All, length, map, ap, refl, sym, subst, arith, unsigned_abs}
use Rattle.std.specs.Prelude.{filter, flat_map, if◌then◌else◌}
use Rattle.std.specs.Io.KnownBytes.{Appends}
use Rattle.std.specs.Str.{bytes_eq}
use Rattle.std.proofs.KnownBytes.{Appends-trans}
use Rattle.std.proofs.lemmas.Int.{ints}
use Rattle.std.proofs.lemmas.List.{append-nil, length-append, map-append}
use Rattle.std.proofs.lemmas.List.Elements.{All-append, All-cons, All-head, All-nil, All-tail, filter-append}
use Rattle.std.proofs.lemmas.Slice.Eq.{bytes_eq-Decides}
use Rattle.csv_table.specs.Written.{text_of}
use Rattle.line_split.specs.ReasonTexts.{reason_text}
use Rattle.line_split.specs.Signs.{int_sum_by}
use Rattle.line_split.specs.declared.reason.Reason.{Reason}
use Rattle.line_split.specs.declared.reason.Reason.TheVariants.{Land, Open, Over, Work}
use Rattle.line_split.proofs.IntSums.{int_sum_by-append, int_sum_by-cons}
use Rattle.merge_statements.specs.SoFar.{total_of_portions}
use Rattle.merge_statements.specs.Statements.{IsPortion, IsRest, Portion, Rest, rest_row, total_of_rests}
use Rattle.merge_statements.proofs.Whole.{rests_small}
use Rattle.merge_statements.proofs.Passing.{elements_more}
use Rattle.adjust_statements.specs.Adjusted.{as_rests, reasons, rests_for}
use Rattle.adjust_statements.specs.Differences.{AreRowsOfDifferences}
use Rattle.adjust_statements.specs.SoFar.{AdjustsReason, AdjustsRests, AreRestsRows}

abbrev as_portion : Rest → Portion
as_portion rest = record { usage = rest.usage; amount = rest.amount }

-- ---- portions under one reason

pub named_for : (reason other : List ℕ) (rows : List Portion) (told : Bool) → bytes_eq reason other ≡ told → rests_for other (as_rests reason rows) ≡ (if told then rows else [])
named_for reason other [] true is = refl
named_for reason other [] false is = refl
named_for reason other (row ∷ rows) true is = rw is (ap (λ (l : List Portion). row ∷ l) (named_for reason other rows true is))
named_for reason other (row ∷ rows) false is = rw is (named_for reason other rows false is)

-- portions under a name are those under it
pub own_rows : (name : List ℕ) (rows : List Portion) → rests_for name (as_rests name rows) ≡ rows
own_rows name rows = named_for name name rows true ((bytes_eq-Decides name name).1 refl)

for-append : (reason : List ℕ) (rests more : List Rest) → rests_for reason (rests ++ more) ≡ rests_for reason rests ++ rests_for reason more
for-append reason rests more =
    ap (map as_portion) (filter-append (λ (r : Rest). bytes_eq r.reason reason) rests more)
    ∙ map-append as_portion (filter (λ r. bytes_eq r.reason reason) rests) (filter (λ r. bytes_eq r.reason reason) more)

number_as : (reason : List ℕ) (rows : List Portion) → length (as_rests reason rows) ≡ length rows
number_as reason [] = refl
number_as reason (row ∷ rows) = omega (arith, number_as reason rows)

total_as : (reason : List ℕ) (rows : List Portion) → total_of_rests (as_rests reason rows) ≡ total_of_portions rows
total_as reason [] = refl
total_as reason (row ∷ rows) =
    int_sum_by-cons (λ (r : Rest). r.amount) (record { reason = reason; usage = row.usage; amount = row.amount }) (as_rests reason rows)
    ∙ ap (λ (z : ℤ). row.amount +ℤ z) (total_as reason rows)
    ∙ sym (int_sum_by-cons (λ (p : Portion). p.amount) row rows)

sound_as : (reason : Reason) (rows : List Portion) → All IsPortion rows → All IsRest (as_rests (reason_text reason) rows)
sound_as reason [] sound = All-nil IsRest
sound_as reason (row ∷ rows) sound =
    let here = All-head IsPortion row rows sound in
    All-cons IsRest (record { reason = reason_text reason; usage = row.usage; amount = row.amount }) (as_rests (reason_text reason) rows)
    ((reason, refl), here.0, here.1) (sound_as reason rows (All-tail IsPortion row rows sound))

-- ---- all four

abbrev number_for : Reason → List Rest → ℕ
number_for reason rests = length (rests_for (reason_text reason) rests)

abbrev total_for : Reason → List Rest → ℤ
total_for reason rests = total_of_portions (rests_for (reason_text reason) rests)

abbrev four_of : List Rest → ℕ
four_of rests = number_for Work rests + number_for Land rests + number_for Over rests + number_for Open rests

four_numbers : (rests : List Rest) → All IsRest rests → four_of rests ≡ length rests
four_numbers [] sound = refl
four_numbers (rest ∷ rests) sound =
    by (All-head IsRest rest rests sound).0.0 (All-head IsRest rest rests sound).0.1 (four_numbers rests (All-tail IsRest rest rests sound))
  where
    by : (reason : Reason) → rest.reason ≡ reason_text reason → four_of rests ≡ length rests → four_of (rest ∷ rests) ≡ length (rest ∷ rests)
    by Work is later = rw is (omega (arith, later))
    by Land is later = rw is (omega (arith, later))
    by Over is later = rw is (omega (arith, later))
    by Open is later = rw is (omega (arith, later))

abbrev total_of_all : List Rest → ℤ
total_of_all rests = total_for Work rests +ℤ (total_for Land rests +ℤ (total_for Over rests +ℤ total_for Open rests))

four_totals : (rests : List Rest) → All IsRest rests → total_of_all rests ≡ total_of_rests rests
four_totals [] sound = refl
four_totals (rest ∷ rests) sound =
    by (All-head IsRest rest rests sound).0.0 (All-head IsRest rest rests sound).0.1 (four_totals rests (All-tail IsRest rest rests sound))
    ∙ sym (int_sum_by-cons (λ (r : Rest). r.amount) rest rests)
  where
    first : (others : List Portion) → total_of_portions (as_portion rest ∷ others) ≡ rest.amount +ℤ total_of_portions others
    first others = int_sum_by-cons (λ (p : Portion). p.amount) (as_portion rest) others

    by : (reason : Reason) → rest.reason ≡ reason_text reason → total_of_all rests ≡ total_of_rests rests → total_of_all (rest ∷ rests) ≡ rest.amount +ℤ total_of_rests rests
    by Work is later = rw is (omega (arith, ints, later, first (rests_for (reason_text Work) rests)))
    by Land is later = rw is (omega (arith, ints, later, first (rests_for (reason_text Land) rests)))
    by Over is later = rw is (omega (arith, ints, later, first (rests_for (reason_text Over) rests)))
    by Open is later = rw is (omega (arith, ints, later, first (rests_for (reason_text Open) rests)))

module _ (work land over left : List Portion) where
  abbrev rests_of_four : List Rest
  rests_of_four = as_rests (reason_text Work) work ++ (as_rests (reason_text Land) land ++ (as_rests (reason_text Over) over ++ (as_rests (reason_text Open) left ++ [])))

  parts_for : (reason : List ℕ) → rests_for reason rests_of_four
      ≡ rests_for reason (as_rests (reason_text Work) work) ++ (rests_for reason (as_rests (reason_text Land) land) ++ (rests_for reason (as_rests (reason_text Over) over) ++ (rests_for reason (as_rests (reason_text Open) left) ++ [])))
  parts_for reason =
      let one = as_rests (reason_text Work) work in
      let two = as_rests (reason_text Land) land in
      let three = as_rests (reason_text Over) over in
      let four = as_rests (reason_text Open) left in
      for-append reason one (two ++ (three ++ (four ++ [])))
      ∙ ap (λ (l : List Portion). rests_for reason one ++ l) (for-append reason two (three ++ (four ++ []))
      ∙ ap (λ (l : List Portion). rests_for reason two ++ l) (for-append reason three (four ++ [])
      ∙ ap (λ (l : List Portion). rests_for reason three ++ l) (for-append reason four [])))

  -- those of each reason
  abbrev rows_for : Reason → List Portion
  rows_for Work = work
  rows_for Land = land
  rows_for Over = over
  rows_for Open = left

  pub found_for : (reason : Reason) → rests_for (reason_text reason) rests_of_four ≡ rows_for reason
  found_for Work = parts_for (reason_text Work) ∙ rw (
    named_for (reason_text Work) (reason_text Work) work true refl,
    named_for (reason_text Land) (reason_text Work) land false refl,
    named_for (reason_text Over) (reason_text Work) over false refl,
    named_for (reason_text Open) (reason_text Work) left false refl,
  ) (append-nil work)
  found_for Land = parts_for (reason_text Land) ∙ rw (
    named_for (reason_text Work) (reason_text Land) work false refl,
    named_for (reason_text Land) (reason_text Land) land true refl,
    named_for (reason_text Over) (reason_text Land) over false refl,
    named_for (reason_text Open) (reason_text Land) left false refl,
  ) (append-nil land)
  found_for Over = parts_for (reason_text Over) ∙ rw (
    named_for (reason_text Work) (reason_text Over) work false refl,
    named_for (reason_text Land) (reason_text Over) land false refl,
    named_for (reason_text Over) (reason_text Over) over true refl,
    named_for (reason_text Open) (reason_text Over) left false refl,
  ) (append-nil over)
  found_for Open = parts_for (reason_text Open) ∙ rw (
    named_for (reason_text Work) (reason_text Open) work false refl,
    named_for (reason_text Land) (reason_text Open) land false refl,
    named_for (reason_text Over) (reason_text Open) over false refl,
    named_for (reason_text Open) (reason_text Open) left true refl,
  ) (append-nil left)

  number_of_four : length rests_of_four ≡ length work + length land + length over + length left
  number_of_four = omega (
    arith,
    length-append (as_rests (reason_text Work) work) (as_rests (reason_text Land) land ++ (as_rests (reason_text Over) over ++ (as_rests (reason_text Open) left ++ []))),
    length-append (as_rests (reason_text Land) land) (as_rests (reason_text Over) over ++ (as_rests (reason_text Open) left ++ [])),
    length-append (as_rests (reason_text Over) over) (as_rests (reason_text Open) left ++ []),
    length-append (as_rests (reason_text Open) left) [],
    number_as (reason_text Work) work,
    number_as (reason_text Land) land,
    number_as (reason_text Over) over,
    number_as (reason_text Open) left,
  )

  total_of_four : total_of_rests rests_of_four ≡ total_of_portions work +ℤ (total_of_portions land +ℤ (total_of_portions over +ℤ total_of_portions left))
  total_of_four =
      let sum = λ (r : Rest). r.amount in
      let one = as_rests (reason_text Work) work in
      let two = as_rests (reason_text Land) land in
      let three = as_rests (reason_text Over) over in
      let four = as_rests (reason_text Open) left in
      int_sum_by-append sum one (two ++ (three ++ (four ++ [])))
      ∙ (λ i. total_as (reason_text Work) work i +ℤ (int_sum_by-append sum two (three ++ (four ++ []))
      ∙ (λ i. total_as (reason_text Land) land i +ℤ (int_sum_by-append sum three (four ++ [])
      ∙ (λ i. total_as (reason_text Over) over i +ℤ (ap (int_sum_by sum) (append-nil four) ∙ total_as (reason_text Open) left) i)) i)) i)

  sound_of_four : All IsPortion work → All IsPortion land → All IsPortion over → All IsPortion left → All IsRest rests_of_four
  sound_of_four w l o p =
      let one = as_rests (reason_text Work) work in
      let two = as_rests (reason_text Land) land in
      let three = as_rests (reason_text Over) over in
      let four = as_rests (reason_text Open) left in
      All-append IsRest one (two ++ (three ++ (four ++ []))) (sound_as Work work w)
      (All-append IsRest two (three ++ (four ++ [])) (sound_as Land land l)
      (All-append IsRest three (four ++ []) (sound_as Over over o)
      (All-append IsRest four [] (sound_as Open left p) (All-nil IsRest))))

  by_reason_of_four : rests_of_four ≡ flat_map (λ reason. as_rests (reason_text reason) (rests_for (reason_text reason) rests_of_four)) reasons
  by_reason_of_four = λ i. as_rests (reason_text Work) (sym (found_for Work) i)
      ++ (as_rests (reason_text Land) (sym (found_for Land) i)
      ++ (as_rests (reason_text Over) (sym (found_for Over) i)
      ++ (as_rests (reason_text Open) (sym (found_for Open) i) ++ [])))

  text_of_four : text_of (map rest_row (as_rests (reason_text Work) work)) ++ (text_of (map rest_row (as_rests (reason_text Land) land)) ++ (text_of (map rest_row (as_rests (reason_text Over) over)) ++ text_of (map rest_row (as_rests (reason_text Open) left))))
      ≡ text_of (map rest_row rests_of_four)
  text_of_four =
      let one = as_rests (reason_text Work) work in
      let two = as_rests (reason_text Land) land in
      let three = as_rests (reason_text Over) over in
      let four = as_rests (reason_text Open) left in
      (λ i. text_of (map rest_row one) ++ ((λ i. text_of (map rest_row two) ++ ((ap (λ (l : List Rest). text_of (map rest_row three) ++ text_of (map rest_row l)) (sym (append-nil four)) ∙ elements_more rest_row three (four ++ [])) i)) ∙ elements_more rest_row two (three ++ (four ++ []))) i)
      ∙ elements_more rest_row one (two ++ (three ++ (four ++ [])))

four_sums : (a b c d e f g h i j k l : ℤ) → a +ℤ b ≡ c → d +ℤ e ≡ f → g +ℤ h ≡ i → j +ℤ k ≡ l
    → (a +ℤ (d +ℤ (g +ℤ j))) +ℤ (b +ℤ (e +ℤ (h +ℤ k))) ≡ c +ℤ (f +ℤ (i +ℤ l))
four_sums a b c d e f g h i j k l one two three four = omega (arith, ints, one, two, three, four)

joined_sums : (a b c d : ℤ) → ((a +ℤ b) +ℤ c) +ℤ d ≡ a +ℤ (b +ℤ (c +ℤ d))
joined_sums a b c d = omega (arith, ints)

pub rests_adjusted : (paid right : List Rest) (first one two three after : Option (List ℕ)) (a b c d all : ℕ) (u v w z whole : ℤ) → All IsRest paid → All IsRest right
    → AdjustsReason (reason_text Work) paid right first one a u → AdjustsReason (reason_text Land) paid right one two b v
    → AdjustsReason (reason_text Over) paid right two three c w → AdjustsReason (reason_text Open) paid right three after d z
    → all ≡ a + b + c + d → whole ≡ ((u +ℤ v) +ℤ w) +ℤ z → AdjustsRests paid right first after all whole
rests_adjusted paid right first one two three after a b c d all u v w z whole paid_sound right_sound work land over left number comes = record {
  rests = rests_of_four work.rows land.rows over.rows left.rows;
  sound = sound_of_four work.rows land.rows over.rows left.rows work.sound land.sound over.sound left.sound;
  each = each;
  by_reason = by_reason_of_four work.rows land.rows over.rows left.rows;
  few = omega (arith, work.few, land.few, over.few, left.few, four_numbers paid paid_sound, four_numbers right right_sound, number_of_four work.rows land.rows over.rows left.rows);
  adds =
      (λ i. sym (four_totals paid paid_sound) i +ℤ total_of_four work.rows land.rows over.rows left.rows i)
      ∙ four_sums (total_for Work paid) (total_of_portions work.rows) (total_for Work right) (total_for Land paid) (total_of_portions land.rows) (total_for Land right)
      (total_for Over paid) (total_of_portions over.rows) (total_for Over right) (total_for Open paid) (total_of_portions left.rows) (total_for Open right) work.adds land.adds over.adds left.adds
      ∙ four_totals right right_sound;
  counted = omega (arith, number, work.counted, land.counted, over.counted, left.counted, number_of_four work.rows land.rows over.rows left.rows);
  sum = comes ∙ joined_sums u v w z ∙ (λ i. work.sum i +ℤ (land.sum i +ℤ (over.sum i +ℤ left.sum i))) ∙ sym (total_of_four work.rows land.rows over.rows left.rows);
  written = subst (λ (t : List ℕ). Appends first after t) (text_of_four work.rows land.rows over.rows left.rows)
      (Appends-trans first one after (text_of (map rest_row (as_rests (reason_text Work) work.rows))) (text_of (map rest_row (as_rests (reason_text Land) land.rows)) ++ (text_of (map rest_row (as_rests (reason_text Over) over.rows)) ++ text_of (map rest_row (as_rests (reason_text Open) left.rows)))) work.written
      (Appends-trans one two after (text_of (map rest_row (as_rests (reason_text Land) land.rows))) (text_of (map rest_row (as_rests (reason_text Over) over.rows)) ++ text_of (map rest_row (as_rests (reason_text Open) left.rows))) land.written
      (Appends-trans two three after (text_of (map rest_row (as_rests (reason_text Over) over.rows))) (text_of (map rest_row (as_rests (reason_text Open) left.rows))) over.written left.written)));
}
  where
    each : (reason : Reason) → AreRowsOfDifferences (rests_for (reason_text reason) paid) (rests_for (reason_text reason) right)
        (rests_for (reason_text reason) (rests_of_four work.rows land.rows over.rows left.rows))
    each reason = subst (AreRowsOfDifferences (rests_for (reason_text reason) paid) (rests_for (reason_text reason) right)) (sym (found_for work.rows land.rows over.rows left.rows reason)) (its reason)
      where
        its : (reason : Reason) → AreRowsOfDifferences (rests_for (reason_text reason) paid) (rests_for (reason_text reason) right) (rows_for work.rows land.rows over.rows left.rows reason)
        its Work = work.are
        its Land = land.are
        its Over = over.are
        its Open = left.are

-- what was written is small
pub rests_within : (paid right : List Rest) (text other : List ℕ) (first after : Option (List ℕ)) (count : ℕ) (total : ℤ) → AreRestsRows paid right text other → AdjustsRests paid right first after count total
    → (count ≤ 10 ^ 18) × (unsigned_abs total ≤ 10 ^ 30)
rests_within paid right text other first after count total rows was =
    let few : count ≤ 10 ^ 18 = omega (arith, was.counted, was.few, rows.few) in
    let small = rests_small was.rests was.sound in
    (few, omega (arith, small, few, was.counted, ap unsigned_abs was.sum))
