-- A payee's statement is passed over, portion by portion.
use Rattle.std.proofs.Common.{Bool, true, false, ◌≡◌, ◌∙◌, ◌+◌, ◌+ℤ◌, ◌++◌, ◌∷◌, inl, inr, ℕ, ℤ, List, [], Option, Some, None, length, map, get_or, ap, sym, refl, subst, arith, codes}
use Rattle.std.specs.Prelude.{if◌then◌else◌, slice_index_or}
use Rattle.std.specs.Io.KnownBytes.{Appends, Consumes, Keeps, prepend_known}
use Rattle.std.proofs.KnownBytes.{Appends-nil, Appends-trans, Consumes-nil, Consumes-trans}
use Rattle.std.proofs.lemmas.List.{append-nil, length_push, map-append}
use Rattle.std.proofs.lemmas.List.Elements.{All-cons, All-nil, All-push}
use Rattle.std.proofs.lemmas.Grind.{flat_map-append}
use Rattle.csv.specs.Reading.{default_config, records}
use Rattle.csv.specs.Writing.{read_back}
use Rattle.csv_table.proofs.ReadBack.{rows_read_back}
use Rattle.csv_table.specs.Written.{text_of, text_of_row}
use Rattle.line_split.proofs.IntSums.{int_sum_by_push}
use Rattle.merge_statements.specs.SoFar.{CanEnd, HasNext, HasRests, IsLooked, IsNext, IsPortionAt, IsRestAt, IsRestsSumAt, IsSumAt, IsWithin, PassesSum, ReadsOn, Steps, Unread, WritesRests, WritesStatement, total_of_portions}
use Rattle.merge_statements.specs.Places.{At, IsPayeeAt, count_at, row_of, sum_at}
use Rattle.merge_statements.specs.Statements.{IsCount, IsPortion, IsRest, Portion, Rest, Statement, portion_row, rest_row, total_of_rests, total_row}
use Rattle.merge_statements.specs.declared.walk.Place.{Place}
use Rattle.merge_statements.specs.declared.walk.Place.TheVariants.{Between, Summed, Within}
use Rattle.merge_statements.proofs.Steps.{portion_passed, rest_passed}

-- ---- rows of one text have the same second field

second : List (List ℕ) → List ℕ
second row = slice_index_or row 1 []

abbrev first_row : List (List (List ℕ)) → List (List ℕ)
first_row rows = slice_index_or rows 0 []

second_back : (row : List (List ℕ)) → slice_index_or (read_back row) 1 [] ≡ slice_index_or row 1 []
second_back [] = refl
second_back (field ∷ fields) = refl

second_in : (row : List (List ℕ)) → slice_index_or (first_row (records default_config (text_of_row row ++ []))) 1 [] ≡ slice_index_or row 1 []
second_in row = ap (λ (rows : List (List (List ℕ))). slice_index_or (first_row rows) 1 []) (rows_read_back (row ∷ [])) ∙ second_back row

pub second_same : (row other : List (List ℕ)) → text_of_row row ≡ text_of_row other → slice_index_or row 1 [] ≡ slice_index_or other 1 []
second_same row other same = sym (second_in row) ∙ ap (λ (text : List ℕ). slice_index_or (first_row (records default_config (text ++ []))) 1 []) same ∙ second_in other

-- ---- the text of a row more

pub text_more : (rows : List (List (List ℕ))) (row : List (List ℕ)) → text_of rows ++ text_of_row row ≡ text_of (rows ++ row ∷ [])
text_more rows row = ap (λ (l : List ℕ). text_of rows ++ l) (sym (append-nil (text_of_row row))) ∙ sym (flat_map-append text_of_row rows (row ∷ []))

-- the same where each row is that of an element
pub element_more : {X : Type 0} (row : X → List (List ℕ)) (xs : List X) (x : X) → text_of (map row xs) ++ text_of_row (row x) ≡ text_of (map row (xs ++ x ∷ []))
element_more row xs x = text_more (map row xs) (row x) ∙ ap text_of (sym (map-append row xs (x ∷ [])))

-- and of many more
pub elements_more : {X : Type 0} (row : X → List (List ℕ)) (xs ys : List X) → text_of (map row xs) ++ text_of (map row ys) ≡ text_of (map row (xs ++ ys))
elements_more row xs ys = sym (flat_map-append text_of_row (map row xs) (map row ys)) ∙ ap text_of (sym (map-append row xs ys))

-- ---- the first portion

-- a row that begins with the letter of portions
pub next_begins : (at : At) (line payee : List ℕ) → IsNext at line payee → get_or line 0 0 ≡ 76
next_begins at line payee next = ap (λ (text : List ℕ). get_or text 0 0) (sym next.row)

pub first_within : (old new : Unread) (before after : Option (List ℕ)) → HasNext old → Steps old new → ReadsOn old new → Appends before after old.line → IsWithin old new before after
first_within old new before after has passed reads written =
    let payee = has.payee in
    let next = has.next in
    let same : p.payee ≡ payee =
    sym (ap (λ (row : List (List ℕ)). slice_index_or row 1 []) p.form)
    ∙ second_same passed.row (row_of (codes "L") payee next.usage next.amount) (passed.line ∙ sym next.row) in
    let form : passed.row ≡ portion_row payee p.portion = p.form ∙ ap (λ (name : List ℕ). portion_row name p.portion) same in
    let text : text_of_row passed.row ≡ text_of (map (portion_row payee) (p.portion ∷ [])) = ap text_of_row form ∙ sym (append-nil (text_of_row (portion_row payee p.portion))) in
    record {
      payee = payee;
      portions = p.portion ∷ [];
      due = has.due;
      name = next.name;
      behind = next.after;
      some = omega arith;
      sound = All-cons IsPortion p.portion [] p.sound (All-nil IsPortion);
      at = p.leads ∙ (λ i. record {
        place = Within (one_more i) (sum i);
        payee = same i;
        portions = old.at.portions + 1;
        total = old.at.total;
      });
      consumed = subst (λ (t : List ℕ). Consumes old.left new.left t) text passed.consumed;
      written = subst (λ (t : List ℕ). Appends before after t) (sym passed.line ∙ text) written;
      reads = reads;
    }
  where
    p : IsPortionAt old.at passed.row new.at
    p = portion_passed old.at new.at passed.row passed.follows (ap (λ (text : List ℕ). get_or text 0 0) passed.line ∙ next_begins old.at old.line has.payee has.next)

    one_more : count_at old.at.place + 1 ≡ 1
    one_more = ap (λ (place : Place). count_at place + 1) has.next.place

    sum : sum_at old.at.place +ℤ p.portion.amount ≡ total_of_portions (p.portion ∷ [])
    sum = ap (λ (place : Place). sum_at place +ℤ p.portion.amount) has.next.place

-- ---- a further one

pub more_within : (old between new : Unread) (before middle after : Option (List ℕ)) → IsWithin old between before middle
    → get_or between.line 0 0 ≡ 76 → Steps between new → ReadsOn between new → Appends middle after between.line → IsWithin old new before after
more_within old between new before middle after was first passed reads written =
    let same : p.payee ≡ was.payee = subst (λ (at : At). IsPayeeAt at.place at.payee p.payee) was.at p.due in
    let form : passed.row ≡ portion_row was.payee p.portion = p.form ∙ ap (λ (name : List ℕ). portion_row name p.portion) same in
    let text = element_more (portion_row was.payee) was.portions p.portion in
    record {
      payee = was.payee;
      portions = was.portions ++ p.portion ∷ [];
      due = was.due;
      name = was.name;
      behind = was.behind;
      some = omega (arith, was.some, length_push was.portions p.portion);
      sound = All-push IsPortion was.portions p.portion was.sound p.sound;
      at = p.leads ∙ (λ i. record {
        place = Within (count i) (sum i);
        payee = same i;
        portions = all i;
        total = (was.at i).total;
      });
      consumed = subst (λ (t : List ℕ). Consumes old.left new.left t) text
          (Consumes-trans old.left between.left new.left (text_of (map (portion_row was.payee) was.portions)) (text_of_row (portion_row was.payee p.portion)) was.consumed
          (subst (λ (row : List (List ℕ)). Consumes between.left new.left (text_of_row row)) form passed.consumed));
      written = subst (λ (t : List ℕ). Appends before after t) text
          (Appends-trans before middle after (text_of (map (portion_row was.payee) was.portions)) (text_of_row (portion_row was.payee p.portion)) was.written
          (subst (λ (t : List ℕ). Appends middle after t) (sym passed.line ∙ ap text_of_row form) written));
      reads = λ start read. reads start (was.reads start read);
    }
  where
    p : IsPortionAt between.at passed.row new.at
    p = portion_passed between.at new.at passed.row passed.follows (ap (λ (text : List ℕ). get_or text 0 0) passed.line ∙ first)

    count : count_at between.at.place + 1 ≡ length (was.portions ++ p.portion ∷ [])
    count = ap (λ (at : At). count_at at.place + 1) was.at ∙ sym (length_push was.portions p.portion)

    sum : sum_at between.at.place +ℤ p.portion.amount ≡ total_of_portions (was.portions ++ p.portion ∷ [])
    sum = ap (λ (at : At). sum_at at.place +ℤ p.portion.amount) was.at ∙ sym (int_sum_by_push (λ (p : Portion). p.amount) was.portions p.portion)

    all : between.at.portions + 1 ≡ old.at.portions + length (was.portions ++ p.portion ∷ [])
    all = omega (arith, ap (λ (at : At). at.portions) was.at, length_push was.portions p.portion)

-- each is counted
pub portion_counted : (old new : Unread) → get_or old.line 0 0 ≡ 76 → Steps old new → (new.at.portions ≡ old.at.portions + 1) × IsCount (old.at.portions + 1)
portion_counted old new first passed =
    let p = portion_passed old.at new.at passed.row passed.follows (ap (λ (text : List ℕ). get_or text 0 0) passed.line ∙ first) in
    (ap (λ (at : At). at.portions) p.leads, p.count)

-- ---- the end of a statement

pub statement_written : (old between new : Unread) (before after : Option (List ℕ)) (count : ℕ) (total : ℤ) → IsWithin old between before after
    → PassesSum IsSumAt between new count total → ReadsOn between new → IsLooked new → WritesStatement old new before after count total
statement_written old between new before after count total was end reads looked =
    let statement : Statement = record { payee = was.payee; portions = was.portions } in
    let place : between.at.place ≡ Within (length was.portions) (total_of_portions was.portions) = ap (λ (at : At). at.place) was.at in
    let payee : between.at.payee ≡ was.payee = ap (λ (at : At). at.payee) was.at in
    let form : end.row ≡ total_row (codes "S") was.payee (length was.portions) (total_of_portions was.portions) =
    end.sum.form ∙ (λ i. total_row (codes "S") (payee i) (count_at (place i)) (sum_at (place i))) in
    record {
      statement = statement;
      passed = record {
        due = was.due;
        after = was.behind;
        sound = record { payee = was.name; some = was.some; portions = was.sound };
        consumed = subst (λ (t : List ℕ). Consumes old.left new.left t)
            (text_more (map (portion_row was.payee) was.portions) (total_row (codes "S") was.payee (length was.portions) (total_of_portions was.portions)))
            (Consumes-trans old.left between.left new.left (text_of (map (portion_row was.payee) was.portions)) (text_of_row (total_row (codes "S") was.payee (length was.portions) (total_of_portions was.portions))) was.consumed
            (subst (λ (row : List (List ℕ)). Consumes between.left new.left (text_of_row row)) form end.consumed));
        at = end.sum.leads ∙ (λ i. record {
          place = Between;
          payee = payee i;
          portions = (was.at i).portions;
          total = (was.at i).total +ℤ sum_at (place i);
        });
        few = subst IsCount (sym (ap (λ (at : At). at.portions) end.sum.leads)) end.few;
        reads = λ start read. reads start (was.reads start read);
        looked = looked;
      };
      counted = end.counted ∙ ap count_at place;
      sum = end.comes_to ∙ ap sum_at place;
      written = was.written;
    }

-- ---- the first row

pub opened : (from before after : Option (List ℕ)) (line : List ℕ) (found : Bool) → before ≡ from → (found ≡ true → Consumes before after (line ++ 10 ∷ []))
    → (found ≡ false → Keeps before after) → Keeps from (prepend_known (if found then line ++ 10 ∷ [] else []) after)
opened from before after line found same more ends = subst (λ (known : Option (List ℕ)). Keeps known (prepend_known (if found then line ++ 10 ∷ [] else []) after)) same (by before after found more ends)
  where
    by : (before after : Option (List ℕ)) (found : Bool) → (found ≡ true → Consumes before after (line ++ 10 ∷ [])) → (found ≡ false → Keeps before after)
        → Keeps before (prepend_known (if found then line ++ 10 ∷ [] else []) after)
    by None after found more ends = tt
    by (Some xs) None true more ends = absurd (more refl)
    by (Some xs) None false more ends = absurd (ends refl)
    by (Some xs) (Some ys) true more ends = sym (more refl)
    by (Some xs) (Some ys) false more ends = ends refl

-- ---- what nobody gets

pub no_rests : (old : Unread) (before : Option (List ℕ)) → CanEnd old → HasRests old old before before
no_rests old before can = record {
  rests = [];
  sound = All-nil IsRest;
  count = ap count_at can.between;
  sum = ap sum_at can.between;
  payee = refl;
  portions = omega arith;
  total = refl;
  consumed = Consumes-nil old.left;
  written = Appends-nil before;
  among = inl can;
  reads = λ start read. read;
}

pub more_rests : (old between new : Unread) (before middle after : Option (List ℕ)) → HasRests old between before middle
    → get_or between.line 0 0 ≡ 77 → Steps between new → ReadsOn between new → Appends middle after between.line → HasRests old new before after
more_rests old between new before middle after was first passed reads written =
    let r : IsRestAt between.at passed.row new.at = rest_passed between.at new.at passed.row passed.follows (ap (λ (text : List ℕ). get_or text 0 0) passed.line ∙ first) in
    let text = element_more rest_row was.rests r.what in
    record {
      rests = was.rests ++ r.what ∷ [];
      sound = All-push IsRest was.rests r.what was.sound r.sound;
      count = ap (λ (at : At). count_at at.place) r.leads ∙ omega (arith, was.count, length_push was.rests r.what);
      sum = ap (λ (at : At). sum_at at.place) r.leads ∙ (ap (λ (n : ℤ). n +ℤ r.what.amount) was.sum ∙ sym (int_sum_by_push (λ (r : Rest). r.amount) was.rests r.what));
      payee = ap (λ (at : At). at.payee) r.leads ∙ was.payee;
      portions = ap (λ (at : At). at.portions) r.leads ∙ omega (arith, was.portions, length_push was.rests r.what);
      total = ap (λ (at : At). at.total) r.leads ∙ was.total;
      consumed = subst (λ (t : List ℕ). Consumes old.left new.left t) text
          (Consumes-trans old.left between.left new.left (text_of (map rest_row was.rests)) (text_of_row (rest_row r.what)) was.consumed
          (subst (λ (row : List (List ℕ)). Consumes between.left new.left (text_of_row row)) r.form passed.consumed));
      written = subst (λ (t : List ℕ). Appends before after t) text
          (Appends-trans before middle after (text_of (map rest_row was.rests)) (text_of_row (rest_row r.what)) was.written
          (subst (λ (t : List ℕ). Appends middle after t) (sym passed.line ∙ ap text_of_row r.form) written));
      among = inr (count_at between.at.place + 1, sum_at between.at.place +ℤ r.what.amount, ap (λ (at : At). at.place) r.leads);
      reads = λ start read. reads start (was.reads start read);
    }

pub rest_counted : (old new : Unread) → get_or old.line 0 0 ≡ 77 → Steps old new → (new.at.portions ≡ old.at.portions + 1) × IsCount (old.at.portions + 1)
rest_counted old new first passed =
    let r = rest_passed old.at new.at passed.row passed.follows (ap (λ (text : List ℕ). get_or text 0 0) passed.line ∙ first) in
    (ap (λ (at : At). at.portions) r.leads, r.count)

pub rests_written : (old between new : Unread) (before after : Option (List ℕ)) (count : ℕ) (total : ℤ) → HasRests old between before after
    → PassesSum IsRestsSumAt between new count total → WritesRests old new before after count total
rests_written old between new before after count total was end =
    let last = total_row (codes "T") [] (length was.rests) (total_of_rests was.rests) in
    let form : end.row ≡ last = end.sum.form ∙ (λ i. total_row (codes "T") [] (was.count i) (was.sum i)) in
    record {
      rests = was.rests;
      sound = was.sound;
      counted = end.counted ∙ was.count;
      sum = end.comes_to ∙ was.sum;
      consumed = subst (λ (t : List ℕ). Consumes old.left new.left t) (text_more (map rest_row was.rests) last)
          (Consumes-trans old.left between.left new.left (text_of (map rest_row was.rests)) (text_of_row last) was.consumed
          (subst (λ (row : List (List ℕ)). Consumes between.left new.left (text_of_row row)) form end.consumed));
      at = end.sum.leads ∙ (λ i. record {
        place = Summed;
        payee = was.payee i;
        portions = was.portions i;
        total = was.total i +ℤ was.sum i;
      });
      few = subst IsCount (sym (ap (λ (at : At). at.portions) end.sum.leads)) end.few;
      written = was.written;
    }
