-- Rows that can stand one after another, from the first to the last, are those of statements.
use Rattle.std.proofs.Common.{◌≡◌, ◌∙◌, inl, inr, ◌<◌, ◌+◌, ◌+ℤ◌, ◌++◌, ◌∷◌, [], ℕ, ℤ, List, All, length, map, ap, sym, refl, subst, append_assoc, arith, codes}
use Rattle.std.specs.Prelude.{flat_map}
use Rattle.std.specs.List.Sorted.{IsStrictlySortedBy}
use Rattle.std.specs.declared.cmp.Ordering.TheVariants.{Less}
use Rattle.std.proofs.lemmas.List.{append-nil, length-append, map-append}
use Rattle.std.proofs.lemmas.List.Elements.{All-nil, All-push}
use Rattle.std.proofs.lemmas.Grind.{flat_map-append}
use Rattle.csv_table.specs.Written.{text_of}
use Rattle.line_split.specs.Signs.{int_sum_by}
use Rattle.line_split.proofs.IntSums.{int_sum_by_push}
use Rattle.merge_statements.specs.SoFar.{last_payee, order, payees_of, total_of_portions}
use Rattle.merge_statements.specs.Places.{At, Follows, IsPayeeAt, KindFits, at_first, count_at, row_of, sum_at}
use Rattle.merge_statements.specs.Statements.{AreStatements, IsCount, IsName, IsPortion, IsRest, IsStatement, Portion, Rest, Statement, Statements, count_of_portions, portion_row, rest_row, rests_rows, rows_of_statements, statement_rows, text_of_statements, total_of, total_of_rests, total_row}
use Rattle.merge_statements.specs.Refused.{AreRows, IsStatementText}
use Rattle.merge_statements.specs.Refused.AreRows.{none as no_rows, more as more_rows}
use Rattle.merge_statements.specs.declared.walk.Place.{Place}
use Rattle.merge_statements.specs.declared.walk.Place.TheVariants.{Between, Ended, Resting, Summed, Within}
use Rattle.merge_statements.proofs.Chains.{IsSound, first_sound, sound_on}
use Rattle.merge_statements.proofs.ReadBack.{the_statement, the_statements}
use Rattle.merge_statements.proofs.SoFar.{all_before, count_more, last_is, rises_more}
use Rattle.merge_statements.proofs.Whole.{count_of, sound_statements}

-- ---- what rows up to a place are

-- all that was read of a text's payees
record ArePayees (at : At) (done : List Statement) : Type 0 where
  pub sound : All IsStatement done
  pub rising : IsStrictlySortedBy order (payees_of done)
  pub total : at.total ≡ int_sum_by total_of done

record AreBetween (at : At) (rows : List (List (List ℕ))) : Type 0 where
  pub done : List Statement
  pub payees : ArePayees at done
  pub last : at.payee ≡ last_payee done
  pub rows_are : rows ≡ flat_map statement_rows done
  pub counted : at.portions ≡ count_of done

-- and so many portions of a payee, which may be none yet
record AreWithin (at : At) (rows : List (List (List ℕ))) (payee : List ℕ) : Type 0 where
  pub done : List Statement
  pub portions : List Portion
  pub payees : ArePayees at done
  pub name : IsName payee
  pub behind : order (last_payee done) payee ≡ Less
  pub each : All IsPortion portions
  pub rows_are : rows ≡ flat_map statement_rows done ++ map (portion_row payee) portions
  pub count : count_at at.place ≡ length portions
  pub sum : sum_at at.place ≡ total_of_portions portions
  pub counted : at.portions ≡ count_of done + length portions

-- or so much that nobody gets, which may be nothing yet
record AreResting (at : At) (rows : List (List (List ℕ))) : Type 0 where
  pub done : List Statement
  pub rests : List Rest
  pub payees : ArePayees at done
  pub each : All IsRest rests
  pub rows_are : rows ≡ flat_map statement_rows done ++ map rest_row rests
  pub count : count_at at.place ≡ length rests
  pub sum : sum_at at.place ≡ total_of_rests rests
  pub counted : at.portions ≡ count_of done + length rests

-- or all of it, with its sum
record AreSummed (at : At) (rows : List (List (List ℕ))) : Type 0 where
  pub done : List Statement
  pub rests : List Rest
  pub sound : All IsStatement done
  pub rising : IsStrictlySortedBy order (payees_of done)
  pub each : All IsRest rests
  pub rows_are : rows ≡ flat_map statement_rows done ++ rests_rows rests
  pub counted : at.portions ≡ count_of done + length rests
  pub total : at.total ≡ int_sum_by total_of done +ℤ total_of_rests rests

-- or all rows
record AreWhole (rows : List (List (List ℕ))) (lines : ℕ) : Type 0 where
  pub all : Statements
  pub are : AreStatements all
  pub counted : IsCount (count_of_portions all)
  pub lines_are : all.lines ≡ lines
  pub rows_are : rows ≡ rows_of_statements all

abbrev Reached : Place → At → List (List (List ℕ)) → Type 0
Reached Between at rows = AreBetween at rows
Reached (Within count so_far) at rows = AreWithin at rows at.payee × (0 < count)
Reached (Resting count so_far) at rows = AreResting at rows
Reached Summed at rows = AreSummed at rows
Reached (Ended lines) at rows = AreWhole rows lines

-- ---- a row more

module _ (at next : At) (row : List (List ℕ)) (rows : List (List (List ℕ))) (follows : Follows at row next) where
  abbrev Goes : At → Type 0
  Goes to = Reached to.place to (rows ++ row ∷ [])

  a_portion : follows.kind ≡ codes "L" → AreWithin at rows follows.payee_or_reason → Goes next
  a_portion l was =
      let (amount, size, written, to) = follows.leads.portion l in
      let portion : Portion = record { usage = follows.usage_or_count; amount = amount } in
      let row_is : row ≡ portion_row follows.payee_or_reason portion = follows.form ∙ (λ i. row_of (l i) follows.payee_or_reason follows.usage_or_count (written i)) in
      let longer = length-append was.portions (portion ∷ []) in
      subst Goes (sym to) (
        record {
          done = was.done;
          portions = was.portions ++ portion ∷ [];
          payees = record { sound = was.payees.sound; rising = was.payees.rising; total = was.payees.total };
          name = was.name;
          behind = was.behind;
          each = All-push IsPortion was.portions portion was.each (follows.fits.usage_or_count_fits.usage (inl l), size);
          rows_are =
              (λ i. was.rows_are i ++ row_is i ∷ [])
              ∙ (append_assoc (flat_map statement_rows was.done) (map (portion_row follows.payee_or_reason) was.portions) (portion_row follows.payee_or_reason portion ∷ [])
              ∙ ap (λ (r : List (List (List ℕ))). flat_map statement_rows was.done ++ r) (sym (map-append (portion_row follows.payee_or_reason) was.portions (portion ∷ []))));
          count = omega (arith, was.count, longer);
          sum = ap (λ (n : ℤ). n +ℤ amount) was.sum ∙ sym (int_sum_by_push (λ (p : Portion). p.amount) was.portions portion);
          counted = omega (arith, was.counted, longer);
        },
        omega arith,
      )

  a_sum : follows.kind ≡ codes "S" → AreWithin at rows at.payee → 0 < count_at at.place → Goes next
  a_sum s was some =
      let statement = the_statement at.payee was.portions in
      let fits = follows.fits in
      let row_is : row ≡ total_row (codes "S") at.payee (length was.portions) (total_of statement) =
      follows.form
      ∙ ((λ i. row_of (s i) (fits.payee_or_reason_fits.same s i) (fits.usage_or_count_fits.count (inl s) i) (fits.amount_or_total_fits.sum (inl s) i)) ∙ (λ i. total_row (codes "S") at.payee (was.count i) (was.sum i))) in
      subst Goes (sym (follows.leads.sum s)) (record {
        done = was.done ++ statement ∷ [];
        payees = record {
          sound = All-push IsStatement was.done statement was.payees.sound (record { payee = was.name; some = omega (arith, some, was.count); portions = was.each });
          rising = rises_more was.done statement was.payees.rising (all_before was.done at.payee was.payees.rising was.behind);
          total = (λ i. was.payees.total i +ℤ was.sum i) ∙ sym (int_sum_by_push total_of was.done statement);
        };
        last = sym (last_is was.done statement);
        rows_are =
            (λ i. was.rows_are i ++ row_is i ∷ [])
            ∙ (append_assoc (flat_map statement_rows was.done) (map (portion_row at.payee) was.portions) (total_row (codes "S") at.payee (length was.portions) (total_of statement) ∷ [])
            ∙ (ap (λ (r : List (List (List ℕ))). flat_map statement_rows was.done ++ r) (sym (append-nil (statement_rows statement))) ∙ sym (flat_map-append statement_rows was.done (statement ∷ []))));
        counted = was.counted ∙ sym (count_more was.done statement);
      })

  a_rest : follows.kind ≡ codes "M" → AreResting at rows → Goes next
  a_rest m was =
      let (amount, size, written, to) = follows.leads.rest m in
      let rest : Rest = record { reason = follows.payee_or_reason; usage = follows.usage_or_count; amount = amount } in
      let row_is : row ≡ rest_row rest = follows.form ∙ (λ i. row_of (m i) follows.payee_or_reason follows.usage_or_count (written i)) in
      let longer = length-append was.rests (rest ∷ []) in
      subst Goes (sym to) (record {
        done = was.done;
        rests = was.rests ++ rest ∷ [];
        payees = record { sound = was.payees.sound; rising = was.payees.rising; total = was.payees.total };
        each = All-push IsRest was.rests rest was.each (follows.fits.payee_or_reason_fits.reason m, follows.fits.usage_or_count_fits.usage (inr m), size);
        rows_are =
            (λ i. was.rows_are i ++ row_is i ∷ [])
            ∙ (append_assoc (flat_map statement_rows was.done) (map rest_row was.rests) (rest_row rest ∷ [])
            ∙ ap (λ (r : List (List (List ℕ))). flat_map statement_rows was.done ++ r) (sym (map-append rest_row was.rests (rest ∷ []))));
        count = omega (arith, was.count, longer);
        sum = ap (λ (n : ℤ). n +ℤ amount) was.sum ∙ sym (int_sum_by_push (λ (r : Rest). r.amount) was.rests rest);
        counted = omega (arith, was.counted, longer);
      })

  a_rests_sum : follows.kind ≡ codes "T" → AreResting at rows → Goes next
  a_rests_sum t was =
      let fits = follows.fits in
      let row_is : row ≡ total_row (codes "T") [] (length was.rests) (total_of_rests was.rests) =
      follows.form
      ∙ ((λ i. row_of (t i) (fits.payee_or_reason_fits.none (inl t) i) (fits.usage_or_count_fits.count (inr t) i) (fits.amount_or_total_fits.sum (inr t) i)) ∙ (λ i. total_row (codes "T") [] (was.count i) (was.sum i))) in
      subst Goes (sym (follows.leads.rests t)) (record {
        done = was.done;
        rests = was.rests;
        sound = was.payees.sound;
        rising = was.payees.rising;
        each = was.each;
        rows_are =
            (λ i. was.rows_are i ++ row_is i ∷ [])
            ∙ append_assoc (flat_map statement_rows was.done) (map rest_row was.rests) (total_row (codes "T") [] (length was.rests) (total_of_rests was.rests) ∷ []);
        counted = was.counted;
        total = (λ i. was.payees.total i +ℤ was.sum i);
      })

  a_run : follows.kind ≡ codes "R" → IsSound at → AreSummed at rows → Goes next
  a_run r sound was =
      let (lines, few, written, to) = follows.leads.run r in
      let fits = follows.fits in
      let all = the_statements was.done was.rests lines at.total in
      let row_is : row ≡ total_row (codes "R") [] lines at.total = follows.form ∙ (λ i. row_of (r i) (fits.payee_or_reason_fits.none (inr r) i) (written i) (fits.amount_or_total_fits.all r i)) in
      let counted : IsCount (count_of was.done + length was.rests) = subst IsCount was.counted sound.few in
      subst Goes (sym to) (record {
        all = all;
        are = sound_statements was.done was.rests lines at.total was.rising was.sound was.each counted few (sym was.total);
        counted = counted;
        lines_are = refl;
        rows_are = (λ i. was.rows_are i ++ row_is i ∷ []) ∙ append_assoc (flat_map statement_rows was.done) (rests_rows was.rests) (total_row (codes "R") [] lines at.total ∷ []);
      })

  -- before a payee's first portion
  first_portion : at.place ≡ Between → follows.kind ≡ codes "L" → AreBetween at rows → AreWithin at rows follows.payee_or_reason
  first_portion is l was =
      let due = subst (λ (place : Place). IsPayeeAt place at.payee follows.payee_or_reason) is (follows.fits.payee_or_reason_fits.payee l) in
      record {
        done = was.done;
        portions = [];
        payees = was.payees;
        name = due.0;
        behind = subst (λ (last : List ℕ). order last follows.payee_or_reason ≡ Less) was.last due.1;
        each = All-nil IsPortion;
        rows_are = was.rows_are ∙ sym (append-nil (flat_map statement_rows was.done));
        count = ap count_at is;
        sum = ap sum_at is;
        counted = omega (arith, was.counted);
      }

  -- before the first portion that nobody gets
  first_rest : at.place ≡ Between → AreBetween at rows → AreResting at rows
  first_rest is was = record {
    done = was.done;
    rests = [];
    payees = was.payees;
    each = All-nil IsRest;
    rows_are = was.rows_are ∙ sym (append-nil (flat_map statement_rows was.done));
    count = ap count_at is;
    sum = ap sum_at is;
    counted = omega (arith, was.counted);
  }

  more_reached : IsSound at → Reached at.place at rows → Goes next
  more_reached sound reached = by at.place refl reached follows.fits.kind_fits
    where
      by : (place : Place) → at.place ≡ place → Reached place at rows → KindFits place follows.kind → Goes next
      by Between is was fits = elim fits [
        | inl l ↦ a_portion l (first_portion is l was)
        | inr other ↦ elim other [ inl m ↦ a_rest m (first_rest is was) | inr t ↦ a_rests_sum t (first_rest is was) ]
      ]
      by (Within count so_far) is was fits = elim fits [
        | inl l ↦
            let due = subst (λ (place : Place). IsPayeeAt place at.payee follows.payee_or_reason) is (follows.fits.payee_or_reason_fits.payee l) in
            a_portion l (subst (AreWithin at rows) (sym due) was.0)
        | inr s ↦ a_sum s was.0 (omega (arith, was.1, ap count_at is))
      ]
      by (Resting count so_far) is was fits = elim fits [ inl m ↦ a_rest m was | inr t ↦ a_rests_sum t was ]
      by Summed is was fits = a_run fits sound was
      by (Ended lines) is was fits = absurd fits

-- ---- all rows

nothing_reached : AreBetween at_first []
unfolding IsStrictlySortedBy
nothing_reached = record {
  done = [];
  payees = record { sound = All-nil IsStatement; rising = tt; total = refl };
  last = refl;
  rows_are = refl;
  counted = refl;
}

all_reached : (at last : At) (before rows : List (List (List ℕ))) → IsSound at → Reached at.place at before → AreRows at rows last → Reached last.place last (before ++ rows)
all_reached _ _ before _ sound reached (no_rows at) = subst (λ (rows : List (List (List ℕ))). Reached at.place at rows) (sym (append-nil before)) reached
all_reached _ _ before _ sound reached (more_rows at next last row rows follows are) =
    subst (λ (all : List (List (List ℕ))). Reached last.place last all) (append_assoc before (row ∷ []) rows)
    (all_reached next last (before ++ row ∷ []) rows (sound_on at next row sound follows) (more_reached at next row before follows sound reached) are)

-- a statement text is that of statements
pub record IsOfStatements (text : List ℕ) (lines : ℕ) : Type 0 where
  pub all : Statements
  pub are : AreStatements all
  pub counted : IsCount (count_of_portions all)
  pub lines_are : all.lines ≡ lines
  pub text_is : text ≡ text_of_statements all

pub to_statements : (text : List ℕ) (lines : ℕ) → IsStatementText text lines → IsOfStatements text lines
to_statements text lines is =
    let whole = subst (λ (place : Place). Reached place is.last is.rows) is.ended (all_reached at_first is.last [] is.rows first_sound nothing_reached is.are) in
    record { all = whole.all; are = whole.are; counted = whole.counted; lines_are = whole.lines_are; text_is = is.bytes ∙ ap text_of whole.rows_are }
