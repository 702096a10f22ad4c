-- Both texts have ended, and their differences are written.
use Rattle.std.proofs.Common.{◌≡◌, ◌∙◌, ◌-◌, ◌^◌, ◌+◌, ◌<◌, ◌+ℤ◌, ◌++◌, ◌∷◌, [], ℕ, ℤ, List, Option, Some, None, get_or, length, map, ap, refl, sym, subst, arith, codes, append_assoc}
use Rattle.std.specs.Prelude.{IfSome, flat_map, sum_by}
use Rattle.std.specs.Io.KnownBytes.{Appends, IsAtEnd, append_known}
use Rattle.std.proofs.KnownBytes.{Appends-trans, Consumes-whole}
use Rattle.std.proofs.lemmas.Grind.{flat_map-append}
use Rattle.std.proofs.lemmas.Int.{ints}
use Rattle.std.proofs.lemmas.List.{append-nil}
use Rattle.csv_table.specs.Written.{text_of, text_of_row}
use Rattle.line_split.specs.Signs.{int_sum_by}
use Rattle.merge_statements.specs.Statements.{IsCount, Rest, Statement, Statements, rest_row, rests_rows, statement_rows, text_of_statements, total_of, total_of_rests, total_row}
use Rattle.merge_statements.specs.Places.{At}
use Rattle.merge_statements.specs.Refused.{IsOfSystem, IsRefusedFor, IsStatementText}
use Rattle.merge_statements.specs.SoFar.{AreRead, CanEnd, HasPassed, IsRead, RefusesRest, Unread}
use Rattle.merge_statements.specs.SoFar.AreRead.{none as none_were, more as more_were}
use Rattle.merge_statements.specs.declared.walk.Place.TheVariants.{Ended}
use Rattle.merge_statements.specs.declared.refusal.Refusal.{Refusal}
use Rattle.merge_statements.specs.declared.refusal.Refusal.TheVariants as refusal
use Rattle.merge_statements.proofs.Passing.{text_more}
use Rattle.merge_statements.proofs.ReadBack.{the_statements}
use Rattle.merge_statements.proofs.TooMany.{many_read, unknown_one}
use Rattle.merge_statements.proofs.Whole.{says, sound_statements, text_is, text_sound}
use Rattle.adjust_statements.specs.Adjusted.{WritesAdjustment}
use Rattle.adjust_statements.specs.Refused.{IsRefusalFor, IsRefusalOfBoth}
use Rattle.adjust_statements.specs.SoFar.{AdjustsRests, AreAdjustedSoFar, AreRestsRows, EndBoth, IsSystemRefusal, RefusesRead}
use Rattle.adjust_statements.specs.declared.refusal.AdjustRefusal.{AdjustRefusal}
use Rattle.adjust_statements.specs.declared.refusal.AdjustRefusal.TheVariants.{Lines, Text}

-- ---- the text of the differences

text_whole : (payees : List Statement) (rests : List Rest) (amount : ℤ)
    → ((text_of (flat_map statement_rows payees) ++ text_of (map rest_row rests)) ++ text_of_row (total_row (codes "T") [] (length rests) (total_of_rests rests))) ++ text_of_row (total_row (codes "R") [] 0 amount)
    ≡ text_of_statements (the_statements payees rests 0 amount)
text_whole payees rests amount =
    let paid = text_of (flat_map statement_rows payees) in
    let left = text_of (map rest_row rests) in
    let summed = total_row (codes "T") [] (length rests) (total_of_rests rests) in
    let last = total_row (codes "R") [] 0 amount in
    ap (λ (l : List ℕ). l ++ text_of_row last) (append_assoc paid left (text_of_row summed))
    ∙ append_assoc paid (left ++ text_of_row summed) (text_of_row last)
    ∙ ap (λ (l : List ℕ). paid ++ l) (ap (λ (l : List ℕ). l ++ text_of_row last) (text_more (map rest_row rests) summed) ∙ text_more (rests_rows rests) last)
    ∙ sym (flat_map-append text_of_row (flat_map statement_rows payees) (rests_rows rests ++ last ∷ []))

added_up : (a b c d e f : ℤ) → a +ℤ b ≡ c → d +ℤ e ≡ f → (a +ℤ d) +ℤ (b +ℤ e) ≡ c +ℤ f
added_up a b c d e f one two = omega (arith, ints, one, two)

pub all_adjusted : (paid_start right_start : Option (List ℕ)) (paid right paid_last right_last : Unread) (paid_text right_text : List ℕ) (first one two three after : Option (List ℕ))
    (count left : ℕ) (total rest amount : ℤ)
    → AreAdjustedSoFar paid_start right_start paid right first one count total → (end : EndBoth paid right paid_last right_last paid_text right_text)
    → AdjustsRests end.paid.rests end.right.rests one two left rest
    → Appends two three (text_of_row (total_row (codes "T") [] left rest)) → amount ≡ total +ℤ rest
    → Appends three after (text_of_row (total_row (codes "R") [] 0 amount)) → WritesAdjustment paid_start right_start first after
all_adjusted paid_start right_start paid right paid_last right_last paid_text right_text first one two three after count left total rest amount was end rests summed comes run = record {
  paid_text = text_of_statements (says was.paid_done end.paid);
  right_text = text_of_statements (says was.right_done end.right);
  text = text_of_statements answer;
  paid_is = text_is paid_start paid paid_last was.paid_done end.paid was.paid_passed end.paid_ends;
  right_is = text_is right_start right right_last was.right_done end.right was.right_passed end.right_ends;
  adjustment = record {
    paid = says was.paid_done end.paid;
    right = says was.right_done end.right;
    answer = answer;
    paid_sound = text_sound paid_start paid paid_last was.paid_done end.paid was.paid_passed end.paid_ends;
    right_sound = text_sound right_start right right_last was.right_done end.right was.right_passed end.right_ends;
    paid_says = refl;
    right_says = refl;
    adjusted = record {
      sound = sound_statements was.answer rests.rests 0 amount was.rising was.sound rests.sound few (omega arith) (sym (comes ∙ (λ i. was.sum i +ℤ rests.sum i)));
      payees = was.each;
      rests = rests.each;
      by_reason = rests.by_reason;
      amount =
          ap (λ (z : ℤ). (int_sum_by total_of was.paid_done +ℤ total_of_rests end.paid.rests) +ℤ z) (comes ∙ (λ i. was.sum i +ℤ rests.sum i))
          ∙ added_up (int_sum_by total_of was.paid_done) (int_sum_by total_of was.answer) (int_sum_by total_of was.right_done) (total_of_rests end.paid.rests) (total_of_rests rests.rests) (total_of_rests end.right.rests) was.adds rests.adds;
      same_lines = end.same;
      lines = refl;
    };
    few = few;
    says = refl;
  };
  written = subst (λ (t : List ℕ). Appends first after t) (text_whole was.answer rests.rests amount)
      (Appends-trans first three after ((text_of (flat_map statement_rows was.answer) ++ text_of (map rest_row rests.rests)) ++ text_of_row (total_row (codes "T") [] (length rests.rests) (total_of_rests rests.rests))) (text_of_row (total_row (codes "R") [] 0 amount))
      (Appends-trans first two three (text_of (flat_map statement_rows was.answer) ++ text_of (map rest_row rests.rests)) (text_of_row (total_row (codes "T") [] (length rests.rests) (total_of_rests rests.rests)))
      (Appends-trans first one two (text_of (flat_map statement_rows was.answer)) (text_of (map rest_row rests.rests)) was.written rests.written)
      (subst (λ (t : List ℕ). Appends two three t) (λ i. text_of_row (total_row (codes "T") [] (rests.counted i) (rests.sum i))) summed))
      run);
}
  where
    answer : Statements
    answer = the_statements was.answer rests.rests 0 amount

    few : IsCount (sum_by (λ s. length s.portions) was.answer + length rests.rests)
    few = omega (arith, was.counted, was.few, rests.few, end.paid_ends.portions, end.right_ends.portions, end.read)

-- behind the last payee
pub can_end : (start : Option (List ℕ)) (part : Unread) (done : List Statement) → HasPassed start part done → part.payee ≡ None → CanEnd part
can_end start part done was none = let between = ap (λ (at : At). at.place) was.at in record { between = between; no_portion = was.looked none between }

pub rests_rows_are : (paid right paid_last right_last : Unread) (paid_text right_text : List ℕ) → (end : EndBoth paid right paid_last right_last paid_text right_text)
    → AreRestsRows end.paid.rests end.right.rests paid_text right_text
rests_rows_are paid right paid_last right_last paid_text right_text end = record {
  paid_sound = end.paid_ends.sound;
  right_sound = end.right_ends.sound;
  paid_is = end.paid_is;
  right_is = end.right_is;
  few = omega (arith, end.read, end.paid_ends.portions, end.right_ends.portions);
}

-- ---- the last page

none_added : (known : Option (List ℕ)) → append_known known [] ≡ known
none_added None = refl
none_added (Some bytes) = ap Some (append-nil bytes)

pub adjust_passed : (paid right : Option (List ℕ)) (first after last : Option (List ℕ)) (page : List ℕ) → page ≡ [] → WritesAdjustment paid right (append_known first page) after
    → Appends after last [] → WritesAdjustment paid right first last
adjust_passed paid right first after last page none was passed = record {
  paid_text = was.paid_text;
  right_text = was.right_text;
  text = was.text;
  paid_is = was.paid_is;
  right_is = was.right_is;
  adjustment = was.adjustment;
  written = subst (λ (t : List ℕ). Appends first last t) (append-nil was.text)
      (Appends-trans first after last was.text [] (subst (λ (known : Option (List ℕ)). Appends known after was.text) (ap (append_known first) none ∙ none_added first) was.written) passed);
}

-- ---- refusals

-- a text that is refused by itself is refused among both
pub text_refused : (both : List (Option (List ℕ))) (place : ℕ) (why : Refusal) → place < length both → IfSome (get_or both place None) (λ text. IsRefusedFor text why) → IsRefusalOfBoth both place why
text_refused both place (refusal.Fault fault) low is = (low, is)
text_refused both place refusal.Memory low is = tt
text_refused both place refusal.Many low is = unknown_one both place low is
text_refused both place (refusal.Read error) low is = tt
text_refused both place (refusal.Write error) low is = tt

system_of_both : (both : List (Option (List ℕ))) (place : ℕ) (why : Refusal) → IsOfSystem why → IsRefusalOfBoth both place why
system_of_both both place (refusal.Fault fault) of = absurd of
system_of_both both place refusal.Memory of = tt
system_of_both both place refusal.Many of = absurd of
system_of_both both place (refusal.Read error) of = tt
system_of_both both place (refusal.Write error) of = tt

pub paid_refused : (paid right : Unread) (why : Refusal) → RefusesRest paid why → RefusesRead paid right (Text (record { place = 0; refusal = why }))
paid_refused paid right why is = λ paid_start right_start paid_read right_read. text_refused (paid_start ∷ right_start ∷ []) 0 why (omega arith) (is paid_start paid_read)

pub right_refused : (paid right : Unread) (why : Refusal) → RefusesRest right why → RefusesRead paid right (Text (record { place = 1; refusal = why }))
right_refused paid right why is = λ paid_start right_start paid_read right_read. text_refused (paid_start ∷ right_start ∷ []) 1 why (omega arith) (is right_start right_read)

pub both_read : (paid_start right_start : Option (List ℕ)) (paid right : Unread) → IsRead paid_start paid → IsRead right_start right → AreRead (paid_start ∷ right_start ∷ []) (paid ∷ right ∷ [])
both_read paid_start right_start paid right paid_read right_read =
    more_were paid_start paid (right_start ∷ []) (right ∷ []) paid_read (more_were right_start right [] [] right_read none_were)

pub many_refused : (paid_start right_start : Option (List ℕ)) (paid right : Unread) → IsRead paid_start paid → IsRead right_start right → 10 ^ 18 < paid.at.portions + right.at.portions
    → IsRefusalFor paid_start right_start (Text (record { place = 0; refusal = refusal.Many }))
many_refused paid_start right_start paid right paid_read right_read many =
    many_read (paid_start ∷ right_start ∷ []) (paid ∷ right ∷ []) (both_read paid_start right_start paid right paid_read right_read) (omega (arith, many))

pub system_refused : (paid right : Option (List ℕ)) (why : AdjustRefusal) → IsSystemRefusal why → IsRefusalFor paid right why
system_refused paid right (Text refused) is = system_of_both (paid ∷ right ∷ []) refused.place refused.refusal is
system_refused paid right (Lines row) is = absurd is

-- a text that was read to its end, by its rows
abbrev IsOf : (number lines : ℕ) → List ℕ → Type 0
IsOf number lines text = (of : IsStatementText text lines) × (number ≡ length of.rows + 1)

-- texts of other numbers of usage lines
pub lines_refused : (paid_start right_start : Option (List ℕ)) (paid right : Unread) (paid_lines right_lines row : ℕ) → IsRead paid_start paid → IsRead right_start right
    → IsAtEnd paid.left → IsAtEnd right.left → paid.at.place ≡ Ended paid_lines → right.at.place ≡ Ended right_lines → row ≡ right.number - 1 → ¬ (paid_lines ≡ right_lines)
    → IsRefusalFor paid_start right_start (Lines row)
lines_refused paid_start right_start paid right paid_lines right_lines row paid_read right_read paid_end right_end paid_place right_place last apart =
    both (all_of paid_start paid paid_lines paid_read paid_end paid_place) (all_of right_start right right_lines right_read right_end right_place)
  where
    all_of : (start : Option (List ℕ)) (part : Unread) (lines : ℕ) → IsRead start part → IsAtEnd part.left → part.at.place ≡ Ended lines → IfSome start (IsOf part.number lines)
    all_of start part lines read ended place =
        Consumes-whole start part.left (text_of read.rows) (IsOf part.number lines) read.consumed ended
        (record { rows = read.rows; last = part.at; are = read.are; ended = place; bytes = refl }, read.counted)

    both : IfSome paid_start (IsOf paid.number paid_lines) → IfSome right_start (IsOf right.number right_lines) → IsRefusalFor paid_start right_start (Lines row)
    both = by paid_start right_start
      where
        by : (one other : Option (List ℕ)) → IfSome one (IsOf paid.number paid_lines) → IfSome other (IsOf right.number right_lines) → IsRefusalFor one other (Lines row)
        by None other first second = tt
        by (Some one) None first second = tt
        by (Some one) (Some other) first second = record {
          paid_lines = paid_lines;
          right_lines = right_lines;
          of_paid = first.0;
          of_right = second.0;
          last = omega (arith, last, second.1);
          apart = apart;
        }
