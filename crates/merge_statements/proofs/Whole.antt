-- Texts that were passed over to their ends are merged.
use Rattle.std.proofs.Common.{◌≡◌, ◌∙◌, ◌≤◌, ◌+◌, ◌*◌, ◌^◌, ◌+ℤ◌, ◌++◌, ◌∷◌, ℕ, ℤ, unsigned_abs, List, [], Option, Some, None, All, length, map, ap, sym, refl, subst, append_assoc, arith, codes}
use Rattle.std.specs.Prelude.{IfSome, flat_map, sum_by}
use Rattle.std.specs.Io.KnownBytes.{Appends, Consumes, Keeps, append_known}
use Rattle.std.specs.List.Sorted.{IsStrictlySortedBy}
use Rattle.std.proofs.KnownBytes.{Appends-trans, Consumes-trans, Consumes-whole}
use Rattle.std.proofs.lemmas.List.{append-nil}
use Rattle.std.proofs.lemmas.List.Elements.{All-cons, All-head, All-nil, All-tail, All-weaker}
use Rattle.std.proofs.lemmas.List.Folds.{flat_map-map}
use Rattle.std.proofs.lemmas.List.Sums.{sum_by-cons}
use Rattle.std.proofs.lemmas.Grind.{flat_map-append}
use Rattle.csv_table.specs.Written.{text_of, text_of_row}
use Rattle.line_split.specs.Signs.{int_sum_by}
use Rattle.line_split.proofs.IntSums.{int_sum_by-append, int_sum_by-cons, size_plus}
use Rattle.merge_statements.specs.SoFar.{AreMergedSoFar, AreOpen, Ending, EndsAs, EndsEach, EndsOne, HasPassed, HavePassed, IsLooked, IsRead, TakesEach, Unread, lines_of, order, payees_of, portions_in, rests_of, total_of_portions}
use Rattle.merge_statements.specs.Merged.{AreTexts, WritesMerge}
use Rattle.merge_statements.specs.SoFar.AreOpen.{none as no_open, more as more_open}
use Rattle.merge_statements.specs.Merged.AreTexts.{none as no_texts, more as more_texts}
use Rattle.merge_statements.specs.SoFar.HavePassed.{none as no_passed, more as more_passed}
use Rattle.merge_statements.specs.SoFar.TakesEach.{none as none_of, more as more_of}
use Rattle.merge_statements.specs.Places.{At, at_first}
use Rattle.merge_statements.specs.Statements.{AreStatements, IsCount, IsPortion, IsRest, IsStatement, Portion, Rest, Statement, Statements, rest_row, rests_rows, statement_rows, text_of_statements, total_of, total_of_rests, total_row}
use Rattle.merge_statements.proofs.Passing.{text_more}
use Rattle.merge_statements.proofs.SoFar.{moved}
use Rattle.merge_statements.proofs.ReadBack.{the_statements}

-- ---- sums in their limits

-- amounts of so many come to so much at most
sum_small : {X : Type 0} (amount : X → ℤ) (xs : List X) → All (λ x. unsigned_abs (amount x) ≤ 1000000000000) xs → unsigned_abs (int_sum_by amount xs) ≤ 1000000000000 * length xs
sum_small amount [] small = omega arith
sum_small {X} amount (x ∷ xs) small =
    let first : unsigned_abs (amount x) ≤ 1000000000000 = All-head (λ (y : X). unsigned_abs (amount y) ≤ 1000000000000) x xs small in
    let others = sum_small amount xs (All-tail (λ (y : X). unsigned_abs (amount y) ≤ 1000000000000) x xs small) in
    let both = size_plus (amount x) (int_sum_by amount xs) 1000000000000 (1000000000000 * length xs) first others in
    omega (arith, ap unsigned_abs (int_sum_by-cons amount x xs), both)

pub portions_small : (portions : List Portion) → All IsPortion portions → unsigned_abs (total_of_portions portions) ≤ 1000000000000 * length portions
portions_small portions sound = sum_small (λ (p : Portion). p.amount) portions (All-weaker IsPortion (λ p. unsigned_abs p.amount ≤ 1000000000000) (λ p is. is.1.1) portions sound)

pub rests_small : (rests : List Rest) → All IsRest rests → unsigned_abs (total_of_rests rests) ≤ 1000000000000 * length rests
rests_small rests sound = sum_small (λ (r : Rest). r.amount) rests (All-weaker IsRest (λ r. unsigned_abs r.amount ≤ 1000000000000) (λ r is. is.2.1) rests sound)

abbrev pub count_of : List Statement → ℕ
count_of statements = sum_by (λ statement. length statement.portions) statements

pub statements_small : (statements : List Statement) → All IsStatement statements → unsigned_abs (int_sum_by total_of statements) ≤ 1000000000000 * count_of statements
statements_small [] sound = omega arith
statements_small (statement ∷ statements) sound =
    let first = portions_small statement.portions (All-head IsStatement statement statements sound).portions in
    let others = statements_small statements (All-tail IsStatement statement statements sound) in
    let both = size_plus (total_of statement) (int_sum_by total_of statements) (1000000000000 * length statement.portions) (1000000000000 * count_of statements) first others in
    omega (arith, ap unsigned_abs (int_sum_by-cons total_of statement statements), both, sum_by-cons (λ (s : Statement). length s.portions) statement statements)

each_small : (statements : List Statement) (most : ℕ) → All IsStatement statements → count_of statements ≤ most → All (λ statement. unsigned_abs (total_of statement) ≤ 1000000000000 * most) statements
each_small [] most sound few = All-nil (λ (statement : Statement). unsigned_abs (total_of statement) ≤ 1000000000000 * most)
each_small (statement ∷ statements) most sound few =
    let count = sum_by-cons (λ (s : Statement). length s.portions) statement statements in
    All-cons (λ (s : Statement). unsigned_abs (total_of s) ≤ 1000000000000 * most) statement statements
    (omega (arith, portions_small statement.portions (All-head IsStatement statement statements sound).portions, count, few))
    (each_small statements most (All-tail IsStatement statement statements sound) (omega (arith, count, few)))

-- statements whose portions can be counted keep to their limits
pub sound_statements : (payees : List Statement) (rests : List Rest) (lines : ℕ) (amount : ℤ) → IsStrictlySortedBy order (payees_of payees) → All IsStatement payees → All IsRest rests
    → IsCount (count_of payees + length rests) → IsCount lines → int_sum_by total_of payees +ℤ total_of_rests rests ≡ amount → AreStatements (the_statements payees rests lines amount)
sound_statements payees rests lines amount rising sound left few lined adds =
    let paid = statements_small payees sound in
    let rest = rests_small rests left in
    let both = size_plus (int_sum_by total_of payees) (total_of_rests rests) (1000000000000 * count_of payees) (1000000000000 * length rests) paid rest in
    record {
      rising = rising;
      payees = sound;
      rests = left;
      adds_up = adds;
      lines = lined;
      amount = omega (arith, both, few, ap unsigned_abs adds);
      totals = All-weaker (λ (s : Statement). unsigned_abs (total_of s) ≤ 1000000000000 * 10 ^ 18) (λ s. unsigned_abs (total_of s) ≤ 10 ^ 30) (λ s small. omega (arith, small)) payees
          (each_small payees (10 ^ 18) sound (omega (arith, few)));
      rest = omega (arith, rest, few);
    }

-- ---- each text by itself

abbrev pub says : List Statement → Ending → Statements
says done ending = the_statements done ending.rests ending.lines (int_sum_by total_of done +ℤ total_of_rests ending.rests)

pub text_is : (start : Option (List ℕ)) (old new : Unread) (done : List Statement) (ending : Ending) → HasPassed start old done → EndsAs old new ending
    → IfSome start (λ bytes. bytes ≡ text_of_statements (says done ending))
text_is start old new done ending was ends =
    let rests = rests_rows ending.rests ++ total_row (codes "R") [] ending.lines (int_sum_by total_of done +ℤ total_of_rests ending.rests) ∷ [] in
    Consumes-whole start new.left (text_of_statements (says done ending)) (λ bytes. bytes ≡ text_of_statements (says done ending))
    (subst (λ (t : List ℕ). Consumes start new.left t) (sym (flat_map-append text_of_row (flat_map statement_rows done) rests))
    (Consumes-trans start old.left new.left (text_of (flat_map statement_rows done)) (text_of rests) was.consumed
    (subst (λ (total : ℤ). Consumes old.left new.left (text_of (rests_rows ending.rests ++ total_row (codes "R") [] ending.lines (total +ℤ total_of_rests ending.rests) ∷ []))) (ap (λ (at : At). at.total) was.at) ends.consumed)))
    ends.ended refl

pub text_sound : (start : Option (List ℕ)) (old new : Unread) (done : List Statement) (ending : Ending) → HasPassed start old done → EndsAs old new ending → AreStatements (says done ending)
text_sound start old new done ending was ends =
    sound_statements done ending.rests ending.lines (int_sum_by total_of done +ℤ total_of_rests ending.rests) was.rising was.sound ends.sound
    (subst (λ (n : ℕ). IsCount (n + length ending.rests)) (ap (λ (at : At). at.portions) was.at) ends.few_rests) ends.few refl

-- ---- all texts

record AreParts (starts : List (Option (List ℕ))) (dones : List (List Statement)) (endings : List Ending) : Type 0 where
  pub parts : List Statements
  pub sound : All AreStatements parts
  pub texts : AreTexts starts (map text_of_statements parts)
  pub payees : map (λ part. part.payees) parts ≡ dones
  pub rests : flat_map (λ part. part.rests) parts ≡ rests_of endings
  pub lines : sum_by (λ part. part.lines) parts ≡ lines_of endings
  pub amount : int_sum_by (λ part. part.amount) parts ≡ int_sum_by (λ done. int_sum_by total_of done) dones +ℤ total_of_rests (rests_of endings)

parts_of : (starts : List (Option (List ℕ))) (olds news : List Unread) (dones : List (List Statement)) (endings : List Ending) → HavePassed starts olds dones
    → TakesEach EndsOne olds news endings → AreParts starts dones endings
parts_of _ _ _ _ _ no_passed none_of = record {
  parts = [];
  sound = All-nil AreStatements;
  texts = no_texts;
  payees = refl;
  rests = refl;
  lines = refl;
  amount = refl;
}
parts_of _ _ _ _ _ (more_passed start part done starts parts dones has have) (more_of old new olds news own others (ending, is, ends) each) =
    let more = parts_of starts parts news dones others have each in
    subst (AreParts (start ∷ starts) (done ∷ dones)) (ap (λ (l : List Ending). l ++ others) (sym is)) (with_one start part new done ending starts dones others has ends more)
  where
    with_one : (start : Option (List ℕ)) (part new : Unread) (done : List Statement) (ending : Ending) (starts : List (Option (List ℕ))) (dones : List (List Statement)) (others : List Ending)
        → HasPassed start part done → EndsAs part new ending → AreParts starts dones others → AreParts (start ∷ starts) (done ∷ dones) (ending ∷ others)
    with_one start part new done ending starts dones others has ends more = record {
      parts = says done ending ∷ more.parts;
      sound = All-cons AreStatements (says done ending) more.parts (text_sound start part new done ending has ends) more.sound;
      texts = more_texts start (text_of_statements (says done ending)) starts (map text_of_statements more.parts) (text_is start part new done ending has ends) more.texts;
      payees = ap (λ (l : List (List Statement)). done ∷ l) more.payees;
      rests = ap (λ (l : List Rest). ending.rests ++ l) more.rests;
      lines = sum_by-cons (λ (s : Statements). s.lines) (says done ending) more.parts ∙ (ap (λ (n : ℕ). ending.lines + n) more.lines ∙ sym (sum_by-cons (λ (e : Ending). e.lines) ending others));
      amount =
          int_sum_by-cons (λ (s : Statements). s.amount) (says done ending) more.parts
          ∙ (ap (λ (n : ℤ). (int_sum_by total_of done +ℤ total_of_rests ending.rests) +ℤ n) more.amount
          ∙ (moved (int_sum_by total_of done) (total_of_rests ending.rests) (int_sum_by (λ (d : List Statement). int_sum_by total_of d) dones) (total_of_rests (rests_of others))
          ∙ (λ i. sym (int_sum_by-cons (λ (d : List Statement). int_sum_by total_of d) done dones) i +ℤ sym (int_sum_by-append (λ (r : Rest). r.amount) ending.rests (rests_of others)) i)));
    }

-- ---- the merged text

pub all_merged : (starts : List (Option (List ℕ))) (mid last : List Unread) (before one two three after : Option (List ℕ)) (paid left all : ℕ) (sum rest total : ℤ) (lines : ℕ)
    → AreMergedSoFar starts mid before one paid sum → EndsEach mid last one two left rest lines
    → Appends two three (text_of_row (total_row (codes "T") [] left rest)) → all ≡ paid + left → total ≡ sum +ℤ rest → IsCount all
    → Appends three after (text_of_row (total_row (codes "R") [] lines total)) → WritesMerge starts before after
all_merged starts mid last before one two three after paid left all sum rest total lines was ends summed counted comes few run = record {
  texts = map text_of_statements parts.parts;
  are = parts.texts;
  merged = text_of_statements whole;
  merge = record {
    parts = parts.parts;
    sound = parts.sound;
    each = refl;
    whole = whole;
    together = record {
      sound = sound_statements was.whole (rests_of ends.endings) lines total was.rising was.sound ends.sound
          (subst IsCount (counted ∙ (λ i. was.counted i + ends.counted i)) few) ends.few_lines (sym (comes ∙ (λ i. was.sum i +ℤ ends.sum i)));
      portions = λ payee. was.portions payee ∙ (ap (flat_map (portions_in payee)) (sym parts.payees) ∙ flat_map-map (portions_in payee) (λ (s : Statements). s.payees) parts.parts);
      rests = sym parts.rests;
      lines = ends.all_lines ∙ sym parts.lines;
      amount = comes ∙ ((λ i. was.sum i +ℤ ends.sum i) ∙ (ap (λ (n : ℤ). n +ℤ total_of_rests (rests_of ends.endings)) was.sums ∙ sym parts.amount));
    };
    all = refl;
  };
  written = subst (λ (t : List ℕ). Appends before after t) text
      (Appends-trans before three after (((text_of (flat_map statement_rows was.whole)) ++ (text_of (map rest_row (rests_of ends.endings)))) ++ (text_of_row (total_row (codes "T") [] (length (rests_of ends.endings)) (total_of_rests (rests_of ends.endings))))) (text_of_row (total_row (codes "R") [] lines total))
      (Appends-trans before two three ((text_of (flat_map statement_rows was.whole)) ++ (text_of (map rest_row (rests_of ends.endings)))) (text_of_row (total_row (codes "T") [] (length (rests_of ends.endings)) (total_of_rests (rests_of ends.endings))))
      (Appends-trans before one two (text_of (flat_map statement_rows was.whole)) (text_of (map rest_row (rests_of ends.endings))) was.written ends.written)
      (subst (λ (t : List ℕ). Appends two three t) (λ i. text_of_row (total_row (codes "T") [] (ends.counted i) (ends.sum i))) summed))
      run);
}
  where
    parts : AreParts starts was.dones ends.endings
    parts = parts_of starts mid last was.dones ends.endings was.passed ends.taken

    whole : Statements
    whole = the_statements was.whole (rests_of ends.endings) lines total

    -- row by row it is the text of the whole
    text : (((text_of (flat_map statement_rows was.whole)) ++ (text_of (map rest_row (rests_of ends.endings)))) ++ (text_of_row (total_row (codes "T") [] (length (rests_of ends.endings)) (total_of_rests (rests_of ends.endings))))) ++ (text_of_row (total_row (codes "R") [] lines total)) ≡ text_of_statements whole
    text =
        ap (λ (l : List ℕ). l ++ (text_of_row (total_row (codes "R") [] lines total))) (append_assoc (text_of (flat_map statement_rows was.whole)) (text_of (map rest_row (rests_of ends.endings))) (text_of_row (total_row (codes "T") [] (length (rests_of ends.endings)) (total_of_rests (rests_of ends.endings)))))
        ∙ (append_assoc (text_of (flat_map statement_rows was.whole)) ((text_of (map rest_row (rests_of ends.endings))) ++ (text_of_row (total_row (codes "T") [] (length (rests_of ends.endings)) (total_of_rests (rests_of ends.endings))))) (text_of_row (total_row (codes "R") [] lines total))
        ∙ (ap (λ (l : List ℕ). (text_of (flat_map statement_rows was.whole)) ++ l) (tail_text)
        ∙ sym (flat_map-append text_of_row (flat_map statement_rows was.whole) (rests_rows (rests_of ends.endings) ++ (total_row (codes "R") [] lines total) ∷ []))))
      where
        tail_text : ((text_of (map rest_row (rests_of ends.endings))) ++ (text_of_row (total_row (codes "T") [] (length (rests_of ends.endings)) (total_of_rests (rests_of ends.endings))))) ++ (text_of_row (total_row (codes "R") [] lines total)) ≡ text_of (rests_rows (rests_of ends.endings) ++ (total_row (codes "R") [] lines total) ∷ [])
        tail_text = ap (λ (l : List ℕ). l ++ (text_of_row (total_row (codes "R") [] lines total))) (text_more (map rest_row (rests_of ends.endings)) (total_row (codes "T") [] (length (rests_of ends.endings)) (total_of_rests (rests_of ends.endings)))) ∙ text_more (rests_rows (rests_of ends.endings)) (total_row (codes "R") [] lines total)

-- ---- texts that are opened

pub open_push : (starts : List (Option (List ℕ))) (parts : List Unread) (start : Option (List ℕ)) (part : Unread) → AreOpen starts parts → AreOpen (start ∷ []) (part ∷ []) → AreOpen (starts ++ start ∷ []) (parts ++ part ∷ [])
open_push _ _ start part no_open last = last
open_push _ _ start part (more_open first old starts parts at left read looked others) last = more_open first old (starts ++ start ∷ []) (parts ++ part ∷ []) at left read looked (open_push starts parts start part others last)

pub none_open : AreOpen [] []
none_open = no_open

pub one_open : (start : Option (List ℕ)) (part : Unread) → part.at ≡ at_first → Keeps start part.left → IsRead start part → IsLooked part → AreOpen (start ∷ []) (part ∷ [])
one_open start part at left read looked = more_open start part [] [] at left read looked no_open

-- ---- the last page

none_added : (known : Option (List ℕ)) → append_known known [] ≡ known
none_added None = refl
none_added (Some bytes) = ap Some (append-nil bytes)

-- what was written by the page begins with an empty one, and the last goes on
pub merge_passed : (starts : List (Option (List ℕ))) (before after last : Option (List ℕ)) (page : List ℕ) → page ≡ [] → WritesMerge starts (append_known before page) after
    → Appends after last [] → WritesMerge starts before last
merge_passed starts before after last page none was passed = record {
  texts = was.texts;
  are = was.are;
  merged = was.merged;
  merge = was.merge;
  written = subst (λ (t : List ℕ). Appends before last t) (append-nil was.merged)
      (Appends-trans before after last was.merged [] (subst (λ (known : Option (List ℕ)). Appends known after was.merged) (ap (append_known before) none ∙ none_added before) was.written) passed);
}
