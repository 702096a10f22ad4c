-- Texts that begin with more portions, or are of more usage lines, than are counted.
use Rattle.std.proofs.Common.{◌≡◌, ◌≤◌, ◌<◌, ◌+◌, ◌^◌, ◌++◌, ◌∷◌, ℕ, zero, suc, ℤ, unsigned_abs, List, [], Option, Some, None, length, get_or, take, ap, sym, refl, subst, arith}
use Rattle.std.specs.Prelude.{IfSome}
use Rattle.std.proofs.lemmas.List.Sums.{sum_by-cons}
use Rattle.merge_statements.specs.Places.{at_first}
use Rattle.merge_statements.specs.Refused.{BeginsWithPortions, HaveTogether, HaveTooManyLines, HaveTooManyPortions, IsStatementText}
use Rattle.merge_statements.specs.Refused.AreRows.{none as no_rows}
use Rattle.merge_statements.specs.SoFar.{AreMergedSoFar, AreRead, Ending, EndsEach, EndsOne, TakesEach, Unread, WritesAll, WritesEnding, WritesOne, lines_of, portions_read, rests_of}
use Rattle.merge_statements.specs.SoFar.AreRead.{none as none_were, more as more_were}
use Rattle.merge_statements.specs.SoFar.TakesEach.{none as none_of, more as more_of}
use Rattle.merge_statements.proofs.Counting.{AreCounted, each_counts, each_read}
use Rattle.merge_statements.proofs.ReadThrough.{all_read, begun}
use Rattle.merge_statements.proofs.Whole.{portions_small, rests_small, statements_small}

-- ---- portions of texts that were read

none_begun : (start : Option (List ℕ)) → IfSome start (λ text. BeginsWithPortions text 0)
none_begun None = tt
none_begun (Some text) = record { rows = []; at = at_first; rest = text; are = no_rows at_first; bytes = refl; counted = refl }

all_unbegun : (starts : List (Option (List ℕ))) → HaveTogether BeginsWithPortions starts 0
all_unbegun [] = refl
all_unbegun (start ∷ starts) = (0, 0, none_begun start, all_unbegun starts, refl)

-- the portions of the first texts are portions of all
portions_of_first : (starts : List (Option (List ℕ))) (n count : ℕ) → HaveTogether BeginsWithPortions (take n starts) count → HaveTogether BeginsWithPortions starts count
portions_of_first [] zero count have = have
portions_of_first [] (suc n) count have = have
portions_of_first (start ∷ starts) zero count have = subst (HaveTogether BeginsWithPortions (start ∷ starts)) (sym have) (all_unbegun (start ∷ starts))
portions_of_first (start ∷ starts) (suc n) count (own, others, begins, have, sum) = (own, others, begins, portions_of_first starts n others have, sum)

-- where the bytes of a text are not known, nothing is claimed of how many portions all have
pub unknown_one : (starts : List (Option (List ℕ))) (place : ℕ) → place < length starts → IfSome (get_or starts place None) (λ text. ⊥) → HaveTooManyPortions starts
unknown_one [] place low none = absurd (omega (arith, low))
unknown_one (None ∷ starts) zero low none = (10 ^ 18 + 1, (10 ^ 18 + 1, 0, tt, all_unbegun starts, omega arith), omega arith)
unknown_one (Some text ∷ starts) zero low none = absurd none
unknown_one (start ∷ starts) (suc place) low none =
    let rest : HaveTooManyPortions starts = unknown_one starts place (omega (arith, low)) none in
    (rest.0, (0, rest.0, none_begun start, rest.1, omega arith), rest.2)

have_read : (starts : List (Option (List ℕ))) (parts : List Unread) → AreRead starts parts → HaveTogether BeginsWithPortions starts (portions_read parts)
have_read _ _ none_were = refl
have_read _ _ (more_were start part starts parts read others) =
    (part.at.portions, portions_read parts, begun start part.left part.at part.number read, have_read starts parts others, sum_by-cons (λ (p : Unread). p.at.portions) part parts)

pub many_read : (starts : List (Option (List ℕ))) (parts : List Unread) → AreRead starts parts → 10 ^ 18 < portions_read parts → HaveTooManyPortions starts
many_read starts parts are many = (portions_read parts, have_read starts parts are, many)

-- ---- portions that are passed over

take_read : (n : ℕ) (starts : List (Option (List ℕ))) (parts : List Unread) → AreRead starts parts → AreRead (take n starts) (take n parts)
take_read zero _ _ none_were = none_were
take_read zero _ _ (more_were start part starts parts read others) = none_were
take_read (suc n) _ _ none_were = none_were
take_read (suc n) _ _ (more_were start part starts parts read others) = more_were start part (take n starts) (take n parts) read (take_read n starts parts others)

module _ {X : Type 0} (One : Unread → Unread → List X → Type 0) (count : List X → ℕ) (are : AreCounted One count) where
  -- more than are counted are passed over in all texts
  pub too_many_passed : (starts : List (Option (List ℕ))) (olds news : List Unread) (xs : List X) → AreRead starts olds → TakesEach One olds news xs → 10 ^ 18 < portions_read olds + count xs
      → HaveTooManyPortions starts
  too_many_passed starts olds news xs read each many = many_read starts news (each_read One count are starts olds news xs read each) (omega (arith, each_counts One count are olds news xs each, many))

  -- or in the first of them
  pub too_many_of_first : (starts : List (Option (List ℕ))) (olds news : List Unread) (xs : List X) (n : ℕ) → AreRead starts olds → TakesEach One (take n olds) news xs → 10 ^ 18 < count xs
      → HaveTooManyPortions starts
  too_many_of_first starts olds news xs n read each many =
      let first : HaveTooManyPortions (take n starts) = too_many_passed (take n starts) (take n olds) news xs (take_read n starts olds read) each (omega (arith, many)) in
      (first.0, portions_of_first starts n first.0 first.1, first.2)

-- ---- usage lines

read_length : (starts : List (Option (List ℕ))) (parts : List Unread) → AreRead starts parts → length starts ≡ length parts
read_length _ _ none_were = refl
read_length _ _ (more_were start part starts parts read others) = omega (arith, read_length starts parts others)

ended_texts : (starts : List (Option (List ℕ))) (olds news : List Unread) (endings : List Ending) → AreRead starts olds → TakesEach EndsOne olds news endings
    → HaveTogether IsStatementText starts (lines_of endings)
ended_texts _ _ _ _ none_were none_of = refl
ended_texts _ _ _ _ (more_were start part starts parts read others) (more_of old new olds news own rest (ending, is, ends) each) =
    subst (λ (l : List Ending). HaveTogether IsStatementText (start ∷ starts) (lines_of (l ++ rest))) (sym is) (
      ending.lines,
      lines_of rest,
      all_read start new.left new.at new.number ending.lines (ends.reads start read) ends.ended ends.place,
      ended_texts starts parts news rest others each,
      sum_by-cons (λ (e : Ending). e.lines) ending rest,
    )

pub too_many_lines : (starts : List (Option (List ℕ))) (olds news : List Unread) (endings : List Ending) (n : ℕ) → n ≤ length olds → AreRead starts olds → TakesEach EndsOne (take n olds) news endings
    → 10 ^ 18 < lines_of endings → HaveTooManyLines starts
too_many_lines starts olds news endings n inside read each many = record {
  count = n;
  inside = omega (arith, inside, read_length starts olds read);
  lines = lines_of endings;
  sound = ended_texts (take n starts) (take n olds) news endings (take_read n starts olds read) each;
  many = many;
}

-- ---- sums that are no larger than their portions allow

pub sum_of_all_small : (payee : List ℕ) (olds news : List Unread) (before after : Option (List ℕ)) (count : ℕ) (total : ℤ) → WritesAll payee olds news before after count total
    → unsigned_abs total ≤ 10 ^ 30
sum_of_all_small payee olds news before after count total was = omega (arith, portions_small was.portions was.sound, ap unsigned_abs was.sum, was.counted, was.few)

pub sum_of_one_small : (payee : List ℕ) (old new : Unread) (before after : Option (List ℕ)) (count : ℕ) (total : ℤ) → WritesOne payee old new before after count total → unsigned_abs total ≤ 10 ^ 30
sum_of_one_small payee old new before after count total was = omega (arith, portions_small was.portions was.sound, ap unsigned_abs was.sum, was.counted, was.few)

pub sum_so_far_small : (starts : List (Option (List ℕ))) (parts : List Unread) (before after : Option (List ℕ)) (count : ℕ) (total : ℤ) → AreMergedSoFar starts parts before after count total
    → unsigned_abs total ≤ 10 ^ 30
sum_so_far_small starts parts before after count total was = omega (arith, statements_small was.whole was.sound, ap unsigned_abs was.sum, was.counted, was.few)

pub sum_of_ends_small : (olds news : List Unread) (before after : Option (List ℕ)) (count : ℕ) (total : ℤ) (lines : ℕ) → EndsEach olds news before after count total lines
    → unsigned_abs total ≤ 10 ^ 30
sum_of_ends_small olds news before after count total lines was = omega (arith, rests_small (rests_of was.endings) was.sound, ap unsigned_abs was.sum, was.counted, was.few)

pub sum_of_ending_small : (old new : Unread) (before after : Option (List ℕ)) (count : ℕ) (total : ℤ) (lines : ℕ) → WritesEnding old new before after count total lines → unsigned_abs total ≤ 10 ^ 30
sum_of_ending_small old new before after count total lines was = omega (arith, rests_small was.ending.rests was.ends.sound, ap unsigned_abs was.sum, was.ends.few_rests)
