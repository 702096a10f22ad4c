-- Portions that are passed over are counted.
use Rattle.std.proofs.Common.{◌≡◌, ◌∙◌, ◌+◌, ◌++◌, ℕ, List, [], Option, length, ap, sym, refl, subst, arith}
use Rattle.std.proofs.lemmas.List.{length-append}
use Rattle.std.proofs.lemmas.List.Sums.{sum_by-cons}
use Rattle.std.proofs.lemmas.Grind.{flat_map-append}
use Rattle.merge_statements.specs.Places.{At}
use Rattle.merge_statements.specs.SoFar.{AreRead, Ending, EndsOne, IsRead, ReadsOn, TakesEach, TakesOne, Unread, portions_read, rests_of}
use Rattle.merge_statements.specs.SoFar.AreRead.{none as none_were, more as more_were}
use Rattle.merge_statements.specs.SoFar.TakesEach.{none as none_of, more as more_of}
use Rattle.merge_statements.specs.SoFar.TakesOne.{taken as taken_of, left as left_of}
use Rattle.merge_statements.specs.Statements.{Portion}

-- what is passed over of one text is read, and so many portions of it
pub record AreCounted {X : Type 0} (One : Unread → Unread → List X → Type 0) (count : List X → ℕ) : Type 0 where
  pub reads : (old new : Unread) (xs : List X) → One old new xs → ReadsOn old new
  pub counts : (old new : Unread) (xs : List X) → One old new xs → new.at.portions ≡ old.at.portions + count xs
  pub none : count [] ≡ 0
  pub joined : (xs ys : List X) → count (xs ++ ys) ≡ count xs + count ys

pub portions_counted : (payee : List ℕ) → AreCounted (TakesOne payee) length
portions_counted payee = record {
  reads = reads;
  counts = counts;
  none = refl;
  joined = λ xs ys. length-append xs ys;
}
  where
    reads : (old new : Unread) (xs : List Portion) → TakesOne payee old new xs → ReadsOn old new
    reads old new _ (taken_of statement passes same) = passes.reads
    reads old new _ (left_of other same) = λ start read. subst (IsRead start) (sym same) read

    counts : (old new : Unread) (xs : List Portion) → TakesOne payee old new xs → new.at.portions ≡ old.at.portions + length xs
    counts old new _ (taken_of statement passes same) = ap (λ (at : At). at.portions) passes.at
    counts old new _ (left_of other same) = ap (λ (part : Unread). part.at.portions) same ∙ omega arith

abbrev pub count_of_rests : List Ending → ℕ
count_of_rests endings = length (rests_of endings)

pub endings_counted : AreCounted EndsOne count_of_rests
endings_counted = record {
  reads = λ old new endings (ending, is, ends). ends.reads;
  counts = λ old new endings (ending, is, ends). omega (arith, ends.portions, ap count_of_rests is, length-append ending.rests []);
  none = refl;
  joined = λ xs ys. ap length (flat_map-append (λ (e : Ending). e.rests) xs ys) ∙ length-append (rests_of xs) (rests_of ys);
}

module _ {X : Type 0} (One : Unread → Unread → List X → Type 0) (count : List X → ℕ) (are : AreCounted One count) where
  pub each_read : (starts : List (Option (List ℕ))) (olds news : List Unread) (xs : List X) → AreRead starts olds → TakesEach One olds news xs → AreRead starts news
  each_read _ _ _ _ none_were none_of = none_were
  each_read _ _ _ _ (more_were start part starts parts read others) (more_of old new olds news own rest takes each) =
      more_were start new starts news (are.reads part new own takes start read) (each_read starts parts news rest others each)

  pub each_counts : (olds news : List Unread) (xs : List X) → TakesEach One olds news xs → portions_read news ≡ portions_read olds + count xs
  each_counts _ _ _ none_of = omega (arith, are.none)
  each_counts _ _ _ (more_of old new olds news own others takes each) = omega (
    arith,
    each_counts olds news others each,
    are.counts old new own takes,
    are.joined own others,
    sum_by-cons (λ (p : Unread). p.at.portions) new news,
    sum_by-cons (λ (p : Unread). p.at.portions) old olds,
  )
