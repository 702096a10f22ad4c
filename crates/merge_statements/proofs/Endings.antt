-- Texts are passed over to their ends.
use Rattle.std.proofs.Common.{get_or, set, take, ◌≡◌, ◌∙◌, ◌<◌, ◌+◌, ◌+ℤ◌, ◌++◌, ◌∷◌, ℕ, ℤ, pos, List, [], Option, All, length, map, ap, sym, refl, subst, arith, codes}
use Rattle.std.specs.Io.KnownBytes.{Appends, Consumes}
use Rattle.std.proofs.KnownBytes.{Appends-nil, Appends-trans, Consumes-trans}
use Rattle.std.proofs.lemmas.List.{append-nil, length-append}
use Rattle.std.proofs.lemmas.List.Elements.{All-append, All-nil}
use Rattle.std.proofs.lemmas.List.Sums.{sum_by-append}
use Rattle.std.proofs.lemmas.Grind.{flat_map-append}
use Rattle.csv_table.specs.Written.{text_of, text_of_row}
use Rattle.line_split.proofs.IntSums.{int_sum_by-append}
use Rattle.merge_statements.specs.SoFar.{Ending, EndsEach, EndsOne, EndsText, HoldsOfFirst, ReadsOn, TakesEach, Unread, WritesEnding, WritesRests, lines_of, rests_of}
use Rattle.merge_statements.specs.SoFar.TakesEach.{none as none_of}
use Rattle.merge_statements.specs.Places.{At}
use Rattle.merge_statements.specs.Statements.{IsCount, IsRest, Rest, rest_row, rests_rows, total_of_rests, total_row}
use Rattle.merge_statements.proofs.Taking.{holds_of_more, takes_push}
use Rattle.merge_statements.proofs.Passing.{elements_more, text_more}

pub ending_written : (old between new : Unread) (before after : Option (List ℕ)) (count : ℕ) (total : ℤ) (lines : ℕ) → WritesRests old between before after count total
    → ReadsOn old between → EndsText between new lines → ReadsOn between new → WritesEnding old new before after count total lines
ending_written old between new before after count total lines was first end last_read = record {
  ending = ending;
  ends = record {
    sound = was.sound;
    few = end.few;
    few_rests = subst IsCount (ap (λ (at : At). at.portions) was.at) was.few;
    consumed = subst (λ (t : List ℕ). Consumes old.left new.left t) text
        (Consumes-trans old.left between.left new.left (text_of (rests_rows was.rests)) (text_of_row last) was.consumed
        (subst (λ (all : ℤ). Consumes between.left new.left (text_of_row (total_row (codes "R") [] lines all))) (ap (λ (at : At). at.total) was.at) end.consumed));
    place = end.place;
    portions = end.portions ∙ ap (λ (at : At). at.portions) was.at;
    reads = λ start read. last_read start (first start read);
    ended = end.ended;
  };
  counted = was.counted;
  sum = was.sum;
  all_lines = refl;
  written = was.written;
}
  where
    ending : Ending
    ending = record { rests = was.rests; lines = lines }

    last : List (List ℕ)
    last = total_row (codes "R") [] lines (old.at.total +ℤ total_of_rests was.rests)

    text : text_of (rests_rows was.rests) ++ text_of_row last ≡ text_of (rests_rows was.rests ++ last ∷ [])
    text = text_more (rests_rows was.rests) last

pub no_ends : (before : Option (List ℕ)) → EndsEach [] [] before before 0 (pos 0) 0
no_ends before = record {
  endings = [];
  taken = none_of;
  sound = All-nil IsRest;
  counted = refl;
  sum = refl;
  few = omega arith;
  all_lines = refl;
  few_lines = omega arith;
  written = Appends-nil before;
}

rests_more : (endings : List Ending) (ending : Ending) → rests_of (endings ++ ending ∷ []) ≡ rests_of endings ++ ending.rests
rests_more endings ending =
    flat_map-append (λ (e : Ending). e.rests) endings (ending ∷ []) ∙ ap (λ (l : List Rest). rests_of endings ++ l) (append-nil ending.rests)

lines_more : (endings : List Ending) (ending : Ending) → lines_of (endings ++ ending ∷ []) ≡ lines_of endings + ending.lines
lines_more endings ending = sum_by-append (λ (e : Ending). e.lines) endings (ending ∷ []) ∙ omega arith

pub ends_more : (old new : Unread) (olds news : List Unread) (before middle after : Option (List ℕ)) (so_far own count : ℕ) (rest sum total : ℤ) (lines more all : ℕ)
    → EndsEach olds news before middle so_far rest lines → WritesEnding old new middle after own sum more
    → count ≡ so_far + own → total ≡ rest +ℤ sum → IsCount count → all ≡ lines + more → IsCount all
    → EndsEach (olds ++ old ∷ []) (news ++ new ∷ []) before after count total all
ends_more old new olds news before middle after so_far own count rest sum total lines more all was one counted comes few lined few_lines =
    let joined = rests_more was.endings one.ending in
    record {
      endings = was.endings ++ one.ending ∷ [];
      taken = takes_push EndsOne olds news old new was.endings (one.ending ∷ []) was.taken (one.ending, refl, one.ends);
      sound = subst (All IsRest) (sym joined) (All-append IsRest (rests_of was.endings) one.ending.rests was.sound one.ends.sound);
      counted = omega (arith, counted, was.counted, one.counted, ap length joined, length-append (rests_of was.endings) one.ending.rests);
      sum = comes ∙ ((λ i. was.sum i +ℤ one.sum i) ∙ (sym (int_sum_by-append (λ (r : Rest). r.amount) (rests_of was.endings) one.ending.rests) ∙ ap total_of_rests (sym joined)));
      few = few;
      all_lines = omega (arith, lined, was.all_lines, one.all_lines, lines_more was.endings one.ending);
      few_lines = few_lines;
      written = subst (λ (t : List ℕ). Appends before after t) (elements_more rest_row (rests_of was.endings) one.ending.rests ∙ ap (λ (l : List Rest). text_of (map rest_row l)) (sym joined))
          (Appends-trans before middle after (text_of (map rest_row (rests_of was.endings))) (text_of (map rest_row one.ending.rests)) was.written one.written);
    }

-- texts up to a place have ended, of which the last is the one in that place
pub record HaveEnded (olds : List Unread) (place rests lines : ℕ) : Type 0 where
  pub news : List Unread
  pub endings : List Ending
  pub taken : TakesEach EndsOne (take (place + 1) olds) news endings
  pub counted : length (rests_of endings) ≡ rests
  pub all_lines : lines_of endings ≡ lines

pub ends_push : (olds news : List Unread) (old new : Unread) (before middle after : Option (List ℕ)) (so_far own : ℕ) (rest sum : ℤ) (lines more place : ℕ) → place < length news
    → old ≡ get_or news place old
    → HoldsOfFirst (λ olds news. EndsEach olds news before middle so_far rest lines) olds news place → WritesEnding old new middle after own sum more
    → HaveEnded olds place (so_far + own) (lines + more)
ends_push olds news old new before middle after so_far own rest sum lines more place low is was one = record {
  news = take (place + 1) (set news place new);
  endings = first.so_far.0;
  taken = first.so_far.1;
  counted = first.so_far.2;
  all_lines = first.so_far.3;
}
  where
    Both : List Unread → List Unread → Type 0
    Both olds news = (endings : List Ending) × TakesEach EndsOne olds news endings × (length (rests_of endings) ≡ so_far + own) × (lines_of endings ≡ lines + more)

    first : HoldsOfFirst Both olds (set news place new) (place + 1)
    first = holds_of_more (λ olds news. EndsEach olds news before middle so_far rest lines) Both olds news old new place low is was (λ was. (
      was.endings ++ one.ending ∷ [],
      takes_push EndsOne (take place olds) (take place news) old new was.endings (one.ending ∷ []) was.taken (one.ending, refl, one.ends),
      omega (arith, was.counted, one.counted, ap length (rests_more was.endings one.ending), length-append (rests_of was.endings) one.ending.rests),
      omega (arith, was.all_lines, one.all_lines, lines_more was.endings one.ending),
    ))
