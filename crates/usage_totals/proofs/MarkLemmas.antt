-- The rows of lines that are marked.
use Rattle.std.proofs.Common.{◌≡◌, ◌∙◌, ◌+◌, ◌<◌, ◌≤◌, ◌++◌, ◌∷◌, [], ℕ, suc, Bool, true, false, List, None, Option, Some, ap, arith, cond, get_or, length, refl, subst, sym, take}
use Rattle.std.specs.List.{cons_option, enumerate_from, filter_map}
use Rattle.std.proofs.lemmas.List.{get_or_default, length-take-le, take_more}
use Rattle.cwr_share.proofs.PassedOverLemmas.{numbers_few, numbers_no, numbers_yes}
use Rattle.line_split.specs.UsageLine.{UsageLine}
use Rattle.usage_totals.specs.Repeats.{is_repeated, repeated_rows}
use Rattle.usage_totals.specs.RepeatsSoFar.{AreMarks, rows_marked}
use Rattle.usage_totals.specs.SoFar.{some_line}

abbrev is_marked : List Bool → Bool → Bool
is_marked before mark = mark

pub rows_few : (marks : List Bool) → length (rows_marked marks) ≤ length marks
rows_few marks = numbers_few is_marked marks

module _ (marks : List Bool) (place : ℕ) (d : Bool) (below : place < length marks) where
  -- one line more that is marked, and one that is not
  pub rows_yes : get_or marks place d ≡ true → rows_marked (take (place + 1) marks) ≡ rows_marked (take place marks) ++ (place + 1) ∷ []
  rows_yes told =
      ap rows_marked (take_more marks place d below)
      ∙ numbers_yes is_marked (take place marks) (get_or marks place d) told
      ∙ ap (λ (n : ℕ). rows_marked (take place marks) ++ (n + 1) ∷ []) (length-take-le place marks (omega arith))

  pub rows_no : get_or marks place d ≡ false → rows_marked (take (place + 1) marks) ≡ rows_marked (take place marks)
  rows_no told = ap rows_marked (take_more marks place d below) ∙ numbers_no is_marked (take place marks) (get_or marks place d) told

-- functions that agree at each place pick the same of two lists
agree : {X Y : Type 0} (f : ℕ × X → Option ℕ) (g : ℕ × Y → Option ℕ) (n : ℕ) (xs : List X) (ys : List Y) → length xs ≡ length ys
    → ((i : ℕ) (d : X) (e : Y) → i < length xs → f (n + i, get_or xs i d) ≡ g (n + i, get_or ys i e)) → filter_map f (enumerate_from n xs) ≡ filter_map g (enumerate_from n ys)
agree f g n [] [] long same = refl
agree f g n [] (y ∷ ys) long same = absurd (omega (arith, long))
agree f g n (x ∷ xs) [] long same = absurd (omega (arith, long))
agree {X} {Y} f g n (x ∷ xs) (y ∷ ys) long same =
    let none : n + 0 ≡ n = omega arith in
    let first : f (n, x) ≡ g (n, y) = subst (λ (m : ℕ). f (m, x) ≡ g (m, y)) none (same 0 x y (omega arith)) in
    let rest = agree f g (n + 1) xs ys (omega (arith, long)) (λ i d e below.
    let on : n + suc i ≡ n + 1 + i = omega arith in
    subst (λ (m : ℕ). f (m, get_or xs i d) ≡ g (m, get_or ys i e)) on (same (suc i) d e (omega (arith, below)))) in
    λ i. cons_option (first i) (rest i)

pub marked_repeated : (lines : List UsageLine) (marks : List Bool) → AreMarks lines marks → rows_marked marks ≡ repeated_rows lines
marked_repeated lines marks are = agree number other 0 marks lines are.long (λ i d line below.
    let place : 0 + i ≡ i = omega arith in
    let told = are.each i d (omega (arith, below, are.long)) in
    let at = get_or_default lines i some_line line (omega (arith, below, are.long)) in
    (λ k. cond (told k) (Some (0 + i + 1)) None) ∙ (λ k. cond (is_repeated (take (sym place k) lines) (at k)) (Some (0 + i + 1)) None))
  where
    number : ℕ × Bool → Option ℕ
    number e = cond e.1 (Some (e.0 + 1)) None

    other : ℕ × UsageLine → Option ℕ
    other e = cond (is_repeated (take e.0 lines) e.1) (Some (e.0 + 1)) None
