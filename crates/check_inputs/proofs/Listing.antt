-- What a run passes over, as a remark.
use Rattle.std.proofs.Common.{◌≡◌, ◌∙◌, ◌++◌, ◌∷◌, [], ℕ, Bool, true, false, List, ap, append_assoc, append-nil, arith, codes, cond, decimal, filter, length, map, refl, sym, take}
use Rattle.std.specs.List.{join_by}
use Rattle.std.proofs.lemmas.List.{length-map, take-map}
use Rattle.std.proofs.lemmas.List.Folds.{flat_map-map}
use Rattle.check_inputs.specs.Messages.{remark_line}
use Rattle.check_inputs.specs.Items.{items_line, others_text}

-- such a remark behind a text, put together from its parts
in_parts : (text path what kind count named others one two three four five six seven eight nine ten : List ℕ)
    → one ≡ text ++ (path ++ codes ": ") → two ≡ one ++ codes "remark: " → three ≡ two ++ what → four ≡ three ++ codes ": " → five ≡ four ++ count → six ≡ five ++ codes ", "
    → seven ≡ six ++ kind → eight ≡ seven ++ named → nine ≡ eight ++ others → ten ≡ nine ++ codes "\n"
    → ten ≡ text ++ remark_line path (what ++ codes ": " ++ (count ++ codes ", " ++ kind ++ named ++ others))
in_parts text path what kind count named others one two three four five six seven eight nine ten a b c d e f g h i j = rw (j, i, h, g, f, e, d, c, b, a) (simp (append_assoc) refl)

-- a remark on a number of a trailer behind a text, put together from its parts
pub difference_in_parts : (text path line trailer says part found one two three four five six seven eight nine : List ℕ)
    → one ≡ text ++ (path ++ codes ": ") → two ≡ one ++ codes "remark: line " → three ≡ two ++ line → four ≡ three ++ codes ": " → five ≡ four ++ trailer → six ≡ five ++ says
    → seven ≡ six ++ part → eight ≡ seven ++ found → nine ≡ eight ++ codes "\n"
    → nine ≡ text ++ remark_line path (codes "line " ++ line ++ codes ": " ++ trailer ++ says ++ part ++ found)
difference_in_parts text path line trailer says part found one two three four five six seven eight nine a b c d e f g h i =
    rw (i, h, g, f, e, d, c, b, a) (simp (append_assoc) refl)

module _ {X : Type 0} (words : X → List ℕ) (path what kind : List ℕ) where
  -- where there are none, there is no remark
  pub items_none : (text : List ℕ) (items : List X) → length items ≡ 0 → text ≡ text ++ items_line words path what kind items
  items_none text [] none = sym (append-nil text)
  items_none text (first ∷ later) none = absurd (omega (arith, none))

  -- one on some has their count and the first ten of them
  items_some : (items first : List X) (count : ℕ) → count ≡ length items → first ≡ take 10 items → ¬ (count ≡ 0)
      → remark_line path (what ++ codes ": " ++ (decimal count ++ codes ", " ++ kind ++ join_by words (codes ", ") first ++ others_text count)) ≡ items_line words path what kind items
  items_some [] first count counted are some = absurd (some counted)
  items_some (_ ∷ _) first count counted are some = rw (counted, are) refl

  pub items_in_parts : (text : List ℕ) (items first : List X) (count : ℕ) (one two three four five six seven eight nine ten : List ℕ)
      → count ≡ length items → first ≡ take 10 items → ¬ (count ≡ 0)
      → one ≡ text ++ (path ++ codes ": ") → two ≡ one ++ codes "remark: " → three ≡ two ++ what → four ≡ three ++ codes ": " → five ≡ four ++ decimal count → six ≡ five ++ codes ", "
      → seven ≡ six ++ kind → eight ≡ seven ++ join_by words (codes ", ") first → nine ≡ eight ++ others_text count → ten ≡ nine ++ codes "\n"
      → ten ≡ text ++ items_line words path what kind items
  items_in_parts text items first count one two three four five six seven eight nine ten counted are some a b c d e f g h i j =
      in_parts text path what kind (decimal count) (join_by words (codes ", ") first) (others_text count) one two three four five six seven eight nine ten a b c d e f g h i j
      ∙ ap (λ (l : List ℕ). text ++ l) (items_some items first count counted are some)

-- Items that are told by what stands for each.
module _ {X Y : Type 0} (words : Y → List ℕ) (stands : X → Y) where
  join_map : (sep : List ℕ) (xs : List X) → join_by (λ x. words (stands x)) sep xs ≡ join_by words sep (map stands xs)
  join_map sep [] = refl
  join_map sep (x ∷ xs) = ap (λ (l : List ℕ). words (stands x) ++ l) (sym (flat_map-map (λ y. sep ++ words y) stands xs))

  pub items_map : (path what kind : List ℕ) (items : List X) → items_line (λ x. words (stands x)) path what kind items ≡ items_line words path what kind (map stands items)
  items_map path what kind [] = refl
  items_map path what kind (x ∷ later) = λ i. told (counted i) (named i)
    where
      told : ℕ → List ℕ → List ℕ
      told count named = remark_line path (what ++ codes ": " ++ (decimal count ++ codes ", " ++ kind ++ named ++ others_text count))

      counted : length (x ∷ later) ≡ length (map stands (x ∷ later))
      counted = sym (length-map (x ∷ later) stands)

      named : join_by (λ x. words (stands x)) (codes ", ") (take 10 (x ∷ later)) ≡ join_by words (codes ", ") (take 10 (map stands (x ∷ later)))
      named = join_map (codes ", ") (take 10 (x ∷ later)) ∙ ap (join_by words (codes ", ")) (sym (take-map stands 10 (x ∷ later)))

-- what stands for those that pass a test passes it too
pub filter_map_is : {X Y : Type 0} (test : Y → Bool) (stands : X → Y) (xs : List X) → map stands (filter (λ x. test (stands x)) xs) ≡ filter test (map stands xs)
filter_map_is test stands [] = refl
filter_map_is {X} {Y} test stands (x ∷ xs) = by (test (stands x)) (filter_map_is test stands xs)
  where
    its : List X
    its = filter (λ x. test (stands x)) xs

    by : (b : Bool) → map stands its ≡ filter test (map stands xs) → map stands (cond b (x ∷ its) its) ≡ cond b (stands x ∷ filter test (map stands xs)) (filter test (map stands xs))
    by true later = ap (λ (l : List Y). stands x ∷ l) later
    by false later = later
