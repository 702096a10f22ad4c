-- The words of a command line without the first of them.
use Rattle.std.proofs.Common.{◌≡◌, ◌∙◌, ℕ, ◌-◌, List, [], ◌∷◌, length, map, take, drop, ap, refl, arith}
use Rattle.std.proofs.lemmas.List.{take_all, length-drop}
use Rattle.pair_split.specs.Pair.{word_at}

module _ {X : Type 0} where
  -- as the slice `words[1..]` gives them
  abbrev pub others : List X → List X
  others words = take (length words - 1) (drop 1 words)

  are_others : (words : List X) → others words ≡ drop 1 words
  are_others words = take_all (length words - 1) (drop 1 words) (omega (arith, length-drop 1 words))

  module _ (f : X → List ℕ) where
    -- what is left after one of the others
    pub one_on : (words : List X) → drop 1 (map f (others words)) ≡ drop 2 (map f words)
    one_on words = ap (λ left. drop 1 (map f left)) (are_others words) ∙ one words where
      one : (words : List X) → drop 1 (map f (drop 1 words)) ≡ drop 2 (map f words)
      one [] = refl
      one (first ∷ rest) = refl

    -- what is left after two of the others
    pub two_on : (words : List X) → drop 2 (map f (others words)) ≡ drop 3 (map f words)
    two_on words = ap (λ left. drop 2 (map f left)) (are_others words) ∙ two words where
      two : (words : List X) → drop 2 (map f (drop 1 words)) ≡ drop 3 (map f words)
      two [] = refl
      two (first ∷ rest) = refl

    -- the second of the others is the third word
    pub third : (words : List X) → word_at (map f (others words)) 1 ≡ word_at (map f words) 2
    third words = ap (λ left. word_at (map f left) 1) (are_others words) ∙ at words where
      at : (words : List X) → word_at (map f (drop 1 words)) 1 ≡ word_at (map f words) 2
      at [] = refl
      at (first ∷ rest) = refl

    -- the others are the words after the first
    pub mapped_others : (words : List X) → map f (others words) ≡ drop 1 (map f words)
    mapped_others words = ap (map f) (are_others words) ∙ after words where
      after : (words : List X) → map f (drop 1 words) ≡ drop 1 (map f words)
      after [] = refl
      after (first ∷ rest) = refl
