-- How the groups of a row are read word by word.
use Rattle.std.proofs.Common.{◌≡◌, ◌≤◌, ◌<◌, ◌+◌, ◌==◌, ◌||◌, ◌↔◌, ◌⊎◌, ℕ, true, false, List, [], ◌∷◌, ◌++◌, length, map, All, Contains, slice_index_or, ap, sym, refl, subst, ◌∙◌, append_assoc, inl, inr, arith}
use Rattle.std.proofs.lemmas.Bool.{false≢true}
use Rattle.std.proofs.lemmas.Bool.Decides.{Decides-eqb}
use Rattle.std.proofs.lemmas.List.{append-nil, get_or-map, map-append}
use Rattle.std.proofs.lemmas.List.Elements.{All-contains, All-nil, All-push, Contains-append_left, Contains-append_right, Contains-push, Contains-push_cases}
use Rattle.std.specs.List.{filter}
use Rattle.std.specs.Prelude.{not}
use Rattle.csv_table.specs.Forms.{IsCode, number_of}
use Rattle.csv_table.proofs.PieceLemmas.{no_pieces}
use Rattle.tis_tree.specs.Compiled.{IsAbove, has_bit}
use Rattle.tis_tree.specs.Territories.{Encloses, IsKnown, row_at}
use Rattle.tis_tree.specs.TisRows.{IsGroup, words_of}
use Rattle.tis_tree.specs.declared.TheConstants.{MOST_ROWS}
use Rattle.tis_tree.proofs.Compiling.{either_true, or_true}

-- the words that were read so far are these groups, and the set has what contains them
pub record Named (table : List (ℕ × List ℕ)) (text rest old set groups : List ℕ) (number : ℕ) : Type 0 where
  pub words : List (List ℕ)
  pub split : words_of text ≡ words ++ words_of rest
  pub known : All (IsGroup table) words
  pub same : groups ≡ map number_of words
  pub bits : (place : ℕ) → place < MOST_ROWS → (has_bit set place ≡ true) ↔ ((has_bit old place ≡ true) ⊎ IsAbove table groups place)
  pub count : number + length rest ≤ length text

-- before the first word there is no group
pub named_start : (table : List (ℕ × List ℕ)) (text old : List ℕ) → Named table text text old old [] 0
named_start table text old = record {
  words = [];
  split = refl;
  known = All-nil (IsGroup table);
  same = refl;
  bits = λ place few. (λ bit. inl bit, back place);
  count = omega arith;
}
  where
    back : (place : ℕ) → (has_bit old place ≡ true) ⊎ IsAbove table [] place → has_bit old place ≡ true
    back place (inl bit) = bit
    back place (inr (group, (k, within, same), there, over)) = absurd (omega (arith, within))

-- a word that is a group adds it, and what contains it
pub named_more : (table : List (ℕ × List ℕ)) (text rest old set groups : List ℕ) (number : ℕ) (word after above set' groups' : List ℕ) (place : ℕ)
    → Named table text rest old set groups number → words_of rest ≡ word ∷ words_of after → length after < length rest
    → IsCode word × (place < length table) × ((row_at table place).0 ≡ number_of word) → IsKnown table (number_of word)
    → ((other : ℕ) → other < MOST_ROWS → (has_bit above other ≡ true) ↔ ((other < length table) × Encloses table (row_at table other).0 (row_at table place).0))
    → ((other : ℕ) → other < MOST_ROWS → has_bit set' other ≡ (has_bit set other || has_bit above other))
    → groups' ≡ groups ++ number_of word ∷ []
    → Named table text after old set' groups' (number + 1)
named_more table text rest old set groups number word after above set' groups' place named is shorter (code, within, row) known exact more grown = record {
  words = named.words ++ word ∷ [];
  split = named.split ∙ ap (λ (words : List (List ℕ)). named.words ++ words) is ∙ sym (append_assoc named.words (word ∷ []) (words_of after));
  known = All-push (IsGroup table) named.words word named.known (code, known);
  same = grown ∙ ap (λ (groups : List ℕ). groups ++ number_of word ∷ []) named.same ∙ sym (map-append number_of named.words (word ∷ []));
  bits = λ other few. (
    λ bit. on other few (either_true (has_bit set other) (has_bit above other) (sym (more other few) ∙ bit)),
    λ either. more other few ∙ or_true (has_bit set other) (has_bit above other) (back other few either),
  );
  count = omega (arith, named.count, shorter);
}
  where
    old_on : (other : ℕ) → (has_bit old other ≡ true) ⊎ IsAbove table groups other → (has_bit old other ≡ true) ⊎ IsAbove table groups' other
    old_on other (inl bit) = inl bit
    old_on other (inr (group, inside, there, over)) =
        inr (group, subst (λ (groups : List ℕ). Contains groups group) (sym grown) (Contains-append_left groups (number_of word ∷ []) group inside), there, over)

    on : (other : ℕ) → other < MOST_ROWS → (has_bit set other ≡ true) ⊎ (has_bit above other ≡ true) → (has_bit old other ≡ true) ⊎ IsAbove table groups' other
    on other few (inl bit) = old_on other ((named.bits other few).0 bit)
    on other few (inr bit) =
        let (there, over) = (exact other few).0 bit in
        inr (number_of word, subst (λ (groups : List ℕ). Contains groups (number_of word)) (sym grown) (Contains-push groups (number_of word)), there, subst (λ (land : ℕ). Encloses table (row_at table other).0 land) row over)

    which : (other group : ℕ) → other < MOST_ROWS → other < length table → Encloses table (row_at table other).0 group → Contains groups group ⊎ (number_of word ≡ group) → (has_bit set other ≡ true) ⊎ (has_bit above other ≡ true)
    which other group few there over (inl inside) = inl ((named.bits other few).1 (inr (group, inside, there, over)))
    which other group few there over (inr last) = inr ((exact other few).1 (there, subst (λ (land : ℕ). Encloses table (row_at table other).0 land) (sym (row ∙ last)) over))

    back : (other : ℕ) → other < MOST_ROWS → (has_bit old other ≡ true) ⊎ IsAbove table groups' other → (has_bit set other ≡ true) ⊎ (has_bit above other ≡ true)
    back other few (inl bit) = inl ((named.bits other few).1 (inl bit))
    back other few (inr (group, inside, there, over)) =
        which other group few there over (Contains-push_cases groups (number_of word) group (subst (λ (groups : List ℕ). Contains groups group) grown inside))

-- where no word is left, the words are all of the text's
pub named_all : (table : List (ℕ × List ℕ)) (text rest old set groups : List ℕ) (number : ℕ) → Named table text rest old set groups number → words_of rest ≡ []
    → All (IsGroup table) (words_of text) × (groups ≡ map number_of (words_of text))
named_all table text rest old set groups number named none =
    let all = named.split ∙ ap (λ (words : List (List ℕ)). named.words ++ words) none ∙ append-nil named.words in
    (rw all named.known, rw all named.same)

-- the word at hand is no group
pub named_fault : (table : List (ℕ × List ℕ)) (text rest old set groups : List ℕ) (number : ℕ) (word after : List ℕ) → Named table text rest old set groups number → words_of rest ≡ word ∷ words_of after
    → ¬ IsGroup table word → ¬ All (IsGroup table) (words_of text)
named_fault table text rest old set groups number word after named is wrong = λ all.
    wrong (All-contains (IsGroup table) (named.words ++ word ∷ words_of after) word (rw (named.split, is) at all) (Contains-append_right named.words (word ∷ words_of after) word (0, omega arith, refl)))

-- an empty text has no words
pub no_words : (text : List ℕ) → length text ≤ 0 → words_of text ≡ []
no_words [] none = ap (filter (λ (piece : List ℕ). not (length piece == 0))) (no_pieces 32)
no_words (byte ∷ rest) none = absurd (omega arith)

-- a word of no bytes is empty
pub empty_if : (word : List ℕ) → (length word == 0) ≡ true → word ≡ []
empty_if [] none = refl
empty_if (byte ∷ rest) none = absurd (omega (arith, (Decides-eqb (length (byte ∷ rest)) 0).0 none))

-- any other word has a byte
pub some_if : (word : List ℕ) → (length word == 0) ≡ false → 0 < length word
some_if [] some = absurd (false≢true (sym some))
some_if (byte ∷ rest) some = omega arith

-- what was read at a place is what the mapped list has there
pub map_read : {X Y : Type 0} (f : X → Y) (xs : List X) (place : ℕ) (x : X) (d : Y) → place < length xs → x ≡ slice_index_or xs place x → slice_index_or (map f xs) place d ≡ f x
map_read f xs place x d within is = get_or-map f xs place x d within ∙ ap f (sym is)
