-- Texts in byte order, and the parties and payees that are gathered of share lines.
use Rattle.std.proofs.Common.{◌≡◌, ◌<◌, ◌≤◌, ◌+◌, ◌⊎◌, ℕ, suc, zero, true, List, [], ◌∷◌, ◌++◌, is_some, length, map, take, drop, All, Contains, slice_index_or, ap, sym, refl, subst, ◌∙◌, inl, inr, arith, position, Some}
use Rattle.std.specs.declared.cmp.Ordering.{Ordering}
use Rattle.std.specs.declared.cmp.Ordering.TheVariants.{Less, Equal, Greater}
use Rattle.std.specs.Ordering.{nat_cmp, match_ordering}
use Rattle.std.specs.Prelude.{nat_eq, if◌then◌else◌, Bool, false, ◌↔◌}
use Rattle.std.specs.Map.{lookup}
use Rattle.std.specs.Cmp.Lexicographic.{pointwise, slice_cmp}
use Rattle.std.proofs.lemmas.Slice.Eq.{bytes_eq-Decides}
use Rattle.arrayvec.specs.ArrayVec.{ArrayVec}
use Rattle.indexmap.specs.IndexMap.{insert_entry}
use Rattle.indexmap.specs.IndexSet.{insert_key as insert_number}
use Rattle.std.specs.List.{AllByRecursion, list_any}
use Rattle.std.specs.List.Sorted.{IsPermutation, IsStrictlySortedBy}
use Rattle.std.specs.BTreeSet.{insert_key}
use Rattle.std.proofs.lemmas.Bool.{cases_Bool, false≢true, or_cases, or_parts}
use Rattle.std.proofs.lemmas.List.Elements.{All-cons, All-contains, All-map, All-push, All-tail, All-weaker, Contains-append_left, Contains-get_or, Contains-push, Contains-push_cases}
use Rattle.std.proofs.lemmas.List.{get_or-map, length-map, map-append, map_more, map_push, take-append-drop, take_all}
use Rattle.std.proofs.lemmas.List.Quantifiers.{position-Some}
use Rattle.std.proofs.lemmas.List.Sorted.{Contains-permutation, IsPermutation-map, IsPermutation-sym}
use Rattle.std.proofs.lemmas.Option.{none-some}
use Rattle.std.proofs.lemmas.Map.Lookups.{exact_bytes}
use Rattle.cwr_share.specs.Compiled.{Numbered, accounts_of, names_of}
use Rattle.cwr_share.specs.Parties.{AreAllOf, AreFilled, AreFound, HasAdded, HasMany, IsAmong, party_of, payee_by, texts_in}
use Rattle.cwr_share.specs.Payees.{payee_of}
use Rattle.cwr_share.specs.declared.TheConstants.{MOST_ACCOUNTS}
use Rattle.cwr_share.specs.declared.cwr_fault.CwrFault.{CwrFault}
use Rattle.cwr_share.specs.declared.cwr_fault.CwrFault.TheVariants.{Accounts, Memory}
use Rattle.cwr_share.specs.Registered.{IsShareLine}
use Rattle.cwr_share.specs.Registrations.{ShareLine}

module _ {X : Type 0} where
  pub contains_later : (x : X) (xs : List X) (y : X) → Contains xs y → Contains (x ∷ xs) y
  contains_later x xs y (k, within, is) = (suc k, omega (arith, within), is)

  pub contains_cases : (x : X) (xs : List X) (y : X) → Contains (x ∷ xs) y → (x ≡ y) ⊎ Contains xs y
  contains_cases x xs y (zero, within, is) = inl is
  contains_cases x xs y (suc k, within, is) = inr (k, omega (arith, within), is)

-- a text put at its place among texts in order
abbrev with_text : List (List ℕ) → List ℕ → List (List ℕ)
with_text texts text = insert_key (slice_cmp nat_cmp) texts text

from_with_text : (texts : List (List ℕ)) (text other : List ℕ) → Contains (with_text texts text) other → Contains texts other ⊎ (text ≡ other)
from_with_text [] text other inside = inr (only (contains_cases text [] other inside))
  where
    only : (text ≡ other) ⊎ Contains [] other → text ≡ other
    only (inl is) = is
    only (inr (k, within, is)) = absurd (omega (arith, within))
from_with_text (first ∷ texts) text other inside = go (from_with_text texts text other) (slice_cmp nat_cmp text first) inside
  where
    go : (Contains (with_text texts text) other → Contains texts other ⊎ (text ≡ other)) → (order : Ordering)
        → Contains (match_ordering order (text ∷ first ∷ texts) (first ∷ texts) (first ∷ with_text texts text)) other
        → Contains (first ∷ texts) other ⊎ (text ≡ other)
    go rest Less inside = before (contains_cases text (first ∷ texts) other inside)
      where
        before : (text ≡ other) ⊎ Contains (first ∷ texts) other → Contains (first ∷ texts) other ⊎ (text ≡ other)
        before (inl is) = inr is
        before (inr later) = inl later
    go rest Equal inside = inl inside
    go rest Greater inside = after (contains_cases first (with_text texts text) other inside)
      where
        deeper : Contains texts other ⊎ (text ≡ other) → Contains (first ∷ texts) other ⊎ (text ≡ other)
        deeper (inl later) = inl (contains_later first texts other later)
        deeper (inr is) = inr is

        after : (first ≡ other) ⊎ Contains (with_text texts text) other → Contains (first ∷ texts) other ⊎ (text ≡ other)
        after (inl is) = inl (0, omega arith, is)
        after (inr later) = deeper (rest later)

into_with_text : (texts : List (List ℕ)) (text other : List ℕ) → Contains texts other ⊎ (text ≡ other) → Contains (with_text texts text) other
into_with_text [] text other (inl (k, within, is)) = absurd (omega (arith, within))
into_with_text [] text other (inr is) = (0, omega arith, is)
into_with_text (first ∷ texts) text other inside = go (into_with_text texts text other) (slice_cmp nat_cmp text first) refl inside
  where
    go : (Contains texts other ⊎ (text ≡ other) → Contains (with_text texts text) other) → (order : Ordering) → slice_cmp nat_cmp text first ≡ order
        → Contains (first ∷ texts) other ⊎ (text ≡ other)
        → Contains (match_ordering order (text ∷ first ∷ texts) (first ∷ texts) (first ∷ with_text texts text)) other
    go rest Less ordered (inl there) = contains_later text (first ∷ texts) other there
    go rest Less ordered (inr is) = (0, omega arith, is)
    go rest Equal ordered (inl there) = there
    go rest Equal ordered (inr is) = (0, omega arith, sym (exact_bytes text first ordered) ∙ is)
    go rest Greater ordered (inl there) = deeper (contains_cases first texts other there)
      where
        deeper : (first ≡ other) ⊎ Contains texts other → Contains (first ∷ with_text texts text) other
        deeper (inl is) = (0, omega arith, is)
        deeper (inr later) = contains_later first (with_text texts text) other (rest (inl later))
    go rest Greater ordered (inr is) = contains_later first (with_text texts text) other (rest (inr is))

module _ {K : Type 0} (text_of : K → List ℕ) where
  abbrev by_text : K → K → Ordering
  by_text key other = slice_cmp nat_cmp (text_of key) (text_of other)

  -- the texts of keys with one key put at its place
  texts-insert_key : (keys : List K) (key : K) → map text_of (insert_key by_text keys key) ≡ with_text (map text_of keys) (text_of key)
  texts-insert_key [] key = refl
  texts-insert_key (first ∷ keys) key = go (texts-insert_key keys key) (by_text key first)
    where
      go : map text_of (insert_key by_text keys key) ≡ with_text (map text_of keys) (text_of key) → (order : Ordering)
          → map text_of (match_ordering order (key ∷ first ∷ keys) (first ∷ keys) (first ∷ insert_key by_text keys key))
          ≡ match_ordering order (text_of key ∷ text_of first ∷ map text_of keys) (text_of first ∷ map text_of keys) (text_of first ∷ with_text (map text_of keys) (text_of key))
      go rest Less = refl
      go rest Equal = refl
      go rest Greater = ap (λ texts. text_of first ∷ texts) rest

  -- the payees of numbers that were seen are found still, and so is that of the key
  pub seen_more : (rows : List (List ℕ × List ℕ)) (eq : ArrayVec ℕ → ArrayVec ℕ → Bool) (keys : List K) (key : K) (numbers : List (ArrayVec ℕ)) (number : ArrayVec ℕ) → text_of key ≡ payee_of rows number.items
      → AreFound rows (map text_of keys) numbers → AreFound rows (map text_of (insert_key by_text keys key)) (insert_number eq numbers number)
  seen_more rows eq keys key numbers number same found = by (list_any (eq number) numbers)
    where
      there : (text : List ℕ) → Contains (map text_of keys) text ⊎ (text_of key ≡ text) → Contains (map text_of (insert_key by_text keys key)) text
      there text either = subst (λ (texts : List (List ℕ)). Contains texts text) (sym (texts-insert_key keys key)) (into_with_text (map text_of keys) (text_of key) text either)

      earlier : AreFound rows (map text_of (insert_key by_text keys key)) numbers
      earlier = λ k d within. there (payee_of rows (slice_index_or numbers k d).items) (inl (found k d within))

      by : (known : Bool) → AreFound rows (map text_of (insert_key by_text keys key)) (if known then numbers else numbers ++ number ∷ [])
      by true = earlier
      by false = All-push (λ other. Contains (map text_of (insert_key by_text keys key)) (payee_of rows other.items)) numbers number earlier (there (payee_of rows number.items) (inr same))

  below_all : (key : K) (keys : List K) → AllByRecursion (λ other. by_text key other ≡ Less) keys → AllByRecursion (λ other. slice_cmp nat_cmp (text_of key) other ≡ Less) (map text_of keys)
  below_all key [] below = tt
  below_all key (first ∷ keys) below = (below.0, below_all key keys below.1)

  -- keys in the order of their texts have texts in order
  pub rising_texts : (keys : List K) → IsStrictlySortedBy by_text keys → IsStrictlySortedBy (slice_cmp nat_cmp) (map text_of keys)
  unfolding IsStrictlySortedBy
  rising_texts [] rising = tt
  rising_texts (key ∷ keys) rising = (below_all key keys rising.0, rising_texts keys rising.1)

  -- what holds of the texts, and of that of the key, holds of them together
  pub each_more : (P : List ℕ → Type 0) (keys : List K) (key : K) → All P (map text_of keys) → P (text_of key) → All P (map text_of (insert_key by_text keys key))
  each_more P keys key all holds =
      rw (texts-insert_key keys key)
      (λ k d within. by (slice_index_or (with_text (map text_of keys) (text_of key)) k d)
      (from_with_text (map text_of keys) (text_of key) (slice_index_or (with_text (map text_of keys) (text_of key)) k d) (Contains-get_or (with_text (map text_of keys) (text_of key)) k d within)))
    where
      by : (other : List ℕ) → Contains (map text_of keys) other ⊎ (text_of key ≡ other) → P other
      by other (inl there) = All-contains P (map text_of keys) other all there
      by other (inr is) = subst P is holds

  -- one more text is added, by its key or because it is there
  pub added_key : (before added : List (List ℕ)) (keys : List K) (key : K) → HasAdded before added (map text_of keys)
      → HasAdded before (added ++ text_of key ∷ []) (map text_of (insert_key by_text keys key))
  added_key before added keys key has = record {
    exact = λ text. (
      λ inside. there text (from_with_text (map text_of keys) (text_of key) text (subst (λ (texts : List (List ℕ)). Contains texts text) (texts-insert_key keys key) inside)),
      λ either. subst (λ (texts : List (List ℕ)). Contains texts text) (sym (texts-insert_key keys key)) (into_with_text (map text_of keys) (text_of key) text (back text either)),
    );
  }
    where
      on : (text : List ℕ) → Contains before text ⊎ Contains added text → Contains before text ⊎ Contains (added ++ text_of key ∷ []) text
      on text (inl old) = inl old
      on text (inr new) = inr (Contains-append_left added (text_of key ∷ []) text new)

      there : (text : List ℕ) → Contains (map text_of keys) text ⊎ (text_of key ≡ text) → Contains before text ⊎ Contains (added ++ text_of key ∷ []) text
      there text (inl inside) = on text ((has.exact text).0 inside)
      there text (inr is) = inr (subst (λ (text : List ℕ). Contains (added ++ text_of key ∷ []) text) is (Contains-push added (text_of key)))

      last : (text : List ℕ) → Contains added text ⊎ (text_of key ≡ text) → Contains (map text_of keys) text ⊎ (text_of key ≡ text)
      last text (inl new) = inl ((has.exact text).1 (inr new))
      last text (inr is) = inr is

      back : (text : List ℕ) → Contains before text ⊎ Contains (added ++ text_of key ∷ []) text → Contains (map text_of keys) text ⊎ (text_of key ≡ text)
      back text (inl old) = inl ((has.exact text).1 (inl old))
      back text (inr new) = last text (Contains-push_cases added (text_of key) text new)

-- a text that is there already is added
pub added_again : (before added texts : List (List ℕ)) (text : List ℕ) → HasAdded before added texts → Contains texts text → HasAdded before (added ++ text ∷ []) texts
added_again before added texts text has inside = record {
  exact = λ other. (λ there. on other ((has.exact other).0 there), λ either. back other either);
}
  where
    on : (other : List ℕ) → Contains before other ⊎ Contains added other → Contains before other ⊎ Contains (added ++ text ∷ []) other
    on other (inl old) = inl old
    on other (inr new) = inr (Contains-append_left added (text ∷ []) other new)

    last : (other : List ℕ) → Contains added other ⊎ (text ≡ other) → Contains texts other
    last other (inl new) = (has.exact other).1 (inr new)
    last other (inr is) = subst (λ (text : List ℕ). Contains texts text) is inside

    back : (other : List ℕ) → Contains before other ⊎ Contains (added ++ text ∷ []) other → Contains texts other
    back other (inl old) = (has.exact other).1 (inl old)
    back other (inr new) = last other (Contains-push_cases added text other new)

-- and one that is put behind the others
pub added_push : (before added texts : List (List ℕ)) (text : List ℕ) → HasAdded before added texts → HasAdded before (added ++ text ∷ []) (texts ++ text ∷ [])
added_push before added texts text has = record { exact = λ other. (λ inside. on other (Contains-push_cases texts text other inside), λ either. back other either) }
  where
    old : (other : List ℕ) → Contains before other ⊎ Contains added other → Contains before other ⊎ Contains (added ++ text ∷ []) other
    old other (inl earlier) = inl earlier
    old other (inr new) = inr (Contains-append_left added (text ∷ []) other new)

    on : (other : List ℕ) → Contains texts other ⊎ (text ≡ other) → Contains before other ⊎ Contains (added ++ text ∷ []) other
    on other (inl there) = old other ((has.exact other).0 there)
    on other (inr is) = inr (subst (Contains (added ++ text ∷ [])) is (Contains-push added text))

    last : (other : List ℕ) → Contains added other ⊎ (text ≡ other) → Contains (texts ++ text ∷ []) other
    last other (inl new) = Contains-append_left texts (text ∷ []) other ((has.exact other).1 (inr new))
    last other (inr is) = subst (Contains (texts ++ text ∷ [])) is (Contains-push texts text)

    back : (other : List ℕ) → Contains before other ⊎ Contains (added ++ text ∷ []) other → Contains (texts ++ text ∷ []) other
    back other (inl earlier) = Contains-append_left texts (text ∷ []) other ((has.exact other).1 (inl earlier))
    back other (inr new) = last other (Contains-push_cases added text other new)

-- a number that was seen: it is there, and its payee is found
module _ (rows : List (List ℕ × List ℕ)) (texts : List (List ℕ)) (text : List ℕ) where
  pub seen_payee : (numbers : List (ArrayVec ℕ)) → AreFound rows texts numbers → list_any (λ number. pointwise nat_eq text number.items) numbers ≡ true → Contains texts (payee_of rows text)
  seen_payee [] found seen = absurd (false≢true seen)
  seen_payee (number ∷ numbers) found seen = go (seen_payee numbers) (or_cases (pointwise nat_eq text number.items) (list_any (λ other. pointwise nat_eq text other.items) numbers) seen)
    where
      go : (AreFound rows texts numbers → list_any (λ other. pointwise nat_eq text other.items) numbers ≡ true → Contains texts (payee_of rows text))
          → (pointwise nat_eq text number.items ≡ true) ⊎ (list_any (λ other. pointwise nat_eq text other.items) numbers ≡ true) → Contains texts (payee_of rows text)
      go rest (inl same) = subst (λ (t : List ℕ). Contains texts (payee_of rows t)) (sym ((bytes_eq-Decides text number.items).0 same)) (found 0 number (omega arith))
      go rest (inr later) = rest (All-tail (λ other. Contains texts (payee_of rows other.items)) number numbers found) later

pub seen_number : (text : List ℕ) (numbers : List (ArrayVec ℕ)) → list_any (λ number. pointwise nat_eq text number.items) numbers ≡ true → Contains (texts_in numbers) text
seen_number text [] seen = absurd (false≢true seen)
seen_number text (number ∷ numbers) seen = go (seen_number text numbers) (or_cases (pointwise nat_eq text number.items) (list_any (λ other. pointwise nat_eq text other.items) numbers) seen)
  where
    go : (list_any (λ other. pointwise nat_eq text other.items) numbers ≡ true → Contains (texts_in numbers) text)
        → (pointwise nat_eq text number.items ≡ true) ⊎ (list_any (λ other. pointwise nat_eq text other.items) numbers ≡ true) → Contains (texts_in (number ∷ numbers)) text
    go rest (inl same) = (0, omega arith, sym ((bytes_eq-Decides text number.items).0 same))
    go rest (inr later) = contains_later number.items (texts_in numbers) text (rest later)

-- a number that was not seen comes last
pub number_added : (before added : List (List ℕ)) (numbers : List (ArrayVec ℕ)) (number : ArrayVec ℕ) → list_any (λ other. pointwise nat_eq number.items other.items) numbers ≡ false
    → HasAdded before added (texts_in numbers) → HasAdded before (added ++ number.items ∷ []) (texts_in (insert_number (λ number other. pointwise nat_eq number.items other.items) numbers number))
number_added before added numbers number new has =
    rw new
    (subst (HasAdded before (added ++ number.items ∷ [])) (sym (map_push (λ (number : ArrayVec ℕ). number.items) numbers number)) (added_push before added (texts_in numbers) number.items has))

-- what is found among some texts is found among more
pub found_further : (rows : List (List ℕ × List ℕ)) (first : List ℕ) (texts : List (List ℕ)) (numbers : List (ArrayVec ℕ)) → AreFound rows texts numbers → AreFound rows (first ∷ texts) numbers
found_further rows first texts numbers found k d within = contains_later first texts (payee_of rows (slice_index_or numbers k d).items) (found k d within)

-- what is added by one share line after another
module _ (text_by : ShareLine → List ℕ) where
  abbrev pub texts_by : List ShareLine → List (List ℕ)
  texts_by shares = map text_by shares

  module _ (before : List (List ℕ)) (shares : List ShareLine) (place : ℕ) (share : ShareLine) (within : place < length shares) (is : share ≡ slice_index_or shares place share) where
    more : texts_by (take (place + 1) shares) ≡ texts_by (take place shares) ++ text_by share ∷ []
    more = map_more text_by shares place share within ∙ ap (λ share. texts_by (take place shares) ++ text_by share ∷ []) (sym is)

    -- the next share line's text, whichever way it comes there
    pub next_added : (texts : List (List ℕ)) (text : List ℕ) → text ≡ text_by share → HasAdded before (texts_by (take place shares) ++ text ∷ []) texts → HasAdded before (texts_by (take (place + 1) shares)) texts
    next_added texts text same has = rw (more, ← same) has

  contains_part : (place : ℕ) (shares : List ShareLine) (text : List ℕ) → Contains (texts_by (take place shares)) text → Contains (texts_by shares) text
  contains_part place shares text inside =
      let whole = sym (map-append text_by (take place shares) (drop place shares)) ∙ ap texts_by (take-append-drop place shares) in
      subst (λ (texts : List (List ℕ)). Contains texts text) whole (Contains-append_left (texts_by (take place shares)) (texts_by (drop place shares)) text inside)

  -- after the last
  pub all_added : (before texts : List (List ℕ)) (shares : List ShareLine) (place : ℕ) → HasAdded before (texts_by (take place shares)) texts → length shares ≤ place → HasAdded before (texts_by shares) texts
  all_added before texts shares place has past = rw (take_all place shares past) at has

  -- what was added so far was there before or is of the share lines
  pub each_added : (before texts : List (List ℕ)) (shares : List ShareLine) (place : ℕ) → HasAdded before (texts_by (take place shares)) texts
      → All (λ text. Contains before text ⊎ Contains (texts_by shares) text) texts
  each_added before texts shares place has k d within = on (slice_index_or texts k d) ((has.exact (slice_index_or texts k d)).0 (Contains-get_or texts k d within))
    where
      on : (text : List ℕ) → Contains before text ⊎ Contains (texts_by (take place shares)) text → Contains before text ⊎ Contains (texts_by shares) text
      on text (inl old) = inl old
      on text (inr new) = inr (contains_part place shares text new)

-- before the first
pub none_added : (texts : List (List ℕ)) → HasAdded texts [] texts
none_added texts = record { exact = λ text. (λ inside. inl inside, back text) }
  where
    back : (text : List ℕ) → Contains texts text ⊎ Contains [] text → Contains texts text
    back text (inl inside) = inside
    back text (inr (place, within, is)) = absurd (omega (arith, within))

-- the empty text comes before all others
pub rising_from_empty : (texts : List (List ℕ)) → IsStrictlySortedBy (slice_cmp nat_cmp) texts → All (λ text. 0 < length text) texts → IsStrictlySortedBy (slice_cmp nat_cmp) ([] ∷ texts)
unfolding IsStrictlySortedBy
rising_from_empty texts rising filled = (before_all texts filled, rising)
  where
    before_one : (text : List ℕ) → 0 < length text → slice_cmp nat_cmp [] text ≡ Less
    before_one [] some = absurd (omega (arith, some))
    before_one (byte ∷ rest) some = refl

    before_all : (texts : List (List ℕ)) → All (λ text. 0 < length text) texts → AllByRecursion (λ text. slice_cmp nat_cmp [] text ≡ Less) texts
    before_all [] filled = tt
    before_all (text ∷ texts) filled = (before_one text (filled 0 [] (omega arith)), before_all texts (λ k d within. filled (suc k) d (omega (arith, within))))

-- what the lists have, one list after another
module _ (text_by : ShareLine → List ℕ) where
  module _ (lists : List (List ShareLine)) (texts : List (List ℕ)) (are : AreAllOf text_by lists texts) where
    -- the texts of one list more
    pub among_more : (lines : List ShareLine) (texts' : List (List ℕ)) → HasAdded texts (map text_by lines) texts' → AreAllOf text_by (lists ++ lines ∷ []) texts'
    among_more lines texts' has = record { exact = λ text. (λ inside. there text ((has.exact text).0 inside), λ among. (has.exact text).1 (back text among)) }
      where
        there : (text : List ℕ) → Contains texts text ⊎ Contains (map text_by lines) text → IsAmong text_by (lists ++ lines ∷ []) text
        there text (inl old) = on ((are.exact text).0 old)
          where
            on : IsAmong text_by lists text → IsAmong text_by (lists ++ lines ∷ []) text
            on (other, inside, at) = (other, Contains-append_left lists (lines ∷ []) other inside, at)
        there text (inr new) = (lines, Contains-push lists lines, new)

        which : (text : List ℕ) (other : List ShareLine) → Contains (map text_by other) text → Contains lists other ⊎ (lines ≡ other) → Contains texts text ⊎ Contains (map text_by lines) text
        which text other at (inl inside) = inl ((are.exact text).1 (other, inside, at))
        which text other at (inr is) = inr (subst (λ (lines : List ShareLine). Contains (map text_by lines) text) (sym is) at)

        back : (text : List ℕ) → IsAmong text_by (lists ++ lines ∷ []) text → Contains texts text ⊎ Contains (map text_by lines) text
        back text (other, inside, at) = which text other at (Contains-push_cases lists lines other inside)

  pub none_among : AreAllOf text_by [] []
  none_among = record { exact = λ text. (λ inside. absurd (omega (arith, inside.1)), λ among. absurd (omega (arith, among.1.1))) }

  module _ {X : Type 0} (shows : X → List ShareLine) (xs : List X) (place : ℕ) (x : X) (within : place < length xs) (is : x ≡ slice_index_or xs place x) (texts texts' : List (List ℕ)) where
    next : map shows (take (place + 1) xs) ≡ map shows (take place xs) ++ shows x ∷ []
    next = map_more shows xs place x within ∙ ap (λ x. map shows (take place xs) ++ shows x ∷ []) (sym is)

    -- the next registration's
    pub among_next : AreAllOf text_by (map shows (take place xs)) texts → HasAdded texts (map text_by (shows x)) texts' → AreAllOf text_by (map shows (take (place + 1) xs)) texts'
    among_next are has = rw next (among_more (map shows (take place xs)) texts are (shows x) texts' has)

    -- what is gathered up to a part of the next one
    pub among_all : AreAllOf text_by (map shows (take place xs)) texts → All (λ text. Contains texts text ⊎ Contains (map text_by (shows x)) text) texts' → All (IsAmong text_by (map shows xs)) texts'
    among_all are each k d inside = of_either (slice_index_or texts' k d) (each k d inside)
      where
        part : (lines : List ShareLine) → Contains (map shows (take place xs)) lines → Contains (map shows xs) lines
        part lines inside =
            subst (λ (lists : List (List ShareLine)). Contains lists lines) (sym (map-append shows (take place xs) (drop place xs)) ∙ ap (map shows) (take-append-drop place xs))
            (Contains-append_left (map shows (take place xs)) (map shows (drop place xs)) lines inside)

        here : Contains (map shows xs) (shows x)
        here = (place, omega (arith, length-map xs shows), get_or-map shows xs place x (shows x) within ∙ ap shows (sym is))

        of_list : (text : List ℕ) → IsAmong text_by (map shows (take place xs)) text → IsAmong text_by (map shows xs) text
        of_list text (lines, inside, at) = (lines, part lines inside, at)

        of_either : (text : List ℕ) → Contains texts text ⊎ Contains (map text_by (shows x)) text → IsAmong text_by (map shows xs) text
        of_either text (inl old) = of_list text ((are.exact text).0 old)
        of_either text (inr new) = (shows x, here, new)

  -- after the last registration
  pub among_end : {X : Type 0} (shows : X → List ShareLine) (xs : List X) (place : ℕ) (texts : List (List ℕ)) → length xs ≤ place → AreAllOf text_by (map shows (take place xs)) texts → AreAllOf text_by (map shows xs) texts
  among_end shows xs place texts past are = rw (take_all place xs past) at are

-- no party is empty
pub parties_filled : (lists : List (List ShareLine)) (texts : List (List ℕ)) → AreAllOf party_of lists texts → All (λ lines. All IsShareLine lines) lists → AreFilled texts
parties_filled lists texts are sound k d within = of_list (slice_index_or texts k d) ((are.exact (slice_index_or texts k d)).0 (Contains-get_or texts k d within))
  where
    of_list : (party : List ℕ) → IsAmong party_of lists party → 0 < length party
    of_list party (lines, inside, at) =
        All-contains (λ (party : List ℕ). 0 < length party) (map party_of lines) party
        (All-map (λ (party : List ℕ). 0 < length party) (λ (line : ShareLine). line.party) lines
        (All-weaker IsShareLine (λ line. 0 < length line.party) (λ line sound. sound.party) lines (All-contains (All IsShareLine) lists lines sound inside)))
        at

-- what an added registration is refused for, its lists are refused for
pub many_among : (rows : List (List ℕ × List ℕ)) (lists : List (List ShareLine)) (texts before lines : List (List ℕ)) (fault : CwrFault)
    → (All (λ text. Contains before text ⊎ Contains lines text) texts → All (IsAmong (payee_by rows) lists) texts)
    → (fault ≡ Memory) ⊎ ((fault ≡ Accounts) × (MOST_ACCOUNTS < length (texts)) × IsStrictlySortedBy (slice_cmp nat_cmp) texts × All (λ text. Contains before text ⊎ Contains lines text) texts)
    → (fault ≡ Memory) ⊎ ((fault ≡ Accounts) × HasMany rows lists)
many_among rows lists texts before lines fault among (inl memory) = inl memory
many_among rows lists texts before lines fault among (inr (accounts, many, rising, each)) = inr (accounts, (texts, rising, among each, many))

-- Parties with their accounts, as they are numbered.
abbrev same_number : ArrayVec ℕ → ArrayVec ℕ → Bool
same_number number other = pointwise nat_eq number.items other.items

module _ (text : List ℕ) where
  abbrev pub is_named : ArrayVec ℕ → Bool
  is_named number = pointwise nat_eq text number.items

  -- a number that is found has the text
  pub name_found : (entries : List Numbered) (place : ℕ) → position is_named (map (λ (entry : Numbered). entry.0) entries) ≡ Some place
      → (place < length entries) × (slice_index_or (names_of entries) place [] ≡ text)
  name_found [] place found = absurd (none-some place found)
  name_found (first ∷ entries) place found =
      let numbers = map (λ (entry : Numbered). entry.0) (first ∷ entries) in
      let (within, same, none) = position-Some is_named numbers place first.0 found in
      let inside : place < length (first ∷ entries) = omega (arith, within, length-map (first ∷ entries) (λ (entry : Numbered). entry.0)) in
      let entry : slice_index_or numbers place first.0 ≡ (slice_index_or (first ∷ entries) place first).0 = get_or-map (λ (entry : Numbered). entry.0) (first ∷ entries) place first first.0 inside in (
        inside,
        get_or-map (λ (entry : Numbered). entry.0.items) (first ∷ entries) place first [] inside
            ∙ (ap (λ (number : ArrayVec ℕ). number.items) (sym entry) ∙ sym ((bytes_eq-Decides text (slice_index_or numbers place first.0).items).0 same)),
      )

  -- where none is found, no number has the text
  pub name_missing : (entries : List Numbered) → is_some (lookup is_named entries) ≡ false → ¬ Contains (names_of entries) text
  name_missing [] none there = absurd (omega (arith, there.1))
  name_missing (first ∷ entries) none there = elim (cases_Bool (is_named first.0)) [
    | inl its ↦ false≢true (sym (rw its at none))
    | inr other ↦ elim (contains_cases first.0.items (names_of entries) text there) [
      | inl same ↦ false≢true (sym other ∙ (bytes_eq-Decides text first.0.items).1 (sym same))
      | inr later ↦ name_missing entries (rw other at none) later
    ]
  ]

  -- where an account is found, it stands beside a number that has the text
  pub account_found : (entries : List Numbered) (account : ℕ) → lookup is_named entries ≡ Some account
      → (place : ℕ) × (place < length entries) × (slice_index_or (names_of entries) place [] ≡ text) × (slice_index_or (accounts_of entries) place 0 ≡ account)
  account_found [] account found = absurd (none-some account found)
  account_found (first ∷ entries) account found = on (is_named first.0) refl (account_found entries account)
    where
      on : (told : Bool) → is_named first.0 ≡ told
          → (lookup is_named entries ≡ Some account → (place : ℕ) × (place < length entries) × (slice_index_or (names_of entries) place [] ≡ text) × (slice_index_or (accounts_of entries) place 0 ≡ account))
          → (place : ℕ) × (place < length (first ∷ entries)) × (slice_index_or (names_of (first ∷ entries)) place [] ≡ text) × (slice_index_or (accounts_of (first ∷ entries)) place 0 ≡ account)
      on true its later =
          let same : Some first.1 ≡ Some account = rw its at found in
          (0, omega arith, sym ((bytes_eq-Decides text first.0.items).0 its), cc)
      on false other later = let (place, inside, name, at) = later (rw other at found) in (suc place, omega (arith, inside), name, at)

-- one more party with its account
module _ (number : ArrayVec ℕ) (account : ℕ) where
  -- its text is the last one, or was there
  names_with : (before added : List (List ℕ)) (entries : List Numbered) → HasAdded before added (names_of entries)
      → HasAdded before (added ++ number.items ∷ []) (names_of (insert_entry same_number entries number account))
  names_with before added entries has = on (list_any (λ (entry : Numbered). same_number number entry.0) entries) refl
    where
      grown : (entries : List Numbered) → list_any (λ (entry : Numbered). same_number number entry.0) entries ≡ false → names_of (insert_entry same_number entries number account) ≡ names_of entries ++ number.items ∷ []
      grown [] none = refl
      grown (first ∷ entries) none = let (other, later) = or_parts (same_number number first.0) (list_any (λ (entry : Numbered). same_number number entry.0) entries) none in
          rw other (ap (λ (names : List (List ℕ)). first.0.items ∷ names) (grown entries later))

      kept : (entries : List Numbered) → list_any (λ (entry : Numbered). same_number number entry.0) entries ≡ true
          → (names_of (insert_entry same_number entries number account) ≡ names_of entries) × Contains (names_of entries) number.items
      kept [] some = absurd (false≢true some)
      kept (first ∷ entries) some = go (kept entries) (is_here (same_number number first.0))
        where
          is_here : (told : Bool) → (told ≡ true) ⊎ (told ≡ false)
          is_here true = inl refl
          is_here false = inr refl

          go : (list_any (λ (entry : Numbered). same_number number entry.0) entries ≡ true → (names_of (insert_entry same_number entries number account) ≡ names_of entries) × Contains (names_of entries) number.items)
              → (same_number number first.0 ≡ true) ⊎ (same_number number first.0 ≡ false)
              → (names_of (insert_entry same_number (first ∷ entries) number account) ≡ names_of (first ∷ entries)) × Contains (names_of (first ∷ entries)) number.items
          go rest (inl its) = (rw its refl, (0, omega arith, sym ((bytes_eq-Decides number.items first.0.items).0 its)))
          go rest (inr other) =
              let (same, there) = rest (rw other at some) in
              (rw other (ap (λ (names : List (List ℕ)). first.0.items ∷ names) same), contains_later first.0.items (names_of entries) number.items there)

      on : (told : Bool) → list_any (λ (entry : Numbered). same_number number entry.0) entries ≡ told → HasAdded before (added ++ number.items ∷ []) (names_of (insert_entry same_number entries number account))
      on false none = rw (grown entries none) (added_push before added (names_of entries) number.items has)
      on true some = let (same, there) = kept entries some in rw same (added_again before added (names_of entries) number.items has there)

  -- what holds of all of them, by their texts and accounts, holds still
  pub each_with : (P : List ℕ → ℕ → Type 0) (entries : List Numbered) → All (λ entry. P entry.0.items entry.1) entries → P number.items account
      → All (λ entry. P entry.0.items entry.1) (insert_entry same_number entries number account)
  each_with P [] all holds = All-push (λ (entry : Numbered). P entry.0.items entry.1) [] (number, account) all holds
  each_with P (first ∷ entries) all holds = elim (cases_Bool (same_number number first.0)) [
    | inl its ↦ rw its (All-cons (λ (entry : Numbered). P entry.0.items entry.1) (first.0, account) entries
        (subst (λ (text : List ℕ). P text account) ((bytes_eq-Decides number.items first.0.items).0 its) holds) (All-tail (λ (entry : Numbered). P entry.0.items entry.1) first entries all))
    | inr other ↦ rw other (All-cons (λ (entry : Numbered). P entry.0.items entry.1) first (insert_entry same_number entries number account) (all 0 first (omega arith))
        (each_with P entries (All-tail (λ (entry : Numbered). P entry.0.items entry.1) first entries all) holds))
  ]

  -- the next number, with its account
  pub names_next : (numbers : List (ArrayVec ℕ)) (place : ℕ) (next : ArrayVec ℕ) (entries : List Numbered) → place < length numbers → next ≡ slice_index_or numbers place next → number.items ≡ next.items
      → HasAdded [] (texts_in (take place numbers)) (names_of entries) → HasAdded [] (texts_in (take (place + 1) numbers)) (names_of (insert_entry same_number entries number account))
  names_next numbers place next entries within is same has =
      let more : texts_in (take (place + 1) numbers) ≡ texts_in (take place numbers) ++ number.items ∷ [] =
      map_more (λ (number : ArrayVec ℕ). number.items) numbers place next within
      ∙ ap (λ (text : List ℕ). texts_in (take place numbers) ++ text ∷ []) (ap (λ (number : ArrayVec ℕ). number.items) (sym is) ∙ sym same) in
      rw more (names_with [] (texts_in (take place numbers)) entries has)

-- all of them, in any order
pub names_all : (numbers : List (ArrayVec ℕ)) (place : ℕ) (entries sorted : List Numbered) → length numbers ≤ place → HasAdded [] (texts_in (take place numbers)) (names_of entries)
    → IsPermutation entries sorted → (text : List ℕ) → Contains (names_of sorted) text ↔ Contains (texts_in numbers) text
names_all numbers place entries sorted past has same text =
    let all : HasAdded [] (texts_in numbers) (names_of entries) = rw (take_all place numbers past) at has in
    let names = IsPermutation-map (λ (entry : Numbered). entry.0.items) entries sorted same in (
      λ there. only ((all.exact text).0 (Contains-permutation (names_of sorted) (names_of entries) text (IsPermutation-sym (names_of entries) (names_of sorted) names) there)),
      λ there. Contains-permutation (names_of entries) (names_of sorted) text names ((all.exact text).1 (inr there)),
    )
  where
    only : Contains [] text ⊎ Contains (texts_in numbers) text → Contains (texts_in numbers) text
    only (inl none) = absurd (omega (arith, none.1))
    only (inr there) = there
