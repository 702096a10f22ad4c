-- Lines that are the same as an earlier one, in the order of a hash of them.
use Rattle.std.proofs.Common.{◌≡◌, ◌∙◌, ◌+◌, ◌-◌, ◌*◌, ◌/◌, ◌^◌, ◌<◌, ◌≤◌, ◌∷◌, [], ⊎_elim, ℕ, Bool, true, false, List, ap, arith, eq-eqb, get_or, length, map, refl, set, slice_index, sym, take}
use Rattle.std.specs.Prelude.{◌&&◌, ◌||◌, nat_eq}
use Rattle.std.specs.Int.{cast_unsigned, to_le_bytes, w16, w64}
use Rattle.std.specs.Cmp.{signed_Decides, unsigned_Decides}
use Rattle.std.specs.Cmp.Lexicographic.{bytes_decides, pointwise}
use Rattle.std.specs.List.{IsDistinct, list_any, range_with_len}
use Rattle.std.specs.List.Sorted.{IsPermutation, IsSorted}
use Rattle.std.specs.Ordering.{int_eq, nat_cmp}
use Rattle.std.proofs.lemmas.Bool.{and_from, and_parts, and_right, cases_eq, cases_lt, cases_order, false≢true, ne_eqb}
use Rattle.std.proofs.lemmas.Cmp.{nat_eq_equiv}
use Rattle.std.proofs.lemmas.List.{get_or-set_other, get_or-set_same, get_or-take, get_or_default, length-take-le, take_all}
use Rattle.std.proofs.lemmas.List.Folds.{list_any_at, list_any_more, list_any_none}
use Rattle.std.proofs.lemmas.List.FromFn.{get_or-map-range_with_len, length-map-range_with_len}
use Rattle.std.proofs.lemmas.List.Sorted.{All-permutation, Contains-permutation, IsNonDecreasingBy-from_sort}
use Rattle.std.proofs.lemmas.Map.Keys.{IsDistinct-IsPermutation, IsDistinct-from_apart, IsStrictlyIncreasing-from_distinct, below_from_sorted, sorted_from_strictly_increasing}
use Rattle.line_split.specs.UsageLine.{UsageLine}
use Rattle.usage_totals.specs.Repeats.{is_same_line, is_same_right}
use Rattle.usage_totals.specs.RepeatsSoFar.{AreInOrderOfHash, hash_of, hashed_at, is_repeated_at, place_in}
use Rattle.usage_totals.specs.SoFar.{hash_by, line_at, some_line}

-- lines that are the same have one hash
pub same_hash : (line other : UsageLine) → is_same_line line other ≡ true → hash_of line ≡ hash_of other
unfolding hash_of
same_hash line other same =
    let texts = pointwise nat_eq line.usage other.usage && pointwise nat_eq line.work other.work in
    let places = texts && nat_eq line.territory other.territory in
    let (first4, amounts) = and_parts (places && is_same_right line.right other.right) (int_eq line.amount other.amount) same in
    let (first3, rights) = and_parts places (is_same_right line.right other.right) first4 in
    let (first2, lands) = and_parts texts (nat_eq line.territory other.territory) first3 in
    let (usages, works) = and_parts (pointwise nat_eq line.usage other.usage) (pointwise nat_eq line.work other.work) first2 in
    let usage : line.usage ≡ other.usage = (bytes_decides line.usage other.usage).0 usages in
    let work : line.work ≡ other.work = (bytes_decides line.work other.work).0 works in
    let land : line.territory ≡ other.territory = (unsigned_Decides line.territory other.territory).0 lands in
    let amount : line.amount ≡ other.amount = (signed_Decides line.amount other.amount).0 amounts in
    λ i. hash_by (usage i ∷ work i ∷ to_le_bytes w16 (land i) ∷ to_le_bytes w64 (cast_unsigned w64 (amount i)) ∷ [])

-- a number of two halves, by these
upper : (hash place : ℕ) → place < 2 ^ 32 → (hash * 2 ^ 32 + place) / 2 ^ 32 ≡ hash
upper hash place small = omega (arith, small)

lower : (hash place : ℕ) → place < 2 ^ 32 → place_in (hash * 2 ^ 32 + place) ≡ place
lower hash place small = omega (arith, small)

-- The places of all lines in their own order become those in the order of their hashes, when they are sorted.
module _ (lines : List UsageLine) (few : length lines < 2 ^ 32) where
  abbrev unsorted : List ℕ
  unsorted = map (hashed_at lines) (range_with_len 0 (length lines))

  long : length unsorted ≡ length lines
  long = length-map-range_with_len (hashed_at lines) 0 (length lines)

  at_place : (k d : ℕ) → k < length lines → get_or unsorted k d ≡ hashed_at lines k
  at_place k d below = get_or-map-range_with_len (hashed_at lines) 0 (length lines) k k d below (omega arith)

  place_at : (k d : ℕ) → k < length unsorted → place_in (get_or unsorted k d) ≡ k
  place_at k d below = ap place_in (at_place k d (omega (arith, below, long))) ∙ lower (hash_of (line_at lines k)) k (omega (arith, below, long, few))

  distinct : IsDistinct nat_eq unsorted
  distinct = IsDistinct-from_apart nat_eq unsorted (λ i j d before below.
      ne_eqb (get_or unsorted i d) (get_or unsorted j d) (λ same.
      absurd (omega (arith, before, sym (place_at i d (omega (arith, before, below))) ∙ ap place_in same ∙ place_at j d below))))

  pub ordered : (sorted : List ℕ) → IsPermutation unsorted sorted → IsSorted nat_cmp sorted → AreInOrderOfHash lines sorted
  ordered sorted moved up = record {
    within = All-permutation (λ hashed. place_in hashed < length lines) unsorted sorted moved (λ k d below. omega (arith, below, long, place_at k d below));
    each = All-permutation (λ hashed. hashed ≡ hashed_at lines (place_in hashed)) unsorted sorted moved (λ k d below.
        at_place k d (omega (arith, below, long)) ∙ ap (hashed_at lines) (sym (place_at k d below)));
    all = λ place below. Contains-permutation unsorted sorted (hashed_at lines place) moved (place, omega (arith, below, long), at_place place (hashed_at lines place) below);
    rise = IsStrictlyIncreasing-from_distinct sorted (IsNonDecreasingBy-from_sort (λ x. x) sorted up)
        (IsDistinct-IsPermutation nat_eq (λ x y. flips x y) unsorted sorted moved distinct);
  }
    where
      flips : (x y : ℕ) → nat_eq x y ≡ nat_eq y x
      flips x y = nat_eq_equiv.symm x y

module _ (lines : List UsageLine) (order : List ℕ) (is : AreInOrderOfHash lines order) (next : ℕ) (below : next < length order) where
  abbrev pub hashed : ℕ → ℕ
  hashed k = slice_index order k

  abbrev pub place : ℕ
  place = place_in (hashed next)

  abbrev pub line : UsageLine
  line = line_at lines place

  rises : (i j : ℕ) → i < j → j < length order → hashed i < hashed j
  rises i j before within = below_from_sorted order i j 0 (sorted_from_strictly_increasing order is.rise) before within

  place_within : place < length lines
  place_within = is.within next 0 below

  -- one before it of its hash stands at an earlier place
  pub has_same : (k : ℕ) → k < next → hashed k / 2 ^ 32 ≡ hashed next / 2 ^ 32 → is_same_line line (line_at lines (place_in (hashed k))) ≡ true → is_repeated_at lines place ≡ true
  has_same k before alike same =
      let less : hashed k < hashed next = rises k next before below in
      let earlier : place_in (hashed k) < place = omega (arith, less, alike) in
      let there : place_in (hashed k) < length (take place lines) = omega (arith, earlier, length-take-le place lines (omega (arith, place_within))) in
      list_any_at (is_same_line line) (take place lines) (place_in (hashed k)) some_line there
      (ap (is_same_line line) (get_or-take place lines (place_in (hashed k)) some_line earlier) ∙ same)

  -- None of those before it of its hash is the same: an earlier line that is the same would stand among them.
  module _ (from : ℕ) (low : from ≤ next) (end : (0 < from) → hashed (from - 1) / 2 ^ 32 ≡ hashed next / 2 ^ 32 → ⊥)
      (none : (k : ℕ) → from ≤ k → k < next → is_same_line line (line_at lines (place_in (hashed k))) ≡ false) where
    differs : (p : ℕ) → p < place → (b : Bool) → is_same_line line (line_at lines p) ≡ b → b ≡ false
    differs p before false told = refl
    differs p before true told =
        let hash : hash_of line ≡ hash_of (line_at lines p) = same_hash line (line_at lines p) told in
        let small : place < 2 ^ 32 = omega arith in
        let here : hashed next ≡ hash_of line * 2 ^ 32 + place = is.each next 0 below in
        let (k, within, at) = is.all p (omega (arith, before, place_within)) in
        let there : hashed k ≡ hash_of line * 2 ^ 32 + p = get_or_default order k 0 (hashed_at lines p) within ∙ at ∙ ap (λ h. h * 2 ^ 32 + p) (sym hash) in
        let stands : place_in (hashed k) ≡ p = ap place_in there ∙ lower (hash_of line) p (omega (arith, before, small)) in
        let upper_k : hashed k / 2 ^ 32 ≡ hash_of line = ap (λ n. n / 2 ^ 32) there ∙ upper (hash_of line) p (omega (arith, before, small)) in
        let upper_next : hashed next / 2 ^ 32 ≡ hash_of line = ap (λ n. n / 2 ^ 32) here ∙ upper (hash_of line) place small in
        let less : hashed k < hashed next = omega (arith, there, here, before) in
        let first : k < next = ⊎_elim
        (λ same. absurd (omega (arith, less, ap hashed same)))
        (λ apart. ⊎_elim (λ lt. lt) (λ gt. absurd (omega (arith, less, rises next k gt within))) apart)
        (cases_order k next) in
        ⊎_elim
        (λ lt.
        let last : hashed (from - 1) < hashed next = rises (from - 1) next (omega (arith, lt, low)) below in
        let not_less : hashed k ≤ hashed (from - 1) = ⊎_elim
        (λ same. omega (arith, ap hashed same))
        (λ apart. ⊎_elim (λ earlier. omega (arith, rises k (from - 1) earlier (omega (arith, lt, low, below)))) (λ later. absurd (omega (arith, lt, later))) apart)
        (cases_order k (from - 1)) in
        absurd (end (omega (arith, lt)) (omega (arith, last, not_less, there, here, small))))
        (λ among. absurd (false≢true (sym (none k among first) ∙ ap (λ n. is_same_line line (line_at lines n)) stands ∙ told)))
        (cases_lt k from)

    pub has_none : is_repeated_at lines place ≡ false
    has_none = list_any_none (is_same_line line) (take place lines) (λ p d within.
        let before : p < place = omega (arith, within, length-take-le place lines (omega (arith, place_within))) in
        let there : get_or (take place lines) p d ≡ line_at lines p = get_or-take place lines p d before ∙ get_or_default lines p d some_line (omega (arith, before, place_within)) in
        ap (is_same_line line) there ∙ differs p before (is_same_line line (line_at lines p)) refl)

-- each place stands somewhere among all
pub all_found : (lines : List UsageLine) (order : List ℕ) → AreInOrderOfHash lines order → length lines < 2 ^ 32 → (place next : ℕ) → place < length lines → length order ≤ next
    → list_any (λ hashed. nat_eq place (place_in hashed)) (take next order) ≡ true
all_found lines order is few place next below done =
    let (k, within, at) = is.all place below in
    let stands : place_in (get_or order k (hashed_at lines place)) ≡ place = ap place_in at ∙ lower (hash_of (line_at lines place)) place (omega (arith, below, few)) in
    ap (list_any (λ hashed. nat_eq place (place_in hashed))) (take_all next order done)
    ∙ list_any_at (λ hashed. nat_eq place (place_in hashed)) order k (hashed_at lines place) within (ap (nat_eq place) stands ∙ eq-eqb place place refl)

-- What the marks of lines say, when the next in the order is looked at.
module _ (lines : List UsageLine) (order : List ℕ) (next : ℕ) (below : next < length order) (marks : List Bool) (place : ℕ) (d : Bool)
    (so_far : get_or marks place d ≡ (list_any (λ hashed. nat_eq place (place_in hashed)) (take next order) && is_repeated_at lines place)) where
  abbrev is_place : ℕ → Bool
  is_place hashed = nat_eq place (place_in hashed)

  abbrev now : ℕ
  now = place_in (slice_index order next)

  abbrev looked_at : Bool
  looked_at = list_any is_place (take next order)

  more : (list_any is_place (take (next + 1) order) && is_repeated_at lines place) ≡ ((looked_at || nat_eq place now) && is_repeated_at lines place)
  more = ap (λ (b : Bool). b && is_repeated_at lines place) (list_any_more is_place order next 0 below)

  other : (place ≡ now → ⊥) → (looked_at && is_repeated_at lines place) ≡ (list_any is_place (take (next + 1) order) && is_repeated_at lines place)
  other apart = sym (more ∙ by looked_at (nat_eq place now) (ne_eqb place now apart))
    where
      by : (a b : Bool) → b ≡ false → ((a || b) && is_repeated_at lines place) ≡ (a && is_repeated_at lines place)
      by true b told = refl
      by false b told = ap (λ (c : Bool). c && is_repeated_at lines place) told

  pub marked : now < length marks → true ≡ is_repeated_at lines now → get_or (set marks now true) place d ≡ (list_any is_place (take (next + 1) order) && is_repeated_at lines place)
  marked within is = ⊎_elim
      (λ same.
      let passes : (looked_at || nat_eq place now) ≡ true = either looked_at (nat_eq place now) (eq-eqb place now same) in
      ap (λ n. get_or (set marks now true) n d) same
      ∙ get_or-set_same marks now true d within
      ∙ sym (more ∙ and_from (looked_at || nat_eq place now) (is_repeated_at lines place) passes (ap (is_repeated_at lines) same ∙ sym is)))
      (λ apart. get_or-set_other marks now place true d apart ∙ so_far ∙ other apart)
      (cases_eq place now)
    where
      either : (a b : Bool) → b ≡ true → (a || b) ≡ true
      either true b told = refl
      either false b told = told

  pub unmarked : false ≡ is_repeated_at lines now → get_or marks place d ≡ (list_any is_place (take (next + 1) order) && is_repeated_at lines place)
  unmarked is = ⊎_elim
      (λ same.
      let none : is_repeated_at lines place ≡ false = ap (is_repeated_at lines) same ∙ sym is in
      so_far ∙ and_right looked_at (is_repeated_at lines place) none ∙ sym (and_right (list_any is_place (take (next + 1) order)) (is_repeated_at lines place) none))
      (λ apart. so_far ∙ other apart)
      (cases_eq place now)
