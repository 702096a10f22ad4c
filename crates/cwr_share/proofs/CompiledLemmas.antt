-- How a registration is compiled, by the accounts of its parties and the places of their share lines; and how a registry finds one.
use Rattle.std.proofs.Common.{◌≡◌, ◌==◌, ◌∙◌, ◌++◌, ◌⊎◌, inl, inr, ◌<◌, ◌≤◌, ◌+◌, ◌∷◌, [], ℕ, zero, suc, List, All, AllPairs, Contains, HoldsAt, IsSortedBy, nat_eq, ltb, true, false, length, map, position, get_or, take, drop, ap, sym, refl, append-nil, subst, arith, zero-le, lt_trans, ⊎_elim, Vec, Global, Some, Ordering, Less, Equal, Greater, is_lt, nat_cmp}
use Rattle.std.specs.List.Sorted.{IsNonDecreasingBy, IsPartitionPoint, IsStrictlySortedBy}
use Rattle.std.specs.Cmp.Lexicographic.{pointwise, slice_cmp}
use Rattle.std.specs.Ordering.{ordering_index, ordering_reverse}
use Rattle.std.proofs.lemmas.Bool.{cases_lt, cases_order, eq-eqb, le-ltb, lt-ltb, ne_eqb}
use Rattle.std.proofs.lemmas.Cmp.{nat_list_cmp_total, tied_itself}
use Rattle.std.proofs.lemmas.List.{get_or_default, get_or-map, get_or_append_left, get_or_push, drop-append-le, drop_all, length-drop, length-map, length-take-le, length_push, map_push, take-append-le, take_all, take_more}
use Rattle.std.proofs.lemmas.List.Elements.{All-cons, All-head, All-nil, All-push, All-tail, Contains-push_cases, filter-append, filter_passes}
use Rattle.std.proofs.lemmas.List.Kept.{AllPairs-cons}
use Rattle.std.proofs.lemmas.List.Sums.{sum_by-cons}
use Rattle.std.proofs.lemmas.List.Sorted.{searchable_from_sorted}
use Rattle.std.proofs.lemmas.Map.Keys.{Less-from_sorted}
use Rattle.std.proofs.lemmas.Map.Lookups.{exact_bytes}
use Rattle.std.proofs.lemmas.Slice.Eq.{bytes_eq-Decides}
use Rattle.cwr_share.specs.Compiled.{AreKept, InterestsRise, IsCompiled, IsExtent, IsKept, Kept, Numbered, WorkName, accounts_of, kept_lines, line_by, lines_at, lines_of_party, names_of, part, places_in, registered_as, with_place}
use Rattle.cwr_share.specs.Found.{LookedUp, names_in}
use Rattle.cwr_share.specs.Payees.{payee_of}
use Rattle.cwr_share.specs.Registered.{HasFewPayees, IsRegistered, Registered}
use Rattle.cwr_share.specs.Registrations.{ShareLine}
use Rattle.cwr_share.specs.declared.share_line.RegisteredShare.{RegisteredShare}
use Rattle.cwr_share.specs.declared.TheConstants.{MOST_SHARE_LINES}
use Rattle.cwr_share.specs.declared.claim_line.ClaimLine.{ClaimLine}
use Rattle.cwr_share.specs.declared.registrations.Extent.{Extent}
use Rattle.cwr_share.proofs.InForceLemmas.{entry_at, found_at, is_work, other_text, same_text}

-- what holds of the text of an item at a place
text_at : {X : Type 0} (text : X → List ℕ) (P : List ℕ → Type 0) (xs : List X) (place : ℕ) → place < length xs → HoldsAt (λ x. P (text x)) xs place → P (get_or (map text xs) place [])
text_at text P [] place within holds = absurd (omega arith)
text_at text P (x ∷ xs) place within holds = subst P (sym (get_or-map text (x ∷ xs) place x [] within)) (holds x)

module _ {X : Type 0} (text : X → List ℕ) (xs : List X) (rising : IsStrictlySortedBy (slice_cmp nat_cmp) (map text xs)) where
  -- texts that rise are sorted
  sorted : IsSortedBy (λ a b. is_lt (slice_cmp nat_cmp (text a) (text b))) xs
  sorted = λ k d low within.
      let less : slice_cmp nat_cmp (get_or (map text xs) k []) (get_or (map text xs) (k + 1) []) ≡ Less =
      Less-from_sorted (slice_cmp nat_cmp) (map text xs) k (k + 1) [] rising (omega arith) (omega (arith, length-map xs text)) in
      let here : slice_cmp nat_cmp (text (get_or xs k d)) (text (get_or xs (k + 1) d)) ≡ Less =
      rw (sym (get_or-map text xs k d [] (omega arith)), sym (get_or-map text xs (k + 1) d [] within)) less in
      ap is_lt (nat_list_cmp_total.antisymm (text (get_or xs (k + 1) d)) (text (get_or xs k d)) ∙ ap ordering_reverse here)

  -- so they can be searched
  pub searchable : (party : List ℕ) → IsNonDecreasingBy (λ x. ordering_index (slice_cmp nat_cmp (text x) party)) xs
  searchable party = searchable_from_sorted nat_list_cmp_total text xs party sorted

  -- a search that finds a text finds its place
  pub found : (party : List ℕ) (place : ℕ) → place < length xs → HoldsAt (λ x. slice_cmp nat_cmp (text x) party ≡ Equal) xs place → get_or (map text xs) place [] ≡ party
  found party place within holds = text_at text (λ t. t ≡ party) xs place within (λ d. exact_bytes (text (get_or xs place d)) party (holds d))

  -- a search that finds a gap says that the text is not there
  pub not_found : (party : List ℕ) (place : ℕ) → IsPartitionPoint (λ x. slice_cmp nat_cmp (text x) party ≡ Less) (λ x. slice_cmp nat_cmp (text x) party ≡ Greater) xs place → ¬ Contains (map text xs) party
  not_found party place gap (k, within, is) = by (cases_lt k place)
    where
      inside : k < length xs
      inside = omega (arith, within, length-map xs text)

      here : (o : Ordering) → HoldsAt (λ x. slice_cmp nat_cmp (text x) party ≡ o) xs k → Equal ≡ o
      here o holds =
          let at = text_at text (λ t. slice_cmp nat_cmp t party ≡ o) xs k inside holds in
          let same : get_or (map text xs) k [] ≡ party = get_or_default (map text xs) k [] party within ∙ is in
          sym (tied_itself nat_list_cmp_total party) ∙ (ap (λ t. slice_cmp nat_cmp t party) (sym same) ∙ at)

      by : (k < place) ⊎ (place ≤ k) → ⊥
      by (inl low) = let no = here Less (λ d. gap.0 k d zero-le low) in cc
      by (inr high) = let no = here Greater (λ d. gap.1 k d high inside) in cc

module _ (party place : ℕ) where
  -- a claimant of a lower party stays in front
  behind_lower : (claimant : ℕ × List ℕ) (later more : List (ℕ × List ℕ)) → claimant.0 < party → more ≡ with_place party place later → claimant ∷ more ≡ with_place party place (claimant ∷ later)
  behind_lower claimant later more low rest =
      let not_lower : ltb party claimant.0 ≡ false = le-ltb party claimant.0 (omega arith) in
      let other : (party == claimant.0) ≡ false = ne_eqb party claimant.0 (λ same. absurd (omega arith)) in
      rw (not_lower, other) (ap (λ (l : List (ℕ × List ℕ)). claimant ∷ l) rest)

-- the first and the others of a list whose pairs are related
pub AllPairs-head : {X : Type 0} (R : X → X → Type 0) (x : X) (xs : List X) → AllPairs R (x ∷ xs) → All (R x) xs
AllPairs-head R x xs pairs = λ k d within. pairs 0 (suc k) d (omega arith) (omega (arith, within))

pub AllPairs-tail : {X : Type 0} (R : X → X → Type 0) (x : X) (xs : List X) → AllPairs R (x ∷ xs) → AllPairs R xs
AllPairs-tail R x xs pairs = λ i j d before within. pairs (suc i) (suc j) d (omega (arith, before)) (omega (arith, within))

-- an element in front
contains_first : {X : Type 0} (x : X) (xs : List X) → Contains (x ∷ xs) x
contains_first x xs = (0, omega arith, refl)

pub contains_later : {X : Type 0} (x y : X) (xs : List X) → Contains xs y → Contains (x ∷ xs) y
contains_later x y xs (k, within, is) = (suc k, omega (arith, within), is)

pub contains_cases : {X : Type 0} (x y : X) (xs : List X) → Contains (x ∷ xs) y → (x ≡ y) ⊎ Contains xs y
contains_cases x y xs (zero, within, is) = inl is
contains_cases x y xs (suc k, within, is) = inr (k, omega (arith, within), is)

-- claimants in order of party
abbrev pub Rising : List (ℕ × List ℕ) → Type 0
Rising claimants = AllPairs (λ claimant later. claimant.0 < later.0) claimants

module _ (party place : ℕ) where
  -- where the place goes, by the first claimant
  pub place_goes : (claimant : ℕ × List ℕ) (later : List (ℕ × List ℕ))
      → ((party < claimant.0) × (with_place party place (claimant ∷ later) ≡ (party, place ∷ []) ∷ claimant ∷ later))
      ⊎ (((party ≡ claimant.0) × (with_place party place (claimant ∷ later) ≡ (party, claimant.1 ++ place ∷ []) ∷ later))
      ⊎ ((claimant.0 < party) × (with_place party place (claimant ∷ later) ≡ claimant ∷ with_place party place later)))
  place_goes claimant later = elim (cases_order party claimant.0) [
    | inl is ↦
        let not_lower : ltb party claimant.0 ≡ false = le-ltb party claimant.0 (omega arith) in
        inr (inl (is, rw (not_lower, eq-eqb party claimant.0 is) refl))
    | inr (inl less) ↦ inl (less, rw (lt-ltb party claimant.0 less) refl)
    | inr (inr more) ↦ inr (inr (more, sym (behind_lower party place claimant later (with_place party place later) more refl)))
  ]

  -- what holds of each claimant once the place is added
  pub each_with_place : (P Q : ℕ × List ℕ → Type 0) → ((claimant : ℕ × List ℕ) → Q claimant → ¬ (claimant.0 ≡ party) → P claimant)
      → ((claimant : ℕ × List ℕ) → Q claimant → claimant.0 ≡ party → P (party, claimant.1 ++ place ∷ []))
      → (claimants : List (ℕ × List ℕ)) → (All (λ claimant. ¬ (claimant.0 ≡ party)) claimants → P (party, place ∷ []))
      → Rising claimants → All Q claimants → All P (with_place party place claimants)
  each_with_place P Q same more [] new rising all = All-cons P (party, place ∷ []) [] (new (All-nil (λ (claimant : ℕ × List ℕ). ¬ (claimant.0 ≡ party)))) (All-nil P)
  each_with_place P Q same more (claimant ∷ later) new rising all =
      let above : All (λ other. claimant.0 < other.0) later = AllPairs-head (λ claimant other. claimant.0 < other.0) claimant later rising in
      let first : Q claimant = All-head Q claimant later all in
      let rest : All Q later = All-tail Q claimant later all in
      let behind : party ≤ claimant.0 → All P later = λ low k d within. same (get_or later k d) (rest k d within) (λ is. absurd (omega (arith, above k d within, low, is))) in
      elim (place_goes claimant later) [
        | inl (less, is) ↦
            let apart : All (λ other. ¬ (other.0 ≡ party)) (claimant ∷ later) =
            All-cons (λ (other : ℕ × List ℕ). ¬ (other.0 ≡ party)) claimant later (λ equal. absurd (omega (arith, less, equal))) (λ k d within equal. absurd (omega (arith, above k d within, less, equal))) in
            rw is
            (All-cons P (party, place ∷ []) (claimant ∷ later) (new apart)
            (All-cons P claimant later (same claimant first (λ equal. absurd (omega (arith, less, equal)))) (behind (omega (arith, less)))))
        | inr (inl (equal, is)) ↦ rw is (All-cons P (party, claimant.1 ++ place ∷ []) later (more claimant first (sym equal)) (behind (omega (arith, equal))))
        | inr (inr (greater, is)) ↦
            let rest_placed = each_with_place P Q same more later
            (λ apart. new (All-cons (λ (other : ℕ × List ℕ). ¬ (other.0 ≡ party)) claimant later (λ equal. absurd (omega (arith, greater, equal))) apart))
            (AllPairs-tail (λ claimant other. claimant.0 < other.0) claimant later rising) rest in
            rw is (All-cons P claimant (with_place party place later) (same claimant first (λ equal. absurd (omega (arith, greater, equal)))) rest_placed)
      ]

  -- the parties still rise
  pub rising_with_place : (claimants : List (ℕ × List ℕ)) → Rising claimants → Rising (with_place party place claimants)
  rising_with_place [] rising = λ i j d before within. absurd (omega arith)
  rising_with_place (claimant ∷ later) rising =
      let R : ℕ × List ℕ → ℕ × List ℕ → Type 0 = λ claimant other. claimant.0 < other.0 in
      let above = AllPairs-head R claimant later rising in
      let rest = AllPairs-tail R claimant later rising in
      elim (place_goes claimant later) [
        | inl (less, is) ↦
            rw is
            (AllPairs-cons R (party, place ∷ []) (claimant ∷ later) (All-cons (λ other. party < other.0) claimant later less (λ k d within. lt_trans less (above k d within))) rising)
        | inr (inl (equal, is)) ↦ rw is (AllPairs-cons R (party, claimant.1 ++ place ∷ []) later (λ k d within. rw equal (above k d within)) rest)
        | inr (inr (greater, is)) ↦
            rw is
            (AllPairs-cons R claimant (with_place party place later)
            (each_with_place (R claimant) (R claimant) (λ other low apart. low) (λ other low equal. greater) later (λ apart. greater) rest above) (rising_with_place later rest))
      ]

  -- one claimant more at most
  few_with_place : (claimants : List (ℕ × List ℕ)) → length (with_place party place claimants) ≤ length claimants + 1
  few_with_place [] = omega arith
  few_with_place (claimant ∷ later) = elim (place_goes claimant later) [
    | inl (less, is) ↦ rw is (omega arith)
    | inr (inl (equal, is)) ↦ rw is (omega arith)
    | inr (inr (greater, is)) ↦ rw is (omega (arith, few_with_place later))
  ]

  -- one place more
  places_with_place : (claimants : List (ℕ × List ℕ)) → places_in (with_place party place claimants) ≡ places_in claimants + 1
  places_with_place [] = refl
  places_with_place (claimant ∷ later) =
      let count = λ (claimant : ℕ × List ℕ). length claimant.1 in
      elim (place_goes claimant later) [
        | inl (less, is) ↦ rw is (omega (arith, sum_by-cons count (party, place ∷ []) (claimant ∷ later)))
        | inr (inl (equal, is)) ↦
            rw is (omega (arith, sum_by-cons count (party, claimant.1 ++ place ∷ []) later, sum_by-cons count claimant later, length_push claimant.1 place))
        | inr (inr (greater, is)) ↦
            rw is (omega (arith, sum_by-cons count claimant (with_place party place later), sum_by-cons count claimant later, places_with_place later))
      ]

  -- each party that had a claimant has one
  still_there : (claimants : List (ℕ × List ℕ)) (other : ℕ) → Contains (map (λ claimant. claimant.0) claimants) other → Contains (map (λ claimant. claimant.0) (with_place party place claimants)) other
  still_there [] other has = absurd (omega (arith, has.1))
  still_there (claimant ∷ later) other has = elim (place_goes claimant later) [
    | inl (less, is) ↦ rw is (contains_later party other (claimant.0 ∷ map (λ claimant. claimant.0) later) has)
    | inr (inl (equal, is)) ↦ rw is (subst (λ a. Contains (a ∷ map (λ claimant. claimant.0) later) other) (sym equal) has)
    | inr (inr (greater, is)) ↦
        rw is
        (⊎_elim (λ same. subst (Contains (claimant.0 ∷ map (λ claimant. claimant.0) (with_place party place later))) same (contains_first claimant.0 (map (λ claimant. claimant.0) (with_place party place later))))
        (λ rest. contains_later claimant.0 other (map (λ claimant. claimant.0) (with_place party place later)) (still_there later other rest))
        (contains_cases claimant.0 other (map (λ claimant. claimant.0) later) has))
  ]

  -- and the party too
  now_there : (claimants : List (ℕ × List ℕ)) → Contains (map (λ claimant. claimant.0) (with_place party place claimants)) party
  now_there [] = contains_first party []
  now_there (claimant ∷ later) = elim (place_goes claimant later) [
    | inl (less, is) ↦ rw is (contains_first party (claimant.0 ∷ map (λ claimant. claimant.0) later))
    | inr (inl (equal, is)) ↦ rw is (contains_first party (map (λ claimant. claimant.0) later))
    | inr (inr (greater, is)) ↦ rw is (contains_later claimant.0 party (map (λ claimant. claimant.0) (with_place party place later)) (now_there later))
  ]

-- the lines of a party, with one line more
lines_of_party_other : (party : List ℕ) (lines : List ShareLine) (line : ShareLine) → ¬ (line.party ≡ party) → lines_of_party party (lines ++ line ∷ []) ≡ lines_of_party party lines
lines_of_party_other party lines line other =
    filter-append (λ (line : ShareLine). pointwise nat_eq line.party party) lines (line ∷ []) ∙ rw (other_text line.party party other) (append-nil (lines_of_party party lines))

lines_of_party_more : (party : List ℕ) (lines : List ShareLine) (line : ShareLine) → line.party ≡ party → lines_of_party party (lines ++ line ∷ []) ≡ lines_of_party party lines ++ line ∷ []
lines_of_party_more party lines line same =
    filter-append (λ (line : ShareLine). pointwise nat_eq line.party party) lines (line ∷ []) ∙ rw (same_text line.party party same) refl

-- a party that no line has, has no lines
pub lines_of_party_none : (party : List ℕ) (lines : List ShareLine) → ¬ Contains (map (λ line. line.party) lines) party → lines_of_party party lines ≡ []
lines_of_party_none party [] none = refl
lines_of_party_none party (line ∷ lines) none =
    let other : ¬ (line.party ≡ party) = λ same. none (0, omega arith, same) in
    rw (other_text line.party party other) (lines_of_party_none party lines (λ has. none (contains_later line.party party (map (λ line. line.party) lines) has)))

-- the lines at places are the same in a longer list
lines_at_longer : (lines : List ShareLine) (line : ShareLine) (places : List ℕ) → All (λ place. place < length lines) places → lines_at (lines ++ line ∷ []) places ≡ lines_at lines places
lines_at_longer lines line [] within = refl
lines_at_longer lines line (place ∷ places) within =
    rw (get_or_append_left lines (line ∷ []) _ place (within 0 place (omega arith)), lines_at_longer lines line places (All-tail (λ place. place < length lines) place places within)) refl

-- and the one at the last place is the last
lines_at_last : (lines : List ShareLine) (line : ShareLine) (places : List ℕ) → All (λ place. place < length lines) places
    → lines_at (lines ++ line ∷ []) (places ++ length lines ∷ []) ≡ lines_at lines places ++ line ∷ []
lines_at_last lines line places within =
    map_push _ places (length lines) ∙ rw (lines_at_longer lines line places within, get_or_push lines line _ (length lines) refl) refl

-- no two accounts have one party
pub account_is : (parties : List (List ℕ)) (account other : ℕ) → IsStrictlySortedBy (slice_cmp nat_cmp) parties → account < length parties → other < length parties
    → get_or parties account [] ≡ get_or parties other [] → account ≡ other
account_is parties account other rising within inside same = elim (cases_order account other) [
  | inl is ↦ is
  | inr (inl less) ↦ absurd (never (get_or parties account []) (get_or parties other []) same (Less-from_sorted (slice_cmp nat_cmp) parties account other [] rising less inside))
  | inr (inr more) ↦ absurd (never (get_or parties other []) (get_or parties account []) (sym same) (Less-from_sorted (slice_cmp nat_cmp) parties other account [] rising more within))
]
  where
    never : (a b : List ℕ) → a ≡ b → slice_cmp nat_cmp a b ≡ Less → ⊥
    never a b same less = let level : slice_cmp nat_cmp b b ≡ Less = subst (λ t. slice_cmp nat_cmp t b ≡ Less) same less in let no = sym (tied_itself nat_list_cmp_total b) ∙ level in cc

-- no text stands at two places
abbrev pub HasOnce : List (List ℕ) → Type 0
HasOnce names = (i j : ℕ) → i < length names → j < length names → get_or names i [] ≡ get_or names j [] → i ≡ j

pub once_from_pairs : (names : List (List ℕ)) → AllPairs (λ name later. ¬ (name ≡ later)) names → HasOnce names
once_from_pairs names apart i j within inside same = elim (cases_order i j) [
  | inl is ↦ is
  | inr (inl less) ↦ absurd (apart i j [] less inside same)
  | inr (inr more) ↦ absurd (apart j i [] more within (sym same))
]

-- the places of a party are those of lines that are kept under it
pub own_places : (parties : List (List ℕ)) (kept : List RegisteredShare) (claimants : List (ℕ × List ℕ)) → HasOnce parties → All (λ share. share.party < length parties) kept
    → IsCompiled parties (map (line_by parties) kept) claimants → All (λ claimant. All (HoldsAt (λ share. share.party ≡ claimant.0) kept) claimant.1) claimants
own_places parties kept claimants once known compiled = λ k d inside j e within f.
    let claimant = get_or claimants k d in
    let lines = map (line_by parties) kept in
    let place = get_or claimant.1 j e in
    let share = get_or kept place f in
    let line = line_by parties share in
    let party = get_or parties claimant.0 [] in
    let there : place < length lines = compiled.within k d inside j e within in
    let its : place < length kept = omega (arith, there, length-map kept (line_by parties)) in
    let at : get_or (lines_at lines claimant.1) j line ≡ line = get_or-map _ claimant.1 j e line within ∙ get_or-map (line_by parties) kept place f _ its in
    let exact = compiled.exact k d inside in
    let long : length (lines_at lines claimant.1) ≡ length claimant.1 = length-map claimant.1 _ in
    let among : j < length (lines_of_party party lines) = omega (arith, within, long, ap (λ (l : List ShareLine). length l) exact) in
    let passes = filter_passes (λ line. pointwise nat_eq line.party party) lines j line among in
    let same : get_or (lines_of_party party lines) j line ≡ line = ap (λ (l : List ShareLine). get_or l j line) (sym exact) ∙ at in
    let whose : line.party ≡ party = (bytes_eq-Decides line.party party).0 (subst (λ (l : ShareLine). pointwise nat_eq l.party party ≡ true) same passes) in
    once share.party claimant.0 (known place f its) (compiled.known k d inside) whose

-- no line is compiled yet
pub compiled_none : (parties : List (List ℕ)) → IsCompiled parties [] []
compiled_none parties = record {
  few = omega arith;
  total = refl;
  rising = λ i j d before within. absurd (omega arith);
  known = λ k d within. absurd (omega arith);
  some = λ k d within. absurd (omega arith);
  within = λ k d within. absurd (omega arith);
  exact = λ k d within. absurd (omega arith);
  every = λ party inside has. absurd (omega (arith, has.1));
}

module _ (parties : List (List ℕ)) (lines : List ShareLine) (claimants : List (ℕ × List ℕ)) (line : ShareLine) (party : ℕ)
    (once : HasOnce parties) (inside : party < length parties) (whose : get_or parties party [] ≡ line.party)
    (compiled : IsCompiled parties lines claimants) where
  abbrev Inside : ℕ × List ℕ → Type 0
  Inside claimant = All (λ place. place < length lines) claimant.1

  abbrev Exact : ℕ × List ℕ → Type 0
  Exact claimant = (lines_at lines claimant.1 ≡ lines_of_party (get_or parties claimant.0 []) lines) × Inside claimant × (claimant.0 < length parties)

  abbrev Longer : ℕ × List ℕ → Type 0
  Longer claimant = lines_at (lines ++ line ∷ []) claimant.1 ≡ lines_of_party (get_or parties claimant.0 []) (lines ++ line ∷ [])

  -- the claimants that are other parties keep their lines
  same_lines : (claimant : ℕ × List ℕ) → Exact claimant → ¬ (claimant.0 ≡ party) → Longer claimant
  same_lines claimant (is, within, known) other =
      let apart : ¬ (line.party ≡ get_or parties claimant.0 []) = λ same. other (once claimant.0 party known inside (sym same ∙ sym whose)) in
      lines_at_longer lines line claimant.1 within ∙ (is ∙ sym (lines_of_party_other (get_or parties claimant.0 []) lines line apart))

  -- that of the party gets the line
  more_lines : (claimant : ℕ × List ℕ) → Exact claimant → claimant.0 ≡ party → Longer (party, claimant.1 ++ length lines ∷ [])
  more_lines claimant (is, within, known) same =
      let own : get_or parties claimant.0 [] ≡ get_or parties party [] = ap (λ a. get_or parties a []) same in
      lines_at_last lines line claimant.1 within
      ∙ (ap (λ l. l ++ line ∷ []) (is ∙ ap (λ p. lines_of_party p lines) own) ∙ sym (lines_of_party_more (get_or parties party []) lines line (sym whose)))

  -- or it is the first of the party
  first_line : All (λ claimant. ¬ (claimant.0 ≡ party)) claimants → Longer (party, length lines ∷ [])
  first_line none =
      let absent : ¬ Contains (map (λ line. line.party) lines) (get_or parties party []) =
      λ has. missing claimants none (compiled.every party inside has) in
      rw (get_or_push lines line _ (length lines) refl)
      (ap (λ l. l ++ line ∷ []) (sym (lines_of_party_none (get_or parties party []) lines absent)) ∙ sym (lines_of_party_more (get_or parties party []) lines line (sym whose)))
    where
      missing : (claimants : List (ℕ × List ℕ)) → All (λ claimant. ¬ (claimant.0 ≡ party)) claimants → ¬ Contains (map (λ claimant. claimant.0) claimants) party
      missing [] none has = absurd (omega (arith, has.1))
      missing (claimant ∷ later) none has = elim (contains_cases claimant.0 party (map (λ claimant. claimant.0) later) has) [
        | inl is ↦ none 0 claimant (omega arith) is
        | inr rest ↦ missing later (All-tail (λ claimant. ¬ (claimant.0 ≡ party)) claimant later none) rest
      ]

  -- a line more is compiled
  pub compiled_more : IsCompiled parties (lines ++ line ∷ []) (with_place party (length lines) claimants)
  compiled_more = record {
    few = omega (arith, few_with_place party (length lines) claimants, compiled.few, length_push lines line);
    total = omega (arith, places_with_place party (length lines) claimants, compiled.total, length_push lines line);
    rising = rising_with_place party (length lines) claimants compiled.rising;
    known = each_with_place party (length lines) (λ claimant. claimant.0 < length parties) (λ claimant. claimant.0 < length parties)
        (λ claimant known other. known) (λ claimant known same. inside) claimants (λ none. inside) compiled.rising compiled.known;
    some = each_with_place party (length lines) (λ claimant. 0 < length claimant.1) (λ claimant. 0 < length claimant.1) (λ claimant filled other. filled)
        (λ claimant filled same. omega (arith, length_push claimant.1 (length lines))) claimants (λ none. omega arith) compiled.rising compiled.some;
    within = each_with_place party (length lines) (λ claimant. All (λ place. place < length (lines ++ line ∷ [])) claimant.1) Inside (λ claimant all other. further claimant.1 all)
        (λ claimant all same. All-push (λ place. place < length (lines ++ line ∷ [])) claimant.1 (length lines) (further claimant.1 all) last) claimants
        (λ none. All-cons (λ place. place < length (lines ++ line ∷ [])) (length lines) [] last (λ k d within. absurd (omega arith))) compiled.rising compiled.within;
    exact = each_with_place party (length lines) Longer Exact same_lines more_lines claimants first_line compiled.rising
        (λ k d within. (compiled.exact k d within, compiled.within k d within, compiled.known k d within));
    every = λ other known has.
        elim (Contains-push_cases (map (λ line. line.party) lines) line.party (get_or parties other []) (rw map_push at has)) [
          | inl earlier ↦ still_there party (length lines) claimants other (compiled.every other known earlier)
          | inr is ↦
              let same : other ≡ party = once other party known inside (sym is ∙ sym whose) in
              rw same (now_there party (length lines) claimants)
        ];
  }
    where
      last : length lines < length (lines ++ line ∷ [])
      last = omega (arith, length_push lines line)

      further : (places : List ℕ) → All (λ place. place < length lines) places → All (λ place. place < length (lines ++ line ∷ [])) places
      further places all = λ k d within. omega (arith, all k d within, length_push lines line)

-- the line at the next place is compiled
pub compiled_next : (parties : List (List ℕ)) (lines : List ShareLine) (place : ℕ) (line : ShareLine) (party : ℕ) (claimants more : List (ℕ × List ℕ))
    → HasOnce parties → place < length lines → line ≡ get_or lines place line → party < length parties → get_or parties party [] ≡ line.party
    → IsCompiled parties (take place lines) claimants → more ≡ with_place party place claimants → IsCompiled parties (take (place + 1) lines) more
compiled_next parties lines place line party claimants more once within is inside whose compiled grown =
    let front : length (take place lines) ≡ place = length-take-le place lines (omega arith) in
    let last : take (place + 1) lines ≡ take place lines ++ line ∷ [] = take_more lines place line within ∙ ap (λ l. take place lines ++ l ∷ []) (sym is) in
    rw (grown, last)
    (subst (λ n. IsCompiled parties (take place lines ++ line ∷ []) (with_place party n claimants)) front
    (compiled_more parties (take place lines) claimants line party once inside whose compiled))

-- What lies within a list stays where more comes behind it, and what comes behind it is what comes.
module _ {X : Type 0} (xs ys : List X) where
  pub part_stays : (first count : ℕ) → first + count ≤ length xs → take count (drop first (xs ++ ys)) ≡ take count (drop first xs)
  part_stays first count within =
      let front : drop first (xs ++ ys) ≡ drop first xs ++ ys = drop-append-le first xs ys (omega (arith, within)) in
      ap (take count) front ∙ take-append-le count (drop first xs) ys (omega (arith, within, length-drop first xs))

  pub part_added : take (length ys) (drop (length xs) (xs ++ ys)) ≡ ys
  part_added = rw (drop-append-le (length xs) xs ys (omega arith), drop_all (length xs) xs (omega arith)) (take_all (length ys) ys (omega arith))

-- the line at the next place is kept
pub kept_next : (parties : List (List ℕ)) (lines : List ShareLine) (place : ℕ) (line : ShareLine) (kept : List RegisteredShare) (share : RegisteredShare)
    → place < length lines → line ≡ get_or lines place line → map (line_by parties) kept ≡ take place lines → line_by parties share ≡ line
    → map (line_by parties) (kept ++ share ∷ []) ≡ take (place + 1) lines
kept_next parties lines place line kept share within is before same =
    map_push (line_by parties) kept share
    ∙ (ap (λ (l : List ShareLine). l ++ line_by parties share ∷ []) before
    ∙ (ap (λ (l : ShareLine). take place lines ++ l ∷ []) (same ∙ is) ∙ sym (take_more lines place line within)))

-- Registrations side by side, with one more behind them.
module _ (lines theirs : List ClaimLine) (these : Vec RegisteredShare Global) where
  -- its part of the list
  abbrev pub extent_of_it : Extent
  extent_of_it = record { first = length lines; count = length theirs; shares = record { marker = record {}; value = these } }

  parts_as_before : (extents : List Extent) → All (IsExtent lines) extents → map (part (lines ++ theirs)) extents ≡ map (part lines) extents
  parts_as_before [] within = refl
  parts_as_before (extent ∷ later) within =
      let back = part_stays lines theirs extent.first extent.count (within 0 extent (omega arith)) in
      let this : part (lines ++ theirs) extent ≡ part lines extent = cc in
      cc (this, parts_as_before later (All-tail (IsExtent lines) extent later within))

  pub parts_more : (extents : List Extent) → All (IsExtent lines) extents
      → map (part (lines ++ theirs)) (extents ++ extent_of_it ∷ []) ≡ map (part lines) extents ++ record { shares = these.items; lines = theirs } ∷ []
  parts_more extents within =
      let it : part (lines ++ theirs) extent_of_it ≡ record { shares = these.items; lines = theirs } = ap (λ (l : List ClaimLine). record { shares = these.items; lines = l }) (part_added lines theirs) in
      map_push (part (lines ++ theirs)) extents extent_of_it ∙ cc (parts_as_before extents within, it)

-- the parties of a registry that is kept are those by number
pub names_as : (works : List WorkName) (registrations : List Kept) (parties : List Numbered) (payees : List (Vec ℕ Global)) → names_in (registered_as works registrations parties payees) ≡ names_of parties
names_as works registrations [] payees = refl
names_as works registrations (party ∷ parties) payees = ap (λ (names : List (List ℕ)). party.0.items ∷ names) (names_as works registrations parties payees)

-- what a look-up by the index finds
pub looked_up : (works : List WorkName) (registrations : List Kept) (parties : List Numbered) (payees : List (Vec ℕ Global)) (registered : Registered) (work : List ℕ) (place : ℕ) (registration : Kept)
    → IsRegistered (registered_as works registrations parties payees) → AreKept works registrations parties payees → registered_as works registrations parties payees ≡ registered
    → Some place ≡ position (is_work work) works → place < length works → registration ≡ get_or registrations place registration → LookedUp registered work registration
looked_up works registrations parties payees registered work place registration sound kept view index within is =
    let names = names_of parties in
    let as_names = sym (names_as works registrations parties payees) in
    let inside : place < length registrations = omega (arith, within, kept.paired) in
    subst (λ r. LookedUp r work registration) view (record {
      sound = sound;
      accounts = accounts_of parties;
      are = kept.accounts;
      works = found_at work (kept_lines names) works registrations place registration kept.paired index is ∙ ap (λ (names : List (List ℕ)). Some (kept_lines names registration)) as_names;
      kept = subst (λ (names : List (List ℕ)). IsKept names (accounts_of parties) registration) as_names (subst (IsKept names (accounts_of parties)) (sym is) (kept.kept place registration inside));
      rise = subst (λ (names : List (List ℕ)). InterestsRise (kept_lines names registration)) as_names (subst (λ (r : Kept). InterestsRise (kept_lines names r)) (sym is) (kept.rise place registration inside));
      few = subst (λ (names : List (List ℕ)). length (kept_lines names registration) ≤ MOST_SHARE_LINES) as_names
          (entry_at (kept_lines names) (λ lines. length lines ≤ MOST_SHARE_LINES) works registrations place registration kept.paired inside is sound.few);
      few_payees = subst (λ (names : List (List ℕ)). HasFewPayees (payee_of (registered_as works registrations parties payees).payees) (kept_lines names registration)) as_names
          (entry_at (kept_lines names) (HasFewPayees (payee_of (registered_as works registrations parties payees).payees)) works registrations place registration kept.paired inside is sound.few_payees);
    })

-- there is a registration at a place
pub registration_at : (registrations : List Kept) (place : ℕ) → place < length registrations → (registration : Kept) × (registration ≡ get_or registrations place registration)
registration_at [] place within = absurd (omega arith)
registration_at (first ∷ registrations) place within =
    (get_or (first ∷ registrations) place first, get_or_default (first ∷ registrations) place first (get_or (first ∷ registrations) place first) within)
