-- The parties of a file: in byte order, each once, and those of the share lines in force.
use Rattle.std.proofs.Common.{◌≡◌, ◌∙◌, ◌⊎◌, ◌∷◌, ◌++◌, [], ℕ, AllPairs, Bool, Contains, List, None, Option, Some, true, false, cond, ap, arith, inl, inr, map, refl, subst, sym}
use Rattle.std.specs.Prelude.{◌↔◌, filter, find, fold, option_map}
use Rattle.std.specs.BTreeSet.{insert_key}
use Rattle.std.specs.Cmp.Lexicographic.{nat_list_cmp_total, slice_cmp}
use Rattle.std.specs.List.{AllByRecursion}
use Rattle.std.specs.List.Sorted.{IsStrictlySortedBy}
use Rattle.std.specs.Ordering.{match_ordering, nat_cmp, ordering_reverse}
use Rattle.std.specs.declared.cmp.Ordering.{Ordering}
use Rattle.std.specs.declared.cmp.Ordering.TheVariants.{Less, Equal, Greater}
use Rattle.std.proofs.lemmas.Bool.{cases_Bool, false_from_ne_true}
use Rattle.std.proofs.lemmas.Map.Lookups.{exact_bytes}
use Rattle.std.proofs.lemmas.List.{append-nil, map-append, map_push}
use Rattle.std.proofs.lemmas.List.Elements.{All-contains, Contains-append_cases, Contains-append_left, Contains-append_right, filter-append}
use Rattle.std.proofs.lemmas.Option.{none-some}
use Rattle.std.proofs.lemmas.Slice.Eq.{bytes_eq-Decides}
use Rattle.cwr_share.specs.CwrFile.{IsPartyInForce}
use Rattle.cwr_share.specs.Records.{is_share_line, share_fields}
use Rattle.cwr_share.specs.Registrations.{ShareLine, share_line_of, share_lines_of}
use Rattle.cwr_share.proofs.CompiledLemmas.{AllPairs-head, AllPairs-tail}
use Rattle.cwr_share.proofs.FileLemmas.{by_pushes, share_lines_no, share_lines_yes}
use Rattle.cwr_share.proofs.PartyLemmas.{contains_cases, contains_later}
use Rattle.starting_tables.specs.InForce.{Registration, bodies_of, number_of, registrations_in_force}
use Rattle.starting_tables.specs.Parties.{parties_of, share_party}
use Rattle.starting_tables.proofs.InForceLemmas.{is_numbered}
use Rattle.starting_tables.proofs.LawLemmas.{once, shares_found}

abbrev insert_party : List (List ℕ) → List ℕ → List (List ℕ)
insert_party = insert_key (slice_cmp nat_cmp)

-- Byte order

all_with : (P : List ℕ → Type 0) (texts : List (List ℕ)) (text : List ℕ) → AllByRecursion P texts → P text → AllByRecursion P (insert_party texts text)
all_with P [] text each here = (here, tt)
all_with P (first ∷ texts) text each here = by (slice_cmp nat_cmp text first) (all_with P texts text each.1 here)
  where
    by : (o : Ordering) → AllByRecursion P (insert_party texts text)
        → AllByRecursion P (match_ordering o (text ∷ first ∷ texts) (first ∷ texts) (first ∷ insert_party texts text))
    by Less later = (here, each)
    by Equal later = each
    by Greater later = (each.0, later)

above : (low first : List ℕ) (texts : List (List ℕ)) → slice_cmp nat_cmp low first ≡ Less → AllByRecursion (λ text. slice_cmp nat_cmp first text ≡ Less) texts
    → AllByRecursion (λ text. slice_cmp nat_cmp low text ≡ Less) texts
above low first [] less each = tt
above low first (text ∷ texts) less each = (nat_list_cmp_total.trans low first text less each.0, above low first texts less each.1)

rising_with : (texts : List (List ℕ)) (text : List ℕ) → IsStrictlySortedBy (slice_cmp nat_cmp) texts → IsStrictlySortedBy (slice_cmp nat_cmp) (insert_party texts text)
unfolding IsStrictlySortedBy
rising_with [] text rising = (tt, tt)
rising_with (first ∷ texts) text rising = by (slice_cmp nat_cmp text first) refl (rising_with texts text rising.1)
  where
    by : (o : Ordering) → slice_cmp nat_cmp text first ≡ o → IsStrictlySortedBy (slice_cmp nat_cmp) (insert_party texts text)
        → IsStrictlySortedBy (slice_cmp nat_cmp) (match_ordering o (text ∷ first ∷ texts) (first ∷ texts) (first ∷ insert_party texts text))
    by Less e later = ((e, above text first texts e rising.0), rising)
    by Equal e later = rising
    by Greater e later =
        (all_with (λ other. slice_cmp nat_cmp first other ≡ Less) texts text rising.0 (nat_list_cmp_total.antisymm first text ∙ ap ordering_reverse e), later)

rising_all : (texts parties : List (List ℕ)) → IsStrictlySortedBy (slice_cmp nat_cmp) texts → IsStrictlySortedBy (slice_cmp nat_cmp) (fold insert_party texts parties)
rising_all texts [] rising = rising
rising_all texts (party ∷ parties) rising = rising_all (insert_party texts party) parties (rising_with texts party rising)

none_rising : IsStrictlySortedBy (slice_cmp nat_cmp) []
unfolding IsStrictlySortedBy
none_rising = tt

pub parties_rise : (lines : List (List ℕ)) → IsStrictlySortedBy (slice_cmp nat_cmp) (parties_of lines)
parties_rise lines = rising_all [] (map share_party (filter is_share_line lines)) none_rising

-- Which they are

from_inserted : (texts : List (List ℕ)) (text other : List ℕ) → Contains (insert_party texts text) other → Contains texts other ⊎ (text ≡ other)
from_inserted [] text other inside = inr (only (contains_cases text [] other inside))
  where
    only : (text ≡ other) ⊎ Contains [] other → text ≡ other
    only (inl is) = is
    only (inr (k, within, is)) = absurd (omega (arith, within))
from_inserted (first ∷ texts) text other inside = go (from_inserted texts text other) (slice_cmp nat_cmp text first) inside
  where
    go : (Contains (insert_party texts text) other → Contains texts other ⊎ (text ≡ other)) → (order : Ordering)
        → Contains (match_ordering order (text ∷ first ∷ texts) (first ∷ texts) (first ∷ insert_party texts text)) other
        → Contains (first ∷ texts) other ⊎ (text ≡ other)
    go rest Less inside = before (contains_cases text (first ∷ texts) other inside)
      where
        before : (text ≡ other) ⊎ Contains (first ∷ texts) other → Contains (first ∷ texts) other ⊎ (text ≡ other)
        before (inl is) = inr is
        before (inr later) = inl later
    go rest Equal inside = inl inside
    go rest Greater inside = after (contains_cases first (insert_party texts text) other inside)
      where
        deeper : Contains texts other ⊎ (text ≡ other) → Contains (first ∷ texts) other ⊎ (text ≡ other)
        deeper (inl later) = inl (contains_later first texts other later)
        deeper (inr is) = inr is

        after : (first ≡ other) ⊎ Contains (insert_party texts text) other → Contains (first ∷ texts) other ⊎ (text ≡ other)
        after (inl is) = inl (0, omega arith, is)
        after (inr later) = deeper (rest later)

into_inserted : (texts : List (List ℕ)) (text other : List ℕ) → Contains texts other ⊎ (text ≡ other) → Contains (insert_party texts text) other
into_inserted [] text other (inl (k, within, is)) = absurd (omega (arith, within))
into_inserted [] text other (inr is) = (0, omega arith, is)
into_inserted (first ∷ texts) text other inside = go (into_inserted texts text other) (slice_cmp nat_cmp text first) refl inside
  where
    go : (Contains texts other ⊎ (text ≡ other) → Contains (insert_party texts text) other) → (order : Ordering) → slice_cmp nat_cmp text first ≡ order
        → Contains (first ∷ texts) other ⊎ (text ≡ other)
        → Contains (match_ordering order (text ∷ first ∷ texts) (first ∷ texts) (first ∷ insert_party texts text)) other
    go rest Less ordered (inl there) = contains_later text (first ∷ texts) other there
    go rest Less ordered (inr is) = (0, omega arith, is)
    go rest Equal ordered (inl there) = there
    go rest Equal ordered (inr is) = (0, omega arith, sym (exact_bytes text first ordered) ∙ is)
    go rest Greater ordered (inl there) = deeper (contains_cases first texts other there)
      where
        deeper : (first ≡ other) ⊎ Contains texts other → Contains (first ∷ insert_party texts text) other
        deeper (inl is) = (0, omega arith, is)
        deeper (inr later) = contains_later first (insert_party texts text) other (rest (inl later))
    go rest Greater ordered (inr is) = contains_later first (insert_party texts text) other (rest (inr is))

-- what is in one of two lists
abbrev IsIn : (texts parties : List (List ℕ)) → List ℕ → Type 0
IsIn texts parties text = Contains texts text ⊎ Contains parties text

from_all : (texts parties : List (List ℕ)) (text : List ℕ) → Contains (fold insert_party texts parties) text → IsIn texts parties text
from_all texts [] text has = inl has
from_all texts (party ∷ parties) text has = by (from_all (insert_party texts party) parties text has)
  where
    one : Contains texts text ⊎ (party ≡ text) → IsIn texts (party ∷ parties) text
    one (inl there) = inl there
    one (inr is) = inr (0, omega arith, is)

    by : IsIn (insert_party texts party) parties text → IsIn texts (party ∷ parties) text
    by (inl there) = one (from_inserted texts party text there)
    by (inr later) = inr (contains_later party parties text later)

into_all : (texts parties : List (List ℕ)) (text : List ℕ) → IsIn texts parties text → Contains (fold insert_party texts parties) text
into_all texts [] text (inl has) = has
into_all texts [] text (inr has) = absurd (omega (arith, has.1))
into_all texts (party ∷ parties) text has = into_all (insert_party texts party) parties text (by has)
  where
    one : (party ≡ text) ⊎ Contains parties text → IsIn (insert_party texts party) parties text
    one (inl is) = inl (into_inserted texts party text (inr is))
    one (inr later) = inr later

    by : IsIn texts (party ∷ parties) text → IsIn (insert_party texts party) parties text
    by (inl there) = inl (into_inserted texts party text (inl there))
    by (inr there) = one (contains_cases party parties text there)

-- the parties of share lines, in their order
abbrev shared : List (List ℕ) → List (List ℕ)
shared lines = map share_party (filter is_share_line lines)

shared_append : (lines others : List (List ℕ)) → shared (lines ++ others) ≡ shared lines ++ shared others
shared_append lines others = ap (map share_party) (filter-append is_share_line lines others) ∙ map-append share_party (filter is_share_line lines) (filter is_share_line others)

shared_push : (lines : List (List ℕ)) (line : List ℕ) → map (λ (s : ShareLine). s.party) (share_lines_of lines) ≡ shared lines
    → map (λ (s : ShareLine). s.party) (share_lines_of (lines ++ line ∷ [])) ≡ shared (lines ++ line ∷ [])
shared_push lines line sofar = elim (cases_Bool (is_share_line line)) [
  | inl is ↦
      ap (map (λ (s : ShareLine). s.party)) (share_lines_yes lines line is)
      ∙ (map_push (λ (s : ShareLine). s.party) (share_lines_of lines) (share_line_of _ (share_fields line) line)
      ∙ (ap (λ (l : List (List ℕ)). l ++ share_party line ∷ []) sofar
      ∙ sym (shared_append lines (line ∷ []) ∙ ap (λ (b : Bool). shared lines ++ map share_party (cond b (line ∷ []) [])) is)))
  | inr is ↦
      ap (map (λ (s : ShareLine). s.party)) (share_lines_no lines line is)
      ∙ (sofar
      ∙ sym (shared_append lines (line ∷ []) ∙ (ap (λ (b : Bool). shared lines ++ map share_party (cond b (line ∷ []) [])) is ∙ append-nil (shared lines))))
]

-- they are those of the share lines of a registration
shared_is : (lines : List (List ℕ)) → map (λ (s : ShareLine). s.party) (share_lines_of lines) ≡ shared lines
shared_is = by_pushes (λ (lines : List (List ℕ)). map (λ (s : ShareLine). s.party) (share_lines_of lines) ≡ shared lines) refl shared_push

-- a party of several registrations is one of a registration
from_bodies : (registrations : List Registration) (party : List ℕ) → Contains (shared (bodies_of registrations)) party
    → (registration : Registration) × Contains registrations registration × Contains (shared registration.body) party
from_bodies [] party has = absurd (omega (arith, has.1))
from_bodies (first ∷ later) party has =
    by (Contains-append_cases (shared first.body) (shared (bodies_of later)) party (subst (λ (l : List (List ℕ)). Contains l party) (shared_append first.body (bodies_of later)) has))
    (from_bodies later party)
  where
    by : Contains (shared first.body) party ⊎ Contains (shared (bodies_of later)) party
        → (Contains (shared (bodies_of later)) party → (registration : Registration) × Contains later registration × Contains (shared registration.body) party)
        → (registration : Registration) × Contains (first ∷ later) registration × Contains (shared registration.body) party
    by (inl here) rest = (first, (0, omega arith, refl), here)
    by (inr there) rest = let (registration, among, its) = rest there in (registration, contains_later first later registration among, its)

into_bodies : (registrations : List Registration) (registration : Registration) (party : List ℕ) → Contains registrations registration → Contains (shared registration.body) party
    → Contains (shared (bodies_of registrations)) party
into_bodies [] registration party among has = absurd (omega (arith, among.1))
into_bodies (first ∷ later) registration party among has =
    subst (λ (l : List (List ℕ)). Contains l party) (sym (shared_append first.body (bodies_of later)))
    (by (contains_cases first later registration among) (into_bodies later registration party))
  where
    by : (first ≡ registration) ⊎ Contains later registration → (Contains later registration → Contains (shared registration.body) party → Contains (shared (bodies_of later)) party)
        → Contains (shared first.body ++ shared (bodies_of later)) party
    by (inl is) rest =
        Contains-append_left (shared first.body) (shared (bodies_of later)) party (subst (λ (r : Registration). Contains (shared r.body) party) (sym is) has)
    by (inr there) rest = Contains-append_right (shared first.body) (shared (bodies_of later)) party (rest there has)

-- where numbers are apart, a registration is found by its number
found_itself : (registrations : List Registration) (registration : Registration) → AllPairs (λ registration later. ¬ (number_of registration ≡ number_of later)) registrations
    → Contains registrations registration → find (is_numbered (number_of registration)) registrations ≡ Some registration
found_itself [] registration apart among = absurd (omega (arith, among.1))
found_itself (first ∷ later) registration apart among =
    by (contains_cases first later registration among)
    (found_itself later registration (AllPairs-tail (λ (registration later : Registration). ¬ (number_of registration ≡ number_of later)) first later apart))
  where
    by : (first ≡ registration) ⊎ Contains later registration → (Contains later registration → find (is_numbered (number_of registration)) later ≡ Some registration)
        → find (is_numbered (number_of registration)) (first ∷ later) ≡ Some registration
    by (inl is) rest =
        ap (λ (b : Bool). cond b (Some first) (find (is_numbered (number_of registration)) later)) ((bytes_eq-Decides (number_of first) (number_of registration)).1 (ap number_of is)) ∙ ap Some is
    by (inr there) rest =
        let other = All-contains (λ (r : Registration). ¬ (number_of first ≡ number_of r)) later registration
        (AllPairs-head (λ (registration later : Registration). ¬ (number_of registration ≡ number_of later)) first later apart) there in
        ap (λ (b : Bool). cond b (Some first) (find (is_numbered (number_of registration)) later))
        (false_from_ne_true (is_numbered (number_of registration) first) (λ same. other ((bytes_eq-Decides (number_of first) (number_of registration)).0 same))) ∙ rest there

-- what is found is one of them
found_among : (number : List ℕ) (registrations : List Registration) (registration : Registration) → find (is_numbered number) registrations ≡ Some registration → Contains registrations registration
found_among number [] registration is = absurd (none-some registration is)
found_among number (first ∷ later) registration is = by (is_numbered number first) refl (found_among number later registration)
  where
    by : (b : Bool) → is_numbered number first ≡ b → (find (is_numbered number) later ≡ Some registration → Contains later registration) → Contains (first ∷ later) registration
    by true e rest =
        let here : Some first ≡ Some registration = sym (ap (λ (b : Bool). cond b (Some first) (find (is_numbered number) later)) e) ∙ is in
        let same : first ≡ registration = cc in (0, omega arith, same)
    by false e rest = contains_later first later registration (rest (sym (ap (λ (b : Bool). cond b (Some first) (find (is_numbered number) later)) e) ∙ is))

module _ (lines : List (List ℕ)) (party : List ℕ) where
  abbrev in_force : List Registration
  in_force = registrations_in_force lines

  from_parties : Contains (parties_of (bodies_of in_force)) party → IsPartyInForce lines party
  from_parties has = by (from_all [] (shared (bodies_of in_force)) party has)
    where
      by : IsIn [] (shared (bodies_of in_force)) party → IsPartyInForce lines party
      by (inl none) = absurd (omega (arith, none.1))
      by (inr there) =
          let (registration, among, its) = from_bodies in_force party there in
          let found = found_itself in_force registration (once lines) among in (
            number_of registration,
            share_lines_of registration.body,
            sym (shares_found lines (number_of registration)) ∙ ap (option_map (λ (r : Registration). share_lines_of r.body)) found,
            subst (λ (l : List (List ℕ)). Contains l party) (sym (shared_is registration.body)) its,
          )

  of_found : (number : List ℕ) (shares : List ShareLine) (found : Option Registration) → find (is_numbered number) in_force ≡ found
      → option_map (λ (r : Registration). share_lines_of r.body) found ≡ Some shares → Contains (map (λ (s : ShareLine). s.party) shares) party
      → Contains (parties_of (bodies_of in_force)) party
  of_found number shares None here is its = absurd (none-some shares is)
  of_found number shares (Some registration) here is its =
      let same : share_lines_of registration.body ≡ shares = cc in
      into_all [] (shared (bodies_of in_force)) party
      (inr (into_bodies in_force registration party (found_among number in_force registration here)
      (subst (λ (l : List (List ℕ)). Contains l party) (shared_is registration.body) (subst (λ (l : List ShareLine). Contains (map (λ (s : ShareLine). s.party) l) party) (sym same) its))))

  pub parties_are : Contains (parties_of (bodies_of in_force)) party ↔ IsPartyInForce lines party
  parties_are = (
    from_parties,
    λ here. of_found here.0 here.1 (find (is_numbered here.0) in_force) refl (shares_found lines here.0 ∙ here.2) here.3,
  )
