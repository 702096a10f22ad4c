-- The works of a registry with their share lines, the parties of these, and their payees.
use Rattle.std.proofs.Common.{◌≡◌, ◌<◌, ◌≤◌, ◌↔◌, ◌⊎◌, nat_eq, Some, Vec, Global, ℕ, suc, zero, List, [], ◌∷◌, ◌++◌, length, map, All, Contains, slice_index_or, ap, sym, refl, subst, ◌∙◌, inl, inr, arith}
use Rattle.std.specs.Cmp.Lexicographic.{pointwise}
use Rattle.std.specs.Map.{lookup}
use Rattle.std.specs.List.{AllPairs, IsDistinct, zip}
use Rattle.std.specs.List.Sorted.{IsNonDecreasingBy}
use Rattle.std.proofs.lemmas.Bool.{false_from_ne_true, false≢true}
use Rattle.std.proofs.lemmas.Map.Keys.{apart_from_distinct}
use Rattle.std.proofs.lemmas.Slice.Eq.{bytes_eq-Decides}
use Rattle.std.proofs.lemmas.Slice.Zip.{get_or-zip, length-zip}
use Rattle.std.proofs.lemmas.List.Elements.{All-map, All-tail, All-weaker}
use Rattle.std.proofs.lemmas.List.{get_or-map, get_or_default, length-map, map_push}
use Rattle.cwr_share.specs.Compiled.{AreAccounts, AreKept, AreShort, AreWorkNames, InterestsRise, IsKept, Kept, Numbered, WorkName, accounts_of, kept_lines, names_of, registered_as}
use Rattle.cwr_share.specs.Parties.{AreAccountsOf, HasMany, IsAccountOf, IsAmong, party_of, payee_by}
use Rattle.cwr_share.specs.Payees.{HasRow, IsPayeeIn, payee_of}
use Rattle.cwr_share.specs.InForce.{AreShareLines, works_of}
use Rattle.cwr_share.specs.Registered.{HasFewPayees, IsPartyOf, IsRegistered, IsShareLine}
use Rattle.cwr_share.specs.RegistryOf.{HasTooManyPayees, IsPayeeAmong}
use Rattle.cwr_share.specs.Registrations.{ShareLine, find_work}
use Rattle.cwr_share.specs.declared.TheConstants.{MOST_SHARE_LINES}
use Rattle.cwr_share.specs.declared.cwr_fault.CwrFault.{CwrFault}
use Rattle.cwr_share.specs.declared.cwr_fault.CwrFault.TheVariants.{Accounts, Memory}
use Rattle.cwr_share.proofs.ClaimLemmas.{map_twice}
use Rattle.cwr_share.proofs.CompiledLemmas.{names_as}
use Rattle.cwr_share.proofs.PartyLemmas.{account_found, contains_later, is_named}
use Rattle.cwr_share.proofs.PayeeLemmas.{payee_at}

-- a party with its account
abbrev pub as_party : Numbered → List ℕ × ℕ
as_party party = (party.0.items, party.1)

-- pairs of what a list is mapped to, and of what it is mapped to otherwise
pub pairs_of_maps : {X Y Z : Type 0} (f : X → Y) (g : X → Z) (R : Y → Y → Type 0) (S : Z → Z → Type 0) → ((x y : X) → R (f x) (f y) → S (g x) (g y)) → (xs : List X) → AllPairs R (map f xs) → AllPairs S (map g xs)
pairs_of_maps f g R S so [] pairs i j d before within = absurd (omega (arith, within))
pairs_of_maps f g R S so (x ∷ xs) pairs i j d before within =
    let second : j < length (x ∷ xs) = omega (arith, within, length-map (x ∷ xs) g) in
    let first : i < length (x ∷ xs) = omega (arith, before, second) in
    rw (get_or-map g (x ∷ xs) i x d first, get_or-map g (x ∷ xs) j x d second)
    (so (slice_index_or (x ∷ xs) i x) (slice_index_or (x ∷ xs) j x)
    (rw (get_or-map f (x ∷ xs) i x (f x) first, get_or-map f (x ∷ xs) j x (f x) second) at (pairs i j (f x) before (omega (arith, second, length-map (x ∷ xs) f)))))

-- numbers that do not fall, by what a list is mapped to
pub rises_of_map : {X Y : Type 0} (f : X → Y) (n : Y → ℕ) (xs : List X) → IsNonDecreasingBy (λ x. n (f x)) xs → IsNonDecreasingBy n (map f xs)
rises_of_map f n [] rises i j d low within = absurd (omega (arith, within))
rises_of_map f n (x ∷ xs) rises i j d low within =
    let second : j < length (x ∷ xs) = omega (arith, within, length-map (x ∷ xs) f) in
    let first : i < length (x ∷ xs) = omega (arith, low, second) in
    rw (get_or-map f (x ∷ xs) i x d first, get_or-map f (x ∷ xs) j x d second) (rises i j x low second)

-- where one text follows from another, what is among the ones tells what is among the others
module _ {X : Type 0} (f g : X → List ℕ) (h : List ℕ → List ℕ) where
  pub contains_through : (xs : List X) → All (λ x. g x ≡ h (f x)) xs → (text : List ℕ) → Contains (map f xs) text → Contains (map g xs) (h text)
  contains_through [] agree text there = absurd (omega (arith, there.1))
  contains_through (x ∷ xs) agree text (zero, within, is) = (0, omega arith, agree 0 x (omega arith) ∙ ap h is)
  contains_through (x ∷ xs) agree text (suc k, within, is) =
      contains_later (g x) (map g xs) (h text) (contains_through xs (All-tail (λ x. g x ≡ h (f x)) x xs agree) text (k, omega (arith, within), is))

  pub contains_back : (xs : List X) → All (λ x. g x ≡ h (f x)) xs → (other : List ℕ) → Contains (map g xs) other → (text : List ℕ) × Contains (map f xs) text × (h text ≡ other)
  contains_back [] agree other there = absurd (omega (arith, there.1))
  contains_back (x ∷ xs) agree other (zero, within, is) = (f x, (0, omega arith, refl), sym (agree 0 x (omega arith)) ∙ is)
  contains_back (x ∷ xs) agree other (suc k, within, is) =
      let (text, has, same) = contains_back xs (All-tail (λ x. g x ≡ h (f x)) x xs agree) other (k, omega (arith, within), is) in
      (text, contains_later (f x) (map f xs) text has, same)

-- a pair of maps over what stands beside one another
map-zip : {A B C D : Type 0} (f : A → C) (g : B → D) (xs : List A) (ys : List B) → map (λ (e : A × B). (f e.0, g e.1)) (zip xs ys) ≡ zip (map f xs) (map g ys)
map-zip f g [] ys = refl
map-zip f g (x ∷ xs) [] = refl
map-zip {A} {B} {C} {D} f g (x ∷ xs) (y ∷ ys) = ap (λ (es : List (C × D)). (f x, g y) ∷ es) (map-zip f g xs ys)

-- keys of different texts
pub once_texts : {K : Type 0} (text_of : K → List ℕ) (keys : List K) → IsDistinct (λ key other. pointwise nat_eq (text_of key) (text_of other)) keys
    → AllPairs (λ text other. ¬ (text ≡ other)) (map text_of keys)
once_texts text_of [] distinct i j d before within same = absurd (omega (arith, within))
once_texts text_of (key ∷ keys) distinct i j d before within same =
    let inside : j < length (key ∷ keys) = omega (arith, within, length-map (key ∷ keys) text_of) in
    let earlier : i < length (key ∷ keys) = omega (arith, before, inside) in
    let first = get_or-map text_of (key ∷ keys) i key d earlier in
    let second = get_or-map text_of (key ∷ keys) j key d inside in
    let apart = apart_from_distinct (λ key other. pointwise nat_eq (text_of key) (text_of other)) (key ∷ keys) i j key distinct before inside in
    false≢true (sym apart ∙ (bytes_eq-Decides (text_of (slice_index_or (key ∷ keys) i key)) (text_of (slice_index_or (key ∷ keys) j key))).1 (sym first ∙ same ∙ second))

-- a share line of one of the works has the text
abbrev IsOfWorks : (text_by : ShareLine → List ℕ) → List (List ℕ × List ShareLine) → List ℕ → Type 0
IsOfWorks text_by works text = (work : List ℕ) × (lines : List ShareLine) × Contains works (work, lines) × Contains (map text_by lines) text

-- works that differ, each with its share lines
module _ (names : List (List ℕ)) (lists : List (List ShareLine)) (paired : length names ≡ length lists) where
  beside : (k : ℕ) (d : List ℕ × List ShareLine) → k < length (zip names lists)
      → (k < length names) × (k < length lists) × (slice_index_or (zip names lists) k d ≡ (slice_index_or names k d.0, slice_index_or lists k d.1))
  beside k d within =
      let in_names : k < length names = omega (arith, within, length-zip names lists) in
      let in_lists : k < length lists = omega (arith, in_names) in
      (in_names, in_lists, get_or-zip names lists k d in_names in_lists)

  zip_each : (P : List ShareLine → Type 0) → All P lists → All (λ entry. P entry.1) (zip names lists)
  zip_each P each k d within =
      let (in_names, in_lists, is) = beside k d within in
      subst (λ (entry : List ℕ × List ShareLine). P entry.1) (sym is) (each k d.1 in_lists)

  zip_once : AllPairs (λ text other. ¬ (text ≡ other)) names → AllPairs (λ entry later. ¬ (entry.0 ≡ later.0)) (zip names lists)
  zip_once once i j d before within same =
      let (in_names, in_lists, is) = beside j d within in
      let (first_in_names, first_in_lists, first) = beside i d (omega (arith, before, within)) in
      once i j d.0 before in_names (sym (ap (λ (entry : List ℕ × List ShareLine). entry.0) first) ∙ same ∙ ap (λ (entry : List ℕ × List ShareLine). entry.0) is)

  zip_list : (name : List ℕ) (lines : List ShareLine) → Contains (zip names lists) (name, lines) → Contains lists lines
  zip_list name lines (k, within, at) =
      let (in_names, in_lists, is) = beside k (name, lines) within in
      (k, in_lists, ap (λ (entry : List ℕ × List ShareLine). entry.1) (sym is ∙ at))

  zip_work : (lines : List ShareLine) → Contains lists lines → (name : List ℕ) × Contains (zip names lists) (name, lines)
  zip_work lines (k, within, at) =
      let in_names : k < length names = omega (arith, within, paired) in
      let name = slice_index_or names k [] in
      (name, (k, omega (arith, within, in_names, length-zip names lists), get_or-zip names lists k (name, lines) in_names within ∙ cc (get_or_default names k name [] in_names)))

  -- what the works have is what the lists have
  pub among_zip : (text_by : ShareLine → List ℕ) (text : List ℕ) → IsAmong text_by lists text ↔ IsOfWorks text_by (zip names lists) text
  among_zip text_by text = (there, back)
    where
      there : IsAmong text_by lists text → IsOfWorks text_by (zip names lists) text
      there (lines, inside, at) = let (name, here) = zip_work lines inside in (name, lines, here, at)

      back : IsOfWorks text_by (zip names lists) text → IsAmong text_by lists text
      back (name, lines, inside, at) = (lines, zip_list name lines inside, at)

-- a work that is there once finds what is beside it
pub find_once : (works : List (List ℕ × List ShareLine)) (work : List ℕ) (lines : List ShareLine) → AllPairs (λ entry later. ¬ (entry.0 ≡ later.0)) works
    → Contains works (work, lines) → find_work work works ≡ Some lines
find_once [] work lines once (k, within, is) = absurd (omega (arith, within))
find_once (first ∷ works) work lines once (zero, within, is) = rw ((bytes_eq-Decides first.0 work).1 (ap (λ (entry : List ℕ × List ShareLine). entry.0) is)) (ap (λ (entry : List ℕ × List ShareLine). Some entry.1) is)
find_once (first ∷ works) work lines once (suc k, within, is) =
    rw (false_from_ne_true (pointwise nat_eq first.0 work) (λ same. once 0 (suc k) (work, lines) (omega arith) within ((bytes_eq-Decides first.0 work).0 same ∙ sym (ap (λ (entry : List ℕ × List ShareLine). entry.0) is))))
    (find_once works work lines (λ i j d before inside. once (suc i) (suc j) d (omega (arith, before)) (omega (arith, inside))) (k, omega (arith, within), is))

abbrev items_of : {X : Type 0} → List (Vec X Global) → List (List X)
items_of vectors = map (λ vector. vector.items) vectors

abbrev numbers_of : List WorkName → List (List ℕ)
numbers_of works = map (λ work. work.items) works

-- a registry's works, where each registration has the share lines of its work
pub registered_works : (works : List WorkName) (lists : List (Vec ShareLine Global)) (registrations : List Kept) (parties : List Numbered) (payees : List (Vec ℕ Global))
    → map (kept_lines (names_of parties)) registrations ≡ items_of lists → (registered_as works registrations parties payees).works ≡ works_of works lists
registered_works works lists registrations parties payees same =
    map-zip (λ (work : WorkName). work.items) (kept_lines (names_of parties)) works registrations
    ∙ ap (zip (numbers_of works)) same
    ∙ sym (map-zip (λ (work : WorkName). work.items) (λ (lines : Vec ShareLine Global). lines.items) works lists)

module _ (works : List WorkName) (lists : List (Vec ShareLine Global)) (paired : length works ≡ length lists)
    (once : IsDistinct (λ (work other : WorkName). pointwise nat_eq work.items other.items) works) where
  zipped : works_of works lists ≡ zip (numbers_of works) (items_of lists)
  zipped = map-zip (λ (work : WorkName). work.items) (λ (lines : Vec ShareLine Global). lines.items) works lists

  beside_items : length (numbers_of works) ≡ length (items_of lists)
  beside_items = length-map works (λ (work : WorkName). work.items) ∙ paired ∙ sym (length-map lists (λ (lines : Vec ShareLine Global). lines.items))

  pub once_works : AllPairs (λ entry later. ¬ (entry.0 ≡ later.0)) (works_of works lists)
  once_works = subst (AllPairs (λ entry later. ¬ (entry.0 ≡ later.0))) (sym zipped) (zip_once (numbers_of works) (items_of lists) beside_items (once_texts (λ (work : WorkName). work.items) works once))

  each_work : (P : List ShareLine → Type 0) → All (λ lines. P lines.items) lists → All (λ entry. P entry.1) (works_of works lists)
  each_work P each = subst (All (λ entry. P entry.1)) (sym zipped) (zip_each (numbers_of works) (items_of lists) beside_items P (All-map P (λ (lines : Vec ShareLine Global). lines.items) lists each))

  -- what holds of whatever a work finds holds of each list
  each_list : (P : List ShareLine → Type 0) → ((work : List ℕ) (shares : List ShareLine) → find_work work (works_of works lists) ≡ Some shares → P shares)
      → (lines : List ShareLine) → Contains (items_of lists) lines → P lines
  each_list P holds lines inside =
      let (name, here) = zip_work (numbers_of works) (items_of lists) beside_items lines inside in
      holds name lines (find_once (works_of works lists) name lines once_works (subst (λ (entries : List (List ℕ × List ShareLine)). Contains entries (name, lines)) (sym zipped) here))

  pub list_at : (P : List ShareLine → Type 0) → ((work : List ℕ) (shares : List ShareLine) → find_work work (works_of works lists) ≡ Some shares → P shares)
      → (k : ℕ) (lines : Vec ShareLine Global) → k < length lists → slice_index_or lists k lines ≡ lines → P lines.items
  list_at P holds k lines inside is =
      each_list P holds lines.items (
        k,
        omega (arith, inside, length-map lists (λ (lines : Vec ShareLine Global). lines.items)),
        get_or-map (λ (lines : Vec ShareLine Global). lines.items) lists k lines lines.items inside ∙ ap (λ (lines : Vec ShareLine Global). lines.items) is,
      )

  among_works : (text_by : ShareLine → List ℕ) (text : List ℕ) → IsAmong text_by (items_of lists) text ↔ IsOfWorks text_by (works_of works lists) text
  among_works text_by text =
      subst (λ (works : List (List ℕ × List ShareLine)). IsAmong text_by (items_of lists) text ↔ IsOfWorks text_by works text) (sym zipped) (among_zip (numbers_of works) (items_of lists) beside_items text_by text)

  -- what many payees of the lists are for the works
  pub many_found : (rows : List (List ℕ × List ℕ)) → HasMany rows (items_of lists) → HasTooManyPayees rows (λ work. find_work work (works_of works lists))
  many_found rows (payees, rising, each, many) =
      record {
        payees = payees;
        rising = rising;
        each = All-weaker (IsAmong (payee_by rows) (items_of lists)) (IsPayeeAmong rows (λ work. find_work work (works_of works lists))) (λ payee among. found payee ((among_works (payee_by rows) payee).0 among)) payees each;
        many = many;
      }
    where
      found : (payee : List ℕ) → IsOfWorks (payee_by rows) (works_of works lists) payee → IsPayeeAmong rows (λ work. find_work work (works_of works lists)) payee
      found payee (work, lines, inside, at) = (work, lines, find_once (works_of works lists) work lines once_works inside, at)

  module _ (rows : List (List ℕ × List ℕ)) (registrations : List Kept) (parties : List Numbered) (payees : List (Vec ℕ Global))
      (accounts : AreAccountsOf rows (items_of lists) (map as_party parties) (items_of payees)) where
    abbrev as_row : Numbered → List ℕ × List ℕ
    as_row party = (party.0.items, slice_index_or (items_of payees) party.1 [])

    -- the parties of the rows are the parties by number
    same_names : map (λ (row : List ℕ × List ℕ). row.0) (map as_row parties) ≡ map (λ (party : List ℕ × ℕ). party.0) (map as_party parties)
    same_names = map_twice as_row (λ row. row.0) parties ∙ sym (map_twice as_party (λ party. party.0) parties)

    paid_at : (place : ℕ) (d : Numbered) → place < length parties → IsAccountOf (items_of payees) (payee_of rows (slice_index_or parties place d).0.items) (slice_index_or parties place d).1
    paid_at place d within =
        subst (λ (party : List ℕ × ℕ). IsAccountOf (items_of payees) (payee_of rows party.0) party.1) (get_or-map as_party parties place d ([], 0) within)
        (accounts.paid place ([], 0) (omega (arith, within, length-map parties as_party)))

    -- each row has the payee of its party
    pub paid_rows : All (λ row. row.1 ≡ payee_of rows row.0) (map as_row parties)
    paid_rows = All-map (λ (row : List ℕ × List ℕ). row.1 ≡ payee_of rows row.0) as_row parties (λ place d within. (paid_at place d within).2)

    one_row : AllPairs (λ row later. ¬ (row.0 ≡ later.0)) (map as_row parties)
    one_row = pairs_of_maps as_party as_row (λ party later. ¬ (party.0 ≡ later.0)) (λ row later. ¬ (row.0 ≡ later.0)) (λ party later apart. apart) parties accounts.once

    -- the parties have rows
    has_row : (party : List ℕ) → HasRow (map as_row parties) party ↔ IsPartyOf (works_of works lists) party
    has_row party = (
      λ has. (among_works party_of party).0 ((accounts.each.exact party).0 (subst (λ (names : List (List ℕ)). Contains names party) same_names has)),
      λ of. subst (λ (names : List (List ℕ)). Contains names party) (sym same_names) ((accounts.each.exact party).1 ((among_works party_of party).1 of)),
    )

    -- the names are the payees of the rows
    named : (payee : List ℕ) → Contains accounts.names payee ↔ IsPayeeIn (map as_row parties) payee
    named payee = (λ has. there ((accounts.exact.exact payee).0 has), λ has. (accounts.exact.exact payee).1 (back has))
      where
        paid_name : Numbered → List ℕ
        paid_name party = slice_index_or (items_of payees) party.1 []

        agree : All (λ (party : Numbered). paid_name party ≡ payee_of rows party.0.items) parties
        agree place d within = (paid_at place d within).2

        there : IsAmong (payee_by rows) (items_of lists) payee → IsPayeeIn (map as_row parties) payee
        there (lines, inside, at) =
            let (party, has, same) = contains_back party_of (payee_by rows) (payee_of rows) lines (λ place d within. refl) payee at in
            let number = subst (λ (names : List (List ℕ)). Contains names party) (map_twice as_party (λ (party : List ℕ × ℕ). party.0) parties) ((accounts.each.exact party).1 (lines, inside, has)) in
            let paid = contains_through (λ (party : Numbered). party.0.items) paid_name (payee_of rows) parties agree party number in
            subst (λ (names : List (List ℕ)). Contains names payee) (sym (map_twice as_row (λ (row : List ℕ × List ℕ). row.1) parties)) (subst (Contains (map paid_name parties)) same paid)

        back : IsPayeeIn (map as_row parties) payee → IsAmong (payee_by rows) (items_of lists) payee
        back has =
            let paid = subst (λ (names : List (List ℕ)). Contains names payee) (map_twice as_row (λ (row : List ℕ × List ℕ). row.1) parties) has in
            let (party, number, same) = contains_back (λ (party : Numbered). party.0.items) paid_name (payee_of rows) parties agree payee paid in
            let (lines, inside, at) = (accounts.each.exact party).0 (subst (λ (names : List (List ℕ)). Contains names party) (sym (map_twice as_party (λ (party : List ℕ × ℕ). party.0) parties)) number) in
            (lines, inside, subst (Contains (map (payee_by rows) lines)) same (contains_through party_of (payee_by rows) (payee_of rows) lines (λ place d within. refl) party at))

    -- what holds of whatever a work finds holds of each work
    each_found : (P : List ShareLine → Type 0) → ((work : List ℕ) (shares : List ShareLine) → find_work work (works_of works lists) ≡ Some shares → P shares)
        → All (λ entry. P entry.1) (works_of works lists)
    each_found P holds k d within =
        let entry = slice_index_or (works_of works lists) k d in
        holds entry.0 entry.1
        (find_once (works_of works lists) entry.0 entry.1 once_works (k, within, get_or_default (works_of works lists) k entry d within))

    -- the parties of the works are paid by the rows as by the table
    paid_alike : (entry : List ℕ × List ShareLine) → Contains (works_of works lists) entry → HasFewPayees (payee_of rows) entry.1 → HasFewPayees (payee_of (map as_row parties)) entry.1
    paid_alike entry inside (few, many, all) = (
      few,
      many,
      λ k d within.
          let line = slice_index_or entry.1 k d in
          let has = (has_row line.party).1 (entry.0, entry.1, inside, (k, omega (arith, within, length-map entry.1 (λ (line : ShareLine). line.party)), get_or-map (λ (line : ShareLine). line.party) entry.1 k d line.party within)) in
          subst (Contains few) (sym (paid_by_row line.party has)) (all k d within),
    )
      where
        paid_by_row : (party : List ℕ) → HasRow (map as_row parties) party → payee_of (map as_row parties) party ≡ payee_of rows party
        paid_by_row party (place, inside, at) =
            let payees = map as_row parties in
            let within : place < length payees = omega (arith, inside, length-map payees (λ (row : List ℕ × List ℕ). row.0)) in
            let whose : (slice_index_or payees place ([], [])).0 ≡ party = sym (get_or-map (λ (row : List ℕ × List ℕ). row.0) payees place ([], []) party within) ∙ at in
            ap (payee_of payees) (sym whose) ∙ (payee_at payees one_row place ([], []) within ∙ (paid_rows place ([], []) within ∙ ap (payee_of rows) whose))

    -- what is read is a registry's
    pub registered : All (λ lines. AreShareLines lines.items) lists → map (kept_lines (names_of parties)) registrations ≡ items_of lists
        → ((work : List ℕ) (shares : List ShareLine) → find_work work (works_of works lists) ≡ Some shares → length shares ≤ MOST_SHARE_LINES)
        → ((work : List ℕ) (shares : List ShareLine) → find_work work (works_of works lists) ≡ Some shares → HasFewPayees (payee_of rows) shares)
        → IsRegistered (registered_as works registrations parties payees)
    registered sound same few few_payees =
        subst (λ (registered : List (List ℕ × List ShareLine)). IsRegistered (record { works = registered; payees = map as_row parties; accounts = items_of payees }))
        (sym (registered_works works lists registrations parties payees same))
        (record {
          once = once_works;
          few = each_found (λ lines. length lines ≤ MOST_SHARE_LINES) few;
          few_payees = λ k d within. paid_alike (slice_index_or (works_of works lists) k d) (k, within, get_or_default (works_of works lists) k (slice_index_or (works_of works lists) k d) d within)
              (each_found (HasFewPayees (payee_of rows)) few_payees k d within);
          shares = each_work (All IsShareLine) (λ k d within. (sound k d within).sound);
          one_payee = one_row;
          in_force = has_row;
          names = accounts.names;
          accounts = accounts.accounts;
          few_names = accounts.few;
          rising = accounts.rising;
          exact = named;
        })

    -- its parties have their accounts
    pub have_accounts : AreAccounts (registered_as works registrations parties payees) (accounts_of parties)
    have_accounts = record {
      exact = map_twice as_row (λ row. row.1) parties ∙ sym (map_twice (λ (party : Numbered). party.1) (λ account. slice_index_or (items_of payees) account []) parties);
      some = All-map (λ account. (0 < account) × (account < length (items_of payees))) (λ (party : Numbered). party.1) parties (λ place d within. ((paid_at place d within).0, (paid_at place d within).1));
      ordered = pairs_of_maps as_party (λ (party : Numbered). party.1) (λ party later. party.1 ≤ later.1) (λ account later. account ≤ later) (λ party later order. order) parties
          (λ i j d before within. accounts.ordered i j d (omega (arith, before)) within);
    }

-- and it is kept for its claims
pub kept_for_claims : (works : List WorkName) (lists : List (Vec ShareLine Global)) (registrations : List Kept) (parties : List Numbered) (payees : List (Vec ℕ Global)) → length works ≡ length lists
    → AreWorkNames works → AreShort (names_of parties) → All (λ lines. AreShareLines lines.items) lists → map (kept_lines (names_of parties)) registrations ≡ items_of lists
    → AreAccounts (registered_as works registrations parties payees) (accounts_of parties) → All (IsKept (names_of parties) (accounts_of parties)) registrations
    → AreKept works registrations parties payees
kept_for_claims works lists registrations parties payees paired short names sound same accounts kept = record {
  paired = paired ∙ sym (length-map lists (λ (lines : Vec ShareLine Global). lines.items)) ∙ sym (ap length same) ∙ length-map registrations (kept_lines (names_of parties));
  short = short;
  names = names;
  accounts = accounts;
  kept = kept;
  rise = rise;
}
  where
    rise : All (λ registration. InterestsRise (kept_lines (names_of parties) registration)) registrations
    rise k d within =
        subst InterestsRise (get_or-map (kept_lines (names_of parties)) registrations k d [] within)
        (subst (All InterestsRise) (sym same) (All-map InterestsRise (λ (lines : Vec ShareLine Global). lines.items) lists (λ j e inside. (sound j e inside).rise))
        k [] (omega (arith, within, length-map registrations (kept_lines (names_of parties)))))

-- one registration more
module _ (parties : List (List ℕ)) (registrations : List Kept) (registration : Kept) (yielded : List (Vec ShareLine Global)) (lines : Vec ShareLine Global)
    (is : kept_lines parties registration ≡ lines.items) where
  pub lists_next : map (kept_lines parties) registrations ≡ items_of yielded
      → map (kept_lines parties) (registrations ++ registration ∷ []) ≡ items_of (yielded ++ lines ∷ [])
  lists_next same =
      map_push (kept_lines parties) registrations registration
      ∙ cc (same, is)
      ∙ sym (map_push (λ (lines : Vec ShareLine Global). lines.items) yielded lines)

-- the parties of each list have numbers
pub known_in : (rows : List (List ℕ × List ℕ)) (lists : List (Vec ShareLine Global)) (parties : List Numbered) (payees : List (List ℕ)) (lines : Vec ShareLine Global) → Contains lists lines
    → AreAccountsOf rows (items_of lists) (map as_party parties) payees → All (λ line. Contains (names_of parties) line.party) lines.items
known_in rows lists parties payees lines (place, within, is) accounts k d inside =
    subst (λ (names : List (List ℕ)). Contains names party) (map_twice as_party (λ (party : List ℕ × ℕ). party.0) parties)
    ((accounts.each.exact party).1 (lines.items, here, (k, omega (arith, inside, length-map lines.items (λ (line : ShareLine). line.party)), at)))
  where
    party : List ℕ
    party = (slice_index_or lines.items k d).party

    here : Contains (items_of lists) lines.items
    here = (place, omega (arith, within, length-map lists (λ (lines : Vec ShareLine Global). lines.items)), get_or-map (λ (lines : Vec ShareLine Global). lines.items) lists place lines lines.items within ∙ ap (λ (lines : Vec ShareLine Global). lines.items) is)

    at : slice_index_or (map party_of lines.items) k party ≡ party
    at = get_or-map (λ (line : ShareLine). line.party) lines.items k d party inside

-- no two parties have one number
pub once_in : (rows : List (List ℕ × List ℕ)) (lists : List (List ShareLine)) (parties : List Numbered) (payees : List (List ℕ)) → AreAccountsOf rows lists (map as_party parties) payees
    → AllPairs (λ name later. ¬ (name ≡ later)) (names_of parties)
once_in rows lists parties payees accounts = pairs_of_maps as_party (λ (party : Numbered). party.0.items) (λ party later. ¬ (party.0 ≡ later.0)) (λ name later. ¬ (name ≡ later)) (λ party later apart. apart) parties accounts.once

-- what the lists are refused for, the works are refused for
pub many_works : (rows : List (List ℕ × List ℕ)) (works : List WorkName) (lists : List (Vec ShareLine Global)) (fault : CwrFault) → length works ≡ length lists
    → IsDistinct (λ (work other : WorkName). pointwise nat_eq work.items other.items) works
    → (fault ≡ Memory) ⊎ ((fault ≡ Accounts) × HasMany rows (items_of lists))
    → (fault ≡ Memory) ⊎ ((fault ≡ Accounts) × HasTooManyPayees rows (λ work. find_work work (works_of works lists)))
many_works rows works lists fault paired once (inl memory) = inl memory
many_works rows works lists fault paired once (inr (accounts, many)) = inr (accounts, many_found works lists paired once rows many)

-- the payee of a party that has an account
module _ (works : List WorkName) (registrations : List Kept) (parties : List Numbered) (payees : List (Vec ℕ Global)) (sound : IsRegistered (registered_as works registrations parties payees)) where
  abbrev rows : List (List ℕ × List ℕ)
  rows = (registered_as works registrations parties payees).payees

  abbrev kept_row : Numbered → List ℕ × List ℕ
  kept_row party = (party.0.items, slice_index_or (items_of payees) party.1 [])

  pub payee_kept : AreAccounts (registered_as works registrations parties payees) (accounts_of parties) → (text : List ℕ) (account : ℕ) → lookup (is_named text) parties ≡ Some account
      → HasRow rows text × (account < length payees) × (slice_index_or (items_of payees) account [] ≡ payee_of rows text)
  payee_kept are text account found =
      let (place, within, name, at) = account_found text parties account found in
      let texts = items_of payees in
      let inside : place < length rows = omega (arith, within, length-map parties kept_row) in
      let named : place < length (names_of parties) = omega (arith, within, length-map parties (λ (party : Numbered). party.0.items)) in
      let numbered : place < length (accounts_of parties) = omega (arith, within, length-map parties (λ (party : Numbered). party.1)) in
      let has : Contains (names_of parties) text = (place, named, get_or_default (names_of parties) place text [] named ∙ name) in
      let party : (slice_index_or rows place ([], [])).0 ≡ text =
      sym (get_or-map (λ (row : List ℕ × List ℕ). row.0) rows place ([], []) [] inside) ∙ (ap (λ (names : List (List ℕ)). slice_index_or names place []) (names_as works registrations parties payees) ∙ name) in
      let seconds : map (λ (row : List ℕ × List ℕ). row.1) rows ≡ map (λ account. slice_index_or texts account []) (accounts_of parties) =
      map_twice kept_row (λ row. row.1) parties ∙ sym (map_twice (λ (party : Numbered). party.1) (λ account. slice_index_or texts account []) parties) in
      let paid : (slice_index_or rows place ([], [])).1 ≡ slice_index_or texts account [] =
      sym (get_or-map (λ (row : List ℕ × List ℕ). row.1) rows place ([], []) [] inside)
      ∙ (ap (λ (names : List (List ℕ)). slice_index_or names place []) seconds
      ∙ (get_or-map (λ (account : ℕ). slice_index_or texts account []) (accounts_of parties) place 0 [] numbered ∙ ap (λ (account : ℕ). slice_index_or texts account []) at)) in (
        subst (λ (names : List (List ℕ)). Contains names text) (sym (names_as works registrations parties payees)) has,
        omega (arith, at, (are.some place 0 numbered).1, length-map payees (λ (payee : Vec ℕ Global). payee.items)),
        sym paid ∙ (sym (payee_at rows sound.one_payee place ([], []) inside) ∙ ap (payee_of rows) party),
      )
