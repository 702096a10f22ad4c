-- A file and a table of payees have one registry: its works find the same share lines, and it has the same payees. And a file of registrations is refused for nothing but memory.
use Rattle.std.proofs.Common.{◌≡◌, ◌∙◌, ◌∷◌, ◌++◌, ◌<◌, ◌≤◌, ◌+◌, ◌↔◌, ℕ, Bool, true, false, List, [], All, Contains, Option, Some, count_by, length, map, slice_index_or, ap, ◌⊎◌, sym, subst, refl, inl, inr, arith, nat_eq}
use Rattle.std.specs.Cmp.{IsTotalOrder}
use Rattle.std.specs.Cmp.Lexicographic.{nat_list_cmp_total, pointwise, slice_cmp}
use Rattle.std.specs.Ordering.{nat_cmp}
use Rattle.std.proofs.lemmas.Bool.{false≢true}
use Rattle.std.specs.List.Sorted.{IsStrictlySortedBy}
use Rattle.std.specs.declared.cmp.Ordering.{Ordering}
use Rattle.std.specs.declared.cmp.Ordering.TheVariants.{Less}
use Rattle.std.proofs.lemmas.Cmp.{tied_itself}
use Rattle.std.proofs.lemmas.List.{get_or-map, length-map}
use Rattle.std.proofs.lemmas.List.Elements.{All-cons, All-contains, All-tail, All-weaker, Contains-get_or}
use Rattle.std.proofs.lemmas.Map.Keys.{sorted_tail}
use Rattle.std.proofs.lemmas.Map.Views.{All-after_first}
use Rattle.std.proofs.lemmas.Slice.Eq.{bytes_eq-Decides}
use Rattle.csv_table.specs.FirstFault.{IsFirstFault}
use Rattle.csv_table.proofs.InTurn.{sound_at}
use Rattle.cwr_share.specs.CwrFile.{AreSound, IsFaultOf, IsFaultOfLine, IsFaultOfOpening, IsFaultOfShare, IsFileOf, IsOpening, IsPartyInForce, IsShareRecord, IsSound}
use Rattle.cwr_share.specs.Parties.{party_of, payee_by}
use Rattle.cwr_share.specs.Payees.{HasRow, IsPayeeIn, payee_of}
use Rattle.cwr_share.specs.Records.{is_share_line, share_fields}
use Rattle.cwr_share.specs.Registered.{IsRegistered, Registered}
use Rattle.cwr_share.specs.RegistryOf.{HasTooManyPayees, IsPartyAmong, IsPayeeAmong, IsRegistryOf}
use Rattle.cwr_share.specs.Registrations.{ShareLine, find_work, shares_in_force}
use Rattle.cwr_share.specs.declared.cwr_fault.CwrFault.{CwrFault}
use Rattle.cwr_share.specs.declared.cwr_fault.CwrFault.TheVariants.{Short, Share, Mark, Land, Party, Work, Many, Accounts, Memory}
use Rattle.cwr_share.specs.declared.fields.ShareFields.{ShareFields}
use Rattle.cwr_share.proofs.PartyLemmas.{contains_cases, contains_later}
use Rattle.cwr_share.proofs.PartyWorks.{contains_back, contains_through, find_once}
use Rattle.cwr_share.proofs.PayeeLemmas.{payee_at, payee_of_itself, payee_of_others}

-- what finds the share lines of a work
abbrev pub Finds : Type 0
Finds = List ℕ → Option (List ShareLine)

module _ {K : Type 0} {order : K → K → Ordering} (total : IsTotalOrder order) where
  -- nothing comes before itself
  pub not_before_itself : (x y : K) → order x y ≡ Less → ¬ (x ≡ y)
  not_before_itself x y less same =
      let itself : order y y ≡ Less = subst (λ z. order z y ≡ Less) same less in
      let level = tied_itself total y in
      cc

  -- the elements of a list that come after one are among those after it
  among_later : (y : K) (xs ys : List K) → All (λ x. order y x ≡ Less) xs → All (Contains (y ∷ ys)) xs → All (Contains ys) xs
  among_later y xs ys above inside k d within =
      elim (contains_cases y ys (slice_index_or xs k d) (inside k d within)) [
        | inl is ↦ absurd (not_before_itself y (slice_index_or xs k d) (above k d within) is)
        | inr later ↦ later
      ]

  -- what comes after the first of a list in order comes after what is before that
  after_before : (x y : K) (xs : List K) → order y x ≡ Less → IsStrictlySortedBy order (x ∷ xs) → All (λ z. order y z ≡ Less) (x ∷ xs)
  after_before x y xs less rising =
      All-cons (λ z. order y z ≡ Less) x xs less (λ k d within. total.trans y x (slice_index_or xs k d) less (All-after_first order x xs rising k d within))

  -- an element of a list in order is its first or comes after that
  first_or_after : (x y : K) (ys : List K) → IsStrictlySortedBy order (y ∷ ys) → Contains (y ∷ ys) x → (y ≡ x) ⊎ ((order y x ≡ Less) × Contains ys x)
  first_or_after x y ys rising inside = elim (contains_cases y ys x inside) [
    | inl is ↦ inl is
    | inr later ↦ inr (All-contains (λ z. order y z ≡ Less) ys x (All-after_first order y ys rising) later, later)
  ]

  -- where the first elements are one, the later ones are among the later ones
  later_among : (x y : K) (xs ys : List K) → y ≡ x → IsStrictlySortedBy order (x ∷ xs) → All (Contains (y ∷ ys)) (x ∷ xs) → All (Contains ys) xs
  later_among x y xs ys same rising inside =
      among_later y xs ys (subst (λ z. All (λ w. order z w ≡ Less) xs) (sym same) (All-after_first order x xs rising)) (All-tail (Contains (y ∷ ys)) x xs inside)

  -- elements in order that are all among others in order are no more than these
  pub length-among : (xs ys : List K) → IsStrictlySortedBy order xs → IsStrictlySortedBy order ys → All (Contains ys) xs → length xs ≤ length ys
  length-among [] ys rising rises inside = omega arith
  length-among (x ∷ xs) [] rising rises inside = absurd (omega (arith, (inside 0 x (omega arith)).1))
  length-among (x ∷ xs) (y ∷ ys) rising rises inside =
      on (first_or_after x y ys rises (inside 0 x (omega arith))) (length-among xs ys (sorted_tail order x xs rising) (sorted_tail order y ys rises))
      (length-among (x ∷ xs) ys rising (sorted_tail order y ys rises))
    where
      on : (y ≡ x) ⊎ ((order y x ≡ Less) × Contains ys x) → (All (Contains ys) xs → length xs ≤ length ys) → (All (Contains ys) (x ∷ xs) → length (x ∷ xs) ≤ length ys)
          → length (x ∷ xs) ≤ length (y ∷ ys)
      on (inl same) fewer all = omega (arith, fewer (later_among x y xs ys same rising inside))
      on (inr (less, later)) fewer all = omega (arith, all (among_later y (x ∷ xs) ys (after_before x y xs less rising) inside))

  -- two lists in order with the same elements are one
  pub one-in_order : (xs ys : List K) → IsStrictlySortedBy order xs → IsStrictlySortedBy order ys → All (Contains ys) xs → All (Contains xs) ys → xs ≡ ys
  one-in_order [] [] rising rises inside back = refl
  one-in_order [] (y ∷ ys) rising rises inside back = absurd (omega (arith, (back 0 y (omega arith)).1))
  one-in_order (x ∷ xs) [] rising rises inside back = absurd (omega (arith, (inside 0 x (omega arith)).1))
  one-in_order (x ∷ xs) (y ∷ ys) rising rises inside back =
      let same = on (first_or_after x y ys rises (inside 0 x (omega arith))) (first_or_after y x xs rising (back 0 y (omega arith))) in
      let later = one-in_order xs ys (sorted_tail order x xs rising) (sorted_tail order y ys rises)
      (later_among x y xs ys same rising inside) (later_among y x ys xs (sym same) rises back) in
      cc
    where
      on : (y ≡ x) ⊎ ((order y x ≡ Less) × Contains ys x) → (x ≡ y) ⊎ ((order x y ≡ Less) × Contains xs y) → y ≡ x
      on (inl same) other = same
      on (inr above) (inl same) = sym same
      on (inr (less, later)) (inr (more, after)) = absurd (not_before_itself x x (total.trans x y x more less) refl)

-- the payees of a registry rise
names_rise : (registered : Registered) (is : IsRegistered registered) → IsStrictlySortedBy (slice_cmp nat_cmp) is.names
names_rise registered is = sorted_tail (slice_cmp nat_cmp) [] is.names (subst (IsStrictlySortedBy (slice_cmp nat_cmp)) is.accounts is.rising)

-- what a work finds is one of the works
pub found_inside : (works : List (List ℕ × List ShareLine)) (work : List ℕ) (lines : List ShareLine) → find_work work works ≡ Some lines → Contains works (work, lines)
found_inside [] work lines found = cc
found_inside ((name, list) ∷ works) work lines found = on (pointwise nat_eq name work) refl (found_inside works work lines)
  where
    on : (told : Bool) → pointwise nat_eq name work ≡ told → (find_work work works ≡ Some lines → Contains works (work, lines)) → Contains ((name, list) ∷ works) (work, lines)
    on true is later =
        let same : name ≡ work = (bytes_eq-Decides name work).0 is in
        let here : Some list ≡ Some lines = rw is at found in
        (0, omega arith, cc)
    on false is later = contains_later (name, list) works (work, lines) (later (rw is at found))

-- two registries of one list of works find the same
pub one_works : (rows : List (List ℕ × List ℕ)) (shares_of : Finds) (registered other : Registered) → IsRegistryOf rows shares_of registered → IsRegistryOf rows shares_of other
    → (work : List ℕ) → find_work work registered.works ≡ find_work work other.works
one_works rows shares_of registered other of other_of work = of.in_force work ∙ sym (other_of.in_force work)

-- the parties of a registry are those in force, and it has the payees of these
module _ (rows : List (List ℕ × List ℕ)) (shares_of : Finds) (registered : Registered) (of : IsRegistryOf rows shares_of registered) (is : IsRegistered registered) where
  in_force_of_row : (party : List ℕ) → HasRow registered.payees party → IsPartyAmong shares_of party
  in_force_of_row party has =
      let (work, shares, here, at) = (is.in_force party).0 has in
      (work, shares, sym (of.in_force work) ∙ find_once registered.works work shares is.once here, at)

  row_in_force : (party : List ℕ) → IsPartyAmong shares_of party → HasRow registered.payees party
  row_in_force party (work, shares, found, at) = (is.in_force party).1 (work, shares, found_inside registered.works work shares (of.in_force work ∙ found), at)

  -- each row is paid by the table
  paid_by : All (λ row. row.1 ≡ payee_of rows row.0) registered.payees
  paid_by = of.paid

  name_in_force : (payee : List ℕ) → Contains is.names payee → IsPayeeAmong rows shares_of payee
  name_in_force payee inside =
      let (party, has, same) = contains_back (λ (row : List ℕ × List ℕ). row.0) (λ row. row.1) (payee_of rows) registered.payees paid_by payee ((is.exact payee).0 inside) in
      let (work, shares, found, at) = in_force_of_row party has in
      (work, shares, found, subst (Contains (map (payee_by rows) shares)) same (contains_through party_of (payee_by rows) (payee_of rows) shares (λ place d within. refl) party at))

  in_force_name : (payee : List ℕ) → IsPayeeAmong rows shares_of payee → Contains is.names payee
  in_force_name payee (work, shares, found, at) =
      let (party, has, same) = contains_back party_of (payee_by rows) (payee_of rows) shares (λ place d within. refl) payee at in
      let row = row_in_force party (work, shares, found, has) in
      (is.exact payee).1
      (subst (IsPayeeIn registered.payees) same (contains_through (λ (row : List ℕ × List ℕ). row.0) (λ row. row.1) (payee_of rows) registered.payees paid_by party row))

  -- a party in force has its payee by the table, and any other is its own
  paid_in_force : (party : List ℕ) → HasRow registered.payees party → payee_of registered.payees party ≡ payee_of rows party
  paid_in_force party (place, within, at) =
      let payees = registered.payees in
      let inside : place < length payees = omega (arith, within, length-map payees (λ (row : List ℕ × List ℕ). row.0)) in
      let whose : (slice_index_or payees place ([], [])).0 ≡ party =
      sym (get_or-map (λ (row : List ℕ × List ℕ). row.0) payees place ([], []) party inside) ∙ at in
      ap (payee_of payees) (sym whose)
      ∙ (payee_at payees is.one_payee place ([], []) inside
      ∙ (of.paid place ([], []) inside ∙ ap (payee_of rows) whose))

-- the payees of a registry are payees of any other
same_names : (rows : List (List ℕ × List ℕ)) (shares_of : Finds) (registered other : Registered) → IsRegistryOf rows shares_of registered → IsRegistryOf rows shares_of other
    → (is : IsRegistered registered) (other_is : IsRegistered other) → All (Contains other_is.names) is.names
same_names rows shares_of registered other of other_of is other_is k d within =
    let name = slice_index_or is.names k d in
    in_force_name rows shares_of other other_of other_is name (name_in_force rows shares_of registered of is name (Contains-get_or is.names k d within))

-- two registries of one list of works have the same accounts
pub one_parties : (rows : List (List ℕ × List ℕ)) (shares_of : Finds) (registered other : Registered) → IsRegistryOf rows shares_of registered → IsRegistryOf rows shares_of other
    → IsRegistered registered → IsRegistered other → registered.accounts ≡ other.accounts
one_parties rows shares_of registered other of other_of is other_is =
    let same = one-in_order nat_list_cmp_total is.names other_is.names (names_rise registered is) (names_rise other other_is)
    (same_names rows shares_of registered other of other_of is other_is) (same_names rows shares_of other registered other_of of other_is is) in
    is.accounts ∙ ap (λ (names : List (List ℕ)). [] ∷ names) same ∙ sym other_is.accounts

-- and each party has the same payee in them
pub one_payees : (rows : List (List ℕ × List ℕ)) (shares_of : Finds) (registered other : Registered) → IsRegistryOf rows shares_of registered → IsRegistryOf rows shares_of other
    → IsRegistered registered → IsRegistered other → (party : List ℕ) → payee_of registered.payees party ≡ payee_of other.payees party
one_payees rows shares_of registered other of other_of is other_is party = elim (has_row registered.payees party) [
  | inl has ↦
      let there = row_in_force rows shares_of other other_of other_is party (in_force_of_row rows shares_of registered of is party has) in
      paid_in_force rows shares_of registered of is party has ∙ sym (paid_in_force rows shares_of other other_of other_is party there)
  | inr none ↦
      let nor : ¬ HasRow other.payees party = λ has. none (row_in_force rows shares_of registered of is party (in_force_of_row rows shares_of other other_of other_is party has)) in
      payee_of_itself registered.payees party none ∙ sym (payee_of_itself other.payees party nor)
]
  where
    has_row : (payees : List (List ℕ × List ℕ)) (party : List ℕ) → HasRow payees party ⊎ ¬ HasRow payees party
    has_row [] party = inr (λ has. absurd (omega (arith, has.1)))
    has_row (row ∷ payees) party = on (pointwise nat_eq row.0 party) refl (has_row payees party)
      where
        on : (told : Bool) → pointwise nat_eq row.0 party ≡ told → HasRow payees party ⊎ ¬ HasRow payees party → HasRow (row ∷ payees) party ⊎ ¬ HasRow (row ∷ payees) party
        on true its rest = inl (0, omega arith, (bytes_eq-Decides row.0 party).0 its)
        on false other (inl has) = inl (contains_later row.0 (map (λ row. row.0) payees) party has)
        on false other (inr none) = inr (λ has. elim (contains_cases row.0 (map (λ row. row.0) payees) party has) [
          | inl is ↦ false≢true (sym other ∙ (bytes_eq-Decides row.0 party).1 is)
          | inr later ↦ none later
        ])

-- two tables that pay the parties in force alike have the same registrations, and are refused for the same
module _ (rows others : List (List ℕ × List ℕ)) (lines : List (List ℕ)) (alike : (party : List ℕ) → IsPartyInForce lines party → payee_of rows party ≡ payee_of others party) where
  alike_file : (registered : Registered) → IsRegistered registered → IsFileOf rows lines registered → IsFileOf others lines registered
  alike_file registered is of = record {
    sound = of.sound;
    registry = record {
      in_force = of.registry.in_force;
      paid = λ place d within.
          let party = (slice_index_or registered.payees place d).0 in
          let has : HasRow registered.payees party =
          (place, omega (arith, within, length-map registered.payees (λ (row : List ℕ × List ℕ). row.0)), get_or-map (λ (row : List ℕ × List ℕ). row.0) registered.payees place d party within) in
          of.registry.paid place d within ∙ alike party (in_force_of_row rows (shares_in_force lines) registered of.registry is party has);
    };
  }

  alike_payee : (payee : List ℕ) → IsPayeeAmong rows (shares_in_force lines) payee → IsPayeeAmong others (shares_in_force lines) payee
  alike_payee payee (work, shares, found, at) =
      let (party, has, same) = contains_back party_of (payee_by rows) (payee_of rows) shares (λ place d within. refl) payee at in
      let its = sym (alike party (work, shares, found, has)) ∙ same in
      (work, shares, found, subst (Contains (map (payee_by others) shares)) its (contains_through party_of (payee_by others) (payee_of others) shares (λ place d within. refl) party has))

  alike_fault : (fault : CwrFault) → IsFaultOf rows lines fault → IsFaultOf others lines fault
  alike_fault Memory is = tt
  alike_fault Accounts is = record {
    sound = is.sound;
    many = record {
      payees = is.many.payees;
      rising = is.many.rising;
      each = All-weaker (IsPayeeAmong rows (shares_in_force lines)) (IsPayeeAmong others (shares_in_force lines)) alike_payee is.many.payees is.many.each;
      many = is.many.many;
    };
  }
  alike_fault (Short n) is = is
  alike_fault (Share n) is = is
  alike_fault (Mark n) is = is
  alike_fault (Land n) is = is
  alike_fault (Party n) is = is
  alike_fault (Work n) is = is
  alike_fault (Many n) is = is

-- a row of the table that names no party in force is not looked at
module _ (before after : List (List ℕ × List ℕ)) (row : List ℕ × List ℕ) (lines : List (List ℕ)) (unused : ¬ IsPartyInForce lines row.0) where
  without : (party : List ℕ) → IsPartyInForce lines party → payee_of (before ++ row ∷ after) party ≡ payee_of (before ++ after) party
  without party in_force = payee_of_others before after row party (λ same. unused (subst (IsPartyInForce lines) (sym same) in_force))

  pub unused_in_file : (registered : Registered) → IsRegistered registered → IsFileOf (before ++ row ∷ after) lines registered ↔ IsFileOf (before ++ after) lines registered
  unused_in_file registered is = (
    alike_file (before ++ row ∷ after) (before ++ after) lines without registered is,
    alike_file (before ++ after) (before ++ row ∷ after) lines (λ party in_force. sym (without party in_force)) registered is,
  )

  pub unused_in_fault : (fault : CwrFault) → IsFaultOf (before ++ row ∷ after) lines fault ↔ IsFaultOf (before ++ after) lines fault
  unused_in_fault fault = (
    alike_fault (before ++ row ∷ after) (before ++ after) lines without fault,
    alike_fault (before ++ after) (before ++ row ∷ after) lines (λ party in_force. sym (without party in_force)) fault,
  )

-- the first line of a registration that is as it has to be is not refused
opening_stands : (line : List ℕ) (number : ℕ) (fault : CwrFault) → IsOpening line → ¬ IsFaultOfOpening line number fault
opening_stands line number (Short n) sound fault = fault.1 sound.long
opening_stands line number (Work n) sound fault = fault.2 sound.work
opening_stands line number (Share n) sound fault = fault
opening_stands line number (Mark n) sound fault = fault
opening_stands line number (Land n) sound fault = fault
opening_stands line number (Party n) sound fault = fault
opening_stands line number (Many n) sound fault = fault
opening_stands line number Accounts sound fault = fault
opening_stands line number Memory sound fault = fault

-- nor is such a share line
pub share_stands : (earlier : ℕ) (fields : ShareFields) (line : List ℕ) (number : ℕ) (fault : CwrFault) → IsShareRecord earlier fields line
    → ¬ IsFaultOfShare earlier fields line number fault
share_stands earlier fields line number (Short n) sound fault = fault.1 sound.long
share_stands earlier fields line number (Party n) sound fault = fault.2 sound.party
share_stands earlier fields line number (Share n) sound fault = fault.3 sound.shares
share_stands earlier fields line number (Mark n) sound fault = fault.4 sound.mark
share_stands earlier fields line number (Land n) sound fault = fault.5 sound.land
share_stands earlier fields line number (Many n) sound fault = absurd (omega (arith, fault.6, sound.few))
share_stands earlier fields line number (Work n) sound fault = fault
share_stands earlier fields line number Accounts sound fault = fault
share_stands earlier fields line number Memory sound fault = fault

-- a sound line is not refused
line_stands : (before : List (List ℕ)) (line : List ℕ) (number : ℕ) (fault : CwrFault) → IsSound before line → ¬ IsFaultOfLine before number line fault
line_stands before line number fault sound (inl (opens, refused)) = opening_stands line number fault (sound.opening opens) refused
line_stands before line number fault sound (inr (is_share, body, stands, refused)) =
    share_stands (count_by is_share_line body) (share_fields line) line number fault (sound.share body stands is_share) refused

-- sound lines have no first fault
pub lines_stand : (lines : List (List ℕ)) (fault : CwrFault) → AreSound lines → ¬ IsFirstFault AreSound IsFaultOfLine lines fault
lines_stand lines fault sound first =
    line_stands first.before first.row (length first.before + 1) fault
    (sound_at IsSound lines first.before first.row first.after first.split sound) first.refused

-- a registry has no more payees than it may have
pub not_too_many : (rows : List (List ℕ × List ℕ)) (shares_of : Finds) (registered : Registered) → IsRegistryOf rows shares_of registered → IsRegistered registered → ¬ HasTooManyPayees rows shares_of
not_too_many rows shares_of registered of is too =
    omega (
      arith,
      is.few_names,
      too.many,
      length-among nat_list_cmp_total too.payees is.names too.rising (names_rise registered is)
          (All-weaker (IsPayeeAmong rows shares_of) (Contains is.names) (in_force_name rows shares_of registered of is) too.payees too.each),
    )

-- a file that is its registrations is refused for nothing but lack of memory
pub no_fault : (rows : List (List ℕ × List ℕ)) (lines : List (List ℕ)) (registered : Registered) (fault : CwrFault) → IsFileOf rows lines registered → IsRegistered registered
    → IsFaultOf rows lines fault → fault ≡ Memory
no_fault rows lines registered Memory of is refused = refl
no_fault rows lines registered Accounts of is refused = absurd (not_too_many rows (shares_in_force lines) registered of.registry is refused.many)
no_fault rows lines registered (Short n) of is refused = absurd (lines_stand lines (Short n) of.sound refused)
no_fault rows lines registered (Share n) of is refused = absurd (lines_stand lines (Share n) of.sound refused)
no_fault rows lines registered (Mark n) of is refused = absurd (lines_stand lines (Mark n) of.sound refused)
no_fault rows lines registered (Land n) of is refused = absurd (lines_stand lines (Land n) of.sound refused)
no_fault rows lines registered (Party n) of is refused = absurd (lines_stand lines (Party n) of.sound refused)
no_fault rows lines registered (Work n) of is refused = absurd (lines_stand lines (Work n) of.sound refused)
no_fault rows lines registered (Many n) of is refused = absurd (lines_stand lines (Many n) of.sound refused)
