-- The payees of a file and a table of payees have names: 1 to 64 printable bytes.
use Rattle.std.proofs.Common.{◌≡◌, ◌∙◌, ◌++◌, ◌∷◌, [], ℕ, Bool, true, false, cond, not, List, All, Option, None, Some, drop, map, nat_eq, reverse, slice_index_or, ap, refl, sym, subst, append_assoc, arith}
use Rattle.std.specs.Prelude.{◌==◌, if◌then◌else◌}
use Rattle.std.specs.Cmp.Lexicographic.{pointwise}
use Rattle.std.specs.List.{find, prefix_len, take_while}
use Rattle.std.specs.Option.{option_map, option_map_or}
use Rattle.std.proofs.lemmas.Bool.{false≢true}
use Rattle.std.proofs.lemmas.List.{get_or_append_left, length-append, take-append-drop}
use Rattle.std.proofs.lemmas.List.Elements.{All-cons, All-contains, All-from_get_or, All-head, All-map, All-nil, All-push, All-same, All-tail, All-weaker, Contains-get_or}
use Rattle.std.proofs.lemmas.List.Sorted.{All-permutation, IsPermutation-reverse}
use Rattle.std.proofs.lemmas.List.Sums.{take_while-cons}
use Rattle.std.proofs.lemmas.Option.{none-some}
use Rattle.csv_table.specs.Forms.{IsPrintableByte}
use Rattle.csv_table.proofs.InTurn.{sound_at}
use Rattle.cwr_share.specs.CwrFile.{AreSound, IsFileOf, IsSound}
use Rattle.cwr_share.specs.Fields.{IsFilled, field_of, trimmed, without_spaces_before}
use Rattle.cwr_share.specs.PayeeTable.{payee_row_of}
use Rattle.cwr_share.specs.Payees.{payee_of}
use Rattle.cwr_share.specs.Records.{ends_registration, is_share_line, opens_registration, share_fields}
use Rattle.cwr_share.specs.Registered.{IsRegistered, Registered}
use Rattle.cwr_share.specs.Registrations.{ShareLine, registrations_of, share_lines_of, shares_in_force, work_of}
use Rattle.cwr_share.proofs.FieldLemmas.{field_fits, party_fits}
use Rattle.cwr_share.proofs.FileLemmas.{by_pushes, share_lines_no, share_lines_yes, stands_by}
use Rattle.cwr_share.proofs.PartyWorks.{contains_back, find_once}
use Rattle.run_inputs.specs.Inputs.{ArePayees}
use Rattle.merge_statements.specs.Statements.{IsName}

-- Lists

-- what holds of all elements holds of the one that is found
found_holds : {X : Type 0} (P : X → Type 0) (test : X → Bool) (xs : List X) (x : X) → All P xs → find test xs ≡ Some x → P x
found_holds P test [] x each is = absurd (none-some x is)
found_holds {X} P test (first ∷ xs) x each is = on (test first) refl (found_holds P test xs x (All-tail P first xs each))
  where
    on : (told : Bool) → test first ≡ told → (find test xs ≡ Some x → P x) → P x
    on true passes later = let same : first ≡ x = (let here : Some first ≡ Some x = rw passes at is in cc) in subst P same (All-head P first xs each)
    on false fails later = later (rw fails at is)

-- the front that passes a test passes it
front_passes : {X : Type 0} (test : X → Bool) (xs : List X) → All (λ x. test x ≡ true) (take_while test xs)
front_passes test [] = All-nil (λ x. test x ≡ true)
front_passes {X} test (x ∷ xs) = All-same (λ y. test y ≡ true) (take_while test (x ∷ xs)) (cond (test x) (x ∷ take_while test xs) []) (take_while-cons test x xs) (on (test x) refl (front_passes test xs))
  where
    on : (told : Bool) → test x ≡ told → All (λ y. test y ≡ true) (take_while test xs) → All (λ y. test y ≡ true) (cond told (x ∷ take_while test xs) [])
    on true passes later = All-cons (λ y. test y ≡ true) x (take_while test xs) passes later
    on false fails later = All-nil (λ y. test y ≡ true)

-- what holds of a list with one element more holds of the list
front_holds : {X : Type 0} (P : X → Type 0) (xs : List X) (x : X) → All P (xs ++ x ∷ []) → All P xs
front_holds P xs x each k d within =
    subst P (get_or_append_left xs (x ∷ []) d k within) (each k d (omega (arith, within, length-append xs (x ∷ []))))

-- Fields

behind_spaces : (text : List ℕ) → All IsPrintableByte text → All IsPrintableByte (without_spaces_before text)
unfolding without_spaces_before
behind_spaces [] each = each
behind_spaces (byte ∷ rest) each = on (byte == 32) (behind_spaces rest (All-tail IsPrintableByte byte rest each))
  where
    on : (told : Bool) → All IsPrintableByte (without_spaces_before rest) → All IsPrintableByte (if told then without_spaces_before rest else byte ∷ rest)
    on true later = later
    on false later = each

trimmed_printable : (text : List ℕ) → All IsPrintableByte text → All IsPrintableByte (trimmed text)
trimmed_printable text each =
    let front = without_spaces_before text in
    let turned = All-permutation IsPrintableByte front (reverse front) (IsPermutation-reverse front) (behind_spaces text each) in
    let back = without_spaces_before (reverse front) in
    All-permutation IsPrintableByte back (reverse back) (IsPermutation-reverse back) (behind_spaces (reverse front) turned)

-- the party of a share line is a name
party_named : (line : List ℕ) → IsFilled (field_of (share_fields line).party line) → IsName (trimmed (field_of (share_fields line).party line))
party_named line is = record {
  some = is.some;
  short = omega (arith, field_fits (share_fields line).party line, party_fits line);
  printable = trimmed_printable (field_of (share_fields line).party line) is.printable;
}

-- Registrations

abbrev HasName : ShareLine → Type 0
HasName line = IsName line.party

-- the share lines of a registration among sound lines have names
module _ (lines earlier : List (List ℕ)) (opening : List ℕ) (sound : AreSound lines) (opens : opens_registration opening ≡ true) where
  abbrev AreNamed : List (List ℕ) → Type 0
  AreNamed body = (after : List (List ℕ)) → lines ≡ (earlier ++ opening ∷ body) ++ after → All (λ line. ends_registration line ≡ false) body → All HasName (share_lines_of body)

  one_more : (body : List (List ℕ)) (line : List ℕ) → AreNamed body → AreNamed (body ++ line ∷ [])
  one_more body line so_far after is stay = on (is_share_line line) refl
    where
      split : lines ≡ (earlier ++ opening ∷ body) ++ line ∷ after
      split =
          is
          ∙ ap (λ (front : List (List ℕ)). front ++ after) (sym (append_assoc earlier (opening ∷ body) (line ∷ [])))
          ∙ append_assoc (earlier ++ opening ∷ body) (line ∷ []) after

      stays : All (λ other. ends_registration other ≡ false) body
      stays = front_holds (λ other. ends_registration other ≡ false) body line stay

      others : All HasName (share_lines_of body)
      others = so_far (line ∷ after) split stays

      on : (told : Bool) → is_share_line line ≡ told → All HasName (share_lines_of (body ++ line ∷ []))
      on true share =
          let party = ((sound_at IsSound lines (earlier ++ opening ∷ body) line after split sound).share body (stands_by earlier opening body opens stays) share).party in
          All-same HasName (share_lines_of (body ++ line ∷ [])) _ (share_lines_yes body line share) (All-push HasName (share_lines_of body) _ others (party_named line party))
      on false other = All-same HasName (share_lines_of (body ++ line ∷ [])) (share_lines_of body) (share_lines_no body line other) others

  none_named : AreNamed []
  none_named after is stay = All-nil HasName

  all_named : (body : List (List ℕ)) → AreNamed body
  all_named = by_pushes AreNamed none_named one_more

not_ended : (b : Bool) → not b ≡ true → b ≡ false
not_ended true is = absurd (false≢true is)
not_ended false is = refl

abbrev goes_on : List ℕ → Bool
goes_on line = not (ends_registration line)

-- and so have those of all registrations
abbrev IsNamed : List ℕ × List (List ℕ) → Type 0
IsNamed entry = All HasName (share_lines_of entry.1)

registrations_named : (all before lines : List (List ℕ)) → AreSound all → all ≡ before ++ lines → All IsNamed (registrations_of lines)
unfolding registrations_of
registrations_named all before [] sound is = All-nil IsNamed
registrations_named all before (line ∷ later) sound is =
    on (opens_registration line) refl (registrations_named all (before ++ line ∷ []) later sound (is ∙ sym (append_assoc before (line ∷ []) later)))
  where
    on : (told : Bool) → opens_registration line ≡ told → All IsNamed (registrations_of later)
        → All IsNamed (if told then (work_of line, take_while goes_on later) ∷ registrations_of later else registrations_of later)
    on true opens others =
        let after = drop (prefix_len goes_on later) later in
        let parts : all ≡ (before ++ line ∷ take_while goes_on later) ++ after =
        is
        ∙ ap (λ (rest : List (List ℕ)). before ++ line ∷ rest) (sym (take-append-drop (prefix_len goes_on later) later))
        ∙ sym (append_assoc before (line ∷ take_while goes_on later) after) in
        let stay : All (λ other. ends_registration other ≡ false) (take_while goes_on later) =
        All-weaker (λ other. goes_on other ≡ true) (λ other. ends_registration other ≡ false) (λ other. not_ended (ends_registration other)) (take_while goes_on later) (front_passes goes_on later) in
        All-cons IsNamed (work_of line, take_while goes_on later) (registrations_of later)
        (all_named all before line sound opens (take_while goes_on later) after parts stay) others
    on false shut others = others

-- those in force among them
in_force_named : (lines : List (List ℕ)) (work : List ℕ) (shares : List ShareLine) → AreSound lines → shares_in_force lines work ≡ Some shares → All HasName shares
in_force_named lines work shares sound is = on (find (λ entry. pointwise nat_eq entry.0 work) (reverse (registrations_of lines))) refl is
  where
    on : (found : Option (List ℕ × List (List ℕ))) → find (λ entry. pointwise nat_eq entry.0 work) (reverse (registrations_of lines)) ≡ found
        → option_map share_lines_of (option_map (λ entry. entry.1) found) ≡ Some shares → All HasName shares
    on None none same = absurd (none-some shares same)
    on (Some entry) found same =
        let registrations = registrations_of lines in
        let named = found_holds IsNamed (λ entry. pointwise nat_eq entry.0 work) (reverse registrations) entry
        (All-permutation IsNamed registrations (reverse registrations) (IsPermutation-reverse registrations)
        (registrations_named lines [] lines sound refl)) found in
        let its : share_lines_of entry.1 ≡ shares = cc in
        subst (All HasName) its named

-- Payees

-- the payees of a table have names
rows_named : (payees_file : Option (List ℕ)) (rows : List (List ℕ × List ℕ)) → ArePayees payees_file rows → All (λ row. IsName row.1) rows
rows_named None rows is = All-same (λ (row : List ℕ × List ℕ). IsName row.1) rows [] is (All-nil (λ (row : List ℕ × List ℕ). IsName row.1))
rows_named (Some file) rows is =
    All-same (λ (row : List ℕ × List ℕ). IsName row.1) rows (map payee_row_of is.below) is.are.same
    (All-map (λ (row : List ℕ × List ℕ). IsName row.1) payee_row_of is.below
    (All-from_get_or (λ row. IsName (payee_row_of row).1) is.below [] (λ place within. (is.are.sound place within).names.1)))

-- a party is paid to a name
payee_named : (rows : List (List ℕ × List ℕ)) (party : List ℕ) → All (λ row. IsName row.1) rows → IsName party → IsName (payee_of rows party)
payee_named rows party each own = on (find (λ row. pointwise nat_eq row.0 party) rows) refl
  where
    on : (found : Option (List ℕ × List ℕ)) → find (λ row. pointwise nat_eq row.0 party) rows ≡ found → IsName (option_map_or (λ row. row.1) found party)
    on None none = own
    on (Some row) found = found_holds (λ (row : List ℕ × List ℕ). IsName row.1) (λ row. pointwise nat_eq row.0 party) rows row each found

-- the payees of a registry have names
pub payees_named : (payees_file : Option (List ℕ)) (rows : List (List ℕ × List ℕ)) (lines : List (List ℕ)) (registered : Registered)
    → ArePayees payees_file rows → IsFileOf rows lines registered → (is : IsRegistered registered) → All IsName is.names
payees_named payees_file rows lines registered paid of is k d within =
    let name = slice_index_or is.names k d in
    let (party, has, same) = contains_back (λ (row : List ℕ × List ℕ). row.0) (λ row. row.1) (payee_of rows) registered.payees of.registry.paid name ((is.exact name).0 (Contains-get_or is.names k d within)) in
    let (work, shares, here, at) = (is.in_force party).0 has in
    let in_force = sym (of.registry.in_force work) ∙ find_once registered.works work shares is.once here in
    let named = All-contains IsName (map (λ line. line.party) shares) party (All-map IsName (λ (line : ShareLine). line.party) shares (in_force_named lines work shares of.sound in_force)) at in
    subst IsName same (payee_named rows party (rows_named payees_file rows paid) named)
