-- The rows of a table of works.
use Rattle.std.proofs.Common.{◌≡◌, ◌∙◌, ◌<◌, ◌≤◌, ◌∷◌, ◌++◌, [], ℕ, true, false, List, All, Contains, ap, arith, get_or, inl, inr, length, length-append, map, nat_eq, refl, subst, sym}
use Rattle.std.specs.Cmp.Lexicographic.{pointwise}
use Rattle.std.specs.List.{list_any}
use Rattle.std.proofs.lemmas.Bool.{cases_Bool, false_from_ne_true, false≢true}
use Rattle.std.proofs.lemmas.List.{get_or_default, get_or-map, length-map, map_push}
use Rattle.std.proofs.lemmas.List.Elements.{All-contains, All-map, All-push, All-tail}
use Rattle.std.proofs.lemmas.Slice.Eq.{bytes_eq-Decides}
use Rattle.cwr_share.specs.Joined.{qualified}
use Rattle.cwr_share.specs.declared.numbers.TheConstants.{MOST_WORK_NAME_BYTES}
use Rattle.cwr_share.proofs.PartyLemmas.{contains_cases, contains_later}
use Rattle.linked_works.specs.Linked as linked
use Rattle.linked_works.specs.Rows.{AreLinks, key_of, link_by, links_by}
use Rattle.linked_works.specs.Submitters.{IsNameByte, IsSubmitter}
use Rattle.linked_works.specs.WorksTable.{IsFaultOfRow, IsLinked, IsWorksRow}
use Rattle.linked_works.specs.declared.works_fault.WorksFault.{WorksFault}
use Rattle.linked_works.specs.declared.works_fault.WorksFault.TheVariants.{Csv, Work, Submitter, Number, Twice, Rows, Many, Accounts, Memory}
use Rattle.linked_works.specs.declared.TheConstants.{MOST_LINKS}
use Rattle.linked_works.specs.declared.linking.Link.{Link}

-- a key that is not among others is not found among them
pub fresh_key : (keys : List (List ℕ)) (key : List ℕ) → ¬ Contains keys key → list_any (pointwise nat_eq key) keys ≡ false
fresh_key [] key new = refl
fresh_key (first ∷ keys) key new =
    rw (false_from_ne_true (pointwise nat_eq key first) (λ same. new (0, omega arith, sym ((bytes_eq-Decides key first).0 same))))
    (fresh_key keys key (λ later. new (contains_later first keys key later)))

-- one more link
pub links_added : (names : List (List ℕ)) (links : List Link) (keys : List (List ℕ)) (link : Link) (key : List ℕ) → AreLinks names links keys → length links < MOST_LINKS
    → link.submitter < length names → length link.work ≤ MOST_WORK_NAME_BYTES → key ≡ qualified (get_or names link.submitter []) link.number → AreLinks names (links ++ link ∷ []) (keys ++ key ∷ [])
links_added names links keys link key are room known work is = record {
  submitters = are.submitters;
  once = are.once;
  few = omega (arith, room, length-append links (link ∷ []));
  known = All-push (λ (link : Link). link.submitter < length names) links link are.known known;
  works = All-push (λ (link : Link). length link.work ≤ MOST_WORK_NAME_BYTES) links link are.works work;
  keys_of =
      ap (λ (keys : List (List ℕ)). keys ++ key ∷ []) are.keys_of
      ∙ (ap (λ (text : List ℕ). map key_of (links_by names links) ++ text ∷ []) is
      ∙ sym (ap (map key_of) (map_push (link_by names) links link) ∙ map_push key_of (links_by names links) (link_by names link)));
}

-- a text that is found among keys is one of them
pub found_key : (keys : List (List ℕ)) (key : List ℕ) → list_any (pointwise nat_eq key) keys ≡ true → Contains keys key
found_key [] key found = absurd (false≢true found)
found_key (first ∷ keys) key found = elim (cases_Bool (pointwise nat_eq key first)) [
  | inl its ↦ (0, omega arith, sym ((bytes_eq-Decides key first).0 its))
  | inr other ↦ contains_later first keys key (found_key keys key (rw other at found))
]

-- and one that is not found is none of them
pub missing_key : (keys : List (List ℕ)) (key : List ℕ) → list_any (pointwise nat_eq key) keys ≡ false → ¬ Contains keys key
missing_key [] key found has = absurd (omega (arith, has.1))
missing_key (first ∷ keys) key found has = elim (cases_Bool (pointwise nat_eq key first)) [
  | inl its ↦ absurd (false≢true (sym (rw its at found)))
  | inr other ↦ elim (contains_cases first keys key has) [
    | inl same ↦ absurd (false≢true (sym other ∙ (bytes_eq-Decides key first).1 (sym same)))
    | inr later ↦ missing_key keys key (rw other at found) later
  ]
]

-- no byte of a submitter's name is a colon
no_colon : (name : List ℕ) → IsSubmitter name → All (λ byte. ¬ (byte ≡ 58)) name
no_colon name is k d within same = by (is.bytes k d within)
  where
    by : IsNameByte (get_or name k d) → ⊥
    by (inl letter) = omega (arith, letter.0, letter.1, same)
    by (inr (inl letter)) = omega (arith, letter.0, letter.1, same)
    by (inr (inr (inl digit))) = omega (arith, digit.0, digit.1, same)
    by (inr (inr (inr (inl line)))) = omega (arith, line, same)
    by (inr (inr (inr (inr dash)))) = omega (arith, dash, same)

-- so the text of a registration has one submitter and one number
one_registration : (name other number text : List ℕ) → All (λ byte. ¬ (byte ≡ 58)) name → All (λ byte. ¬ (byte ≡ 58)) other → qualified name number ≡ qualified other text
    → (name ≡ other) × (number ≡ text)
one_registration [] [] number text plain plain_other same = (refl, cc same)
one_registration [] (byte ∷ other) number text plain plain_other same = let first : byte ≡ 58 = cc same in absurd (plain_other 0 58 (omega arith) first)
one_registration (byte ∷ name) [] number text plain plain_other same = let first : byte ≡ 58 = cc same in absurd (plain 0 58 (omega arith) first)
one_registration (byte ∷ name) (first ∷ other) number text plain plain_other same =
    let rest : qualified name number ≡ qualified other text = cc same in
    let (names, numbers) = one_registration name other number text (All-tail (λ byte. ¬ (byte ≡ 58)) byte name plain) (All-tail (λ byte. ¬ (byte ≡ 58)) first other plain_other) rest in
    let head : byte ≡ first = cc same in
    (cc (head, names), numbers)

-- what stands behind the names of submitters is of one of them, and is one text
pub of_one_submitter : (name other number text : List ℕ) → IsSubmitter name → IsSubmitter other → qualified name number ≡ qualified other text → (name ≡ other) × (number ≡ text)
of_one_submitter name other number text is also = one_registration name other number text (no_colon name is) (no_colon other also)

-- no row that is a link is refused
pub not_refused : (names : List (List ℕ)) (earlier : List linked.Link) (number : ℕ) (row : List (List ℕ)) (fault : WorksFault)
    → IsWorksRow names earlier row → ¬ IsFaultOfRow names earlier number row fault
not_refused names earlier number row (Csv n) good refused = refused.1 good.whole
not_refused names earlier number row (Work n) good refused = refused.2 good.work
not_refused names earlier number row (Submitter n) good refused = refused.3 good.submitter
not_refused names earlier number row (Number n) good refused = refused.4 good.number
not_refused names earlier number row (Twice n) good refused = good.new refused.5
not_refused names earlier number row Rows good refused = refused
not_refused names earlier number row (Many n) good refused = refused
not_refused names earlier number row Accounts good refused = refused
not_refused names earlier number row Memory good refused = refused

-- a key among those of links is that of a link
module _ (names : List (List ℕ)) (links : List Link) (keys : List (List ℕ)) (are : AreLinks names links keys) (name number : List ℕ) (named : Contains names name) where
  plain : All (λ byte. ¬ (byte ≡ 58)) name
  plain = no_colon name (All-contains IsSubmitter names name are.submitters named)

  abbrev rows : List linked.Link
  rows = links_by names links

  -- each link is of a submitter
  of_submitters : All (λ link. IsSubmitter link.submitter) rows
  of_submitters =
      All-map (λ link. IsSubmitter link.submitter) (link_by names) links
      (λ k d within. are.submitters (get_or links k d).submitter [] (are.known k d within))

  pub linked_key : Contains keys (qualified name number) → IsLinked rows name number
  linked_key has =
      let (k, within, at) = subst (λ (keys : List (List ℕ)). Contains keys (qualified name number)) are.keys_of has in
      let inside : k < length rows = omega (arith, within, length-map rows key_of) in
      let d : linked.Link = record { work = []; submitter = name; number = number } in
      let link = get_or rows k d in
      let key : key_of link ≡ qualified name number = sym (get_or-map key_of rows k d (qualified name number) inside) ∙ at in
      let (names_same, numbers_same) = one_registration link.submitter name link.number number (no_colon link.submitter (of_submitters k d inside)) plain key in
      (k, link, inside, get_or_default rows k link d inside, (names_same, numbers_same))

  pub key_of_linked : IsLinked rows name number → Contains keys (qualified name number)
  key_of_linked (k, link, within, at, (submitter, its)) =
      subst (λ (keys : List (List ℕ)). Contains keys (qualified name number)) (sym are.keys_of) (
        k,
        omega (arith, within, length-map rows key_of),
        get_or-map key_of rows k link (qualified name number) within ∙ (ap key_of at ∙ ap (λ (text : List ℕ). qualified text link.number) submitter ∙ ap (qualified name) its),
      )
