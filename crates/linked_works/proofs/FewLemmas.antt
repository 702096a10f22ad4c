-- Payees that are counted, each once.
use Rattle.std.proofs.Common.{◌≡◌, ◌∙◌, ◌<◌, ◌≤◌, ◌+◌, ◌∷◌, ◌++◌, [], ℕ, Bool, true, false, cond, List, All, AllPairs, Contains, ap, arith, get_or, length, map, nat_eq, refl, subst, sym, drop, take}
use Rattle.std.specs.Cmp.Lexicographic.{pointwise}
use Rattle.std.specs.List.{list_any}
use Rattle.std.proofs.lemmas.List.{get_or_default, get_or-map, length-map, map-append, map_push, take-append-drop, take_more}
use Rattle.std.proofs.lemmas.List.Elements.{All-push, Contains-append_left, Contains-push}
use Rattle.std.proofs.lemmas.List.Quantifiers.{all_pairs_push}
use Rattle.indexmap.specs.IndexSet.{insert_key}
use Rattle.line_split.specs.declared.TheConstants.{MOST_CLAIMS}
use Rattle.cwr_share.specs.Registered.{HasFewPayees}
use Rattle.cwr_share.specs.Registrations.{ShareLine}
use Rattle.cwr_share.proofs.FewPayees.{few_texts}
use Rattle.linked_works.specs.ManyPayees.{HasManyPayees}
use Rattle.linked_works.proofs.LinkRows.{found_key, missing_key}

-- a text put among others, where it is not there
abbrev pub with_text : List (List ℕ) → List ℕ → List (List ℕ)
with_text texts text = insert_key (pointwise nat_eq) texts text

-- what holds of texts and of one more
pub all_with : (P : List ℕ → Type 0) (texts : List (List ℕ)) (text : List ℕ) → All P texts → P text → All P (with_text texts text)
all_with P texts text each its = by (list_any (pointwise nat_eq text) texts)
  where
    by : (there : Bool) → All P (cond there texts (texts ++ text ∷ []))
    by true = each
    by false = All-push P texts text each its

-- they are all there, and so is the one
still_there : (texts : List (List ℕ)) (text other : List ℕ) → Contains texts other → Contains (with_text texts text) other
still_there texts text other has = by (list_any (pointwise nat_eq text) texts)
  where
    by : (there : Bool) → Contains (cond there texts (texts ++ text ∷ [])) other
    by true = has
    by false = Contains-append_left texts (text ∷ []) other has

now_there : (texts : List (List ℕ)) (text : List ℕ) → Contains (with_text texts text) text
now_there texts text = by (list_any (pointwise nat_eq text) texts) refl
  where
    by : (there : Bool) → list_any (pointwise nat_eq text) texts ≡ there → Contains (cond there texts (texts ++ text ∷ [])) text
    by true is = found_key texts text is
    by false is = Contains-push texts text

-- and they still differ
still_apart : (texts : List (List ℕ)) (text : List ℕ) → AllPairs (λ text later. ¬ (text ≡ later)) texts → AllPairs (λ text later. ¬ (text ≡ later)) (with_text texts text)
still_apart texts text apart = by (list_any (pointwise nat_eq text) texts) refl
  where
    by : (there : Bool) → list_any (pointwise nat_eq text) texts ≡ there → AllPairs (λ text later. ¬ (text ≡ later)) (cond there texts (texts ++ text ∷ []))
    by true is = apart
    by false is =
        all_pairs_push (λ text later. ¬ (text ≡ later)) texts text apart
        (λ k d within same. missing_key texts text is (k, within, get_or_default texts k text d within ∙ same))

module _ (pay : List ℕ → List ℕ) where
  abbrev payee_by : ShareLine → List ℕ
  payee_by line = pay line.party

  -- so many texts are the payees of share lines, each once
  pub record AreCounted (lines : List ShareLine) (found : List (List ℕ)) : Type 0 where
    pub each : All (λ line. Contains found (payee_by line)) lines
    pub among : All (Contains (map payee_by lines)) found
    pub apart : AllPairs (λ text later. ¬ (text ≡ later)) found

  -- one share line more
  pub counted_next : (lines : List ShareLine) (k : ℕ) (line : ShareLine) (found : List (List ℕ)) → k < length lines → line ≡ get_or lines k line
      → AreCounted (take k lines) found → AreCounted (take (k + 1) lines) (with_text found (payee_by line))
  counted_next lines k line found within is counted =
      let more : take k lines ++ line ∷ [] ≡ take (k + 1) lines = ap (λ (next : ShareLine). take k lines ++ next ∷ []) is ∙ sym (take_more lines k line within) in
      let payees : map payee_by (take k lines) ++ payee_by line ∷ [] ≡ map payee_by (take (k + 1) lines) = sym (map_push payee_by (take k lines) line) ∙ ap (map payee_by) more in
      let text = payee_by line in
      record {
        each = subst (All (λ (line : ShareLine). Contains (with_text found text) (payee_by line))) more
            (All-push (λ (line : ShareLine). Contains (with_text found text) (payee_by line)) (take k lines) line
            (λ i d inside. still_there found text (payee_by (get_or (take k lines) i d)) (counted.each i d inside)) (now_there found text));
        among = all_with (Contains (map payee_by (take (k + 1) lines))) found text
            (λ i d inside.
            subst (λ (texts : List (List ℕ)). Contains texts (get_or found i d)) payees (Contains-append_left (map payee_by (take k lines)) (text ∷ []) (get_or found i d) (counted.among i d inside)))
            (subst (λ (texts : List (List ℕ)). Contains texts text) payees (Contains-push (map payee_by (take k lines)) text));
        apart = still_apart found text counted.apart;
      }

  -- no more share lines than there may be payees
  pub few_if_short : (lines : List ShareLine) → length lines ≤ MOST_CLAIMS → HasFewPayees pay lines
  few_if_short lines short = (
    map payee_by lines,
    omega (arith, short, length-map lines payee_by),
    λ k d within. (
      k,
      omega (arith, within, length-map lines payee_by),
      get_or-map payee_by lines k d (payee_by (get_or lines k d)) within,
    ),
  )

  pub few_if_counted : (lines : List ShareLine) (found : List (List ℕ)) → AreCounted lines found → length found ≤ MOST_CLAIMS → HasFewPayees pay lines
  few_if_counted lines found counted few = (found, few, counted.each)

  -- some share lines have too many payees
  pub many_if_counted : (lines : List ShareLine) (k : ℕ) (found : List (List ℕ)) → AreCounted (take k lines) found → MOST_CLAIMS < length found → HasManyPayees pay lines
  many_if_counted lines k found counted many = record {
    payees = found;
    apart = counted.apart;
    each = λ i d inside. still_in (get_or found i d) (counted.among i d inside);
    many = many;
  }
    where
      still_in : (text : List ℕ) → Contains (map payee_by (take k lines)) text → Contains (map payee_by lines) text
      still_in text has =
          subst (λ (texts : List (List ℕ)). Contains texts text) (sym (map-append payee_by (take k lines) (drop k lines)) ∙ ap (map payee_by) (take-append-drop k lines))
          (Contains-append_left (map payee_by (take k lines)) (map payee_by (drop k lines)) text has)

-- so share lines do not have both few payees and many
pub not_few_and_many : (pay : List ℕ → List ℕ) (lines : List ShareLine) → HasFewPayees pay lines → ¬ HasManyPayees pay lines
not_few_and_many pay lines (payees, few, has) many =
    let covered : All (Contains payees) many.payees = λ k d within.
    let (i, inside, at) = many.each k d within in
    let line_in : i < length lines = omega (arith, inside, length-map lines (λ (line : ShareLine). pay line.party)) in
    let d_line : ShareLine = no_line in
    subst (Contains payees) (sym (get_or-map (λ (line : ShareLine). pay line.party) lines i d_line (get_or many.payees k d) line_in) ∙ at) (has i d_line line_in) in
    absurd (omega (arith, few_texts many.payees payees many.apart covered, few, many.many))
  where
    no_line : ShareLine
    no_line = record { interest = 0; party = []; performing = 0; mechanical = 0; synchronisation = 0; includes = false; territory = 0 }
