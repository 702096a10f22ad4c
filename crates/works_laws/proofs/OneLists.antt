-- One list of share lines claims what the lines claim that it stands for: they are taken group by group, of an interest and a party each.
use Rattle.std.proofs.Common.{◌≡◌, ◌∙◌, ◌+◌, ◌≤◌, ◌∷◌, ◌⊎◌, [], ℕ, suc, zero, Bool, true, false, cond, List, All, None, Option, Some, ap, arith, filter, get_or, inl, inr, length, map, nat_eq, not, refl, subst, sum_by, sym}
use Rattle.std.specs.Prelude.{Any, ◌==◌, ◌&&◌, ◌||◌}
use Rattle.std.specs.Cmp.Lexicographic.{pointwise}
use Rattle.std.specs.List.{list_any}
use Rattle.std.proofs.lemmas.Bool.{and_parts, cases_Bool, cases_eq, eq-eqb, eqb-true, false_from_ne_true, false≢true, ne_eqb}
use Rattle.std.proofs.lemmas.List.Elements.{All-filter, All-tail, filter_passes}
use Rattle.std.proofs.lemmas.List.Sums.{count_by-le-length, length-filter}
use Rattle.std.proofs.lemmas.Map.Views.{any-filter_same}
use Rattle.std.proofs.lemmas.Slice.Eq.{bytes_eq-Decides}
use Rattle.line_split.specs.UsageLine.{UsageLine}
use Rattle.line_split.specs.declared.usage.Right.{Right}
use Rattle.line_split.specs.declared.usage.Right.TheVariants.{P, M, S}
use Rattle.cwr_share.specs.ClaimsOn.{claim_of, claims_on, covers, deciding, is_alike, reason_against, share_for}
use Rattle.cwr_share.specs.Payees.{payee_of}
use Rattle.cwr_share.specs.Registered.{IsRegistered, Registered}
use Rattle.cwr_share.specs.RegistryOf.{IsRegistryOf}
use Rattle.cwr_share.specs.Registrations.{ShareLine}
use Rattle.cwr_share.proofs.PaidClaims.{deciding_among}
use Rattle.works_laws.specs.OneList.{AreOneLists, IsOneList, as_of, has_interest, is_of}
use Rattle.works_laws.proofs.ListLemmas.{any_of_mapped, any_of_parts, contains_filter, filter_apart, filter_within, leaves, sum_of_mapped, sum_of_parts}
use Rattle.works_laws.proofs.SameRegistries.{ArePaidTheSame, ClaimTheSame, InBoth, SharesOf, answer_alike, is_paid_in, same_accounts}

-- the line is of the interest and party
abbrev IsOf : (interest : ℕ) (party : List ℕ) → ShareLine → Type 0
IsOf interest party line = (line.interest ≡ interest) × (line.party ≡ party)

is_of_told : (interest : ℕ) (party : List ℕ) (line : ShareLine) → is_of interest party line ≡ true → IsOf interest party line
is_of_told interest party line told =
    let (same, its) = and_parts (line.interest == interest) (pointwise nat_eq line.party party) told in
    (eqb-true line.interest interest same, (bytes_eq-Decides line.party party).0 its)

told_is_of : (interest : ℕ) (party : List ℕ) (line : ShareLine) → IsOf interest party line → is_of interest party line ≡ true
told_is_of interest party line (same, its) = rw (eq-eqb line.interest interest same, (bytes_eq-Decides line.party party).1 its) refl

-- lines that are alike are of the same
alike_told : (line other : ShareLine) → is_alike line other ≡ true → IsOf line.interest line.party other
alike_told line other told =
    let (same, its) = and_parts (line.interest == other.interest) (pointwise nat_eq line.party other.party) told in
    (sym (eqb-true line.interest other.interest same), sym ((bytes_eq-Decides line.party other.party).0 its))

module _ (table : List (ℕ × List ℕ)) (land : ℕ) where
  -- a later line of the interest and party covers the land
  abbrev has_later : ShareLine → List ShareLine → Bool
  has_later line later = list_any (λ other. is_alike line other && covers table land other) later

  -- where a test passes both of two lines that are alike or neither, the lines that decide are those that decide among what it keeps
  deciding_kept : (keep : ShareLine → Bool) → ((line other : ShareLine) → is_alike line other ≡ true → keep line ≡ keep other)
      → (lines : List ShareLine) → deciding table land (filter keep lines) ≡ filter keep (deciding table land lines)
  unfolding deciding
  deciding_kept keep both [] = refl
  deciding_kept keep both (line ∷ later) = by (cases_Bool (keep line)) (deciding_kept keep both later)
    where
      by : (keep line ≡ true) ⊎ (keep line ≡ false) → deciding table land (filter keep later) ≡ filter keep (deciding table land later)
          → deciding table land (filter keep (line ∷ later)) ≡ filter keep (deciding table land (line ∷ later))
      by (inr left) rest = rw left (elim (cases_Bool (covers table land line && not (has_later line later))) [
        | inl decides ↦ rw (decides, left) rest
        | inr not_it ↦ rw not_it rest
      ])
      by (inl kept) rest =
          let among : has_later line (filter keep later) ≡ has_later line later =
          any-filter_same (λ other. is_alike line other && covers table land other) keep true
          (λ other told. sym (both line other ((and_parts (is_alike line other) (covers table land other) told).0)) ∙ kept) later in
          rw (kept, among) (elim (cases_Bool (covers table land line && not (has_later line later))) [
            | inl decides ↦ rw (decides, kept) (ap (λ l. line ∷ l) rest)
            | inr not_it ↦ rw not_it rest
          ])

  -- lines of one interest and party decide as they do under another
  module _ (interest number : ℕ) (party name : List ℕ) where
    alike_of : (line other : ShareLine) → IsOf interest party line → IsOf interest party other → is_alike line other ≡ true
    alike_of line other (same, its) (too, theirs) = rw (eq-eqb line.interest other.interest (same ∙ sym too), (bytes_eq-Decides line.party other.party).1 (its ∙ sym theirs)) refl

    alike_as : (line other : ShareLine) → is_alike (as_of number name line) (as_of number name other) ≡ true
    alike_as line other = rw (eq-eqb number number refl, (bytes_eq-Decides name name).1 refl) refl

    later_as : (line : ShareLine) (later : List ShareLine) → IsOf interest party line → All (IsOf interest party) later
        → has_later (as_of number name line) (map (as_of number name) later) ≡ has_later line later
    later_as line later its all =
        any_of_mapped (as_of number name) (λ other. is_alike (as_of number name line) other && covers table land other) (λ other. is_alike line other && covers table land other) later
        (λ k d within. ap (λ (b : Bool). b && covers table land (get_or later k d)) (alike_as line (get_or later k d) ∙ sym (alike_of line (get_or later k d) its (all k d within))))

    map_cond : (b : Bool) (line : ShareLine) (lines : List ShareLine)
        → map (as_of number name) (cond b (line ∷ lines) lines) ≡ cond b (as_of number name line ∷ map (as_of number name) lines) (map (as_of number name) lines)
    map_cond true line lines = refl
    map_cond false line lines = refl

    deciding_as : (lines : List ShareLine) → All (IsOf interest party) lines → deciding table land (map (as_of number name) lines) ≡ map (as_of number name) (deciding table land lines)
    unfolding deciding
    deciding_as [] all = refl
    deciding_as (line ∷ later) all =
        let rest = All-tail (IsOf interest party) line later all in
        let changed : ShareLine → ShareLine = as_of number name in
        ap (λ (some : Bool). cond (covers table land line && not some) (changed line ∷ deciding table land (map changed later)) (deciding table land (map changed later)))
        (later_as line later (all 0 line (omega arith)) rest)
        ∙ ap (λ (lines : List ShareLine). cond (covers table land line && not (has_later line later)) (changed line ∷ lines) lines) (deciding_as later rest)
        ∙ sym (map_cond (covers table land line && not (has_later line later)) line (deciding table land later))

share_as : (number : ℕ) (name : List ℕ) (right : Right) (line : ShareLine) → share_for right (as_of number name line) ≡ share_for right line
share_as number name P line = refl
share_as number name M line = refl
share_as number name S line = refl

-- What is left of a list that stands for lines, without an interest and party
module _ (pay : List ℕ → List ℕ) (lines single : List ShareLine) (one : IsOneList pay lines single) (interest : ℕ) (party : List ℕ) where
  abbrev its_number : ℕ
  its_number = one.number interest party

  abbrev lines_left : List ShareLine
  lines_left = filter (leaves (is_of interest party)) lines

  abbrev single_left : List ShareLine
  single_left = filter (leaves (has_interest its_number)) single

  each_left : (other : ℕ) (later : List ℕ)
      → filter (has_interest (one.number other later)) single_left ≡ map (as_of (one.number other later) (pay later)) (filter (is_of other later) lines_left)
  each_left other later = elim (cases_eq (one.number other later) its_number) [
    | inl same ↦
        let (number, text) = one.apart other interest later party same in
        filter_apart (has_interest (one.number other later)) (leaves (has_interest its_number))
        (λ line told. ap not (eq-eqb line.interest its_number (eqb-true line.interest (one.number other later) told ∙ same))) single
        ∙ ap (map (as_of (one.number other later) (pay later))) (sym (filter_apart (is_of other later) (leaves (is_of interest party))
        (λ line told. let (its, of) = is_of_told other later line told in ap not (told_is_of interest party line (its ∙ number, of ∙ text))) lines))
    | inr apart ↦
        filter_within (has_interest (one.number other later)) (leaves (has_interest its_number))
        (λ line told. ap not (ne_eqb line.interest its_number (λ same. apart (sym (eqb-true line.interest (one.number other later) told) ∙ same)))) single
        ∙ one.each other later
        ∙ ap (map (as_of (one.number other later) (pay later))) (sym (filter_within (is_of other later) (leaves (is_of interest party))
        (λ line told. ap not (false_from_ne_true (is_of interest party line) (λ its.
        let (number, text) = is_of_told other later line told in
        let (own, of) = is_of_told interest party line its in
        apart (ap (λ (i : ℕ). one.number i later) (sym number ∙ own) ∙ ap (one.number interest) (sym text ∙ of))))) lines))
  ]

  abbrev HasOne : List ShareLine → ShareLine → Type 0
  HasOne among line = Any (λ other. line.interest ≡ one.number other.interest other.party) among

  all_left : All (HasOne lines_left) single_left
  all_left k d within =
      let (place, other, inside, at, is) = All-filter (leaves (has_interest its_number)) (HasOne lines) single one.all k d within in
      let line = get_or single_left k d in
      let left : leaves (has_interest its_number) line ≡ true = filter_passes (leaves (has_interest its_number)) single k d within in
      let apart : leaves (is_of interest party) other ≡ true =
      ap not (false_from_ne_true (is_of interest party other) (λ told.
      let (own, of) = is_of_told interest party other told in
      let same : line.interest ≡ its_number = is ∙ (ap (λ (i : ℕ). one.number i other.party) own ∙ ap (one.number interest) of) in
      false≢true (sym (ap not (eq-eqb line.interest its_number same)) ∙ left))) in
      let (there, fits, found) = contains_filter (leaves (is_of interest party)) lines other (place, inside, at) apart in
      (there, other, fits, found, is)

  one_left : IsOneList pay lines_left single_left
  one_left = record { number = one.number; apart = one.apart; each = each_left; all = all_left }

-- What holds of each group of lines and goes over to groups together holds of one list and the lines that it stands for.
module _ (pay : List ℕ → List ℕ) (E : List ShareLine → List ShareLine → Type 0) (none : E [] [])
    (group : (interest number : ℕ) (party : List ℕ) (lines : List ShareLine) → All (IsOf interest party) lines → E lines (map (as_of number (pay party)) lines))
    (together : (interest number : ℕ) (party : List ℕ) (lines single : List ShareLine) → E (filter (is_of interest party) lines) (filter (has_interest number) single)
    → E (filter (leaves (is_of interest party)) lines) (filter (leaves (has_interest number)) single) → E lines single) where
  by_groups : (most : ℕ) (lines single : List ShareLine) → length lines ≤ most → IsOneList pay lines single → E lines single
  by_groups most [] [] few one = none
  by_groups most [] (line ∷ single) few one =
      let (place, other, inside, at, is) = one.all 0 line (omega arith) in
      absurd (omega (arith, inside))
  by_groups zero (line ∷ later) single few one = absurd (omega (arith, few))
  by_groups (suc most) (line ∷ later) single few one =
      let interest = line.interest in
      let party = line.party in
      let lines = line ∷ later in
      let its : is_of interest party line ≡ true = told_is_of interest party line (refl, refl) in
      let left : filter (leaves (is_of interest party)) lines ≡ filter (leaves (is_of interest party)) later = rw its refl in
      let fewer : length (filter (leaves (is_of interest party)) lines) ≤ most =
      omega (arith, few, ap (λ (l : List ShareLine). length l) left, length-filter (leaves (is_of interest party)) later, count_by-le-length (leaves (is_of interest party)) later) in
      let all : All (IsOf interest party) (filter (is_of interest party) lines) =
      λ k d within. is_of_told interest party (get_or (filter (is_of interest party) lines) k d) (filter_passes (is_of interest party) lines k d within) in
      let of_group = subst (E (filter (is_of interest party) lines)) (sym (one.each interest party)) (group interest (one.number interest party) party (filter (is_of interest party) lines) all) in
      let rest =
      by_groups most (filter (leaves (is_of interest party)) lines) (filter (leaves (has_interest (one.number interest party))) single) fewer
      (one_left pay lines single one interest party) in
      together interest (one.number interest party) party lines single of_group rest

  pub of_one_list : (lines single : List ShareLine) → IsOneList pay lines single → E lines single
  of_one_list lines single one = by_groups (length lines) lines single (omega arith) one

-- tests that pass both of two lines that are alike or neither
same_told : (b c : Bool) → (b ≡ true → c ≡ true) → (c ≡ true → b ≡ true) → b ≡ c
same_told true true to back = refl
same_told true false to back = sym (to refl)
same_told false true to back = back refl
same_told false false to back = refl

both_of : (interest : ℕ) (party : List ℕ) (line other : ShareLine) → is_alike line other ≡ true → is_of interest party line ≡ is_of interest party other
both_of interest party line other told =
    let (same, its) = alike_told line other told in
    same_told (is_of interest party line) (is_of interest party other)
    (λ of. let (own, text) = is_of_told interest party line of in told_is_of interest party other (same ∙ own, its ∙ text))
    (λ of. let (own, text) = is_of_told interest party other of in told_is_of interest party line (sym same ∙ own, sym its ∙ text))

both_have : (interest : ℕ) (line other : ShareLine) → is_alike line other ≡ true → has_interest interest line ≡ has_interest interest other
both_have interest line other told = ap (λ (n : ℕ). n == interest) (sym (alike_told line other told).0)

-- a payee is itself, where each is paid itself
abbrev itself : List ℕ → List ℕ
itself = payee_of []

module _ (pay : List ℕ → List ℕ) where
  -- the same payees are paid
  paid_of_list : (lines single : List ShareLine) → IsOneList pay lines single → ArePaidTheSame pay itself lines single
  paid_of_list = of_one_list pay (ArePaidTheSame pay itself) (λ payee. refl)
      (λ interest number party lines all payee.
      sym (any_of_mapped (as_of number (pay party)) (λ line. pointwise nat_eq line.party payee) (λ line. pointwise nat_eq (pay line.party) payee) lines
      (λ k d within. ap (λ (text : List ℕ). pointwise nat_eq (pay text) payee) (sym (all k d within).1))))
      (λ interest number party lines single of_group rest payee.
      any_of_parts (is_of interest party) (λ line. pointwise nat_eq (pay line.party) payee) lines
      ∙ ap (λ (b : Bool). b || is_paid_in pay (filter (leaves (is_of interest party)) lines) payee) (of_group payee)
      ∙ ap (λ (b : Bool). is_paid_in itself (filter (has_interest number) single) payee || b) (rest payee)
      ∙ sym (any_of_parts (has_interest number) (λ line. pointwise nat_eq line.party payee) single))

  module _ (table : List (ℕ × List ℕ)) (land : ℕ) (right : Right) where
    claim_none : (pays : List ℕ → List ℕ) (payee : List ℕ) → claim_of table land right pays [] payee ≡ 0
    unfolding deciding
    claim_none pays payee = refl

    -- a group claims the same
    claim_of_group : (interest number : ℕ) (party : List ℕ) (lines : List ShareLine) → All (IsOf interest party) lines
        → ClaimTheSame table land right pay itself lines (map (as_of number (pay party)) lines)
    claim_of_group interest number party lines all payee =
        sym (ap (λ (decide : List ShareLine). sum_by (share_for right) (filter (λ line. pointwise nat_eq line.party payee) decide))
        (deciding_as table land interest number party (pay party) lines all)
        ∙ sum_of_mapped (as_of number (pay party)) (λ line. pointwise nat_eq line.party payee) (λ line. pointwise nat_eq (pay line.party) payee)
        (share_for right) (share_for right) (deciding table land lines)
        (λ k d within. (
          ap (λ (text : List ℕ). pointwise nat_eq (pay text) payee) (sym (deciding_among (IsOf interest party) table land lines all k d within).1),
          share_as number (pay party) right (get_or (deciding table land lines) k d),
        )))

    -- claims add up over what a test keeps and what it leaves
    claim_in_parts : (keep : ShareLine → Bool) → ((line other : ShareLine) → is_alike line other ≡ true → keep line ≡ keep other) → (pays : List ℕ → List ℕ) (lines : List ShareLine) (payee : List ℕ)
        → claim_of table land right pays lines payee ≡ claim_of table land right pays (filter keep lines) payee + claim_of table land right pays (filter (leaves keep) lines) payee
    claim_in_parts keep both pays lines payee =
        let is_paid : ShareLine → Bool = λ line. pointwise nat_eq (pays line.party) payee in
        let claim : List ShareLine → ℕ = λ deciding. sum_by (share_for right) (filter is_paid deciding) in
        sum_of_parts keep (share_for right) is_paid (deciding table land lines)
        ∙ ap (λ (l : List ShareLine). claim l + claim (filter (leaves keep) (deciding table land lines))) (sym (deciding_kept table land keep both lines))
        ∙ ap (λ (l : List ShareLine). claim (deciding table land (filter keep lines)) + claim l)
        (sym (deciding_kept table land (leaves keep) (λ line other told. ap not (both line other told)) lines))

    claim_of_list : (lines single : List ShareLine) → IsOneList pay lines single → ClaimTheSame table land right pay itself lines single
    claim_of_list = of_one_list pay (ClaimTheSame table land right pay itself) (λ payee. claim_none pay payee ∙ sym (claim_none itself payee)) claim_of_group
        (λ interest number party lines single of_group rest payee.
        claim_in_parts (is_of interest party) (both_of interest party) pay lines payee
        ∙ ap (λ (n : ℕ). n + claim_of table land right pay (filter (leaves (is_of interest party)) lines) payee) (of_group payee)
        ∙ ap (λ (n : ℕ). claim_of table land right itself (filter (has_interest number) single) payee + n) (rest payee)
        ∙ sym (claim_in_parts (has_interest number) (both_have number) itself single payee))

module _ (rows : List (List ℕ × List ℕ)) (shares_of single_of : SharesOf) (lists : AreOneLists rows shares_of single_of) where
  of_lists : (E : List ShareLine → List ShareLine → Type 0) → ((lines single : List ShareLine) → IsOneList (payee_of rows) lines single → E lines single)
      → (work : List ℕ) (mine theirs : Option (List ShareLine)) → shares_of work ≡ mine → single_of work ≡ theirs → InBoth E mine theirs
  of_lists E each work None None found too = tt
  of_lists E each work None (Some single) found too = let none : Some single ≡ None = sym too ∙ (lists.missing work).0 found in cc
  of_lists E each work (Some lines) None found too = let none : Some lines ≡ None = sym found ∙ (lists.missing work).1 too in cc
  of_lists E each work (Some lines) (Some single) found too = each lines single (lists.each work lines single found too)

  paid_by_list : (work : List ℕ) → InBoth (ArePaidTheSame (payee_of rows) itself) (shares_of work) (single_of work)
  paid_by_list work = of_lists (ArePaidTheSame (payee_of rows) itself) (paid_of_list (payee_of rows)) work (shares_of work) (single_of work) refl refl

  claim_by_list : (table : List (ℕ × List ℕ)) (land : ℕ) (right : Right) (work : List ℕ) → InBoth (ClaimTheSame table land right (payee_of rows) itself) (shares_of work) (single_of work)
  claim_by_list table land right work =
      of_lists (ClaimTheSame table land right (payee_of rows) itself) (claim_of_list (payee_of rows) table land right) work (shares_of work) (single_of work) refl refl

  module _ (registered other : Registered) (of : IsRegistryOf rows shares_of registered) (is : IsRegistered registered)
      (other_of : IsRegistryOf [] single_of other) (other_is : IsRegistered other) where
    pub accounts_of_lists : registered.accounts ≡ other.accounts
    accounts_of_lists = same_accounts rows [] shares_of single_of registered other of is other_of other_is paid_by_list

    pub answers_of_lists : (table : List (ℕ × List ℕ)) (line : UsageLine)
        → (claims_on table registered line ≡ claims_on table other line) × (reason_against table registered line ≡ reason_against table other line)
    answers_of_lists = answer_alike rows [] shares_of single_of registered other of is other_of other_is paid_by_list claim_by_list
