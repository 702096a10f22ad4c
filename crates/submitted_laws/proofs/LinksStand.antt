-- Links whose works have registrations with accounts are not refused.
use Rattle.std.proofs.Common.{◌≡◌, ◌∙◌, ◌<◌, ◌∷◌, ◌++◌, [], ℕ, cond, Contains, List, None, Option, Some, ap, append-nil, append_assoc, arith, get_or, length, map, nat_eq, refl, subst, sym}
use Rattle.std.specs.Prelude.{Bool, true, false, unwrap_or}
use Rattle.std.specs.Cmp.Lexicographic.{pointwise}
use Rattle.std.proofs.lemmas.List.{get_or-map, length-map, map-append}
use Rattle.std.proofs.lemmas.List.Elements.{All-contains, Contains-append_left}
use Rattle.cwr_share.specs.Joined.{followed_by, interests_in, of_submitter}
use Rattle.cwr_share.specs.Payees.{HasRow, payee_of}
use Rattle.cwr_share.specs.Registered.{HasFewPayees, IsRegistered, Registered}
use Rattle.cwr_share.specs.RegistryOf.{IsRegistryOf}
use Rattle.cwr_share.specs.Registrations.{ShareLine}
use Rattle.cwr_share.proofs.OneRegistry.{found_inside, not_too_many}
use Rattle.cwr_share.proofs.PayeeLemmas.{payee_at}
use Rattle.linked_works.specs.Linked.{Finds, Link, shares_linked}
use Rattle.linked_works.specs.ManyPayees.{HasManyPayees, IsFaultOfLinks, IsFirstMany}
use Rattle.linked_works.specs.Rows.{with_registration}
use Rattle.linked_works.specs.declared.works_fault.WorksFault.{WorksFault}
use Rattle.linked_works.specs.declared.works_fault.WorksFault.TheVariants.{Csv, Work, Submitter, Number, Twice, Rows, Many, Accounts, Memory}
use Rattle.linked_works.proofs.FewLemmas.{not_few_and_many}
use Rattle.linked_works.proofs.LinkedLemmas.{linked_push}

module _ (pay : List ℕ → List ℕ) where
  abbrev payee_by : ShareLine → List ℕ
  payee_by line = pay line.party

  -- share lines with too many payees have too many with others behind them
  many_behind : (shares more : List ShareLine) → HasManyPayees pay shares → HasManyPayees pay (shares ++ more)
  many_behind shares more many = record {
    payees = many.payees;
    apart = many.apart;
    each = λ k d within.
        subst (λ (texts : List (List ℕ)). Contains texts (get_or many.payees k d)) (sym (map-append payee_by shares more))
        (Contains-append_left (map payee_by shares) (map payee_by more) (get_or many.payees k d) (many.each k d within));
    many = many.many;
  }

  -- a work that has too many has them with one registration more
  still_many : (found : Option (List ShareLine)) (its_work submitter : List ℕ) (before : Option (List ShareLine)) (work : List ℕ) (shares : List ShareLine)
      → before ≡ Some shares → HasManyPayees pay shares
      → (more : List ShareLine) × (with_registration found its_work submitter before work ≡ Some more) × HasManyPayees pay more
  still_many None its_work submitter before work shares is many = (shares, is, many)
  still_many (Some its) its_work submitter before work shares is many = by (pointwise nat_eq its_work work)
    where
      by : (same : Bool) → (more : List ShareLine) × (cond same (Some (followed_by (unwrap_or before []) (submitter, its))) before ≡ Some more) × HasManyPayees pay more
      by true = (
        followed_by shares (submitter, its),
        ap (λ (old : Option (List ShareLine)). Some (followed_by (unwrap_or old []) (submitter, its))) is,
        many_behind shares (map (of_submitter submitter (interests_in shares)) its) many,
      )
      by false = (shares, is, many)

  -- and with more links
  many_with : (finds : Finds) (links after : List Link) (work : List ℕ) (shares : List ShareLine) → shares_linked finds links work ≡ Some shares → HasManyPayees pay shares
      → (more : List ShareLine) × (shares_linked finds (links ++ after) work ≡ Some more) × HasManyPayees pay more
  many_with finds links [] work shares is many =
      (shares, ap (λ (l : List Link). shares_linked finds l work) (append-nil links) ∙ is, many)
  many_with finds links (link ∷ after) work shares is many =
      let (with_one, are, its) = still_many (finds link.submitter link.number) link.work link.submitter (shares_linked finds links work) work shares is many in
      let (more, all, too) = many_with finds (links ++ link ∷ []) after work with_one (linked_push finds links link work ∙ are) its in
      (more, sym (ap (λ (l : List Link). shares_linked finds l work) (append_assoc links (link ∷ []) after)) ∙ all, too)

module _ (rows : List (List ℕ × List ℕ)) (finds : Finds) (links : List Link) (registered : Registered)
    (of : IsRegistryOf rows (shares_linked finds links) registered) (is : IsRegistered registered) where
  -- a party of the registrations has its payee by the table
  paid_alike : (party : List ℕ) → HasRow registered.payees party → payee_of registered.payees party ≡ payee_of rows party
  paid_alike party (place, within, at) =
      let payees = registered.payees in
      let inside : place < length payees = omega (arith, within, length-map payees (λ (row : List ℕ × List ℕ). row.0)) in
      let whose : (get_or payees place ([], [])).0 ≡ party =
      sym (get_or-map (λ (row : List ℕ × List ℕ). row.0) payees place ([], []) party inside) ∙ at in
      ap (payee_of payees) (sym whose)
      ∙ (payee_at payees is.one_payee place ([], []) inside
      ∙ (of.paid place ([], []) inside ∙ ap (payee_of rows) whose))

  -- so the parties of each work have few payees by it
  few_linked : (work : List ℕ) (shares : List ShareLine) → shares_linked finds links work ≡ Some shares → HasFewPayees (payee_of rows) shares
  few_linked work shares found =
      let inside : Contains registered.works (work, shares) = found_inside registered.works work shares (of.in_force work ∙ found) in
      let (payees, few, has) = All-contains (λ (entry : List ℕ × List ShareLine). HasFewPayees (payee_of registered.payees) entry.1) registered.works (work, shares) is.few_payees inside in (
        payees,
        few,
        λ k d within.
            let party : List ℕ = (get_or shares k d).party in
            let among : Contains (map (λ (line : ShareLine). line.party) shares) party =
            (k, omega (arith, within, length-map shares (λ (line : ShareLine). line.party)), get_or-map (λ (line : ShareLine). line.party) shares k d party within) in
            subst (Contains payees) (paid_alike party ((is.in_force party).1 (work, shares, inside, among))) (has k d within),
      )

  none_is_many : (place : ℕ) → ¬ IsFirstMany (payee_of rows) finds links place
  none_is_many place first =
      let work : List ℕ = first.link.work in
      let all : (first.before ++ first.link ∷ []) ++ first.after ≡ links = append_assoc first.before (first.link ∷ []) first.after ∙ sym first.split in
      let (shares, are, many) = many_with (payee_of rows) finds (first.before ++ first.link ∷ []) first.after work first.shares first.are first.many in
      not_few_and_many (payee_of rows) shares (few_linked work shares (sym (ap (λ (l : List Link). shares_linked finds l work) all) ∙ are)) many

  -- the links are refused for nothing but lack of memory
  pub links_stand : (fault : WorksFault) → IsFaultOfLinks rows finds links fault → fault ≡ Memory
  links_stand Memory refused = refl
  links_stand (Many row) (place, at, first) = absurd (none_is_many place first)
  links_stand Accounts (few, many) = absurd (not_too_many rows (shares_linked finds links) registered of is many)
  links_stand (Csv row) refused = absurd refused
  links_stand (Work row) refused = absurd refused
  links_stand (Submitter row) refused = absurd refused
  links_stand (Number row) refused = absurd refused
  links_stand (Twice row) refused = absurd refused
  links_stand Rows refused = absurd refused
