use Rattle.std.proofs.Common.{◌≡◌, ◌∙◌, List, ℕ, inl, inr, subst, sym, zip}
use Rattle.cwr_share.specs.Payees.{payee_of}
use Rattle.cwr_share.specs.Registrations.{find_work}
use Rattle.linked_works.specs.Linked.{finds_among, shares_linked}
use Rattle.linked_works.specs.ManyPayees.{HaveFewPayees}
use Rattle.linked_works.specs.Rows.{Table, links_by, names_by}
use Rattle.linked_works.proofs.FirstLemmas.{as_too_many, few_in_links, many_in_links}
use Rattle.linked_works.proofs.works.Works.registry.Goals as goal
use Rattle.linked_works.proofs.works.Works.registry.Goals.{In_ok-have_few_payees}

-- what is found of each work, by the names and the links that the table keeps
found : (c : In_ok-have_few_payees) (work : List ℕ) → find_work work c.in_ok-joined.joined
    ≡ shares_linked (finds_among (zip (names_by c.self.inside.names.now) c.args.files.now)) (links_by (names_by c.self.inside.names.now) c.as_slice-links.result.now) work
found c =
    rw c.as_slice-links.ensures.value
    (subst (λ (table : Table). (work : List ℕ) → find_work work c.in_ok-joined.joined ≡ shares_linked (finds_among (zip table.names c.args.files.now)) table.links work)
    (sym c.self.view_is) c.in_ok-joined.ensures.works)

pub first_many-requires-clause-many : goal.first_many-requires-clause-many
first_many-requires-clause-many c =
    let names = names_by c.self.inside.names.now in
    let (work, shares, is, many) = c.in_ok-have_few_payees.ensures.many c.if-not-branch.true in
    many_in_links (payee_of c.args.payees.now) (finds_among (zip names c.args.files.now)) names c.as_slice-links.result.now c.in_ok-joined.joined
    (found (goal.at.first_many-requires-clause-many c).In_ok-have_few_payees) work shares is many

pub registry-requires-clause-payees : goal.registry-requires-clause-payees
registry-requires-clause-payees c = λ work shares is.
    let names = names_by c.self.inside.names.now in
    let all = found (goal.at.registry-requires-clause-payees c).In_ok-have_few_payees in
    few_in_links (payee_of c.args.payees.now) (finds_among (zip names c.args.files.now)) names c.as_slice-links.result.now c.in_ok-joined.joined
    all (c.in_ok-have_few_payees.ensures.few c.if-not-branch.false) work shares (sym (all work) ∙ is)

pub returns-in-Err-Accounts-clause-fault : goal.returns-in-Err-Accounts-clause-fault
returns-in-Err-Accounts-clause-fault c =
    let pay = payee_of c.args.payees.now in
    let files = c.args.files.now in
    let names = names_by c.self.inside.names.now in
    let all = found (goal.at.returns-in-Err-Accounts-clause-fault c).In_ok-have_few_payees in
    let here : HaveFewPayees pay (finds_among (zip names files)) (links_by names c.self.inside.links.items) =
    rw c.as_slice-links.ensures.value at
    (few_in_links pay (finds_among (zip names files)) names c.as_slice-links.result.now c.in_ok-joined.joined all (c.in_ok-have_few_payees.ensures.few c.if-not-branch.false)) in
    let few = subst (λ (table : Table). HaveFewPayees pay (finds_among (zip table.names files)) table.links) c.self.view_is here in
    elim c.in-Err-Accounts.ensures.fault [
      | inl memory ↦ absurd (cc (memory, c.in-Err-Accounts.field-0-is))
      | inr many ↦ (
        few,
        as_too_many c.args.payees.now (λ (work : List ℕ). find_work work c.in_ok-joined.joined)
            (shares_linked (finds_among (zip c.args.self.now.names files)) c.args.self.now.links) c.in_ok-joined.ensures.works many.1,
      )
    ]
