use Rattle.std.proofs.Common.{◌∙◌, ◌+◌, ◌∷◌, ◌++◌, [], ℕ, All, List, ap, subst, sym, take}
use Rattle.std.proofs.lemmas.List.{take_all, take_more}
use Rattle.std.proofs.lemmas.List.Elements.{All-contains, All-push}
use Rattle.std.specs.Prelude.{IfSome}
use Rattle.cwr_share.specs.Payees.{payee_of}
use Rattle.cwr_share.specs.Registered.{HasFewPayees}
use Rattle.cwr_share.specs.Registrations.{find_work}
use Rattle.linked_works.specs.declared.linking.Link.{Link}
use Rattle.linked_works.proofs.FewLemmas.{all_with, with_text}
use Rattle.linked_works.proofs.LinkRows.{found_key}
use Rattle.linked_works.proofs.many_payees.have_few_payees.Goals as goal
use Rattle.linked_works.proofs.many_payees.have_few_payees.Goals.{After-as_slice-work}

-- a work has few payees, where it has share lines
abbrev Few : (c : After-as_slice-work) → List ℕ → Type 0
Few c work = IfSome (find_work work c.args.works.now) (HasFewPayees (payee_of c.args.payees.now))

-- so has that of one link more
more : (c : After-as_slice-work) → Few c c.link-item.result.work → All (λ link. Few c link.work) (take (c.loop-link.link-index + 1) c.args.links.now)
more c few =
    let n = c.loop-link.link-index in
    let links = c.args.links.now in
    let link = c.link-item.result in
    subst (All (λ (link : Link). Few c link.work)) (ap (λ (next : Link). take n links ++ next ∷ []) c.link-item.is ∙ sym (take_more links n link c.loop-link-test.true))
    (All-push (λ (link : Link). Few c link.work) (take n links) link c.loop-link.invariant.links few)

pub loop-link-preserved-then-contains : goal.loop-link-preserved-then-contains
loop-link-preserved-then-contains c =
    let at = (goal.at.loop-link-preserved-then-contains c).After-as_slice-work in
    let has = found_key c.loop-link.seen.keys c.as_slice-work.result.now (sym c.contains.ensures ∙ c.if-contains.true) in
    let few : Few at c.link-item.result.work = subst (Few at) c.as_slice-work.ensures (All-contains (Few at) c.loop-link.seen.keys c.as_slice-work.result.now c.loop-link.invariant.seen has) in
    record { links = more at few; seen = c.loop-link.invariant.seen }

pub loop-link-preserved : goal.loop-link-preserved
loop-link-preserved c =
    let at = (goal.at.loop-link-preserved c).After-as_slice-work in
    let here : Few at c.as_slice-work.result.now = c.in_ok-work_has_few_payees.ensures.few c.if-not-branch.false in
    let few : Few at c.link-item.result.work = subst (Few at) c.as_slice-work.ensures here in
    let keys = c.in_ok-insert.ensures.keys ∙ ap (with_text c.loop-link.seen.keys) c.in_ok-of.ensures in
    record { links = more at few; seen = subst (All (Few at)) (sym keys) (all_with (Few at) c.loop-link.seen.keys c.as_slice-work.result.now c.loop-link.invariant.seen here) }

pub returns-clause-few : goal.returns-clause-few
returns-clause-few c = λ _.
    subst (All (λ (link : Link). IfSome (find_work link.work c.args.works.now) (HasFewPayees (payee_of c.args.payees.now))))
    (take_all c.loop-link.link-index c.args.links.now c.loop-link-test.false) c.loop-link.invariant.links
