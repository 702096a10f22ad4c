use Rattle.std.proofs.Common.{◌∙◌, List, Vec, Global, ℕ, subst, sym, Option}
use Rattle.std.proofs.lemmas.Result.{IfErr-weaker, IfOk-weaker}
use Rattle.linked_works.specs.declared.works.WorksRow.{WorksRow}
use Rattle.explain_line.specs.LookedAt.{IsFoundIn}
use Rattle.explain_line.proofs.SubmittedLemmas.{explained, if_none, if_some, no_row, refused}
use Rattle.explain_line.proofs.submitted.explain_by_works.Goals as goal

pub returns-clause-explained : goal.returns-clause-explained
returns-clause-explained g c =
    let rows = c.in_ok-rows.rows.items in
    let names = c.args.submitters.now in
    let holds = g.F.SubmitterFiles.holds c.args.files.now in
    let links = c.args.works.now.links in
    let found = c.in_ok-found.found in
    let is = subst (λ (r : List WorksRow). IsFoundIn names holds c.args.payees.now links r found) c.as_slice.ensures.value c.in_ok-found.ensures.found in
    IfOk-weaker c.explain_row.result _ _ (λ answer. if_some _ _ (λ text.
    explained names holds c.args.tis.now c.args.payees.now links rows found c.args.usage c.args.row is c.in_ok-rows.ensures.rows text.items) answer)
    (rw c.as_slice-2.ensures.value at c.explain_row.ensures.explained)

pub returns-clause-none : goal.returns-clause-none
returns-clause-none g c =
    let rows = c.in_ok-rows.rows.items in
    let names = c.args.submitters.now in
    let holds = g.F.SubmitterFiles.holds c.args.files.now in
    let links = c.args.works.now.links in
    let found = c.in_ok-found.found in
    let is = subst (λ (r : List WorksRow). IsFoundIn names holds c.args.payees.now links r found) c.as_slice.ensures.value c.in_ok-found.ensures.found in
    IfOk-weaker c.explain_row.result _ _ (λ answer. if_none _ _ (no_row names holds c.args.tis.now c.args.payees.now links rows found c.args.usage c.args.row is) answer)
    c.explain_row.ensures.none

pub returns-clause-fault : goal.returns-clause-fault
returns-clause-fault g c =
    let rows = c.in_ok-rows.rows.items in
    let names = c.args.submitters.now in
    let holds = g.F.SubmitterFiles.holds c.args.files.now in
    let links = c.args.works.now.links in
    let found = c.in_ok-found.found in
    let is = subst (λ (r : List WorksRow). IsFoundIn names holds c.args.payees.now links r found) c.as_slice.ensures.value c.in_ok-found.ensures.found in
    IfErr-weaker c.explain_row.result _ _
    (refused names holds c.args.tis.now c.args.payees.now links rows found c.args.usage c.args.row is (g.F.SubmitterFiles.refuses c.args.files.now))
    c.explain_row.ensures.fault
