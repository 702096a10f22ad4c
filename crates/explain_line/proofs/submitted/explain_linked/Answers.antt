use Rattle.std.proofs.Common.{◌≡◌, ◌∙◌, ℕ, List, ap, inl, inr, refl, subst, sym}
use Rattle.std.proofs.lemmas.Result.{IfErr-weaker, IfOk-weaker, err_from_is_err_and}
use Rattle.submitted_inputs.specs.Submitted.{map_tables}
use Rattle.submitted_inputs.proofs.Refusals.{works_fault}
use Rattle.explain_line.proofs.SubmittedLemmas.{behind, if_none, if_some, read_none, read_row}
use Rattle.explain_line.proofs.submitted.explain_linked.Goals as goal

pub returns-in_err-works-clause-fault : goal.returns-in_err-works-clause-fault
returns-in_err-works-clause-fault g c =
    let exit = err_from_is_err_and c.from_residual.result c.from_residual.ensures.1 in
    rw (exit.1, exit.2)
    (works_fault c.args.submitters.now (g.F.SubmitterFiles.holds c.args.files.now) (g.F.SubmitterFiles.refuses c.args.files.now) (map_tables g.I.Input.bytes c.args.inputs.now)
    c.args.tis.now c.requires.territories c.args.payees.now c.requires.payees c.in_err-works.field-0.0 (rw c.bytes.ensures at c.in_err-works.ensures.fault))

pub returns-clause-explained : goal.returns-clause-explained
returns-clause-explained g c = IfOk-weaker c.explain_by_works.result _ _ (λ answer. if_some _ _ (λ text.
    read_row c.args.submitters.now (g.F.SubmitterFiles.holds c.args.files.now) (map_tables g.I.Input.bytes c.args.inputs.now)
    c.args.tis.now c.requires.territories c.args.payees.now c.requires.payees c.in_ok-works.works.links (rw c.bytes.ensures at c.in_ok-works.ensures.works)
    c.read-usage.result (rw c.bytes-2.ensures at c.read-usage.ensures.lines) c.args.row text.items) answer)
    c.explain_by_works.ensures.explained

pub returns-clause-none : goal.returns-clause-none
returns-clause-none g c = IfOk-weaker c.explain_by_works.result _ _ (λ answer. if_none _ _
    (read_none c.args.submitters.now (g.F.SubmitterFiles.holds c.args.files.now) (map_tables g.I.Input.bytes c.args.inputs.now)
    c.args.tis.now c.requires.territories c.args.payees.now c.requires.payees c.in_ok-works.works.links (rw c.bytes.ensures at c.in_ok-works.ensures.works)
    c.read-usage.result (rw c.bytes-2.ensures at c.read-usage.ensures.lines) c.args.row) answer)
    c.explain_by_works.ensures.none

pub returns-clause-fault : goal.returns-clause-fault
returns-clause-fault g c = IfErr-weaker c.explain_by_works.result _ _
    (behind c.args.submitters.now (g.F.SubmitterFiles.holds c.args.files.now) (g.F.SubmitterFiles.refuses c.args.files.now) (map_tables g.I.Input.bytes c.args.inputs.now)
    c.args.tis.now c.requires.territories c.args.payees.now c.requires.payees c.in_ok-works.works.links (rw c.bytes.ensures at c.in_ok-works.ensures.works)
    c.read-usage.result (rw c.bytes-2.ensures at c.read-usage.ensures.fault))
    c.explain_by_works.ensures.fault
