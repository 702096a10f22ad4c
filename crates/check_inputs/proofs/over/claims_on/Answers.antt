use Rattle.std.proofs.Common.{◌≡◌, ◌∙◌, List, ℕ, ap, map, sym}
use Rattle.std.specs.List.{filter_map}
use Rattle.std.proofs.lemmas.Result.{IfOk-weaker}
use Rattle.cwr_share.specs.Registrations.{ShareLine}
use Rattle.line_split.specs.UsageLine.{usage_line_of}
use Rattle.linked_works.specs.Linked.{Link, linked}
use Rattle.linked_works.specs.Rows.{link_shown}
use Rattle.check_inputs.specs.LinksSoFar.{finds_in_force}
use Rattle.check_inputs.specs.OverSoFar.{registrations_of}
use Rattle.check_inputs.specs.SubmittedOver.{claim_of_submitter, claims_of}
use Rattle.check_inputs.proofs.Overclaims.{linked_is}
use Rattle.check_inputs.proofs.over.claims_on.Goals as goal

pub returns : goal.returns
returns c =
    let sources = c.args.sources.now in
    let line = usage_line_of c.args.line.now in
    let names = sources.tables.works.names in
    let links = sources.tables.works.links in
    let rows = c.in_ok-rows.rows.items in
    let finds = finds_in_force sources in
    let its : registrations_of finds (map link_shown rows) ≡ linked finds links line.work =
    ap (λ (l : List Link). registrations_of finds l) c.in_ok-rows.ensures.rows ∙ sym (linked_is finds links line.work) in
    let claimed : c.in_ok-claims.claims.items ≡ claims_of sources.tables.territories line (registrations_of finds (map link_shown rows)) =
    (rw (c.as_slice-files.ensures.value, c.as_slice.ensures.value) at c.in_ok-claims.ensures.claims) names c.requires.sources.submitters.once c.requires.sources.files c.in_ok-rows.ensures.known in
    let whole : c.as_slice-2.result.now ≡ claims_of sources.tables.territories line (linked finds links line.work) =
    c.as_slice-2.ensures.value
    ∙ (claimed ∙ ap (λ (l : List (List ℕ × List ShareLine)). claims_of sources.tables.territories line l) its) in
    IfOk-weaker c.add_up.result _ _ (λ sums is. is ∙ (λ i. filter_map (claim_of_submitter (whole i)) (c.requires.sources.names i))) c.add_up.ensures
