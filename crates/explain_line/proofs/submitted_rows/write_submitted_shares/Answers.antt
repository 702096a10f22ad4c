use Rattle.std.proofs.Common.{◌≡◌, ◌∙◌, ◌∷◌, ◌++◌, ℕ, List, ap, codes, get_or}
use Rattle.std.proofs.lemmas.List.{get_or_default}
use Rattle.csv_table.specs.Written.{text_of_row}
use Rattle.cwr_share.specs.Joined.{qualified}
use Rattle.cwr_share.specs.Payees.{payee_of}
use Rattle.cwr_share.specs.Registrations.{ShareLine}
use Rattle.cwr_share.proofs.ClaimLemmas.{no_line}
use Rattle.explain_line.specs.Explanation.{Shown, share_fields, shown_of}
use Rattle.explain_line.specs.Submitted.{submitted_share_row}
use Rattle.explain_line.proofs.RowLemmas.{rows_more}
use Rattle.explain_line.proofs.submitted_rows.write_submitted_shares.Goals as goal

pub loop-place-preserved : goal.loop-place-preserved
loop-place-preserved c =
    let table = c.args.tis.now in
    let registered = c.args.registry.now in
    let submitter = c.args.submitter.now in
    let numbers = c.args.numbers.now in
    let shares = c.args.shares.now in
    let place = c.loop-place.place in
    let old = c.loop-place.rows.text in
    let share = get_or shares place no_line in
    let here : c.index-shares-place.result ≡ share = c.index-shares-place.is ∙ get_or_default shares place c.index-shares-place.result no_line c.loop-place-test.true in
    let party : c.as_slice.result.now ≡ qualified submitter share.party =
    c.as_slice.ensures.value ∙ (c.in_ok-party.ensures ∙ ap (qualified submitter) (c.party.ensures ∙ ap (λ (s : ShareLine). s.party) here)) in
    let payee : c.payee_by-payee.result.now ≡ payee_of registered.payees (qualified submitter share.party) = c.payee_by-payee.ensures ∙ ap (payee_of registered.payees) party in
    let shown = c.shown_share-shown.ensures no_line ∙ ap (λ (p : List ℕ). shown_of table c.args.land c.args.right p numbers shares (place, share)) payee in
    rows_more (submitted_share_row table registered c.args.land c.args.right submitter numbers shares) shares place no_line
    c.args.rows.now.text old c.write_submitted_share.new.rows.text c.loop-place-test.true c.loop-place.invariant
    (c.in_ok-write_submitted_share.ensures ∙ ap (λ (s : Shown). old ++ text_of_row (codes "C" ∷ submitter ∷ share_fields s)) shown)
