use Rattle.std.proofs.Common.{◌≡◌, ◌∙◌, ◌+◌, ◌++◌, ℕ, List, Some, ap}
use Rattle.std.proofs.lemmas.Option.{get_or_from_slice_get}
use Rattle.line_split.specs.UsageLine.{UsageLine, usage_line_of}
use Rattle.check_inputs.specs.LinksSoFar.{finds_in_force}
use Rattle.check_inputs.specs.SubmittedOver.{claims_of_submitters, first_over, row_text}
use Rattle.check_inputs.proofs.over.add_who_claims.Goals as goal

pub returns : goal.returns
returns c =
    let sources = c.args.sources.now in
    let lines = c.args.lines.now in
    let place = c.in-Some.place in
    let line = usage_line_of c.line.result in
    let (within, is) = rw c.in-Some.is at c.in_ok-place.ensures.some in
    let first : first_over sources.tables.territories c.args.registry.now lines c.args.work.now ≡ Some (place + 1, line) =
    is line ∙ ap (λ (l : UsageLine). Some (place + 1, l)) (get_or_from_slice_get lines place line line c.line.ensures.line) in
    let claims : c.as_slice.result.now ≡ claims_of_submitters sources.tables.territories (finds_in_force sources) sources.tables.works.links sources.tables.works.names line =
    c.as_slice.ensures.value ∙ c.in_ok-claims.ensures in
    rw first (c.in_ok-add_row.ensures line ∙ ap (λ (l : List (List ℕ × ℕ)). c.args.text.now.items ++ row_text (place + 1, line) l) claims)
