use Rattle.std.proofs.Common.{◌≡◌, ◌∙◌, ◌<◌, [], ℕ, List, Vec, Global, ap, arith, get_or, inl, inr, is_some, length, sym, take, zip}
use Rattle.std.specs.Prelude.{option_and_then}
use Rattle.std.proofs.lemmas.List.{length-map, length-take-le}
use Rattle.cwr_share.specs.Registrations.{ShareLine, find_work}
use Rattle.cwr_share.proofs.PassedOverLemmas.{tally_few}
use Rattle.linked_works.specs.Linked.{finds_among}
use Rattle.linked_works.specs.Rows.{link_by, links_by, names_by}
use Rattle.linked_works.proofs.LinkedLemmas.{find_named}
use Rattle.linked_works.proofs.PassingOver.{is_out, tally_next}
use Rattle.linked_works.proofs.passed_over.not_in_force.Goals.{then-not-is_in_force, else-not-is_in_force}
use Rattle.linked_works.proofs.passed_over.not_in_force.Goals as goal

pub add-requires : goal.add-requires
add-requires c =
    let names = names_by c.args.names.now in
    let links = c.args.links.now in
    let before = take c.loop-place.place links in
    let long : length (links_by names before) ≡ length before =
    length-map before (link_by names) in
    omega (
      arith,
      tally_few (is_out (finds_among (zip names c.args.files.now))) (links_by names before) c.loop-place.tally c.loop-place.invariant,
      long,
      length-take-le c.loop-place.place links (omega arith),
      c.requires.few,
    )

pub loop-place-preserved : goal.loop-place-preserved
loop-place-preserved c =
    let names = names_by c.args.names.now in
    let files = c.args.files.now in
    let links = c.args.links.now in
    let link = c.index-links-place.result in
    let within : c.loop-place.place < length links = omega arith in
    let known : link.submitter < length c.args.names.now = rw (sym c.index-links-place.is) at (c.requires.known c.loop-place.place link within) in
    let file = get_or files link.submitter [] in
    let count = length-map c.args.names.now (λ (name : Vec ℕ Global). name.items) in
    let found = ap (option_and_then (λ (works : List (List ℕ × List ShareLine)). find_work link.number works))
    (find_named names files link.submitter [] (omega (arith, c.requires.files, count)) c.requires.once (omega (arith, known, count))) in
    let finds = finds_among (zip names files) in
    tally_next finds names links c.loop-place.place link c.is_in_force.result c.loop-place.tally c.if-not-is_in_force.tally within c.index-links-place.is
    (c.is_in_force.ensures ∙ ap (λ o. is_some o) (sym found)) c.loop-place.invariant
    (elim c.if-not-is_in_force.branch [
      | then-not-is_in_force w ↦ inl (w.if-not-is_in_force.true, rw w.tally-is w.add.ensures)
      | else-not-is_in_force w ↦ inr (w.if-not-is_in_force.false, w.tally-is)
    ])
