use Rattle.std.proofs.Common.{◌≡◌, ◌∙◌, ◌++◌, [], ℕ, Bool, List, ap, codes, filter, get_or, map, not, refl, rules}
use Rattle.std.proofs.lemmas.Fn.{filter_same}
use Rattle.std.proofs.lemmas.List.{take_min}
use Rattle.linked_works.specs.PassedOver.{is_linked, unlinked_numbers}
use Rattle.starting_tables.specs.InForce.{Registration, number_of}
use Rattle.check_inputs.specs.Items.{items_line}
use Rattle.check_inputs.specs.SubmittedReport.{numbers_in_force, quoted}
use Rattle.check_inputs.proofs.Listing.{filter_map_is, items_map}
use Rattle.check_inputs.proofs.unlinked.add_unlinked_remark.Goals as goal

pub returns : goal.returns
returns c =
    let links = c.args.works.now.links in
    let name = get_or c.args.works.now.names c.args.submitter [] in
    let path = c.args.path.now in
    let what = codes "registrations in force that no row links" in
    let unlinked = c.as_slice-unlinked.result.now in
    let test : List ℕ → Bool = λ number. not (is_linked links name number) in
    let kept : map number_of unlinked ≡ unlinked_numbers links name (numbers_in_force c.args.bytes.now) =
    ap (λ (l : List Registration). map number_of l)
    (c.as_slice-unlinked.ensures.value ∙ filter_same _ (λ r. test (number_of r)) _ (λ x b f' k. search rules) _ _ c.retain.ensures.filtered)
    ∙ (filter_map_is test number_of c.in_ok-unlinked.unlinked.items ∙ ap (λ (l : List Registration). filter test (map number_of l)) c.in_ok-unlinked.ensures) in
    c.in_ok-add_items.ensures unlinked refl (rw c.min.ensures (take_min 10 unlinked))
    ∙ ap (λ (l : List ℕ). c.args.text.now.items ++ l) (items_map quoted number_of path what [] unlinked ∙ ap (items_line quoted path what []) kept)
