use Rattle.std.proofs.Common.{◌≡◌, ◌∙◌, ◌<◌, ◌+◌, ◌∷◌, ◌++◌, [], ℕ, List, Option, Vec, Global, ap, arith, get_or, length, subst, sym, take, zip}
use Rattle.std.specs.Prelude.{option_and_then}
use Rattle.std.proofs.lemmas.List.{get_or-map, length-map, map_push, take_more}
use Rattle.cwr_share.specs.Registrations.{ShareLine, find_work}
use Rattle.cwr_share.specs.declared.TheConstants.{MOST_SHARES}
use Rattle.linked_works.specs.Linked as linked
use Rattle.linked_works.specs.Linked.{finds_among, shares_linked}
use Rattle.linked_works.specs.Rows.{link_by, links_by, names_by, with_registration}
use Rattle.linked_works.specs.Submitters.{IsSubmitter}
use Rattle.linked_works.specs.declared.linking.Link.{Link}
use Rattle.linked_works.proofs.LinkedLemmas.{few_with, find_named, linked_push}
use Rattle.linked_works.proofs.linking.link_all.Goals as goal

abbrev items_of : Vec ℕ Global → List ℕ
items_of name = name.items

pub add_link-requires-clause-name : goal.add_link-requires-clause-name
add_link-requires-clause-name c =
    let place = c.link-item.result.submitter in
    let in_links : place < length c.args.names.now = rw (sym c.link-item.is) at (c.requires.known c.loop-link.link-index c.link-item.result c.loop-link-test.true) in
    let same : c.as_slice-name.result.now ≡ get_or (names_by c.args.names.now) place [] =
    c.as_slice-name.ensures.value
    ∙ (ap items_of c.index-names-link.is ∙ sym (get_or-map items_of c.args.names.now place c.index-names-link.result [] in_links)) in
    subst IsSubmitter (sym same) (c.requires.submitters place [] (omega (arith, in_links, length-map c.args.names.now items_of)))

pub loop-link-preserved : goal.loop-link-preserved
loop-link-preserved c =
    let names = names_by c.args.names.now in
    let files = c.args.files.now in
    let links = c.args.links.now in
    let n = c.loop-link.link-index in
    let link = c.link-item.result in
    let number = link.number in
    let place = link.submitter in
    let name = get_or names place [] in
    let file = c.index-files-link.result in
    let finds = finds_among (zip names files) in
    let row = link_by names link in
    let in_links : place < length c.args.names.now = rw (sym c.link-item.is) at (c.requires.known n link c.loop-link-test.true) in
    let in_names : place < length names = omega (arith, in_links, length-map c.args.names.now items_of) in
    let in_files : place < length files = omega (arith, in_links, c.requires.files) in
    let same_name : c.as_slice-name.result.now ≡ name =
    c.as_slice-name.ensures.value
    ∙ (ap items_of c.index-names-link.is ∙ sym (get_or-map items_of c.args.names.now place c.index-names-link.result [] in_links)) in
    let same_file : finds name number ≡ find_work number file =
    ap (option_and_then (λ (works : List (List ℕ × List ShareLine)). find_work number works))
    (find_named names files place file (omega (arith, c.requires.files, length-map c.args.names.now items_of)) c.requires.once in_names)
    ∙ ap (find_work number) (sym c.index-files-link.is) in
    let more : links_by names (take (n + 1) links) ≡ links_by names (take n links) ++ row ∷ [] =
    ap (links_by names) (take_more links n link c.loop-link-test.true ∙ ap (λ (next : Link). take n links ++ next ∷ []) (sym c.link-item.is))
    ∙ map_push (link_by names) (take n links) link in
    record {
      works = λ work.
          let so_far = c.loop-link.invariant.works work in
          let next = c.in_ok-add_link.ensures.works work in
          let all = ap (λ (l : List linked.Link). shares_linked finds l work) more ∙ linked_push finds (links_by names (take n links)) row work in
          next
          ∙ (ap (λ (found : Option (List ShareLine)). with_registration found link.work c.as_slice-name.result.now (find_work work c.loop-link.joined) work) (sym same_file)
          ∙ (ap (λ (submitter : List ℕ). with_registration (finds name number) link.work submitter (find_work work c.loop-link.joined) work) same_name
          ∙ (ap (λ (before : Option (List ShareLine)). with_registration (finds name number) link.work name before work) so_far
          ∙ sym all)));
      lines = λ work shares is.
          few_with MOST_SHARES n (find_work number file) link.work c.as_slice-name.result.now work (find_work work c.loop-link.joined) shares
          (λ its found. (c.requires.registrations place file in_files number its (ap (find_work number) (sym c.index-files-link.is) ∙ found)).few)
          (c.loop-link.invariant.lines work)
          (sym (c.in_ok-add_link.ensures.works work) ∙ is);
    }
