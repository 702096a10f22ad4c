use Rattle.std.proofs.Common.{◌≡◌, ◌∙◌, ℕ, List, ap, inr, length, refl, subst, sym, zip}
use Rattle.std.proofs.lemmas.List.{length-map}
use Rattle.std.proofs.lemmas.Result.{err_from_is_err_and}
use Rattle.cwr_share.specs.RegistryOf.{IsRegistryOf}
use Rattle.cwr_share.specs.declared.in_force.InForce.{InForce}
use Rattle.linked_works.specs.Linked.{Finds, finds_among, shares_linked}
use Rattle.linked_works.specs.ManyPayees.{IsFaultOfLinks}
use Rattle.linked_works.specs.Rows.{names_by}
use Rattle.linked_works.specs.declared.works.WorksRow.{WorksRow}
use Rattle.submitted_inputs.specs.Submitted.{finds_by}
use Rattle.submitted_inputs.proofs.FileLemmas.{Held, are_files, same_finds}
use Rattle.explain_line.specs.LookedAt.{AreLookedAt}
use Rattle.explain_line.proofs.LookedLemmas.{Found, filed_by, held_by}
use Rattle.explain_line.proofs.submitted_files.found_in.Goals as goal

-- the files that were looked at, one for each name
module _ (holds : ℕ → List ℕ → Type 0) (names : List (List ℕ)) (slices : _) (named : names_by slices ≡ names) (rows : List WorksRow) (read : List InForce) (filed : List Found)
    (looked : AreLookedAt holds (length slices) rows read filed) where
  abbrev all : AreLookedAt holds (length names) rows read filed
  all = subst (λ n. AreLookedAt holds n rows read filed) (sym (length-map slices (λ name. name.items)) ∙ ap (λ (l : List (List ℕ)). length l) named) looked

  abbrev held : Held holds (length names) read
  held = held_by holds (length names) rows read filed all

  found : (given : List (List ℕ)) (lent : List InForce) → given ≡ names → lent ≡ read → finds_among (zip given lent) ≡ finds_by names held.files
  found given lent same is =
      ap (λ (ns : List (List ℕ)). finds_among (zip ns lent)) same
      ∙ (ap (λ (r : List InForce). finds_among (zip names r)) is ∙ same_finds holds names read held all.whole)

pub returns-in_err-registry-clause-fault : goal.returns-in_err-registry-clause-fault
returns-in_err-registry-clause-fault g c =
    let holds = g.F.SubmitterFiles.holds c.args.files.now in
    let names = c.args.submitters.now in
    let slices = c.as_slice.result.now in
    let read = c.in_ok-read.read.items in
    let have = held holds names slices c.as_slice.ensures.names c.args.rows.now read c.in_ok-read.filed.items c.in_ok-read.ensures.read in
    let same = found holds names slices c.as_slice.ensures.names c.args.rows.now read c.in_ok-read.filed.items c.in_ok-read.ensures.read _ _ c.requires.names c.as_slice-2.ensures.value in
    let exit = err_from_is_err_and c.from_residual-in_err-registry.result c.from_residual-in_err-registry.ensures.1 in
    let own = c.in_err-registry.field-0.0 in
    let refused = subst (λ (finds : Finds). IsFaultOfLinks c.args.payees.now finds c.args.works.now.links own) same c.in_err-registry.ensures.fault in
    rw (exit.1, exit.2) (inr (inr (have.files, are_files holds (length names) read have, (own, refused, refl))))

pub returns-clause-found : goal.returns-clause-found
returns-clause-found g c =
    let holds = g.F.SubmitterFiles.holds c.args.files.now in
    let names = c.args.submitters.now in
    let slices = c.as_slice.result.now in
    let rows = c.args.rows.now in
    let read = c.in_ok-read.read.items in
    let filed = c.in_ok-read.filed.items in
    let links = c.args.works.now.links in
    let looked = all holds names slices c.as_slice.ensures.names rows read filed c.in_ok-read.ensures.read in
    let have = held holds names slices c.as_slice.ensures.names rows read filed c.in_ok-read.ensures.read in
    let same = found holds names slices c.as_slice.ensures.names rows read filed c.in_ok-read.ensures.read _ _ c.requires.names c.as_slice-2.ensures.value in
    let same_again = found holds names slices c.as_slice.ensures.names rows read filed c.in_ok-read.ensures.read _ _ c.requires.names c.as_slice-3.ensures.value in
    record {
      files = have.files;
      are = are_files holds (length names) read have;
      registry = (
        subst (λ (finds : Finds). IsRegistryOf c.args.payees.now (shares_linked finds links) c.in_ok-registry.registry) same c.in_ok-registry.ensures.registry,
        c.in_ok-registry.ensures.sound,
      );
      found_for = record {
        filed = filed_by holds names rows read filed c.as_slice.ensures.sound.once c.requires.known looked;
        all = looked.room;
        linked = λ work. c.in_ok-linked.ensures.works work ∙ ap (λ (finds : Finds). shares_linked finds links work) same_again;
        few = c.in_ok-linked.ensures.lines;
      };
    }
