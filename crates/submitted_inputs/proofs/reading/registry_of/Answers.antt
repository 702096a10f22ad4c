use Rattle.std.proofs.Common.{◌≡◌, ◌∙◌, ℕ, List, ap, inr, length, refl, subst, zip}
use Rattle.std.proofs.lemmas.Result.{err_from_is_err_and}
use Rattle.cwr_share.specs.RegistryOf.{IsRegistryOf}
use Rattle.cwr_share.specs.declared.in_force.InForce.{InForce}
use Rattle.linked_works.specs.Linked.{Finds, finds_among, shares_linked}
use Rattle.linked_works.specs.ManyPayees.{IsFaultOfLinks}
use Rattle.submitted_inputs.specs.Files.{AreFilesRead}
use Rattle.submitted_inputs.specs.Submitted.{finds_by}
use Rattle.submitted_inputs.proofs.FileLemmas.{Held, are_files, held_by, one_each, same_finds}
use Rattle.submitted_inputs.proofs.reading.registry_of.Goals as goal
use Rattle.submitted_inputs.proofs.reading.registry_of.Goals.{After-as_slice}

-- the files that were read, one for each name
module _ (g : _) (c : After-as_slice g) where
  abbrev names : List (List ℕ)
  names = c.args.works.now.names

  abbrev holds : ℕ → List ℕ → Type 0
  holds = g.F.SubmitterFiles.holds c.args.files.now

  each : AreFilesRead holds (length names) c.in_ok-read.read.items
  each = subst (λ n. AreFilesRead holds n c.in_ok-read.read.items) c.submitters.ensures c.in_ok-read.ensures.read

  held : Held holds (length names) c.in_ok-read.read.items
  held = held_by holds c.in_ok-read.read.items (length names) each

  -- what is found by them
  found : finds_among (zip names c.as_slice.result.now) ≡ finds_by names held.files
  found = ap (λ (read : List InForce). finds_among (zip names read)) c.as_slice.ensures.value ∙ same_finds holds names c.in_ok-read.read.items held each.all

pub registry-requires : goal.registry-requires
registry-requires g c = record {
  files = ap (λ (read : List InForce). length read) c.as_slice.ensures.value ∙ (each g c).all;
  registrations = rw c.as_slice.ensures.value (one_each (holds g c) (length (names g c)) c.in_ok-read.read.items (each g c));
}

pub returns-clause-registry : goal.returns-clause-registry
returns-clause-registry g c =
    let at = (goal.at.returns-clause-registry g c).After-as_slice in
    let all = held g at in
    let registry = subst (λ (finds : Finds). IsRegistryOf c.args.payees.now (shares_linked finds c.args.works.now.links) c.in_ok-registry.field-0) (found g at) c.in_ok-registry.ensures.registry in
    (all.files, are_files (holds g at) (length (names g at)) c.in_ok-read.read.items all, (registry, c.in_ok-registry.ensures.sound))

pub returns-in_err-registry-clause-fault : goal.returns-in_err-registry-clause-fault
returns-in_err-registry-clause-fault g c =
    let at = (goal.at.returns-in_err-registry-clause-fault g c).After-as_slice in
    let all = held g at in
    let exit = err_from_is_err_and c.from_residual-in_err-registry.result c.from_residual-in_err-registry.ensures.1 in
    let own = c.in_err-registry.field-0.0 in
    let refused = subst (λ (finds : Finds). IsFaultOfLinks c.args.payees.now finds c.args.works.now.links own) (found g at) c.in_err-registry.ensures.fault in
    rw (exit.1, exit.2) (inr (inr (all.files, are_files (holds g at) (length (names g at)) c.in_ok-read.read.items all, (own, refused, refl))))
