use Rattle.std.proofs.Common.{◌≡◌, ◌∙◌, ◌++◌, ◌∷◌, [], ℕ, List, Vec, Global, ap, map, sym, take, zip}
use Rattle.std.proofs.lemmas.List.{map_push}
use Rattle.cwr_share.specs.Lines.{lines_of}
use Rattle.document_names.specs.Payees.{named_by}
use Rattle.document_names.proofs.Zipped.{zip_all, zip_more}
use Rattle.document_names.proofs.payees.with_names_in_file.Goals as goal

pub loop-place-preserved : goal.loop-place-preserved
loop-place-preserved c =
    let accounts = c.args.accounts.now in
    let names = c.args.names.now in
    let place = c.loop-place.place in
    let lines = lines_of c.args.file.now in
    let named : Vec ℕ Global × Vec ℕ Global → List ℕ = λ e. named_by c.args.submitter.now lines e.0.items e.1.items in
    let text : Vec ℕ Global → List ℕ = λ name. name.items in
    let account = c.index-accounts-place.result in
    let name = c.index-names-place.result in
    let found : c.in_ok-name_of.field-0.items ≡ named (account, name) =
    rw (c.as_slice-account.ensures.value, c.as_slice-name.ensures.value) at
    c.in_ok-name_of.ensures lines (rw (c.as_slice.ensures.value, c.in_ok-registrations.ensures) at c.in_ok-records.ensures) in
    rw c.in_ok-push.ensures.items
    (map_push text c.loop-place.found.items c.in_ok-name_of.field-0
    ∙ ((λ i. c.loop-place.invariant i ++ found i ∷ [])
    ∙ sym (ap (map named) (zip_more accounts names place account name c.loop-place-test.true c.requires c.index-accounts-place.is c.index-names-place.is)
    ∙ map_push named (take place (zip accounts names)) (account, name))))

pub returns : goal.returns
returns c =
    let named : Vec ℕ Global × Vec ℕ Global → List ℕ = λ e. named_by c.args.submitter.now (lines_of c.args.file.now) e.0.items e.1.items in
    c.loop-place.invariant ∙ ap (map named) (zip_all c.args.accounts.now c.args.names.now c.loop-place.place c.loop-place-test.false)
