use Rattle.std.proofs.Common.{◌≡◌, ◌∙◌, ℕ, List, Vec, Global, ap, inl, map, refl, subst, sym}
use Rattle.std.proofs.lemmas.Result.{err_from_is_err_and}
use Rattle.cwr_share.specs.Lines.{lines_of}
use Rattle.document_names.specs.FirstTexts.{AreFirstTexts}
use Rattle.document_names.specs.Payees.{name_in}
use Rattle.document_names.specs.Titles.{titles_of_registrations}
use Rattle.document_run.specs.Names.{items_of}
use Rattle.document_run.specs.OneFile.{AreNamedBy}
use Rattle.run_inputs.specs.Inputs.{IsReading, map_inputs}
use Rattle.document_run.proofs.InputLemmas.{as_many_as, of_inputs}
use mathlib.Core.List.{map-map}
use Rattle.document_run.proofs.one_file.read_named.Goals as goal

pub returns-in_err-names-clause-fault : goal.returns-in_err-names-clause-fault
returns-in_err-names-clause-fault g c =
    let exit = err_from_is_err_and c.from_residual-in_err-names.result c.from_residual-in_err-names.ensures.1 in
    rw (exit.1, exit.2) (inl refl)

pub returns-clause-ready : goal.returns-clause-ready
returns-clause-ready g c = record {
  accounts = c.in_ok-tables.ensures.read.accounts;
  names = as_many_as (name_in (lines_of c.bytes-file.result.now)) c.in_ok-names.names c.parties.result.now c.in_ok-tables.tables.registry.accounts c.parties.ensures c.in_ok-names.ensures;
}

pub returns-clause-read : goal.returns-clause-read
returns-clause-read g c =
    let tables = c.in_ok-tables.tables in
    let file = c.bytes-file.result.now in
    let inputs = map_inputs g.I.Input.bytes c.args.inputs.now in
    let same : file ≡ inputs.registrations = c.bytes-file.ensures in
    record {
      read = of_inputs g.I.Input.bytes c.lent.result c.args.inputs.now (λ files. IsReading files tables) c.lent.ensures c.in_ok-tables.ensures.read;
      named_by = record {
        titles_are = subst (λ (bytes : List ℕ). AreFirstTexts (titles_of_registrations (lines_of bytes)) c.in_ok-titles.titles) same c.in_ok-titles.ensures;
        names_are =
            subst (λ (bytes : List ℕ). items_of c.in_ok-names.names ≡ map (name_in (lines_of bytes)) tables.registry.accounts) same
            (c.in_ok-names.ensures ∙ (sym (map-map (name_in (lines_of file)) (λ (party : Vec ℕ Global). party.items) c.parties.result.now) ∙ ap (map (name_in (lines_of file))) c.parties.ensures));
      };
    }
