use Rattle.std.proofs.Common.{◌≡◌, ◌∙◌, [], ℕ, List, None, Option, Some, Vec, Global, drop, map, subst, sym}
use Rattle.std.proofs.lemmas.Result.{IfOk-weaker}
use Rattle.std.specs.Option.{option_map}
use Rattle.csv_table.specs.Table.{rows_of}
use Rattle.document_names.specs.FirstTexts.{first_text}
use Rattle.document_names.specs.Payees.{names_in_rows}
use Rattle.document_run.specs.Names.{items_of, names_by_table}
use mathlib.Core.List.{map-map}
use Rattle.document_run.proofs.names.names_in_tables.Goals as goal

abbrev Texts : Type 0
Texts = Vec (Vec ℕ Global) Global

pub returns-in-Some : goal.returns-in-Some
returns-in-Some g c =
    let accounts : List (Vec ℕ Global) = c.args.accounts.now in
    let named = λ (table : List ℕ). first_text (names_in_rows (drop 1 (rows_of table))) in
    IfOk-weaker c.names_in_table.result (λ (names : Texts). items_of names ≡ map (λ account. named c.bytes.result.now account.items) accounts)
    (λ (names : Texts). items_of names ≡ names_by_table (option_map g.I.Input.bytes c.args.payees.now) (map (λ account. account.items) accounts))
    (λ names is. subst (λ (payees : Option g.row.I.Denot). items_of names ≡ names_by_table (option_map g.I.Input.bytes payees) (map (λ account. account.items) accounts)) (sym c.in-Some.is)
    (subst (λ (table : List ℕ). items_of names ≡ map (named table) (map (λ account. account.items) accounts)) c.bytes.ensures
    (is ∙ sym (map-map (named c.bytes.result.now) (λ (account : Vec ℕ Global). account.items) accounts)))) c.names_in_table.ensures

pub returns-in-None : goal.returns-in-None
returns-in-None g c =
    let accounts : List (Vec ℕ Global) = c.args.accounts.now in
    IfOk-weaker c.unnamed.result (λ (names : Texts). items_of names ≡ map (λ _. []) accounts)
    (λ (names : Texts). items_of names ≡ names_by_table (option_map g.I.Input.bytes c.args.payees.now) (map (λ account. account.items) accounts))
    (λ names is. rw c.in-None.is (is ∙ sym (map-map (λ (account : List ℕ). []) (λ (account : Vec ℕ Global). account.items) accounts))) c.unnamed.ensures
