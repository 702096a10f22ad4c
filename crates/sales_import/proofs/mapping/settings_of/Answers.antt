use Rattle.std.proofs.Common.{[], ◌∷◌}
use Rattle.std.specs.Prelude.{option_map, string_bytes}
use Rattle.std.proofs.lemmas.Result.{err_from_is_err_and}
use Rattle.sales_import.proofs.Named.{before, here, past}
use Rattle.sales_import.proofs.mapping.settings_of.Goals as goal

pub returns-in_err-usage-clause-fault : goal.returns-in_err-usage-clause-fault
returns-in_err-usage-clause-fault c =
    let header = option_map (λ row. row.now) c.args.header in
    let exit = err_from_is_err_and c.from_residual.result c.from_residual.ensures.1 in
    rw (exit.1, exit.2)
    (before header _ _ c.in_err-usage.field-0.0 (rw c.as_slice.ensures.value at c.in_err-usage.ensures.fault))

pub returns-in_err-work-clause-fault : goal.returns-in_err-work-clause-fault
returns-in_err-work-clause-fault c =
    let header = option_map (λ row. row.now) c.args.header in
    let exit = err_from_is_err_and c.from_residual-in_err-work.result c.from_residual-in_err-work.ensures.1 in
    rw (exit.1, exit.2)
    (past header _ _ c.in_ok-usage.usage.items _ (rw c.as_slice.ensures.value at c.in_ok-usage.ensures.sources) (here header _ _ _ c.in_err-work.ensures.fault))

pub returns-in_err-territory-clause-fault : goal.returns-in_err-territory-clause-fault
returns-in_err-territory-clause-fault c =
    let header = option_map (λ row. row.now) c.args.header in
    let exit = err_from_is_err_and c.from_residual-in_err-territory.result c.from_residual-in_err-territory.ensures.1 in
    rw (exit.1, exit.2)
    (past header _ _ c.in_ok-usage.usage.items _ (rw c.as_slice.ensures.value at c.in_ok-usage.ensures.sources)
    (past header (string_bytes c.args.mapping.now.work ∷ []) _ (c.in_ok-work.work ∷ []) _ (c.in_ok-work.ensures.source, tt) (here header _ _ _ c.in_err-territory.ensures.fault)))

pub returns-in_err-right-clause-fault : goal.returns-in_err-right-clause-fault
returns-in_err-right-clause-fault c =
    let header = option_map (λ row. row.now) c.args.header in
    let exit = err_from_is_err_and c.from_residual-in_err-right.result c.from_residual-in_err-right.ensures.1 in
    rw (exit.1, exit.2)
    (past header _ _ c.in_ok-usage.usage.items _ (rw c.as_slice.ensures.value at c.in_ok-usage.ensures.sources)
    (past header (string_bytes c.args.mapping.now.work ∷ string_bytes c.args.mapping.now.territory ∷ []) _ (c.in_ok-work.work ∷ c.in_ok-territory.territory ∷ []) _ (c.in_ok-work.ensures.source, (c.in_ok-territory.ensures.source, tt)) (here header _ _ _ c.in_err-right.ensures.fault)))

pub returns-in_err-amount-clause-fault : goal.returns-in_err-amount-clause-fault
returns-in_err-amount-clause-fault c =
    let header = option_map (λ row. row.now) c.args.header in
    let exit = err_from_is_err_and c.from_residual-in_err-amount.result c.from_residual-in_err-amount.ensures.1 in
    rw (exit.1, exit.2)
    (past header _ _ c.in_ok-usage.usage.items _ (rw c.as_slice.ensures.value at c.in_ok-usage.ensures.sources)
    (past header (string_bytes c.args.mapping.now.work ∷ string_bytes c.args.mapping.now.territory ∷ string_bytes c.args.mapping.now.right ∷ []) _ (c.in_ok-work.work ∷ c.in_ok-territory.territory ∷ c.in_ok-right.right ∷ []) _ (c.in_ok-work.ensures.source, (c.in_ok-territory.ensures.source, (c.in_ok-right.ensures.source, tt))) (here header _ _ _ c.in_err-amount.ensures.fault)))

pub returns-in_err-conditions-clause-fault : goal.returns-in_err-conditions-clause-fault
returns-in_err-conditions-clause-fault c =
    let header = option_map (λ row. row.now) c.args.header in
    let exit = err_from_is_err_and c.from_residual-in_err-conditions.result c.from_residual-in_err-conditions.ensures.1 in
    rw (exit.1, exit.2)
    (past header _ _ c.in_ok-usage.usage.items _ (rw c.as_slice.ensures.value at c.in_ok-usage.ensures.sources)
    (past header (string_bytes c.args.mapping.now.work ∷ string_bytes c.args.mapping.now.territory ∷ string_bytes c.args.mapping.now.right ∷ string_bytes c.args.mapping.now.amount ∷ []) _
    (c.in_ok-work.work ∷ c.in_ok-territory.territory ∷ c.in_ok-right.right ∷ c.in_ok-amount.amount ∷ []) _ (c.in_ok-work.ensures.source, (c.in_ok-territory.ensures.source, (c.in_ok-right.ensures.source, (c.in_ok-amount.ensures.source, tt))))
    (rw c.as_slice-2.ensures.value at c.in_err-conditions.ensures.fault)))
