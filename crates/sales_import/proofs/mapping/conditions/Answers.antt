use Rattle.std.proofs.Common.{◌≡◌, ◌∙◌, ◌+◌, ◌++◌, ◌∷◌, [], List, ap, drop, map, subst, suc, sym, take, ℕ}
use Rattle.std.specs.Prelude.{option_map, string_bytes}
use Rattle.std.proofs.Math.Seq.{split_at}
use Rattle.std.proofs.lemmas.List.{map-append, take_more}
use Rattle.std.proofs.lemmas.Result.{err_from_is_err_and}
use Rattle.sales_import.specs.Mapped.{AreConditions, IsFaultAmong, columns_wanted}
use Rattle.sales_import.specs.declared.mapping.Wanted.{Wanted}
use Rattle.sales_lines.specs.declared.settings.Condition.{Condition}
use Rattle.sales_import.proofs.Named.{columns_of, conditions_more, here, past}
use Rattle.sales_import.proofs.mapping.conditions.Goals as goal

pub returns-in_err-source-clause-fault : goal.returns-in_err-source-clause-fault
returns-in_err-source-clause-fault c =
    let header = option_map (λ row. row.now) c.args.header in
    let wanted = c.args.wanted.now in
    let each = c.each-item.result in
    let i = c.loop-each.each-index in
    let cut : wanted ≡ take i wanted ++ each ∷ drop (suc i) wanted =
    split_at wanted i each c.loop-each-test.true ∙ ap (λ (w : Wanted). take i wanted ++ w ∷ drop (suc i) wanted) (sym c.each-item.is) in
    let shown : columns_wanted wanted ≡ columns_wanted (take i wanted) ++ string_bytes each.column ∷ columns_wanted (drop (suc i) wanted) =
    ap columns_wanted cut ∙ map-append (λ (w : Wanted). string_bytes w.column) (take i wanted) (each ∷ drop (suc i) wanted) in
    let exit = err_from_is_err_and c.from_residual.result c.from_residual.ensures.1 in
    rw (exit.1, exit.2)
    (subst (λ (w : List (List ℕ)). IsFaultAmong header w c.in_err-source.field-0.0) (sym shown)
    (past header _ _ (map (λ (w : Condition). w.source) c.loop-each.conditions.items) _
    (columns_of header (take i wanted) c.loop-each.conditions.items c.loop-each.invariant)
    (here header (string_bytes each.column) _ _ c.in_err-source.ensures.fault)))

pub loop-each-preserved : goal.loop-each-preserved
loop-each-preserved c =
    let header = option_map (λ row. row.now) c.args.header in
    let wanted = c.args.wanted.now in
    let each = c.each-item.result in
    let i = c.loop-each.each-index in
    let more : take (i + 1) wanted ≡ take i wanted ++ each ∷ [] =
    take_more wanted i each c.loop-each-test.true ∙ ap (λ (w : Wanted). take i wanted ++ w ∷ []) (sym c.each-item.is) in
    let added : Condition = record { source = c.in_ok-source.source; text = c.in_ok-text.text } in
    let items : c.push.new.self.items ≡ c.loop-each.conditions.items ++ added ∷ [] = rw c.in-Ok.is at c.push.ensures.items in
    subst (λ (shows : List Wanted). AreConditions header shows c.push.new.self.items) (sym more)
    (subst (AreConditions header (take i wanted ++ each ∷ [])) (sym items)
    (conditions_more header (take i wanted) c.loop-each.conditions.items each added c.loop-each.invariant (c.in_ok-source.ensures.source, c.in_ok-text.ensures.items ∙ c.as_bytes.ensures.value)))
