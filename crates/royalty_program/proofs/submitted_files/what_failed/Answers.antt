use Rattle.std.proofs.Common.{◌∙◌, ◌<◌, [], ap, arith, length, refl, sym}
use Rattle.std.proofs.lemmas.List.{get_or-map}
use Rattle.std.specs.Prelude.{string_bytes}
use Rattle.royalty_program.proofs.submitted_files.what_failed.Goals as goal

pub returns-in-Unreadable-clause-said : goal.returns-in-Unreadable-clause-said
returns-in-Unreadable-clause-said c = λ within.
    let items = c.args.paths.items in
    let place = c.in-Unreadable.place in
    let low : place < length items = omega (arith, c.if-place-count.true, c.len-count.ensures) in
    rw c.in-Unreadable.is (c.swap_remove.result, refl, ap string_bytes c.swap_remove.ensures.value ∙ sym (get_or-map string_bytes items place _ [] low))

pub returns-in-Cwr-clause-said : goal.returns-in-Cwr-clause-said
returns-in-Cwr-clause-said c = λ within.
    let items = c.args.paths.items in
    let place = c.in-Cwr.place in
    let low : place < length items = omega (arith, c.if-place-count-2.true, c.len-count.ensures) in
    rw c.in-Cwr.is (c.swap_remove-in-Cwr.result, refl, ap string_bytes c.swap_remove-in-Cwr.ensures.value ∙ sym (get_or-map string_bytes items place _ [] low))
