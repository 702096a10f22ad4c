use Rattle.std.proofs.Common.{◌∷◌, [], rules}
use Rattle.adjust_statements.specs.Refused.{IsRefusalOfBoth}
use Rattle.royalty_program.proofs.AdjustFileLemmas.{of_place}
use Rattle.royalty_program.proofs.adjust_files.adjust_opened.Goals as goal

pub returns-in_default-clause-reading : goal.returns-in_default-clause-reading
returns-in_default-clause-reading g c =
    let gives = g.S.Texts.gives c.args.files.now in
    let paid = c.args.paid.now in
    let right = c.args.right.now in
    let before = g.S.Reader.Read.remaining c.in_ok-before.before in
    let after = g.S.Reader.Read.remaining c.in_ok-after.after in
    let refused : IsRefusalOfBoth (before ∷ after ∷ []) c.in-Err-Text.field-0-0.place c.in-Err-Text.field-0-0.refusal = search rules in
    of_place gives paid right before after c.in-Err-Text.field-0-0.place c.in-Err-Text.field-0-0.refusal c.changed_text.result
    c.in_ok-before.ensures.opened c.in_ok-after.ensures.opened refused c.changed_text.ensures.one
