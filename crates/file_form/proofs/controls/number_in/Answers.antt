use Rattle.std.proofs.Common.{◌≡◌, ◌∙◌, ◌≤◌, ℕ, List, ap, length, subst, sym}
use Rattle.cwr_share.specs.Fields.{field_of}
use Rattle.cwr_share.specs.declared.fields.Field.{Field}
use Rattle.file_form.specs.Controls.{number_in, place_of}
use Rattle.file_form.proofs.NumberLemmas.{number_read, place_short}
use Rattle.file_form.proofs.controls.number_in.Goals as goal

pub returns : goal.returns
returns c =
    let field : c.of.result.now ≡ field_of (place_of c.args.counted) c.args.line.now = c.of.ensures ∙ ap (λ (f : Field). field_of f c.args.line.now) c.field_counting.ensures in
    let short : length c.of.result.now ≤ 8 = subst (λ (f : List ℕ). length f ≤ 8) (sym field) (place_short c.args.counted c.args.line.now) in
    number_read c.of.result.now c.number_up_to.result short c.number_up_to.ensures.number c.number_up_to.ensures.none ∙ ap number_in field
