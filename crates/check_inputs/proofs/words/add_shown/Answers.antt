use Rattle.std.proofs.Common.{arith}
use Rattle.check_inputs.proofs.Telling.{shown_whole}
use Rattle.check_inputs.proofs.words.add_shown.Goals as goal

pub returns : goal.returns
returns c =
    shown_whole c.args.field.now c.args.text.now.items c.add_bytes.new.text.items c.min-end.result c.if-field-gt-MOST_FIELD_BYTES.false c.in_ok-add_bytes.ensures
    (omega (arith, c.min-end.ensures, c.if-field-gt-MOST_FIELD_BYTES.false))
