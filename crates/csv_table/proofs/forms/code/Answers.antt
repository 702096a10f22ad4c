use Rattle.csv_table.proofs.Codes.{code_small}
use Rattle.csv_table.proofs.forms.code.Goals as goal

pub returns-in_default-2-clause-none : goal.returns-in_default-2-clause-none
returns-in_default-2-clause-none c code =
    absurd (c.in_default.ensures.none (rw c.from.ensures (code_small c.args.field.now code)))
