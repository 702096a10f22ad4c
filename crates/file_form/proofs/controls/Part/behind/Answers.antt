use Rattle.std.proofs.Common.{[]}
use Rattle.file_form.proofs.controls.Part.behind.Goals as goal

pub returns-then-begins : goal.returns-then-begins
returns-then-begins c lines is = rw c.if-begins.true (c.with.ensures [] c.none.ensures)
