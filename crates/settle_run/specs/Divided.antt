-- What the text of the statements is made of, as a clause sees it.
use Rattle.std.specs.Prelude.{ℕ, List}
use Rattle.settle_run.specs.Settled.{text_of_book}
use Rattle.settle_run.specs.declared.statements.Divided.{Divided}

-- the text that is made of this
abbrev pub text_in : Divided → List ℕ
text_in divided = text_of_book divided.tables divided.book divided.reasons.items
