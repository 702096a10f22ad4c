-- Statements with every sign turned.
use Rattle.std.specs.Prelude.{map, neg_ℤ}
use Rattle.merge_statements.specs.Statements.{Portion, Rest, Statement, Statements}

abbrev pub turned_portion : Portion → Portion
turned_portion portion = record { usage = portion.usage; amount = neg_ℤ portion.amount }

abbrev pub turned_statement : Statement → Statement
turned_statement statement = record { payee = statement.payee; portions = map turned_portion statement.portions }

abbrev pub turned_rest : Rest → Rest
turned_rest rest = record { reason = rest.reason; usage = rest.usage; amount = neg_ℤ rest.amount }

-- how many usage lines there are has no sign
abbrev pub turned : Statements → Statements
turned all = record {
  payees = map turned_statement all.payees;
  rests = map turned_rest all.rests;
  lines = all.lines;
  amount = neg_ℤ all.amount;
}
