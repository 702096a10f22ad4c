use Rattle.settle_run.proofs.statements.read_and_divide.Goals as goal

pub returns-clause-statements : goal.returns-clause-statements
returns-clause-statements g c = record { tables = c.in_ok-tables.tables; read = c.in_ok-tables.ensures.read; statements = c.in_ok-divide.ensures.statements }
