use Rattle.royalty_program.proofs.ImportLemmas.{flag_none, flag_some}
use Rattle.royalty_program.proofs.import_command.is_flagged.Goals as goal

pub returns-in-Some : goal.returns-in-Some
returns-in-Some c = λ words rows. flag_some c.args.matches.now words c.args.name.now c.get_str.result c.in-Some.value c.eq.result rows c.get_str.ensures c.in-Some.is c.eq.ensures

pub returns-in-None : goal.returns-in-None
returns-in-None c = λ words rows. flag_none c.args.matches.now words c.args.name.now c.get_str.result rows c.get_str.ensures c.in-None.is
