-- The words for the reasons why money goes to the residue.
use Rattle.std.specs.Prelude.{ℕ, List, codes}
use Rattle.line_split.specs.declared.reason.Reason.{Reason}
use Rattle.line_split.specs.declared.reason.Reason.TheVariants.{Work, Land, Over, Open}

abbrev pub reason_text : Reason → List ℕ
reason_text Work = codes "WORK"
reason_text Land = codes "LAND"
reason_text Over = codes "OVER"
reason_text Open = codes "OPEN"
