-- The portions of the residue, as they are kept.
use Rattle.std.specs.Prelude.{List}
use Rattle.distribution_documents.specs.declared.residue.Held.{Held}
use Rattle.line_split.specs.declared.reason.Reason.TheVariants.{Work, Land, Over, Open}
use Rattle.payee_portions.specs.Shown.{portions_shown}
use Rattle.residue_documents.specs.Page.{AreFewPortions, Residue}

abbrev pub held_shown : Held → Residue
held_shown held Work = portions_shown held.work.items
held_shown held Land = portions_shown held.land.items
held_shown held Over = portions_shown held.over.items
held_shown held Open = portions_shown held.open.items

-- they can be added
pub record AreFewHeld (held : Held) : Type 0 where
  pub work : AreFewPortions held.work.items
  pub land : AreFewPortions held.land.items
  pub over : AreFewPortions held.over.items
  pub open_share : AreFewPortions held.open.items
