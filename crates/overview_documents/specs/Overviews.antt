-- What an overview is made of.
use Rattle.std.specs.Prelude.{List}
use Rattle.overview_documents.specs.Lines.{LineSum, sum_shown}
use Rattle.overview_documents.specs.Payees.{AreFew, PayeeLine, lines_shown}
use Rattle.overview_documents.specs.declared.page.Overview as kept
use Rattle.residue_documents.specs.Reasons.{CanBeAdded, ReasonSums, sums_shown}

-- All usage lines, those that are reversals, and those for each right; the payees that have portions; and what is held
-- back, by reason.
pub record Overview : Type 0 where
  pub lines : LineSum
  pub reversals : LineSum
  pub performing : LineSum
  pub mechanical : LineSum
  pub synchronisation : LineSum
  pub payees : List PayeeLine
  pub residue : ReasonSums

-- as it is kept
abbrev pub overview_shown : kept.Overview → Overview
overview_shown overview = record {
  lines = sum_shown overview.lines;
  reversals = sum_shown overview.reversals;
  performing = sum_shown overview.performing;
  mechanical = sum_shown overview.mechanical;
  synchronisation = sum_shown overview.synchronisation;
  payees = lines_shown overview.payees.now;
  residue = sums_shown overview.residue;
}

-- sums that can be added
pub record CanBeShown (overview : kept.Overview) : Type 0 where
  pub payees : AreFew overview.payees.now
  pub residue : CanBeAdded overview.residue
