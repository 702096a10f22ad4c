use Rattle.std.proofs.Common.{arith, ap, length, List, ℕ}
use Rattle.cwr_share.specs.Fields.{trimmed}
use Rattle.starting_tables.proofs.NumberLemmas.{trimmed_short, range_short}
use Rattle.starting_tables.proofs.in_force.FiledLines.number.Goals as goal

pub returns-clause-short : goal.returns-clause-short
returns-clause-short c =
    omega (
      arith,
      ap (λ (l : List ℕ). length l) c.trimmed.ensures,
      ap (λ (l : List ℕ). length l) c.of.ensures,
      trimmed_short c.of.result.now,
      range_short 81 95 c.self.inside.opening.now,
    )
