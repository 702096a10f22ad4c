use Rattle.std.proofs.Common.{arith}
use Rattle.std.proofs.lemmas.List.{length-map}
use Rattle.std.proofs.lemmas.List.Sums.{count_by-le-length, length-filter}
use Rattle.payee_portions.specs.Lands.{is_in}
use Rattle.payee_portions.specs.Shown.{portion_shown, portions_shown}
use Rattle.payee_documents.proofs.breakdowns.land_row.Goals as goal

pub returns-clause-count : goal.returns-clause-count
returns-clause-count c =
    omega (
      arith,
      c.count_in.ensures,
      length-filter (is_in c.args.code) (portions_shown c.args.portions.now),
      count_by-le-length (is_in c.args.code) (portions_shown c.args.portions.now),
      length-map c.args.portions.now portion_shown,
      c.requires.few,
    )
