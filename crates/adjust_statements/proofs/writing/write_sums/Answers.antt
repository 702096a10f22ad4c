use mir.Syntax.{w128}
use Rattle.std.proofs.Common.{to_z, of_z, ◌≡◌, ap, arith, unsigned_abs}
use Rattle.adjust_statements.proofs.EntryLemmas.{same_in_128}
use Rattle.adjust_statements.proofs.WroteLemmas.{total_within}
use Rattle.adjust_statements.proofs.writing.write_sums.Goals as goal

pub returns-clause-small : goal.returns-clause-small
returns-clause-small g c =
    let total = c.in_ok-rows.rows.total in
    let small = total_within c.args.sums total c.in_ok-rows.ensures.total c.requires in
    let kept : to_z w128 (of_z w128 total) ≡ total = same_in_128 total (omega (arith, small)) in
    omega (arith, small, ap unsigned_abs kept)
