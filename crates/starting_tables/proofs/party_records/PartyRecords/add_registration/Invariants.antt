use Rattle.std.proofs.Common.{length}
use Rattle.starting_tables.proofs.PartyLemmas.{HasRead}
use Rattle.starting_tables.proofs.party_records.PartyRecords.add_registration.Given as goal

abbrev pub invariant-loop-line : goal.invariant-loop-line
invariant-loop-line l = HasRead l.initial.lines l.lines l.initial.self l.self

abbrev pub decreases-loop-line : goal.decreases-loop-line
decreases-loop-line l = length l.lines
