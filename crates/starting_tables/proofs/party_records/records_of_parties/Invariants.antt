use Rattle.std.proofs.Common.{take}
use Rattle.starting_tables.specs.InForce.{bodies_of}
use Rattle.starting_tables.specs.Records.{AreRecordsOf}
use Rattle.starting_tables.proofs.party_records.records_of_parties.Given as goal

abbrev pub invariant-loop-registration : goal.invariant-loop-registration
invariant-loop-registration l = AreRecordsOf (bodies_of (take l.registration-index l.registrations)) l.records
