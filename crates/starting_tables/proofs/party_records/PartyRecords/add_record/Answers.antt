use Rattle.std.proofs.Common.{refl}
use Rattle.std.proofs.lemmas.Result.{on_ok_weaker}
use Rattle.starting_tables.proofs.PartyLemmas.{records_record}
use Rattle.starting_tables.proofs.party_records.PartyRecords.add_record.Goals as goal

pub returns : goal.returns
returns c = λ lines are.
    on_ok_weaker c.note-2.result
    (λ paid. records_record lines c.args.line.now c.args.self.now
    (record { parties = c.args.self.now.parties; named = c.note.new.records; paid = c.note-2.new.records })
    c.has_name.result c.has_ipi.result c.requires refl c.has_name.ensures c.has_ipi.ensures c.in_ok-note.ensures paid are)
    c.note-2.ensures
