use Rattle.std.proofs.Common.{◌∙◌, refl}
use Rattle.starting_tables.proofs.PartyLemmas.{records_share}
use Rattle.starting_tables.proofs.party_records.PartyRecords.add_share.Goals as goal

pub returns : goal.returns
returns c = λ lines are.
    records_share lines c.args.line.now c.args.self.now (record { parties = c.insert.new.self; named = c.args.self.now.named; paid = c.args.self.now.paid })
    c.in_ok-from_slice.field-0 c.requires (c.in_ok-from_slice.ensures.items ∙ c.share_party-party.ensures) c.in_ok-insert.ensures.keys refl refl are
