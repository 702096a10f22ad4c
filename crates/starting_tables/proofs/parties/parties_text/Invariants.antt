use Rattle.std.proofs.Common.{◌≡◌, ℕ, List, map}
use Rattle.csv_table.specs.Written.{text_of}
use Rattle.starting_tables.specs.Parties.{party_row}
use Rattle.starting_tables.specs.Records.{AreRecordsOf}
use Rattle.starting_tables.proofs.parties.parties_text.Given as goal

abbrev pub invariant-loop-party : goal.invariant-loop-party
invariant-loop-party l = (lines : List (List ℕ)) → AreRecordsOf lines l.records
    → l.rows.text ≡ text_of (map (λ party. party_row l.submitter lines party.now.items) l.yielded)
