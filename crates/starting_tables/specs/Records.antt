-- The records of parties, as they are gathered.
use Rattle.std.specs.Prelude.{ℕ, ◌≡◌, List, Option, map, nat_eq, option_map}
use Rattle.std.specs.Borrow.{Bor}
use Rattle.std.specs.Cmp.Lexicographic.{pointwise}
use Rattle.indexmap.specs.IndexMap.{IndexMap, get}
use Rattle.starting_tables.specs.Parties.{has_ipi, has_name, last_record, parties_of}
use Rattle.starting_tables.specs.declared.party_records.PartyRecords.{PartyRecords}

-- the record that is kept for a party
abbrev pub line_for : {S : Type 0} → IndexMap (List ℕ) (Bor (List ℕ)) S → (party : List ℕ) → Option (List ℕ)
line_for records party = option_map (λ line. line.now) (get (pointwise nat_eq) records party)

-- they are those of these lines
pub record AreRecordsOf (lines : List (List ℕ)) (records : PartyRecords) : Type 0 where
  pub parties : map (λ party. party.items) records.parties.keys ≡ parties_of lines
  pub named : (party : List ℕ) → line_for records.named party ≡ last_record has_name lines party
  pub paid : (party : List ℕ) → line_for records.paid party ≡ last_record has_ipi lines party
