use Rattle.std.proofs.Common.{◌≡◌, ℕ, List, nat_eq, take}
use Rattle.std.specs.Cmp.Lexicographic.{pointwise}
use Rattle.std.specs.List.{list_any}
use Rattle.csv_table.specs.Written.{text_of}
use Rattle.starting_tables.specs.Works.{has_iswc}
use Rattle.starting_tables.proofs.WorksLemmas.{first_rows}
use Rattle.starting_tables.proofs.works.works_text.Given as goal

abbrev pub invariant-loop-registration : goal.invariant-loop-registration
invariant-loop-registration l = record {
  text : l.rows.text ≡ text_of (first_rows l.submitter l.registrations l.registration-index);
  seen : (iswc : List ℕ) → list_any (pointwise nat_eq iswc) l.seen.keys ≡ has_iswc (take l.registration-index l.registrations) iswc;
}
