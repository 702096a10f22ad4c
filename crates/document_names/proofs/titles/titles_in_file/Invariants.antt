use Rattle.std.proofs.Common.{map, take}
use Rattle.starting_tables.specs.InForce.{number_of}
use Rattle.starting_tables.specs.Works.{title_of}
use Rattle.document_names.specs.FirstTexts.{AreFirstTexts}
use Rattle.document_names.proofs.titles.titles_in_file.Given as goal

-- of the registrations so far
abbrev pub invariant-loop-place : goal.invariant-loop-place
invariant-loop-place l =
    AreFirstTexts (map (λ registration. (number_of registration, title_of registration)) (take l.place l.registrations.items)) l.titles
