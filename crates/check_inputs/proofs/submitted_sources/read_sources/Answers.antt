use Rattle.std.proofs.Common.{◌∙◌, List, ℕ, ap, length, sym}
use Rattle.check_inputs.proofs.submitted_sources.read_sources.Goals as goal

pub read_files-requires : goal.read_files-requires
read_files-requires g c = c.requires ∙ ap (λ (l : List (List ℕ)). length l) (sym c.in_ok-tables.ensures.names_are)

pub returns-clause-sources : goal.returns-clause-sources
returns-clause-sources g c =
    let (found, are, on) = c.in_ok-files.ensures.read in
    record {
      between = c.read_tables.new.pages;
      tables_read = c.in_ok-tables.ensures;
      found = found;
      files_read = are;
      on = on;
      names_are = c.as_slice.ensures.names;
      submitters = c.as_slice.ensures.sound;
    }
