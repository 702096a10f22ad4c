use Rattle.std.proofs.Common.{◌≡◌, ◌∙◌, map, string_bytes, sym}
use Rattle.std.proofs.lemmas.List.{length-map}
use Rattle.std.specs.Prelude.{length}
use Rattle.submitted_inputs.specs.Submitted.{map_tables}
use Rattle.check_inputs.specs.Checked.{bytes_of, path_of}
use Rattle.check_inputs.proofs.SubmittedWhole.{are_found, are_paired, found, sound_after, written}
use Rattle.check_inputs.proofs.submitted.check_submitted.Goals as goal

pub add_run-requires : goal.add_run-requires
add_run-requires g c =
    are_paired c.args.submitters.now (map (λ path. string_bytes path) c.args.paths.now) (g.F.SubmitterFiles.holds c.args.files.now) (map_tables path_of c.args.tables.now)
    (map_tables bytes_of c.args.tables.now) c.none-pages.result c.read_sources.new.pages c.in_ok-sources.sources c.in_ok-sources.ensures.sources
    (sym c.requires ∙ sym (length-map c.args.paths.now (λ path. string_bytes path)))

pub returns-clause-report : goal.returns-clause-report
returns-clause-report g c =
    let names = c.args.submitters.now in
    let file_paths = map (λ path. string_bytes path) c.args.paths.now in
    let holds = g.F.SubmitterFiles.holds c.args.files.now in
    let paths = map_tables path_of c.args.tables.now in
    let tables = map_tables bytes_of c.args.tables.now in
    let before = c.none-pages.result in
    let mid = c.read_sources.new.pages in
    let after = c.add_run.new.pages in
    let sources = c.in_ok-sources.sources in
    let is = c.in_ok-sources.ensures.sources in
    let run = c.in_ok-add_run.ensures in
    let all : length names ≡ length file_paths = sym c.requires ∙ sym (length-map c.args.paths.now (λ path. string_bytes path)) in
    let (no_faults, no_facts, so, no_remarks) = c.none-pages.ensures in
    let (text, sound) = c.in_ok-finish.ensures in
    record {
      found = found names file_paths holds paths tables before mid after sources is run all;
      inputs = are_found names file_paths holds paths tables before mid after sources is run all so;
      written = text ∙ written names file_paths holds paths tables before mid after sources is run all no_faults no_facts no_remarks;
      told = sound ∙ sound_after names file_paths holds paths tables before mid after sources is run all so;
    }
