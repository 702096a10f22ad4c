-- A report on the inputs of several submitters, put together from its parts.
use Rattle.std.proofs.Common.{◌≡◌, ◌∙◌, ◌++◌, [], ℕ, Bool, true, false, List, None, Option, Some, ap, append_assoc, cond, flat_map, is_some, length, not, refl, subst, sym}
use Rattle.std.specs.Prelude.{◌==◌, ◌&&◌}
use Rattle.std.specs.List.{list_all}
use Rattle.std.specs.Option.{option_map_or}
use Rattle.std.proofs.lemmas.Bool.{and_parts}
use Rattle.cwr_share.specs.Registered.{Registered}
use Rattle.linked_works.specs.Linked.{Finds, Link}
use Rattle.linked_works.specs.Submitters.{AreSubmitters}
use Rattle.linked_works.specs.declared.works_fault.WorksFault.{WorksFault}
use Rattle.submitted_inputs.specs.declared.inputs.SubmittedTables.{SubmittedTables}
use Rattle.check_inputs.specs.Found.{AreTotalsIfSound}
use Rattle.check_inputs.specs.LinksSoFar.{ArePaired, are_sound, finds_in_force}
use Rattle.check_inputs.specs.Report.{further_over, totals_text}
use Rattle.check_inputs.specs.SoFar.{PagesGoOn}
use Rattle.check_inputs.specs.SubmittedFound.{AreLinked, IsFoundIn, SubmittedFound, are_linked, finds_of, has_no_fault, is_sound}
use Rattle.check_inputs.specs.SubmittedOver.{over_text}
use Rattle.check_inputs.specs.SubmittedReport.{facts_text, faults_text, file_remark, links_remarks, payees_path, payees_remark, report_of, rows_remark, run_text, unlinked_remarks}
use Rattle.check_inputs.specs.SubmittedSoFar.{AreSourcesOf, IsRunTold, sources_text}
use Rattle.check_inputs.specs.declared.submitted_files.Pages.{Pages}
use Rattle.check_inputs.specs.declared.submitted_sources.Sources.{Sources}
use Rattle.check_inputs.proofs.SubmittedReporting.{count_files, count_in_force, finds_are, linked_as, one_each, remarks_as}

-- four parts, one after another
four_on : {before one two three four : Pages} {a b c d : Bool} {told_a told_b told_c told_d facts_a facts_b facts_c facts_d remarks_a remarks_b remarks_c remarks_d : List ℕ}
    → PagesGoOn before one a told_a facts_a remarks_a → PagesGoOn one two b told_b facts_b remarks_b
    → PagesGoOn two three c told_c facts_c remarks_c → PagesGoOn three four d told_d facts_d remarks_d
    → (four.sheet.faults.items ≡ before.sheet.faults.items ++ (told_a ++ told_b ++ told_c ++ told_d))
    × (four.sheet.facts.items ≡ before.sheet.facts.items ++ (facts_a ++ facts_b ++ facts_c ++ facts_d))
    × (four.remarks.items ≡ before.remarks.items ++ (remarks_a ++ remarks_b ++ remarks_c ++ remarks_d))
four_on {before} {one} {two} {three} {four} {a} {b} {c} {d} first second third fourth = (
  rw (fourth.in_words, third.in_words, second.in_words, first.in_words) (simp (append_assoc) refl),
  rw (fourth.in_numbers, third.in_numbers, second.in_numbers, first.in_numbers) (simp (append_assoc) refl),
  rw (fourth.in_remarks, third.in_remarks, second.in_remarks, first.in_remarks) (simp (append_assoc) refl),
)

-- whether six are so
all_six : (t p w f l u : Bool) → (true && (t && (p && w)) && f && l && u) ≡ (t && (p && w && f) && l && u)
all_six true p w f l u = refl
all_six false p w f l u = refl

-- where there are registrations, links were looked at
text_as : (linked : Bool) (rows : List (List ℕ × List ℕ)) (finds other : Finds) (links : List Link) (fault : Option WorksFault) (registered : Option Registered)
    (text : Finds → Registered → List ℕ) → AreLinked linked rows finds links fault registered → (linked ≡ true → finds ≡ other)
    → option_map_or (text finds) registered [] ≡ option_map_or (text other) registered []
text_as linked rows finds other links fault None text is same = refl
text_as true rows finds other links fault (Some registered) text is same = ap (λ (f : Finds). text f registered) (same refl)
text_as false rows finds other links fault (Some registered) text is same = absurd (nothing is.1)
  where
    nothing : Some registered ≡ None → ⊥
    nothing is = cc

-- each submitter has one file
pub are_paired : (names file_paths : List (List ℕ)) (holds : ℕ → List ℕ → Type 0) (paths tables : SubmittedTables (List ℕ)) (before mid : Pages) (sources : Sources)
    → AreSourcesOf names file_paths holds paths tables before mid sources → length names ≡ length file_paths → ArePaired sources
are_paired names file_paths holds paths tables before mid sources is all = record {
  names = is.names_are ∙ sym named;
  submitters = subst AreSubmitters (sym named) is.submitters;
  files =
      count_in_force holds file_paths sources.tables.works is.found sources.files is.files_read
      ∙ (count_files holds file_paths sources.tables.works is.found sources.files is.files_read ∙ (sym all ∙ ap (λ (l : List (List ℕ)). length l) (sym named)));
  registrations = one_each holds file_paths sources.tables.works is.found sources.files is.files_read;
}
  where
    named : sources.tables.works.names ≡ names
    named = is.tables_read.names_are

module _ (names file_paths : List (List ℕ)) (holds : ℕ → List ℕ → Type 0) (paths tables : SubmittedTables (List ℕ)) (before mid after : Pages) (sources : Sources)
    (is : AreSourcesOf names file_paths holds paths tables before mid sources) (run : IsRunTold paths tables.usage sources mid after) (all : length names ≡ length file_paths) where
  abbrev pub found : SubmittedFound
  found = record {
    of_territories = is.tables_read.of_territories;
    of_payees = is.tables_read.of_payees;
    of_works = is.tables_read.of_works;
    files = is.found;
    of_links = run.of_links;
    of_usage = run.of_usage;
    table = sources.tables.territories;
    rows = sources.tables.payees;
    links = sources.tables.works.links;
    registered = run.registered;
    lines = run.lines;
    totals = run.totals;
  }

  linked_is : are_sound sources ≡ are_linked found
  linked_is =
      ap (λ (b : Bool). b && sources.files.are_sound) is.tables_read.sound_is
      ∙ ap (λ (b : Bool). ((length found.of_payees == 0) && (length found.of_works == 0)) && b) is.files_read.sound_is

  faultless : are_sound sources ≡ true → list_all has_no_fault found.files ≡ true
  faultless so = (and_parts ((length found.of_payees == 0) && (length found.of_works == 0)) (list_all has_no_fault found.files) (sym linked_is ∙ so)).1

  same : are_sound sources ≡ true → finds_in_force sources ≡ finds_of names found.files
  same so = rw is.tables_read.names_are (finds_are holds file_paths sources.tables.works is.found sources.files is.files_read names all (faultless so))

  sound_before : before.sheet.is_sound ≡ true → (run.between.sheet.is_sound && (length found.of_usage == 0)) ≡ is_sound found
  sound_before so =
      rw (run.links.on.sound, is.on.sound, is.tables_read.on.sound, so, is.files_read.sound_is)
      (all_six (length found.of_territories == 0) (length found.of_payees == 0) (length found.of_works == 0) (list_all has_no_fault found.files) (not (is_some found.of_links))
      (length found.of_usage == 0))

  pub are_found : before.sheet.is_sound ≡ true → IsFoundIn names file_paths holds tables found
  are_found so = record {
    territories = is.tables_read.territories;
    payees = is.tables_read.payees;
    works = is.tables_read.works;
    files_are = is.files_read.are;
    linked =
        subst (λ (b : Bool). AreLinked b found.rows (finds_of names found.files) found.links found.of_links found.registered) linked_is
        (linked_as (are_sound sources) found.rows (finds_in_force sources) (finds_of names found.files) found.links found.of_links found.registered same run.links.linked);
    usage = run.usage_read;
    totals = subst (λ (b : Bool). AreTotalsIfSound b found.table found.registered found.lines found.totals) (sound_before so) run.are_totals;
  }

  pub sound_after : before.sheet.is_sound ≡ true → after.sheet.is_sound ≡ is_sound found
  sound_after so = run.on.sound ∙ sound_before so

  files_remarks : flat_map (file_remark sources.tables.tis_faults found.table) found.files ≡ flat_map (file_remark (length found.of_territories) found.table) found.files
  files_remarks = ap (λ (n : ℕ). flat_map (file_remark n found.table) found.files) is.tables_read.count

  unlinked_are : sources.files.unlinked.items ≡ unlinked_remarks found.links names found.files
  unlinked_are = is.files_read.unlinked_are ∙ ap (λ (n : List (List ℕ)). unlinked_remarks found.links n found.files) is.tables_read.names_are

  run_remarks : option_map_or (λ registered. option_map_or (sources_text paths sources run.lines registered) run.totals []) run.registered []
      ≡ option_map_or (λ registered. option_map_or (run_text names paths found registered) found.totals []) found.registered []
  run_remarks =
      ap (λ (n : List (List ℕ)). option_map_or (text n (finds_in_force sources)) run.registered []) is.tables_read.names_are
      ∙ text_as (are_sound sources) found.rows (finds_in_force sources) (finds_of names found.files) found.links found.of_links run.registered (text names) run.links.linked same
    where
      text : List (List ℕ) → Finds → Registered → List ℕ
      text n finds registered =
          option_map_or (λ totals. totals_text paths.usage paths.works paths.territories (length run.lines) totals
          ++ (over_text paths.usage found.table registered finds found.links n run.lines totals.over.first.items ++ further_over paths.usage totals)) run.totals []

  linked_remarks : cond (are_sound sources) (rows_remark paths.works (finds_in_force sources) found.links ++ sources.files.unlinked.items) []
      ≡ cond (are_linked found) (links_remarks paths.works names found.files found.links) []
  linked_remarks =
      ap (λ (l : List ℕ). cond (are_sound sources) (rows_remark paths.works (finds_in_force sources) found.links ++ l) []) unlinked_are
      ∙ (remarks_as (are_sound sources) paths.works (finds_in_force sources) (finds_of names found.files) found.links (unlinked_remarks found.links names found.files) same
      ∙ ap (λ (b : Bool). cond b (links_remarks paths.works names found.files found.links) []) linked_is)

  pub written : before.sheet.faults.items ≡ [] → before.sheet.facts.items ≡ [] → before.remarks.items ≡ []
      → after.sheet.faults.items ++ after.sheet.facts.items ++ after.remarks.items ≡ report_of names paths tables found
  written no_faults no_facts no_remarks =
      let (words, numbers, remarks) = four_on is.tables_read.on is.on run.links.on run.on in
      let first : after.sheet.faults.items ≡ faults_text paths found = rw (words, no_faults) (simp (append_assoc) refl) in
      let second : after.sheet.facts.items ≡ facts_text paths tables found = rw (numbers, no_facts) (simp (append_assoc) refl) in
      let paid = option_map_or (payees_remark (payees_path paths) found.rows) run.registered [] in
      rw (first, second, remarks, no_remarks) (parts (faults_text paths found) (facts_text paths tables found) paid _ _ _ _ _ _ files_remarks linked_remarks run_remarks)
    where
      parts : (x y p f g c d t u : List ℕ) → f ≡ g → c ≡ d → t ≡ u → x ++ y ++ (f ++ (p ++ c) ++ t) ≡ x ++ y ++ (g ++ p ++ d) ++ u
      parts x y p f g c d t u same_files same_links same_run = rw (same_files, same_links, same_run) (simp (append_assoc) refl)
