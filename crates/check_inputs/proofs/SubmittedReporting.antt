-- A report on the inputs of several submitters, put together from its parts.
use Rattle.std.proofs.Common.{◌≡◌, ◌∙◌, ◌<◌, ◌++◌, ◌∷◌, [], ℕ, zero, suc, Bool, true, false, All, List, Option, Some, ap, append_assoc, arith, cond, get_or, length, map, refl, subst, sym, zip}
use Rattle.std.specs.Prelude.{◌==◌, ◌&&◌}
use Rattle.std.specs.List.{list_all}
use Rattle.std.specs.Cmp.{unsigned_Decides}
use Rattle.std.proofs.lemmas.Bool.{and_parts}
use Rattle.std.proofs.lemmas.List.{get_or-map, length-map}
use Rattle.cwr_share.specs.CwrFile.{AreSound}
use Rattle.cwr_share.specs.InForce.{HasInForce, IsOneRegistration}
use Rattle.cwr_share.specs.Lines.{lines_of}
use Rattle.cwr_share.specs.Registered.{Registered}
use Rattle.cwr_share.specs.Registrations.{ShareLine, find_work}
use Rattle.cwr_share.proofs.CwrReadings.{all_read}
use Rattle.linked_works.specs.Linked.{Finds, Link, finds_among}
use Rattle.linked_works.specs.Rows.{Table}
use Rattle.linked_works.specs.declared.works_fault.WorksFault.{WorksFault}
use Rattle.submitted_inputs.proofs.FileLemmas.{Held, same_finds}
use Rattle.check_inputs.specs.SoFar.{AreAllRead, GoesOn}
use Rattle.check_inputs.specs.SubmittedFound.{AreInForceWithout, AreLinked, FileFound, finds_of, has_no_fault}
use Rattle.check_inputs.specs.SubmittedReport.{rows_remark}
use Rattle.check_inputs.specs.declared.report.Sheet.{Sheet}
use Rattle.check_inputs.specs.declared.submitted_files.FilesRead.{FilesRead}
use Rattle.check_inputs.proofs.FilesRead.{sound_without}

-- three files one after another
pub three_on : {before one two three : Sheet} {a b c : ℕ} {told_a told_b told_c facts_a facts_b facts_c : List ℕ} → GoesOn before one a told_a facts_a → GoesOn one two b told_b facts_b
    → GoesOn two three c told_c facts_c
    → (three.faults.items ≡ before.faults.items ++ (told_a ++ told_b ++ told_c)) × (three.facts.items ≡ before.facts.items ++ (facts_a ++ facts_b ++ facts_c))
    × (three.is_sound ≡ (before.is_sound && ((a == 0) && ((b == 0) && (c == 0)))))
three_on {before} {one} {two} {three} {a} {b} {c} first second third = (
  rw (third.in_words, second.in_words, first.in_words) (simp (append_assoc) refl),
  rw (third.in_numbers, second.in_numbers, first.in_numbers) (simp (append_assoc) refl),
  rw (third.sound, second.sound, first.sound) (by before.is_sound (a == 0) (b == 0) (c == 0)),
)
  where
    by : (start a b c : Bool) → (((start && a) && b) && c) ≡ (start && (a && (b && c)))
    by true true b c = refl
    by true false b c = refl
    by false a b c = refl

-- each of those that all pass passes
each_pass : (test : FileFound → Bool) (files : List FileFound) → list_all test files ≡ true → (place : ℕ) (d : FileFound) → place < length files → test (get_or files place d) ≡ true
each_pass test [] all place d within = absurd (omega (arith, within))
each_pass test (file ∷ files) all zero d within = (and_parts (test file) (list_all test files) all).0
each_pass test (file ∷ files) all (suc place) d within = each_pass test files (and_parts (test file) (list_all test files) all).1 place d (omega (arith, within))

none_left : (n : ℕ) → (n == 0) ≡ true → n ≡ 0
none_left n is = (unsigned_Decides n 0).0 is

-- what is in force in a file without faults is in force after its lines
whole_file : (lines : List (List ℕ)) (out : _) (works : List (List ℕ × List ShareLine)) → AreInForceWithout lines out works → length out ≡ 0 → HasInForce lines works
whole_file lines [] works is none = subst (λ (l : List (List ℕ)). HasInForce l works) (all_read [] lines 1 is.end is.kept is.read) is.in_force
whole_file lines (e ∷ out) works is none = absurd (omega (arith, none))

module _ (holds : ℕ → List ℕ → Type 0) (paths : List (List ℕ)) (works : Table) (files : List FileFound) (read : FilesRead) (are : AreAllRead holds paths works files read) where
  abbrev in_force : List (List (List ℕ × List ShareLine))
  in_force = read.in_force.items

  pub count_files : length files ≡ length paths
  count_files = sym (length-map files (λ (file : FileFound). file.path)) ∙ ap (λ (l : List (List ℕ)). length l) are.are.paths_are

  pub count_in_force : length in_force ≡ length files
  count_in_force = ap (λ (l : List (List (List ℕ × List ShareLine))). length l) (sym are.works_are) ∙ length-map files (λ (file : FileFound). file.works)

  some_file : List (List ℕ × List ShareLine) → FileFound
  some_file works = record { path = []; bytes = []; faults = []; works = works }

  works_at : (place : ℕ) (d : List (List ℕ × List ShareLine)) (e : FileFound) → place < length files → get_or in_force place d ≡ (get_or files place e).works
  works_at place d e within = ap (λ (l : List (List (List ℕ × List ShareLine))). get_or l place d) (sym are.works_are) ∙ get_or-map (λ (file : FileFound). file.works) files place e d within

  -- a registration is no longer than one is
  pub one_each : All (λ works. (number : List ℕ) (shares : List ShareLine) → find_work number works ≡ Some shares → IsOneRegistration shares) in_force
  one_each k d within number shares is =
      let inside : k < length files = omega (arith, within, count_in_force) in
      (are.are.each k (some_file d) inside).is_read.in_force.each number shares (ap (λ (works : List (List ℕ × List ShareLine)). find_work number works) (sym (works_at k d (some_file d) inside)) ∙ is)

  -- and what is found in them is found in the files, where these have no fault
  module _ (names : List (List ℕ)) (all : length names ≡ length paths) (faultless : list_all has_no_fault files ≡ true) where
    abbrev held : Held holds (length names) in_force
    held = record {
      files = map (λ (file : FileFound). file.bytes) files;
      all = length-map files (λ (file : FileFound). file.bytes) ∙ (count_files ∙ sym all);
      each = λ place d within.
          let inside : place < length files = omega (arith, within, all, count_files) in
          let e = some_file d in
          let file = get_or files place e in
          let bytes : get_or (map (λ (file : FileFound). file.bytes) files) place [] ≡ file.bytes = get_or-map (λ (file : FileFound). file.bytes) files place e [] inside in
          let it = are.are.each place e inside in
          let none : length file.faults ≡ 0 = none_left (length file.faults) (each_pass has_no_fault files faultless place e inside) in (
            subst (λ (b : List ℕ). holds place b) (sym bytes) it.held,
            subst (λ (b : List ℕ). AreSound (lines_of b)) (sym bytes) (sound_without (lines_of file.bytes) file.faults file.works it.is_read none),
            subst (λ (b : List ℕ). HasInForce (lines_of b) (get_or in_force place d)) (sym bytes)
                (subst (λ (w : List (List ℕ × List ShareLine)). HasInForce (lines_of file.bytes) w) (sym (works_at place d e inside))
                (whole_file (lines_of file.bytes) file.faults file.works it.is_read none)),
          );
    }

    pub finds_are : finds_among (zip names in_force) ≡ finds_of names files
    finds_are = same_finds holds names in_force held (count_in_force ∙ (count_files ∙ sym all))

-- where links are not looked at, nothing rests on what finds them
pub linked_as : (linked : Bool) (rows : List (List ℕ × List ℕ)) (finds other : Finds) (links : List Link) (fault : Option WorksFault) (registered : Option Registered)
    → (linked ≡ true → finds ≡ other) → AreLinked linked rows finds links fault registered → AreLinked linked rows other links fault registered
linked_as true rows finds other links fault registered same is = subst (λ (f : Finds). AreLinked true rows f links fault registered) (same refl) is
linked_as false rows finds other links fault registered same is = is

pub remarks_as : (linked : Bool) (path : List ℕ) (finds other : Finds) (links : List Link) (rest : List ℕ) → (linked ≡ true → finds ≡ other)
    → cond linked (rows_remark path finds links ++ rest) [] ≡ cond linked (rows_remark path other links ++ rest) []
remarks_as true path finds other links rest same = ap (λ (f : Finds). rows_remark path f links ++ rest) (same refl)
remarks_as false path finds other links rest same = refl
