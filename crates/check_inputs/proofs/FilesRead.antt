-- Files of several submitters, read one after another.
use Rattle.std.proofs.Common.{◌≡◌, ◌∙◌, ◌<◌, ◌+◌, ◌++◌, ◌∷◌, [], ℕ, Bool, true, false, List, ap, append_assoc, append-nil, arith, flat_map, get_or, inl, inr, length, refl, subst, sym, zip}
use Rattle.std.specs.Prelude.{◌&&◌}
use Rattle.std.specs.List.{list_all}
use Rattle.std.proofs.lemmas.Bool.{cases_lt}
use Rattle.std.proofs.lemmas.List.{flat_map_more, get_or_append_left, get_or_push, length-map, length_push, map_push}
use Rattle.csv_table.proofs.InTurn.{sound_none, sound_push}
use Rattle.csv_table.specs.ReadOn.{ReadsOn}
use Rattle.csv_table.specs.ReadOn.ReadsOn.{here, read}
use Rattle.cwr_share.specs.CwrFile.{AreSound, IsSound}
use Rattle.cwr_share.specs.CwrReading.{Reads, Refuses, Stops}
use Rattle.cwr_share.specs.Lines.{lines_of}
use Rattle.cwr_share.specs.Registrations.{ShareLine}
use Rattle.cwr_share.specs.declared.cwr_fault.CwrFault.{CwrFault}
use Rattle.cwr_share.proofs.CwrReadings.{all_read}
use Rattle.linked_works.specs.Linked.{Link}
use Rattle.linked_works.specs.Rows.{Table}
use Rattle.check_inputs.specs.SoFar.{AreAllRead, IsOneRead, PagesGoOn}
use Rattle.check_inputs.specs.SubmittedFound.{AreInForceWithout, FileFound, IsFileFound, has_no_fault}
use Rattle.check_inputs.specs.SubmittedReport.{unlinked_remark, unlinked_remarks}
use Rattle.check_inputs.specs.declared.submitted_files.FilesRead.{FilesRead}
use Rattle.check_inputs.specs.declared.submitted_files.Pages.{Pages}

-- lines that are read without one that is left out are sound
sound_kept : (before left last : List (List ℕ)) (number end : ℕ) → ReadsOn Reads Refuses Stops before number left [] last end [] → AreSound before → AreSound last
sound_kept before left last number end (here _ _ _) sound = sound
sound_kept before left last number end (read _ next _ _ _ line rest _ _ (good, is) on) sound =
    sound_kept next rest last (number + 1) end on (rw is (sound_push IsSound before line sound good))

-- so a CWR file of which no line is left out has sound lines
pub sound_without : (lines : List (List ℕ)) (out : List (List ℕ × CwrFault)) (works : List (List ℕ × List ShareLine)) → AreInForceWithout lines out works → length out ≡ 0
    → AreSound lines
sound_without lines [] works is none =
    subst AreSound (all_read [] lines 1 is.end is.kept is.read) (sound_kept [] lines is.kept 1 is.end is.read (sound_none IsSound))
sound_without lines (e ∷ out) works is none = absurd (omega (arith, none))

-- one more passes where it does
all_push : (test : FileFound → Bool) (files : List FileFound) (file : FileFound) → list_all test (files ++ file ∷ []) ≡ (list_all test files && test file)
all_push test [] file = by (test file)
  where
    by : (b : Bool) → (b && true) ≡ b
    by true = refl
    by false = refl
all_push test (first ∷ files) file = ap (λ (b : Bool). test first && b) (all_push test files file) ∙ by (test first) (list_all test files) (test file)
  where
    by : (a b c : Bool) → (a && (b && c)) ≡ ((a && b) && c)
    by true b c = refl
    by false b c = refl

-- a list goes on, beside one that is longer
zip_push : (names : List (List ℕ)) (files : List FileFound) (file : FileFound) → length files < length names
    → zip names (files ++ file ∷ []) ≡ zip names files ++ (get_or names (length files) [], file) ∷ []
zip_push [] files file within = absurd (omega (arith, within))
zip_push (name ∷ names) [] file within = by names
  where
    by : (names : List (List ℕ)) → (name, file) ∷ zip names [] ≡ (name, file) ∷ []
    by [] = refl
    by (_ ∷ _) = refl
zip_push (name ∷ names) (first ∷ files) file within = ap (λ (l : List (List ℕ × FileFound)). (name, first) ∷ l) (zip_push names files file (omega (arith, within)))

-- of no files, nothing is said
pub none_told : (links : List Link) (names : List (List ℕ)) → unlinked_remarks links names [] ≡ []
none_told links [] = refl
none_told links (_ ∷ _) = refl

-- one file more
pub one_more : (holds : ℕ → List ℕ → Type 0) (paths : List (List ℕ)) (path bytes : List ℕ) (works : Table) (files : List FileFound) (earlier next : FilesRead)
    (file : FileFound) (one : List (List ℕ × List ShareLine)) (is_sound : Bool)
    → AreAllRead holds paths works files earlier → IsOneRead path bytes file one is_sound → holds (length paths) bytes → length paths < length works.names
    → next.in_force.items ≡ earlier.in_force.items ++ one ∷ []
    → next.unlinked.items ≡ earlier.unlinked.items ++ unlinked_remark works.links (get_or works.names (length paths) []) path bytes
    → next.are_sound ≡ (earlier.are_sound && is_sound)
    → AreAllRead holds (paths ++ path ∷ []) works (files ++ file ∷ []) next
one_more holds paths path bytes works files earlier next file one is_sound are is held within kept told sound = record {
  are = record {
    paths_are = map_push (λ (file : FileFound). file.path) files file ∙ (ap (λ (l : List (List ℕ)). l ++ file.path ∷ []) are.are.paths_are ∙ ap (λ (p : List ℕ). paths ++ p ∷ []) is.path_is);
    each = each;
  };
  works_are =
      map_push (λ (file : FileFound). file.works) files file
      ∙ (ap (λ (l : List (List (List ℕ × List ShareLine))). l ++ file.works ∷ []) are.works_are
      ∙ (ap (λ (w : List (List ℕ × List ShareLine)). earlier.in_force.items ++ w ∷ []) is.works_are ∙ sym kept));
  unlinked_are =
      told
      ∙ (ap (λ (l : List ℕ). l ++ unlinked_remark works.links (get_or works.names (length paths) []) path bytes) are.unlinked_are
      ∙ (ap (λ (p : List ℕ). before ++ unlinked_remark works.links (get_or works.names (length paths) []) p bytes) (sym is.path_is)
      ∙ (ap (λ (b : List ℕ). before ++ unlinked_remark works.links (get_or works.names (length paths) []) file.path b) (sym is.bytes_are)
      ∙ (ap (λ n. before ++ remark (get_or works.names n [], file)) (sym count)
      ∙ (flat_map_more remark [] (zip works.names files) (get_or works.names (length files) [], file)
      ∙ ap (flat_map remark) (sym (zip_push works.names files file (omega (arith, within, count)))))))));
  sound_is = sound ∙ (ap (λ (b : Bool). b && is_sound) are.sound_is ∙ (ap (λ (b : Bool). list_all has_no_fault files && b) is.sound_is ∙ sym (all_push has_no_fault files file)));
}
  where
    remark : List ℕ × FileFound → List ℕ
    remark e = unlinked_remark works.links e.0 e.1.path e.1.bytes

    before : List ℕ
    before = flat_map remark (zip works.names files)

    count : length files ≡ length paths
    count = sym (length-map files (λ (file : FileFound). file.path)) ∙ ap (λ (l : List (List ℕ)). length l) are.are.paths_are

    its : IsFileFound (holds (length files)) file
    its = record {
      held = subst (λ (b : List ℕ). holds (length files) b) (sym is.bytes_are) (subst (λ n. holds n bytes) (sym count) held);
      is_read = subst (λ (b : List ℕ). AreInForceWithout (lines_of b) file.faults file.works) (sym is.bytes_are) is.is_read;
    }

    each : (place : ℕ) (d : FileFound) → place < length (files ++ file ∷ []) → IsFileFound (holds place) (get_or (files ++ file ∷ []) place d)
    each place d within = elim (cases_lt place (length files)) [
      | inl low ↦ subst (IsFileFound (holds place)) (sym (get_or_append_left files (file ∷ []) d place low)) (are.are.each place d low)
      | inr high ↦
          let here : length files ≡ place = omega (arith, high, within, length_push files file) in
          subst (IsFileFound (holds place)) (sym (get_or_push files file d place here)) (subst (λ n. IsFileFound (holds n) file) here its)
    ]

-- and what is said of it
pub pages_next : (told facts remarks : FileFound → List ℕ) (before mid after : Pages) (sound is_sound : Bool) (files : List FileFound) (file : FileFound)
    → PagesGoOn before mid sound (flat_map told files) (flat_map facts files) (flat_map remarks files) → PagesGoOn mid after is_sound (told file) (facts file) (remarks file)
    → PagesGoOn before after (sound && is_sound) (flat_map told (files ++ file ∷ [])) (flat_map facts (files ++ file ∷ [])) (flat_map remarks (files ++ file ∷ []))
pages_next told facts remarks before mid after sound is_sound files file so_far next = record {
  in_words = next.in_words ∙ (ap (λ (l : List ℕ). l ++ told file) so_far.in_words ∙ flat_map_more told before.sheet.faults.items files file);
  in_numbers = next.in_numbers ∙ (ap (λ (l : List ℕ). l ++ facts file) so_far.in_numbers ∙ flat_map_more facts before.sheet.facts.items files file);
  in_remarks = next.in_remarks ∙ (ap (λ (l : List ℕ). l ++ remarks file) so_far.in_remarks ∙ flat_map_more remarks before.remarks.items files file);
  sound = next.sound ∙ (ap (λ (b : Bool). b && is_sound) so_far.sound ∙ by before.sheet.is_sound sound is_sound);
}
  where
    by : (a b c : Bool) → ((a && b) && c) ≡ (a && (b && c))
    by true b c = refl
    by false b c = refl

-- the files before one that cannot be read were read
pub held_before : (holds : ℕ → List ℕ → Type 0) (paths : List (List ℕ)) (works : Table) (files : List FileFound) (all : FilesRead) (place : ℕ)
    → AreAllRead holds paths works files all → length paths ≡ place → (earlier : ℕ) → earlier < place → (bytes : List ℕ) × holds earlier bytes
held_before holds paths works files all place are long earlier low =
    let count : length files ≡ length paths = sym (length-map files (λ (file : FileFound). file.path)) ∙ ap (λ (l : List (List ℕ)). length l) are.are.paths_are in
    let d : FileFound = record { path = []; bytes = []; faults = []; works = [] } in
    ((get_or files earlier d).bytes, (are.are.each earlier d (omega (arith, low, long, count))).held)

-- a text that goes on by nothing, and then by three parts
pub three_more : (start one two three four first second third : List ℕ) → one ≡ start ++ [] → two ≡ one ++ first → three ≡ two ++ second → four ≡ three ++ third
    → four ≡ start ++ (first ++ (second ++ third))
three_more start one two three four first second third a b c d = rw (d, c, b, a) (simp (append_assoc, append-nil) refl)

pub and_true : (b : Bool) → b ≡ (b && true)
and_true true = refl
and_true false = refl
