-- The files of submitters are refused for one fault, where each has one text; and the first that a report tells is that one.
use Rattle.std.proofs.Common.{◌≡◌, ◌∙◌, ◌+◌, ◌<◌, ◌⊎◌, ◌∷◌, [], ℕ, suc, zero, true, All, List, Option, None, Some, add-zero, ap, arith, get_or, inl, inr, length, map, refl, subst, sym}
use Rattle.std.specs.Prelude.{◌==◌}
use Rattle.std.specs.Cmp.{unsigned_Decides}
use Rattle.std.specs.List.{list_all}
use Rattle.std.proofs.lemmas.Bool.{cases_lt}
use Rattle.std.proofs.lemmas.List.{get_or-map, get_or_default, length-map}
use Rattle.std.proofs.lemmas.List.Sums.{AllPass-from_list_all, list_all-from_AllPass}
use Rattle.csv_table.specs.FirstFault.{IsFirstFault}
use Rattle.cwr_share.specs.CwrFile.{AreSound, IsFaultOfLine}
use Rattle.cwr_share.specs.Lines.{lines_of}
use Rattle.cwr_share.specs.declared.cwr_fault.CwrFault.{CwrFault}
use Rattle.check_inputs.specs.SubmittedFound.{AreFilesFound, FileFound, has_no_fault}
use Rattle.check_inputs.proofs.FilesRead.{sound_without}
use Rattle.submitted_inputs.specs.Files.{IsFaultOfFile, IsFaultOfFiles, IsSoundFile}
use Rattle.submitted_inputs.specs.Submitted.{AreFiles}
use Rattle.submitted_inputs.specs.declared.fault.SubmittedFault.{SubmittedFault}
use Rattle.submitted_inputs.specs.declared.fault.SubmittedFault.TheVariants.{Cwr, Room, Unreadable}
use Rattle.submitted_laws.specs.Alike.{HoldsOneText}
use Rattle.explanation_laws.specs.FirstFound.{first_of, or_later}
use Rattle.explanation_laws.specs.FirstSubmitted.{first_of_files}
use Rattle.explanation_laws.proofs.LineFaults.{first_out, lines_have_one, none_out, sound_lines_have_none}

-- ---- one fault

module _ (holds : ℕ → List ℕ → Type 0) (refuses : ℕ → Type 0) (one : HoldsOneText holds) (apart : (place : ℕ) (bytes : List ℕ) → holds place bytes → ¬ refuses place) where
  abbrev IsRefusedLine : (place : ℕ) → CwrFault → Type 0
  IsRefusedLine place fault = (bytes : List ℕ) × holds place bytes × IsFirstFault AreSound IsFaultOfLine (lines_of bytes) fault

  abbrev Told : (place : ℕ) → SubmittedFault → Type 0
  Told place fault = ((fault ≡ Unreadable place) × refuses place) ⊎ ((own : CwrFault) × (fault ≡ Cwr place own) × IsRefusedLine place own)

  told : (place : ℕ) (fault : SubmittedFault) → IsFaultOfFile holds refuses place fault → Told place fault
  told place (Unreadable at) (is, refused) = inl (ap Unreadable is, refused)
  told place (Cwr at own) (is, bytes, held, first) = inr (own, ap (λ (n : ℕ). Cwr n own) is, (bytes, held, first))
  told place fault never = absurd never

  -- a file that holds sound lines is not refused
  sound_file_has_none : (place : ℕ) (fault : SubmittedFault) → IsSoundFile (holds place) → ¬ IsFaultOfFile holds refuses place fault
  sound_file_has_none place fault (bytes, held, sound) refused = elim (told place fault refused) [
    | inl (_, unreadable) ↦ apart place bytes held unreadable
    | inr (own, _, (other, also, first)) ↦
        sound_lines_have_none (lines_of bytes) own sound
        (subst (λ (text : List ℕ). IsFirstFault AreSound IsFaultOfLine (lines_of text) own) (one.same place other bytes also held) first)
  ]

  -- a file has one fault
  file_has_one : (place : ℕ) (a b : SubmittedFault) → IsFaultOfFile holds refuses place a → IsFaultOfFile holds refuses place b → a ≡ b
  file_has_one place a b is also = by (told place a is) (told place b also)
    where
      by : Told place a → Told place b → a ≡ b
      by (inl (of, _)) (inl (its, _)) = of ∙ sym its
      by (inl (_, refused)) (inr (_, _, (bytes, held, _))) = absurd (apart place bytes held refused)
      by (inr (_, _, (bytes, held, _))) (inl (_, refused)) = absurd (apart place bytes held refused)
      by (inr (own, of, (bytes, held, first))) (inr (other, its, (text, holds_it, later))) =
          let same : own ≡ other = lines_have_one (lines_of text) own other
          (subst (λ (text : List ℕ). IsFirstFault AreSound IsFaultOfLine (lines_of text) own) (one.same place bytes text held holds_it) first) later in
          of ∙ (ap (λ (own : CwrFault). Cwr place own) same ∙ sym its)

  -- so have files
  pub files_have_one : (count : ℕ) (a b : SubmittedFault) → IsFaultOfFiles holds refuses count a → IsFaultOfFiles holds refuses count b → a ≡ b
  files_have_one count a b first other = elim (cases_lt first.place other.place) [
    | inl earlier ↦ absurd (sound_file_has_none first.place a (other.before first.place earlier) first.refused)
    | inr past ↦ elim (cases_lt other.place first.place) [
      | inl earlier ↦ absurd (sound_file_has_none other.place b (first.before other.place earlier) other.refused)
      | inr level ↦
          let same : other.place ≡ first.place = omega (arith, past, level) in
          file_has_one first.place a b first.refused (subst (λ (place : ℕ). IsFaultOfFile holds refuses place b) same other.refused)
    ]
  ]

  -- and none where they were read
  pub read_files_have_none : (count : ℕ) (files : List (List ℕ)) → AreFiles holds count files → (fault : SubmittedFault) → ¬ IsFaultOfFiles holds refuses count fault
  read_files_have_none count files are fault refused =
      let place = refused.place in
      sound_file_has_none place fault (get_or files place [], are.held place refused.within, are.sound place [] (omega (arith, refused.within, are.all))) refused.refused

-- ---- a report

-- the first fault that is told of files, of which the first has a place among all
record IsFirstTold (place : ℕ) (files : List FileFound) (fault : SubmittedFault) : Type 0 where
  at : ℕ
  within : at < length files
  before : (earlier : ℕ) (d : FileFound) → earlier < at → length (get_or files earlier d).faults ≡ 0
  line : List ℕ
  own : CwrFault
  more : List (List ℕ × CwrFault)
  faults : (d : FileFound) → (get_or files at d).faults ≡ (line, own) ∷ more
  is : fault ≡ Cwr (place + at) own

-- behind a file without a fault it is that of the files behind
told_behind : (place : ℕ) (file : FileFound) (files : List FileFound) (fault : SubmittedFault) → file.faults ≡ [] → IsFirstTold (place + 1) files fault → IsFirstTold place (file ∷ files) fault
told_behind place file files fault none later = record {
  at = suc later.at;
  within = omega (arith, later.within);
  before = before;
  line = later.line;
  own = later.own;
  more = later.more;
  faults = later.faults;
  is = later.is ∙ ap (λ (n : ℕ). Cwr n later.own) (omega arith);
}
  where
    before : (earlier : ℕ) (d : FileFound) → earlier < suc later.at → length (get_or (file ∷ files) earlier d).faults ≡ 0
    before zero d low = ap (λ (l : List (List ℕ × CwrFault)). length l) none
    before (suc earlier) d low = later.before earlier d (omega (arith, low))

first_told : (place : ℕ) (files : List FileFound) (fault : SubmittedFault) → first_of_files place files ≡ Some fault → IsFirstTold place files fault
first_told place [] fault says = cc says
first_told place (file ∷ files) fault says = by file.faults refl (first_told (place + 1) files fault) says
  where
    by : (faults : List (List ℕ × CwrFault)) → file.faults ≡ faults → (first_of_files (place + 1) files ≡ Some fault → IsFirstTold (place + 1) files fault)
        → or_later (first_of (λ own. Cwr place own) faults) (first_of_files (place + 1) files) ≡ Some fault → IsFirstTold place (file ∷ files) fault
    by [] are later says = told_behind place file files fault are (later says)
    by ((line, own) ∷ more) are later says =
        let same : Cwr place own ≡ fault = cc says in
        record {
          at = 0;
          within = omega arith;
          before = λ earlier d low. absurd (omega (arith, low));
          line = line;
          own = own;
          more = more;
          faults = λ d. are;
          is = sym same ∙ ap (λ (n : ℕ). Cwr n own) (omega arith);
        }

-- it is no lack of memory
pub first_told_not_room : (place : ℕ) (files : List FileFound) (fault : SubmittedFault) → first_of_files place files ≡ Some fault → ¬ (fault ≡ Room)
first_told_not_room place files fault says room =
    let first = first_told place files fault says in
    let never : Room ≡ Cwr (place + first.at) first.own = sym room ∙ first.is in
    cc never

-- where there is none, no file has a fault
pub none_told : (place : ℕ) (files : List FileFound) → first_of_files place files ≡ None → list_all has_no_fault files ≡ true
none_told place [] says = refl
none_told place (file ∷ files) says = by file.faults refl (none_told (place + 1) files) says
  where
    by : (faults : List (List ℕ × CwrFault)) → file.faults ≡ faults → (first_of_files (place + 1) files ≡ None → list_all has_no_fault files ≡ true)
        → or_later (first_of (λ own. Cwr place own) faults) (first_of_files (place + 1) files) ≡ None → list_all has_no_fault (file ∷ files) ≡ true
    by [] are later says = rw are (later says)
    by (out ∷ more) are later says = cc says

-- their bytes
abbrev pub texts : List FileFound → List (List ℕ)
texts files = map (λ (file : FileFound). file.bytes) files

no_file : FileFound
no_file = record { path = []; bytes = []; faults = []; works = [] }

module _ (names paths : List (List ℕ)) (holds : ℕ → List ℕ → Type 0) (files : List FileFound) (found : AreFilesFound holds paths files) (paired : length paths ≡ length names) where
  count_files : length files ≡ length names
  count_files = sym (length-map files (λ (file : FileFound). file.path)) ∙ (ap (λ (l : List (List ℕ)). length l) found.paths_are ∙ paired)

  -- it is what a run is refused for
  pub first_told_refuses : (refuses : ℕ → Type 0) (fault : SubmittedFault) → first_of_files 0 files ≡ Some fault → IsFaultOfFiles holds refuses (length names) fault
  first_told_refuses refuses fault says =
      let first = first_told 0 files fault says in
      let file = get_or files first.at no_file in
      let its = found.each first.at no_file first.within in
      let on = rw (first.faults no_file) at its.is_read.read in
      record {
        place = first.at;
        within = omega (arith, first.within, count_files);
        before = λ k low.
            let inside : k < length files = omega (arith, low, first.within) in
            let one = get_or files k no_file in
            let other = found.each k no_file inside in
            (one.bytes, other.held, sound_without (lines_of one.bytes) one.faults one.works other.is_read (first.before k no_file low));
        refused = subst (IsFaultOfFile holds refuses first.at) (sym first.is) (
          omega arith,
          file.bytes,
          its.held,
          (first_out (lines_of file.bytes) first.line first.own first.more its.is_read.kept its.is_read.end on).0,
        );
      }

  -- files without a fault are read
  pub files_read : list_all has_no_fault files ≡ true → AreFiles holds (length names) (texts files)
  files_read faultless = record {
    all = length-map files (λ (file : FileFound). file.bytes) ∙ count_files;
    held = λ place within.
        let inside : place < length files = omega (arith, within, count_files) in
        subst (holds place) (sym (get_or-map (λ (file : FileFound). file.bytes) files place no_file [] inside)) (found.each place no_file inside).held;
    sound = λ place d within.
        let inside : place < length files = omega (arith, within, length-map files (λ (file : FileFound). file.bytes)) in
        let file = get_or files place no_file in
        let none : length file.faults ≡ 0 = (unsigned_Decides (length file.faults) 0).0 (AllPass-from_list_all has_no_fault files faultless place no_file inside) in
        subst (λ (bytes : List ℕ). AreSound (lines_of bytes)) (sym (get_or-map (λ (file : FileFound). file.bytes) files place no_file d inside))
        (sound_without (lines_of file.bytes) file.faults file.works (found.each place no_file inside).is_read none);
  }

  -- and files that are read have none
  pub faultless_files : HoldsOneText holds → (read : List (List ℕ)) → AreFiles holds (length names) read → list_all has_no_fault files ≡ true
  faultless_files one read are = list_all-from_AllPass has_no_fault files (λ place d within.
      let file = get_or files place d in
      let its = found.each place d within in
      let low : place < length names = omega (arith, within, count_files) in
      let same : get_or read place [] ≡ file.bytes = one.same place (get_or read place []) file.bytes (are.held place low) its.held in
      let sound : AreSound (lines_of file.bytes) =
      subst (λ (bytes : List ℕ). AreSound (lines_of bytes)) same (are.sound place [] (omega (arith, low, are.all))) in
      ap (λ (l : List (List ℕ × CwrFault)). length l == 0) (none_out (lines_of file.bytes) file.faults its.is_read.kept its.is_read.end its.is_read.read sound))
