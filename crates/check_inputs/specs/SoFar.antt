-- A report that is not whole yet. Contracts of private functions alone cite it, and no promise rests
-- on it; it stands here since a contract may cite nothing of proofs/.
use Rattle.std.specs.Prelude.{ℕ, ◌≡◌, ◌==◌, ◌&&◌, ◌++◌, Bool, List, [], flat_map, length, map, take}
use Rattle.std.specs.List.{list_all}
use Rattle.csv_table.specs.ReadOn.{ReadsOn}
use Rattle.cwr_share.specs.CwrReading.{Reads, Refuses, Stands, Stops}
use Rattle.cwr_share.specs.Lines.{lines_of}
use Rattle.cwr_share.specs.Reading.{IsReadTo}
use Rattle.cwr_share.specs.Registrations.{ShareLine}
use Rattle.cwr_share.specs.declared.cwr_fault.CwrFault.{CwrFault}
use Rattle.cwr_share.specs.declared.cwr_reader.CwrReader.{CwrReader}
use Rattle.linked_works.specs.Rows.{Table}
use Rattle.check_inputs.specs.SubmittedFound.{AreFilesFound, AreInForceWithout, FileFound, has_no_fault}
use Rattle.check_inputs.specs.declared.report.Sheet.{Sheet}
use Rattle.check_inputs.specs.SubmittedReport.{unlinked_remarks}
use Rattle.check_inputs.specs.declared.submitted_files.FilesRead.{FilesRead}
use Rattle.check_inputs.specs.declared.submitted_files.Pages.{Pages}
use Rattle.check_inputs.specs.declared.words.TheConstants.{MOST_FAULTS}

-- the first hundred of these faults of a file are told, each as a line, and all are counted
pub record IsTold {X : Type 0} (line : X → List ℕ) (text : List ℕ) (count : ℕ) (faults : List X) : Type 0 where
  pub lines : text ≡ flat_map line (take MOST_FAULTS faults)
  pub all : count ≡ length faults

-- a CWR file is read to its end, and the faults of its lines are told
pub record HasReadAll (line : List ℕ × CwrFault → List ℕ) (lines : List (List ℕ)) (text : List ℕ) (count : ℕ)
    (reader : CwrReader)
    : Type 0 where
  pub stands : Stands reader
  pub out : List (List ℕ × CwrFault)
  pub kept : List (List ℕ)
  pub end : ℕ
  pub is_read : IsReadTo kept reader.reading
  pub way : ReadsOn Reads Refuses Stops [] 1 lines out kept end []
  pub told : IsTold line text count out

-- the report goes on by a file that has so many faults
pub record GoesOn (before after : Sheet) (faults : ℕ) (told facts : List ℕ) : Type 0 where
  pub in_words : after.faults.items ≡ before.faults.items ++ told
  pub in_numbers : after.facts.items ≡ before.facts.items ++ facts
  pub sound : after.is_sound ≡ (before.is_sound && (faults == 0))

-- it has more facts
pub record Adds (before after : Sheet) (facts : List ℕ) : Type 0 where
  pub in_words : after.faults.items ≡ before.faults.items
  pub in_numbers : after.facts.items ≡ before.facts.items ++ facts
  pub sound : after.is_sound ≡ before.is_sound

-- the report on several submitters goes on: in faults, in what is there, and in remarks
pub record PagesGoOn (before after : Pages) (faultless : Bool) (told facts remarks : List ℕ) : Type 0 where
  pub in_words : after.sheet.faults.items ≡ before.sheet.faults.items ++ told
  pub in_numbers : after.sheet.facts.items ≡ before.sheet.facts.items ++ facts
  pub in_remarks : after.remarks.items ≡ before.remarks.items ++ remarks
  pub sound : after.sheet.is_sound ≡ (before.sheet.is_sound && faultless)

-- so much is known of a file that was read: what is found in it, what is in force, and whether it has no fault
pub record IsOneRead (path bytes : List ℕ) (file : FileFound) (in_force : List (List ℕ × List ShareLine))
    (sound : Bool) : Type 0 where
  pub path_is : file.path ≡ path
  pub bytes_are : file.bytes ≡ bytes
  pub is_read : AreInForceWithout (lines_of bytes) file.faults file.works
  pub works_are : file.works ≡ in_force
  pub sound_is : sound ≡ has_no_fault file

-- so much of files, where a table of works has these links
pub record AreAllRead (holds : ℕ → List ℕ → Type 0) (paths : List (List ℕ)) (works : Table) (files : List FileFound)
    (read : FilesRead) : Type 0 where
  pub are : AreFilesFound holds paths files
  pub works_are : map (λ file. file.works) files ≡ read.in_force.items
  pub unlinked_are : read.unlinked.items ≡ unlinked_remarks works.links works.names files
  pub sound_is : read.are_sound ≡ list_all has_no_fault files
