-- What a failure stands for, and the status that the program answers.
use Rattle.std.specs.Prelude.{ℕ, Contains, ◌≡◌, ◌≢◌, ◌<◌, ◌⊎◌, ◌++◌, [], ⊤, List, Option, Some, None, String, codes}
use Rattle.std.specs.Prelude.{decimal, drop, length, map, slice_index_or, string_bytes}
use Rattle.std.specs.declared.alloc.Global.{Global}
use Rattle.clap.specs.Words.{kind_of}
use Rattle.clap.specs.declared.error.kind.ErrorKind.TheVariants as kinds
use Rattle.std.specs.declared.io.ErrorKind as io
use Rattle.std.specs.declared.io.ErrorKind.TheVariants as io_kind
use Rattle.pair_split.specs.Pair.{word_at}
use Rattle.royalty_program.specs.Asked.{AreAccepted, AreCheckAccepted, AreExplainAccepted, AreFilesAccepted}
use Rattle.royalty_program.specs.Asked.{AreRunAccepted, EitherRun, NameWrongPaths}
use Rattle.royalty_program.specs.Asked.{files_given, inputs_given, name_works, pairs_of, path_if_given, paths_given}
use Rattle.royalty_program.specs.Asked.{adjust_output, row_given, run_output, submitted_given}
use Rattle.pair_split.specs.PairFault.{IsFaultOf}
use Rattle.pair_split.specs.PairFault as pair
use Rattle.check_inputs.specs.SubmittedChecked as checked
use Rattle.tis_tree.specs.TisRows as tis
use Rattle.cwr_share.specs.CwrFile as cwr
use Rattle.cwr_share.specs.PayeeTable as payees
use Rattle.document_names.specs.Territories as names
use Rattle.document_names.specs.declared.name_fault.NameFault.{NameFault}
use Rattle.document_names.specs.declared.name_fault.NameFault.TheVariants as name_fault
use Rattle.linked_works.specs.WorksTable as works
use Rattle.submitted_inputs.specs.declared.fault.SubmittedFault.{SubmittedFault}
use Rattle.submitted_inputs.specs.declared.fault.SubmittedFault.TheVariants as submitted
use Rattle.submitted_inputs.specs.declared.inputs.SubmittedTables.{SubmittedTables}
use Rattle.line_split.specs.UsageTable as usage
use Rattle.merge_statements.specs.Refused.{IsFaultIn}
use Rattle.merge_statements.specs.Refused as statement
use Rattle.merge_statements.specs.declared.refusal.Refusal.{Refusal}
use Rattle.merge_statements.specs.declared.refusal.Refusal.TheVariants as refusal
use Rattle.merge_statements.specs.declared.refusal.StatementFault.{StatementFault}
use Rattle.royalty_program.specs.CheckCommand.{check_app}
use Rattle.royalty_program.specs.ExplainCommand.{explain_app}
use Rattle.royalty_program.specs.Files.{HasNoRowOver, HoldsIfGiven, IsFaultOver, IsUnread}
use Rattle.royalty_program.specs.MergeCommand.{merge_app}
use Rattle.royalty_program.specs.RunCommand.{run_app}
use Rattle.royalty_program.specs.SplitCommand.{split_app}
use Rattle.royalty_program.specs.NamedFiles.{name_in, path_in}
use Rattle.royalty_program.specs.StartingCommand.{starting_app}
use Rattle.royalty_program.specs.SubmittedCommand.{submitted_app, submitted_check_app, submitted_explain_app}
use Rattle.royalty_program.specs.SubmittedFiles.{AreTablesRead, HoldsAt, IsSubmittedFaultOver, RefusesAt}
use Rattle.royalty_program.specs.SubmittedFiles.{SubmittedHaveNoRowOver, SubmittedPaths}
use Rattle.starting_files.specs.declared.making.StartingTable.{StartingTable}
use Rattle.submitted_inputs.specs.Files.{IsFaultOfFiles}
use Rattle.royalty_program.specs.MergeFiles.{AreFoundTooMany, AreOfTooManyLines, AreTooMany, GivesFault, HasChanged}
use Rattle.royalty_program.specs.MergeFiles.{HoldsOf, IsFaultAt, IsFirstRefused}
use Rattle.royalty_program.specs.declared.failure.Failure.{Failure}
use Rattle.royalty_program.specs.declared.failure.Failure.TheVariants.{Words, NotText, Pairs, Input, Works}
use Rattle.royalty_program.specs.declared.failure.Failure.TheVariants.{Registrations, Row, Room, File, Output, Target}
use Rattle.royalty_program.specs.declared.failure.Failure.TheVariants.{Statement, Many, ManyMerged, Changed, Replaces}
use Rattle.royalty_program.specs.declared.failure.Failure.TheVariants.{Names, Taken, Map, Headless, NoColumn}
use Rattle.royalty_program.specs.declared.failure.Failure.TheVariants.{ManyColumns, NoHeader, BothTables, OtherLines}
use Rattle.value_maps.specs.Maps as maps
use Rattle.run_inputs.specs.Inputs.{ThisOrLater}
use Rattle.run_inputs.specs.declared.fault.Fault.{Fault}
use Rattle.run_inputs.specs.declared.fault.Fault.TheVariants as input
use Rattle.run_inputs.specs.declared.inputs.Inputs.{Inputs}
use Rattle.pair_split.specs.declared.pair_fault.PairFault.{PairFault}
use Rattle.pair_split.specs.declared.pair_fault.PairFault.TheVariants as fault

-- 1 for an input or a text of statements that is refused, 2 for words that are, also since the output is an input, 3
-- for lack of memory, 4 for a file that cannot be read or written, or changed meanwhile, and for an output that cannot
-- be written
abbrev pub status_of : Failure → ℕ
status_of (Words error) = 2
status_of NotText = 2
status_of (Pairs fault) = 2
status_of (Row row) = 2
status_of (Input fault) = 1
status_of (Works fault) = 1
status_of (Registrations fault path) = 1
status_of Room = 3
status_of (File path) = 4
status_of Output = 4
status_of (Target path) = 4
status_of (Statement fault path) = 1
status_of Many = 1
status_of ManyMerged = 4
status_of (Changed path) = 4
status_of (Replaces path) = 2
status_of (Names fault) = 1
status_of (Taken path) = 2
status_of (Map fault path) = 1
status_of (Headless path) = 1
status_of (NoColumn word path) = 1
status_of (ManyColumns word path) = 1
status_of (NoHeader word) = 2
status_of (BothTables path) = 2
status_of (OtherLines row path) = 1

-- the status says that a report tells of a fault, which is no failure
abbrev pub IsReportOfFault : (status : ℕ) → List (List ℕ) → Type 0
IsReportOfFault status words = (status ≡ 1) × (word_at words 1 ≡ codes "check")

-- The status says that an import rejected rows, which is no failure, or that it failed.
abbrev pub IsOfRejects : (status : ℕ) → List (List ℕ) → Type 0
IsOfRejects status words = (status ≡ 1) × (word_at words 1 ≡ codes "import")

-- a merge or an adjustment to standard output prints while it reads
abbrev pub MayHaveBegun : List (List ℕ) → Type 0
MayHaveBegun words =
    ((word_at words 1 ≡ codes "merge") × (path_if_given merge_app (codes "output") (drop 1 words) ≡ None))
    ⊎ ((word_at words 1 ≡ codes "adjust") × (adjust_output (drop 1 words) ≡ None))

-- The status says that nothing was printed. A report tells of its faults, an import of the rows that it rejected, and a
-- merge or an adjustment that memory was refused may have begun.
abbrev pub IsStatusOfSilence : (status : ℕ) → List (List ℕ) → Type 0
IsStatusOfSilence status words =
    ((status ≡ 1) × ¬ (word_at words 1 ≡ codes "check")
    × ¬ (word_at words 1 ≡ codes "import")) ⊎ ((status ≡ 2) ⊎ ((status ≡ 3) × ¬ MayHaveBegun words))

-- a fault of a number, and of a place where it has one, as a line of text
abbrev pub fault_text : (what : List ℕ) → ℕ → (where_is : List ℕ) → Option ℕ → List ℕ
fault_text what number where_is (Some place) =
    codes "royalty_run: " ++ what ++ codes " fault " ++ decimal number ++ codes " at " ++ where_is ++ decimal place
    ++ codes "\n"
fault_text what number where_is None = codes "royalty_run: " ++ what ++ codes " fault " ++ decimal number ++ codes "\n"

-- and one of a CWR file among several
abbrev pub file_fault_text : ℕ → Option ℕ → (path : List ℕ) → List ℕ
file_fault_text number (Some line) path =
    codes "royalty_run: cwr fault " ++ decimal number ++ codes " at line " ++ decimal line ++ codes " of " ++ path
    ++ codes "\n"
file_fault_text number None path = codes "royalty_run: cwr fault " ++ decimal number ++ codes " of " ++ path
    ++ codes "\n"

-- and one of a table of values
abbrev pub map_fault_text : ℕ → Option ℕ → (path : List ℕ) → List ℕ
map_fault_text number (Some row) path =
    codes "royalty_run: map fault " ++ decimal number ++ codes " at row " ++ decimal row ++ codes " of " ++ path
    ++ codes "\n"
map_fault_text number None path = codes "royalty_run: map fault " ++ decimal number ++ codes " of " ++ path
    ++ codes "\n"

-- and one of a text of statements
abbrev pub statement_fault_text : ℕ → (row : ℕ) → (path : List ℕ) → List ℕ
statement_fault_text number row path =
    codes "royalty_run: statement fault " ++ decimal number ++ codes " at row " ++ decimal row ++ codes " of "
    ++ path ++ codes "\n"

-- what is wrong with the column of a report that a word names
abbrev pub column_text : (path what word : List ℕ) → List ℕ
column_text path what word = codes "royalty_run: " ++ path ++ codes " " ++ what ++ codes " '" ++ word ++ codes "'\n"

-- the text of a failure: that of refused words is clap's
abbrev pub text_of : Failure → Option (List ℕ)
text_of (Words error) = None
text_of NotText = Some (codes "royalty_run: an argument is not UTF-8\n")
text_of (Pairs f) = Some (fault_text (codes "pair") (pair.number_of_fault f) [] (pair.place_of_fault f))
text_of (Input (input.Tis f)) = Some (fault_text (codes "tis") (tis.number_of_fault f) (codes "row ")
    (tis.place_of_fault f))
text_of (Input (input.Payee f)) = Some (fault_text (codes "payee") (payees.number_of_fault f) (codes "row ")
    (payees.place_of_fault f))
text_of (Input (input.Cwr f)) = Some (fault_text (codes "cwr") (cwr.number_of_fault f) (codes "line ")
    (cwr.place_of_fault f))
text_of (Input (input.Usage f)) = Some (fault_text (codes "usage") (usage.number_of_fault f) (codes "row ")
    (usage.place_of_fault f))
text_of (Input input.Room) = Some (codes "royalty_run: out of room\n")
text_of (Works f) = Some (fault_text (codes "works") (works.number_of_fault f) (codes "row ") (works.place_of_fault f))
text_of (Registrations f path) = Some (file_fault_text (cwr.number_of_fault f) (cwr.place_of_fault f)
    (string_bytes path))
text_of (Row row) = Some (codes "royalty_run: the usage list has no row " ++ decimal row ++ codes "\n")
text_of Room = Some (codes "royalty_run: out of room\n")
text_of (File path) = Some (codes "royalty_run: cannot read " ++ string_bytes path ++ codes "\n")
text_of Output = Some (codes "royalty_run: cannot write\n")
text_of (Target path) = Some (codes "royalty_run: cannot write " ++ string_bytes path ++ codes "\n")
text_of (Statement f path) =
    Some (statement_fault_text (statement.number_of_fault f) (statement.row_of_fault f) (string_bytes path))
text_of Many = Some (codes "royalty_run: the statements are of more than 1000000000000000000 portions or usage lines\n")
text_of ManyMerged =
    Some (codes "royalty_run: the statements are of more than 1000000000000000000 portions or usage lines\n")
text_of (Changed path) = Some (codes "royalty_run: " ++ string_bytes path ++ codes " changed while it was read\n")
text_of (Replaces path) = Some (codes "royalty_run: " ++ string_bytes path
    ++ codes " is an input, which the output would replace\n")
text_of (Names f) = Some (fault_text (codes "names") (names.number_of_fault f) (codes "row ") (names.place_of_fault f))
text_of (Taken path) = Some (codes "royalty_run: " ++ string_bytes path ++ codes " is there already\n")
text_of (Map f path) = Some (map_fault_text (maps.number_of_fault f) (maps.place_of_fault f) (string_bytes path))
text_of (Headless path) = Some (codes "royalty_run: " ++ string_bytes path ++ codes " has no header\n")
text_of (NoColumn word path) = Some (column_text (string_bytes path) (codes "has no column") (string_bytes word))
text_of (ManyColumns word path) =
    Some (column_text (string_bytes path) (codes "has more than one column") (string_bytes word))
text_of (NoHeader word) =
    Some (codes "royalty_run: there is no header to find the column '" ++ string_bytes word ++ codes "' in\n")
text_of (BothTables path) = Some (codes "royalty_run: " ++ string_bytes path ++ codes " is named for both tables\n")
text_of (OtherLines row path) = Some (statement_fault_text 7 row (string_bytes path))

-- words and inputs are refused for what is wrong with them: lack of memory is a failure of its own, and help is none
abbrev pub IsRefusal : Failure → Type 0
IsRefusal (Words error) =
    (kind_of error ≢ kinds.OutOfMemory) × (kind_of error ≢ kinds.DisplayHelp) × (kind_of error ≢ kinds.DisplayVersion)
IsRefusal (Pairs f) = f ≢ fault.Memory
IsRefusal (Input f) = f ≢ input.Room
IsRefusal (Works f) = ⊤
IsRefusal (Registrations f path) = ⊤
IsRefusal (Row row) = ⊤
IsRefusal Room = ⊤
IsRefusal (File path) = ⊤
IsRefusal (Target path) = ⊤
IsRefusal (Statement f path) = ⊤
IsRefusal Many = ⊤
IsRefusal ManyMerged = ⊤
IsRefusal (Changed path) = ⊤
IsRefusal (Replaces path) = ⊤
IsRefusal (Names f) = f ≢ name_fault.Memory
IsRefusal (Taken path) = ⊤
IsRefusal (Map f path) = ⊤
IsRefusal (Headless path) = ⊤
IsRefusal (NoColumn word path) = ⊤
IsRefusal (ManyColumns word path) = ⊤
IsRefusal (NoHeader word) = ⊤
IsRefusal (BothTables path) = ⊤
IsRefusal (OtherLines row path) = ⊤
IsRefusal _ = ⊥

-- lack of memory is no failure of a file, which any other error leaves unread
abbrev pub failure_of_file : io.ErrorKind → String Global → Failure
failure_of_file io_kind.OutOfMemory path = Room
failure_of_file _ path = File path

-- lack of memory is no fault of the names of territories
abbrev pub failure_of_names : NameFault → Failure
failure_of_names name_fault.Memory = Room
failure_of_names f = Names f

-- nor is it one of a folder that is to be written, where a path that something has already is taken
abbrev pub failure_of_folder : io.ErrorKind → String Global → Failure
failure_of_folder io_kind.OutOfMemory path = Room
failure_of_folder io_kind.AlreadyExists path = Taken path
failure_of_folder io_kind.DirectoryNotEmpty path = Taken path
failure_of_folder _ path = Target path

-- nor of one that is to be written
abbrev pub failure_of_target : io.ErrorKind → String Global → Failure
failure_of_target io_kind.OutOfMemory path = Room
failure_of_target _ path = Target path

-- A file fails as its error has it. `refuses path kind` says that a path is refused with an error of this kind.
abbrev pub IsOfFile : (refuses : List ℕ → io.ErrorKind → Type 0) → String Global → Failure → Type 0
IsOfFile refuses path failure = (kind : io.ErrorKind) × refuses (string_bytes path) kind
    × (failure ≡ failure_of_file kind path)

-- a file is the first of those of a run, in their order, where those before it were read
abbrev pub IsFirst : (holds : List ℕ → List ℕ → Type 0) → (paths : Inputs (List ℕ)) → (path : List ℕ) → Type 0
IsFirst holds paths =
    ThisOrLater (λ path. path ≡ paths.territories) (holds paths.territories) (λ _.
    ThisOrLater (λ path. Some path ≡ paths.payees) (HoldsIfGiven holds paths.payees) (λ _.
    ThisOrLater (λ path. path ≡ paths.registrations) (holds paths.registrations) (λ _.
    λ path. path ≡ paths.usage)))

-- and it cannot be read
pub record IsFirstUnread (holds : List ℕ → List ℕ → Type 0) (refuses : List ℕ → io.ErrorKind → Type 0)
    (paths : Inputs (List ℕ)) (path : List ℕ) : Type 0 where
  pub unread : IsUnread refuses path
  pub first : IsFirst holds paths path

-- a run over the files of these paths fails for the first fault of the first of them that has one, for lack of memory,
-- or for the first that cannot be read
abbrev pub IsOfPaths : (holds : List ℕ → List ℕ → Type 0) (refuses : List ℕ → io.ErrorKind → Type 0)
    (paths : Inputs (List ℕ)) → Failure → Type 0
IsOfPaths holds refuses paths (Input fault) = IsFaultOver holds paths fault
IsOfPaths holds refuses paths Room = ⊤
IsOfPaths holds refuses paths (File name) = IsFirstUnread holds refuses paths (string_bytes name)
IsOfPaths holds refuses paths _ = ⊥

-- What is written to a file fails for that, or since the file cannot be written. The option that names a file may be
-- left out.
abbrev pub IsOfOutput : (output : Option (String Global)) → (Failure → Type 0) → Failure → Type 0
IsOfOutput output IsOf (Target path) = output ≡ Some path
IsOfOutput output IsOf failure = IsOf failure

-- that of a run is no input either
abbrev pub IsOfRunOutput : (output : Option (String Global)) → (Failure → Type 0) → Failure → Type 0
IsOfRunOutput output IsOf (Replaces path) = output ≡ Some path
IsOfRunOutput output IsOf failure = IsOfOutput output IsOf failure

-- a table is the first of those of a run over the files of several submitters, in their order, where those before it
-- were read
abbrev pub IsFirstTable : (holds : List ℕ → List ℕ → Type 0) → (paths : SubmittedTables (List ℕ)) → (path : List ℕ)
    → Type 0
IsFirstTable holds paths =
    ThisOrLater (λ path. path ≡ paths.territories) (holds paths.territories) (λ _.
    ThisOrLater (λ path. Some path ≡ paths.payees) (HoldsIfGiven holds paths.payees) (λ _.
    ThisOrLater (λ path. path ≡ paths.works) (holds paths.works) (λ _.
    λ path. path ≡ paths.usage)))

-- and it cannot be read
abbrev pub IsOfTables : (holds : List ℕ → List ℕ → Type 0) (refuses : List ℕ → io.ErrorKind → Type 0)
    → SubmittedTables (List ℕ) → Failure → Type 0
IsOfTables holds refuses paths (File name) = IsUnread refuses (string_bytes name)
    × IsFirstTable holds paths (string_bytes name)
IsOfTables holds refuses paths _ = ⊥

-- what the fault of an input comes to, where the files of submitters have these paths
abbrev pub IsSaidOf : (files : List (List ℕ)) → SubmittedFault → Failure → Type 0
IsSaidOf files (submitted.Tis fault) failure = failure ≡ Input (input.Tis fault)
IsSaidOf files (submitted.Payee fault) failure = failure ≡ Input (input.Payee fault)
IsSaidOf files (submitted.Works fault) failure = failure ≡ Works fault
IsSaidOf files (submitted.Unreadable place) failure = (name : String Global) × (failure ≡ File name)
    × (string_bytes name ≡ word_at files place)
IsSaidOf files (submitted.Cwr place fault) failure =
    (name : String Global) × (failure ≡ Registrations fault name) × (string_bytes name ≡ word_at files place)
IsSaidOf files (submitted.Usage fault) failure = failure ≡ Input (input.Usage fault)
IsSaidOf files submitted.Room failure = failure ≡ Room

-- A run over the files of several submitters fails for the first of its tables that cannot be read, or else for the
-- first fault of the first input that has one, or for lack of memory.
abbrev pub IsOfSubmitted : (holds : List ℕ → List ℕ → Type 0) (refuses : List ℕ → io.ErrorKind → Type 0)
    → SubmittedPaths → Failure → Type 0
IsOfSubmitted holds refuses paths failure =
    (failure ≡ Room) ⊎ IsOfTables holds refuses paths.tables failure
    ⊎ ((fault : SubmittedFault) × IsSubmittedFaultOver holds refuses paths fault × IsSaidOf paths.files fault failure)

-- the files of submitters fail for the first that cannot be read or has a fault, or for lack of memory
abbrev pub IsOfFiles : (holds : List ℕ → List ℕ → Type 0) (refuses : List ℕ → io.ErrorKind → Type 0)
    → (names files : List (List ℕ)) → Failure → Type 0
IsOfFiles holds refuses names files failure =
    (failure ≡ Room)
    ⊎ ((fault : SubmittedFault) × IsFaultOfFiles (HoldsAt holds files) (RefusesAt refuses files)
    (length names) fault × IsSaidOf files fault failure)

-- and the words of a table to begin with for that, or for themselves where they are not accepted
abbrev pub IsOfTable : (holds : List ℕ → List ℕ → Type 0) (refuses : List ℕ → io.ErrorKind → Type 0) → StartingTable
    → List (List ℕ) → Failure → Type 0
IsOfTable holds refuses table words (Words error) = ¬ AreFilesAccepted (starting_app table) words
IsOfTable holds refuses table words failure =
    let values = files_given (starting_app table) words in
    IsOfFiles holds refuses (map name_in values) (map path_in values) failure

-- and the words of a run fail for that, for the file of their output, which is an input or cannot be written, or for
-- themselves where clap does not accept them
abbrev pub IsOfRun : (holds : List ℕ → List ℕ → Type 0) (refuses : List ℕ → io.ErrorKind → Type 0) → List (List ℕ)
    → Failure → Type 0
IsOfRun holds refuses words (Words error) = ¬ AreRunAccepted words
IsOfRun holds refuses words (Target path) = run_output words ≡ Some (string_bytes path)
IsOfRun holds refuses words (Replaces path) = run_output words ≡ Some (string_bytes path)
IsOfRun holds refuses words failure =
    EitherRun (name_works words) (IsOfPaths holds refuses (inputs_given run_app words) failure)
    (IsOfSubmitted holds refuses (submitted_given submitted_app words) failure)

-- an explanation over the files of these paths fails for what a run over them fails for, or since the usage list has no
-- such row
abbrev pub IsUnexplained : (holds : List ℕ → List ℕ → Type 0) (refuses : List ℕ → io.ErrorKind → Type 0)
    (paths : Inputs (List ℕ)) (row : ℕ) → Failure → Type 0
IsUnexplained holds refuses paths row (Row beyond) = (beyond ≡ row) × HasNoRowOver holds paths row
IsUnexplained holds refuses paths row failure = IsOfPaths holds refuses paths failure

-- so does one over the files of several submitters
abbrev pub IsSubmittedUnexplained : (holds : List ℕ → List ℕ → Type 0) (refuses : List ℕ → io.ErrorKind → Type 0)
    (paths : SubmittedPaths) (row : ℕ) → Failure → Type 0
IsSubmittedUnexplained holds refuses paths row (Row beyond) = (beyond ≡ row) × SubmittedHaveNoRowOver holds paths row
IsSubmittedUnexplained holds refuses paths row failure = IsOfSubmitted holds refuses paths failure

-- and its words for that, or for themselves where they are not accepted
abbrev pub IsOfExplanation : (holds : List ℕ → List ℕ → Type 0) (refuses : List ℕ → io.ErrorKind → Type 0)
    → List (List ℕ) → Failure → Type 0
IsOfExplanation holds refuses words (Words error) = ¬ AreExplainAccepted words
IsOfExplanation holds refuses words failure =
    EitherRun (name_works words) (IsUnexplained holds refuses (inputs_given explain_app words)
    (row_given words) failure)
    (IsSubmittedUnexplained holds refuses (submitted_given submitted_explain_app words) (row_given words) failure)

-- A merge of the texts of these paths fails for the first fault of the first that has one, since they are of too many
-- usage lines, for lack of memory, for one that cannot be read, or, after all were found to be sound, since they have
-- too many portions or one changed.
abbrev pub IsOfTexts : (gives : List ℕ → List ℕ → Type 0) → List (List ℕ) → Failure → Type 0
IsOfTexts gives paths (Statement fault path) = IsFaultAt gives paths (string_bytes path) fault
IsOfTexts gives paths Many = AreOfTooManyLines gives paths
IsOfTexts gives paths ManyMerged = AreFoundTooMany gives paths
IsOfTexts gives paths Room = ⊤
IsOfTexts gives paths (File path) = IsFirstRefused gives paths (string_bytes path)
IsOfTexts gives paths (Changed path) = HasChanged gives paths (string_bytes path)
IsOfTexts gives paths _ = ⊥

-- one text alone fails for its first fault, for lack of memory, or since it cannot be read
abbrev pub IsOfText : (gives : List ℕ → List ℕ → Type 0) → List ℕ → Failure → Type 0
IsOfText gives path (Statement fault name) = (string_bytes name ≡ path)
    × HoldsOf (gives path) (λ text. IsFaultIn text fault)
IsOfText gives path Room = ⊤
IsOfText gives path (File name) = string_bytes name ≡ path
IsOfText gives path _ = ⊥

-- which is a failure of its path, or lack of memory
abbrev pub IsUnopened : List ℕ → Failure → Type 0
IsUnopened path Room = ⊤
IsUnopened path (File name) = string_bytes name ≡ path
IsUnopened path _ = ⊥

-- no fault was found, there were not too many portions or usage lines, and memory was not refused: so a read was
abbrev pub IsUnreadable : Refusal → Type 0
IsUnreadable (refusal.Fault fault) = ⊥
IsUnreadable refusal.Memory = ⊥
IsUnreadable refusal.Many = ⊥
IsUnreadable _ = ⊤

-- and that for what it is refused for
abbrev pub IsOfRefusal : List ℕ → Refusal → Failure → Type 0
IsOfRefusal path was (Statement fault name) = (string_bytes name ≡ path) × (was ≡ refusal.Fault fault)
IsOfRefusal path was Room = ⊤
IsOfRefusal path was (File name) = (string_bytes name ≡ path) × IsUnreadable was
IsOfRefusal path was _ = ⊥

-- a path stands in this place
abbrev pub IsAt : List (List ℕ) → (place : ℕ) → (path : List ℕ) → Type 0
IsAt paths place path = (place < length paths) × (slice_index_or paths place path ≡ path)

-- the failure is of the path in a place, for what its text is refused for, or of all, or lack of memory
abbrev pub IsOfPlace : List (List ℕ) → (place : ℕ) → Refusal → Failure → Type 0
IsOfPlace paths place was Room = ⊤
IsOfPlace paths place was ManyMerged = was ≡ refusal.Many
IsOfPlace paths place was (File name) = IsAt paths place (string_bytes name) × IsUnreadable was
IsOfPlace paths place was (Changed name) = IsAt paths place (string_bytes name) × ((fault : StatementFault)
    × (was ≡ refusal.Fault fault))
IsOfPlace paths place was _ = ⊥

-- it is of one of these paths, which has a fault where it is said to have changed, or of all
abbrev pub IsOfOne : (gives : List ℕ → List ℕ → Type 0) → List (List ℕ) → Failure → Type 0
IsOfOne gives paths Room = ⊤
IsOfOne gives paths ManyMerged = AreTooMany gives paths
IsOfOne gives paths (File name) = Contains paths (string_bytes name)
IsOfOne gives paths (Changed name) = Contains paths (string_bytes name) × GivesFault (gives (string_bytes name))
IsOfOne gives paths _ = ⊥

-- and its words for that, for the file of their output, for the paths that they name, or for themselves where clap does
-- not accept them
abbrev pub IsOfMerge : (gives : List ℕ → List ℕ → Type 0) → List (List ℕ) → Failure → Type 0
IsOfMerge gives words (Words error) = NameWrongPaths words error ⊎ (¬ AreAccepted merge_app words)
IsOfMerge gives words (Target path) = path_if_given merge_app (codes "output") words ≡ Some (string_bytes path)
IsOfMerge gives words failure = IsOfTexts gives (paths_given merge_app (codes "statements") words) failure

-- no input is refused: a check tells of what is wrong with it
abbrev pub IsOfNoInput : Failure → Type 0
IsOfNoInput (Input fault) = ⊥
IsOfNoInput (Works fault) = ⊥
IsOfNoInput (Registrations fault path) = ⊥
IsOfNoInput _ = ⊤

-- a check of the files of these paths fails for lack of memory, or for the first that cannot be read
abbrev pub IsUnchecked : (holds : List ℕ → List ℕ → Type 0) (refuses : List ℕ → io.ErrorKind → Type 0)
    (paths : Inputs (List ℕ)) → Failure → Type 0
IsUnchecked holds refuses paths failure = IsOfPaths holds refuses paths failure × IsOfNoInput failure

-- the first of the files of submitters that cannot be read, where the tables were
pub record IsFirstFileUnread (holds : List ℕ → List ℕ → Type 0) (refuses : List ℕ → io.ErrorKind → Type 0)
    (paths : SubmittedPaths) (failure : Failure) : Type 0 where
  pub tables : SubmittedTables (List ℕ)
  pub read : AreTablesRead holds paths.tables tables
  pub fault : SubmittedFault
  pub first : checked.IsFirstUnread (HoldsAt holds paths.files) (RefusesAt refuses paths.files) (length paths.names)
      fault
  pub said : IsSaidOf paths.files fault failure

-- so does one of the files of several submitters, whose tables are read first
abbrev pub IsSubmittedUnchecked : (holds : List ℕ → List ℕ → Type 0) (refuses : List ℕ → io.ErrorKind → Type 0)
    (paths : SubmittedPaths) → Failure → Type 0
IsSubmittedUnchecked holds refuses paths failure =
    (failure ≡ Room) ⊎ IsOfTables holds refuses paths.tables failure ⊎ IsFirstFileUnread holds refuses paths failure

-- the words of a check fail for that, or for themselves where they are not accepted
abbrev pub IsOfCheck : (holds : List ℕ → List ℕ → Type 0) (refuses : List ℕ → io.ErrorKind → Type 0) → List (List ℕ)
    → Failure → Type 0
IsOfCheck holds refuses words (Words error) = ¬ AreCheckAccepted words
IsOfCheck holds refuses words failure =
    EitherRun (name_works words) (IsUnchecked holds refuses (inputs_given check_app words) failure)
    (IsSubmittedUnchecked holds refuses (submitted_given submitted_check_app words) failure)

-- a division fails for its pairs, which then have that fault, for its words where clap does not accept them, or for
-- lack of memory
abbrev pub IsOfDivision : List (List ℕ) → Failure → Type 0
IsOfDivision words (Pairs fault) = IsFaultOf (pairs_of words) fault
IsOfDivision words (Words error) = ¬ AreAccepted split_app (drop 1 words)
IsOfDivision words Room = ⊤
IsOfDivision words _ = ⊥

-- lack of memory is no fault of the pairs
abbrev pub failure_of_fault : PairFault → Failure
failure_of_fault fault.Memory = Room
failure_of_fault f = Pairs f

-- lack of memory is no fault of an input
abbrev pub failure_of_run : Fault → Failure
failure_of_run input.Room = Room
failure_of_run f = Input f

-- an argument that is not UTF-8 is a wrong word, and else memory was refused
abbrev pub failure_of_kind : io.ErrorKind → Failure
failure_of_kind io_kind.InvalidData = NotText
failure_of_kind _ = Room
