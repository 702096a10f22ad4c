-- Files that are read are not refused.
use Rattle.std.proofs.Common.{◌≡◌, ◌<◌, ◌+◌, [], ℕ, List, arith, count_by, get_or, inl, inr, length, subst}
use Rattle.csv_table.specs.FirstFault.{IsFirstFault}
use Rattle.csv_table.proofs.InTurn.{sound_at}
use Rattle.cwr_share.specs.CwrFile.{AreSound, IsFaultOfLine, IsFaultOfOpening, IsOpening, IsSound}
use Rattle.cwr_share.specs.Lines.{lines_of}
use Rattle.cwr_share.specs.Records.{is_share_line, share_fields}
use Rattle.cwr_share.specs.declared.cwr_fault.CwrFault.{CwrFault}
use Rattle.cwr_share.specs.declared.cwr_fault.CwrFault.TheVariants.{Short, Share, Mark, Land, Party, Work, Many, Accounts, Memory}
use Rattle.cwr_share.proofs.OneRegistry.{lines_stand}
use Rattle.submitted_inputs.specs.Files.{IsFaultOfFile, IsFaultOfFiles}
use Rattle.submitted_inputs.specs.Submitted.{AreFiles}
use Rattle.submitted_inputs.specs.declared.fault.SubmittedFault.{SubmittedFault}
use Rattle.submitted_inputs.specs.declared.fault.SubmittedFault.TheVariants.{Cwr, Payee, Room, Tis, Unreadable, Usage, Works}
use Rattle.submitted_laws.specs.Alike.{HoldsOneText, RefusesNoText}

module _ (holds : ℕ → List ℕ → Type 0) (refuses : ℕ → Type 0) (count : ℕ) (files : List (List ℕ)) (one : HoldsOneText holds) (apart : RefusesNoText holds refuses)
    (are : AreFiles holds count files) where
  -- the file of a place is not refused
  file_stands : (place : ℕ) (fault : SubmittedFault) → place < count → ¬ IsFaultOfFile holds refuses place fault
  file_stands place (Unreadable at) within refused = apart.none place (get_or files place []) (are.held place within) refused.1
  file_stands place (Cwr at fault) within (at_place, bytes, held, first) =
      let same : get_or files place [] ≡ bytes = one.same place (get_or files place []) bytes (are.held place within) held in
      let sound : AreSound (lines_of (get_or files place [])) = are.sound place [] (omega (arith, within, are.all)) in
      lines_stand (lines_of bytes) fault (subst (λ (text : List ℕ). AreSound (lines_of text)) same sound) first
  file_stands place (Tis fault) within refused = refused
  file_stands place (Payee fault) within refused = refused
  file_stands place (Works fault) within refused = refused
  file_stands place (Usage fault) within refused = refused
  file_stands place Room within refused = refused

  -- nor are the files
  pub files_stand : (fault : SubmittedFault) → ¬ IsFaultOfFiles holds refuses count fault
  files_stand fault first = file_stands first.place fault first.within first.refused
