-- How the program ends, by what its words were answered with.
use Rattle.std.proofs.Common.{◌≡◌, ◌≢◌, ◌⊎◌, ◌∙◌, ◌≤◌, ℕ, List, arith, Bool, true, false, Err, Ok, Result, Option, Some, None, inl, inr, refl, sym}
use Rattle.std.specs.Prelude.{String, if◌then◌else◌}
use Rattle.std.specs.declared.alloc.Global.{Global}
use Rattle.std.specs.Io.KnownBytes.{Appends, Keeps}
use Rattle.std.specs.Result.{IfErr, IfOk, IsOk, OnErr, OnOk}
use Rattle.royalty_program.specs.Asked.{EitherRun, name_works, submitted_given}
use Rattle.royalty_program.specs.Status.{IsOfCheck, IsSubmittedUnchecked, status_of}
use Rattle.royalty_program.specs.SubmittedCommand.{submitted_check_app}
use Rattle.royalty_program.specs.SubmittedFiles.{SubmittedPaths}
use Rattle.royalty_program.proofs.SubmittedFileLemmas.{unread_or_room}
use Rattle.std.specs.declared.io.ErrorKind.{ErrorKind}
use Rattle.royalty_program.specs.declared.failure.Failure.{Failure}
use Rattle.royalty_program.specs.declared.failure.Failure.TheVariants.{Words, NotText, Pairs, Input, Works, Registrations, Row, Room, File, Output}
use Rattle.royalty_program.specs.declared.failure.Failure.TheVariants.{Target, Statement, Many, ManyMerged, Changed, Replaces, Names, Taken}
use Rattle.royalty_program.specs.declared.failure.Failure.TheVariants.{Map, Headless, NoColumn, ManyColumns, NoHeader, BothTables, OtherLines}

-- a failure has no status of an answer
pub fails_with : (failure : Failure) → status_of failure ≢ 0
fails_with (Words error) is = cc is
fails_with NotText is = cc is
fails_with (Pairs fault) is = cc is
fails_with (Input fault) is = cc is
fails_with (Works fault) is = cc is
fails_with (Registrations fault path) is = cc is
fails_with (Row row) is = cc is
fails_with Room is = cc is
fails_with (File path) is = cc is
fails_with Output is = cc is
fails_with (Target path) is = cc is
fails_with (Statement fault path) is = cc is
fails_with Many is = cc is
fails_with ManyMerged is = cc is
fails_with (Changed path) is = cc is
fails_with (Replaces path) is = cc is
fails_with (Names fault) is = cc is
fails_with (Taken path) is = cc is
fails_with (Map fault path) is = cc is
fails_with (Headless path) is = cc is
fails_with (NoColumn word path) is = cc is
fails_with (ManyColumns word path) is = cc is
fails_with (NoHeader word) is = cc is
fails_with (BothTables path) is = cc is
fails_with (OtherLines row path) is = cc is

-- what neither comes to does not come
neither : (several : Bool) (One All : Type 0) → ¬ One → ¬ All → ¬ EitherRun several One All
neither false One All not_one not_all is = not_one is
neither true One All not_one not_all is = not_all is

-- so a check of several files fails for none of their faults
no_fault : (holds : List ℕ → List ℕ → Type 0) (refuses : List ℕ → ErrorKind → Type 0) (paths : SubmittedPaths) (failure : Failure)
    → failure ≢ Room → ((name : String Global) → failure ≢ File name) → ¬ IsSubmittedUnchecked holds refuses paths failure
no_fault holds refuses paths failure no_room no_file is = elim (unread_or_room holds refuses paths failure is) [ inl room ↦ no_room room | inr (name, file) ↦ no_file name file ]

-- and that of a check no status of a report
pub check_fails_with : (holds : List ℕ → List ℕ → Type 0) (refuses : List ℕ → ErrorKind → Type 0) (words : List (List ℕ)) (failure : Failure) → IsOfCheck holds refuses words failure → status_of failure ≢ 1
check_fails_with holds refuses words (Words error) is = λ same. cc same
check_fails_with holds refuses words NotText is = λ same. cc same
check_fails_with holds refuses words (Pairs fault) is = λ same. cc same
check_fails_with holds refuses words (Input fault) is = λ same. neither (name_works words) _ _ (λ one. one.1) (no_fault holds refuses (submitted_given submitted_check_app words) (Input fault) (λ room. cc) (λ name file. cc)) is
check_fails_with holds refuses words (Works fault) is = λ same. neither (name_works words) _ _ (λ one. one.0) (no_fault holds refuses (submitted_given submitted_check_app words) (Works fault) (λ room. cc) (λ name file. cc)) is
check_fails_with holds refuses words (Registrations fault path) is = λ same. neither (name_works words) _ _ (λ one. one.0) (no_fault holds refuses (submitted_given submitted_check_app words) (Registrations fault path) (λ room. cc) (λ name file. cc)) is
check_fails_with holds refuses words (Row row) is = λ same. cc same
check_fails_with holds refuses words Room is = λ same. cc same
check_fails_with holds refuses words (File path) is = λ same. cc same
check_fails_with holds refuses words Output is = λ same. cc same
check_fails_with holds refuses words (Target path) is = λ same. cc same
check_fails_with holds refuses words (Statement fault path) is = λ same. neither (name_works words) _ _ (λ one. one.0) (no_fault holds refuses (submitted_given submitted_check_app words) (Statement fault path) (λ room. cc) (λ name file. cc)) is
check_fails_with holds refuses words Many is = λ same. neither (name_works words) _ _ (λ one. one.0) (no_fault holds refuses (submitted_given submitted_check_app words) Many (λ room. cc) (λ name file. cc)) is
check_fails_with holds refuses words ManyMerged is = λ same. cc same
check_fails_with holds refuses words (Changed path) is = λ same. cc same
check_fails_with holds refuses words (Replaces path) is = λ same. cc same
check_fails_with holds refuses words (Names fault) is = λ same. neither (name_works words) _ _ (λ one. one.0) (no_fault holds refuses (submitted_given submitted_check_app words) (Names fault) (λ room. cc) (λ name file. cc)) is
check_fails_with holds refuses words (Taken path) is = λ same. cc same
check_fails_with holds refuses words (Map fault path) is = λ same. neither (name_works words) _ _ (λ one. one.0) (no_fault holds refuses (submitted_given submitted_check_app words) (Map fault path) (λ room. cc) (λ name file. cc)) is
check_fails_with holds refuses words (Headless path) is = λ same. neither (name_works words) _ _ (λ one. one.0) (no_fault holds refuses (submitted_given submitted_check_app words) (Headless path) (λ room. cc) (λ name file. cc)) is
check_fails_with holds refuses words (NoColumn word path) is = λ same. neither (name_works words) _ _ (λ one. one.0) (no_fault holds refuses (submitted_given submitted_check_app words) (NoColumn word path) (λ room. cc) (λ name file. cc)) is
check_fails_with holds refuses words (ManyColumns word path) is = λ same. neither (name_works words) _ _ (λ one. one.0) (no_fault holds refuses (submitted_given submitted_check_app words) (ManyColumns word path) (λ room. cc) (λ name file. cc)) is
check_fails_with holds refuses words (NoHeader word) is = λ same. cc same
check_fails_with holds refuses words (BothTables path) is = λ same. cc same
check_fails_with holds refuses words (OtherLines row path) is = λ same. neither (name_works words) _ _ (λ one. one.0) (no_fault holds refuses (submitted_given submitted_check_app words) (OtherLines row path) (λ room. cc) (λ name file. cc)) is

-- what was printed stays as it is sent on
pub sent_on : (old mid new : Option (List ℕ)) (text : List ℕ) → Appends old mid text → Keeps mid new → Appends old new text
sent_on None mid new text added kept = tt
sent_on (Some xs) None new text added kept = absurd added
sent_on (Some xs) (Some ys) None text added kept = absurd kept
sent_on (Some xs) (Some ys) (Some zs) text added kept = kept ∙ added

module _ {T E : Type 0} where
  -- how an answer was seen through
  abbrev pub IsThrough : (status : ℕ) (mid new : Option (List ℕ)) → Result T E × Bool → Type 0
  IsThrough status mid new done = (status ≡ 4) ⊎ ((status ≡ (if done.1 then 0 else 1)) × IsOk done.0 × Keeps mid new)

  -- an answer that is told to be sound, or not, was printed whole
  pub printed_whole : (r : Result (Result T E × Bool) Failure) (status : ℕ) (sound : Bool) (Put : Option (List ℕ) → List ℕ → Type 0) (Answers : Bool → List ℕ → Type 0) (mid new : Option (List ℕ))
      → ((text : List ℕ) → Put mid text → Keeps mid new → Put new text) → IfOk r (λ done. OnOk done.0 ((text : List ℕ) × Put mid text × Answers done.1 text)) → IfOk r (IsThrough status mid new) → IfErr r (λ failure. status ≡ status_of failure)
      → IfErr r (λ failure. status_of failure ≢ (if sound then 0 else 1)) → status ≡ (if sound then 0 else 1) → (text : List ℕ) × Put new text × Answers sound text
  printed_whole (Err failure) status sound Put Answers mid new sent answered through is other same = absurd (other (sym is ∙ same))
  printed_whole (Ok (Err e, was)) status true Put Answers mid new sent answered (inl refused) is other same = cc
  printed_whole (Ok (Err e, was)) status false Put Answers mid new sent answered (inl refused) is other same = cc
  printed_whole (Ok (Err e, was)) status sound Put Answers mid new sent answered (inr (told, ok, kept)) is other same = cc ok
  printed_whole (Ok (Ok t, was)) status true Put Answers mid new sent answered (inl refused) is other same = cc
  printed_whole (Ok (Ok t, was)) status false Put Answers mid new sent answered (inl refused) is other same = cc
  printed_whole (Ok (Ok t, true)) status true Put Answers mid new sent (text, added, is_answer) (inr (told, ok, kept)) is other same = (text, sent text added kept, is_answer)
  printed_whole (Ok (Ok t, true)) status false Put Answers mid new sent answered (inr (told, ok, kept)) is other same = cc
  printed_whole (Ok (Ok t, false)) status true Put Answers mid new sent answered (inr (told, ok, kept)) is other same = cc
  printed_whole (Ok (Ok t, false)) status false Put Answers mid new sent (text, added, is_answer) (inr (told, ok, kept)) is other same = (text, sent text added kept, is_answer)

  -- and nothing was said beside it
  pub quiet_then : (r : Result (Result T E × Bool) Failure) (status : ℕ) (sound : Bool) (Q : Type 0) → IfOk r (λ _. status ≢ 4 → Q) → IfErr r (λ failure. status ≡ status_of failure)
      → IfErr r (λ failure. status_of failure ≢ (if sound then 0 else 1)) → status ≡ (if sound then 0 else 1) → Q
  quiet_then (Err failure) status sound Q quiet is other same = absurd (other (sym is ∙ same))
  quiet_then (Ok done) status true Q quiet is other same = quiet (λ four. cc)
  quiet_then (Ok done) status false Q quiet is other same = quiet (λ four. cc)

  -- A status of a failure prints nothing. Where no report was asked for that is 1 too; 3 where no merge was.
  pub silent_then : (r : Result (Result T E × Bool) Failure) (status : ℕ) (Report Merge Same : Type 0) (mid new : Option (List ℕ)) → IfOk r (IsThrough status mid new) → IfOk r (λ done. ¬ Report → done.1 ≡ true)
      → IfErr r (λ failure. status ≡ status_of failure) → IfErr r (λ failure. (status_of failure ≤ 2) ⊎ (¬ Merge) → Same)
      → ((status ≡ 1) × ¬ Report) ⊎ ((status ≡ 2) ⊎ ((status ≡ 3) × ¬ Merge)) → Same
  silent_then (Err failure) status Report Merge Same mid new through others is same (inl (one, none)) = same (inl (omega arith))
  silent_then (Err failure) status Report Merge Same mid new through others is same (inr (inl two)) = same (inl (omega arith))
  silent_then (Err failure) status Report Merge Same mid new through others is same (inr (inr (three, no_merge))) = same (inr no_merge)
  silent_then (Ok (t, was)) status Report Merge Same mid new (inl refused) others is same (inl (one, none)) = cc
  silent_then (Ok (t, was)) status Report Merge Same mid new (inl refused) others is same (inr (inl two)) = cc
  silent_then (Ok (t, was)) status Report Merge Same mid new (inl refused) others is same (inr (inr (three, no_merge))) = cc
  silent_then (Ok (t, true)) status Report Merge Same mid new (inr (told, ok, kept)) others is same (inl (one, none)) = cc
  silent_then (Ok (t, true)) status Report Merge Same mid new (inr (told, ok, kept)) others is same (inr (inl two)) = cc
  silent_then (Ok (t, true)) status Report Merge Same mid new (inr (told, ok, kept)) others is same (inr (inr (three, no_merge))) = cc
  silent_then (Ok (t, false)) status Report Merge Same mid new (inr (told, ok, kept)) others is same (inl (one, none)) = cc (others none)
  silent_then (Ok (t, false)) status Report Merge Same mid new (inr (told, ok, kept)) others is same (inr (inl two)) = cc
  silent_then (Ok (t, false)) status Report Merge Same mid new (inr (told, ok, kept)) others is same (inr (inr (three, no_merge))) = cc

  -- Status 1, where it is not of a report: an answer of which something was rejected was printed whole, and nothing was said beside it; or something failed, and
  -- nothing was printed.
  pub rejected_then : (r : Result (Result T E × Bool) Failure) (status : ℕ) (Put : Option (List ℕ) → List ℕ → Type 0) (Answers : Bool → List ℕ → Type 0) (IsOf : Failure → Type 0) (Quiet Silent : Type 0)
      (mid new : Option (List ℕ)) → ((text : List ℕ) → Put mid text → Keeps mid new → Put new text) → IfOk r (λ done. done.1 ≡ false → OnOk done.0 ((text : List ℕ) × Put mid text × Answers done.1 text))
      → IfOk r (IsThrough status mid new) → IfOk r (λ _. status ≢ 4 → Quiet) → IfErr r (λ failure. status ≡ status_of failure) → IfErr r (λ failure. (status_of failure ≤ 2) → Silent) → IfErr r IsOf
      → status ≡ 1 → (((text : List ℕ) × Put new text × Answers false text) × Quiet) ⊎ ((failure : Failure) × (status_of failure ≡ 1) × Silent × IsOf failure)
  rejected_then (Err failure) status Put Answers IsOf Quiet Silent mid new sent answered through quiet is silent of one =
      let same : status_of failure ≡ 1 = sym is ∙ one in
      inr (failure, same, silent (omega (arith, same)), of)
  rejected_then (Ok (t, was)) status Put Answers IsOf Quiet Silent mid new sent answered (inl refused) quiet is silent of one = cc
  rejected_then (Ok (t, true)) status Put Answers IsOf Quiet Silent mid new sent answered (inr (told, ok, kept)) quiet is silent of one = cc
  rejected_then (Ok (Err e, false)) status Put Answers IsOf Quiet Silent mid new sent answered (inr (told, ok, kept)) quiet is silent of one = cc ok
  rejected_then (Ok (Ok t, false)) status Put Answers IsOf Quiet Silent mid new sent answered (inr (told, ok, kept)) quiet is silent of one =
      let printed = answered refl in
      inl ((printed.0, sent printed.0 printed.1 kept, printed.2), quiet (λ four. cc))

-- an output that is left alone, and then left alone where something holds, is as it was where that holds
pub left_alone : {X W : Type 0} (r : Result X Failure) (P : Failure → Type 0) (old mid new : W) → OnErr r (new ≡ mid) → IfErr r (λ failure. P failure → mid ≡ old) → IfErr r (λ failure. P failure → new ≡ old)
left_alone (Ok x) P old mid new second first = tt
left_alone (Err failure) P old mid new second first = λ p. second ∙ first p
