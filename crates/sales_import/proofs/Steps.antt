-- An import from its start to its end.
use Rattle.std.proofs.Common.{◌≡◌, ◌∙◌, ◌+◌, ◌++◌, ◌∷◌, [], ℕ, List, None, Option, Some, IfSome, append-nil, append_assoc, arith, length, refl, subst, sym}
use Rattle.std.specs.Io.KnownBytes.{Appends, append_known}
use Rattle.std.proofs.KnownBytes.{Appends-trans}
use Rattle.std.proofs.lemmas.List.{length-append}
use Rattle.export_rows.specs.Places.{AreRowsOf, HasEnded, HasRead, Place, Takes}
use Rattle.export_rows.proofs.Taken.{all_read, read_more}
use Rattle.sales_lines.specs.declared.settings.Settings.{Settings}
use Rattle.sales_import.specs.Imported.{IsMade, Made, both, lines_text, nothing, rejects_text}
use Rattle.sales_import.specs.SoFar.{IsCounted, IsGoing, IsImportOf, IsImported, tally_for}
use Rattle.sales_import.specs.Tallies.{AreWithin, no_rows}
use Rattle.sales_lines.specs.declared.reason.Reason.{Reason}
use Rattle.sales_import.specs.declared.summary.Summary.{Summary}
use Rattle.sales_import.proofs.Added.{lines_of_both, made_more, rejects_of_both}

none_added : (known : Option (List ℕ)) → Appends known (append_known known []) []
none_added None = tt
none_added (Some bytes) = refl

pub begins : (settings : Settings) (start : Place) (lines rejects : Option (List ℕ)) (told : Summary) → told.all ≡ no_rows → told.lines ≡ no_rows
    → told.rejected ≡ no_rows → ((reason : Reason) → tally_for reason told ≡ no_rows) → told.passed ≡ no_rows → AreWithin 1 told
    → IsGoing settings start start lines (append_known lines []) rejects (append_known rejects []) 1 told
begins settings start lines rejects told all no_lines no_rejects no_reasons none_passed within = record {
  below = [];
  made = nothing;
  are = refl;
  next = refl;
  read = λ delimiter from before read. subst (λ (rows : List (List (List ℕ))). HasRead delimiter from rows start) (sym (append-nil before)) read;
  lines = none_added lines;
  rejects = none_added rejects;
  counted = record { all = all; lines = no_lines; rejected = no_rejects; reasons = no_reasons; passed = none_passed };
  within = within;
}

module _ (settings : Settings) (start place next : Place) (old_lines lines more_lines old_rejects rejects more_rejects : Option (List ℕ))
    (number : ℕ) (told after : Summary) (own : Made) where
  pub goes_on : IsGoing settings start place old_lines lines old_rejects rejects number told → Takes place next
      → IsMade settings number next.row own → Appends lines more_lines (lines_text own) → Appends rejects more_rejects (rejects_text own)
      → IsCounted own told after → AreWithin (number + 1) after
      → IsGoing settings start next old_lines more_lines old_rejects more_rejects (number + 1) after
  goes_on going takes is added rejected counted within =
      let made = going.made in
      let here : IsMade settings (1 + length going.below) next.row own = subst (λ (n : ℕ). IsMade settings n next.row own) (going.next ∙ omega arith) is in
      record {
        below = going.below ++ next.row ∷ [];
        made = both made own;
        are = made_more settings 1 going.below next.row made own going.are here;
        next = omega (arith, going.next, length-append going.below (next.row ∷ []));
        read = λ delimiter from before read.
            subst (λ (rows : List (List (List ℕ))). HasRead delimiter from rows next) (append_assoc before going.below (next.row ∷ []))
            (read_more delimiter from (before ++ going.below) place next (going.read delimiter from before read) takes);
        lines = subst (Appends old_lines more_lines) (sym (lines_of_both made own)) (Appends-trans old_lines lines more_lines (lines_text made) (lines_text own) going.lines added);
        rejects = subst (Appends old_rejects more_rejects) (sym (rejects_of_both made own))
            (Appends-trans old_rejects rejects more_rejects (rejects_text made) (rejects_text own) going.rejects rejected);
        counted = counted made going.counted;
        within = within;
      }

module _ (settings : Settings) (start place : Place) (old_lines lines last_lines old_rejects rejects last_rejects : Option (List ℕ))
    (number : ℕ) (told : Summary) where
  pub ends : IsGoing settings start place old_lines lines old_rejects rejects number told → HasEnded place
      → Appends lines last_lines [] → Appends rejects last_rejects []
      → IsImported settings start old_lines last_lines old_rejects last_rejects told
  ends going ended passed_on rejects_on delimiter from before read = by from read (going.read delimiter from before read)
    where
      by : (from : Option (List ℕ)) → HasRead delimiter from before start → HasRead delimiter from (before ++ going.below) place
          → IfSome from (λ text. (rows : List (List (List ℕ))) × AreRowsOf delimiter text (before ++ rows)
          × IsImportOf settings rows old_lines last_lines old_rejects last_rejects told)
      by None old now = tt
      by (Some text) old now = (
        going.below,
        all_read delimiter (Some text) (before ++ going.below) place now ended,
        record {
          made = going.made;
          are = going.are;
          lines = subst (Appends old_lines last_lines) (append-nil (lines_text going.made)) (Appends-trans old_lines lines last_lines (lines_text going.made) [] going.lines passed_on);
          rejects = subst (Appends old_rejects last_rejects) (append-nil (rejects_text going.made))
              (Appends-trans old_rejects rejects last_rejects (rejects_text going.made) [] going.rejects rejects_on);
          counted = going.counted;
        },
      )
