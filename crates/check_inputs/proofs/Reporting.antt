-- A report, put together from its four files and what a run makes of them.
use Rattle.std.proofs.Common.{◌≡◌, ◌++◌, ◌∙◌, ◌∷◌, [], ℕ, List, Bool, Option, Some, None, true, false, ap, append_assoc, arith, length, refl}
use Rattle.std.specs.Prelude.{◌==◌, ◌&&◌}
use Rattle.std.specs.Option.{option_map_or}
use Rattle.std.proofs.lemmas.List.{length_push}
use Rattle.cwr_share.proofs.CwrReadings.{file_read_whole}
use Rattle.cwr_share.specs.CwrFile.{AreSound}
use Rattle.cwr_share.specs.Registered.{Registered}
use Rattle.cwr_share.specs.declared.cwr_fault.CwrFault.{CwrFault}
use Rattle.cwr_share.specs.declared.cwr_fault.CwrFault.TheVariants.{Accounts}
use Rattle.run_inputs.specs.declared.inputs.Inputs.{Inputs}
use Rattle.check_inputs.specs.Checked.{IsReportOn}
use Rattle.check_inputs.specs.SoFar.{Adds, GoesOn}
use Rattle.check_inputs.specs.Found.{AreRegistrationsWithout, Found, IsFoundIn, is_sound}
use Rattle.check_inputs.specs.Form.{form_text, quote_if_given, quote_remark}
use Rattle.check_inputs.specs.Report.{cwr_facts, cwr_line, fault_lines, payee_line, payees_facts, payees_path, payees_remark}
use Rattle.check_inputs.specs.Report.{run_text, territories_remark, tis_facts, tis_line, usage_facts, usage_line}
use Rattle.check_inputs.specs.declared.report.Sheet.{Sheet}

-- whether all four hold, one after another
all_four : (a b c d : Bool) → (((true && a) && b) && c) && d ≡ (a && b && c && d)
all_four true true true d = refl
all_four true true false d = refl
all_four true false c d = refl
all_four false b c d = refl

-- seven texts, one after another
all_in_order : (none a b c d e f g one two three four five six seven : List ℕ) → none ≡ [] → one ≡ none ++ a → two ≡ one ++ b → three ≡ two ++ c → four ≡ three ++ d → five ≡ four ++ e
    → six ≡ five ++ f
    → seven ≡ six ++ g → seven ≡ a ++ b ++ c ++ d ++ e ++ f ++ g
all_in_order none a b c d e f g one two three four five six seven is w x y z v u t = rw (t, u, v, z, y, x, w, is) (simp (append_assoc) refl)

-- four texts, one after another
in_order : (none a b c d one two three four : List ℕ) → none ≡ [] → one ≡ none ++ a → two ≡ one ++ b → three ≡ two ++ c → four ≡ three ++ d → four ≡ a ++ b ++ c ++ d
in_order none a b c d one two three four is w x y z = rw (z, y, x, w, is) (simp (append_assoc) refl)

-- whether the files so far have no fault
pub sound_of_four : (found : Found) (none one two three four : Sheet) → none.is_sound ≡ true → one.is_sound ≡ (none.is_sound && (length found.of_territories == 0))
    → two.is_sound ≡ (one.is_sound && (length found.of_payees == 0)) → three.is_sound ≡ (two.is_sound && (length found.of_registrations == 0))
    → four.is_sound ≡ (three.is_sound && (length found.of_usage == 0)) → four.is_sound ≡ is_sound found
sound_of_four found none one two three four so_far first second third fourth =
    rw (fourth, third, second, first, so_far) (all_four (length found.of_territories == 0) (length found.of_payees == 0) (length found.of_registrations == 0) (length found.of_usage == 0))

pub put_together : (paths files : Inputs (List ℕ)) (found : Found) (none one two three four five six seven : Sheet) (text : List ℕ) (sound : Bool)
    → (none.faults.items ≡ []) × (none.facts.items ≡ []) × (none.is_sound ≡ true)
    → GoesOn none one (length found.of_territories) (fault_lines (tis_line paths.territories) paths.territories found.of_territories)
    (tis_facts paths.territories (length found.of_territories) found.table ++ quote_remark paths.territories files.territories)
    → GoesOn one two (length found.of_payees) (fault_lines (payee_line (payees_path paths)) (payees_path paths) found.of_payees)
    (option_map_or (λ path. payees_facts path (length found.of_payees) found.rows) paths.payees [] ++ quote_if_given (payees_path paths) files.payees)
    → GoesOn two three (length found.of_registrations) (fault_lines (cwr_line paths.registrations) paths.registrations found.of_registrations)
    (cwr_facts paths.registrations files.registrations (length found.of_registrations) (length found.of_payees) found.registered ++ form_text paths.registrations files.registrations)
    → GoesOn three four (length found.of_usage) (fault_lines (usage_line paths.usage) paths.usage found.of_usage)
    (usage_facts paths.usage (length found.of_usage) found.lines ++ quote_remark paths.usage files.usage)
    → Adds four five (territories_remark paths.registrations files.registrations (length found.of_registrations) (length found.of_territories) found.table)
    → Adds five six (payees_remark (payees_path paths) (length found.of_payees) (length found.of_registrations) found.rows found.registered)
    → Adds six seven (option_map_or (run_text paths (length found.lines)) found.totals [])
    → IsFoundIn files found → (text ≡ seven.faults.items ++ seven.facts.items) × (sound ≡ seven.is_sound) → IsReportOn paths files text sound
put_together paths files found none one two three four five six seven text sound begun first second third fourth fifth sixth last is (written, told) = record {
  found = found;
  inputs = is;
  written =
      written
      ∙ rw (
        last.in_words ∙ sixth.in_words ∙ fifth.in_words ∙ in_order none.faults.items _ _ _ _ one.faults.items two.faults.items three.faults.items four.faults.items begun.0
            first.in_words second.in_words third.in_words fourth.in_words,
        all_in_order none.facts.items _ _ _ _ _ _ _ one.facts.items two.facts.items three.facts.items four.facts.items five.facts.items six.facts.items
            seven.facts.items begun.1 first.in_numbers second.in_numbers third.in_numbers
            fourth.in_numbers fifth.in_numbers sixth.in_numbers last.in_numbers,
      ) refl;
  told = told ∙ last.sound ∙ sixth.sound ∙ fifth.sound ∙ sound_of_four found none one two three four begun.2 first.sound second.sound third.sound fourth.sound;
}

-- a CWR file of which no line is left out has sound lines
pub sound_without : (rows : List (List ℕ × List ℕ)) (lines : List (List ℕ)) (out : List (List ℕ × CwrFault)) (registered : Option Registered) → AreRegistrationsWithout rows lines out registered
    → length out ≡ 0 → AreSound lines
sound_without rows lines [] (Some registered) (whole, _) none = (file_read_whole rows lines registered whole).sound
sound_without rows lines [] None many none = absurd (omega (arith, ap length many.last, length_push many.faults ([], Accounts)))
sound_without rows lines (e ∷ out) registered is none = absurd (omega (arith, none))
