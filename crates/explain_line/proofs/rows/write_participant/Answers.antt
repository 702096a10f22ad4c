use mir.Val.{SFits}
use Rattle.std.proofs.Common.{rules, ◌≡◌, ◌<◌, ◌++◌, ◌∙◌, ℕ, ℤ, List, ap, arith, get_or, length, of_z, sym, to_z, unsigned_abs, w64}
use Rattle.std.proofs.lemmas.Int.{to_z-of_z}
use Rattle.std.proofs.lemmas.Result.{on_ok_weaker}
use Rattle.csv_table.specs.Written.{text_of_row}
use Rattle.line_split.specs.Claims.{participants_of}
use Rattle.line_split.specs.Signs.{with_sign_of}
use Rattle.line_split.proofs.ClaimLemmas.{length-participants}
use Rattle.line_split.proofs.Places.{number_at_is}
use Rattle.explain_line.proofs.RowLemmas.{participant_is}
use Rattle.explain_line.proofs.rows.write_participant.Goals as goal

pub returns : goal.returns
returns c = λ d.
    let list = c.args.claims.now.list in
    let place = c.args.place in
    let amount = c.args.amount in
    let participant : ℕ × ℕ = get_or (participants_of list) place d in
    let within : place < length (participants_of list) = omega (arith, length-participants list, c.requires.place) in
    let handed : to_z w64 (of_z w64 amount) ≡ amount = let fits : SFits w64 amount = search rules in to_z-of_z w64 amount fits in
    let size : c.unsigned_abs.result ≡ unsigned_abs amount = c.unsigned_abs.ensures.value ∙ ap unsigned_abs handed in
    let working = c.working_of-working.ensures in
    let share : c.working_of-working.result.share ≡ participant.1 = working.share ∙ sym (number_at_is (participants_of list) place d within) in
    let portion : c.signed-portion.result ≡ with_sign_of amount c.working_of-working.result.portion = c.signed-portion.ensures ∙ ap (λ (z : ℤ). with_sign_of z c.working_of-working.result.portion) handed in
    let back : to_z w64 (of_z w64 c.signed-portion.result) ≡ c.signed-portion.result = let fits : SFits w64 c.signed-portion.result = search rules in to_z-of_z w64 c.signed-portion.result fits in
    let same = participant_is c.args.registry.now amount list place participant c.account_at-account.result c.payee_of_account-payee.result.now c.working_of-working.result (to_z w64 (of_z w64 c.signed-portion.result)) c.unsigned_abs.result
    size (c.account_at-account.ensures d) c.payee_of_account-payee.ensures share working.quota working.remainder working.rank working.portion (back ∙ portion) in
    on_ok_weaker c.write_participant_fields.result (λ wrote. wrote ∙ ap (λ (r : List (List ℕ)). c.args.rows.now.text ++ text_of_row r) same) c.write_participant_fields.ensures
