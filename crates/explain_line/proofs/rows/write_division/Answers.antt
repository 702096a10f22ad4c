use mir.Val.{SFits}
use Rattle.std.proofs.Common.{◌≡◌, ◌<◌, ◌++◌, ◌∙◌, ℕ, ℤ, List, ap, append_assoc, arith, length, map, of_z, rules, take, to_z, unsigned_abs, w64}
use Rattle.std.specs.List.{enumerate_from}
use Rattle.std.proofs.lemmas.Int.{to_z-of_z}
use Rattle.std.proofs.lemmas.List.{take_all}
use Rattle.csv_table.specs.Written.{text_of, text_of_row}
use Rattle.line_split.specs.Claims.{participants_of}
use Rattle.line_split.proofs.ClaimLemmas.{length-participants}
use Rattle.explain_line.specs.Explanation.{base_row, participant_row}
use Rattle.explain_line.proofs.RowLemmas.{rows_more}
use Rattle.explain_line.proofs.rows.write_division.Goals as goal

pub loop-place-preserved : goal.loop-place-preserved
loop-place-preserved c =
    let list = c.args.claims.now.list in
    let within : c.loop-place.place < length (participants_of list) = omega (arith, length-participants list, c.loop-place-test.true, ap (λ (l : List (ℕ × ℕ)). length l) c.list.ensures.value) in
    rows_more (participant_row c.args.registry.now (to_z w64 (of_z w64 c.args.amount)) list) (participants_of list) c.loop-place.place (0, 0)
    c.write_base.new.rows.text c.loop-place.rows.text c.write_participant.new.rows.text within c.loop-place.invariant (c.in_ok-write_participant.ensures (0, 0))

pub returns : goal.returns
returns c =
    let list = c.args.claims.now.list in
    let amount = c.args.amount in
    let handed : to_z w64 (of_z w64 amount) ≡ amount = let fits : SFits w64 amount = search rules in to_z-of_z w64 amount fits in
    let size : c.unsigned_abs.result ≡ unsigned_abs amount = c.unsigned_abs.ensures.value ∙ ap unsigned_abs handed in
    let count : length c.list.result.now ≡ length list = ap (λ (l : List (ℕ × ℕ)). length l) c.list.ensures.value in
    let all : take c.loop-place.place (participants_of list) ≡ participants_of list = take_all c.loop-place.place (participants_of list) (omega (arith, length-participants list, c.loop-place-test.false, count)) in
    let start = c.args.rows.now.text in
    let base : c.write_base.new.rows.text ≡ start ++ text_of_row (base_row (unsigned_abs amount) list) = c.in_ok-write_base.ensures ∙ ap (λ (n : ℕ). start ++ text_of_row (base_row n list)) size in
    let rows = map (participant_row c.args.registry.now amount list) (enumerate_from 0 (participants_of list)) in
    c.loop-place.invariant
    ∙ (ap (λ (z : ℤ). c.write_base.new.rows.text ++ text_of (map (participant_row c.args.registry.now z list) (enumerate_from 0 (take c.loop-place.place (participants_of list))))) handed
    ∙ (ap (λ (l : List (ℕ × ℕ)). c.write_base.new.rows.text ++ text_of (map (participant_row c.args.registry.now amount list) (enumerate_from 0 l))) all
    ∙ (ap (λ (l : List ℕ). l ++ text_of rows) base ∙ append_assoc start (text_of_row (base_row (unsigned_abs amount) list)) (text_of rows))))
