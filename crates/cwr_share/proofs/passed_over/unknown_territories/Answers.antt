use Rattle.std.proofs.Common.{◌≡◌, ◌∙◌, ◌++◌, ◌∷◌, ℕ, List, ap, arith, length}
use Rattle.std.proofs.lemmas.List.{length-append}
use Rattle.csv_table.proofs.InTurn.{sound_at}
use Rattle.cwr_share.specs.CwrFile.{IsSound}
use Rattle.cwr_share.specs.Lines.{lines_of}
use Rattle.cwr_share.proofs.LineLemmas.{lines_count}
use Rattle.cwr_share.proofs.passed_over.unknown_territories.Goals as goal

pub add-requires-clause-sound : goal.add-requires-clause-sound
add-requires-clause-sound c =
    let so_far = c.loop-line.invariant in
    let line = c.in-Some.line.now in
    let split : lines_of c.args.bytes.now ≡ so_far.before ++ line ∷ c.next.new.self = so_far.split ∙ ap (λ (l : List (List ℕ)). so_far.before ++ l) c.in-Some.ensures.some in
    (so_far.before, so_far.scan_of, sound_at IsSound (lines_of c.args.bytes.now) so_far.before line c.next.new.self split c.requires)

pub add-requires-clause-few : goal.add-requires-clause-few
add-requires-clause-few c =
    let so_far = c.loop-line.invariant in
    let line = c.in-Some.line.now in
    let split : lines_of c.args.bytes.now ≡ so_far.before ++ line ∷ c.next.new.self = so_far.split ∙ ap (λ (l : List (List ℕ)). so_far.before ++ l) c.in-Some.ensures.some in
    omega (arith, so_far.scan_of.number, ap length split, length-append so_far.before (line ∷ c.next.new.self), lines_count c.args.bytes.now)
