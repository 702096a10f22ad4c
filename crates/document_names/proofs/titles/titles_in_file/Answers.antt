use Rattle.std.proofs.Common.{ℕ, List, arith}
use Rattle.starting_tables.specs.InForce.{Registration, number_of}
use Rattle.starting_tables.specs.Works.{title_of}
use Rattle.document_names.proofs.FirstLemmas.{next_noted}
use Rattle.document_names.proofs.titles.titles_in_file.Goals as goal

pub loop-place-preserved : goal.loop-place-preserved
loop-place-preserved c =
    let noted : Registration → List ℕ × List ℕ = λ r. (number_of r, title_of r) in
    next_noted noted c.in_ok-registrations.registrations.items c.loop-place.place c.index-registration.result.now c.loop-place.titles c.note.new.self
    (omega (arith, c.loop-place-test.true, c.len-place-end.ensures)) c.index-registration.ensures c.loop-place.invariant
    (λ before are. rw (c.number.ensures.number, c.title.ensures) at c.in_ok-note.ensures before are)
