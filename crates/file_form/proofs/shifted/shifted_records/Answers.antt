use Rattle.std.proofs.Common.{◌∙◌, arith, sym, subst, List, ℕ}
use Rattle.cwr_share.specs.Lines.{lines_of}
use Rattle.file_form.proofs.ShiftedLemmas.{IsTalliedTo, number_fits, tallied_no, tallied_yes, tally_fits}
use Rattle.file_form.proofs.shifted.shifted_records.Goals as goal

pub overflow_add-number : goal.overflow_add-number
overflow_add-number c =
    let sofar = subst (λ (l : List (List ℕ)). IsTalliedTo (lines_of c.args.bytes.now) l c.loop-line.number c.loop-line.tally) c.in-Some.ensures.some c.loop-line.invariant in
    let fits = number_fits c.args.bytes.now c.in-Some.line.now c.next.new.self c.loop-line.number c.loop-line.tally sofar in
    omega (arith, fits, c.well_formed)

pub add-requires : goal.add-requires
add-requires c =
    let sofar = subst (λ (l : List (List ℕ)). IsTalliedTo (lines_of c.args.bytes.now) l c.loop-line.number c.loop-line.tally) c.in-Some.ensures.some c.loop-line.invariant in
    let fits = number_fits c.args.bytes.now c.in-Some.line.now c.next.new.self c.loop-line.number c.loop-line.tally sofar in
    omega (arith, fits, c.well_formed, tally_fits (lines_of c.args.bytes.now) c.loop-line.lines c.loop-line.number c.loop-line.tally c.loop-line.invariant)

pub loop-line-preserved-then-is_shifted : goal.loop-line-preserved-then-is_shifted
loop-line-preserved-then-is_shifted c =
    let sofar = subst (λ (l : List (List ℕ)). IsTalliedTo (lines_of c.args.bytes.now) l c.loop-line.number c.loop-line.tally) c.in-Some.ensures.some c.loop-line.invariant in
    tallied_yes (lines_of c.args.bytes.now) c.next.new.self c.in-Some.line.now c.loop-line.number c.loop-line.tally c.add.new.self
    (sym c.is_shifted.ensures ∙ c.if-is_shifted.true) c.add.ensures sofar

pub loop-line-preserved : goal.loop-line-preserved
loop-line-preserved c =
    let sofar = subst (λ (l : List (List ℕ)). IsTalliedTo (lines_of c.args.bytes.now) l c.loop-line.number c.loop-line.tally) c.in-Some.ensures.some c.loop-line.invariant in
    tallied_no (lines_of c.args.bytes.now) c.next.new.self c.in-Some.line.now c.loop-line.number c.loop-line.tally
    (sym c.is_shifted.ensures ∙ c.if-is_shifted.false) sofar
