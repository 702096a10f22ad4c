use Rattle.std.proofs.Common.{◌∙◌, ◌++◌, ◌∷◌, [], ℕ, List, ap, arith, length, sym, subst}
use Rattle.std.proofs.lemmas.Result.{IfOk-weaker}
use Rattle.std.proofs.lemmas.List.{length-append}
use Rattle.cwr_share.specs.Lines.{lines_of}
use Rattle.cwr_share.proofs.LineLemmas.{lines_count}
use Rattle.file_form.specs.SoFar.{AreFirstOf, counted}
use Rattle.file_form.specs.Types.{AreForeignTypes, foreign_names}
use Rattle.file_form.proofs.TypeLemmas.{AreCountedTo, counted_all, counted_no, counted_yes, foreign_few}
use Rattle.file_form.proofs.types.foreign_types.Goals as goal

pub count-requires : goal.count-requires
count-requires c =
    let sofar = c.loop-line.invariant in (
      foreign_names sofar.before,
      sofar.counts,
      omega (arith, foreign_few sofar.before, length-append sofar.before c.loop-line.lines, ap length sofar.split, lines_count c.args.bytes.now, c.well_formed),
    )

pub loop-line-preserved-in-Continue-1 : goal.loop-line-preserved-in-Continue-1
loop-line-preserved-in-Continue-1 c =
    let sofar = subst (λ (l : List (List ℕ)). AreCountedTo (lines_of c.args.bytes.now) l c.loop-line.types.entries) c.in-Some.ensures.some c.loop-line.invariant in
    counted_yes (lines_of c.args.bytes.now) c.next.new.self c.in-Some.line.now c.loop-line.types.entries c.count.new.types.entries (sym c.is_foreign.ensures ∙ c.if-is_foreign.true)
    (λ names are. c.in_ok-count.ensures names are ∙ ap (λ (name : List ℕ). counted (names ++ name ∷ [])) c.of.ensures) sofar

pub loop-line-preserved : goal.loop-line-preserved
loop-line-preserved c =
    let sofar = subst (λ (l : List (List ℕ)). AreCountedTo (lines_of c.args.bytes.now) l c.loop-line.types.entries) c.in-Some.ensures.some c.loop-line.invariant in
    counted_no (lines_of c.args.bytes.now) c.next.new.self c.in-Some.line.now c.loop-line.types.entries (sym c.is_foreign.ensures ∙ c.if-is_foreign.false) sofar

pub returns : goal.returns
returns c =
    IfOk-weaker c.first_of.result (AreFirstOf c.loop-line.types.entries) (AreForeignTypes (lines_of c.args.bytes.now))
    (λ types of. counted_all (lines_of c.args.bytes.now) c.loop-line.lines c.loop-line.types.entries types c.loop-line.invariant c.in_default.ensures.none.0 of) c.first_of.ensures
