use Rattle.std.proofs.Common.{arith, ◌≡◌, ◌∙◌, ◌++◌, ◌∷◌, [], ℕ, List, Option, ap, subst, sym}
use Rattle.std.specs.Prelude.{◌+◌, IfOk, IfSome, Result, Ok, Err}
use Rattle.std.specs.Io.KnownBytes.{IsAtEnd}
use Rattle.merge_statements.specs.declared.checking.Counts.{Counts}
use Rattle.std.proofs.lemmas.Result.{IfErr-weaker, IfOk-weaker}
use Rattle.merge_statements.specs.Places.{At, at_first}
use Rattle.merge_statements.specs.Refused.{IsRefusedFor, IsTextOfRows}
use Rattle.merge_statements.specs.declared.refusal.Refusal.{Refusal}
use Rattle.merge_statements.specs.declared.refusal.Refusal.TheVariants as refusal
use Rattle.merge_statements.specs.declared.refusal.StatementFault.TheVariants.{End}
use Rattle.merge_statements.specs.declared.walk.Place.TheVariants.{Ended}
use Rattle.merge_statements.specs.SoFar.{IsReadTo}
use Rattle.merge_statements.proofs.ReadThrough.{all_rows_read, end_refused, few_read, more_read, none_read, rest_refused}
use Rattle.merge_statements.proofs.checking.check.Goals as goal

counts_read : (start left : Option (List ℕ)) (at : At) (number : ℕ) (result : Result Counts Refusal) → IsReadTo start at left number → IsAtEnd left
    → IfOk result (λ counts. at.place ≡ Ended counts.lines) → IfOk result (λ counts. number ≡ counts.rows + 1)
    → IfOk result (λ counts. IfSome start (λ text. IsTextOfRows text counts.lines counts.rows))
counts_read start left at number (Ok counts) was ends ended counted = all_rows_read start left at number counts.lines counts.rows was ends ended counted
counts_read start left at number (Err why) was ends ended counted = tt

pub loop-number-init : goal.loop-number-init
loop-number-init g c =
    let start = g.R.Read.remaining c.args.from in
    subst (λ (at : At). IsReadTo start at c.in-Ok.rows.left 1) (sym c.new-progress.ensures)
    (subst (λ (left : Option (List ℕ)). IsReadTo start at_first left 1) (sym c.in-Ok.ensures.left) (none_read start))

pub returns-in-Ok-false-clause-sound : goal.returns-in-Ok-false-clause-sound
returns-in-Ok-false-clause-sound g c =
    let start = g.R.Read.remaining c.args.from in
    let l = c.loop-number in
    let end = c.in-Ok-false.ensures.end c.in-Ok-false.field-0-test in
    counts_read start l.rows.left l.progress l.number c.end.result l.invariant end.0 (IfOk-weaker c.end.result (λ (counts : Counts). c.pass_next.new.progress.place ≡ Ended counts.lines)
    (λ (counts : Counts). l.progress.place ≡ Ended counts.lines) (λ counts ended. ap (λ (at : At). at.place) (sym end.1) ∙ ended) c.end.ensures.lines) c.end.ensures.rows

pub returns-in-Ok-false-clause-refused : goal.returns-in-Ok-false-clause-refused
returns-in-Ok-false-clause-refused g c =
    let start = g.R.Read.remaining c.args.from in
    let l = c.loop-number in
    let end = c.in-Ok-false.ensures.end c.in-Ok-false.field-0-test in
    IfErr-weaker c.end.result (λ (why : Refusal). (why ≡ refusal.Fault (End l.number)) × ((lines : ℕ) → ¬ (c.pass_next.new.progress.place ≡ Ended lines)))
    (λ (why : Refusal). IfSome start (λ text. IsRefusedFor text why))
    (λ why is. subst (λ (w : Refusal). IfSome start (λ text. IsRefusedFor text w)) (sym is.0)
    (end_refused start l.rows.left l.progress l.number l.invariant end.0 (λ lines ended. is.1 lines (ap (λ (at : At). at.place) end.1 ∙ ended))))
    c.end.ensures.refused

pub returns-in-Err-clause-refused : goal.returns-in-Err-clause-refused
returns-in-Err-clause-refused g c =
    let l = c.loop-number in
    rest_refused (g.R.Read.remaining c.args.from) l.rows.left l.progress l.number c.in-Err.refusal l.invariant c.in-Err.ensures.refused

pub loop-number-preserved : goal.loop-number-preserved
loop-number-preserved g c =
    let l = c.loop-number in
    more_read (g.R.Read.remaining c.args.from) l.progress c.pass_next.new.progress l.rows.left c.pass_next.new.rows.left l.number (c.pass_next.new.rows.line ++ 10 ∷ []) l.invariant
    (c.in-Ok-true.ensures.row c.in-Ok-true.field-0-test) (c.in-Ok-true.ensures.passed c.in-Ok-true.field-0-test)

pub unreachable-requires : goal.unreachable-requires
unreachable-requires g c =
    let l = c.loop-number in
    omega (arith, few_read (g.R.Read.remaining c.args.from) l.rows.left l.progress l.number l.invariant, c.loop-number-test.false)
