use Rattle.std.proofs.Common.{◌∙◌, sym, take, drop, arith}
use Rattle.std.proofs.lemmas.Bool.{ne_eqb}
use Rattle.std.proofs.lemmas.List.{drop_all}
use Rattle.merge_statements.proofs.FieldLemmas.{left_of, never_ends, read_plain, read_quote}
use Rattle.merge_statements.proofs.row.unquote.Goals as goal
use Rattle.merge_statements.proofs.row.unquote.Goals.{then-text-at-eq34+else-at-text+else-text-at-ne34, else-text-at-eq34}

pub loop-at-preserved : goal.loop-at-preserved
loop-at-preserved c =
    let over = c.loop-at in
    elim c.if-text-at-eq34.branch [
      | then-text-at-eq34+else-at-text+else-text-at-ne34 w ↦ record {
        within = omega arith;
        room = omega arith;
        read = rw w.at-is (read_quote c.args.text.now over.room over.at over.size (omega arith) (omega arith) w.if-text-at-eq34.true w.if-text-at-ne34.false over.invariant.read);
      }
      | else-text-at-eq34 w ↦ record {
        within = omega arith;
        room = omega arith;
        read = rw w.at-is (read_plain c.args.text.now over.room over.at over.size (omega arith) (omega arith) (ne_eqb _ 34 w.if-text-at-eq34.false) over.invariant.read);
      }
    ]

pub returns-clause-none : goal.returns-clause-none
returns-clause-none c = λ field rest ends is.
    let over = c.loop-at in
    let nothing = drop_all over.at c.args.text.now c.loop-at-test.false in
    let left = left_of (take over.size over.room) (drop over.at c.args.text.now) field rest ends (sym over.invariant.read ∙ is) in
    never_ends left.0 rest (sym nothing ∙ left.2)
