use Rattle.std.proofs.Common.{◌∙◌, ◌++◌, append-nil, codes, map, ap, sym, arith, append_assoc}
use Rattle.csv_table.specs.Written.{text_of}
use Rattle.payee_book.specs.Text.{payee_rows, posting_row}
use Rattle.payee_book.specs.Waves.{between}
use Rattle.payee_book.proofs.PartLemmas.{between_none, postings_between, text_joined}
use Rattle.payee_book.proofs.sheets.write_part.Goals as goal

pub loop-written-init : goal.loop-written-init
loop-written-init c =
    let all = payee_rows c.args.usage.now c.args.party.now c.args.statement.now in
    let start = c.args.rows.now.text in
    record {
      within = (omega arith, omega arith);
      rows = sym (ap (λ l. start ++ text_of l) (between_none all c.args.first c.args.first (omega arith)) ∙ append-nil start);
    }

pub loop-written-preserved : goal.loop-written-preserved
loop-written-preserved c =
    let usage = c.args.usage.now in
    let party = c.args.party.now in
    let statement = c.args.statement.now in
    let row = posting_row usage (codes "L") party in
    let all = payee_rows usage party statement in
    let was = c.loop-written.invariant in
    let first = c.args.first in
    let written = c.loop-written.written in
    let next = c.min-next.result in
    let start = c.args.rows.now.text in
    record {
      within = (omega (arith, was.within.0, was.within.1, c.min-next.ensures), omega (arith, was.within.0, was.within.1, c.min-next.ensures));
      rows =
          c.in_ok-write_postings.ensures
          ∙ (ap (λ l. l ++ text_of (map row (between written next statement))) was.rows
          ∙ (append_assoc start (text_of (between first written all)) (text_of (map row (between written next statement)))
          ∙ ap (λ l. start ++ l)
          (ap (λ l. text_of (between first written all) ++ text_of l) (sym (postings_between usage party statement written next (omega arith) (omega (arith, c.min-next.ensures))))
          ∙ text_joined all first written next was.within.0 (omega (arith, c.min-next.ensures, c.loop-written-test.true)))));
    }
