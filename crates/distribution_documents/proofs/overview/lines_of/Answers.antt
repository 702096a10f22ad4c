use Rattle.std.proofs.Common.{◌≡◌, ◌∙◌, ◌≤◌, ◌++◌, ◌∷◌, [], List, ap, arith, get_or, length, length-append, map, sym}
use Rattle.std.proofs.lemmas.List.{map-append, map_more}
use Rattle.std.proofs.lemmas.List.Elements.{All-push, All-same}
use Rattle.distribution_documents.specs.Runs.{file_of, payee_line, run_shown}
use Rattle.line_split.specs.declared.TheConstants.{MOST_LINES}
use Rattle.overview_documents.specs.Payees.{line_shown, lines_shown}
use Rattle.overview_documents.specs.declared.payees.PayeeLine.{PayeeLine}
use Rattle.payee_documents.proofs.Rows.{same_at}
use Rattle.distribution_documents.proofs.overview.lines_of.Goals as goal

pub line_of-requires-clause-file : goal.line_of-requires-clause-file
line_of-requires-clause-file c =
    c.as_slice.ensures.value
    ∙ same_at (λ file. file.items) (file_of (run_shown c.args.documents.now)) c.args.files.now c.args.payees.now c.loop-place.place c.index-files-place.result 0
    c.requires.files c.index-files-place.is c.loop-place-test.true

pub loop-place-preserved : goal.loop-place-preserved
loop-place-preserved c =
    let old = c.loop-place.lines.items in
    let line = c.line_of.result in
    let run = run_shown c.args.documents.now in
    let more = map_more (payee_line run) c.args.payees.now c.loop-place.place 0 c.loop-place-test.true in record {
      lines =
          ap lines_shown c.in_ok-push.ensures.items
          ∙ (map-append line_shown old (line ∷ [])
          ∙ ((λ i. c.loop-place.invariant.lines i ++ c.line_of.ensures.line i ∷ []) ∙ sym more));
      whole = omega (arith, c.loop-place.invariant.whole, ap length c.in_ok-push.ensures.items, length-append old (line ∷ []));
      counts =
          All-same (λ (line : PayeeLine). line.count ≤ MOST_LINES) c.push.new.self.items (old ++ line ∷ []) c.in_ok-push.ensures.items
          (All-push (λ (line : PayeeLine). line.count ≤ MOST_LINES) old line c.loop-place.invariant.counts c.line_of.ensures.few);
    }
