use Rattle.std.proofs.Common.{Bor, ◌≡◌, ◌+◌, ◌-◌, ◌<◌, ℕ, List, arith, inl, inr, length, subst, sym}
use Rattle.csv_table.specs.Written.{text_of}
use Rattle.cwr_share.specs.CwrFile.{AreSound}
use Rattle.cwr_share.specs.Lines.{lines_of}
use Rattle.line_split.specs.UsageLine.{usage_line_of}
use Rattle.run_inputs.specs.Inputs.{IsReading, map_inputs}
use Rattle.run_inputs.specs.declared.inputs.Inputs.{Inputs}
use Rattle.run_inputs.proofs.Made.{of_made}
use Rattle.explain_line.specs.Explanation.{IsRow, explanation_rows}
use Rattle.explain_line.proofs.RowLemmas.{row_after}
use Rattle.explain_line.proofs.explanation.explain.Goals.{then-row-eq0-via-then-row-eq0, then-row-eq0-via-else-row-eq0+then-row-len}
use Rattle.explain_line.proofs.explanation.explain.Goals as goal

-- what holds of the inputs that were lent holds of the inputs
of_inputs : {I : Type 0} (bytes : I → List ℕ) (lent : Inputs (Bor I)) (inputs : Inputs I) (P : Inputs (List ℕ) → Type 0) → map_inputs (λ file. file.now) lent ≡ inputs
    → P (map_inputs (λ file. bytes file.now) lent) → P (map_inputs bytes inputs)
of_inputs bytes lent inputs P is holds = subst P (of_made (λ file. file.now) bytes lent inputs is) holds

pub explanation-requires-clause-sound : goal.explanation-requires-clause-sound
explanation-requires-clause-sound g c =
    let read = of_inputs g.I.Input.bytes c.lent.result c.args.inputs.now (λ files. IsReading files c.in_ok-tables.tables) c.lent.ensures c.in_ok-tables.ensures.read in
    subst (λ (bytes : List ℕ). AreSound (lines_of bytes)) (sym c.bytes.ensures) read.registrations.sound

pub returns-clause-explained : goal.returns-clause-explained
returns-clause-explained g c =
    let tables = c.in_ok-tables.tables in
    let line = usage_line_of c.line-line.result in
    let place : ℕ = c.args.row - 1 in
    let row : place + 1 ≡ c.args.row = omega (arith, c.if-row-eq0.false) in
    let within : place < length tables.usage = omega (arith, row, c.if-row-len.false, c.len.ensures.lines) in
    record {
      tables = tables;
      read = of_inputs g.I.Input.bytes c.lent.result c.args.inputs.now (λ files. IsReading files tables) c.lent.ensures c.in_ok-tables.ensures.read;
      line = line;
      at = subst (λ (n : ℕ). IsRow tables.usage n line) row (row_after tables.usage place line within c.line-line.ensures.line);
      rows = subst (λ (bytes : List ℕ). c.in_ok-text.text.items ≡ text_of (explanation_rows tables (lines_of bytes) c.args.row line)) c.bytes.ensures c.in_ok-text.ensures;
    }

pub returns-then-row-eq0-clause-none : goal.returns-then-row-eq0-clause-none
returns-then-row-eq0-clause-none g c = record {
  tables = c.in_ok-tables.tables;
  read = of_inputs g.I.Input.bytes c.lent.result c.args.inputs.now (λ files. IsReading files c.in_ok-tables.tables) c.lent.ensures c.in_ok-tables.ensures.read;
  beyond = elim c.then-row-eq0.branch [
    | then-row-eq0-via-then-row-eq0 w ↦ inl (omega (arith, w.if-row-eq0.true))
    | then-row-eq0-via-else-row-eq0+then-row-len w ↦ inr (omega (arith, w.if-row-len.true, w.len.ensures.lines))
  ];
}
