-- The texts of runs have a merge: each comes to so little that many come to sums within the limits.
use Rattle.std.proofs.Common.{◌≡◌, ◌∙◌, ◌^◌, ◌≤◌, ◌∷◌, [], ℕ, ℤ, unsigned_abs, List, All, length, map, ap, refl, sym, arith}
use Rattle.std.proofs.lemmas.List.{length-map}
use Rattle.std.proofs.lemmas.List.Elements.{All-cons, All-head, All-nil, All-tail, All-weaker}
use Rattle.std.proofs.lemmas.List.Sums.{sum_by-le}
use Rattle.csv_table.specs.Table.{rows_of}
use Rattle.cwr_share.specs.ClaimsOn.{claims_on}
use Rattle.line_split.specs.Signs.{int_sum_by}
use Rattle.line_split.specs.UsageLine.{UsageLine}
use Rattle.line_split.proofs.IntSums.{int_sum_by_size}
use Rattle.payee_book.specs.Run.{portion_for}
use Rattle.run_inputs.specs.Inputs.{with_usage}
use Rattle.run_inputs.specs.declared.inputs.Inputs.{Inputs}
use Rattle.settle_run.specs.Settled.{AreStatementsOf, reason_of}
use Rattle.split_run.specs.Divisions.{division_by}
use Rattle.merge_statements.specs.Merged.{AreInLimits, IsMergeOf, portions_of}
use Rattle.merge_statements.specs.Statements.{AreStatements, Portion, Rest, Statements, text_of_statements, total_of_rests}
use Rattle.merge_statements.proofs.Joining.{have_merge, sum_joined}
use Rattle.merge_laws.proofs.Limits.{amount_small, few_lines, lines_in_limits, portion_small, rest_small, total_small}
use Rattle.merge_laws.proofs.Parts.{payee_small}
use Rattle.merge_laws.proofs.Runs.{names_rise, text_said}
use Rattle.merge_laws.proofs.Said.{said_of}

-- statements as a run may have them: of at most a million lines, so that no sum is more than a million times an amount
record AreOfRun (all : Statements) : Type 0 where
  sound : AreStatements all
  lines : all.lines ≤ 1000000
  amount : unsigned_abs all.amount ≤ 10 ^ 18
  totals : (payee : List ℕ) → unsigned_abs (int_sum_by (λ portion. portion.amount) (portions_of payee all)) ≤ 10 ^ 18
  rest : unsigned_abs (total_of_rests all.rests) ≤ 10 ^ 18

many_in_limits : (parts : List Statements) → length parts ≤ 1000000000000 → All AreOfRun parts → AreInLimits parts
many_in_limits parts few are = record {
  lines = omega (arith, few, sum_by-le (λ (part : Statements). part.lines) 1000000 parts (All-weaker AreOfRun (λ part. part.lines ≤ 1000000) (λ part is. is.lines) parts are));
  amount = in_limits (λ part. part.amount) (λ part is. is.amount);
  totals = λ payee.
      omega (
        arith,
        ap unsigned_abs (sum_joined (portions_of payee) (λ (portion : Portion). portion.amount) parts),
        in_limits (λ part. int_sum_by (λ portion. portion.amount) (portions_of payee part)) (λ part is. is.totals payee),
      );
  rest = omega (arith, ap unsigned_abs (sum_joined (λ (part : Statements). part.rests) (λ (rest : Rest). rest.amount) parts), in_limits (λ part. total_of_rests part.rests) (λ part is. is.rest));
}
  where
    in_limits : (f : Statements → ℤ) → ((part : Statements) → AreOfRun part → unsigned_abs (f part) ≤ 10 ^ 18) → unsigned_abs (int_sum_by f parts) ≤ 10 ^ 30
    in_limits f small = omega (arith, few, int_sum_by_size f (10 ^ 18) parts (All-weaker AreOfRun (λ part. unsigned_abs (f part) ≤ 10 ^ 18) small parts are))

module _ (inputs : Inputs (List ℕ)) where
  abbrev IsRun : List ℕ × List ℕ → Type 0
  IsRun part = AreStatementsOf (with_usage part.0 inputs) part.1

  -- what a run's text says
  record RunSays (text : List ℕ) : Type 0 where
    all : Statements
    are : AreOfRun all
    is : text ≡ text_of_statements all

  run_says : (usage_file text : List ℕ) → AreStatementsOf (with_usage usage_file inputs) text → RunSays text
  run_says usage_file text of =
      let files = with_usage usage_file inputs in
      let lines = of.tables.usage in
      let division = division_by of.tables.territories of.tables.registry in
      let reason = reason_of of.tables.territories of.tables.registry in
      let names = of.read.accounts.names in
      let says = text_said files text of.tables of.read of.statements in
      let small : (account : ℕ) (line : UsageLine) → unsigned_abs (portion_for account (division line)) ≤ unsigned_abs line.amount =
      λ account line. portion_small line.amount (claims_on of.tables.territories of.tables.registry line) account in
      let limits = lines_in_limits (rows_of usage_file) lines of.read.uses in
      let few = few_lines (rows_of usage_file) lines of.read.uses in
      record {
        all = said_of division reason names lines;
        are = record {
          sound = says.sound;
          lines = few;
          amount = amount_small division small lines limits few;
          totals = λ payee. payee_small division reason names payee lines (10 ^ 18) (names_rise files of.tables of.read) (total_small division small lines limits few);
          rest = rest_small division small lines limits few reason;
        };
        is = says.is;
      }

  -- what all their texts say
  record RunsSay (texts : List (List ℕ)) : Type 0 where
    parts : List Statements
    are : All AreOfRun parts
    each : texts ≡ map text_of_statements parts

  runs_say : (runs : List (List ℕ × List ℕ)) → All IsRun runs → RunsSay (map (λ run. run.1) runs)
  runs_say [] each = record { parts = []; are = All-nil AreOfRun; each = refl }
  runs_say (run ∷ runs) each =
      let first = run_says run.0 run.1 (All-head IsRun run runs each) in
      let later = runs_say runs (All-tail IsRun run runs each) in
      record {
        parts = first.all ∷ later.parts;
        are = All-cons AreOfRun first.all later.parts first.are later.are;
        each = λ i. first.is i ∷ later.each i;
      }

  pub runs_have_merge : (runs : List (List ℕ × List ℕ)) → length runs ≤ 1000000000000 → All IsRun runs → (merged : List ℕ) × IsMergeOf (map (λ run. run.1) runs) merged
  runs_have_merge runs few each =
      let say = runs_say runs each in
      let sound = All-weaker AreOfRun AreStatements (λ all is. is.sound) say.parts say.are in
      let count : length say.parts ≡ length runs = sym (length-map say.parts text_of_statements) ∙ ap length (sym say.each) ∙ length-map runs (λ (run : List ℕ × List ℕ). run.1) in
      let (whole, together) = have_merge say.parts sound (many_in_limits say.parts (omega (arith, few, count)) say.are) in
      (text_of_statements whole, record { parts = say.parts; sound = sound; each = say.each; whole = whole; together = together; all = refl })
