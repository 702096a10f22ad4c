-- A text of statements reads back: its rows are known from it, and the statements from the rows.
use Rattle.std.proofs.Common.{◌≡◌, ◌∙◌, ◌^◌, ◌≤◌, ◌++◌, ◌∷◌, [], ℕ, ℤ, pos, unsigned_abs, List, All, length, map, codes, ap, refl, sym, append_assoc, arith}
use Rattle.std.specs.Prelude.{◌==◌, flat_map, if◌then◌else◌, slice_index, slice_index_or}
use Rattle.std.proofs.lemmas.List.{append-nil}
use Rattle.std.proofs.lemmas.List.Elements.{All-head, All-tail}
use Rattle.csv.specs.Reading.{default_config, records}
use Rattle.csv.specs.Writing.{read_back}
use Rattle.csv_table.specs.Forms.{number_of, signed_number_of}
use Rattle.csv_table.proofs.ReadBack.{rows_read_back}
use Rattle.merge_statements.specs.Statements.{AreStatements, IsPortion, IsRest, IsStatement, Portion, Rest, Statement, Statements, portion_row, rest_row, rows_of_statements, statement_rows, text_of_statements, total_of, total_of_rests, total_row}
use Rattle.merge_statements.proofs.Numbers.{decimal_back, signed_back}

abbrev pub the_portion : List ℕ → ℤ → Portion
the_portion usage amount = record { usage = usage; amount = amount }

abbrev pub the_statement : List ℕ → List Portion → Statement
the_statement payee portions = record { payee = payee; portions = portions }

abbrev pub the_rest : (reason usage : List ℕ) → ℤ → Rest
the_rest reason usage amount = record { reason = reason; usage = usage; amount = amount }

abbrev pub the_statements : List Statement → List Rest → ℕ → ℤ → Statements
the_statements payees rests lines amount = record { payees = payees; rests = rests; lines = lines; amount = amount }

-- the first statement with a portion more, which stands first
abbrev with_portion : Portion → List Statement → List Statement
with_portion portion [] = []
with_portion portion (statement ∷ statements) = the_statement statement.payee (portion ∷ statement.portions) ∷ statements

-- what a row and the rows below it say, where it is known what those say
abbrev with_row : List (List ℕ) → Statements → Statements
with_row row below =
    let kind = slice_index (slice_index_or row 0 []) 0 in
    let payee_or_reason = slice_index_or row 1 [] in
    let usage_or_count = slice_index_or row 2 [] in
    let amount = signed_number_of (slice_index_or row 3 []) in
    if kind == 76 then the_statements (with_portion (the_portion usage_or_count amount) below.payees) below.rests below.lines below.amount
    else if kind == 83 then the_statements (the_statement payee_or_reason [] ∷ below.payees) below.rests below.lines below.amount
    else if kind == 77 then the_statements below.payees (the_rest payee_or_reason usage_or_count amount ∷ below.rests) below.lines below.amount
    else if kind == 82 then the_statements [] [] (number_of usage_or_count) amount
    else below

abbrev said_by : List (List (List ℕ)) → Statements
said_by [] = the_statements [] [] 0 (pos 0)
said_by (row ∷ rows) = with_row row (said_by rows)

-- a payee's rows
portions_said : (payee : List ℕ) (portions : List Portion) (count : ℕ) (total : ℤ) (below : List (List (List ℕ))) → All IsPortion portions
    → said_by (map (portion_row payee) portions ++ total_row (codes "S") payee count total ∷ below)
    ≡ the_statements (the_statement payee portions ∷ (said_by below).payees) (said_by below).rests (said_by below).lines (said_by below).amount
portions_said payee [] count total below are = refl
portions_said payee (portion ∷ portions) count total below are =
    let said = said_by below in
    let small = (All-head IsPortion portion portions are).1.1 in
    ap (with_row (portion_row payee portion)) (portions_said payee portions count total below (All-tail IsPortion portion portions are))
    ∙ ap (λ (amount : ℤ). the_statements (the_statement payee (the_portion portion.usage amount ∷ portions) ∷ said.payees) said.rests said.lines said.amount)
    (signed_back portion.amount (omega (arith, small)))

-- the rows of all payees
payees_said : (payees : List Statement) (below : List (List (List ℕ))) → All IsStatement payees
    → said_by (flat_map statement_rows payees ++ below) ≡ the_statements (payees ++ (said_by below).payees) (said_by below).rests (said_by below).lines (said_by below).amount
payees_said [] below are = refl
payees_said (statement ∷ payees) below are =
    let first = map (portion_row statement.payee) statement.portions in
    let total = total_row (codes "S") statement.payee (length statement.portions) (total_of statement) in
    let others = flat_map statement_rows payees in
    let parts : (first ++ total ∷ []) ++ others ++ below ≡ first ++ total ∷ (others ++ below) =
    append_assoc (first ++ total ∷ []) others below ∙ append_assoc first (total ∷ []) (others ++ below) in
    ap said_by parts
    ∙ portions_said statement.payee statement.portions (length statement.portions) (total_of statement) (others ++ below) (All-head IsStatement statement payees are).portions
    ∙ ap (λ (said : Statements). the_statements (statement ∷ said.payees) said.rests said.lines said.amount) (payees_said payees below (All-tail IsStatement statement payees are))

-- the rows of what nobody gets
rests_said : (rests : List Rest) (count : ℕ) (total : ℤ) (below : List (List (List ℕ))) → All IsRest rests
    → said_by (map rest_row rests ++ total_row (codes "T") [] count total ∷ below)
    ≡ the_statements (said_by below).payees (rests ++ (said_by below).rests) (said_by below).lines (said_by below).amount
rests_said [] count total below are = refl
rests_said (rest ∷ rests) count total below are =
    let said = said_by below in
    let small = (All-head IsRest rest rests are).2.1 in
    ap (with_row (rest_row rest)) (rests_said rests count total below (All-tail IsRest rest rests are))
    ∙ ap (λ (amount : ℤ). the_statements said.payees (the_rest rest.reason rest.usage amount ∷ (rests ++ said.rests)) said.lines said.amount)
    (signed_back rest.amount (omega (arith, small)))

-- the last row
lines_said : (lines : ℕ) (amount : ℤ) → lines ≤ 10 ^ 18 → unsigned_abs amount ≤ 10 ^ 30
    → said_by (total_row (codes "R") [] lines amount ∷ []) ≡ the_statements [] [] lines amount
lines_said lines amount few small =
    ap (λ (n : ℕ). the_statements [] [] n (signed_number_of (slice_index_or (total_row (codes "R") [] lines amount) 3 []))) (decimal_back lines (omega (arith, few)))
    ∙ ap (λ (z : ℤ). the_statements [] [] lines z) (signed_back amount (omega (arith, small)))

-- all rows
rows_said : (all : Statements) → AreStatements all → said_by (rows_of_statements all) ≡ all
rows_said all are =
    let last = total_row (codes "R") [] all.lines all.amount in
    let rests = map rest_row all.rests in
    let total = total_row (codes "T") [] (length all.rests) (total_of_rests all.rests) in
    let payees = flat_map statement_rows all.payees in
    ap (λ (below : List (List (List ℕ))). said_by (payees ++ below)) (append_assoc rests (total ∷ []) (last ∷ []))
    ∙ payees_said all.payees (rests ++ total ∷ last ∷ []) are.payees
    ∙ ap (λ (said : Statements). the_statements (all.payees ++ said.payees) said.rests said.lines said.amount)
    (rests_said all.rests (length all.rests) (total_of_rests all.rests) (last ∷ []) are.rests
    ∙ ap (λ (said : Statements). the_statements said.payees (all.rests ++ said.rests) said.lines said.amount) (lines_said all.lines all.amount are.lines are.amount))
    ∙ (λ i. the_statements (append-nil all.payees i) (append-nil all.rests i) all.lines all.amount)

-- a row that was written and read says the same
row_back : (row : List (List ℕ)) (below : Statements) → with_row (read_back row) below ≡ with_row row below
row_back [] below = refl
row_back (field ∷ fields) below = refl

rows_back : (rows : List (List (List ℕ))) → said_by (map read_back rows) ≡ said_by rows
rows_back [] = refl
rows_back (row ∷ rows) = row_back row (said_by (map read_back rows)) ∙ ap (with_row row) (rows_back rows)

-- what a text says
abbrev said_in : List ℕ → Statements
said_in text = said_by (records default_config text)

pub text_said : (all : Statements) → AreStatements all → said_in (text_of_statements all) ≡ all
text_said all are = ap said_by (rows_read_back (rows_of_statements all)) ∙ (rows_back (rows_of_statements all) ∙ rows_said all are)

-- a text is that of one set of statements
pub one_meaning : (all other : Statements) → AreStatements all → AreStatements other → text_of_statements all ≡ text_of_statements other → all ≡ other
one_meaning all other are others same = sym (text_said all are) ∙ ap said_in same ∙ text_said other others
