-- What is said of the parts of a list comes to what is said of the list.
use Rattle.std.proofs.Common.{◌≡◌, ◌∙◌, ◌+◌, ◌<◌, ◌≤◌, ◌++◌, ◌∷◌, [], ℕ, ℤ, ◌+ℤ◌, unsigned_abs, Bool, true, false, List, All, length, map, ap, refl, sym, subst, arith}
use Rattle.std.specs.Prelude.{filter, flat_map, if◌then◌else◌, sum_by}
use Rattle.std.specs.Cmp.Lexicographic.{slice_cmp}
use Rattle.std.specs.List.{AllByRecursion}
use Rattle.std.specs.List.Sorted.{IsStrictlySortedBy}
use Rattle.std.specs.Ordering.{nat_cmp}
use Rattle.std.specs.Str.{bytes_eq}
use Rattle.std.specs.declared.cmp.Ordering.TheVariants.{Less}
use Rattle.std.proofs.lemmas.Grind.{flat_map-append}
use Rattle.std.proofs.lemmas.List.{append-nil, length-append}
use Rattle.std.proofs.lemmas.List.Elements.{All-cons, All-head, All-nil, All-tail}
use Rattle.std.proofs.lemmas.List.Sums.{sum_by-cons}
use Rattle.std.proofs.lemmas.Slice.Eq.{bytes_eq-Decides}
use Rattle.csv_table.specs.Written.{text_of}
use Rattle.line_split.specs.Signs.{int_sum_by}
use Rattle.line_split.specs.UsageLine.{UsageLine}
use Rattle.line_split.specs.declared.reason.Reason.{Reason}
use Rattle.line_split.proofs.IntSums.{int_sum_by-append, int_sum_by-cons}
use Rattle.payee_book.specs.Run.{IsBookOf}
use Rattle.line_split.specs.ReasonTexts.{reason_text}
use Rattle.payee_book.specs.Text.{rows_of_book}
use Rattle.run_inputs.specs.Inputs.{IsReading, with_lines, with_usage}
use Rattle.run_inputs.specs.declared.inputs.Inputs.{Inputs}
use Rattle.run_inputs.specs.declared.inputs.Tables.{Tables}
use Rattle.settle_run.specs.Settled.{AreStatementsOf, reason_of}
use Rattle.settle_run.proofs.OneText.{read_alike, statements_alike}
use Rattle.split_run.specs.Divisions.{division_by}
use Rattle.merge_statements.specs.Merged.{AreMerged, IsMergeOf, portions_of}
use Rattle.merge_statements.specs.Statements.{AreStatements, IsName, Portion, Rest, Statement, Statements, text_of_statements, total_of, total_of_rests}
use Rattle.merge_statements.proofs.Merges.{AreTogether, are_together, one_list_of_parts, one_whole}
use Rattle.merge_statements.proofs.OneMerge.{HasPortion, differs, first_kept, portions_in}
use Rattle.merge_laws.specs.WholeList.{AreLinesOf, AreStatementsOfAll}
use Rattle.merge_laws.proofs.Limits.{all_statements, payees_rise}
use Rattle.merge_laws.proofs.Runs.{IsSaid, names_named, names_rise, text_said}
use Rattle.merge_laws.proofs.Said.{from_book, made_of, portions_by, rests_by, rows_said, said_of, statements_by, statements_from, statements_with, sums_said}
use Rattle.merge_statements.proofs.ReadBack.{the_portion, the_rest, the_statement}

-- A payee's portions

either_none : (told : Bool) (portions : List Portion) → portions ≡ (if told then [] else []) ++ portions
either_none true portions = refl
either_none false portions = refl

with_own : (payee name : List ℕ) (portions : List Portion) (others : List Statement)
    → portions_in payee (statements_with name portions ++ others) ≡ (if bytes_eq name payee then portions else []) ++ portions_in payee others
with_own payee name [] others = either_none (bytes_eq name payee) (portions_in payee others)
with_own payee name (portion ∷ portions) others = first_kept (bytes_eq name payee) (the_statement name (portion ∷ portions)) (filter (λ statement. bytes_eq statement.payee payee) others)

module _ (division : UsageLine → List (ℕ × ℤ)) (payee : List ℕ) where
  -- those of the account that has its name
  abbrev own : List UsageLine → ℕ → (names : List (List ℕ)) → List Portion
  own lines account [] = []
  own lines account (name ∷ names) = (if bytes_eq name payee then portions_by division lines account else []) ++ own lines (account + 1) names

  portions_own : (lines : List UsageLine) (account : ℕ) (names : List (List ℕ)) → portions_in payee (statements_by division lines account names) ≡ own lines account names
  portions_own lines account [] = refl
  portions_own lines account (name ∷ names) =
      with_own payee name (portions_by division lines account) (statements_by division lines (account + 1) names)
      ∙ ap (λ (others : List Portion). (if bytes_eq name payee then portions_by division lines account else []) ++ others) (portions_own lines (account + 1) names)

  -- none where its name comes before all
  none_own : (lines : List UsageLine) (account : ℕ) (names : List (List ℕ)) → AllByRecursion (λ name. slice_cmp nat_cmp payee name ≡ Less) names → own lines account names ≡ []
  none_own lines account [] after = refl
  none_own lines account (name ∷ names) after = rw (differs payee name after.0) (none_own lines (account + 1) names after.1)

  -- they are those of one account, or none
  own_small : (most : ℕ) (lines : List UsageLine) (account : ℕ) (names : List (List ℕ)) → IsStrictlySortedBy (slice_cmp nat_cmp) names
      → ((account : ℕ) → unsigned_abs (int_sum_by (λ portion. portion.amount) (portions_by division lines account)) ≤ most)
      → unsigned_abs (int_sum_by (λ portion. portion.amount) (own lines account names)) ≤ most
  unfolding IsStrictlySortedBy
  own_small most lines account [] rising small = omega arith
  own_small most lines account (name ∷ names) rising small = on (bytes_eq name payee) refl (own_small most lines (account + 1) names rising.1 small)
    where
      on : (told : Bool) → bytes_eq name payee ≡ told → unsigned_abs (int_sum_by (λ portion. portion.amount) (own lines (account + 1) names)) ≤ most
          → unsigned_abs (int_sum_by (λ portion. portion.amount) ((if told then portions_by division lines account else []) ++ own lines (account + 1) names)) ≤ most
      on false other later = later
      on true is later =
          let after : AllByRecursion (λ next. slice_cmp nat_cmp payee next ≡ Less) names =
          subst (λ (p : List ℕ). AllByRecursion (λ next. slice_cmp nat_cmp p next ≡ Less) names) ((bytes_eq-Decides name payee).0 is) rising.0 in
          let alone : portions_by division lines account ++ own lines (account + 1) names ≡ portions_by division lines account =
          ap (λ (l : List Portion). portions_by division lines account ++ l) (none_own lines (account + 1) names after) ∙ append-nil (portions_by division lines account) in
          subst (λ (l : List Portion). unsigned_abs (int_sum_by (λ portion. portion.amount) l) ≤ most) (sym alone) (small account)

  own_nothing : (account : ℕ) (names : List (List ℕ)) → own [] account names ≡ []
  own_nothing account [] = refl
  own_nothing account (name ∷ names) = on (bytes_eq name payee) (own_nothing (account + 1) names)
    where
      on : (told : Bool) → own [] (account + 1) names ≡ [] → (if told then [] else []) ++ own [] (account + 1) names ≡ []
      on true later = later
      on false later = later

  -- those of lines and then of others
  own_joined : (first others : List UsageLine) (account : ℕ) (names : List (List ℕ)) → IsStrictlySortedBy (slice_cmp nat_cmp) names
      → own (first ++ others) account names ≡ own first account names ++ own others account names
  unfolding IsStrictlySortedBy
  own_joined first others account [] rising = refl
  own_joined first others account (name ∷ names) rising = on (bytes_eq name payee) refl (own_joined first others (account + 1) names rising.1)
    where
      on : (told : Bool) → bytes_eq name payee ≡ told → own (first ++ others) (account + 1) names ≡ own first (account + 1) names ++ own others (account + 1) names
          → (if told then portions_by division (first ++ others) account else []) ++ own (first ++ others) (account + 1) names
          ≡ ((if told then portions_by division first account else []) ++ own first (account + 1) names)
          ++ ((if told then portions_by division others account else []) ++ own others (account + 1) names)
      on false other later = later
      on true is later =
          let after : AllByRecursion (λ next. slice_cmp nat_cmp payee next ≡ Less) names =
          subst (λ (p : List ℕ). AllByRecursion (λ next. slice_cmp nat_cmp p next ≡ Less) names) ((bytes_eq-Decides name payee).0 is) rising.0 in
          let none : (lines : List UsageLine) → portions_by division lines account ++ own lines (account + 1) names ≡ portions_by division lines account =
          λ lines. ap (λ (l : List Portion). portions_by division lines account ++ l) (none_own lines (account + 1) names after) ∙ append-nil (portions_by division lines account) in
          none (first ++ others)
          ∙ flat_map-append (made_of (λ line. the_portion line.usage) division account) first others
          ∙ sym (λ i. none first i ++ none others i)

-- what is said of lines and of others comes to what is said of all
module _ (division : UsageLine → List (ℕ × ℤ)) (reason : UsageLine → Reason) (names : List (List ℕ)) where
  abbrev said : List UsageLine → Statements
  said = said_of division reason names

  portions_joined : (payee : List ℕ) (first others : List UsageLine) → IsStrictlySortedBy (slice_cmp nat_cmp) names
      → portions_of payee (said (first ++ others)) ≡ portions_of payee (said first) ++ portions_of payee (said others)
  portions_joined payee first others rising =
      portions_own division payee (first ++ others) 1 names
      ∙ own_joined division payee first others 1 names rising
      ∙ sym (λ i. portions_own division payee first 1 names i ++ portions_own division payee others 1 names i)

  -- no payee has more than an account
  pub payee_small : (payee : List ℕ) (lines : List UsageLine) (most : ℕ) → IsStrictlySortedBy (slice_cmp nat_cmp) names
      → ((account : ℕ) → unsigned_abs (int_sum_by (λ portion. portion.amount) (portions_by division lines account)) ≤ most)
      → unsigned_abs (int_sum_by (λ portion. portion.amount) (portions_of payee (said lines))) ≤ most
  payee_small payee lines most rising small =
      subst (λ (l : List Portion). unsigned_abs (int_sum_by (λ portion. portion.amount) l) ≤ most) (sym (portions_own division payee lines 1 names))
      (own_small division payee most lines 1 names rising small)

  no_portions : (payee : List ℕ) → portions_of payee (said []) ≡ []
  no_portions payee = portions_own division payee [] 1 names ∙ own_nothing division payee 1 names

  rests_joined : (first others : List UsageLine) → (said (first ++ others)).rests ≡ (said first).rests ++ (said others).rests
  rests_joined first others = flat_map-append (made_of (λ line. the_rest (reason_text (reason line)) line.usage) division 0) first others

-- Parts of a list

module _ (inputs : Inputs (List ℕ)) where
  -- a usage file, with the text of a run over it
  abbrev IsRun : List ℕ × List ℕ → Type 0
  IsRun part = AreStatementsOf (with_usage part.0 inputs) part.1

  module _ (tables : Tables) (names : List (List ℕ)) where
    abbrev said_here : List UsageLine → Statements
    said_here = said_of (division_by tables.territories tables.registry) (reason_of tables.territories tables.registry) names

    -- the lines of all files, and what is said of each file's
    record AreSpread (files texts : List (List ℕ)) : Type 0 where
      lines : List UsageLine
      read : AreLinesOf inputs files (with_lines lines tables)
      parts : List Statements
      sound : All AreStatements parts
      each : texts ≡ map text_of_statements parts
      portions : (payee : List ℕ) → portions_of payee (said_here lines) ≡ flat_map (portions_of payee) parts
      rests : (said_here lines).rests ≡ flat_map (λ part. part.rests) parts
      count : length lines ≡ sum_by (λ part. part.lines) parts
      amount : int_sum_by (λ line. line.amount) lines ≡ int_sum_by (λ part. part.amount) parts

  -- by the tables and the names of one reading
  module _ (usage_file : List ℕ) (tables : Tables) (is : IsReading (with_usage usage_file inputs) tables) where
    -- of other lines too
    read_here : (other_file : List ℕ) (others : Tables) → IsReading (with_usage other_file inputs) others → IsReading (with_usage other_file inputs) (with_lines others.usage tables)
    read_here other_file others of = record {
      territories = is.territories;
      rows = is.rows;
      payees = is.payees;
      registrations = is.registrations;
      accounts = is.accounts;
      uses = of.uses;
    }

    part_said : (other_file text : List ℕ) → (of : AreStatementsOf (with_usage other_file inputs) text) → IsSaid (with_lines of.tables.usage tables) is.accounts.names text
    unfolding read_here
    part_said other_file text of =
        let alike = read_alike (with_usage usage_file inputs) other_file tables of.tables is of.read in
        text_said (with_usage other_file inputs) text (with_lines of.tables.usage tables) (read_here other_file of.tables of.read) (statements_alike tables of.tables text alike of.statements)

    spread : (parts : List (List ℕ × List ℕ)) → All IsRun parts
        → AreSpread tables is.accounts.names (map (λ part. part.0) parts) (map (λ part. part.1) parts)
    spread [] each = record {
      lines = [];
      read = refl;
      parts = [];
      sound = All-nil AreStatements;
      each = refl;
      portions = no_portions (division_by tables.territories tables.registry) (reason_of tables.territories tables.registry) is.accounts.names;
      rests = refl;
      count = refl;
      amount = refl;
    }
    spread (part ∷ parts) each =
        let of = All-head IsRun part parts each in
        let later = spread parts (All-tail IsRun part parts each) in
        let says = part_said part.0 part.1 of in
        let division = division_by tables.territories tables.registry in
        let reason = reason_of tables.territories tables.registry in
        let names = is.accounts.names in
        let first = said_of division reason names of.tables.usage in
        record {
          lines = of.tables.usage ++ later.lines;
          read = (of.tables.usage, later.lines, refl, read_here part.0 of.tables of.read, later.read);
          parts = first ∷ later.parts;
          sound = All-cons AreStatements first later.parts says.sound later.sound;
          each = λ i. says.is i ∷ later.each i;
          portions = λ payee.
              portions_joined division reason names payee of.tables.usage later.lines (names_rise (with_usage usage_file inputs) tables is)
              ∙ ap (λ (l : List Portion). portions_of payee first ++ l) (later.portions payee);
          rests = rests_joined division reason names of.tables.usage later.lines ∙ ap (λ (l : List Rest). first.rests ++ l) later.rests;
          count = length-append of.tables.usage later.lines ∙ ap (λ (n : ℕ). length of.tables.usage + n) later.count ∙ sym (sum_by-cons (λ (all : Statements). all.lines) first later.parts);
          amount =
              int_sum_by-append (λ (line : UsageLine). line.amount) of.tables.usage later.lines
              ∙ ap (λ (z : ℤ). first.amount +ℤ z) later.amount
              ∙ sym (int_sum_by-cons (λ (all : Statements). all.amount) first later.parts);
        }

    -- what is merged of the parts is what is said of the whole list
    merged_parts : (parts : List (List ℕ × List ℕ)) (merged : List ℕ) → All IsRun parts
        → IsMergeOf (map (λ part. part.1) parts) merged → AreStatementsOfAll inputs (map (λ part. part.0) parts) merged
    merged_parts parts merged each of =
        let division = division_by tables.territories tables.registry in
        let reason = reason_of tables.territories tables.registry in
        let names = is.accounts.names in
        let all = spread parts each in
        let same = one_list_of_parts of.parts all.parts of.sound all.sound (sym of.each ∙ all.each) in
        let whole = are_together all.parts of.whole (subst (λ (list : List Statements). AreMerged list of.whole) same of.together) in
        let together : AreTogether all.parts (said_of division reason names all.lines) = record {
          rising = payees_rise division all.lines 1 names (names_rise (with_usage usage_file inputs) tables is);
          payees = all_statements division all.lines HasPortion IsName 1 names (names_named (with_usage usage_file inputs) tables is) (λ name account named some. some);
          portions = all.portions;
          rests = all.rests;
          lines = all.count;
          amount = all.amount;
        } in
        let one = one_whole all.parts of.whole (said_of division reason names all.lines) whole together in
        let book = statements_from division all.lines 0 tables.registry.accounts in
        let divided : IsBookOf division all.lines (length tables.registry.accounts) book = from_book division all.lines tables.registry.accounts in
        let named : IsBookOf division all.lines (length ([] ∷ names)) book =
        subst (λ (parties : List (List ℕ)). IsBookOf division all.lines (length parties) book) is.accounts.accounts divided in
        let sums : int_sum_by total_of (statements_by division all.lines 1 names) +ℤ total_of_rests (rests_by division reason all.lines) ≡ int_sum_by (λ line. line.amount) all.lines =
        subst (λ (s : Statements). int_sum_by total_of s.payees +ℤ total_of_rests s.rests ≡ s.amount) one of.together.sound.adds_up in
        let rows : text_of (rows_of_book book all.lines tables.registry.accounts (map reason all.lines)) ≡ text_of_statements (said_of division reason names all.lines) =
        ap (λ (parties : List (List ℕ)). text_of (rows_of_book book all.lines parties (map reason all.lines))) is.accounts.accounts
        ∙ ap text_of (rows_said division all.lines reason names book named) in
        record {
          tables = with_lines all.lines tables;
          read = all.read;
          statements = record {
            statements = book;
            divided = divided;
            adds_up = sums_said division all.lines reason names book named ∙ sums;
            rows = of.all ∙ ap text_of_statements one ∙ sym rows;
          };
        }

  -- where there is a part, it has a reading
  pub merged_list : (parts : List (List ℕ × List ℕ)) (merged : List ℕ) → 0 < length parts
      → All IsRun parts
      → IsMergeOf (map (λ part. part.1) parts) merged → AreStatementsOfAll inputs (map (λ part. part.0) parts) merged
  merged_list [] merged some each of = absurd (omega (arith, some))
  merged_list (part ∷ parts) merged some each of =
      let first = All-head IsRun part parts each in
      merged_parts part.0 first.tables first.read (part ∷ parts) merged each of
