-- An explanation by what was found in the files of submitters.
use Rattle.std.proofs.Common.{◌≡◌, ◌⊎◌, ◌-◌, ◌<◌, ℕ, List, None, Option, Result, Ok, Some, inl, inr, length, subst, sym}
use Rattle.std.specs.Prelude.{IfErr, IfNone, IfOk, IfSome, slice_get}
use Rattle.csv_table.specs.Table.{rows_of}
use Rattle.cwr_share.specs.Registered.{Registered}
use Rattle.line_split.specs.UsageTable as uses_table
use Rattle.line_split.specs.UsageLine.{UsageLine}
use Rattle.line_split.specs.declared.line_fault.LineFault.{LineFault}
use Rattle.linked_works.specs.Linked.{Link}
use Rattle.linked_works.specs.WorksTable as works
use Rattle.linked_works.specs.declared.works.WorksRow.{WorksRow}
use Rattle.submitted_inputs.specs.Submitted.{AreFiles, ArePayees, AreRegistrations, IsFaultOf, IsReading, finds_by}
use Rattle.submitted_inputs.specs.declared.inputs.SubmittedTables.{SubmittedTables}
use Rattle.submitted_inputs.proofs.Refusals.{registrations_fault, usage_fault}
use Rattle.tis_tree.specs.TisRows as tis
use Rattle.submitted_inputs.specs.declared.fault.SubmittedFault.{SubmittedFault}
use Rattle.explain_line.specs.LookedAt.{AreRowsOf, HasNoRowBy, IsExplainedBy, IsFaultBehind, IsFaultOfUses, IsFoundIn, IsRowExplained, files_by}
use Rattle.explain_line.specs.Submitted.{IsSubmittedExplanationOf, SubmittedHaveNoRow}
use Rattle.explain_line.specs.declared.submitted_files.Found.{Found}

-- what follows from what holds of an answer, or of there being none
pub if_some : {X : Type 0} (P Q : X → Type 0) → ((x : X) → P x → Q x) → (answer : Option X) → IfSome answer P → IfSome answer Q
if_some P Q more None is = tt
if_some P Q more (Some x) is = more x is

pub if_none : {X : Type 0} (P Q : Type 0) → (P → Q) → (answer : Option X) → IfNone answer P → IfNone answer Q
if_none P Q more None is = more is
if_none P Q more (Some x) is = tt

module _ (names : List (List ℕ)) (holds : ℕ → List ℕ → Type 0) (table : List (ℕ × List ℕ)) (payees : List (List ℕ × List ℕ)) (links : List Link) (rows : List WorksRow) (found : Found)
    (usage : Result (List UsageLine) LineFault) (row : ℕ) (is : IsFoundIn names holds payees links rows found) where
  pub explained : IfOk usage (λ uses. (line : UsageLine) → 0 < row → slice_get uses (row - 1) ≡ Some line → AreRowsOf links line.work rows) → (text : List ℕ)
      → IsRowExplained table found rows usage row text → IsExplainedBy names holds table payees links usage row text
  explained wanted text e =
      let of_line = subst (λ (u : Result (List UsageLine) LineFault). IfOk u (λ uses. (line : UsageLine) → 0 < row → slice_get uses (row - 1) ≡ Some line → AreRowsOf links line.work rows)) e.of wanted in
      record {
        uses = e.uses;
        of = e.of;
        files = is.files;
        are = is.are;
        registered = found.registry;
        registrations = is.registry;
        line = e.line;
        at = e.at;
        rows = e.explains (files_by names is.files) links (of_line e.line e.here.0 e.here.1) is.found_for;
      }

  pub no_row : (uses : List UsageLine) × (usage ≡ Ok uses) × ((row ≡ 0) ⊎ (length uses < row)) → HasNoRowBy names holds payees links usage row
  no_row (uses, of, beyond) = record {
    uses = uses;
    of = of;
    files = is.files;
    are = is.are;
    registered = found.registry;
    registrations = is.registry;
    beyond = beyond;
  }

  pub refused : (refuses : ℕ → Type 0) (fault : SubmittedFault) → IsFaultOfUses usage fault → IsFaultBehind names holds refuses payees links usage fault
  refused refuses fault of = inr (is.files, is.are, found.registry, is.registry, of)

-- Where the tables were read too, this is the explanation of a line of theirs, or what they are refused for.
module _ (names : List (List ℕ)) (holds : ℕ → List ℕ → Type 0) (inputs : SubmittedTables (List ℕ)) (table : List (ℕ × List ℕ)) (territories : tis.IsTableOf (rows_of inputs.territories) table)
    (payees : List (List ℕ × List ℕ)) (paid : ArePayees names inputs.payees payees) (links : List Link) (linked : works.IsTableOf names (rows_of inputs.works) links)
    (usage : Result (List UsageLine) LineFault) (read : IfOk usage (uses_table.IsTableOf (rows_of inputs.usage))) (row : ℕ) where
  reading : (files : List (List ℕ)) → AreFiles holds (length names) files → (registered : Registered) → AreRegistrations payees (finds_by names files) links registered → (uses : List UsageLine)
      → usage ≡ Ok uses → IsReading names holds inputs (record { territories = table; registry = registered; usage = uses })
  reading files are registered registrations uses of = record {
    territories = territories;
    rows = payees;
    payees_are = paid;
    links = links;
    works_are = linked;
    files = files;
    files_are = are;
    registrations = registrations;
    uses = subst (λ (u : Result (List UsageLine) LineFault). IfOk u (uses_table.IsTableOf (rows_of inputs.usage))) of read;
  }

  pub read_row : (text : List ℕ) → IsExplainedBy names holds table payees links usage row text → IsSubmittedExplanationOf names holds inputs row text
  unfolding reading
  read_row text e = record {
    tables = record { territories = table; registry = e.registered; usage = e.uses };
    read = reading e.files e.are e.registered e.registrations e.uses e.of;
    line = e.line;
    at = e.at;
    rows = e.rows;
  }

  pub read_none : HasNoRowBy names holds payees links usage row → SubmittedHaveNoRow names holds inputs row
  read_none e = record {
    tables = record { territories = table; registry = e.registered; usage = e.uses };
    read = reading e.files e.are e.registered e.registrations e.uses e.of;
    beyond = e.beyond;
  }

pub behind : (names : List (List ℕ)) (holds : ℕ → List ℕ → Type 0) (refuses : ℕ → Type 0) (inputs : SubmittedTables (List ℕ)) (table : List (ℕ × List ℕ)) → tis.IsTableOf (rows_of inputs.territories) table
    → (payees : List (List ℕ × List ℕ)) → ArePayees names inputs.payees payees → (links : List Link) → works.IsTableOf names (rows_of inputs.works) links
    → (usage : Result (List UsageLine) LineFault) → IfErr usage (uses_table.IsFaultOf (rows_of inputs.usage)) → (fault : SubmittedFault)
    → IsFaultBehind names holds refuses payees links usage fault → IsFaultOf names holds refuses inputs fault
behind names holds refuses inputs table territories payees paid links linked usage read fault (inl of) = registrations_fault names holds refuses inputs table territories payees paid links linked fault of
behind names holds refuses inputs table territories payees paid links linked usage read fault (inr (files, are, registered, registrations, inl room)) = inl room
behind names holds refuses inputs table territories payees paid links linked usage read fault (inr (files, are, registered, registrations, inr (own, of, is))) =
    let refused = subst (λ (u : Result (List UsageLine) LineFault). IfErr u (uses_table.IsFaultOf (rows_of inputs.usage))) of read in
    subst (IsFaultOf names holds refuses inputs) (sym is) (usage_fault names holds refuses inputs table territories payees paid links linked files are registered registrations own refused)
