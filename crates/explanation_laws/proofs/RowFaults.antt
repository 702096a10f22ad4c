-- A row of each table has one fault: the first thing that is wrong with it.
use Rattle.std.proofs.Common.{◌≡◌, ℕ, List, ap, inl, inr, length}
use Rattle.tis_tree.specs.Territories.{IsKnown}
use Rattle.tis_tree.specs.TisRows as tis
use Rattle.tis_tree.specs.TisRows.{territory_rules}
use Rattle.tis_tree.specs.declared.tis_fault.TisFault.{TisFault}
use Rattle.tis_tree.specs.declared.tis_fault.TisFault.TheVariants as tis_fault
use Rattle.tis_tree.proofs.OneTable as territories
use Rattle.csv_table.specs.Forms.{number_of}
use Rattle.cwr_share.specs.Joined.{qualified}
use Rattle.cwr_share.specs.PayeeTable as payees
use Rattle.cwr_share.specs.PayeeTable.{payee_rules}
use Rattle.cwr_share.specs.Payees.{HasRow}
use Rattle.cwr_share.specs.declared.payee_fault.PayeeFault.{PayeeFault}
use Rattle.cwr_share.specs.declared.payee_fault.PayeeFault.TheVariants as payee_fault
use Rattle.cwr_share.proofs.PayeeRows as payee_rows
use Rattle.line_split.specs.UsageLine.{HasAmount, HasRight, HasTerritory, HasTexts}
use Rattle.line_split.specs.UsageTable as usage
use Rattle.line_split.specs.UsageTable.{usage_rules}
use Rattle.line_split.specs.declared.line_fault.LineFault.{LineFault}
use Rattle.line_split.specs.declared.line_fault.LineFault.TheVariants as line_fault
use Rattle.line_split.proofs.OneTable as uses
use Rattle.linked_works.specs.Linked.{Link}
use Rattle.linked_works.specs.SubmitterPayees as submitter_payees
use Rattle.linked_works.specs.WorksTable as works
use Rattle.linked_works.specs.WorksTable.{works_rules}
use Rattle.linked_works.specs.declared.works_fault.WorksFault.{WorksFault}
use Rattle.linked_works.specs.declared.works_fault.WorksFault.TheVariants as works_fault
use Rattle.linked_works.proofs.LinkRows as link_rows
use Rattle.linked_works.proofs.PayeeRows as submitter_rows
use Rattle.explanation_laws.proofs.Chains.{Chain, IsFirstOf, first_once}
use Rattle.explanation_laws.proofs.Chains.Chain.{fine, unless}
use Rattle.explanation_laws.proofs.TableFaults.{HaveOneFault}

-- ---- territories

module _ (earlier : List (ℕ × List ℕ)) (number : ℕ) (row : List (List ℕ)) where
  abbrev of_territory : Chain TisFault
  of_territory =
      unless (length row ≡ length tis.header) (tis_fault.Csv number) (unless (tis.HasCode row) (tis_fault.Code number)
      (unless (¬ IsKnown earlier (number_of (tis.code_field row))) (tis_fault.Twice number) (unless (tis.HasGroups earlier row) (tis_fault.Group number) fine)))

  first_of_territory : (fault : TisFault) → tis.IsFaultOfRow earlier number row fault → IsFirstOf of_territory fault
  first_of_territory (tis_fault.Csv n) (is, bad) = inl (bad, ap tis_fault.Csv is)
  first_of_territory (tis_fault.Code n) (is, whole, bad) = inr (whole, inl (bad, ap tis_fault.Code is))
  first_of_territory (tis_fault.Twice n) (is, whole, code, known) = inr (whole, inr (code, inl (λ new. new known, ap tis_fault.Twice is)))
  first_of_territory (tis_fault.Group n) (is, whole, code, new, bad) = inr (whole, inr (code, inr (new, inl (bad, ap tis_fault.Group is))))
  first_of_territory fault never = absurd never

pub territories_have : HaveOneFault territory_rules
territories_have = record {
  apart = territories.not_refused;
  once = λ earlier number row a b is also.
      first_once (of_territory earlier number row) a b (first_of_territory earlier number row a is) (first_of_territory earlier number row b also);
  of_row = λ earlier number row refused. refused;
  headless = λ same. cc same;
  too_many = λ same. cc same;
}

-- ---- payees

module _ (earlier : List (List ℕ × List ℕ)) (number : ℕ) (row : List (List ℕ)) where
  abbrev of_payee : Chain PayeeFault
  of_payee =
      unless (length row ≡ length payees.header) (payee_fault.Csv number) (unless (payees.HasNames row) (payee_fault.Fields number)
      (unless (¬ HasRow earlier (payees.party_field row)) (payee_fault.Twice number) fine))

  first_of_payee : (fault : PayeeFault) → payees.IsFaultOfRow earlier number row fault → IsFirstOf of_payee fault
  first_of_payee (payee_fault.Csv n) (is, bad) = inl (bad, ap payee_fault.Csv is)
  first_of_payee (payee_fault.Fields n) (is, whole, bad) = inr (whole, inl (bad, ap payee_fault.Fields is))
  first_of_payee (payee_fault.Twice n) (is, whole, names, has) = inr (whole, inr (names, inl (λ new. new has, ap payee_fault.Twice is)))
  first_of_payee fault never = absurd never

pub payees_have : HaveOneFault payee_rules
payees_have = record {
  apart = payee_rows.not_refused;
  once = λ earlier number row a b is also. first_once (of_payee earlier number row) a b (first_of_payee earlier number row a is) (first_of_payee earlier number row b also);
  of_row = λ earlier number row refused. refused;
  headless = λ same. cc same;
  too_many = λ same. cc same;
}

-- ---- payees by submitter

module _ (names : List (List ℕ)) (earlier : List (List ℕ × List ℕ)) (number : ℕ) (row : List (List ℕ)) where
  abbrev of_submitter_payee : Chain PayeeFault
  of_submitter_payee =
      unless (length row ≡ length submitter_payees.header) (payee_fault.Csv number) (unless (submitter_payees.HasNames row) (payee_fault.Fields number)
      (unless (submitter_payees.HasSubmitter names row) (payee_fault.Submitter number)
      (unless (¬ HasRow earlier (qualified (submitter_payees.submitter_field row) (submitter_payees.party_field row))) (payee_fault.Twice number) fine)))

  first_of_submitter_payee : (fault : PayeeFault) → submitter_payees.IsFaultOfRow names earlier number row fault → IsFirstOf of_submitter_payee fault
  first_of_submitter_payee (payee_fault.Csv n) (is, bad) = inl (bad, ap payee_fault.Csv is)
  first_of_submitter_payee (payee_fault.Fields n) (is, whole, bad) = inr (whole, inl (bad, ap payee_fault.Fields is))
  first_of_submitter_payee (payee_fault.Submitter n) (is, whole, fields, bad) = inr (whole, inr (fields, inl (bad, ap payee_fault.Submitter is)))
  first_of_submitter_payee (payee_fault.Twice n) (is, whole, fields, submitter, has) =
      inr (whole, inr (fields, inr (submitter, inl (λ new. new has, ap payee_fault.Twice is))))
  first_of_submitter_payee fault never = absurd never

pub submitter_payees_have : (names : List (List ℕ)) → HaveOneFault (submitter_payees.payee_rules names)
submitter_payees_have names = record {
  apart = submitter_rows.not_refused names;
  once = λ earlier number row a b is also.
      first_once (of_submitter_payee names earlier number row) a b (first_of_submitter_payee names earlier number row a is) (first_of_submitter_payee names earlier number row b also);
  of_row = λ earlier number row refused. refused;
  headless = λ same. cc same;
  too_many = λ same. cc same;
}

-- ---- works

module _ (names : List (List ℕ)) (earlier : List Link) (number : ℕ) (row : List (List ℕ)) where
  abbrev of_link : Chain WorksFault
  of_link =
      unless (length row ≡ length works.header) (works_fault.Csv number) (unless (works.HasWork row) (works_fault.Work number)
      (unless (works.HasSubmitter names row) (works_fault.Submitter number) (unless (works.HasNumber row) (works_fault.Number number)
      (unless (¬ works.IsLinked earlier (works.submitter_field row) (works.number_field row)) (works_fault.Twice number) fine))))

  first_of_link : (fault : WorksFault) → works.IsFaultOfRow names earlier number row fault → IsFirstOf of_link fault
  first_of_link (works_fault.Csv n) (is, bad) = inl (bad, ap works_fault.Csv is)
  first_of_link (works_fault.Work n) (is, whole, bad) = inr (whole, inl (bad, ap works_fault.Work is))
  first_of_link (works_fault.Submitter n) (is, whole, work, bad) = inr (whole, inr (work, inl (bad, ap works_fault.Submitter is)))
  first_of_link (works_fault.Number n) (is, whole, work, submitter, bad) = inr (whole, inr (work, inr (submitter, inl (bad, ap works_fault.Number is))))
  first_of_link (works_fault.Twice n) (is, whole, work, submitter, its, linked) =
      inr (whole, inr (work, inr (submitter, inr (its, inl (λ new. new linked, ap works_fault.Twice is)))))
  first_of_link fault never = absurd never

pub works_have : (names : List (List ℕ)) → HaveOneFault (works_rules names)
works_have names = record {
  apart = link_rows.not_refused names;
  once = λ earlier number row a b is also.
      first_once (of_link names earlier number row) a b (first_of_link names earlier number row a is) (first_of_link names earlier number row b also);
  of_row = λ earlier number row refused. refused;
  headless = λ same. cc same;
  too_many = λ same. cc same;
}

-- ---- usage lines

module _ (number : ℕ) (row : List (List ℕ)) where
  abbrev of_use : Chain LineFault
  of_use =
      unless (length row ≡ length usage.header) (line_fault.Csv number) (unless (HasTexts row) (line_fault.Fields number)
      (unless (HasTerritory row) (line_fault.Territory number) (unless (HasRight row) (line_fault.Right number)
      (unless (HasAmount row) (line_fault.Amount number) fine))))

  first_of_use : (fault : LineFault) → usage.IsFaultOfRow number row fault → IsFirstOf of_use fault
  first_of_use (line_fault.Csv n) (is, bad) = inl (bad, ap line_fault.Csv is)
  first_of_use (line_fault.Fields n) (is, whole, bad) = inr (whole, inl (bad, ap line_fault.Fields is))
  first_of_use (line_fault.Territory n) (is, whole, texts, bad) = inr (whole, inr (texts, inl (bad, ap line_fault.Territory is)))
  first_of_use (line_fault.Right n) (is, whole, texts, land, bad) = inr (whole, inr (texts, inr (land, inl (bad, ap line_fault.Right is))))
  first_of_use (line_fault.Amount n) (is, whole, texts, land, right, bad) = inr (whole, inr (texts, inr (land, inr (right, inl (bad, ap line_fault.Amount is)))))
  first_of_use fault never = absurd never

pub uses_have : HaveOneFault usage_rules
uses_have = record {
  apart = uses.not_refused;
  once = λ earlier number row a b is also. first_once (of_use number row) a b (first_of_use number row a is) (first_of_use number row b also);
  of_row = λ earlier number row refused. refused;
  headless = λ same. cc same;
  too_many = λ same. cc same;
}
