-- A payee, and what it has.
use Rattle.std.specs.Prelude.{ℕ, ◌==◌, List, if◌then◌else◌, length}
use Rattle.payee_documents.specs.declared.statement.Payee as kept
use Rattle.payee_portions.specs.Portions.{Portion}
use Rattle.payee_portions.specs.Shown.{portions_shown}

pub record Payee : Type 0 where
  pub account : List ℕ
  pub name : List ℕ
  pub file : List ℕ
  pub portions : List Portion

-- as it is kept
abbrev pub payee_shown : kept.Payee → Payee
payee_shown payee = record {
  account = payee.account.now;
  name = payee.name.now;
  file = payee.file.now;
  portions = portions_shown payee.portions.now;
}

-- the name, or else the account
abbrev pub name_shown : Payee → List ℕ
name_shown payee = if length payee.name == 0 then payee.account else payee.name
