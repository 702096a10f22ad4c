-- Documents can be made.
use Rattle.std.specs.Prelude.{ℕ, ◌≡◌, ◌≤◌, ◌<◌, All, List, Vec, length}
use Rattle.std.specs.Borrow.{Bor}
use Rattle.distribution_documents.specs.declared.documents.Documents.{Documents}
use Rattle.page_text.specs.declared.figures.TheConstants.{MOST_DECIMALS}
use Rattle.page_parts.specs.declared.facts.Distribution.{Distribution}
use Rattle.settle_run.specs.Settled.{AreDivided}
use Rattle.settle_run.specs.declared.statements.Divided.{Divided}
use Rattle.std.specs.declared.alloc.Global.{Global}

-- The lines are divided, and there is a name for each account.
pub record AreReady (documents : Documents) : Type 0 where
  pub divided : AreDivided documents.divided.now.tables documents.divided.now.book documents.divided.now.reasons.items
  pub accounts : length documents.divided.now.book ≡ length documents.divided.now.tables.registry.accounts
  pub lines : All (All (λ posting. posting.0 < length documents.divided.now.tables.usage)) documents.divided.now.book
  pub reasons : length documents.divided.now.reasons.items ≡ length documents.divided.now.tables.usage
  pub names : length documents.names.now ≡ length documents.divided.now.tables.registry.accounts
  pub decimals : documents.distribution.decimals ≤ MOST_DECIMALS

-- documents of these parts
abbrev pub documents_of : Bor Divided → Bor (List (List ℕ × List ℕ)) → Bor (List (Vec ℕ Global)) → Bor (List (ℕ × List ℕ))
    → Distribution → Documents
documents_of divided titles names territories distribution = record {
  divided = divided;
  titles = titles;
  names = names;
  territories = territories;
  distribution = distribution;
}
