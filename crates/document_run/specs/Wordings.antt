-- What documents say of a distribution that its inputs don't.
use Rattle.std.specs.Prelude.{ℕ, ◌≤◌, [], List}
use Rattle.document_run.specs.declared.wording.Wording.{Wording}
use Rattle.page_parts.specs.Facts.{Distribution}

-- the distribution as its documents name it, and the names of territories
pub record Said : Type 0 where
  pub distribution : Distribution
  pub lands : List (ℕ × List ℕ)

-- as it is kept
abbrev pub wording_shown : Wording → Said
wording_shown wording = record {
  distribution = record {
    title = wording.title.now;
    currency = wording.currency.now;
    sources = [];
    decimals = wording.decimals;
  };
  lands = wording.territories.now;
}

-- amounts have as many decimal places as can be shown
abbrev pub CanBeShown : Wording → Type 0
CanBeShown wording = wording.decimals ≤ 9
