-- What stands at the head of a page: facts beside its title, and large figures.
use Rattle.std.specs.Prelude.{ℕ, ℤ, pos, ◌==◌, ◌∷◌, [], Bool, List, codes, if◌then◌else◌, int_lt, length}
use Rattle.page_parts.specs.Pieces.{all_of, in_page}
use Rattle.page_parts.specs.declared.facts.Distribution as kept
use Rattle.page_text.specs.Figures.{amount_text}

-- A distribution, as its documents name it: what it is called, the currency of its amounts, who sent the registrations,
-- and how many decimal places amounts have.
pub record Distribution : Type 0 where
  pub title : List ℕ
  pub currency : List ℕ
  pub sources : List ℕ
  pub decimals : ℕ

-- as it is kept
abbrev pub distribution_shown : kept.Distribution → Distribution
distribution_shown distribution = record {
  title = distribution.title.now;
  currency = distribution.currency.now;
  sources = distribution.sources.now;
  decimals = distribution.decimals;
}

-- what it is, and a text; nothing where that is empty
abbrev pub fact_text : (label text : List ℕ) → List ℕ
fact_text label text =
    if length text == 0 then []
    else all_of (codes "<div><dt>" ∷ label ∷ codes "</dt><dd>" ∷ in_page text ∷ codes "</dd></div>" ∷ [])

abbrev pub figure_class_text : (is_negative : Bool) → List ℕ
figure_class_text is_negative = if is_negative then codes "<p class=\"fig neg\">" else codes "<p class=\"fig\">"

abbrev pub currency_text : (currency : List ℕ) → List ℕ
currency_text currency =
    if length currency == 0 then [] else all_of (codes "<i>" ∷ in_page currency ∷ codes "</i>" ∷ [])

-- a large figure, up to its note
abbrev pub figure_text : (decimals : ℕ) → (label : List ℕ) → (amount : ℤ) → (currency : List ℕ) → List ℕ
figure_text decimals label amount currency = all_of (
    figure_class_text (int_lt amount (pos 0)) ∷ codes "<span>" ∷ label ∷ codes "</span><b>"
    ∷ amount_text decimals amount
    ∷ currency_text currency ∷ codes "</b> <i>" ∷ [])
