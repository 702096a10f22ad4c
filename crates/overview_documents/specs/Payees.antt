-- The payees of a distribution, in its overview.
use Rattle.std.specs.Prelude.{ℕ, ℤ, pos, ◌≡◌, ◌≤◌, ◌==◌, ◌^◌, ◌++◌, ◌∷◌, [], All, Bool, List, codes}
use Rattle.std.specs.Prelude.{decimal, filter, flat_map, if◌then◌else◌, int_lt, length, map, sum_by, unsigned_abs}
use Rattle.std.specs.Bool.{beq}
use Rattle.line_split.specs.Signs.{int_sum_by}
use Rattle.overview_documents.specs.declared.payees.Group as kept_group
use Rattle.overview_documents.specs.declared.payees.PayeeLine as kept
use Rattle.page_parts.specs.Bars.{Others, Row, bars_text}
use Rattle.page_parts.specs.Pieces.{all_of, in_page}
use Rattle.page_parts.specs.Shortened.{IsShortened}
use Rattle.page_parts.specs.Tags.{row_tag_text}
use Rattle.page_text.specs.Figures.{amount_text, count_text}

-- a payee: its account's number and name, its own name, its files, its portions, and what they come to
pub record PayeeLine : Type 0 where
  pub number : ℕ
  pub account : List ℕ
  pub name : List ℕ
  pub file : List ℕ
  pub count : ℕ
  pub total : ℤ

-- as it is kept
abbrev pub line_shown : kept.PayeeLine → PayeeLine
line_shown payee = record {
  number = payee.number;
  account = payee.account.now;
  name = payee.name.now;
  file = payee.file.now;
  count = payee.count;
  total = payee.total;
}

abbrev pub lines_shown : List kept.PayeeLine → List PayeeLine
lines_shown payees = map line_shown payees

-- payees that can be counted and added
pub record AreFew (payees : List kept.PayeeLine) : Type 0 where
  pub few : length payees ≤ 65536
  pub counts : All (λ payee. payee.count ≤ 2 ^ 32) payees

-- the name, or else the account
abbrev pub name_in : PayeeLine → List ℕ
name_in payee = if length payee.name == 0 then payee.account else payee.name

-- behind a name stands the account, since two payees may have one name
abbrev pub code_in : PayeeLine → List ℕ
code_in payee = if length payee.name == 0 then [] else payee.account

-- a group of payees: how many, how many portions they have, and what these come to
pub record Group : Type 0 where
  pub payees : ℕ
  pub portions : ℕ
  pub amount : ℤ

abbrev pub group_shown : kept_group.Group → Group
group_shown group = record { payees = group.payees; portions = group.portions; amount = group.amount }

abbrev pub group_in_all : List PayeeLine → Group
group_in_all payees = record {
  payees = length payees;
  portions = sum_by (λ payee. payee.count) payees;
  amount = int_sum_by (λ payee. payee.total) payees;
}

-- those who owe, or those who do not
abbrev pub group_of : (is_owed : Bool) → List PayeeLine → Group
group_of is_owed payees = group_in_all (filter (λ payee. beq (int_lt payee.total (pos 0)) is_owed) payees)

-- a group that can be added to another
pub record IsCountable (group : kept_group.Group) : Type 0 where
  pub payees : group.payees ≤ 65536
  pub portions : group.portions ≤ 2 ^ 48
  pub amount : unsigned_abs group.amount ≤ 2 ^ 80

-- a payee as a row of the table of the largest
abbrev pub bar_row : PayeeLine → Row
bar_row payee = record {
  name = name_in payee;
  code = code_in payee;
  page = payee.file;
  count = payee.count;
  amount = payee.total;
}

-- the table of the payees with the highest totals, where these are shown
abbrev pub largest_text : (decimals : ℕ) → (shown : List Row) → Others → (all : Group) → List ℕ
largest_text decimals shown others all = bars_text decimals record {
  caption = codes "Payees with the highest totals";
  head = codes "Payee";
  rows = shown;
  rest = codes "other payees";
  others = others;
  total = codes "All payees";
  count = all.portions;
  amount = all.amount;
}

pub record HasLargest (decimals : ℕ) (payees : List PayeeLine) (all : Group) (before after : List ℕ) : Type 0 where
  pub shown : List Row
  pub others : Others
  pub shortened : IsShortened 10 (map bar_row payees) shown others
  pub text : after ≡ before ++ largest_text decimals shown others all

abbrev pub payees_head : List ℕ
payees_head = all_of (
    codes "<table class=\"payees\"><caption>In the order of their accounts, as in the statements</caption>"
    ∷ codes "<thead><tr><th scope=\"col\" class=\"n opt\">No.</th><th scope=\"col\">Account</th>"
    ∷ codes "<th scope=\"col\">Name</th><th scope=\"col\" class=\"n\">Portions</th>"
    ∷ codes "<th scope=\"col\" class=\"n\">Total</th><th scope=\"col\" class=\"opt screen\">Rows</th>"
    ∷ codes "</tr></thead><tbody>\n" ∷ [])

-- the row of a payee, which leads to its statement and its sheet
abbrev pub payee_row_text : (decimals : ℕ) → PayeeLine → List ℕ
payee_row_text decimals payee = all_of (
    row_tag_text (int_lt payee.total (pos 0)) ∷ codes "<td class=\"n opt\">" ∷ decimal payee.number
    ∷ codes "</td><th scope=\"row\"><a href=\"payees/" ∷ in_page payee.file ∷ codes ".html\">" ∷ in_page payee.account
    ∷ codes "</a></th><td>" ∷ in_page payee.name ∷ codes "</td><td class=\"n\">" ∷ count_text payee.count
    ∷ codes "</td><td class=\"n\">" ∷ amount_text decimals payee.total
    ∷ codes "</td><td class=\"opt screen\"><a href=\"payees/" ∷ in_page payee.file
    ∷ codes ".csv\" aria-label=\"Rows of " ∷ in_page payee.account ∷ codes " as CSV\">CSV</a></td></tr>\n" ∷ [])

abbrev pub payees_total_text : (decimals : ℕ) → (all : Group) → List ℕ
payees_total_text decimals all = all_of (
    codes "</tbody><tfoot>" ∷ row_tag_text (int_lt all.amount (pos 0))
    ∷ codes "<td class=\"opt\"></td><th scope=\"row\">Payees: " ∷ count_text all.payees
    ∷ codes "</th><td></td><td class=\"n\">" ∷ count_text all.portions ∷ codes "</td><td class=\"n\">"
    ∷ amount_text decimals all.amount ∷ codes "</td><td class=\"opt screen\"></td></tr></tfoot></table>\n" ∷ [])

-- the table of all payees, in the order of their accounts
abbrev pub payees_text : (decimals : ℕ) → List PayeeLine → (all : Group) → List ℕ
payees_text decimals payees all =
    payees_head ++ (flat_map (payee_row_text decimals) payees ++ payees_total_text decimals all)
