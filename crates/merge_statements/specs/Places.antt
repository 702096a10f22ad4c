-- Where a reader of a statement text stands, and which row can stand there.
use Rattle.std.specs.Prelude.{ℕ, ℤ, pos, ◌≡◌, ◌+◌, ◌+ℤ◌, ◌∷◌, ◌⊎◌, [], List, codes, decimal}
use Rattle.std.specs.Cmp.Lexicographic.{slice_cmp}
use Rattle.std.specs.Fmt.{signed_decimal}
use Rattle.std.specs.Ordering.{nat_cmp}
use Rattle.std.specs.declared.cmp.Ordering.TheVariants.{Less}
use Rattle.merge_statements.specs.Statements.{IsAmount, IsCount, IsName, IsReason}
use Rattle.merge_statements.specs.declared.row.Row.{Row}
use Rattle.merge_statements.specs.declared.walk.Place.{Place}
use Rattle.merge_statements.specs.declared.walk.Place.TheVariants.{Between, Within, Resting, Summed, Ended}

-- a place among the rows; the payee that was read last, which is empty before the first; how many portions were read,
-- those that nobody gets among them, and what the sums that were read come to
pub record At : Type 0 where
  pub place : Place
  pub payee : List ℕ
  pub portions : ℕ
  pub total : ℤ

-- before the first row
abbrev pub at_first : At
at_first = record { place = Between; payee = []; portions = 0; total = pos 0 }

-- a row of these fields
abbrev pub row_of : (kind payee_or_reason usage_or_count amount_or_total : List ℕ) → List (List ℕ)
row_of kind payee_or_reason usage_or_count amount_or_total =
    kind ∷ payee_or_reason ∷ usage_or_count ∷ amount_or_total ∷ []

-- A kind of row can stand at a place: among payees comes another, or what nobody gets; a payee's portions end with
-- their sum, and so does what nobody gets; last come the usage lines.
abbrev pub KindFits : Place → List ℕ → Type 0
KindFits Between kind = (kind ≡ codes "L") ⊎ (kind ≡ codes "M") ⊎ (kind ≡ codes "T")
KindFits (Within count so_far) kind = (kind ≡ codes "L") ⊎ (kind ≡ codes "S")
KindFits (Resting count so_far) kind = (kind ≡ codes "M") ⊎ (kind ≡ codes "T")
KindFits Summed kind = kind ≡ codes "R"
KindFits (Ended lines) kind = ⊥

-- a payee whose portion can stand there: one behind the last in byte order, or the last itself, whose portions go on
abbrev pub IsPayeeAt : Place → (last payee : List ℕ) → Type 0
IsPayeeAt (Within count so_far) last payee = payee ≡ last
IsPayeeAt _ last payee = IsName payee × (slice_cmp nat_cmp last payee ≡ Less)

-- the payee or the reason
pub record PayeeOrReasonFits (at : At) (kind payee_or_reason : List ℕ) : Type 0 where
  pub payee : kind ≡ codes "L" → IsPayeeAt at.place at.payee payee_or_reason
  pub same : kind ≡ codes "S" → payee_or_reason ≡ at.payee
  pub reason : kind ≡ codes "M" → IsReason payee_or_reason
  pub none : (kind ≡ codes "T") ⊎ (kind ≡ codes "R") → payee_or_reason ≡ []

-- how many portions a sum is of, and what they come to
abbrev pub count_at : Place → ℕ
count_at (Within count so_far) = count
count_at (Resting count so_far) = count
count_at _ = 0

abbrev pub sum_at : Place → ℤ
sum_at (Within count so_far) = so_far
sum_at (Resting count so_far) = so_far
sum_at _ = pos 0

-- the use or the count
pub record UsageOrCountFits (at : At) (kind usage_or_count : List ℕ) : Type 0 where
  pub usage : (kind ≡ codes "L") ⊎ (kind ≡ codes "M") → IsName usage_or_count
  pub count : (kind ≡ codes "S") ⊎ (kind ≡ codes "T") → usage_or_count ≡ decimal (count_at at.place)
  pub lines : kind ≡ codes "R" → (lines : ℕ) × IsCount lines × (usage_or_count ≡ decimal lines)

-- one portion more is counted, and this is its amount as a run writes it
abbrev pub IsNextAmount : (portions : ℕ) → (text : List ℕ) → Type 0
IsNextAmount portions text = IsCount (portions + 1) × ((amount : ℤ) × IsAmount amount × (text ≡ signed_decimal amount))

-- and the amount or the total
pub record AmountOrTotalFits (at : At) (kind amount_or_total : List ℕ) : Type 0 where
  pub amount : (kind ≡ codes "L") ⊎ (kind ≡ codes "M") → IsNextAmount at.portions amount_or_total
  pub sum : (kind ≡ codes "S") ⊎ (kind ≡ codes "T") → amount_or_total ≡ signed_decimal (sum_at at.place)
  pub all : kind ≡ codes "R" → amount_or_total ≡ signed_decimal at.total

-- all four
pub record Fits (at : At) (kind payee_or_reason usage_or_count amount_or_total : List ℕ) : Type 0 where
  pub kind_fits : KindFits at.place kind
  pub payee_or_reason_fits : PayeeOrReasonFits at kind payee_or_reason
  pub usage_or_count_fits : UsageOrCountFits at kind usage_or_count
  pub amount_or_total_fits : AmountOrTotalFits at kind amount_or_total

-- Where such a row leads: a portion is counted, a sum ends a payee or what nobody gets, and the usage lines end the
-- text.
pub record Leads (at : At) (kind payee_or_reason usage_or_count amount_or_total : List ℕ) (next : At) : Type 0 where
  pub portion : kind ≡ codes "L" → (amount : ℤ) × IsAmount amount × (amount_or_total ≡ signed_decimal amount)
      × (next ≡ record {
        place = Within (count_at at.place + 1)
            (sum_at at.place +ℤ amount);
        payee = payee_or_reason;
        portions = at.portions + 1;
        total = at.total;
      })
  pub sum : kind ≡ codes "S" → next
      ≡ record { place = Between; payee = at.payee; portions = at.portions; total = at.total +ℤ sum_at at.place }
  pub rest : kind ≡ codes "M" → (amount : ℤ) × IsAmount amount × (amount_or_total ≡ signed_decimal amount)
      × (next ≡ record {
        place = Resting (count_at at.place + 1)
            (sum_at at.place +ℤ amount);
        payee = at.payee;
        portions = at.portions + 1;
        total = at.total;
      })
  pub rests : kind ≡ codes "T" → next
      ≡ record { place = Summed; payee = at.payee; portions = at.portions; total = at.total +ℤ sum_at at.place }
  pub run : kind ≡ codes "R" → (lines : ℕ) × IsCount lines × (usage_or_count ≡ decimal lines)
      × (next ≡ record { place = Ended lines; payee = at.payee; portions = at.portions; total = at.total })

-- a row fits and leads on
pub record Follows (at : At) (row : List (List ℕ)) (next : At) : Type 0 where
  pub kind : List ℕ
  pub payee_or_reason : List ℕ
  pub usage_or_count : List ℕ
  pub amount_or_total : List ℕ
  pub form : row ≡ row_of kind payee_or_reason usage_or_count amount_or_total
  pub fits : Fits at kind payee_or_reason usage_or_count amount_or_total
  pub leads : Leads at kind payee_or_reason usage_or_count amount_or_total next

-- the same of a row that was read
abbrev pub RowFits : At → Row → Type 0
RowFits at row = Fits at row.kind.now row.payee_or_reason.now row.usage_or_count.now row.amount_or_total.now

abbrev pub RowLeads : At → Row → At → Type 0
RowLeads at row next = Leads at row.kind.now row.payee_or_reason.now row.usage_or_count.now row.amount_or_total.now next
