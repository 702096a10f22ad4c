-- Which field of a row is the first that cannot stand there.
use Rattle.std.specs.Prelude.{ℕ, List, ⊤}
use Rattle.merge_statements.specs.Places.{AmountOrTotalFits, At, KindFits, PayeeOrReasonFits, UsageOrCountFits}
use Rattle.merge_statements.specs.declared.row.Row.{Row}
use Rattle.merge_statements.specs.declared.walk.Wrong.{Wrong}
use Rattle.merge_statements.specs.declared.walk.Wrong.TheVariants.{AmountOrTotal, Kind, Memory, PayeeOrReason}
use Rattle.merge_statements.specs.declared.walk.Wrong.TheVariants.{UsageOrCount}

-- those before it can, and it cannot
abbrev pub IsWrongAt : At → (kind payee_or_reason usage_or_count amount_or_total : List ℕ) → Wrong → Type 0
IsWrongAt at kind payee_or_reason usage_or_count amount_or_total Kind = ¬ KindFits at.place kind
IsWrongAt at kind payee_or_reason usage_or_count amount_or_total PayeeOrReason = KindFits at.place kind
    × (¬ PayeeOrReasonFits at kind payee_or_reason)
IsWrongAt at kind payee_or_reason usage_or_count amount_or_total UsageOrCount =
    KindFits at.place kind × PayeeOrReasonFits at kind payee_or_reason × (¬ UsageOrCountFits at kind usage_or_count)
IsWrongAt at kind payee_or_reason usage_or_count amount_or_total AmountOrTotal =
    KindFits at.place kind × PayeeOrReasonFits at kind payee_or_reason × UsageOrCountFits at kind usage_or_count
    × (¬ AmountOrTotalFits at kind amount_or_total)
IsWrongAt at kind payee_or_reason usage_or_count amount_or_total Memory = ⊤

-- the same of a row that was read
abbrev pub RowIsWrong : At → Row → Wrong → Type 0
RowIsWrong at row field =
    IsWrongAt at row.kind.now row.payee_or_reason.now row.usage_or_count.now row.amount_or_total.now field
