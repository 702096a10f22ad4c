-- A text has no more rows than bytes, but for one.
use Rattle.std.proofs.Common.{◌≤◌, ◌+◌, ℕ, zero, suc, List, [], ◌∷◌, length, Option, Some, None, Bool, true, false, arith}
use Rattle.std.specs.Prelude.{if◌then◌else◌}
use Rattle.csv.specs.Machine.{Read, next_record}
use Rattle.csv.specs.Reading.{default_config, is_bom, records_from, records_next, strip_bom}
use Rattle.csv.specs.declared.parser.State.{State}
use Rattle.csv.specs.declared.parser.State.TheVariants.{StartRecord}
use Rattle.csv_table.specs.Table.{rows_of}

-- as many turns, as many rows at most
turns : (n : ℕ) (s : State) (text : List ℕ) → length (records_from default_config n s text) ≤ n
unfolding records_from
turns zero s text = omega arith
turns (suc n) s text = by (next_record default_config s [] [] text) (λ p. turns n p.1 p.2)
  where
    by : (o : Option Read) → ((p : Read) → length (records_from default_config n p.1 p.2) ≤ n) → length (records_next (records_from default_config n) o) ≤ suc n
    by None few = omega arith
    by (Some p) few = omega (arith, few p)

stripped : (text : List ℕ) → length (strip_bom text) ≤ length text
unfolding strip_bom
stripped [] = omega arith
stripped (a ∷ []) = omega arith
stripped (a ∷ b ∷ []) = omega arith
stripped (a ∷ b ∷ c ∷ rest) = by (is_bom a b c)
  where
    by : (mark : Bool) → length (if mark then rest else a ∷ b ∷ c ∷ rest) ≤ length (a ∷ b ∷ c ∷ rest)
    by true = omega arith
    by false = omega arith

pub rows_count : (text : List ℕ) → length (rows_of text) ≤ length text + 1
rows_count text = omega (arith, turns (length (strip_bom text) + 1) StartRecord (strip_bom text), stripped text)
