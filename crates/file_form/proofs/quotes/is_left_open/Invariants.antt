use Rattle.std.proofs.Common.{◌≡◌, ℕ, Some, take}
use Rattle.std.specs.Prelude.{fold}
use Rattle.csv.specs.Machine.{step}
use Rattle.csv.specs.Reading.{default_config, strip_bom}
use Rattle.csv.specs.declared.parser.State.{State}
use Rattle.csv.specs.declared.parser.State.TheVariants as st
use Rattle.file_form.specs.SoFar.{stand_of}
use Rattle.file_form.proofs.quotes.is_left_open.Given as goal

abbrev pub invariant-loop-byte : goal.invariant-loop-byte
invariant-loop-byte l = stand_of (fold (λ (state : State) (byte : ℕ). (step default_config state byte).0) st.StartRecord (take l.byte-index (strip_bom l.text))) ≡ Some l.stand
