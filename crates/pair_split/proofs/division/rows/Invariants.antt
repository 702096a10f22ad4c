use Rattle.std.proofs.Common.{◌≡◌, map, take}
use Rattle.std.specs.Prelude.{flat_map, zip, string_bytes}
use Rattle.line_split.specs.FairSplit.{sizes_of}
use Rattle.pair_split.specs.Rows.{labels_of, row_of}
use Rattle.pair_split.proofs.division.rows.Given as goal

-- the rows so far are written
abbrev pub invariant-loop-place : goal.invariant-loop-place
invariant-loop-place l = l.out.text ≡ flat_map (λ e. row_of e.0.0 e.0.1 e.1.1) (take l.place (zip (labels_of (map string_bytes l.words)) (sizes_of l.portions)))
