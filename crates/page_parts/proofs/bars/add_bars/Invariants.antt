use Rattle.std.proofs.Common.{◌≡◌, ◌++◌, flat_map, map, take}
use Rattle.page_parts.specs.Bars.{row_shown, row_text}
use Rattle.page_parts.proofs.bars.add_bars.Given as goal

-- the rows so far are added
abbrev pub invariant-loop-place : goal.invariant-loop-place
invariant-loop-place l = l.page.items ≡ l.initial.page.items ++ flat_map (row_text l.decimals l.scale) (map row_shown (take l.place l.table.rows.now))
