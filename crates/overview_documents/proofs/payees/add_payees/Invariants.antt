use Rattle.std.proofs.Common.{◌≡◌, ◌++◌, flat_map, take}
use Rattle.overview_documents.specs.Payees.{lines_shown, payee_row_text}
use Rattle.overview_documents.proofs.payees.add_payees.Given as goal

-- the rows so far are added
abbrev pub invariant-loop-place : goal.invariant-loop-place
invariant-loop-place l = l.page.items ≡ l.initial.page.items ++ flat_map (payee_row_text l.decimals) (lines_shown (take l.place l.payees))
