use Rattle.std.proofs.Common.{◌≡◌, map, take}
use Rattle.cwr_share.specs.Lines.{lines_of}
use Rattle.document_names.specs.Payees.{name_in}
use Rattle.document_names.proofs.payees.names_in_file.Given as goal

-- the names of the accounts so far
abbrev pub invariant-loop-place : goal.invariant-loop-place
invariant-loop-place l =
    map (λ name. name.items) l.names.items ≡ map (λ account. name_in (lines_of l.file) account.items) (take l.place l.accounts)
