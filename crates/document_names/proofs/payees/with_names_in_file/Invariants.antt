use Rattle.std.proofs.Common.{◌≡◌, map, take, zip}
use Rattle.cwr_share.specs.Lines.{lines_of}
use Rattle.document_names.specs.Payees.{named_by}
use Rattle.document_names.proofs.payees.with_names_in_file.Given as goal

-- the names of the accounts so far
abbrev pub invariant-loop-place : goal.invariant-loop-place
invariant-loop-place l =
    map (λ name. name.items) l.found.items
    ≡ map (λ e. named_by l.submitter (lines_of l.file) e.0.items e.1.items) (take l.place (zip l.accounts l.names))
