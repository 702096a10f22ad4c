use Rattle.std.proofs.Common.{codes, map, take}
use Rattle.std.specs.Io.KnownBytes.{Appends, append_known}
use Rattle.csv_table.specs.Written.{text_of}
use Rattle.payee_book.specs.Text.{posting_row, reason_at}
use Rattle.payee_book.proofs.rows.write_residue.Given as goal

-- the postings so far are written
abbrev pub invariant-loop-posting : goal.invariant-loop-posting
invariant-loop-posting g l =
    Appends (append_known (g.W.Write.contents l.fn.out) l.fn.rows.text) (append_known (g.W.Write.contents l.out) l.rows.text)
    (text_of (map (λ posting. posting_row l.usage (codes "M") (reason_at l.reasons posting.0) posting) (take l.posting-index l.statement)))
