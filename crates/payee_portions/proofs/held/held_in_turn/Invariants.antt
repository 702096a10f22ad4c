use Rattle.std.proofs.Common.{◌≡◌, ◌≤◌, All, length, take, unsigned_abs}
use Rattle.document_names.specs.FirstTexts.{text_in}
use Rattle.line_split.specs.declared.TheConstants.{MOST_AMOUNT, MOST_CLAIMS}
use Rattle.payee_portions.specs.Held.{held_of}
use Rattle.payee_portions.specs.Shown.{portions_shown}
use Rattle.payee_portions.proofs.held.held_in_turn.Given as goal

-- the portions of the postings so far
abbrev pub invariant-loop-place : goal.invariant-loop-place
invariant-loop-place l = record {
  portions :
      portions_shown l.list.items
      ≡ held_of l.lines.territories.now l.lines.registry.now l.lines.usage.now (text_in l.lines.titles.now) l.reasons l.reason (take l.place l.residue);
  few : length l.list.items ≤ l.place;
  small : All (λ portion. unsigned_abs portion.amount ≤ MOST_AMOUNT) l.list.items;
  room : MOST_CLAIMS ≤ l.claims.room;
}
