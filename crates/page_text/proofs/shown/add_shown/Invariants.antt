use Rattle.std.proofs.Common.{◌≡◌, ◌++◌, All, flat_map, length}
use Rattle.bstr.proofs.lemmas.SpanLemmas.{IsWithin}
use Rattle.page_text.specs.Shown.{shown, shown_span}
use Rattle.page_text.proofs.shown.add_shown.Given as goal

-- the spans that are left lie within the bytes, and what they show is what is left to add
abbrev pub invariant-loop-begin : goal.invariant-loop-begin
invariant-loop-begin l = record {
  within : All (IsWithin (length l.bytes)) l.begin-iterator;
  adds : l.text.items ++ flat_map (shown_span l.bytes) l.begin-iterator ≡ l.initial.text.items ++ shown l.bytes;
}
