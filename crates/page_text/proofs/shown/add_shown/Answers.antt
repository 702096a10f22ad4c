use Rattle.std.proofs.Common.{◌++◌, ◌∙◌, ℕ, ap, flat_map, length, refl, sym, rules}
use Rattle.std.proofs.lemmas.List.Elements.{All-same, All-head, All-rest}
use Rattle.bstr.proofs.lemmas.SpanLemmas.{IsWithin, All-char_spans}
use Rattle.page_text.specs.Shown.{shown_span}
use Rattle.page_text.proofs.Seeing.{plain_shown, span_added}
use Rattle.page_text.proofs.shown.add_shown.Goals as goal

pub loop-begin-init : goal.loop-begin-init
loop-begin-init c =
    let bytes = c.args.bytes.now in
    let spans = c.into_iter-begin-iterator.ensures.into_iter_gives ∙ c.char_indices-begin-items.ensures.value in
    record {
      within = All-same (IsWithin (length bytes)) _ _ spans (All-char_spans bytes);
      adds = ap (λ s. c.args.text.now.items ++ flat_map (shown_span bytes) s) spans;
    }

pub slice_bounds-add_span-count : goal.slice_bounds-add_span-count
slice_bounds-add_span-count c =
    let P = IsWithin (length c.args.bytes.now) in
    (All-head P _ _ (All-same P _ _ (sym c.in-Some.ensures.steps) c.loop-begin.invariant.within)).0

pub slice_bounds-add_span-start : goal.slice_bounds-add_span-start
slice_bounds-add_span-start c =
    let P = IsWithin (length c.args.bytes.now) in
    let first = All-head P _ _ (All-same P _ _ (sym c.in-Some.ensures.steps) c.loop-begin.invariant.within) in
    search rules

pub slice_bounds-add_span-end : goal.slice_bounds-add_span-end
slice_bounds-add_span-end c =
    let P = IsWithin (length c.args.bytes.now) in
    let first = All-head P _ _ (All-same P _ _ (sym c.in-Some.ensures.steps) c.loop-begin.invariant.within) in
    search rules

pub loop-begin-preserved : goal.loop-begin-preserved
loop-begin-preserved c =
    let bytes = c.args.bytes.now in
    let span : ℕ × ℕ × ℕ = (c.in-Some.begin, c.in-Some.end, c.in-Some.character) in
    let steps = c.in-Some.ensures.steps in
    record {
      within = All-rest (IsWithin (length bytes)) _ _ _ steps c.loop-begin.invariant.within;
      adds = rw (c.in_ok-add_span.ensures, c.is_visible.ensures) (span_added bytes c.loop-begin.text.items _ span _ _ steps c.loop-begin.invariant.adds);
    }

pub returns-then-is_plain : goal.returns-then-is_plain
returns-then-is_plain c =
    let same = plain_shown c.args.bytes.now (c.if-is_plain.ensures.0 refl) in
    search rules
