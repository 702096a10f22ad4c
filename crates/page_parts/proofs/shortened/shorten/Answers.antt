use Rattle.std.proofs.Common.{◌≡◌, ◌∙◌, ap, arith, drop, length, map, sym, take}
use Rattle.std.proofs.lemmas.List.{length-map, take-map}
use Rattle.std.proofs.lemmas.List.Sorted.{length_permutation}
use Rattle.page_parts.specs.Bars.{row_shown}
use Rattle.page_parts.specs.Shortened.{kept, others_of}
use Rattle.page_parts.proofs.Shortening.{still_countable}
use Rattle.page_parts.proofs.shortened.shorten.Goals as goal

pub sum_from-others-requires-clause-small : goal.sum_from-others-requires-clause-small
sum_from-others-requires-clause-small c =
    rw c.as_slice.ensures.value (still_countable (map row_shown c.args.rows.now.items) (map row_shown c.sort.new.rows.items) c.sort.ensures.same c.requires)

pub returns : goal.returns
returns c =
    let rows = map row_shown c.args.rows.now.items in
    let ordered = map row_shown c.sort.new.rows.items in
    let long : c.len.result ≡ length rows =
    omega (arith, c.sort.new.rows.ok.0, length-map c.sort.new.rows.items row_shown, length_permutation rows ordered c.sort.ensures.same) in
    let end : c.kept_of-end.result ≡ kept c.args.most (length rows) = c.kept_of-end.ensures.is ∙ ap (kept c.args.most) long in record {
      ordered = ordered;
      order = c.sort.ensures;
      shown_are = ap (map row_shown) c.truncate.ensures.items ∙ (sym (take-map row_shown c.kept_of-end.result c.sort.new.rows.items) ∙ (λ i. take (end i) ordered));
      others_are = c.sum_from-others.ensures ∙ (λ i. others_of (drop (end i) (map row_shown (c.as_slice.ensures.value i))));
    }
