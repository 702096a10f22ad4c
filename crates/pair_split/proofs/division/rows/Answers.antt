use mir.Val.{SFits}
use Rattle.std.proofs.Common.{rules, ◌≡◌, ℕ, ℤ, pos, unsigned_abs, w64, ◌+◌, ◌<◌, List, [], ◌++◌, length, map, take, get_or, codes, ap, sym, ◌∙◌, arith}
use Rattle.std.proofs.lemmas.Int.{to_z-of_z}
use Rattle.std.proofs.lemmas.List.{get_or-map, length-map}
use Rattle.std.specs.Prelude.{flat_map, zip, string_bytes}
use Rattle.line_split.specs.FairSplit.{sizes_of}
use Rattle.pair_split.specs.Pair.{party_of, word_at}
use Rattle.pair_split.specs.Rows.{labels_of, row_of}
use Rattle.pair_split.proofs.RowLemmas.{row, rows_more, rows_all, label_at, label_last, length-labels}
use Rattle.pair_split.proofs.division.rows.Goals as goal

-- the size of the portion at a place
size_at : (portions : List (ℕ × ℤ)) (i : ℕ) → i < length portions → (get_or (sizes_of portions) i (0, 0)).1 ≡ unsigned_abs (get_or portions i (0, pos 0)).1
size_at portions i lt = ap (λ (e : ℕ × ℕ). e.1) (get_or-map (λ (p : ℕ × ℤ). (p.0, unsigned_abs p.1)) portions i (0, pos 0) (0, 0) lt)

pub loop-place-preserved : goal.loop-place-preserved
loop-place-preserved c =
    let in_words : c.loop-place.place < length (map string_bytes c.args.words.now) = omega (arith, c.loop-place-test.true, length-map c.args.words.now string_bytes) in
    let in_portions : c.loop-place.place < length c.args.portions.now = omega (arith, c.requires.each, c.loop-place-test.true) in
    let count : length (sizes_of c.args.portions.now) ≡ length c.args.portions.now = length-map c.args.portions.now (λ (p : ℕ × ℤ). (p.0, unsigned_abs p.1)) in
    let size : c.unsigned_abs.result ≡ (get_or (sizes_of c.args.portions.now) c.loop-place.place (0, 0)).1 = let fits : SFits w64 (get_or c.args.portions.now c.loop-place.place (0, pos 0)).1 = search rules in
    c.unsigned_abs.ensures.value ∙ (ap unsigned_abs (to_z-of_z w64 (get_or c.args.portions.now c.loop-place.place (0, pos 0)).1 fits) ∙ sym (size_at c.args.portions.now c.loop-place.place in_portions)) in
    let wrote : c.write_row.new.out.text ≡ c.loop-place.out.text ++ row_of (codes "P") c.party_of-party.result.now (get_or (sizes_of c.args.portions.now) c.loop-place.place (0, 0)).1 =
    c.in_ok-write_row.ensures.row ∙ ap (λ (s : ℕ). c.loop-place.out.text ++ row_of (codes "P") c.party_of-party.result.now s) size in
    let party : c.party_of-party.result.now ≡ party_of (word_at (map string_bytes c.args.words.now) c.loop-place.place) = c.party_of-party.ensures ∙ ap party_of c.word.ensures in
    wrote
    ∙ (ap (λ (text : List ℕ). text ++ row_of (codes "P") c.party_of-party.result.now (get_or (sizes_of c.args.portions.now) c.loop-place.place (0, 0)).1) c.loop-place.invariant
    ∙ (ap (λ (name : List ℕ). flat_map row (take c.loop-place.place (zip (labels_of (map string_bytes c.args.words.now)) (sizes_of c.args.portions.now))) ++ row_of (codes "P") name (get_or (sizes_of c.args.portions.now) c.loop-place.place (0, 0)).1) party
    ∙ rows_more (labels_of (map string_bytes c.args.words.now)) (sizes_of c.args.portions.now) c.loop-place.place (codes "P", party_of (word_at (map string_bytes c.args.words.now) c.loop-place.place))
    (omega (arith, in_words, length-labels (map string_bytes c.args.words.now))) (omega (arith, in_portions, count)) (label_at (map string_bytes c.args.words.now) c.loop-place.place in_words)))

pub returns-in-Ok-clause-text : goal.returns-in-Ok-clause-text
returns-in-Ok-clause-text c =
    let n = length c.args.words.now in
    let all : c.loop-place.place ≡ length c.args.words.now = omega (arith, c.loop-place-test.false, c.loop-place.auto.place-end) in
    let same : length (map string_bytes c.args.words.now) ≡ length c.args.words.now = length-map c.args.words.now string_bytes in
    let in_portions : length c.args.words.now < length c.args.portions.now = omega (arith, c.requires.each) in
    let count : length (sizes_of c.args.portions.now) ≡ length c.args.portions.now = length-map c.args.portions.now (λ (p : ℕ × ℤ). (p.0, unsigned_abs p.1)) in
    let size : c.unsigned_abs-2.result ≡ (get_or (sizes_of c.args.portions.now) (length c.args.words.now) (0, 0)).1 = let fits : SFits w64 (get_or c.args.portions.now (length c.args.words.now) (0, pos 0)).1 = search rules in
    c.unsigned_abs-2.ensures.value ∙ (ap unsigned_abs (to_z-of_z w64 (get_or c.args.portions.now (length c.args.words.now) (0, pos 0)).1 fits) ∙ sym (size_at c.args.portions.now (length c.args.words.now) in_portions)) in
    let wrote : c.write_row-2.new.out.text ≡ c.loop-place.out.text ++ row_of (codes "M") [] (get_or (sizes_of c.args.portions.now) (length c.args.words.now) (0, 0)).1 =
    c.in_ok-write_row-2.ensures.row ∙ ap (λ (s : ℕ). c.loop-place.out.text ++ row_of (codes "M") [] s) size in
    let so_far : c.loop-place.out.text ≡ flat_map row (take (length c.args.words.now) (zip (labels_of (map string_bytes c.args.words.now)) (sizes_of c.args.portions.now))) =
    c.loop-place.invariant ∙ ap (λ (k : ℕ). flat_map row (take k (zip (labels_of (map string_bytes c.args.words.now)) (sizes_of c.args.portions.now)))) all in
    let last : get_or (labels_of (map string_bytes c.args.words.now)) (length c.args.words.now) ([], []) ≡ (codes "M", []) =
    ap (λ (k : ℕ). get_or (labels_of (map string_bytes c.args.words.now)) k ([], [])) (sym same) ∙ label_last (map string_bytes c.args.words.now) in
    c.in-Ok.ensures.text
    ∙ (wrote
    ∙ (ap (λ (text : List ℕ). text ++ row_of (codes "M") [] (get_or (sizes_of c.args.portions.now) (length c.args.words.now) (0, 0)).1) so_far
    ∙ (rows_more (labels_of (map string_bytes c.args.words.now)) (sizes_of c.args.portions.now) (length c.args.words.now) (codes "M", [])
    (omega (arith, same, length-labels (map string_bytes c.args.words.now))) (omega (arith, in_portions, count)) last
    ∙ rows_all (labels_of (map string_bytes c.args.words.now)) (sizes_of c.args.portions.now) (length c.args.words.now + 1) (omega (arith, same, length-labels (map string_bytes c.args.words.now))))))
