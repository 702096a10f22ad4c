use Rattle.std.proofs.Common.{◌≡◌, ℕ, ◌-◌, ◌%◌, ◌^◌, ◌<◌, leb, Bool, true, not, ◌||◌, List, length, get_or, map, replicate, refl, sym, ap, ◌∙◌, subst, arith}
use Rattle.std.proofs.lemmas.Bool.{agree_below, agree_below_at, eqb-true, leb-true, not-true}
use Rattle.std.proofs.lemmas.List.{length-map}
use Rattle.std.proofs.lemmas.List.Sums.{prefix_len_passes}
use Rattle.std.proofs.lemmas.Simd.{get_or-chunk, leading_from_mask_l, length-chunk, map-map, mask_l-mod, zip2_splat}
use Rattle.std.specs.List.{prefix_len}
use lib.Lanes.{chunk, mask_l, top, zip2}
use Rattle.csv_table.specs.declared.forms.TheConstants.{BLOCK}
use Rattle.csv_table.proofs.forms.is_block_printable.Goals as goal

-- Where no lane is set after two operations with one number each, all numbers pass each test that those pass which set no lane.
module _ (h g : ℕ → ℕ → ℕ) (x y : ℕ) (bytes : List ℕ) (long : length bytes ≡ BLOCK)
    (none : mask_l (map (top 7) (zip2 h (zip2 g bytes (replicate BLOCK x)) (replicate BLOCK y))) % 2 ^ 64 ≡ 0) where
  abbrev is_set : ℕ → Bool
  is_set byte = top 7 (h (g byte x) y)

  lanes : zip2 h (zip2 g bytes (replicate BLOCK x)) (replicate BLOCK y) ≡ map (λ byte. h (g byte x) y) bytes
  lanes =
      ap (λ list. zip2 h list (replicate BLOCK y)) (zip2_splat g bytes BLOCK x long)
      ∙ zip2_splat h (map (λ byte. g byte x) bytes) BLOCK y (length-map bytes (λ byte. g byte x) ∙ long)
      ∙ map-map (λ byte. h byte y) (λ byte. g byte x) bytes

  clear : prefix_len (λ byte. not (is_set byte)) bytes ≡ length bytes
  clear =
      let bits = ap (map (top 7)) lanes ∙ map-map (top 7) (λ byte. h (g byte x) y) bytes in
      let mask = ap (λ list. mask_l list % 2 ^ 64) bits ∙ mask_l-mod (map is_set bytes) 64 (omega (arith, long, length-map bytes is_set)) in
      leading_from_mask_l is_set bytes (sym mask ∙ none)

  pass : (test : ℕ → Bool) → agree_below (λ byte. is_set byte || test byte) (λ _. true) 256 ≡ true
      → (k : ℕ) → k < BLOCK → get_or bytes k 0 < 256 → test (get_or bytes k 0) ≡ true
  pass test all k few small =
      let unset = not-true _ (prefix_len_passes (λ byte. not (is_set byte)) bytes k 0 (omega (arith, clear, long, few))) in
      sym (ap (λ set. set || test (get_or bytes k 0)) unset) ∙ agree_below_at (λ byte. is_set byte || test byte) (λ _. true) 256 _ all small

pub returns : goal.returns
returns c none k from to =
    let field = c.args.field.now in
    let at = c.args.at in
    let few : k - at < BLOCK = omega (arith, from, to) in
    let same : get_or (chunk at BLOCK field) (k - at) 0 ≡ get_or field k 0 = get_or-chunk at BLOCK field (k - at) 0 few ∙ ap (λ place. get_or field place 0) (omega (arith, from)) in
    let tested : (test : ℕ → Bool) → _ → test (get_or field k 0) ≡ true = λ test all.
    subst (λ byte. test byte ≡ true) same (pass _ _ 127 161 (chunk at BLOCK field) (length-chunk at BLOCK field c.requires) (eqb-true _ 0 none) test all (k - at) few
    (subst (λ byte. byte < 256) (sym same) (c.type_inv.field k).fits)) in
    (leb-true 32 _ (tested (leb 32) refl), leb-true _ 126 (tested (λ byte. leb byte 126) refl))
