use Rattle.std.proofs.Common.{◌≡◌, ◌∙◌, ◌<◌, [], ℕ, List, Vec, Global, ap, arith, get_or, length, nat_eq, sym}
use Rattle.std.proofs.lemmas.List.{get_or-map, length-map}
use Rattle.std.specs.Cmp.Lexicographic.{pointwise}
use Rattle.std.specs.List.{list_any}
use Rattle.cwr_share.specs.Joined.{qualified}
use Rattle.linked_works.specs.Rows.{names_by}
use Rattle.linked_works.proofs.passed_over.is_linked.Goals as goal

-- the name at a place
named : (names : List (Vec ℕ Global)) (place : ℕ) (name : Vec ℕ Global) (text : List ℕ) → place < length names → name ≡ get_or names place name → text ≡ name.items
    → text ≡ get_or (names_by names) place []
named names place name text within at is =
    is ∙ (ap (λ (name : Vec ℕ Global). name.items) at ∙ sym (get_or-map (λ (name : Vec ℕ Global). name.items) names place name [] within))

pub has_key-requires-clause-name : goal.has_key-requires-clause-name
has_key-requires-clause-name c =
    let same = named c.args.names.now c.args.submitter c.index-names-submitter.result c.as_slice.result.now c.requires.known c.index-names-submitter.is c.as_slice.ensures.value in
    rw same (c.requires.submitters c.args.submitter [] (omega (arith, c.requires.known, length-map c.args.names.now (λ (name : Vec ℕ Global). name.items)))).short

pub returns : goal.returns
returns c =
    let same = named c.args.names.now c.args.submitter c.index-names-submitter.result c.as_slice.result.now c.requires.known c.index-names-submitter.is c.as_slice.ensures.value in
    c.has_key.ensures ∙ ap (λ (name : List ℕ). list_any (pointwise nat_eq (qualified name c.args.number.now)) c.args.keys.now.keys) same
