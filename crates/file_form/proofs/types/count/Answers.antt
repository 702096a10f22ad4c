use Rattle.std.proofs.Common.{◌≡◌, ◌∙◌, ◌+◌, ◌++◌, ◌∷◌, [], ℕ, List, None, Some, ap, arith, nat_eq, sym, subst}
use Rattle.std.specs.Map.{lookup}
use Rattle.std.specs.Cmp.Lexicographic.{pointwise}
use Rattle.indexmap.proofs.CallerLemmas.{insert_entry-new}
use Rattle.file_form.proofs.TypeLemmas.{counted_again, counted_first, number_kept}
use Rattle.file_form.proofs.types.count.Goals as goal

pub overflow_add-records : goal.overflow_add-records
overflow_add-records c =
    let (names, are, few) = c.requires in
    let found : lookup (λ other. pointwise nat_eq c.args.name.now other) c.args.types.now.entries ≡ Some c.in-Some.records.now = sym c.in-Some.ensures.value in
    omega (arith, number_kept names c.args.types.now.entries c.args.name.now c.in-Some.records.now are found, few)

pub returns-in-Some : goal.returns-in-Some
returns-in-Some c names are =
    let found : lookup (λ other. pointwise nat_eq c.args.name.now other) c.args.types.now.entries ≡ Some c.in-Some.records.now = sym c.in-Some.ensures.value in
    (c.get_mut.follows.holds (c.in-Some.records.now + 1)).0 ∙ counted_again names c.args.types.now.entries c.args.name.now c.in-Some.records.now are c.in-Some.ensures.unique found

pub returns-in_ok-insert-in-None : goal.returns-in_ok-insert-in-None
returns-in_ok-insert-in-None c names are =
    let kept = c.get_mut.follows.lender-at-none in
    let same : kept.entries ≡ c.args.types.now.entries = ap (λ m. m.entries) c.get_mut.follows.holds-at-none in
    let name = c.args.name.now in
    let key = c.in_ok-of-in-None.field-0 in
    let none : lookup (λ other. pointwise nat_eq name other) c.args.types.now.entries ≡ None = sym c.in-None.ensures.value in
    let absent : lookup (λ other. pointwise nat_eq key other) kept.entries ≡ None =
    subst (λ (k : List ℕ). lookup (λ other. pointwise nat_eq k other) kept.entries ≡ None) (sym c.in_ok-of-in-None.ensures)
    (ap (lookup (λ other. pointwise nat_eq name other)) same ∙ none) in
    c.in_ok-insert-in-None.ensures.entries
    ∙ (insert_entry-new (pointwise nat_eq) kept key 1 absent
    ∙ (ap (λ (l : List (List ℕ × ℕ)). l ++ (key, 1) ∷ []) same
    ∙ (ap (λ (k : List ℕ). c.args.types.now.entries ++ (k, 1) ∷ []) c.in_ok-of-in-None.ensures
    ∙ counted_first names c.args.types.now.entries name are none)))
