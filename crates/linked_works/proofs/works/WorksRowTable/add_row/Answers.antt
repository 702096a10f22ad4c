use Rattle.std.proofs.Common.{◌≡◌, ◌∙◌, ◌<◌, [], ℕ, List, Contains, Vec, Global, ap, arith, get_or, length, map, refl, subst, sym}
use Rattle.std.proofs.lemmas.List.{get_or_default, get_or-map, length-map}
use Rattle.cwr_share.specs.Fields.{trimmed}
use Rattle.cwr_share.specs.Joined.{qualified}
use Rattle.linked_works.specs.Rows.{Table, key_of, names_by}
use Rattle.linked_works.specs.WorksTable.{HasNumber, HasSubmitter, HasWork, IsLinked, number_field, submitter_field}
use Rattle.linked_works.proofs.LinkRows.{found_key, key_of_linked, linked_key, missing_key}
use Rattle.linked_works.proofs.works.WorksRowTable.add_row.Goals as goal

pub returns-then-contains-clause-fault : goal.returns-then-contains-clause-fault
returns-then-contains-clause-fault c =
    let row = c.args.rows.now.row in
    let kept = c.self.invariant in
    let names = names_by c.self.inside.names.now in
    let whole : length row ≡ 4 = omega (arith, c.len.ensures, c.if-len-ne4.false) in
    let work : HasWork row = rw c.field-work.ensures at (c.is_printable.ensures.0 c.if-not-is_printable.false) in
    let number : HasNumber row = rw (c.trimmed-registration.ensures, c.field-2.ensures) at (c.is_printable-2.ensures.0 c.if-not-is_printable-2.false) in
    let within : c.in-Some.submitter < length names = omega (arith, c.in-Some.ensures.some.0, length-map c.self.inside.names.now (λ (name : Vec ℕ Global). name.items)) in
    let at : get_or names c.in-Some.submitter [] ≡ submitter_field row = c.in-Some.ensures.some.1 ∙ c.field.ensures in
    let named : Contains names (submitter_field row) = (c.in-Some.submitter, within, get_or_default names c.in-Some.submitter (submitter_field row) [] within ∙ at) in
    let inside : c.in-Some.submitter < length c.self.inside.names.now = c.in-Some.ensures.some.0 in
    let slice : c.as_slice.result.now ≡ (get_or c.self.inside.names.now c.in-Some.submitter c.index-self-submitter.result).items = c.as_slice.ensures.value in
    let text : get_or names c.in-Some.submitter [] ≡ (get_or c.self.inside.names.now c.in-Some.submitter c.index-self-submitter.result).items =
    get_or-map (λ (name : Vec ℕ Global). name.items) c.self.inside.names.now c.in-Some.submitter c.index-self-submitter.result [] inside in
    let name : c.as_slice.result.now ≡ submitter_field row = slice ∙ (sym text ∙ at) in
    let key : c.in_ok-key.key ≡ qualified (submitter_field row) (number_field row) =
    c.in_ok-key.ensures ∙ (ap (λ (text : List ℕ). qualified text c.trimmed-registration.result.now) name
    ∙ ap (qualified (submitter_field row)) (c.trimmed-registration.ensures ∙ ap trimmed c.field-2.ensures)) in
    let found = found_key c.self.inside.seen.keys c.as_slice-2.result.now (sym c.contains.ensures ∙ c.if-contains.true) in
    let has = subst (Contains c.self.inside.seen.keys) (c.as_slice-2.ensures ∙ key) found in
    let twice = linked_key names c.self.inside.links.items c.self.inside.seen.keys kept (submitter_field row) (number_field row) named has in (
      refl,
      whole,
      work,
      subst (λ (table : Table). HasSubmitter table.names row) c.self.view_is named,
      number,
      subst (λ (table : Table). IsLinked table.links (submitter_field row) (number_field row)) c.self.view_is twice,
    )

pub add-requires-clause-new : goal.add-requires-clause-new
add-requires-clause-new c =
    let kept = c.self.invariant in
    let missing = missing_key c.self.inside.seen.keys c.as_slice-2.result.now (sym c.contains.ensures ∙ c.if-contains.false) in
    let none : ¬ Contains c.self.inside.seen.keys c.in_ok-key.key = subst (λ (text : List ℕ). ¬ Contains c.self.inside.seen.keys text) c.as_slice-2.ensures missing in
    subst (λ (table : Table). ¬ Contains (map key_of table.links) c.in_ok-key.key) c.self.view_is (subst (λ (keys : List (List ℕ)). ¬ Contains keys c.in_ok-key.key) kept.keys_of none)

pub returns-clause-row : goal.returns-clause-row
returns-clause-row c =
    let row = c.args.rows.now.row in
    let kept = c.self.invariant in
    let names = names_by c.self.inside.names.now in
    let whole : length row ≡ 4 = omega (arith, c.len.ensures, c.if-len-ne4.false) in
    let work : HasWork row = rw c.field-work.ensures at (c.is_printable.ensures.0 c.if-not-is_printable.false) in
    let number : HasNumber row = rw (c.trimmed-registration.ensures, c.field-2.ensures) at (c.is_printable-2.ensures.0 c.if-not-is_printable-2.false) in
    let within : c.in-Some.submitter < length names = omega (arith, c.in-Some.ensures.some.0, length-map c.self.inside.names.now (λ (name : Vec ℕ Global). name.items)) in
    let at : get_or names c.in-Some.submitter [] ≡ submitter_field row = c.in-Some.ensures.some.1 ∙ c.field.ensures in
    let named : Contains names (submitter_field row) = (c.in-Some.submitter, within, get_or_default names c.in-Some.submitter (submitter_field row) [] within ∙ at) in
    let inside : c.in-Some.submitter < length c.self.inside.names.now = c.in-Some.ensures.some.0 in
    let slice : c.as_slice.result.now ≡ (get_or c.self.inside.names.now c.in-Some.submitter c.index-self-submitter.result).items = c.as_slice.ensures.value in
    let text : get_or names c.in-Some.submitter [] ≡ (get_or c.self.inside.names.now c.in-Some.submitter c.index-self-submitter.result).items =
    get_or-map (λ (name : Vec ℕ Global). name.items) c.self.inside.names.now c.in-Some.submitter c.index-self-submitter.result [] inside in
    let name : c.as_slice.result.now ≡ submitter_field row = slice ∙ (sym text ∙ at) in
    let key : c.in_ok-key.key ≡ qualified (submitter_field row) (number_field row) =
    c.in_ok-key.ensures ∙ (ap (λ (text : List ℕ). qualified text c.trimmed-registration.result.now) name
    ∙ ap (qualified (submitter_field row)) (c.trimmed-registration.ensures ∙ ap trimmed c.field-2.ensures)) in
    let missing = missing_key c.self.inside.seen.keys c.as_slice-2.result.now (sym c.contains.ensures ∙ c.if-contains.false) in
    let none : ¬ Contains c.self.inside.seen.keys (qualified (submitter_field row) (number_field row)) =
    subst (λ (text : List ℕ). ¬ Contains c.self.inside.seen.keys text) (c.as_slice-2.ensures ∙ key) missing in
    record {
      whole = whole;
      work = work;
      submitter = subst (λ (table : Table). HasSubmitter table.names row) c.self.view_is named;
      number = number;
      new = subst (λ (table : Table). ¬ IsLinked table.links (submitter_field row) (number_field row)) c.self.view_is
          (λ linked. none (key_of_linked names c.self.inside.links.items c.self.inside.seen.keys kept (submitter_field row) (number_field row) named linked));
    }
