use Rattle.std.proofs.Common.{◌≡◌, ◌∙◌, ◌+◌, ◌<◌, ◌++◌, ◌∷◌, [], ℕ, List, IfNone, IfSome, None, Option, Some, true, false, is_some, ap, arith, length, slice_index_or, subst, sym, take}
use Rattle.std.specs.Prelude.{Bool, not}
use Rattle.std.proofs.lemmas.List.{length-take-le, take_more}
use Rattle.cwr_share.specs.PassedOver.{IsTallyOf, has_row, unused_rows}
use Rattle.cwr_share.specs.Payees.{HasRow}
use Rattle.cwr_share.specs.declared.passed_over.Tally.{Tally}
use Rattle.cwr_share.proofs.PassedOverLemmas.{no_row_found, numbers_no, numbers_yes, row_found, tally_few}
use Rattle.cwr_share.proofs.passed_over.unused_payees.Goals.{then-is_none, else-is_none}
use Rattle.cwr_share.proofs.passed_over.unused_payees.Goals as goal

-- what is counted, where these are the parties in force
abbrev counts : List (List ℕ × List ℕ) → List (List ℕ × List ℕ) → List ℕ × List ℕ → Bool
counts payees rows row = not (has_row payees row.0)

none_says : {X P : Type 0} (o : Option X) → is_some o ≡ false → IfNone o P → P
none_says None is says = says
none_says (Some x) is says = cc is

some_says : {X P : Type 0} (Q : X → Type 0) (o : Option X) → is_some o ≡ true → IfSome o (λ x. P × Q x) → P
some_says Q None is says = cc is
some_says Q (Some x) is says = says.0

pub add-requires : goal.add-requires
add-requires c =
    let rows = c.args.payees.now in
    let place = c.loop-place.place in
    omega (arith, tally_few (counts c.args.registry.now.payees) (take place rows) c.loop-place.tally c.loop-place.invariant, length-take-le place rows (omega arith))

pub loop-place-preserved : goal.loop-place-preserved
loop-place-preserved c =
    let payees = c.args.registry.now.payees in
    let rows = c.args.payees.now in
    let place = c.loop-place.place in
    let row : List ℕ × List ℕ = slice_index_or rows place ([], []) in
    let within : place < length rows = omega arith in
    let more : take (place + 1) rows ≡ take place rows ++ row ∷ [] = take_more rows place ([], []) within in
    let long : length (take place rows) ≡ place = length-take-le place rows (omega arith) in
    let party = c.party.ensures ([], []) in
    subst (λ (l : List (List ℕ × List ℕ)). IsTallyOf (unused_rows c.args.registry.now l) c.if-is_none.tally) (sym more)
    (elim c.if-is_none.branch [
      | then-is_none w ↦
          let is = no_row_found payees row.0 (subst (λ (text : List ℕ). ¬ HasRow payees text) party (none_says c.payee_of.result w.if-is_none.ensures c.payee_of.ensures.none)) in
          let numbers = numbers_yes (counts payees) (take place rows) row is ∙ ap (λ (n : ℕ). unused_rows c.args.registry.now (take place rows) ++ (n + 1) ∷ []) long in
          subst (λ (t : Tally). IsTallyOf (unused_rows c.args.registry.now (take place rows ++ row ∷ [])) t) (sym w.tally-is)
          (subst (λ (l : List ℕ). IsTallyOf l w.add.new.self) (sym numbers) (w.add.ensures (unused_rows c.args.registry.now (take place rows)) c.loop-place.invariant))
      | else-is_none w ↦
          let is = row_found payees row.0 (subst (λ (text : List ℕ). HasRow payees text) party (some_says _ c.payee_of.result w.if-is_none.ensures c.payee_of.ensures.some)) in
          subst (λ (t : Tally). IsTallyOf (unused_rows c.args.registry.now (take place rows ++ row ∷ [])) t) (sym w.tally-is)
          (subst (λ (l : List ℕ). IsTallyOf l c.loop-place.tally) (sym (numbers_no (counts payees) (take place rows) row is)) c.loop-place.invariant)
    ])
