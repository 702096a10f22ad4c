use Rattle.std.proofs.Common.{◌≡◌, ◌≤◌, ◌<◌, ◌+◌, ◌++◌, ◌∷◌, [], ℕ, ℤ, List, All, get_or, pos, rules, subst, sym, take, unsigned_abs}
use Rattle.std.proofs.lemmas.List.{take_all, take_more}
use Rattle.std.proofs.lemmas.List.Elements.{All-push}
use Rattle.line_split.specs.declared.TheConstants.{MOST_AMOUNT}
use Rattle.run_rows.proofs.documents.are_postings.Goals as goal

pub loop-place-preserved : goal.loop-place-preserved
loop-place-preserved c =
    let list = c.args.statement.now in
    let place = c.loop-place.place in
    let none : ℕ × ℤ = (0, pos 0) in
    let posting = get_or list place none in
    let more : take (place + 1) list ≡ take place list ++ posting ∷ [] = take_more list place none c.loop-place-test.true in
    let first : posting.0 < c.args.lines = search rules in
    let small : unsigned_abs posting.1 ≤ MOST_AMOUNT = search rules in (
      subst (λ (l : List (ℕ × ℤ)). All (λ (p : ℕ × ℤ). p.0 < c.args.lines) l) (sym more)
          (All-push (λ (p : ℕ × ℤ). p.0 < c.args.lines) (take place list) posting c.loop-place.invariant.0 first),
      subst (λ (l : List (ℕ × ℤ)). All (λ (p : ℕ × ℤ). unsigned_abs p.1 ≤ MOST_AMOUNT) l) (sym more)
          (All-push (λ (p : ℕ × ℤ). unsigned_abs p.1 ≤ MOST_AMOUNT) (take place list) posting c.loop-place.invariant.1 small),
    )

pub returns-clause-lines : goal.returns-clause-lines
returns-clause-lines c told = rw (take_all c.loop-place.place c.args.statement.now c.loop-place-test.false) at c.loop-place.invariant.0

pub returns-clause-small : goal.returns-clause-small
returns-clause-small c told = rw (take_all c.loop-place.place c.args.statement.now c.loop-place-test.false) at c.loop-place.invariant.1
